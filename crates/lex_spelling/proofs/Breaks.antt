-- An escape is bad exactly when a byte breaks it, and its place is that byte, the only one that does.
-- Assumes nothing.
use mathlib.Core.Path.{◌≡◌, refl, sym, ◌∙◌, ap}
use mathlib.Core.Bool.{Bool, true, false}
use mathlib.Core.List.{List, [], ◌∷◌}
use mathlib.Core.Logic.{◌⊎◌, inl, inr, ⊎_elim}
use Prim.Native.Nat.{ℕ, zero, suc, ◌+◌, ◌-◌, ◌≤◌, ◌<◌}
use native.Mathlib.Nat.{le_of_suc-le-suc, not-suc-le-zero}
use native.Mathlib.Decide.{dec_lt}
use native.Mathlib.Omega.{arith}
use borrow.Author.Tests.{lt-ltb, le-ltb, ne_eqb}
use lib.Dec.{T, ltb}
use lib.ListN.{length}
use Rattle.base_prelude.specs.Choice.{pick, if_lt, if_eq, if_true}
use Rattle.base_prelude.specs.Bytes.{byte_at}
use Rattle.base_prelude.specs.Lists.{is_among}
use Rattle.base_prelude.proofs.Choice.{either, either-eq, either_true, true-false, if_true-yes}
use Rattle.base_prelude.proofs.Bytes.{byte-within}
use Rattle.base_prelude.proofs.Table.{under, agree, low, among-by}
use Rattle.lex_spelling.specs.Escape.{hex_of, plain_of, bad_place, plain_at, hex_at, hex_from, escape_at}
use Rattle.lex_spelling.specs.Breaks.{Pattern, hex_digits, short_bytes, patterns, begins, goes_on, some_pattern, escape_begins, escape_goes_on, bytes_from, Breaks}
use Rattle.std.proofs.Common.{Result, Ok, Err}
use Rattle.lex_spelling.specs.declared.Decoded.{Decoded}
use Rattle.lex_spelling.proofs.Ahead.{hex-byte, plain_byte, bad-in}

-- ---- the lists of bytes say what the tests of specs/Escape say

-- a list that agrees with a test below 256, where only bytes pass the test
module _ (value : ℕ → ℕ) (m : ℕ) (xs : List ℕ) (t : T (under (λ k. agree (is_among k xs) (ltb (value k) m)) 256)) (l : T (low 256 xs))
    (byte : (c : ℕ) → value c < m → c < 256) where
  listed : (c : ℕ) → ltb (value c) m ≡ is_among c xs
  listed c = among-by 256 (λ k. ltb (value k) m) xs t l (λ k h. le-ltb (value k) m (past k h)) c
    where
      past : (k : ℕ) → 256 ≤ k → m ≤ value k
      past k h = elim (dec_lt (value k) m) [ yes g ↦ let z : ⊥ = omega (arith, byte k g) in absurd z | no g ↦ omega arith ]

  listed-yes : (c : ℕ) → value c < m → is_among c xs ≡ true
  listed-yes c h = sym (listed c) ∙ lt-ltb (value c) m h

  listed-no : (c : ℕ) → m ≤ value c → is_among c xs ≡ false
  listed-no c h = sym (listed c) ∙ le-ltb (value c) m h

hex-agree : T (under (λ k. agree (is_among k hex_digits) (ltb (hex_of k) 16)) 256)
unfolding is_among hex_digits hex_of if_lt
hex-agree = tt

hex-low : T (low 256 hex_digits)
unfolding hex_digits
hex-low = tt

hex-yes : (c : ℕ) → hex_of c < 16 → is_among c hex_digits ≡ true
hex-yes = listed-yes hex_of 16 hex_digits hex-agree hex-low hex-byte

hex-no : (c : ℕ) → 16 ≤ hex_of c → is_among c hex_digits ≡ false
hex-no = listed-no hex_of 16 hex_digits hex-agree hex-low hex-byte

short-agree : T (under (λ k. agree (is_among k short_bytes) (ltb (plain_of k) 256)) 256)
unfolding is_among short_bytes plain_of if_eq
short-agree = tt

short-low : T (low 256 short_bytes)
unfolding short_bytes
short-low = tt

short-yes : (c : ℕ) → plain_of c < 256 → is_among c short_bytes ≡ true
short-yes = listed-yes plain_of 256 short_bytes short-agree short-low plain_byte

short-no : (c : ℕ) → 256 ≤ plain_of c → is_among c short_bytes ≡ false
short-no = listed-no plain_of 256 short_bytes short-agree short-low plain_byte

slash-is : is_among 92 (92 ∷ []) ≡ true
unfolding is_among
slash-is = refl

x-is : is_among 120 (120 ∷ []) ≡ true
unfolding is_among
x-is = refl

x-not-short : is_among 120 short_bytes ≡ false
unfolding is_among short_bytes
x-not-short = refl

not-x : (c : ℕ) → (c ≡ 120 → ⊥) → is_among c (120 ∷ []) ≡ false
unfolding is_among
not-x c h = ap (λ (b : Bool). pick b true false) (ne_eqb c 120 h)

-- ---- which bytes begin an escape

one-goes : escape_goes_on (92 ∷ []) ≡ true
unfolding some_pattern goes_on patterns if_true
one-goes = rw slash-is

module _ (c : ℕ) (n : c ≡ 120 → ⊥) where
  short-broken : 256 ≤ plain_of c → escape_begins (92 ∷ c ∷ []) ≡ false
  unfolding some_pattern begins patterns if_true
  short-broken h = rw (slash-is, short-no c h, not-x c n)

  short-begins : plain_of c < 256 → escape_begins (92 ∷ c ∷ []) ≡ true
  unfolding some_pattern begins patterns if_true
  short-begins h = rw (slash-is, short-yes c h)

  short-ends : (bs : List ℕ) → plain_of c < 256 → escape_goes_on (92 ∷ c ∷ bs) ≡ false
  unfolding some_pattern goes_on patterns if_true
  short-ends bs h = rw (slash-is, short-yes c h, not-x c n)

x-goes : escape_goes_on (92 ∷ 120 ∷ []) ≡ true
unfolding some_pattern goes_on patterns if_true
x-goes = rw (slash-is, x-not-short, x-is)

x-begins : escape_begins (92 ∷ 120 ∷ []) ≡ true
unfolding some_pattern begins patterns if_true
x-begins = rw (slash-is, x-not-short, x-is)

module _ (a : ℕ) where
  first-broken : 16 ≤ hex_of a → escape_begins (92 ∷ 120 ∷ a ∷ []) ≡ false
  unfolding some_pattern begins patterns if_true
  first-broken h = rw (slash-is, x-not-short, x-is, hex-no a h)

  module _ (g : hex_of a < 16) where
    first_goes : escape_goes_on (92 ∷ 120 ∷ a ∷ []) ≡ true
    unfolding some_pattern goes_on patterns if_true
    first_goes = rw (slash-is, x-not-short, x-is, hex-yes a g)

    first-begins : escape_begins (92 ∷ 120 ∷ a ∷ []) ≡ true
    unfolding some_pattern begins patterns if_true
    first-begins = rw (slash-is, x-not-short, x-is, hex-yes a g)

    second-broken : (b : ℕ) → 16 ≤ hex_of b → escape_begins (92 ∷ 120 ∷ a ∷ b ∷ []) ≡ false
    unfolding some_pattern begins patterns if_true
    second-broken b h = rw (slash-is, x-not-short, x-is, hex-yes a g, hex-no b h)

    second-begins : (b : ℕ) → hex_of b < 16 → escape_begins (92 ∷ 120 ∷ a ∷ b ∷ []) ≡ true
    unfolding some_pattern begins patterns if_true
    second-begins b h = rw (slash-is, x-not-short, x-is, hex-yes a g, hex-yes b h)

    second-ends : (b : ℕ) (bs : List ℕ) → hex_of b < 16 → escape_goes_on (92 ∷ 120 ∷ a ∷ b ∷ bs) ≡ false
    unfolding some_pattern goes_on patterns if_true
    second-ends b bs h = rw (slash-is, x-not-short, x-is, hex-yes a g, hex-yes b h)

-- ---- only one byte breaks an escape

-- a pattern that goes on behind some bytes has begun with each part of them
begun-part : (f : Pattern) (n k : ℕ) (s : List ℕ) (at : ℕ) → n ≤ k → goes_on f (bytes_from k s at) ≡ true → begins f (bytes_from n s at) ≡ true
unfolding goes_on begins bytes_from
begun-part f zero k s at l h = refl
begun-part f (suc n) zero s at l h = absurd (not-suc-le-zero l)
begun-part [] (suc n) (suc k) s at l h = true-false (sym h)
begun-part (bytes ∷ f) (suc n) (suc k) s at l h =
    either_true (λ (b : Bool). b ≡ true → if_true (is_among (byte_at s at) bytes) (begins f (bytes_from n s (at + 1))) false ≡ true) (is_among (byte_at s at) bytes) _ _
    (λ e g. if_true-yes _ _ e ∙ begun-part f n k s (at + 1) (le_of_suc-le-suc l) g)
    (λ _ g. true-false (sym g))
    h

some_pattern_lem : (p q : Pattern → Bool) (fs : List Pattern) → ((f : Pattern) → p f ≡ true → q f ≡ true) → some_pattern p fs ≡ true → some_pattern q fs ≡ true
unfolding some_pattern
some_pattern_lem p q [] h e = e
some_pattern_lem p q (f ∷ fs) h e =
    either_true (λ (b : Bool). b ≡ true → if_true (q f) true (some_pattern q fs) ≡ true) (p f) _ _
    (λ g _. if_true-yes _ _ (h f g))
    (λ _ g. either_true (λ (b : Bool). b ≡ true) (q f) _ _ (λ _. refl) (λ _. some_pattern_lem p q fs h g))
    e

module _ (s : List ℕ) (at : ℕ) where
  -- bytes that an escape breaks behind have begun none
  not-before : (p q : ℕ) → Breaks s at p → Breaks s at q → p < q → ⊥
  not-before p q b d l =
      true-false (sym (some_pattern_lem (λ f. goes_on f (bytes_from (q - at) s at)) (λ f. begins f (bytes_from (suc (p - at)) s at)) patterns
      (λ f. begun-part f (suc (p - at)) (q - at) s at (omega (arith, b.behind))) d.begun) ∙ b.broken)

  pub breaks-once : (p q : ℕ) → Breaks s at p → Breaks s at q → p ≡ q
  breaks-once p q b d =
      elim (dec_lt p q) [
        | yes l ↦ absurd (not-before p q b d l)
        | no l ↦ elim (dec_lt q p) [ yes g ↦ absurd (not-before q p d b g) | no g ↦ omega arith ]
      ]

  -- ---- bad exactly where it breaks

  abbrev pub EscapeSound : Result Decoded ℕ → Type 0
  EscapeSound (Ok x) = (p : ℕ) → Breaks s at p → ⊥
  EscapeSound (Err place) = Breaks s at place

  module _ (e : byte_at s at ≡ 92) where
    here : at < length s
    here = byte-within s at (omega arith)

    more : (n i c : ℕ) → byte_at s i ≡ c → bytes_from (suc n) s i ≡ c ∷ bytes_from n s (i + 1)
    unfolding bytes_from
    more n i c q = ap (λ (b : ℕ). b ∷ bytes_from n s (i + 1)) q

    from_one : (n : ℕ) → bytes_from (suc n) s at ≡ 92 ∷ bytes_from n s (at + 1)
    from_one n = more n at 92 e

    from-two : (n c : ℕ) → byte_at s (at + 1) ≡ c → bytes_from (suc (suc n)) s at ≡ 92 ∷ c ∷ bytes_from n s (at + 2)
    from-two n c q =
        let z : at + 1 + 1 ≡ at + 2 = omega arith in
        from_one (suc n) ∙ ap (λ (bs : List ℕ). 92 ∷ bs) (more n (at + 1) c q) ∙ ap (λ (i : ℕ). 92 ∷ c ∷ bytes_from n s i) z

    from-three : (n c a : ℕ) → byte_at s (at + 1) ≡ c → byte_at s (at + 2) ≡ a → bytes_from (suc (suc (suc n))) s at ≡ 92 ∷ c ∷ a ∷ bytes_from n s (at + 3)
    from-three n c a q r =
        let z : at + 2 + 1 ≡ at + 3 = omega arith in
        from-two (suc n) c q ∙ ap (λ (bs : List ℕ). 92 ∷ c ∷ bs) (more n (at + 2) a r) ∙ ap (λ (i : ℕ). 92 ∷ c ∷ a ∷ bytes_from n s i) z

    from-four : (n c a b : ℕ) → byte_at s (at + 1) ≡ c → byte_at s (at + 2) ≡ a → byte_at s (at + 3) ≡ b
        → bytes_from (suc (suc (suc (suc n)))) s at ≡ 92 ∷ c ∷ a ∷ b ∷ bytes_from n s (at + 4)
    from-four n c a b q r t =
        let z : at + 3 + 1 ≡ at + 4 = omega arith in
        from-three (suc n) c a q r ∙ ap (λ (bs : List ℕ). 92 ∷ c ∷ a ∷ bs) (more n (at + 3) b t) ∙ ap (λ (i : ℕ). 92 ∷ c ∷ a ∷ b ∷ bytes_from n s i) z

    -- an escape that breaks behind n bytes
    breaks-behind : (n : ℕ) (bs cs : List ℕ) → bad_place at n ≤ length s → bytes_from (suc n) s at ≡ bs → bytes_from (suc (suc n)) s at ≡ cs
        → escape_goes_on bs ≡ true → escape_begins cs ≡ false → Breaks s at (bad_place at n)
    unfolding bad_place
    breaks-behind n bs cs w f g h k =
        let z : at + 1 + n - at ≡ suc n = omega arith in
        record {
          behind = omega arith;
          within = w;
          begun = ap (λ (m : ℕ). escape_goes_on (bytes_from m s at)) z ∙ ap escape_goes_on f ∙ h;
          broken = ap (λ (m : ℕ). escape_begins (bytes_from (suc m) s at)) z ∙ ap escape_begins g ∙ k;
        }

    -- none breaks behind n bytes: an escape has begun with one more, or none goes on behind them
    abbrev Unbreaking : ℕ → Type 0
    Unbreaking n = (escape_begins (bytes_from (suc n) s at) ≡ true) ⊎ (escape_goes_on (bytes_from n s at) ≡ false)

    none-breaks : ((n : ℕ) → Unbreaking (suc n)) → (p : ℕ) → Breaks s at p → ⊥
    none-breaks h p b = by (p - at) refl
      where
        by : (n : ℕ) → p - at ≡ n → ⊥
        by zero q = let z : ⊥ = omega (arith, b.behind) in z
        by (suc n) q =
            ⊎_elim
            (λ f. true-false (sym (ap (λ (m : ℕ). escape_begins (bytes_from (suc m) s at)) q ∙ f) ∙ b.broken))
            (λ f. true-false (sym b.begun ∙ ap (λ (m : ℕ). escape_goes_on (bytes_from m s at)) q ∙ f))
            (h n)

    module _ (n : byte_at s (at + 1) ≡ 120 → ⊥) where
      short-holds : plain_of (byte_at s (at + 1)) < 256 → (k : ℕ) → Unbreaking (suc k)
      unfolding bytes_from
      short-holds h zero = inl (ap escape_begins (from-two zero _ refl) ∙ short-begins _ n h)
      short-holds h (suc k) = inr (ap escape_goes_on (from-two k _ refl) ∙ short-ends _ n _ h)

      plain-sound : EscapeSound (plain_at at (plain_of (byte_at s (at + 1))))
      unfolding plain_at bytes_from
      plain-sound =
          either EscapeSound (plain_of (byte_at s (at + 1))) 256 _ _
          (λ h. none-breaks (short-holds h))
          (λ h. breaks-behind 0 _ _ (bad-in s at 0 (omega (arith, here))).1 (from_one 0) (from-two 0 _ refl) one-goes (short-broken _ n h))

    module _ (x : byte_at s (at + 1) ≡ 120) where
      hex-holds : hex_of (byte_at s (at + 2)) < 16 → hex_of (byte_at s (at + 3)) < 16 → (k : ℕ) → Unbreaking (suc k)
      unfolding bytes_from
      hex-holds h g zero = inl (ap escape_begins (from-two zero 120 x) ∙ x-begins)
      hex-holds h g (suc zero) = inl (ap escape_begins (from-three zero 120 _ x refl) ∙ first-begins _ h)
      hex-holds h g (suc (suc zero)) = inl (ap escape_begins (from-four zero 120 _ _ x refl refl) ∙ second-begins _ h _ g)
      hex-holds h g (suc (suc (suc k))) = inr (ap escape_goes_on (from-four k 120 _ _ x refl refl) ∙ second-ends _ h _ _ g)

      hex-sound : EscapeSound (hex_from s at)
      unfolding hex_from hex_at bytes_from
      hex-sound =
          either EscapeSound (hex_of (byte_at s (at + 2))) 16 _ _
          (λ h. either EscapeSound (hex_of (byte_at s (at + 3))) 16 _ _
          (λ g. none-breaks (hex-holds h g))
          (λ g. breaks-behind 2 _ _ (bad-in s at 2 (byte-within s (at + 2) (hex-byte _ h))).1 (from-three 0 120 _ x refl) (from-four 0 120 _ _ x refl refl)
          (first_goes _ h) (second-broken _ h _ g)))
          (λ h. breaks-behind 1 _ _ (bad-in s at 1 (byte-within s (at + 1) (omega arith))).1 (from-two 0 120 x) (from-three 0 120 _ x refl) x-goes (first-broken _ h))

    -- "For refusal 3 the place becomes the first byte that breaks the escape (the source's length if it ends there)"
    pub escape-sound : EscapeSound (escape_at s at)
    unfolding escape_at
    escape-sound =
        either-eq EscapeSound (byte_at s (at + 1)) 120 _ _ (λ x. hex-sound x) (λ n. plain-sound n)
