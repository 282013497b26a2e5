-- One law for each way through a function of this crate.
-- Assumes nothing.
use mathlib.Core.Path.{◌≡◌, refl, sym, ◌∙◌, ap, ap₂}
use mathlib.Core.Bool.{true}
use mathlib.Core.List.{List, [], ◌∷◌, ◌++◌, append-nil}
use Prim.Native.Nat.{ℕ, suc, ◌+◌, ◌-◌, ◌/◌, ◌%◌, ◌≤◌, ◌<◌, min}
use native.Mathlib.Nat.{mod-lt}
use native.Mathlib.Decide.{dec_lt}
use native.Mathlib.Omega.{arith}
use lib.ListN.{length, take, drop, set, length-set, length-take, length-append, length-drop, drop_of_length-le}
use lib.Seq.{take_all}
use Rattle.base_prelude.specs.Lists.{overlay}
use Rattle.base_prelude.proofs.Choice.{tests, if_eq-yes, if_eq-no}
use Rattle.base_limits.specs.Width.{bytes_of, data_limit}
use Rattle.base_limits.specs.declared.Width.{Width}
use Rattle.base_limits.specs.declared.Width.TheVariants.{Bits32, Bits16}
use Rattle.base_word.specs.Bytes.{word_bytes}
use Rattle.lex_spelling.specs.Text.{spelled_at, string_at}
use Rattle.lex_spelling.proofs.Loops.{overlay_from, overlay-none, overlay-start, overlay-end, overlay-past, overlay-more}
use Rattle.parse_shapes.specs.Shapes.{operand_count}
use Rattle.parse_lines.specs.Tokens.{token_word}
use Rattle.parse_lines.specs.declared.Span.{Span}
use Rattle.res_data.specs.Sizes.{align_of, fill_of, align_size, size_of, cursor_behind, add_line, next_of, length_in, measure_of, address_of}
use Rattle.res_data.specs.Image.{line_bytes, put_bytes}
use Rattle.res_data.specs.declared.Cursor.{Cursor}
use Rattle.std.specs.Result.{result_unwrap_or}
use Rattle.std.specs.Prelude.{Result, Ok, Err, Option, Some, None}

module _ (w : Width) (t : List ℕ) (u : Span) (c : ℕ) (p : c ≡ operand_count u) where
  pub align-bare : (r : ℕ) → c ≡ 0 → r ≡ bytes_of w → r ≡ align_of w t u
  unfolding align_of
  align-bare r e q = rw (← p) (search tests)

  pub align-told : (r : ℕ) → (c ≡ 0 → ⊥) → r ≡ token_word t (u.word + 1) 3 → r ≡ align_of w t u
  unfolding align_of
  align-told r e q = rw (← p) (search tests)

pub ruleset aligning = (align-bare, align-told)

pub rest-low : (len n : ℕ) → (n ≡ 0 → ⊥) → len % n ≤ n
rest-low len n h = let l : len % n < n = mod-lt len (omega arith) in omega arith

pub size-fills : (w : Width) (t : List ℕ) (u : Span) (section len n r : ℕ) → 2 ≤ section → n ≡ align_of w t u → r ≡ fill_of n len → r ≡ align_size w t u section len
unfolding align_size
size-fills w t u section len n r h p q = rw (← p) (search tests)

data-small : (w : Width) → data_limit w ≤ 32768
data-small Bits32 = omega arith
data-small Bits16 = omega arith

module _ (w : Width) (u : Span) (k more : ℕ) (s : Cursor) (room : ℕ) (p : room ≡ data_limit w - s.size) where
  pub line-full : room < more → Err u.word ≡ add_line w u k more s
  unfolding add_line
  line-full h = rw (← p) (search tests)

  pub line_on_lem : (y : Cursor) → more ≤ room → y ≡ cursor_behind u k more s → Ok (Some y) ≡ add_line w u k more s
  unfolding add_line
  line_on_lem y h q = rw (← p, ← q) (search tests)

  pub line-sum : more ≤ room → s.size < 4294967296 → s.size + more < 4294967296
  line-sum h l = omega (arith, data-small w)

pub ruleset adding = (line-full, line_on_lem)

module _ (w : Width) (t : List ℕ) (end : ℕ) (u : Span) (k : ℕ) (s : Cursor) where
  pub next_edge : k ≡ 0 → Ok None ≡ next_of w t end u k s
  unfolding next_of
  next_edge e = search tests

  pub next-line : (more : ℕ) (r : Result (Option Cursor) ℕ) → (k ≡ 0 → ⊥) → u.word < end → more ≡ size_of w t u k s.section s.size → r ≡ add_line w u k more s
      → r ≡ next_of w t end u k s
  unfolding next_of
  next-line more r e h p q = rw (← p) (search tests)

  pub next-end : (k ≡ 0 → ⊥) → end ≤ u.word → Ok None ≡ next_of w t end u k s
  unfolding next_of
  next-end e h = search tests

pub ruleset nexting = (next_edge, next-line, next-end)

length-of : (m : Result ℕ ℕ) → result_unwrap_or m 0 ≡ length_in m
unfolding length_in
length-of (Ok n) = refl
length-of (Err i) = refl

pub address-is : (w : Width) (t : List ℕ) (word r : ℕ) (m : Result ℕ ℕ) → m ≡ measure_of w t word → r ≡ result_unwrap_or m 0 → r ≡ address_of w t word
unfolding address_of
address-is w t word r m e q = q ∙ length-of m ∙ ap length_in e

-- the loop of `write_number`
pub record Writing (count value : ℕ) (out₀ out : List ℕ) (v k : ℕ) : Type 0 where
  pub long : length out ≡ length out₀
  pub rest : overlay_from k (word_bytes (count - k) v) out ≡ overlay (word_bytes count value) out₀

module _ (count value : ℕ) (out₀ : List ℕ) where
  pub writing_start : Writing count value out₀ out₀ value 0
  writing_start =
      let q : count - 0 ≡ count = omega arith in
      record { long = refl; rest = ap (λ (n : ℕ). overlay_from 0 (word_bytes n value) out₀) q ∙ overlay-start (word_bytes count value) out₀ }

  byte-is : (n v : ℕ) → word_bytes (suc n) v ≡ v % 256 ∷ word_bytes n (v / 256)
  unfolding word_bytes
  byte-is n v = refl

  none_is : (v : ℕ) → word_bytes 0 v ≡ []
  unfolding word_bytes
  none_is v = refl

  module _ (out : List ℕ) (v k : ℕ) (h : Writing count value out₀ out v k) where
    pub writing_more : (n : ℕ) → k < n → n ≡ min count (length out₀) → Writing count value out₀ (set out k (v % 256)) (v / 256) (k + 1)
    writing_more n m d =
        let l : k < length out = omega (arith, h.long) in
        let q : count - k ≡ suc (count - (k + 1)) = omega arith in
        record {
          long = length-set out k (v % 256) ∙ h.long;
          rest = overlay-more k (v % 256) (word_bytes (count - (k + 1)) (v / 256)) out l ∙ ap (λ (x : List ℕ). overlay_from k x out) (sym (ap (λ (n : ℕ). word_bytes n v) q ∙ byte-is (count - (k + 1)) v)) ∙ h.rest;
        }

    writing-done : count ≤ k → out ≡ overlay (word_bytes count value) out₀
    writing-done g =
        let q : count - k ≡ 0 = omega arith in
        sym (overlay-end k out) ∙ ap (λ (x : List ℕ). overlay_from k x out) (sym (ap (λ (n : ℕ). word_bytes n v) q ∙ none_is v)) ∙ h.rest

    writing-full : length out ≤ k → out ≡ overlay (word_bytes count value) out₀
    writing-full l = sym (overlay-past k (word_bytes (count - k) v) out l) ∙ h.rest

    pub writing-end : (n : ℕ) → n ≤ k → n ≡ min count (length out₀) → out ≡ overlay (word_bytes count value) out₀
    writing-end n m d =
        elim (dec_lt k count) [
          | yes g ↦ writing-full (omega (arith, h.long))
          | no g ↦ writing-done (omega arith)
        ]

pub ruleset writing = (writing_start, writing_more, writing-end)

module _ (w : Width) (s t : List ℕ) (u : Span) (k : ℕ) (out : List ℕ) where
  pub line-byte : (v : ℕ) (x : List ℕ) → k ≡ 29 → v ≡ token_word t (u.word + 1) 3 → x ≡ overlay (word_bytes 1 v) out → x ≡ overlay (line_bytes w s t u k) out
  unfolding line_bytes word_bytes
  line-byte v x e p q =
      q ∙ ap (λ (y : ℕ). overlay (y % 256 ∷ []) out) p ∙ ap (λ (y : List ℕ). overlay y out) (sym (if_eq-yes _ _ e))

  pub line_word : (n v : ℕ) (x : List ℕ) → (k ≡ 29 → ⊥) → k ≡ 30 → n ≡ bytes_of w → v ≡ token_word t (u.word + 1) 3 → x ≡ overlay (word_bytes n v) out
      → x ≡ overlay (line_bytes w s t u k) out
  unfolding line_bytes
  line_word n v x d e b p q =
      q ∙ ap₂ (λ (m y : ℕ). overlay (word_bytes m y) out) b p ∙ ap (λ (y : List ℕ). overlay y out) (sym (if_eq-no _ _ d ∙ if_eq-yes _ _ e))

  pub line-text : (f : ℕ) (x : List ℕ) → (k ≡ 29 → ⊥) → (k ≡ 30 → ⊥) → k ≡ 31 → f ≡ token_word t (u.word + 1) 1 → x ≡ overlay (spelled_at true s (f + 1)).bytes out
      → x ≡ overlay (line_bytes w s t u k) out
  unfolding line_bytes string_at
  line-text f x c d e p q =
      q ∙ ap (λ (y : ℕ). overlay (spelled_at true s (y + 1)).bytes out) p
      ∙ ap (λ (y : List ℕ). overlay y out) (sym (if_eq-no _ _ c ∙ if_eq-no _ _ d ∙ if_eq-yes _ _ e))

  pub line-none : (k ≡ 29 → ⊥) → (k ≡ 30 → ⊥) → (k ≡ 31 → ⊥) → out ≡ overlay (line_bytes w s t u k) out
  unfolding line_bytes
  line-none c d e =
      sym (overlay-none out) ∙ ap (λ (y : List ℕ). overlay y out) (sym (if_eq-no _ _ c ∙ if_eq-no _ _ d ∙ if_eq-no _ _ e))

pub ruleset lining = (line-byte, line_word, line-text, line-none)

-- a part of the buffer from a place on, written and back
module _ (out : List ℕ) (size : ℕ) (bytes : List ℕ) where
  pub put-past : length out ≤ size → out ≡ put_bytes out size bytes
  unfolding put_bytes
  put-past h = sym (overlay-past size bytes out h)

  pub put-part : (x : List ℕ) → size < length out → x ≡ overlay bytes (take (length out - size) (drop size out))
      → take size out ++ (x ++ drop (length out - size) (drop size out)) ≡ put_bytes out size bytes
  unfolding put_bytes
  put-part x h e =
      ap (λ (y : List ℕ). take size out ++ (x ++ y)) (drop_of_length-le (drop size out) {i = length out - size} (omega (arith, length-drop size out)))
      ∙ ap (λ (y : List ℕ). take size out ++ y) (append-nil x ∙ e ∙ ap (overlay bytes) (take_all (length out - size) (drop size out) (omega (arith, length-drop size out))))

-- a buffer keeps its length
pub overlay-long : (xs out : List ℕ) → length (overlay xs out) ≡ length out
unfolding overlay
overlay-long xs out =
    omega (arith, length-take (length out) (xs ++ drop (length xs) out), length-append xs (drop (length xs) out), length-drop (length xs) out)

pub put-long : (out : List ℕ) (size : ℕ) (bytes : List ℕ) → length (put_bytes out size bytes) ≡ length out
unfolding put_bytes
put-long out size bytes =
    omega (arith, length-append (take size out) (overlay bytes (drop size out)), overlay-long bytes (drop size out), length-take size out, length-drop size out)

pub ruleset putting = (put-past, put-part)
