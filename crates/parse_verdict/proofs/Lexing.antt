-- A source is lexed to tokens exactly when it is not too long and no token has a fault; else the refusal is the least fault.
-- Assumes nothing.
use mathlib.Core.Path.{◌≡◌, refl, sym, ◌∙◌, ap, subst}
use mathlib.Core.Bool.{Bool, true, false}
use mathlib.Core.List.{List, [], ◌∷◌, ◌++◌}
use mathlib.Core.Logic.{◌⊎◌, inl, inr, ⊎_elim}
use Prim.Native.Nat.{ℕ, zero, suc, ◌+◌, ◌*◌, ◌-◌, ◌≤◌, ◌<◌, min}
use native.Mathlib.Nat.{min-eq_left, min-eq_right, le_of_suc-le-suc, not-suc-le-zero}
use native.Mathlib.Decide.{dec_lt}
use native.Mathlib.Omega.{arith}
use lib.ListN.{length}
use Rattle.base_prelude.specs.Choice.{if_lt, if_true}
use Rattle.base_prelude.specs.Bytes.{byte_at}
use Rattle.base_prelude.specs.Fault.{none, key, least_of}
use Rattle.base_prelude.specs.Walk.{Step, go, stop, walk}
use Rattle.base_prelude.proofs.Choice.{either, either_true, if_lt-yes, if_lt-no}
use Rattle.base_prelude.proofs.Keys.{key-is, key-fault}
use Rattle.base_prelude.proofs.Walk.{walk-go, walk-stop}
use Rattle.base_limits.specs.declared.Width.{Width}
use Rattle.lex_spelling.specs.Classes.{is_separator}
use Rattle.lex_lexeme.specs.Gap.{gap_end}
use Rattle.lex_lexeme.specs.Reading.{Reading, is_named, next_read}
use Rattle.lex_lexeme.specs.declared.Lexeme.{Lexeme}
use Rattle.lex_lexeme.specs.declared.TokenError.{TokenError}
use Rattle.lex_lexeme.specs.declared.TokenError.TheVariants.{Lone, Broken, Open}
use Rattle.lex_lexeme.proofs.Gaps.{gap-in}
use Rattle.lex_lexeme.proofs.Within.{LexemeIn, ReadingIn, next-in}
use Rattle.lex_source.specs.Token.{Token, token_of}
use Rattle.lex_source.specs.Faults.{range_fault, length_fault, limit_fault, follow_fault, fault_of}
use Rattle.lex_source.specs.Lex.{State, state, Outcome, accepted, refused, token_step, read_step, lex_step, tokens_from, lex_of}
use Rattle.lex_source.proofs.Least.{lone-fault, broken-fault, open-fault, fault-end, fault-lone, fault-broken, fault-open, fault-whole}
use Rattle.parse_verdict.specs.Verdict.{All, Clean}
use Rattle.parse_verdict.specs.Lexing.{faults_behind, token_faults, lex_faults, lex_key}
use Rattle.parse_verdict.proofs.Decided.{least-none, none-all}
use Rattle.std.proofs.Common.{Option, Some, None, Result, Ok, Err}
use Rattle.std.specs.Prelude.{is_some}

not-refused : (k : ℕ) (ts : List Token) → refused k ≡ accepted ts → ⊥
not-refused k ts e = let z : ◌≡◌ {A = ℕ} 0 1 = cc in omega arith

module _ (w : Width) (s : List ℕ) where
  -- what is read from a state, and its fault
  abbrev pub read_in : State → Reading
  read_in q = next_read w s q.at

  abbrev pub fault_in : State → ℕ
  fault_in q = fault_of s (length q.tokens) (next_read w s q.at)

  pub step-fault : (q : State) → fault_in q < none → lex_step w s q ≡ stop (refused (fault_in q))
  unfolding lex_step read_step
  step-fault q h = if_lt-yes _ _ h

  pub step-fine : (q : State) → none ≤ fault_in q → lex_step w s q ≡ token_step w s q (read_in q)
  unfolding lex_step read_step
  step-fine q h = if_lt-no _ _ h

  -- an accepted source has no fault
  lexed-from : (k : ℕ) (q : State) (ts : List Token) → walk (lex_step w s) (refused none) k q ≡ accepted ts → Clean (token_faults k w s q)
  unfolding token_faults
  lexed-from zero q ts e = tt
  lexed-from (suc k) q ts e =
      elim (dec_lt (fault_in q) none) [
        | yes h ↦ absurd (not-refused (fault_in q) ts (sym (walk-stop (lex_step w s) (refused none) k q _ (step-fault q h)) ∙ e))
        | no h ↦ let l : none ≤ fault_in q = omega arith in (l, by (token_step w s q (read_in q)) (step-fine q l) (λ y. lexed-from k y ts))
      ]
    where
      by : (x : Step State Outcome) → lex_step w s q ≡ x → ((y : State) → walk (lex_step w s) (refused none) k y ≡ accepted ts → Clean (token_faults k w s y))
          → Clean (faults_behind x (λ (y : State). token_faults k w s y))
      by (go y) p f = f y (sym (walk-go (lex_step w s) (refused none) k q y p) ∙ e)
      by (stop r) p f = tt

  -- a token ends behind where its reading began, and within the source
  whole-ahead : (q : State) (x : Lexeme) → read_in q ≡ Ok (Some x) → (q.at < x.next) × (x.next ≤ length s)
  whole-ahead q x e =
      let i : LexemeIn s (gap_end s q.at) x = subst (ReadingIn s (gap_end s q.at)) e (next-in w s q.at) in
      (omega (arith, (gap-in s q.at).0.0, i.ahead), i.within)

  -- a source without a fault is accepted
  fine-from : (k : ℕ) (q : State) → length s - q.at < k → Clean (token_faults k w s q) → (ts : List Token) × (walk (lex_step w s) (refused none) k q ≡ accepted ts)
  unfolding token_faults token_step
  fine-from zero q l h = absurd (not-suc-le-zero l)
  fine-from (suc k) q l h = by (read_in q) refl h.1 (λ y. fine-from k y)
    where
      fault-of : (r : Reading) → read_in q ≡ r → none ≤ fault_of s (length q.tokens) r
      fault-of r e = subst (λ (r : Reading). none ≤ fault_of s (length q.tokens) r) e h.0

      leads : (r : Reading) → read_in q ≡ r → lex_step w s q ≡ token_step w s q r
      leads r e = step-fine q h.0 ∙ ap (token_step w s q) e

      by : (r : Reading) → read_in q ≡ r → Clean (faults_behind (token_step w s q (read_in q)) (λ (y : State). token_faults k w s y))
          → ((y : State) → length s - y.at < k → Clean (token_faults k w s y) → (ts : List Token) × (walk (lex_step w s) (refused none) k y ≡ accepted ts))
          → (ts : List Token) × (walk (lex_step w s) (refused none) (suc k) q ≡ accepted ts)
      by (Ok None) e g f = (q.tokens, walk-stop (lex_step w s) (refused none) k q _ (leads (Ok None) e))
      by (Err (Lone p)) e g f = let z : ⊥ = omega (arith, fault-of (Err (Lone p)) e, lone-fault s (length q.tokens) p) in absurd z
      by (Err (Broken p)) e g f = let z : ⊥ = omega (arith, fault-of (Err (Broken p)) e, broken-fault s (length q.tokens) p) in absurd z
      by (Err (Open p)) e g f = let z : ⊥ = omega (arith, fault-of (Err (Open p)) e, open-fault s (length q.tokens) p) in absurd z
      by (Ok (Some x)) e g f =
          let a = whole-ahead q x e in
          let c = subst (λ (r : Reading). Clean (faults_behind (token_step w s q r) (λ (y : State). token_faults k w s y))) e g in
          let r = f _ (omega (arith, a.0, a.1)) c in
          (r.0, walk-go (lex_step w s) (refused none) k q _ (leads (Ok (Some x)) e) ∙ r.1)

-- "You accept a source exactly when it breaks none of the listed rules": 1, and 2 to 6 with 14 for tokens
pub lexed-fine : (w : Width) (s : List ℕ) (ts : List Token) → lex_of w s ≡ accepted ts → (length s ≤ 16384) × Clean (lex_faults w s)
unfolding lex_of tokens_from lex_faults
lexed-fine w s ts e =
    elim (dec_lt 16384 (length s)) [
      | yes h ↦ absurd (not-refused (key 16384 1) ts (sym (if_lt-yes (refused (key 16384 1)) _ h) ∙ e))
      | no h ↦ let l : length s ≤ 16384 = omega arith in (l, lexed-from w s (suc (length s)) (state 0 []) ts (sym (if_lt-no (refused (key 16384 1)) _ l) ∙ e))
    ]

pub fine-lexed : (w : Width) (s : List ℕ) → length s ≤ 16384 → Clean (lex_faults w s) → (ts : List Token) × (lex_of w s ≡ accepted ts)
unfolding lex_of tokens_from lex_faults
fine-lexed w s l h =
    let r = fine-from w s (suc (length s)) (state 0 []) (omega arith) h in
    (r.0, if_lt-no _ _ l ∙ r.1)

-- 1: "source too long: 16,384"
pub long-refused : (w : Width) (s : List ℕ) → 16384 < length s → lex_of w s ≡ refused (key 16384 1)
unfolding lex_of
long-refused w s h = if_lt-yes _ _ h

-- ---- a refusal is the least fault

-- not before the place a, and where it is a fault not behind 2 at the place b
abbrev Spans : ℕ → ℕ → ℕ → Type 0
Spans a b k = (a * 64 + 2 ≤ k) × (k < none → k ≤ b * 64 + 2)

spans-none : (a b : ℕ) → a ≤ 16384 → Spans a b none
spans-none a b h = (omega arith, λ l. let z : ⊥ = omega arith in absurd z)

spans-key : (a b p m : ℕ) → a ≤ p → p ≤ 16384 → 2 ≤ m → p * 64 + m ≤ b * 64 + 2 → Spans a b (key p m)
spans-key a b p m h l g o = let e : key p m ≡ p * 64 + m = key-is p m (omega arith) in (omega arith, λ _. omega arith)

-- what holds of two holds of the lesser
pub min-keeps : (P : ℕ → Type 0) (j k : ℕ) → P j → P k → P (min j k)
min-keeps P j k f g =
    elim (dec_lt j k) [
      | yes h ↦ subst P (sym (min-eq_left (let z : j ≤ k = omega arith in z))) f
      | no h ↦ subst P (sym (min-eq_right (let z : k ≤ j = omega arith in z))) g
    ]

module _ (s : List ℕ) (n : ℕ) (x : Lexeme) (o : x.first < x.next) (l : x.next ≤ 16384) where
  range-spans : Spans x.first x.next (range_fault x)
  unfolding range_fault
  range-spans =
      either_true (Spans x.first x.next) (is_some x.value) _ _ (λ _. spans-none _ _ (omega arith)) (λ _. spans-key _ _ x.first 5 (omega arith) (omega arith) (omega arith) (omega arith))

  length-spans : Spans x.first x.next (length_fault x)
  unfolding length_fault
  length-spans =
      either_true (Spans x.first x.next) (is_named x.kind) _ _
      (λ _. either (Spans x.first x.next) 64 x.size _ _ (λ _. spans-key _ _ x.first 6 (omega arith) (omega arith) (omega arith) (omega arith)) (λ _. spans-none _ _ (omega arith)))
      (λ _. spans-none _ _ (omega arith))

  limit-spans : Spans x.first x.next (limit_fault n x.first)
  unfolding limit_fault
  limit-spans =
      either (Spans x.first x.next) n 4096 _ _ (λ _. spans-none _ _ (omega arith)) (λ _. spans-key _ _ x.first 14 (omega arith) (omega arith) (omega arith) (omega arith))

  follow-spans : Spans x.first x.next (follow_fault s x)
  unfolding follow_fault
  follow-spans =
      either (Spans x.first x.next) x.kind 3 _ _ (λ _. spans-none _ _ (omega arith)) (λ _.
      either_true (Spans x.first x.next) (is_separator (byte_at s x.next)) _ _ (λ _. spans-none _ _ (omega arith)) (λ _.
      spans-key _ _ x.next 2 (omega arith) (omega arith) (omega arith) (omega arith)))

  -- a token's faults stand in it or right behind it
  whole-spans : Spans x.first x.next (fault_of s n (Ok (Some x)))
  whole-spans =
      subst (Spans x.first x.next) (fault-whole s n (Ok (Some x)) _ x refl refl)
      (kept _ _ range-spans (kept _ _ length-spans (kept _ _ limit-spans follow-spans)))
    where
      kept : (j k : ℕ) → Spans x.first x.next j → Spans x.first x.next k → Spans x.first x.next (min j k)
      kept j k f g = min-keeps (Spans x.first x.next) j k f g

key-from : (a p m : ℕ) → a ≤ p → p ≤ 16384 → 2 ≤ m → a * 64 + 2 ≤ key p m
key-from a p m h l g = let e : key p m ≡ p * 64 + m = key-is p m (omega arith) in omega arith

limit-from : (n a p : ℕ) → a ≤ p → p ≤ 16384 → a * 64 + 2 ≤ limit_fault n p
unfolding limit_fault
limit-from n a p h l = either (λ (k : ℕ). a * 64 + 2 ≤ k) n 4096 _ _ (λ _. omega arith) (λ _. key-from a p 14 h l (omega arith))

-- no fault of a reading stands before where it began
reading-from : (s : List ℕ) (n a : ℕ) (r : Reading) → length s ≤ 16384 → a ≤ 16384 → ReadingIn s a r → a * 64 + 2 ≤ fault_of s n r
reading-from s n a (Ok None) l b i = subst (λ (k : ℕ). a * 64 + 2 ≤ k) (fault-end s n (Ok None) refl) (omega arith)
reading-from s n a (Err (Lone p)) l b i = subst (λ (k : ℕ). a * 64 + 2 ≤ k) (fault-lone s n (Err (Lone p)) (key p 2) p refl refl) (key-from a p 2 i.0 (omega (arith, i.1)) (omega arith))
reading-from s n a (Err (Broken p)) l b i = subst (λ (k : ℕ). a * 64 + 2 ≤ k) (fault-broken s n (Err (Broken p)) (key p 3) p refl refl) (key-from a p 3 i.0 (omega (arith, i.1)) (omega arith))
reading-from s n a (Err (Open p)) l b i =
    let f : a * 64 + 2 ≤ key p 4 = key-from a p 4 i.0 (omega (arith, i.1)) (omega arith) in
    let g : a * 64 + 2 ≤ limit_fault n p = limit-from n a p i.0 (omega (arith, i.1)) in
    subst (λ (k : ℕ). a * 64 + 2 ≤ k) (fault-open s n (Err (Open p)) (min (key p 4) (limit_fault n p)) p (key p 4) (limit_fault n p) refl refl refl refl) (omega arith)
reading-from s n a (Ok (Some x)) l b i =
    let h = whole-spans s n x (omega (arith, i.first-is, i.ahead)) (omega (arith, i.within)) in
    omega (arith, h.0, i.first-is)

module _ (w : Width) (s : List ℕ) (l : length s ≤ 16384) where
  abbrev behind_in : ℕ → State → List ℕ
  behind_in k q = faults_behind (token_step w s q (next_read w s q.at)) (λ (y : State). token_faults k w s y)

  here-from : (q : State) → q.at ≤ length s → q.at * 64 + 2 ≤ fault_in w s q
  here-from q h =
      let g = gap-in s q.at in
      let e : gap_end s q.at ≤ length s = g.0.1 h in
      let f = reading-from s (length q.tokens) (gap_end s q.at) (next_read w s q.at) l (omega arith) (next-in w s q.at) in
      omega (arith, g.0.0)

  cons-is : (k : ℕ) (q : State) → least_of (token_faults (suc k) w s q) ≡ min (fault_in w s q) (least_of (behind_in k q))
  unfolding token_faults least_of
  cons-is k q = refl

  nil_is : least_of [] ≡ none
  unfolding least_of
  nil_is = refl

  -- where a reading leads: nowhere, or behind its token
  behind-or : (k : ℕ) (q : State) → (least_of (behind_in k q) ≡ none) ⊎ ((x : Lexeme) × (next_read w s q.at ≡ Ok (Some x)))
  unfolding token_step
  behind-or k q = by (next_read w s q.at) refl
    where
      over : (r : Reading) → next_read w s q.at ≡ r → faults_behind (token_step w s q r) (λ (y : State). token_faults k w s y) ≡ [] → least_of (behind_in k q) ≡ none
      over r e f = ap (λ (r : Reading). least_of (faults_behind (token_step w s q r) (λ (y : State). token_faults k w s y))) e ∙ ap least_of f ∙ nil_is

      by : (r : Reading) → next_read w s q.at ≡ r → (least_of (behind_in k q) ≡ none) ⊎ ((x : Lexeme) × (next_read w s q.at ≡ Ok (Some x)))
      by (Ok None) e = inl (over (Ok None) e refl)
      by (Err (Lone p)) e = inl (over (Err (Lone p)) e refl)
      by (Err (Broken p)) e = inl (over (Err (Broken p)) e refl)
      by (Err (Open p)) e = inl (over (Err (Open p)) e refl)
      by (Ok (Some x)) e = inr (x, e)

  abbrev state_behind : State → Lexeme → State
  state_behind q x = state x.next (q.tokens ++ (token_of w s q.tokens x ∷ []))

  behind-is : (k : ℕ) (q : State) (x : Lexeme) → next_read w s q.at ≡ Ok (Some x) → least_of (behind_in k q) ≡ least_of (token_faults k w s (state_behind q x))
  unfolding token_step
  behind-is k q x e = ap (λ (r : Reading). least_of (faults_behind (token_step w s q r) (λ (y : State). token_faults k w s y))) e

  -- nothing behind a state is lower than its own place
  later-from : (k : ℕ) (q : State) → q.at ≤ length s → q.at * 64 + 2 ≤ least_of (token_faults k w s q)
  unfolding token_faults
  later-from zero q h = omega (arith, nil_is)
  later-from (suc k) q h =
      ⊎_elim
      (λ e. omega (arith, cons-is k q, here-from q h))
      (λ y. let a = whole-ahead w s q y.0 y.1 in
      let b : y.0.next * 64 + 2 ≤ least_of (token_faults k w s (state_behind q y.0)) = later-from k (state_behind q y.0) a.1 in
      omega (arith, cons-is k q, here-from q h, behind-is k q y.0 y.1, a.0))
      (behind-or k q)

  -- where a token has a fault, nothing behind it is lower
  first-least : (k : ℕ) (q : State) → fault_in w s q < none → least_of (token_faults (suc k) w s q) ≡ fault_in w s q
  first-least k q h =
      ⊎_elim
      (λ e. omega (arith, cons-is k q))
      (λ y. let a = whole-ahead w s q y.0 y.1 in
      let i : LexemeIn s (gap_end s q.at) y.0 = subst (ReadingIn s (gap_end s q.at)) y.1 (next-in w s q.at) in
      let p = whole-spans s (length q.tokens) y.0 (omega (arith, i.first-is, i.ahead)) (omega (arith, a.1)) in
      let e : fault_in w s q ≡ fault_of s (length q.tokens) (Ok (Some y.0)) = ap (fault_of s (length q.tokens)) y.1 in
      let u : fault_of s (length q.tokens) (Ok (Some y.0)) ≤ y.0.next * 64 + 2 = p.1 (omega arith) in
      let b : y.0.next * 64 + 2 ≤ least_of (token_faults k w s (state_behind q y.0)) = later-from k (state_behind q y.0) a.1 in
      omega (arith, cons-is k q, behind-is k q y.0 y.1))
      (behind-or k q)

  skip_first : (k : ℕ) (q : State) → none ≤ fault_in w s q → least_of (token_faults (suc k) w s q) ≡ least_of (behind_in k q)
  skip_first k q h = omega (arith, cons-is k q, least-none (behind_in k q))

  -- what stops without a fault has the key none
  abbrev pub StopsClean : Step State Outcome → Type 0
  StopsClean (go y) = Unit {0}
  StopsClean (stop r) = lex_key r ≡ none

  pub token-stops : (q : State) (r : Reading) → StopsClean (token_step w s q r)
  unfolding token_step
  token-stops q (Ok None) = refl
  token-stops q (Err (Lone p)) = refl
  token-stops q (Err (Broken p)) = refl
  token-stops q (Err (Open p)) = refl
  token-stops q (Ok (Some x)) = tt

  lex-decides : (k : ℕ) (q : State) → lex_key (walk (lex_step w s) (refused none) k q) ≡ least_of (token_faults k w s q)
  unfolding walk token_faults
  lex-decides zero q = sym nil_is
  lex-decides (suc k) q =
      elim (dec_lt (fault_in w s q) none) [
        | yes h ↦ ap lex_key (walk-stop (lex_step w s) (refused none) k q _ (step-fault w s q h)) ∙ sym (first-least k q h)
        | no h ↦ let g : none ≤ fault_in w s q = omega arith in
            by (token_step w s q (next_read w s q.at)) (step-fine w s q g) (token-stops q (next_read w s q.at)) (λ y. lex-decides k y) ∙ sym (skip_first k q g)
      ]
    where
      by : (x : Step State Outcome) → lex_step w s q ≡ x → StopsClean x → ((y : State) → lex_key (walk (lex_step w s) (refused none) k y) ≡ least_of (token_faults k w s y))
          → lex_key (walk (lex_step w s) (refused none) (suc k) q) ≡ least_of (faults_behind x (λ (y : State). token_faults k w s y))
      by (go y) p c f = ap lex_key (walk-go (lex_step w s) (refused none) k q y p) ∙ f y
      by (stop r) p c f = ap lex_key (walk-stop (lex_step w s) (refused none) k q r p) ∙ c ∙ sym nil_is

  -- the group's verdict is the least fault over the whole source
  pub lex-least : lex_key (lex_of w s) ≡ least_of (lex_faults w s)
  unfolding lex_of tokens_from lex_faults
  lex-least = ap lex_key (if_lt-no _ _ l) ∙ lex-decides (suc (length s)) (state 0 [])

  -- a refusal is that of a fault
  pub lex-real : (k : ℕ) → lex_of w s ≡ refused k → k < none
  lex-real k e =
      elim (dec_lt k none) [
        | yes h ↦ h
        | no h ↦ let v : k ≡ least_of (lex_faults w s) = ap lex_key (sym e) ∙ lex-least in
            let c : least_of (lex_faults w s) ≡ none = omega (arith, least-none (lex_faults w s)) in
            let r = fine-lexed w s l (none-all (lex_faults w s) c) in absurd (not-refused k r.0 (sym e ∙ r.1))
      ]
