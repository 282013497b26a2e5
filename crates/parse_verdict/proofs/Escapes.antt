-- Refusal 3 stands where an escape breaks.
-- Assumes nothing.
use mathlib.Core.Path.{◌≡◌, refl, sym, ◌∙◌, ap, subst}
use mathlib.Core.List.{List, []}
use Prim.Native.Nat.{ℕ, zero, suc, ◌≤◌, ◌<◌, min}
use native.Mathlib.Decide.{dec_lt}
use native.Mathlib.Omega.{arith}
use lib.ListN.{length}
use Rattle.base_prelude.specs.Bytes.{byte_at}
use Rattle.base_prelude.specs.Fault.{none, key, key_place, key_number}
use Rattle.base_prelude.specs.Walk.{Step, go, stop, walk}
use Rattle.base_prelude.proofs.Choice.{either, either_true, if_lt-no}
use Rattle.base_prelude.proofs.Keys.{key-place, key-number}
use Rattle.base_prelude.proofs.Walk.{walk-go, walk-stop}
use Rattle.base_limits.specs.Limits.{name_bytes, source_bytes, tokens}
use Rattle.base_limits.specs.declared.Width.{Width}
use Rattle.lang_kinds.specs.Tokens as token
use Rattle.lex_spelling.specs.Breaks.{EscapeBreaks}
use Rattle.lex_spelling.specs.Classes.{is_separator}
use Rattle.lex_lexeme.specs.Reading.{Reading, is_named, next_read}
use Rattle.lex_lexeme.specs.declared.Lexeme.{Lexeme}
use Rattle.lex_lexeme.specs.declared.TokenError.{TokenError}
use Rattle.lex_lexeme.specs.declared.TokenError.TheVariants.{Lone, Broken, Open}
use Rattle.lex_lexeme.proofs.Broken.{ReadingBreaks, next-breaks}
use Rattle.lex_source.specs.Faults.{range_fault, length_fault, limit_fault, follow_fault, fault_of}
use Rattle.lex_source.specs.Lex.{State, state, Outcome, refused, token_step, lex_step, tokens_from, lex_of}
use Rattle.lex_source.proofs.Least.{fault-end, fault-lone, fault-broken, fault-open, fault-whole}
use Rattle.parse_verdict.specs.Lexing.{lex_key}
use Rattle.parse_verdict.proofs.Lexing.{fault_in, step-fault, step-fine, min-keeps, StopsClean, token-stops, long-refused}
use Rattle.std.proofs.Common.{Option, Some, None, Result, Ok, Err}
use Rattle.std.specs.Prelude.{is_some}

-- a fault of another number
abbrev Other : ℕ → Type 0
Other k = key_number k ≡ 3 → ⊥

other_key : (p m : ℕ) → m < 64 → (m ≡ 3 → ⊥) → Other (key p m)
other_key p m h n e = n (sym (key-number p m h) ∙ e)

other_none : Other none
other_none e = let z : ⊥ = omega arith in z

limit-other : (n p : ℕ) → Other (limit_fault n p)
unfolding limit_fault
limit-other n p = either Other n tokens _ _ (λ _. other_none) (λ _. other_key p 14 (omega arith) (λ e. let z : ⊥ = omega arith in z))

module _ (s : List ℕ) (n : ℕ) (x : Lexeme) where
  range_other : Other (range_fault x)
  unfolding range_fault
  range_other = either_true Other (is_some x.value) _ _ (λ _. other_none) (λ _. other_key x.first 5 (omega arith) (λ e. let z : ⊥ = omega arith in z))

  length-other : Other (length_fault x)
  unfolding length_fault
  length-other =
      either_true Other (is_named x.kind) _ _
      (λ _. either Other name_bytes x.size _ _ (λ _. other_key x.first 6 (omega arith) (λ e. let z : ⊥ = omega arith in z)) (λ _. other_none))
      (λ _. other_none)

  follow-other : Other (follow_fault s x)
  unfolding follow_fault
  follow-other =
      either Other x.kind token.symbol _ _ (λ _. other_none) (λ _.
      either_true Other (is_separator (byte_at s x.next)) _ _ (λ _. other_none) (λ _. other_key x.next 2 (omega arith) (λ e. let z : ⊥ = omega arith in z)))

  whole-other : Other (fault_of s n (Ok (Some x)))
  whole-other =
      subst Other (fault-whole s n (Ok (Some x)) _ x refl refl)
      (min-keeps Other _ _ range_other (min-keeps Other _ _ length-other (min-keeps Other _ _ (limit-other n x.first) follow-other)))

-- what is read has a fault of number 3 only where an escape breaks
reading-breaks : (s : List ℕ) (n : ℕ) (r : Reading) → length s ≤ source_bytes → ReadingBreaks s r → key_number (fault_of s n r) ≡ 3 → EscapeBreaks s (key_place (fault_of s n r))
reading-breaks s n (Ok None) l h e = absurd (subst Other (fault-end s n (Ok None) refl) other_none e)
reading-breaks s n (Err (Lone p)) l h e = absurd (subst Other (fault-lone s n (Err (Lone p)) (key p 2) p refl refl) (other_key p 2 (omega arith) (λ q. let z : ⊥ = omega arith in z)) e)
reading-breaks s n (Err (Broken p)) l h e =
    let f : key p 3 ≡ fault_of s n (Err (Broken p)) = fault-broken s n (Err (Broken p)) (key p 3) p refl refl in
    subst (EscapeBreaks s) (sym (key-place p 3 (omega (arith, h.2.within)) (omega arith)) ∙ ap key_place f) h
reading-breaks s n (Err (Open p)) l h e =
    absurd (subst Other (fault-open s n (Err (Open p)) (min (key p 4) (limit_fault n p)) p (key p 4) (limit_fault n p) refl refl refl refl)
    (min-keeps Other _ _ (other_key p 4 (omega arith) (λ q. let z : ⊥ = omega arith in z)) (limit-other n p)) e)
reading-breaks s n (Ok (Some x)) l h e = absurd (whole-other s n x e)

module _ (w : Width) (s : List ℕ) (l : length s ≤ source_bytes) where
  from-breaks : (k : ℕ) (q : State) (j : ℕ) → walk (lex_step w s) (refused none) k q ≡ refused j → key_number j ≡ 3 → EscapeBreaks s (key_place j)
  unfolding walk
  from-breaks zero q j e h = absurd (subst Other (ap lex_key e) other_none h)
  from-breaks (suc k) q j e h =
      elim (dec_lt (fault_in w s q) none) [
        | yes g ↦ let f : fault_in w s q ≡ j = ap lex_key (sym (walk-stop (lex_step w s) (refused none) k q _ (step-fault w s q g)) ∙ e) in
            subst (λ (i : ℕ). EscapeBreaks s (key_place i)) f
            (reading-breaks s (length q.tokens) (next_read w s q.at) l (next-breaks s w q.at) (ap key_number f ∙ h))
        | no g ↦ by (token_step w s q (next_read w s q.at)) (step-fine w s q (let z : none ≤ fault_in w s q = omega arith in z)) (token-stops w s l q (next_read w s q.at))
            (λ y f. from-breaks k y j f h)
      ]
    where
      by : (x : Step State Outcome) → lex_step w s q ≡ x → StopsClean w s l x → ((y : State) → walk (lex_step w s) (refused none) k y ≡ refused j → EscapeBreaks s (key_place j))
          → EscapeBreaks s (key_place j)
      by (go y) p c f = f y (sym (walk-go (lex_step w s) (refused none) k q y p) ∙ e)
      by (stop r) p c f = absurd (subst Other (sym c ∙ ap lex_key (sym (walk-stop (lex_step w s) (refused none) k q r p) ∙ e)) other_none h)

-- "For refusal 3 the place becomes the first byte that breaks the escape (the source's length if it ends there)"
pub escape-refused : (w : Width) (s : List ℕ) (k : ℕ) → lex_of w s ≡ refused k → key_number k ≡ 3 → EscapeBreaks s (key_place k)
unfolding lex_of tokens_from
escape-refused w s k e h =
    elim (dec_lt source_bytes (length s)) [
      | yes g ↦ absurd (subst Other (ap lex_key (sym (long-refused w s g) ∙ e)) (other_key source_bytes 1 (omega arith) (λ q. let z : ⊥ = omega arith in z)) h)
      | no g ↦ let l : length s ≤ source_bytes = omega arith in from-breaks w s l (suc (length s)) (state 0 []) k (sym (if_lt-no _ _ l) ∙ e) h
    ]
