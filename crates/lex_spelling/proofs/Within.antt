-- A text ends within the source, at least one place on for each byte of it.
-- Assumes nothing.
use mathlib.Core.Path.{◌≡◌, sym, ap, subst}
use mathlib.Core.Bool.{Bool, false}
use mathlib.Core.List.{List}
use Prim.Native.Nat.{ℕ, zero, suc, ◌+◌, ◌≤◌}
use native.Mathlib.Omega.{arith}
use lib.ListN.{length}
use Rattle.lex_spelling.specs.Text.{Character, character_at, Text, spell_more, spelled_within, spelled_at, name_at, measured, end_of}
use Rattle.std.proofs.Common.{Ok, Err}
use Rattle.lex_spelling.specs.declared.Decoded.{Decoded}
use Rattle.lex_spelling.specs.declared.Ending.TheVariants.{Stopped, Broken}
use Rattle.lex_spelling.specs.declared.Spelled.{Spelled}
use Rattle.lex_spelling.proofs.Ahead.{CharacterIn, character-in}

abbrev pub TextIn : List ℕ → ℕ → Text → Type 0
TextIn s at t = (at + length t.bytes ≤ end_of t.ending) × (end_of t.ending ≤ length s)

more-in : (s : List ℕ) (at : ℕ) (x : Character) (rest : ℕ → Text) → CharacterIn s at x → ((n : ℕ) → n ≤ length s → TextIn s n (rest n))
    → TextIn s at (spell_more x rest)
unfolding spell_more
more-in s at (Ok x) rest h f = let g : TextIn s x.next (rest x.next) = f x.next h.1 in (omega (arith, h.0, g.0), g.1)
more-in s at (Err (Broken p)) rest h f = (omega (arith, h.0), h.1)
more-in s at (Err (Stopped p)) rest h f = (omega (arith, h.0), h.1)

within_in : (k : ℕ) (q : Bool) (s : List ℕ) (at : ℕ) → at ≤ length s → TextIn s at (spelled_within k q s at)
unfolding spelled_within
within_in zero q s at l = (omega arith, l)
within_in (suc k) q s at l = more-in s at (character_at q s at) (λ n. spelled_within k q s n) (character-in q s at l) (λ n h. within_in k q s n h)

pub text_in : (q : Bool) (s : List ℕ) (at : ℕ) → at ≤ length s → TextIn s at (spelled_at q s at)
unfolding spelled_at
text_in q s at l = within_in (suc (length s)) q s at l

-- what `spell` gives
pub spelled-in : (q : Bool) (s : List ℕ) (at : ℕ) (x : Spelled) → at ≤ length s → x ≡ measured (spelled_at q s at)
    → (at + x.size ≤ end_of x.ending) × (end_of x.ending ≤ length s)
unfolding measured
spelled-in q s at x l e =
    subst (λ (y : Spelled). (at + y.size ≤ end_of y.ending) × (end_of y.ending ≤ length s)) (sym e) (measured-in (spelled_at q s at) (text_in q s at l))
  where
    measured-in : (t : Text) → TextIn s at t → (at + (measured t).size ≤ end_of (measured t).ending) × (end_of (measured t).ending ≤ length s)
    measured-in t h = h

-- a text that starts with a character is not empty
some_more : (x : Character) (rest : ℕ → Text) (y : Decoded) → x ≡ Ok y → 1 ≤ length (spell_more x rest).bytes
unfolding spell_more
some_more x rest y e = subst (λ (z : Character). 1 ≤ length (spell_more z rest).bytes) (sym e) (omega arith)

pub name-some : (s : List ℕ) (at : ℕ) (y : Decoded) → character_at false s at ≡ Ok y → 1 ≤ length (name_at s at)
unfolding name_at spelled_at spelled_within
name-some s at y e = some_more (character_at false s at) (λ m. spelled_within (length s) false s m) y e

broken-more : (x : Character) (rest : ℕ → Text) (p : ℕ) → x ≡ Err (Broken p) → (spell_more x rest).ending ≡ Broken p
unfolding spell_more
broken-more x rest p e = ap (λ (y : Character). (spell_more y rest).ending) e

pub name-broken : (s : List ℕ) (at p : ℕ) → character_at false s at ≡ Err (Broken p) → (spelled_at false s at).ending ≡ Broken p
unfolding spelled_at spelled_within
name-broken s at p e = broken-more (character_at false s at) (λ m. spelled_within (length s) false s m) p e
