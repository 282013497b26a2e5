-- Operands of a row read one by one into words, by a loop over the slots.
-- Assumes nothing.
use Rattle.std.proofs.Common.{None, Option, Some}
use mathlib.Core.Path.{◌≡◌, refl, sym, ◌∙◌, ap}
use mathlib.Core.Bool.{Bool, true, false}
use mathlib.Core.List.{List, [], ◌∷◌, ◌++◌, append_assoc, append-nil}
use Prim.Native.Nat.{ℕ, suc, ◌+◌, ◌*◌, ◌<◌, ◌≤◌}
use native.Mathlib.Omega.{arith}
use lib.ListN.{length, get_or, set, take, drop, length-set, drop_of_length-le}
use lib.Seq.{take-suc, drop-cons, take-set-le, get_or-set_same, length-take-le, get_or-take}
use Rattle.base_prelude.specs.Choice.{if_true}
use Rattle.prog_tables.specs.Statement.{operand_at, slots}
use Rattle.prog_tables.specs.declared.Operand.{Operand}
use Rattle.prog_tables.specs.declared.Operand.TheVariants.{Unlisted}
use Rattle.prog_faults.proofs.Cases.{slot_at, slots-long}
use Rattle.vm_definitions.specs.Operands as machine
use Rattle.vm_definitions.specs.Operands.{Words, bad, with_word, on_read}
use Rattle.vm_quick_operands.specs.Fast.{read_each}

-- k words, where all were read
abbrev gathered : Bool → List ℕ → ℕ → Words
gathered b ws k = if_true b (machine.words (take k ws)) bad

unfoldable pub joined : List ℕ → Words → Words
joined vs (machine.words ws) = machine.words (vs ++ ws)
joined vs bad = bad

join-none : (w : Words) → joined [] w ≡ w
unfolding joined
join-none (machine.words ws) = refl
join-none bad = refl

join_more : (vs : List ℕ) (v : ℕ) (w : Words) → joined (vs ++ (v ∷ [])) w ≡ joined vs (with_word v w)
unfolding joined with_word
join_more vs v (machine.words ws) = ap machine.words (append_assoc vs (v ∷ []) ws)
join_more vs v bad = refl

-- the operands of a row whose first word is at a place, from i on
pub next-slot : (t : List ℕ) (at k i : ℕ) → i < k → k ≤ 8 → drop i (take k (slots t at)) ≡ operand_at t (at + 11 + i * 2) ∷ drop (suc i) (take k (slots t at))
next-slot t at k i h l =
    drop-cons (take k (slots t at)) i Unlisted (omega (arith, length-take-le k (slots t at) (omega (arith, slots-long t at))))
    ∙ ap (λ (z : Operand). z ∷ drop (suc i) (take k (slots t at))) (get_or-take k (slots t at) i Unlisted h ∙ slot_at t at i (omega arith))

pub no-slots : (t : List ℕ) (at k i : ℕ) → k ≤ i → k ≤ 8 → drop i (take k (slots t at)) ≡ []
no-slots t at k i l h = drop_of_length-le (take k (slots t at)) {i = i} (omega (arith, length-take-le k (slots t at) (omega (arith, slots-long t at, h)), l))

module _ (rd : Operand → Option ℕ) (t : List ℕ) (at k : ℕ) where
  abbrev rest_of : ℕ → Words
  rest_of i = read_each rd (drop i (take k (slots t at)))

  -- the first i of k operands are read into ws
  pub record Reading (ws : List ℕ) (i : ℕ) : Type 0 where
    pub below : i ≤ k
    pub few : k ≤ 8
    pub long : length ws ≡ 8
    pub rest : joined (take i ws) (rest_of i) ≡ read_each rd (take k (slots t at))

  pub reading-none : (ws : List ℕ) → length ws ≡ 8 → k ≤ 8 → Reading ws 0
  reading-none ws e h = record { below = omega arith; few = h; long = e; rest = join-none (read_each rd (take k (slots t at))) }

  module _ (ws : List ℕ) (i : ℕ) (x : Option ℕ) (h : Reading ws i) (l : i < k) (e : x ≡ rd (operand_at t (at + 11 + i * 2))) where
    step-on : rest_of i ≡ on_read x bad (λ v. with_word v (rest_of (suc i)))
    unfolding read_each
    step-on = rw (next-slot t at k i l h.few, e)

    pub reading-more : (v : ℕ) → x ≡ Some v → Reading (set ws i v) (i + 1)
    unfolding on_read
    reading-more v g =
        let one : i + 1 ≡ suc i = omega arith in
        record {
          below = omega (arith, h.below);
          few = h.few;
          long = length-set ws i v ∙ h.long;
          rest =
              ap (λ (j : ℕ). joined (take j (set ws i v)) (rest_of j)) one
              ∙ ap (λ (z : List ℕ). joined z (rest_of (suc i)))
              (take-suc (set ws i v) i 0 (omega (arith, length-set ws i v, h.long, h.few, l))
              ∙ ap (λ (z : List ℕ). z ++ (get_or (set ws i v) i 0 ∷ [])) (take-set-le i ws i v (omega arith))
              ∙ ap (λ (z : ℕ). take i ws ++ (z ∷ [])) (get_or-set_same ws i v 0 (omega (arith, h.long, h.few, l))))
              ∙ join_more (take i ws) v (rest_of (suc i))
              ∙ ap (joined (take i ws)) (sym (step-on ∙ ap (λ (z : Option ℕ). on_read z bad (λ v. with_word v (rest_of (suc i)))) g))
              ∙ h.rest;
        }

    pub reading-stops : x ≡ None → gathered false ws k ≡ read_each rd (take k (slots t at))
    unfolding if_true joined on_read
    reading-stops g = ap (joined (take i ws)) (sym (step-on ∙ ap (λ (z : Option ℕ). on_read z bad (λ v. with_word v (rest_of (suc i)))) g)) ∙ h.rest

  pub reading-done : (ws : List ℕ) (i : ℕ) → Reading ws i → k ≤ i → gathered true ws k ≡ read_each rd (take k (slots t at))
  unfolding if_true joined read_each
  reading-done ws i h l =
      let same : i ≡ k = omega (arith, h.below, l) in
      ap machine.words (sym (append-nil (take k ws)))
      ∙ ap (λ (j : ℕ). joined (take j ws) (read_each rd [])) (sym same)
      ∙ ap (λ (z : List Operand). joined (take i ws) (read_each rd z)) (sym (no-slots t at k i l h.few))
      ∙ h.rest

pub ruleset reading = (reading-none, reading-more, reading-stops, reading-done)
