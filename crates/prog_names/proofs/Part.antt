-- The part of the name table that is a label's name.
-- Assumes nothing.
use mathlib.Core.Path.{◌≡◌, sym, ◌∙◌, ap}
use mathlib.Core.List.{List, []}
use Prim.Native.Nat.{ℕ, ◌+◌, ◌-◌, ◌*◌, ◌≤◌, min}
use native.Mathlib.Decide.{dec_lt}
use native.Mathlib.Omega.{arith}
use lib.ListN.{length, get_or, take, drop, length-drop, drop_of_length-le}
use lib.Seq.{take_all, take-nil}
use Rattle.prog_tables.specs.Label.{label_at}

-- bytes of a name, with the ends cut to the table
part-is : (names : List ℕ) (at n from to : ℕ) → from ≡ min at (length names) → to ≡ min (at + n) (length names) → take (to - from) (drop from names) ≡ take n (drop at names)
part-is names at n from to e q =
    elim (dec_lt (length names) at) [
      | yes h ↦
          (let z : to - from ≡ 0 = omega (arith, e, q) in
          rw z (sym (ap (take n) (drop_of_length-le names {i = at} (omega (arith, h))) ∙ take-nil n)))
      | no h ↦
          (let y : from ≡ at = omega (arith, e, h) in
          rw y
          (elim (dec_lt (length names) (at + n)) [
            | yes g ↦ take_all (to - at) (drop at names) (omega (arith, length-drop at names, e, q, g)) ∙ sym (take_all n (drop at names) (omega (arith, length-drop at names, g)))
            | no g ↦ (let z : to - at ≡ n = omega (arith, q, g) in ap (λ (j : ℕ). take j (drop at names)) z)
          ]))
    ]

module _ (l names : List ℕ) (i from to : ℕ) (e : from ≡ min (i * 64) (length names)) (q : to ≡ min (i * 64 + (label_at l [] i).size) (length names)) where
  pub part-name : take (to - from) (drop from names) ≡ (label_at l names i).name
  unfolding label_at
  part-name = part-is names (i * 64) (get_or l (i * 4 + 3) 0) from to e q

  pub part-order : from ≤ to
  part-order = omega (arith, e, q)

  pub part-within : to ≤ length names
  part-within = omega (arith, q)

pub ruleset parts = (part-order, part-within)
