use mathlib.Core.Path.{◌≡◌, sym}
use mathlib.Core.List.{List}
use Prim.Native.Nat.{ℕ, ◌≤◌}
use lib.ListN.{length, take}
use lib.Seq.{length-take-le}
use borrow.Author.Rules.{rules}
use Rattle.app_lister.proofs.main.Goals as goal

sized : (n : ℕ) (xs : List ℕ) → n ≤ length xs → n ≡ length (take n xs)
sized n xs h =
    sym (length-take-le n xs h)

pub slice_bounds-write_all-end : goal.slice_bounds-write_all-end
slice_bounds-write_all-end c =
    search (rules, sized)
