-- A nested pattern, from what each of its two parts says.
-- Assumes nothing.
use Rattle.std.proofs.Common.{◌≡◌, ap, ◌∙◌, Result, Ok, Err}

module _ {A E : Type 0} where
  pub at-ok : {r : Result A E} {x y : A} → r ≡ Ok x → x ≡ y → r ≡ Ok y
  at-ok e f = e ∙ ap (λ (z : A). Ok z) f

  pub at-err : {r : Result A E} {x y : E} → r ≡ Err x → x ≡ y → r ≡ Err y
  at-err e f = e ∙ ap (λ (z : E). Err z) f
