-- What holds of every line of the table of operators holds of the operator with any number.
-- Assumes nothing.
use mathlib.Core.Path.{◌≡◌, refl, ◌∙◌}
use Prim.Native.Nat.{ℕ}
use mathlib.Core.List.{List, [], ◌∷◌}
use Rattle.base_prelude.proofs.Choice.{if_eq-no, either-eq}
use Rattle.vm_definitions.specs.Operators.{Operator, no_operator, operators, line_in, operator_of}

unfoldable pub Every : (Operator → Type 0) → List Operator → Type 0
Every P [] = Unit {0}
Every P (o ∷ os) = P o × Every P os

line-is : (P : Operator → Type 0) (e : ℕ) (os : List Operator) → Every P os → P no_operator → P (line_in e os)
unfolding Every line_in
line-is P e [] h p = p
line-is P e (o ∷ os) h p = either-eq P e o.number o (line_in e os) (λ q. h.0) (λ q. line-is P e os h.1 p)

pub each-operator : (P : Operator → Type 0) (e : ℕ) → Every P operators → P no_operator → P (operator_of e)
unfolding operator_of
each-operator P e h p = line-is P e operators h p

-- a number that no line has
line-none : (e : ℕ) (os : List Operator) → Every (λ (o : Operator). e ≡ o.number → ⊥) os → line_in e os ≡ no_operator
unfolding Every line_in
line-none e [] h = refl
line-none e (o ∷ os) h = if_eq-no o (line_in e os) h.0 ∙ line-none e os h.1

pub operator-none : (e : ℕ) → Every (λ (o : Operator). e ≡ o.number → ⊥) operators → operator_of e ≡ no_operator
unfolding operator_of
operator-none e h = line-none e operators h
