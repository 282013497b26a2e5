-- The ranges that the code tests say what the table of specs/Standing says.
-- Assumes nothing.
use mathlib.Core.Path.{◌≡◌, refl, sym, ◌∙◌, ap, ap₂}
use Rattle.std.proofs.Common.{◌&&◌}
use Rattle.std.proofs.lemmas.Bool.Decides.{nat_tests}
use Rattle.std.specs.Ordering.{is_le, is_lt, nat_cmp}
use mathlib.Core.Bool.{Bool, true, false}
use Prim.Native.Nat.{ℕ, ◌≤◌, ◌<◌}
use native.Mathlib.Decide.{dec_lt}
use native.Mathlib.Omega.{arith}
use lib.Dec.{T, leb, ltb}
use borrow.Author.Tests.{ltb-true}
use Rattle.base_prelude.specs.Choice.{if_lt, if_eq}
use Rattle.base_prelude.specs.Lists.{is_among}
use Rattle.base_prelude.proofs.Choice.{either, if_lt-yes, if_lt-no, if_eq-no, true-false}
use Rattle.base_prelude.proofs.Table.{under, under_at, agree, agree-is, low, among-past}
use Rattle.lang_kinds.specs.Nesting.{statement_in, refused_in, stands_in}
use Rattle.lang_kinds.specs.Standing.{Ground, BeforeSections, FunctionsSection, DataSection, Group, InFunction, InBlock, InTestArm, InElseArm, NoGround, ground_numbered, lines_on, stands_on}
use Rattle.std.specs.declared.ops.Range.{Range}

-- a ground is in a range
abbrev pub in_range : ℕ → Range ℕ → Bool
in_range g r = if_lt g r.start false (if_lt g r.end true false)

-- every kind on every ground, computed
kinds_agree : ℕ → ℕ → Bool
kinds_agree k g = agree (stands_on g k) (in_range g (stands_in k))

all-agree : T (under (λ k. under (kinds_agree k) 8) 37)
unfolding kinds_agree stands_on is_among ground_numbered lines_on stands_in statement_in refused_in if_lt if_eq
all-agree = tt

-- numbers that are no ground, and numbers that are no kind
pub no-ground : (g : ℕ) → 8 ≤ g → ground_numbered g ≡ NoGround
unfolding ground_numbered
no-ground g h =
    if_eq-no _ _ (λ e. omega arith) ∙ if_eq-no _ _ (λ e. omega arith) ∙ if_eq-no _ _ (λ e. omega arith) ∙ if_eq-no _ _ (λ e. omega arith)
    ∙ if_eq-no _ _ (λ e. omega arith) ∙ if_eq-no _ _ (λ e. omega arith) ∙ if_eq-no _ _ (λ e. omega arith) ∙ if_eq-no _ _ (λ e. omega arith)

lines-low : (g : Ground) → T (low 37 (lines_on g))
unfolding lines_on
lines-low BeforeSections = tt
lines-low FunctionsSection = tt
lines-low DataSection = tt
lines-low Group = tt
lines-low InFunction = tt
lines-low InBlock = tt
lines-low InTestArm = tt
lines-low InElseArm = tt
lines-low NoGround = tt

true-is : (b : Bool) → T b → b ≡ true
true-is true t = refl
true-is false t = absurd t

hi_fits : ℕ → Bool
hi_fits k = ltb (stands_in k).end 9

hi-fit : T (under hi_fits 37)
unfolding hi_fits stands_in statement_in refused_in if_lt if_eq
hi-fit = tt

low-high : (g k : ℕ) → 8 ≤ g → k < 37 → in_range g (stands_in k) ≡ false
unfolding hi_fits
low-high g k h l =
    let z : (stands_in k).end < 9 = ltb-true _ 9 (true-is (ltb (stands_in k).end 9) (under_at hi_fits 37 k hi-fit l)) in
    either (λ (b : Bool). b ≡ false) g (stands_in k).start _ _ (λ _. refl) (λ _. if_lt-no true false (omega arith))

past-kinds : (g k : ℕ) → 37 ≤ k → in_range g (stands_in k) ≡ false
unfolding stands_in refused_in
past-kinds g k h =
    ap (in_range g)
    (if_eq-no _ _ (λ e. omega arith) ∙ if_lt-no _ _ (omega arith) ∙ if_lt-no _ _ (omega arith) ∙ if_eq-no _ _ (λ e. omega arith)
    ∙ if_eq-no _ _ (λ e. omega arith) ∙ if_lt-no _ _ (omega arith) ∙ if_eq-no _ _ (λ e. omega arith) ∙ if_eq-no _ _ (λ e. omega arith)
    ∙ if_eq-no _ _ (λ e. omega arith) ∙ if_eq-no _ _ (λ e. omega arith) ∙ if_eq-no _ _ (λ e. omega arith))
    ∙ empty g
  where
    empty : (g : ℕ) → in_range g (record { start = 0; end = 0 }) ≡ false
    empty g = if_lt-no _ _ (omega arith) ∙ if_lt-no _ _ (omega arith)

past-ground : (g k : ℕ) → 8 ≤ g → is_among k (lines_on (ground_numbered g)) ≡ false
unfolding is_among lines_on
past-ground g k h = ap (λ (x : Ground). is_among k (lines_on x)) (no-ground g h)

-- on the ground g stands k exactly where g is in k's range
pub ranges-say : (g k : ℕ) → stands_on g k ≡ in_range g (stands_in k)
unfolding stands_on kinds_agree
ranges-say g k =
    elim (dec_lt k 37) [
      | yes l ↦ elim (dec_lt g 8) [
        | yes h ↦ agree-is (is_among k (lines_on (ground_numbered g))) (in_range g (stands_in k))
            (under_at (kinds_agree k) 8 g (under_at (λ j. under (kinds_agree j) 8) 37 k all-agree l) h)
        | no h ↦ past-ground g k (omega arith) ∙ sym (low-high g k (omega arith) l)
      ]
      | no l ↦ among-past 37 k (lines_on (ground_numbered g)) (lines-low (ground_numbered g)) (omega arith) ∙ sym (past-kinds g k (omega arith))
    ]

-- the two directions
pub stands-range : (g k : ℕ) → stands_on g k ≡ true → ((stands_in k).start ≤ g) × (g < (stands_in k).end)
stands-range g k e = by (sym (ranges-say g k) ∙ e)
  where
    by : in_range g (stands_in k) ≡ true → ((stands_in k).start ≤ g) × (g < (stands_in k).end)
    by =
        either (λ (b : Bool). b ≡ true → ((stands_in k).start ≤ g) × (g < (stands_in k).end)) g (stands_in k).start _ _ (λ _ q. true-false (sym q))
        (λ a. either (λ (b : Bool). b ≡ true → ((stands_in k).start ≤ g) × (g < (stands_in k).end)) g (stands_in k).end _ _ (λ b _. (a, b)) (λ _ q. true-false (sym q)))

pub range-stands : (g k : ℕ) → (stands_in k).start ≤ g → g < (stands_in k).end → stands_on g k ≡ true
range-stands g k a b = ranges-say g k ∙ if_lt-no _ _ a ∙ if_lt-yes _ _ b

pub below-stands : (g k : ℕ) → g < (stands_in k).start → stands_on g k ≡ false
below-stands g k a = ranges-say g k ∙ if_lt-yes _ _ a

pub past-stands : (g k : ℕ) → (stands_in k).start ≤ g → (stands_in k).end ≤ g → stands_on g k ≡ false
past-stands g k a b = ranges-say g k ∙ if_lt-no _ _ a ∙ if_lt-no _ _ b

le-is : (a b : ℕ) → is_le (nat_cmp a b) ≡ leb a b
le-is a b = grind (arith, nat_tests)

lt-is : (a b : ℕ) → is_lt (nat_cmp a b) ≡ ltb a b
lt-is a b = grind (arith, nat_tests)

-- what the library's range answers of a ground
pub contained : (g : ℕ) (x : Range ℕ) → (is_le (nat_cmp x.start g) && is_lt (nat_cmp g x.end)) ≡ (leb x.start g && ltb g x.end)
contained g x = ap₂ ◌&&◌ (le-is x.start g) (lt-is g x.end)

in_range-test : (g : ℕ) (x : Range ℕ) → (leb x.start g && ltb g x.end) ≡ in_range g x
unfolding if_lt
in_range-test g x = grind (arith, nat_tests)

pub contained-stands : (g k : ℕ) (x : Range ℕ) (b : Bool) → x ≡ stands_in k → b ≡ (is_le (nat_cmp x.start g) && is_lt (nat_cmp g x.end)) → b ≡ stands_on g k
contained-stands g k x b e q = q ∙ contained g x ∙ in_range-test g x ∙ ap (in_range g) e ∙ sym (ranges-say g k)
