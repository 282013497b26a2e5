-- `all` and `any` over a range from 0: whether every, or some, number below a bound passes.
-- Assumes nothing.
use mathlib.Core.Path.{◌≡◌, refl, sym, ◌∙◌, ap}
use mathlib.Core.Bool.{Bool, true, false}
use mathlib.Core.List.{List, [], ◌∷◌, ◌++◌}
use Prim.Native.Nat.{ℕ, zero, suc, ◌+◌, ◌<◌}
use native.Mathlib.Omega.{arith}
use denote.Param.Members.{Mut}
use Rattle.std.specs.Prelude.{◌&&◌, ◌||◌}
use Rattle.std.specs.Fn.{Called}
use Rattle.std.specs.Iterator.{YieldsThen}
use Rattle.std.specs.List.{FoldsTo, range_with_len, list_all, list_any}
use Rattle.std.specs.Option.{MatchOption}
use Rattle.std.specs.declared.option.Option.{Option}
use Rattle.std.specs.declared.ops.Range.{Range}
use Rattle.std.proofs.iter.Yields.{nat_range_steps}
use Rattle.std.proofs.lemmas.Iterator.{YieldsList-from_range}
use Rattle.std.proofs.lemmas.Iterator.Search.{all_from_yields_List, any_from_yields_List}
use Rattle.std.proofs.lemmas.List.Folds.{list_all-append, list_any-append}
use Rattle.base_prelude.proofs.Choice.{true-false}
use Rattle.prog_tables.proofs.Each.{some_at}
use Rattle.prog_tables.specs.Tests.{both, one_of, all_below, some_below}

range-last : (n a : ℕ) → range_with_len a (suc n) ≡ range_with_len a n ++ ((a + n) ∷ [])
range-last zero a = let e : a ≡ a + 0 = omega arith in ap (λ (k : ℕ). k ∷ []) e
range-last (suc n) a =
    let e : a + 1 + n ≡ a + suc n = omega arith in
    ap (λ (l : List ℕ). a ∷ l) (range-last n (a + 1) ∙ ap (λ (k : ℕ). range_with_len (a + 1) n ++ (k ∷ [])) e)

last-both : (a b : Bool) → (a && (b && true)) ≡ both b a
last-both true true = refl
last-both true false = refl
last-both false true = refl
last-both false false = refl

last-one : (a b : Bool) → (a || (b || false)) ≡ one_of b a
last-one true true = refl
last-one true false = refl
last-one false true = refl
last-one false false = refl

all-below : (p : ℕ → Bool) (n : ℕ) → list_all p (range_with_len 0 n) ≡ all_below p n
unfolding all_below
all-below p zero = refl
all-below p (suc n) =
    let e : 0 + n ≡ n = omega arith in
    ap (list_all p) (range-last n 0 ∙ ap (λ (k : ℕ). range_with_len 0 n ++ (k ∷ [])) e)
    ∙ list_all-append p (range_with_len 0 n) (n ∷ [])
    ∙ ap (λ (b : Bool). b && (p n && true)) (all-below p n)
    ∙ last-both (all_below p n) (p n)

some-below : (p : ℕ → Bool) (n : ℕ) → list_any p (range_with_len 0 n) ≡ some_below p n
unfolding some_below
some-below p zero = refl
some-below p (suc n) =
    let e : 0 + n ≡ n = omega arith in
    ap (list_any p) (range-last n 0 ∙ ap (λ (k : ℕ). range_with_len 0 n ++ (k ∷ [])) e)
    ∙ list_any-append p (range_with_len 0 n) (n ∷ [])
    ∙ ap (λ (b : Bool). b || (p n || false)) (some-below p n)
    ∙ last-one (some_below p n) (p n)

-- not every number below the bound passes: one fails
pub fails-below : (p : ℕ → Bool) (n : ℕ) → all_below p n ≡ false → (i : ℕ) × (i < n) × (p i ≡ false)
unfolding all_below
fails-below p zero e = true-false e
fails-below p (suc n) e =
    split (p n) (fails-below p n) refl
  where
    split : (b : Bool) → (all_below p n ≡ false → (i : ℕ) × (i < n) × (p i ≡ false)) → p n ≡ b → (i : ℕ) × (i < suc n) × (p i ≡ false)
    split false rest d = (n, omega arith, d)
    split true rest d = let r = rest (sym (ap (λ (b : Bool). both b (all_below p n)) d) ∙ e) in (r.0, omega (arith, r.1), r.2)

-- some number below the bound passes: one does
pub passes-below : (p : ℕ → Bool) (n : ℕ) → some_below p n ≡ true → (i : ℕ) × (i < n) × (p i ≡ true)
unfolding some_below
passes-below p zero e = true-false (sym e)
passes-below p (suc n) e =
    split (p n) (passes-below p n) refl
  where
    split : (b : Bool) → (some_below p n ≡ true → (i : ℕ) × (i < n) × (p i ≡ true)) → p n ≡ b → (i : ℕ) × (i < suc n) × (p i ≡ true)
    split true rest d = (n, omega arith, d)
    split false rest d = let r = rest (sym (ap (λ (b : Bool). one_of b (some_below p n)) d) ∙ e) in (r.0, omega (arith, r.1), r.2)

pub none-below : (p : ℕ → Bool) (n i : ℕ) → some_below p n ≡ false → i < n → p i ≡ false
none-below p n i e h = split (p i) refl
  where
    split : (b : Bool) → p i ≡ b → p i ≡ false
    split false d = d
    split true d = true-false (sym (some_at p n i h d) ∙ e)

-- what `(0..n).all(test)` gives, where the test computes p
pub every : {F : Type 0} {g : Mut F (ℕ × Unit {0}) Bool} (p : ℕ → Bool) (n : ℕ) (s u : Range ℕ) (f : F) (r : Bool) → s ≡ record { start = 0; end = n }
    → (xs : List ℕ) × (o : Option ℕ) × (j : F) × YieldsThen nat_range_steps s xs o u × FoldsTo (λ p x q. Called g p (x, tt) true q) f xs j × MatchOption o (r ≡ true) (λ x. (r ≡ false) × ((h : F) × Called g j (x, tt) false h))
    → ((x : ℕ) (b : Bool) (q : F) → Called g f (x, tt) b q → (q ≡ f) × (b ≡ p x)) → r ≡ all_below p n
every p n s u f r e ran k = all_from_yields_List p u f r ran (YieldsList-from_range 0 n n e (omega arith)) k ∙ all-below p n

-- what `(0..n).any(test)` gives
pub any_of : {F : Type 0} {g : Mut F (ℕ × Unit {0}) Bool} (p : ℕ → Bool) (n : ℕ) (s u : Range ℕ) (f : F) (r : Bool) → s ≡ record { start = 0; end = n }
    → (xs : List ℕ) × (o : Option ℕ) × (j : F) × YieldsThen nat_range_steps s xs o u × FoldsTo (λ p x q. Called g p (x, tt) false q) f xs j × MatchOption o (r ≡ false) (λ x. (r ≡ true) × ((h : F) × Called g j (x, tt) true h))
    → ((x : ℕ) (b : Bool) (q : F) → Called g f (x, tt) b q → (q ≡ f) × (b ≡ p x)) → r ≡ some_below p n
any_of p n s u f r e ran k = any_from_yields_List p u f r ran (YieldsList-from_range 0 n n e (omega arith)) k ∙ some-below p n
