-- The ways through the functions on nesting.
-- Assumes nothing.
use mathlib.Core.Path.{◌≡◌, refl, ap, ap₂, ◌∙◌}
use Rattle.std.proofs.Common.{◌&&◌}
use Rattle.lang_kinds.proofs.Standing.{contained}
use Rattle.std.specs.Ordering.{is_le, is_lt, nat_cmp}
use lib.Dec.{leb}
use mathlib.Core.Bool.{Bool, true, false}
use mathlib.Core.List.{List, [], ◌∷◌}
use Prim.Native.Nat.{ℕ, suc, ◌-◌, ◌<◌, ◌≤◌}
use native.Mathlib.Omega.{arith}
use lib.Dec.{eqb, ltb}
use borrow.Author.Tests.{eq-eqb, ne_eqb, le-leb, lt-leb}
use Rattle.base_prelude.specs.Choice.{if_true, if_eq}
use Rattle.lang_kinds.specs.Nesting.{stands_in, enters, leaves, ground_of, is_frame}
use Rattle.std.specs.declared.ops.Range.{Range}
use Rattle.prog_tables.specs.Tests.{both, given, all, all_below}
use Rattle.prog_tables.specs.Statement.{Row, row_at, is_test}
use Rattle.prog_tables.specs.Nesting.{behind, open_before, ground_in, func_in, scope_in, up_in, is_listed, may_stand, follows_jump, stands, all_closed}
use Rattle.prog_tables.proofs.Each.{last-true}
use Rattle.prog_rules.specs.Rules.{stands_there, fields_stand}

-- ---- what is open before a row

module _ (f : ℕ → Row) (n : ℕ) where
  pub open_none : n ≡ 0 → 0 ≡ open_before f n
  unfolding open_before
  open_none e = rw e

  pub jump-none : n ≡ 0 → false ≡ follows_jump f n
  unfolding follows_jump
  jump-none e = rw e

  module _ (k : ℕ) (h : n ≡ 0 → ⊥) (e : k ≡ (f (n - 1)).kind) where
    one : n ≡ suc (n - 1)
    one = omega arith

    pub open_self : (b : Bool) → b ≡ enters k → b ≡ true → n ≡ open_before f n
    unfolding open_before behind if_true
    open_self b d q = rw (one, ← e, ← d, q)

    pub open_up : (b : Bool) (u : ℕ) → b ≡ enters k → b ≡ false → u ≡ (f (n - 1)).up → u ≡ open_before f n
    unfolding open_before behind if_true
    open_up b u d q r = rw (one, ← e, ← d, q) r

    pub jump-kind : eqb k 21 ≡ follows_jump f n
    unfolding follows_jump
    jump-kind = rw (one, ← e)

pub ruleset opening = (open_none, open_self, open_up, jump-none, jump-kind)

module _ (f : ℕ → Row) (o : ℕ) where
  pub ground-none : o ≡ 0 → 1 ≡ ground_in f o
  unfolding ground_in if_eq
  ground-none e = rw (eq-eqb _ _ e)

  pub ground-kind : (k g : ℕ) → (o ≡ 0 → ⊥) → k ≡ (f (o - 1)).kind → g ≡ ground_of k → g ≡ ground_in f o
  unfolding ground_in if_eq
  ground-kind k g h e d = rw (ne_eqb _ _ h, ← e) d

pub ruleset grounds = (ground-none, ground-kind)

both-is : (p q : Bool) → (p && q) ≡ both p q
both-is true q = refl
both-is false q = refl

module _ (k g : ℕ) (x : Range ℕ) (e : x ≡ stands_in k) where
  low-is : x.start ≡ (stands_in k).start
  low-is = ap (λ (y : Range ℕ). y.start) e

  high_is : x.end ≡ (stands_in k).end
  high_is = ap (λ (y : Range ℕ). y.end) e

  pub may-test : (r : Bool) → r ≡ (is_le (nat_cmp x.start g) && is_lt (nat_cmp g x.end)) → r ≡ may_stand k g
  unfolding may_stand
  may-test r q = q ∙ contained g x ∙ both-is (leb x.start g) (ltb g x.end) ∙ rw (low-is, high_is) refl

pub ruleset may = (may-test)

module _ (f : ℕ → Row) (k n : ℕ) (b : Bool) (e : b ≡ follows_jump f n) where
  pub followed-test : (v : Bool) → b ≡ true → v ≡ is_test k → v ≡ given (follows_jump f n) (is_test k)
  followed-test v h d = rw (← e, h) d

  pub followed-free : b ≡ false → true ≡ given (follows_jump f n) (is_test k)
  followed-free h = rw (← e, h)

pub ruleset followed = (followed-test, followed-free)

-- ---- the fields of a row

module _ (r : Row) (k n : ℕ) where
  pub func-own : k ≡ 1 → n ≡ func_in k n r
  unfolding func_in if_eq
  func-own h = rw (eq-eqb _ _ h)

  pub func-open : (g : ℕ) → (k ≡ 1 → ⊥) → g ≡ r.func → g ≡ func_in k n r
  unfolding func_in if_eq
  func-open g h d = rw (ne_eqb _ _ h) d

  pub scope-own : (o : ℕ) → k ≡ 1 → n ≡ scope_in k n o r
  unfolding scope_in if_eq
  scope-own o h = rw (eq-eqb _ _ h)

module _ (t : List ℕ) (k n o e j : ℕ) (b : Bool) (h : k ≡ 1 → ⊥) (d : e ≡ o - 1) (q : j ≡ (row_at t e).kind) (r : b ≡ is_frame j) where
  pub scope-frame : b ≡ true → e ≡ scope_in k n o (row_at t (o - 1))
  unfolding scope_in if_eq if_true
  scope-frame l = rw (ne_eqb _ _ h, ← d, ← q, ← r, l)

  pub scope-open : (s : ℕ) → b ≡ false → s ≡ (row_at t e).scope → s ≡ scope_in k n o (row_at t (o - 1))
  unfolding scope_in if_eq if_true
  scope-open s l m = rw (ne_eqb _ _ h, ← d, ← q, ← r, l) m

module _ (r : Row) (k o : ℕ) (b : Bool) (e : b ≡ leaves k) where
  pub up-open : (u : ℕ) → b ≡ true → u ≡ r.up → u ≡ up_in k o r
  unfolding up_in if_true
  up-open u l m = rw (← e, l) m

  pub up-self : b ≡ false → o ≡ up_in k o r
  unfolding up_in if_true
  up-self l = rw (← e, l)

pub ruleset fields = (func-own, func-open, scope-own, scope-frame, scope-open, up-open, up-self)

-- ---- the tests

module _ (f : ℕ → Row) (k n o : ℕ) (b : Bool) (e : b ≡ is_listed k) where
  pub there-unlisted : b ≡ false → false ≡ stands_there f k n o
  unfolding stands_there all
  there-unlisted h = rw (← e, h)

  module _ (g : ℕ) (v : Bool) (h : b ≡ true) (d : g ≡ ground_in f o) (q : v ≡ may_stand k g) where
    pub there-wrong : v ≡ false → false ≡ stands_there f k n o
    unfolding stands_there all
    there-wrong r = rw (← e, h, ← d, ← q, r)

    pub there-right : (w : Bool) → v ≡ true → w ≡ given (follows_jump f n) (is_test k) → w ≡ stands_there f k n o
    unfolding stands_there all
    there-right w r m = rw (← e, h, ← d, ← q, r, ← m) (last-true w)

module _ (t : List ℕ) (k n o e g x : ℕ) (d : e ≡ o - 1) (q : g ≡ (row_at t n).func) (r : x ≡ func_in k n (row_at t e)) where
  pub fields-func : (g ≡ x → ⊥) → false ≡ fields_stand (row_at t) k n o
  unfolding fields_stand all
  fields-func h = rw (← d, ← q, ← r, ne_eqb _ _ h)

  module _ (s y : ℕ) (h : g ≡ x) (l : s ≡ (row_at t n).scope) (m : y ≡ scope_in k n o (row_at t (o - 1))) where
    pub fields-scope : (s ≡ y → ⊥) → false ≡ fields_stand (row_at t) k n o
    unfolding fields_stand all
    fields-scope i = rw (← l, ← m, ← d, ← q, ← r, eq-eqb _ _ h, ne_eqb _ _ i)

    pub fields_up : (u z : ℕ) → s ≡ y → u ≡ (row_at t n).up → z ≡ up_in k o (row_at t e) → eqb u z ≡ fields_stand (row_at t) k n o
    unfolding fields_stand all
    fields_up u z i v w = rw (← l, ← m, ← d, ← q, ← r, ← v, ← w, eq-eqb _ _ h, eq-eqb _ _ i) (last-true (eqb u z))

pub ruleset standing = (there-unlisted, there-wrong, there-right, fields-func, fields-scope, fields_up)

pub both-six : (a b c x y z : Bool) → all (a ∷ b ∷ c ∷ x ∷ y ∷ z ∷ []) ≡ both (all (a ∷ b ∷ c ∷ [])) (all (x ∷ y ∷ z ∷ []))
unfolding all
both-six true true true x y z = refl
both-six true true false x y z = refl
both-six true false c x y z = refl
both-six false b c x y z = refl

module _ (f : ℕ → Row) (n k o : ℕ) (b : Bool) (e : k ≡ (f n).kind) (d : o ≡ open_before f n) (q : b ≡ stands_there f k n o) where
  parts : stands f n ≡ both (stands_there f k n o) (fields_stand f k n o)
  unfolding stands stands_there fields_stand
  parts = rw (e, d) (both-six _ _ _ _ _ _)

  pub stands-not : b ≡ false → false ≡ stands f n
  stands-not h = rw (parts, ← q, h)

  pub stands-fields : (v : Bool) → b ≡ true → v ≡ fields_stand f k n o → v ≡ stands f n
  stands-fields v h r = rw (parts, ← q, h) r

pub ruleset stand = (stands-not, stands-fields)

module _ (f : ℕ → Row) (c o : ℕ) (e : o ≡ open_before f c) where
  pub nested-open : (o ≡ 0 → ⊥) → false ≡ both (all_closed f c) (all_below (stands f) c)
  unfolding all_closed
  nested-open h = rw (← e, ne_eqb _ _ h)

  pub nested-all : (b : Bool) → o ≡ 0 → b ≡ all_below (stands f) c → b ≡ both (all_closed f c) (all_below (stands f) c)
  unfolding all_closed
  nested-all b h d = rw (← e, eq-eqb _ _ h) d

pub ruleset nested = (nested-open, nested-all)
