-- The ways through the functions on jumps and calls, and through all rules of a row.
-- Assumes nothing.
use mathlib.Core.Path.{◌≡◌, refl, sym}
use mathlib.Core.Bool.{Bool, true, false}
use mathlib.Core.List.{[], ◌∷◌}
use Prim.Native.Nat.{ℕ, ◌<◌, ◌≤◌}
use lib.Dec.{eqb, leb}
use borrow.Author.Tests.{eq-eqb, ne_eqb, lt-ltb, le-ltb}
use Rattle.prog_tables.specs.Tests.{both, all}
use Rattle.prog_tables.specs.Statement.{Row, is_call, is_import}
use Rattle.prog_tables.specs.Label.{Label, is_function_label}
use Rattle.prog_tables.specs.Program.{Program}
use Rattle.prog_tables.specs.WellFormed.{shallow, aimed, labelled, jumps, function_calls, import_calls, calls, forward_calls, shaped}
use Rattle.prog_tables.proofs.Each.{last-true}
use Rattle.prog_rules.specs.Rules.{rule_tests, ways_ruled, calls_ruled, is_callee, is_imported}
use Rattle.prog_rules.proofs.Nesting.{both-six}

-- ---- jumps

module _ (prog : Program) (n x : ℕ) (e : x ≡ (prog.rows n).kind) where
  pub jump-other : (x ≡ 10 → ⊥) → true ≡ jumps prog n
  unfolding jumps
  jump-other h = rw (← e, ne_eqb _ _ h)

  module _ (a : ℕ) (h : x ≡ 10) (d : a ≡ (prog.rows n).a) where
    pub jump-far : prog.count ≤ a → false ≡ jumps prog n
    unfolding jumps all
    jump-far l = rw (← e, eq-eqb _ _ h, ← d, le-ltb _ _ l)

    module _ (u v : ℕ) (l : a < prog.count) (q : u ≡ (prog.rows a).func) (r : v ≡ (prog.rows n).func) where
      pub jump-func : (u ≡ v → ⊥) → false ≡ jumps prog n
      unfolding jumps all
      jump-func i = rw (← e, eq-eqb _ _ h, ← d, lt-ltb _ _ l, ← q, ← r, ne_eqb _ _ i)

      module _ (y z : ℕ) (i : u ≡ v) (m : y ≡ (prog.rows a).scope) (w : z ≡ (prog.rows n).scope) where
        pub jump-scope : (y ≡ z → ⊥) → false ≡ jumps prog n
        unfolding jumps all
        jump-scope o = rw (← e, eq-eqb _ _ h, ← d, lt-ltb _ _ l, ← q, ← r, eq-eqb _ _ i, ← m, ← w, ne_eqb _ _ o)

        pub jump_label : (b : Bool) → y ≡ z → b ≡ labelled prog.labels prog.label_count (λ k. eqb k 5) a → b ≡ jumps prog n
        unfolding jumps all
        jump_label b o s =
            rw (← e, eq-eqb _ _ h, ← d, lt-ltb _ _ l, ← q, ← r, eq-eqb _ _ i, ← m, ← w, eq-eqb _ _ o, ← s) (last-true b)

pub ruleset jumping = (jump-other, jump-far, jump-func, jump-scope, jump_label)

-- ---- callees

module _ (f : ℕ → Row) (g m j : ℕ) (e : j ≡ (f g).kind) where
  pub callee-other : (j ≡ 1 → ⊥) → false ≡ is_callee f g m
  unfolding is_callee all
  callee-other h = rw (← e, ne_eqb _ _ h)

  module _ (p : ℕ) (h : j ≡ 1) (d : p ≡ (f g).b) where
    pub callee-count : (p ≡ m → ⊥) → false ≡ is_callee f g m
    unfolding is_callee all
    callee-count i = rw (← e, eq-eqb _ _ h, ← d, ne_eqb _ _ i)

    pub callee-few : p ≡ m → leb m 8 ≡ is_callee f g m
    unfolding is_callee all
    callee-few i = rw (← e, eq-eqb _ _ h, ← d, eq-eqb _ _ i) (last-true (leb m 8))

module _ (f : ℕ → Label) (g m j : ℕ) (e : j ≡ (f g).kind) where
  pub import-other : (j ≡ 6 → ⊥) → false ≡ is_imported f g m
  unfolding is_imported all
  import-other h = rw (← e, ne_eqb _ _ h)

  module _ (p : ℕ) (h : j ≡ 6) (d : p ≡ (f g).arguments) where
    pub import-count : (p ≡ m → ⊥) → false ≡ is_imported f g m
    unfolding is_imported all
    import-count i = rw (← e, eq-eqb _ _ h, ← d, ne_eqb _ _ i)

    pub import-few : p ≡ m → leb m 8 ≡ is_imported f g m
    unfolding is_imported all
    import-few i = rw (← e, eq-eqb _ _ h, ← d, eq-eqb _ _ i) (last-true (leb m 8))

pub ruleset callees = (callee-other, callee-count, callee-few, import-other, import-count, import-few)

-- ---- calls

three-two : (a b c d : Bool) → both (all (a ∷ b ∷ c ∷ [])) d ≡ all (a ∷ b ∷ c ∷ d ∷ [])
unfolding all
three-two true true true d = last-true d
three-two true true false d = refl
three-two true false c d = refl
three-two false b c d = refl

module _ (prog : Program) (n x y : ℕ) (b : Bool) (e : x ≡ (prog.rows n).kind) (w : y ≡ (prog.rows n).expr) (d : b ≡ is_call x y) where
  pub call_none : b ≡ false → true ≡ function_calls prog n
  unfolding function_calls
  call_none h = rw (← e, ← w, ← d, h)

  pub forward-none : b ≡ false → true ≡ forward_calls prog n
  unfolding forward_calls
  forward-none h = rw (← e, ← w, ← d, h)

  module _ (g : ℕ) (h : b ≡ true) (r : g ≡ (prog.rows n).callee) where
    pub call-far : prog.count ≤ g → false ≡ function_calls prog n
    unfolding function_calls all
    call-far l = rw (← e, ← w, ← d, h, ← r, le-ltb _ _ l)

    pub forward-back : g ≤ n → true ≡ forward_calls prog n
    unfolding forward_calls
    forward-back l = rw (← e, ← w, ← d, h, ← r, le-ltb _ _ l)

    pub forward-label : (v : Bool) → n < g → v ≡ labelled prog.labels prog.label_count (λ k. eqb k 3) g → v ≡ forward_calls prog n
    unfolding forward_calls
    forward-label v l q = rw (← e, ← w, ← d, h, ← r, lt-ltb _ _ l) q

    module _ (m : ℕ) (v : Bool) (l : g < prog.count) (q : m ≡ (prog.rows n).count) (i : v ≡ is_callee prog.rows g m) where
      rest : function_calls prog n ≡ both v (labelled prog.labels prog.label_count is_function_label g)
      unfolding function_calls is_callee all
      rest =
          rw (← e, ← w, ← d, h, ← r, lt-ltb _ _ l, ← q, i)
          (sym (three-two (eqb (prog.rows g).kind 1) (eqb (prog.rows g).b m) (leb m 8) (labelled prog.labels prog.label_count is_function_label g)))

      pub call-other : v ≡ false → false ≡ function_calls prog n
      call-other s = rw (rest, s)

      pub call-label : (z : Bool) → v ≡ true → z ≡ labelled prog.labels prog.label_count is_function_label g → z ≡ function_calls prog n
      call-label z s o = rw (rest, s) o

pub ruleset calling = (call_none, call-far, call-other, call-label)

pub ruleset forward = (forward-none, forward-back, forward-label)

module _ (prog : Program) (n x y : ℕ) (b : Bool) (e : x ≡ (prog.rows n).kind) (w : y ≡ (prog.rows n).expr) (d : b ≡ is_import x y) where
  pub hosted-none : b ≡ false → true ≡ import_calls prog n
  unfolding import_calls
  hosted-none h = rw (← e, ← w, ← d, h)

  module _ (g : ℕ) (h : b ≡ true) (r : g ≡ (prog.rows n).callee) where
    pub hosted-far : prog.label_count ≤ g → false ≡ import_calls prog n
    unfolding import_calls all
    hosted-far l = rw (← e, ← w, ← d, h, ← r, le-ltb _ _ l)

    pub hosted-label : (m : ℕ) (v : Bool) → g < prog.label_count → m ≡ (prog.rows n).count → v ≡ is_imported prog.labels g m → v ≡ import_calls prog n
    unfolding import_calls is_imported all
    hosted-label m v l q i = rw (← e, ← w, ← d, h, ← r, lt-ltb _ _ l, ← q) i

pub ruleset importing = (hosted-none, hosted-far, hosted-label)

module _ (prog : Program) (n : ℕ) (b : Bool) (d : b ≡ function_calls prog n) where
  pub calls-not : b ≡ false → false ≡ calls prog n
  unfolding calls
  calls-not h = rw (← d, h)

  pub calls-import : (v : Bool) → b ≡ true → v ≡ import_calls prog n → v ≡ calls prog n
  unfolding calls
  calls-import v h q = rw (← d, h) q

pub ruleset call-ways = (calls-not, calls-import)

-- ---- all rules of a row

module _ (prog : Program) (n : ℕ) (b : Bool) where
  module _ (e : b ≡ shallow prog.rows n) where
    pub ways-deep : b ≡ false → false ≡ ways_ruled prog n
    unfolding ways_ruled all
    ways-deep h = rw (← e, h)

    module _ (v : Bool) (h : b ≡ true) (d : v ≡ aimed prog.rows prog.count n) where
      pub ways-astray : v ≡ false → false ≡ ways_ruled prog n
      unfolding ways_ruled all
      ways-astray q = rw (← e, h, ← d, q)

      pub ways-jumps : (w : Bool) → v ≡ true → w ≡ jumps prog n → w ≡ ways_ruled prog n
      unfolding ways_ruled all
      ways-jumps w q r = rw (← e, h, ← d, q, ← r) (last-true w)

  module _ (e : b ≡ calls prog n) where
    pub ruled-calls : b ≡ false → false ≡ calls_ruled prog n
    unfolding calls_ruled all
    ruled-calls h = rw (← e, h)

    module _ (v : Bool) (h : b ≡ true) (d : v ≡ shaped prog.rows n) where
      pub ruled-shape : v ≡ false → false ≡ calls_ruled prog n
      unfolding calls_ruled all
      ruled-shape q = rw (← e, h, ← d, q)

      pub ruled-forward : (w : Bool) → v ≡ true → w ≡ forward_calls prog n → w ≡ calls_ruled prog n
      unfolding calls_ruled all
      ruled-forward w q r = rw (← e, h, ← d, q, ← r) (last-true w)

  module _ (e : b ≡ ways_ruled prog n) where
    halves : all (rule_tests prog n) ≡ both b (calls_ruled prog n)
    unfolding rule_tests ways_ruled calls_ruled
    halves = rw e (both-six _ _ _ _ _ _)

    pub rules-not : b ≡ false → false ≡ all (rule_tests prog n)
    rules-not h = rw (halves, h)

    pub rules-calls : (v : Bool) → b ≡ true → v ≡ calls_ruled prog n → v ≡ all (rule_tests prog n)
    rules-calls v h q = rw (halves, h) q

pub ruleset ways = (ways-deep, ways-astray, ways-jumps)

pub ruleset call-rules = (ruled-calls, ruled-shape, ruled-forward)

pub ruleset row-ways = (rules-not, rules-calls)
