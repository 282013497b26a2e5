-- Well-formed tables have no broken row: kinds, targets, callees and frame sizes.
-- Assumes nothing.
use mathlib.Core.Path.{◌≡◌, refl, sym, ◌∙◌, subst}
use mathlib.Core.Bool.{Bool, true, false, not}
use mathlib.Core.List.{List, [], ◌∷◌}
use Prim.Native.Nat.{ℕ, ◌+◌, ◌<◌}
use native.Mathlib.Omega.{arith}
use borrow.Author.Tests.{eqb-true, eq-eqb, ltb-true, lt-ltb, le-ltb}
use lib.Dec.{eqb, ltb, leb}
use Rattle.base_prelude.proofs.Choice.{true-false, if_true-yes}
use Rattle.base_limits.specs.declared.Width.{Width}
use Rattle.prog_tables.specs.Layout.{frame_head}
use Rattle.prog_tables.specs.Tests.{both, one_of, given, all}
use Rattle.prog_tables.specs.Statement.{is_call, is_import, used_by}
use Rattle.prog_tables.specs.Label.{Tables, rows, labels_of, is_function_label}
use Rattle.prog_tables.specs.Program.{program_from}
use Rattle.prog_tables.specs.Nesting.{open_before, stands, all_closed, target_of, has_target}
use Rattle.prog_tables.specs.Frames.{frame_size, block_word, let_word, lets_before, locals_at}
use Rattle.prog_tables.specs.Faults.{expression_fault, in_function, kind_fault, target_fault, function_fault, import_fault, callee_fault, size_fault}
use Rattle.prog_tables.specs.WellFormed.{aimed, labelled, jumps, function_calls, import_calls, calls, has_operands, shaped, framed, WellFormed}
use Rattle.prog_tables.proofs.Each.{both_left, both_right, both_true, given-then, all-at, all_closed_lem, stands_at, aimed-at, jumps_at, calls_at, shaped-at, framed_at}
use Rattle.prog_tables.proofs.Nested.{not-true, here, Held, held}
use Rattle.prog_tables.proofs.Targets.{Aimed, target-aimed}

-- ---- tests

given_both : (p q : Bool) → given p q ≡ true → both p (not q) ≡ false
given_both true true e = refl
given_both true false e = true-false (sym e)
given_both false q e = refl

given-or : (p q y : Bool) → (p ≡ true → y ≡ true) → (q ≡ true → y ≡ true) → given (one_of p q) y ≡ true
given-or true q y a b = a refl
given-or false true y a b = b refl
given-or false false y a b = refl

given-map : (p q r : Bool) → given p q ≡ true → (q ≡ true → r ≡ true) → given p r ≡ true
given-map true q r e k = k e
given-map false q r e k = refl

neither : (p q : Bool) → p ≡ false → q ≡ false → one_of p q ≡ false
neither true q e d = e
neither false q e d = d

pub both_false : (p q : Bool) → (p ≡ true → q ≡ false) → both p q ≡ false
both_false true q k = k refl
both_false false q k = refl

-- ---- rows of well-formed tables

module _ (bits : Width) (t : Tables) (w : WellFormed (program_from bits t)) where
  pub ok : (n : ℕ) → n < t.count → stands (rows t) n ≡ true
  ok n h = stands_at bits t w n h

  pub shut : open_before (rows t) t.count ≡ 0
  unfolding all_closed
  shut = eqb-true _ _ (all_closed_lem bits t w)

  module _ (n : ℕ) (h : n < t.count) where
    pub kind-sound : kind_fault (program_from bits t) n ≡ false
    unfolding kind_fault shaped
    kind-sound =
        if_true-yes (expression_fault (rows t n).kind (rows t n).expr) true (here (rows t) t.count ok n h).listed
        ∙ not-true (expression_fault (rows t n).kind (rows t n).expr)
        (both_left (not (expression_fault (rows t n).kind (rows t n).expr))
        (given (has_operands (rows t n).kind) (eqb (rows t n).count (used_by (rows t n).kind (rows t n).expr (rows t n).count))) (shaped-at bits t w n h))

    pub row-held : Held (rows t) t.count ok n
    row-held = held (rows t) t.count ok t.count (omega arith) n h

    -- "a statement of the same function"
    pub function-sound : in_function (rows t) t.count n ≡ true
    unfolding in_function
    function-sound =
        both_true (ltb (rows t n).func t.count) (eqb (rows t (rows t n).func).kind 1) (lt-ltb (rows t n).func t.count (omega (arith, row-held.before))) (eq-eqb _ _ row-held.is-function)

    -- each row's target is a statement of its function
    pub target-good : has_target (rows t n).kind ≡ true → Aimed (rows t) t.count ok shut n (rows t n).a
    unfolding aimed
    target-good e =
        subst (Aimed (rows t) t.count ok shut n)
        (sym (eqb-true _ _ (given-then (has_target (rows t n).kind) (eqb (rows t n).a (target_of (rows t) t.count n)) (aimed-at bits t w n h) e)))
        (target-aimed (rows t) t.count ok shut n h e)

    goto-tests : List Bool
    goto-tests =
        ltb (rows t n).a t.count
        ∷ eqb (rows t (rows t n).a).func (rows t n).func
        ∷ eqb (rows t (rows t n).a).scope (rows t n).scope
        ∷ labelled (labels_of t) t.label_count (λ k. eqb k 5) (rows t n).a
        ∷ []

    pub goto-good : eqb (rows t n).kind 10 ≡ true → Aimed (rows t) t.count ok shut n (rows t n).a
    unfolding jumps goto-tests
    goto-good e =
        let q : all goto-tests ≡ true = given-then (eqb (rows t n).kind 10) (all goto-tests) (jumps_at bits t w n h) e in
        record { within = ltb-true _ _ (all-at goto-tests 0 q (omega arith)); same = eqb-true _ _ (all-at goto-tests 1 q (omega arith)) }

    pub target_sound : target_fault (program_from bits t) n ≡ false
    unfolding target_fault
    target_sound =
        given_both (one_of (has_target (rows t n).kind) (eqb (rows t n).kind 10)) (both (in_function (rows t) t.count n) (both (ltb (rows t n).a t.count) (eqb (rows t (rows t n).a).func (rows t n).func)))
        (given-or (has_target (rows t n).kind) (eqb (rows t n).kind 10) (both (in_function (rows t) t.count n) (both (ltb (rows t n).a t.count) (eqb (rows t (rows t n).a).func (rows t n).func)))
        (λ e. inside (target-good e)) (λ e. inside (goto-good e)))
      where
        inside : Aimed (rows t) t.count ok shut n (rows t n).a → both (in_function (rows t) t.count n) (both (ltb (rows t n).a t.count) (eqb (rows t (rows t n).a).func (rows t n).func)) ≡ true
        inside x =
            both_true (in_function (rows t) t.count n) (both (ltb (rows t n).a t.count) (eqb (rows t (rows t n).a).func (rows t n).func)) function-sound
            (both_true (ltb (rows t n).a t.count) (eqb (rows t (rows t n).a).func (rows t n).func) (lt-ltb _ _ x.within) (eq-eqb _ _ x.same))

    call-tests : List Bool
    call-tests =
        ltb (rows t n).callee t.count
        ∷ eqb (rows t (rows t n).callee).kind 1
        ∷ eqb (rows t (rows t n).callee).b (rows t n).count
        ∷ leb (rows t n).count 8
        ∷ labelled (labels_of t) t.label_count is_function_label (rows t n).callee
        ∷ []

    pub function-calls : function_calls (program_from bits t) n ≡ true
    unfolding calls
    function-calls = both_left (function_calls (program_from bits t) n) (import_calls (program_from bits t) n) (calls_at bits t w n h)

    pub import-calls : import_calls (program_from bits t) n ≡ true
    unfolding calls
    import-calls = both_right (function_calls (program_from bits t) n) (import_calls (program_from bits t) n) (calls_at bits t w n h)

    function-callee : function_fault (program_from bits t) n ≡ false
    unfolding function_fault function_calls call-tests
    function-callee =
        given_both (is_call (rows t n).kind (rows t n).expr) good
        (given-map (is_call (rows t n).kind (rows t n).expr) (all call-tests) good function-calls
        (λ q. both_true (ltb (rows t n).callee t.count) good2 (all-at call-tests 0 q (omega arith))
        (both_true (eqb (rows t (rows t n).callee).kind 1) good3 (all-at call-tests 1 q (omega arith))
        (both_true (eqb (rows t (rows t n).callee).b (rows t n).count) (leb (rows t n).count 8) (all-at call-tests 2 q (omega arith)) (all-at call-tests 3 q (omega arith))))))
      where
        good3 : Bool
        good3 = both (eqb (rows t (rows t n).callee).b (rows t n).count) (leb (rows t n).count 8)

        good2 : Bool
        good2 = both (eqb (rows t (rows t n).callee).kind 1) good3

        good : Bool
        good = both (ltb (rows t n).callee t.count) good2

    import-tests : List Bool
    import-tests =
        ltb (rows t n).callee t.label_count
        ∷ eqb (labels_of t (rows t n).callee).kind 6
        ∷ eqb (labels_of t (rows t n).callee).arguments (rows t n).count
        ∷ leb (rows t n).count 8
        ∷ []

    import-callee : import_fault (program_from bits t) n ≡ false
    unfolding import_fault import_calls import-tests
    import-callee =
        given_both (is_import (rows t n).kind (rows t n).expr) good
        (given-map (is_import (rows t n).kind (rows t n).expr) (all import-tests) good import-calls
        (λ q. both_true (ltb (rows t n).callee t.label_count) good2 (all-at import-tests 0 q (omega arith))
        (both_true (eqb (labels_of t (rows t n).callee).kind 6) good3 (all-at import-tests 1 q (omega arith))
        (both_true (eqb (labels_of t (rows t n).callee).arguments (rows t n).count) (leb (rows t n).count 8) (all-at import-tests 2 q (omega arith)) (all-at import-tests 3 q (omega arith))))))
      where
        good3 : Bool
        good3 = both (eqb (labels_of t (rows t n).callee).arguments (rows t n).count) (leb (rows t n).count 8)

        good2 : Bool
        good2 = both (eqb (labels_of t (rows t n).callee).kind 6) good3

        good : Bool
        good = both (ltb (rows t n).callee t.label_count) good2

    pub callee-sound : callee_fault (program_from bits t) n ≡ false
    unfolding callee_fault
    callee-sound = neither (function_fault (program_from bits t) n) (import_fault (program_from bits t) n) function-callee import-callee

    unfoldable pub frame-tests : List Bool
    frame-tests =
        given (eqb (rows t n).kind 5) (eqb (rows t n).a (let_word (rows t) t.count n))
        ∷ given (eqb (rows t n).kind 3)
        (both (eqb (rows t n).a (block_word (rows t) t.count n)) (both (eqb (rows t n).b (lets_before (rows t) n t.count)) (eqb (rows t n).callee (locals_at (rows t) n))))
        ∷ given (eqb (rows t n).kind 4) (eqb (rows t n).a (block_word (rows t) t.count (rows t n).scope))
        ∷ given (eqb (rows t n).kind 1) (eqb (rows t n).a (frame_size (rows t) t.count n))
        ∷ []

    pub size_is : (rows t n).kind ≡ 1 → (rows t n).a ≡ frame_size (rows t) t.count n
    unfolding framed frame-tests
    size_is e = eqb-true _ _ (given-then (eqb (rows t n).kind 1) (eqb (rows t n).a (frame_size (rows t) t.count n)) (all-at frame-tests 3 (framed_at bits t w n h) (omega arith)) (eq-eqb _ _ e))

    pub size-sound : size_fault (program_from bits t) n ≡ false
    unfolding size_fault frame_size
    size-sound =
        both_false (eqb (rows t n).kind 1) (ltb (rows t n).a (frame_head + (rows t n).b))
        (λ e. le-ltb (rows t n).a (frame_head + (rows t n).b) (omega (arith, size_is (eqb-true (rows t n).kind 1 e))))
