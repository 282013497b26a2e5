-- The row behind a row: it is in the same function, and its frame is the one that nesting gives.
-- Assumes nothing.
use mathlib.Core.Path.{◌≡◌, refl, sym, ◌∙◌, ap, subst}
use mathlib.Core.Bool.{Bool, true, false, not}
use mathlib.Core.List.{List, [], ◌∷◌}
use Prim.Native.Nat.{ℕ, zero, suc, ◌-◌, ◌<◌, ◌≤◌}
use native.Mathlib.Nat.{not-suc-le-zero}
use native.Mathlib.Decide.{ℕ_discrete}
use native.Mathlib.Omega.{arith}
use borrow.Author.Tests.{eqb-true, eq-eqb, ne_eqb, leb-true, le-leb, ltb-true}
use lib.Dec.{eqb, ltb, leb}
use lib.ListN.{get_or}
use Rattle.base_prelude.specs.Choice.{if_lt, if_eq, if_true}
use Rattle.base_prelude.proofs.Choice.{either_true, either-eq, if_eq-yes, if_eq-no, if_true-yes, if_true-no}
use Rattle.base_limits.specs.declared.Width.{Width}
use Rattle.lang_kinds.specs.Nesting.{statement_in, stands_in, enters, leaves, ground_of, is_frame}
use Rattle.prog_tables.specs.Tests.{both, given, all, all_below}
use Rattle.prog_tables.specs.Statement.{Row}
use Rattle.prog_tables.specs.Label.{Tables, rows}
use Rattle.prog_tables.specs.Program.{program_from}
use Rattle.prog_tables.specs.Nesting.{behind, open_before, scope_in, up_in, is_listed, stands}
use Rattle.prog_tables.specs.WellFormed.{WellFormed}
use Rattle.prog_tables.proofs.Each.{both_left, both_right, both_true, given-then, all-at, below_at}
use Rattle.prog_tables.proofs.Nested.{not-true, true-not, not-eq, here, ground-low, ground-high, ground-some, open-some, small, kind-not, func-open, next_row_lem, next-func}
use Rattle.prog_tables.proofs.Words.{At, scopes, func-own}
use Rattle.prog_tables.proofs.Sound.{ok, shut, row-held}

-- ---- kinds, by one computed test over all of them

abbrev kind_facts : ℕ → List Bool
kind_facts k =
    given (leaves k) (given (not (eqb k 2)) (leb 5 (stands_in k).start))
    ∷ given (leb 5 (ground_of k)) (both (not (eqb k 1)) (both (not (eqb k 2)) (not (eqb k 4))))
    ∷ given (not (enters k)) (not (eqb k 1))
    ∷ given (leaves k) (given (both (not (eqb k 2)) (not (eqb k 4))) (leb 6 (stands_in k).start))
    ∷ given (leb 6 (ground_of k)) (not (is_frame k))
    ∷ given (eqb k 4) (both (eqb (stands_in k).start 5) (both (eqb (stands_in k).end 6) (both (leaves k) (not (enters k)))))
    ∷ given (eqb (ground_of k) 5) (eqb k 3)
    ∷ given (eqb k 3) (both (enters k) (is_frame k))
    ∷ given (eqb k 1) (both (enters k) (is_frame k))
    ∷ []

kinds-table : all_below (λ k. all (kind_facts k)) 23 ≡ true
unfolding all_below all stands_in statement_in enters leaves ground_of is_frame if_eq if_lt if_true
kinds-table = refl

listed-low : (k : ℕ) → is_listed k ≡ true → k < 23
unfolding is_listed
listed-low k h = either-eq (λ (b : Bool). b ≡ true → k < 23) k 0 false (ltb k 23) (λ e q. omega arith) (λ e q. ltb-true k 23 q) h

not-frame : (k : ℕ) → (k ≡ 1 → ⊥) → (k ≡ 3 → ⊥) → is_frame k ≡ false
unfolding is_frame
not-frame k q r = if_eq-no true (if_eq k 3 true false) q ∙ if_eq-no true false r

-- the frame in which a row stands with o open before it: row o - 1, else the frame of that row
unfoldable pub frame_in : (ℕ → Row) → ℕ → ℕ
frame_in f o = if_true (is_frame (f (o - 1)).kind) (o - 1) (f (o - 1)).scope

frame-outer : (f : ℕ → Row) (o : ℕ) → is_frame (f (o - 1)).kind ≡ false → frame_in f o ≡ (f (o - 1)).scope
unfolding frame_in
frame-outer f o e = if_true-no (o - 1) (f (o - 1)).scope e

frame-own : (f : ℕ → Row) (o : ℕ) → is_frame (f (o - 1)).kind ≡ true → frame_in f o ≡ o - 1
unfolding frame_in
frame-own f o e = if_true-yes (o - 1) (f (o - 1)).scope e

back : (n : ℕ) → suc n - 1 ≡ n
back n = omega arith

-- behind row n itself
frame-own-row : (f : ℕ → Row) (n : ℕ) → is_frame (f n).kind ≡ true → frame_in f (suc n) ≡ n
frame-own-row f n e = frame-own f (suc n) (ap (λ (x : ℕ). is_frame (f x).kind) (back n) ∙ e) ∙ back n

frame-outer-row : (f : ℕ → Row) (n : ℕ) → is_frame (f n).kind ≡ false → frame_in f (suc n) ≡ (f n).scope
frame-outer-row f n e = frame-outer f (suc n) (ap (λ (x : ℕ). is_frame (f x).kind) (back n) ∙ e) ∙ ap (λ (x : ℕ). (f x).scope) (back n)

module _ (f : ℕ → Row) (c : ℕ) (ok : (n : ℕ) → n < c → stands f n ≡ true) where
  fact : (n j : ℕ) → n < c → j < 9 → get_or (kind_facts (f n).kind) j true ≡ true
  fact n j h l =
      all-at (kind_facts (f n).kind) j (below_at (λ k. all (kind_facts k)) 23 (f n).kind kinds-table (listed-low (f n).kind (here f c ok n h).listed)) l

  -- ---- the row that is open before row n

  pub scope-open : (n : ℕ) → n < c → ((f n).kind ≡ 1 → ⊥) → (f n).scope ≡ frame_in f (open_before f n)
  unfolding scope_in frame_in
  scope-open n h q =
      (here f c ok n h).scope-is
      ∙ if_eq-no n (if_true (is_frame (f (open_before f n - 1)).kind) (open_before f n - 1) (f (open_before f n - 1)).scope) q

  open-low : (n : ℕ) → n < c → ((f n).kind ≡ 1 → ⊥) → open_before f n - 1 < n
  open-low n h q = omega (arith, open-some f c ok n h q, (small f c ok n (omega arith)).open-low)

  open-ground : (n : ℕ) → n < c → ((f n).kind ≡ 1 → ⊥) → (stands_in (f n).kind).start ≤ ground_of (f (open_before f n - 1)).kind
  open-ground n h q = omega (arith, ground-low f c ok n h, ground-some f c ok (open_before f n) (open-some f c ok n h q))

  record Inner (m : ℕ) : Type 0 where
    pub no-function : (f m).kind ≡ 1 → ⊥
    pub no_end : (f m).kind ≡ 2 → ⊥
    pub no-end-block : (f m).kind ≡ 4 → ⊥

  -- what stands on a ground in a function is in a block or an arm
  inner : (m : ℕ) → m < c → 5 ≤ ground_of (f m).kind → Inner m
  inner m h g =
      let e : both (not (eqb (f m).kind 1)) (both (not (eqb (f m).kind 2)) (not (eqb (f m).kind 4))) ≡ true = given-then (leb 5 (ground_of (f m).kind)) (both (not (eqb (f m).kind 1)) (both (not (eqb (f m).kind 2)) (not (eqb (f m).kind 4)))) (fact m 1 h (omega arith)) (le-leb 5 (ground_of (f m).kind) g) in
      let d : both (not (eqb (f m).kind 2)) (not (eqb (f m).kind 4)) ≡ true = both_right (not (eqb (f m).kind 1)) (both (not (eqb (f m).kind 2)) (not (eqb (f m).kind 4))) e in
      record {
        no-function = not-eq (f m).kind 1 (both_left (not (eqb (f m).kind 1)) (both (not (eqb (f m).kind 2)) (not (eqb (f m).kind 4))) e);
        no_end = not-eq (f m).kind 2 (both_left (not (eqb (f m).kind 2)) (not (eqb (f m).kind 4)) d);
        no-end-block = not-eq (f m).kind 4 (both_right (not (eqb (f m).kind 2)) (not (eqb (f m).kind 4)) d);
      }

  leaver-ground : (n : ℕ) → n < c → leaves (f n).kind ≡ true → ((f n).kind ≡ 2 → ⊥) → 5 ≤ (stands_in (f n).kind).start
  leaver-ground n h e q =
      leb-true _ _
      (given-then (not (eqb (f n).kind 2)) (leb 5 (stands_in (f n).kind).start)
      (given-then (leaves (f n).kind) (given (not (eqb (f n).kind 2)) (leb 5 (stands_in (f n).kind).start)) (fact n 0 h (omega arith)) e)
      (ap not (ne_eqb _ _ q)))

  arm-ground : (n : ℕ) → n < c → leaves (f n).kind ≡ true → ((f n).kind ≡ 2 → ⊥) → ((f n).kind ≡ 4 → ⊥) → 6 ≤ (stands_in (f n).kind).start
  arm-ground n h e q r =
      leb-true _ _
      (given-then (both (not (eqb (f n).kind 2)) (not (eqb (f n).kind 4))) (leb 6 (stands_in (f n).kind).start)
      (given-then (leaves (f n).kind) (given (both (not (eqb (f n).kind 2)) (not (eqb (f n).kind 4))) (leb 6 (stands_in (f n).kind).start)) (fact n 3 h (omega arith)) e)
      (both_true (not (eqb (f n).kind 2)) (not (eqb (f n).kind 4)) (ap not (ne_eqb _ _ q)) (ap not (ne_eqb _ _ r))))

  arm-outer : (m : ℕ) → m < c → 6 ≤ ground_of (f m).kind → is_frame (f m).kind ≡ false
  arm-outer m h g =
      not-true (is_frame (f m).kind) (given-then (leb 6 (ground_of (f m).kind)) (not (is_frame (f m).kind)) (fact m 4 h (omega arith)) (le-leb 6 (ground_of (f m).kind) g))

  -- ---- what stands around a row

  -- it is in the row's function, and gives the row's frame
  pub record Around (i : ℕ) : Type 0 where
    pub some : 1 ≤ (f i).up
    pub func : (f ((f i).up - 1)).func ≡ (f i).func
    pub frame : ((f i).kind ≡ 4 → ⊥) → frame_in f (f i).up ≡ (f i).scope

  around-own : (j : ℕ) → j < c → ((f j).kind ≡ 1 → ⊥) → (f j).up ≡ open_before f j → Around j
  around-own j h q e =
      record {
        some = omega (arith, e, open-some f c ok j h q);
        func = ap (λ (x : ℕ). (f (x - 1)).func) e ∙ sym (func-open f c ok j h (open-some f c ok j h q));
        frame = λ r. ap (frame_in f) e ∙ sym (scope-open j h q);
      }

  around-outer : (j : ℕ) → j < c → ((f j).kind ≡ 1 → ⊥) → ((f j).kind ≡ 2 → ⊥) → leaves (f j).kind ≡ true → (f j).up ≡ (f (open_before f j - 1)).up
      → Inner (open_before f j - 1) → Around (open_before f j - 1) → Around j
  around-outer j h q p l e y x =
      record {
        some = omega (arith, e, x.some);
        func = ap (λ (z : ℕ). (f (z - 1)).func) e ∙ x.func ∙ sym (func-open f c ok j h (open-some f c ok j h q));
        frame = λ r.
            ap (frame_in f) e ∙ x.frame y.no-end-block
            ∙ sym
            (scope-open j h q
            ∙ frame-outer f (open_before f j)
            (arm-outer (open_before f j - 1) (omega (arith, open-low j h q)) (omega (arith, arm-ground j h l p r, open-ground j h q))));
      }

  pub around : (j : ℕ) → j ≤ c → (i : ℕ) → i < j → ((f i).kind ≡ 1 → ⊥) → ((f i).kind ≡ 2 → ⊥) → Around i
  unfolding up_in
  around zero h i l q p = absurd (not-suc-le-zero l)
  around (suc j) h i l q p =
      elim (ℕ_discrete i j) [
        | no e ↦ around j (omega arith) i (omega arith) q p
        | yes e ↦ subst Around (sym e)
            (own (λ (d : (f j).kind ≡ 1). q (ap (λ (x : ℕ). (f x).kind) e ∙ d)) (λ (d : (f j).kind ≡ 2). p (ap (λ (x : ℕ). (f x).kind) e ∙ d)) (λ m g a b. around j (omega arith) m g a b))
      ]
    where
      own : ((f j).kind ≡ 1 → ⊥) → ((f j).kind ≡ 2 → ⊥) → ((m : ℕ) → m < j → ((f m).kind ≡ 1 → ⊥) → ((f m).kind ≡ 2 → ⊥) → Around m) → Around j
      own q p on = split (leaves (f j).kind) refl
        where
          split : (b : Bool) → leaves (f j).kind ≡ b → Around j
          split false d = around-own j h q ((here f c ok j h).up_is ∙ if_true-no (f (open_before f j - 1)).up (open_before f j) d)
          split true d =
              let y : Inner (open_before f j - 1) = inner (open_before f j - 1) (omega (arith, open-low j h q)) (omega (arith, leaver-ground j h d p, open-ground j h q)) in
              around-outer j h q p d ((here f c ok j h).up_is ∙ if_true-yes (f (open_before f j - 1)).up (open_before f j) d) y
              (on (open_before f j - 1) (open-low j h q) y.no-function y.no_end)

  -- ---- what is open behind a row

  outside : (n : ℕ) → n < c → ((f n).kind ≡ 2 → ⊥) → enters (f n).kind ≡ false → Around n
  outside n h p e =
      around c (omega arith) n h (not-eq (f n).kind 1 (given-then (not (enters (f n).kind)) (not (eqb (f n).kind 1)) (fact n 2 h (omega arith)) (true-not (enters (f n).kind) e))) p

  pub behind-some : (n : ℕ) → n < c → ((f n).kind ≡ 2 → ⊥) → 1 ≤ behind n (f n)
  unfolding behind
  behind-some n h p = either_true (λ (x : ℕ). 1 ≤ x) (enters (f n).kind) (suc n) (f n).up (λ e. omega arith) (λ e. (outside n h p e).some)

  behind-func : (n : ℕ) → n < c → ((f n).kind ≡ 2 → ⊥) → (f (behind n (f n) - 1)).func ≡ (f n).func
  unfolding behind
  behind-func n h p =
      either_true (λ (x : ℕ). (f (x - 1)).func ≡ (f n).func) (enters (f n).kind) (suc n) (f n).up (λ e. ap (λ (x : ℕ). (f x).func) (back n)) (λ e. (outside n h p e).func)

  behind-frame : (n : ℕ) → n < c → ((f n).kind ≡ 1 → ⊥) → ((f n).kind ≡ 2 → ⊥) → ((f n).kind ≡ 3 → ⊥) → ((f n).kind ≡ 4 → ⊥) → frame_in f (behind n (f n)) ≡ (f n).scope
  unfolding behind
  behind-frame n h q p r s =
      either_true (λ (x : ℕ). frame_in f x ≡ (f n).scope) (enters (f n).kind) (suc n) (f n).up
      (λ e. frame-outer-row f n (not-frame (f n).kind q r)) (λ e. (outside n h p e).frame s)

  enter-frame : (n : ℕ) → enters (f n).kind ≡ true → is_frame (f n).kind ≡ true → frame_in f (behind n (f n)) ≡ n
  unfolding behind
  enter-frame n e d = ap (frame_in f) (if_true-yes (suc n) (f n).up e) ∙ frame-own-row f n d

  -- ---- `end block`

  module _ (n : ℕ) (h : n < c) (e : (f n).kind ≡ 4) where
    no-function : (f n).kind ≡ 1 → ⊥
    no-function d = omega arith

    ends : both (eqb (stands_in (f n).kind).start 5) (both (eqb (stands_in (f n).kind).end 6) (both (leaves (f n).kind) (not (enters (f n).kind)))) ≡ true
    ends = given-then (eqb (f n).kind 4) (both (eqb (stands_in (f n).kind).start 5) (both (eqb (stands_in (f n).kind).end 6) (both (leaves (f n).kind) (not (enters (f n).kind))))) (fact n 5 h (omega arith)) (eq-eqb _ _ e)

    ends_more : both (eqb (stands_in (f n).kind).end 6) (both (leaves (f n).kind) (not (enters (f n).kind))) ≡ true
    ends_more = both_right (eqb (stands_in (f n).kind).start 5) (both (eqb (stands_in (f n).kind).end 6) (both (leaves (f n).kind) (not (enters (f n).kind)))) ends

    ends_last : both (leaves (f n).kind) (not (enters (f n).kind)) ≡ true
    ends_last = both_right (eqb (stands_in (f n).kind).end 6) (both (leaves (f n).kind) (not (enters (f n).kind))) ends_more

    ended-low : open_before f n - 1 < c
    ended-low = omega (arith, open-low n h no-function)

    ended : (f (open_before f n - 1)).kind ≡ 3
    ended =
        let lo : (stands_in (f n).kind).start ≡ 5 = eqb-true _ _ (both_left (eqb (stands_in (f n).kind).start 5) (both (eqb (stands_in (f n).kind).end 6) (both (leaves (f n).kind) (not (enters (f n).kind)))) ends) in
        let hi : (stands_in (f n).kind).end ≡ 6 = eqb-true _ _ (both_left (eqb (stands_in (f n).kind).end 6) (both (leaves (f n).kind) (not (enters (f n).kind))) ends_more) in
        let g : ground_of (f (open_before f n - 1)).kind ≡ 5 = omega (arith, lo, hi, ground-low f c ok n h, ground-high f c ok n h, ground-some f c ok (open_before f n) (open-some f c ok n h no-function)) in
        eqb-true _ _ (given-then (eqb (ground_of (f (open_before f n - 1)).kind) 5) (eqb (f (open_before f n - 1)).kind 3) (fact (open_before f n - 1) 6 ended-low (omega arith)) (eq-eqb _ _ g))

    block-frame : is_frame (f (open_before f n - 1)).kind ≡ true
    unfolding is_frame if_eq
    block-frame = ap is_frame ended

    end-scope-is : (f n).scope ≡ open_before f n - 1
    end-scope-is = scope-open n h no-function ∙ frame-own f (open_before f n) block-frame

    -- the frame of an `end block` is its block
    pub end-block : (f (f n).scope).kind ≡ 3
    end-block = ap (λ (x : ℕ). (f x).kind) end-scope-is ∙ ended

    end-behind : behind n (f n) ≡ (f (open_before f n - 1)).up
    unfolding behind up_in
    end-behind =
        if_true-no (suc n) (f n).up (not-true (enters (f n).kind) (both_right (leaves (f n).kind) (not (enters (f n).kind)) ends_last))
        ∙ (here f c ok n h).up_is
        ∙ if_true-yes (f (open_before f n - 1)).up (open_before f n) (both_left (leaves (f n).kind) (not (enters (f n).kind)) ends_last)

    end_frame : frame_in f (behind n (f n)) ≡ (f (f n).scope).scope
    end_frame =
        ap (frame_in f) end-behind
        ∙ (around c (omega arith) (open_before f n - 1) ended-low (λ d. omega (arith, ended)) (λ d. omega (arith, ended))).frame (λ d. omega (arith, ended))
        ∙ ap (λ (x : ℕ). (f x).scope) (sym end-scope-is)

  -- ---- the row behind row n

  module _ (closed : open_before f c ≡ 0) (n : ℕ) (h : n < c) (p : (f n).kind ≡ 2 → ⊥) where
    pub record Next : Type 0 where
      pub within : suc n < c
      pub same : (f (suc n)).func ≡ (f n).func
      pub no-function : (f (suc n)).kind ≡ 1 → ⊥

    next_low : suc n < c
    next_low = next_row_lem f c ok closed n h (behind-some n h p)

    next-kind : (f (suc n)).kind ≡ 1 → ⊥
    unfolding open_before
    next-kind = kind-not f c ok (suc n) next_low (behind-some n h p)

    pub next : Next
    next = record { within = next_low; same = next-func f c ok closed n h (behind-some n h p) ∙ behind-func n h p; no-function = next-kind }

    next-scope : (f (suc n)).scope ≡ frame_in f (behind n (f n))
    unfolding open_before
    next-scope = scope-open (suc n) next_low next-kind

    -- a function or a block is the frame behind it
    pub scope-function : (f n).kind ≡ 1 → (f (suc n)).scope ≡ n
    scope-function e =
        let d : both (enters (f n).kind) (is_frame (f n).kind) ≡ true = given-then (eqb (f n).kind 1) (both (enters (f n).kind) (is_frame (f n).kind)) (fact n 8 h (omega arith)) (eq-eqb _ _ e) in
        next-scope ∙ enter-frame n (both_left (enters (f n).kind) (is_frame (f n).kind) d) (both_right (enters (f n).kind) (is_frame (f n).kind) d)

    pub scope-block : (f n).kind ≡ 3 → (f (suc n)).scope ≡ n
    scope-block e =
        let d : both (enters (f n).kind) (is_frame (f n).kind) ≡ true = given-then (eqb (f n).kind 3) (both (enters (f n).kind) (is_frame (f n).kind)) (fact n 7 h (omega arith)) (eq-eqb _ _ e) in
        next-scope ∙ enter-frame n (both_left (enters (f n).kind) (is_frame (f n).kind) d) (both_right (enters (f n).kind) (is_frame (f n).kind) d)

    -- behind `end block` is the frame outside the block
    pub scope-end : (f n).kind ≡ 4 → (f (suc n)).scope ≡ (f (f n).scope).scope
    scope-end e = next-scope ∙ end_frame n h e

    -- any other row leaves the frame
    pub scope-other : ((f n).kind ≡ 1 → ⊥) → ((f n).kind ≡ 3 → ⊥) → ((f n).kind ≡ 4 → ⊥) → (f (suc n)).scope ≡ (f n).scope
    scope-other q r s = next-scope ∙ behind-frame n h q p r s

-- ---- well-formed tables

-- the frame behind row n: "A `block` line belongs to the frame outside, its `end block` to the block."
unfoldable pub scope_behind : (ℕ → Row) → ℕ → ℕ
scope_behind f n = if_true (is_frame (f n).kind) n (if_eq (f n).kind 4 (f (f n).scope).scope (f n).scope)

scope-behind-own : (f : ℕ → Row) (n : ℕ) → is_frame (f n).kind ≡ true → scope_behind f n ≡ n
unfolding scope_behind
scope-behind-own f n e = if_true-yes n (if_eq (f n).kind 4 (f (f n).scope).scope (f n).scope) e

scope-behind-end : (f : ℕ → Row) (n : ℕ) → (f n).kind ≡ 4 → scope_behind f n ≡ (f (f n).scope).scope
unfolding scope_behind
scope-behind-end f n e =
    if_true-no n (if_eq (f n).kind 4 (f (f n).scope).scope (f n).scope) (not-frame (f n).kind (λ d. omega arith) (λ d. omega arith))
    ∙ if_eq-yes (f (f n).scope).scope (f n).scope e

scope-behind-other : (f : ℕ → Row) (n : ℕ) → is_frame (f n).kind ≡ false → ((f n).kind ≡ 4 → ⊥) → scope_behind f n ≡ (f n).scope
unfolding scope_behind
scope-behind-other f n e q =
    if_true-no n (if_eq (f n).kind 4 (f (f n).scope).scope (f n).scope) e ∙ if_eq-no (f (f n).scope).scope (f n).scope q

module _ (bits : Width) (t : Tables) (w : WellFormed (program_from bits t)) (n : ℕ) (h : n < t.count) where
  -- the function of row n
  pub record FuncLine : Type 0 where
    pub before : (rows t n).func ≤ n
    pub within : (rows t n).func < t.count
    pub is-function : (rows t (rows t n).func).kind ≡ 1

  pub func-line : FuncLine
  func-line = record { before = (row-held bits t w n h).before; within = omega (arith, (row-held bits t w n h).before); is-function = (row-held bits t w n h).is-function }

  -- a function is its own function and frame
  pub func-self : (rows t n).kind ≡ 1 → (rows t n).func ≡ n
  func-self e = func-own (rows t) t.count (ok bits t w) n h e

  pub scope-self : (rows t n).kind ≡ 1 → (rows t n).scope ≡ n
  unfolding scope_in
  scope-self e =
      (here (rows t) t.count (ok bits t w) n h).scope-is
      ∙ if_eq-yes n (if_true (is_frame (rows t (open_before (rows t) n - 1)).kind) (open_before (rows t) n - 1) (rows t (open_before (rows t) n - 1)).scope) e

  -- the frame of any other row: a function or block before it, in its function
  pub scope-frame : ((rows t n).kind ≡ 1 → ⊥) → At (rows t) t.count (ok bits t w) n (rows t n).scope
  scope-frame q = scopes (rows t) t.count (ok bits t w) t.count (omega arith) n h q

  -- the row behind a row that is no `end function`
  pub record NextIn : Type 0 where
    pub within : suc n < t.count
    pub same : (rows t (suc n)).func ≡ (rows t n).func
    pub no-function : (rows t (suc n)).kind ≡ 1 → ⊥

  module _ (p : (rows t n).kind ≡ 2 → ⊥) where
    pub next-in : NextIn
    next-in =
        let x : Next (rows t) t.count (ok bits t w) (shut bits t w) n h p = next (rows t) t.count (ok bits t w) (shut bits t w) n h p in
        record { within = x.within; same = x.same; no-function = x.no-function }

    pub scope-next : (rows t (suc n)).scope ≡ scope_behind (rows t) n
    unfolding is_frame
    scope-next =
        elim (ℕ_discrete (rows t n).kind 1) [
          | yes e ↦ scope-function (rows t) t.count (ok bits t w) (shut bits t w) n h p e ∙ sym (scope-behind-own (rows t) n (if_eq-yes true (if_eq (rows t n).kind 3 true false) e))
          | no q ↦ elim (ℕ_discrete (rows t n).kind 3) [
            | yes e ↦ scope-block (rows t) t.count (ok bits t w) (shut bits t w) n h p e
                ∙ sym (scope-behind-own (rows t) n (if_eq-no true (if_eq (rows t n).kind 3 true false) q ∙ if_eq-yes true false e))
            | no r ↦ elim (ℕ_discrete (rows t n).kind 4) [
              | yes e ↦ scope-end (rows t) t.count (ok bits t w) (shut bits t w) n h p e ∙ sym (scope-behind-end (rows t) n e)
              | no s ↦ scope-other (rows t) t.count (ok bits t w) (shut bits t w) n h p q r s ∙ sym (scope-behind-other (rows t) n (not-frame (rows t n).kind q r) s)
            ]
          ]
        ]

    -- the same, kind by kind
    pub next-function : (rows t n).kind ≡ 1 → (rows t (suc n)).scope ≡ n
    next-function e = scope-function (rows t) t.count (ok bits t w) (shut bits t w) n h p e

    pub next-block : (rows t n).kind ≡ 3 → (rows t (suc n)).scope ≡ n
    next-block e = scope-block (rows t) t.count (ok bits t w) (shut bits t w) n h p e

    pub next-end-block : (rows t n).kind ≡ 4 → (rows t (suc n)).scope ≡ (rows t (rows t n).scope).scope
    next-end-block e = scope-end (rows t) t.count (ok bits t w) (shut bits t w) n h p e

    pub next-other : ((rows t n).kind ≡ 1 → ⊥) → ((rows t n).kind ≡ 3 → ⊥) → ((rows t n).kind ≡ 4 → ⊥) → (rows t (suc n)).scope ≡ (rows t n).scope
    next-other q r s = scope-other (rows t) t.count (ok bits t w) (shut bits t w) n h p q r s
