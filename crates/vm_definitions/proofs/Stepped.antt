-- Any statement leaves a good world, with the ledger that 01 gives.
-- Assumes nothing.
use mathlib.Core.Path.{◌≡◌, refl, sym, ◌∙◌, ap, subst}
use Prim.Native.Nat.{ℕ, suc, ◌<◌, ◌≤◌}
use mathlib.Core.Bool.{Bool, true, false}
use mathlib.Core.Option.{some}
use mathlib.Core.List.{◌∷◌}
use native.Mathlib.Decide.{ℕ_discrete}
use native.Mathlib.Omega.{arith}
use borrow.Author.Tests.{eq-eqb, ltb-true, ltb-false}
use lib.Arith.{lt_of_le-ne}
use lib.Dec.{eqb, ltb}
use lib.ListN.{length}
use Rattle.base_prelude.specs.Choice.{if_lt, if_eq, if_true}
use Rattle.base_prelude.proofs.Choice.{true-false, if_true-yes, if_true-no, if_eq-yes, if_eq-no, if_lt-no, either-eq, either_true}
use Rattle.base_limits.specs.declared.Width.{Width}
use Rattle.base_limits.specs.declared.State.TheVariants.{Running}
use Rattle.prog_tables.specs.Tests.{both, one_of}
use Rattle.prog_tables.specs.Statement.{Row, is_test, has_expression, is_call_expression}
use Rattle.prog_tables.specs.Nesting.{is_listed, has_target}
use Rattle.prog_tables.specs.Label.{Tables, rows}
use Rattle.prog_tables.specs.Program.{program_from}
use Rattle.prog_tables.specs.WellFormed.{WellFormed}
use Rattle.prog_tables.proofs.Nested.{here}
use Rattle.prog_tables.proofs.Sound.{ok}
use Rattle.vm_definitions.specs.Frames.{is_return, is_calling, importing, returns_import}
use Rattle.vm_definitions.specs.Step.{World, Effect, stops, leaves, goes_to, effect_of, address_of, handed_in}
use Rattle.vm_definitions.specs.Access.{as_word, word_good}
use Rattle.vm_definitions.specs.Ledger.{Entry, Ledger, counted_in, replaced, popped}
use Rattle.vm_definitions.proofs.Invariant.{Invariant}
use Rattle.vm_definitions.proofs.Kept.{Kept, kept_next, kept-goto, kept-jump, kept_test, kept-let, kept-set-at, kept-set-byte, kept-set-word, kept_block, kept-end-block}
use Rattle.vm_definitions.proofs.Called.{kept-call, kept-tail-call}
use Rattle.vm_definitions.proofs.Returned.{finishing, going_back, Returns, return-ledger, returns-value, returns_of_lem}
use Rattle.vm_definitions.proofs.Effects.{Fine, Numbered, fine-goes, fine-block, fine-end-block, fine-test, fine-assigned, some-worked, fine-set-at, fine-set-byte, fine-set-word, fine-call, fine-tail-call, numbered-to, numbered-return}
use Rattle.vm_definitions.proofs.HandedIn.{kept_here, fine-here}
use Rattle.vm_definitions.proofs.Lists.{GoodNow, runs, ends}

-- ---- kinds

past-tests : (k : ℕ) → is_test k ≡ false → 14 ≤ k → 20 ≤ k
unfolding is_test
past-tests k e h = ltb-false k 20 (sym (if_lt-no false (ltb k 20) h) ∙ e)

test-12 : is_test 12 ≡ false
unfolding is_test if_lt
test-12 = refl

listed-low : (k : ℕ) → is_listed k ≡ true → 1 ≤ k
unfolding is_listed
listed-low k e =
    elim (ℕ_discrete k 0) [
      | yes z ↦ true-false (sym e ∙ if_eq-yes false (ltb k 23) z)
      | no z ↦ lt_of_le-ne (omega arith) (λ d. z (sym d))
    ]

listed-high : (k : ℕ) → is_listed k ≡ true → k < 23
unfolding is_listed
listed-high k e = ltb-true k 23 (sym (if_eq-no false (ltb k 23) (λ z. omega (arith, z, listed-low k e))) ∙ e)

no_end : (r : Row) → is_return r ≡ false → r.kind ≡ 2 → ⊥
unfolding is_return
no_end r e k = true-false (sym (ap (λ (b : Bool). one_of b (both (eqb r.kind 13) (if_true (is_call_expression r.expr) false true))) (eq-eqb r.kind 2 k)) ∙ e)

no-bare-call : (r : Row) → is_calling r ≡ false → r.kind ≡ 11 → ⊥
unfolding is_calling
no-bare-call r e k = true-false (sym (ap (λ (b : Bool). one_of b (both (has_expression r.kind) (is_call_expression r.expr))) (eq-eqb r.kind 11 k)) ∙ e)

no_return : (r : Row) → is_calling r ≡ false → is_return r ≡ false → r.kind ≡ 13 → ⊥
unfolding is_calling is_return has_expression if_true if_lt
no_return r a b k = go (is_call_expression r.expr) refl
  where
    go : (d : Bool) → is_call_expression r.expr ≡ d → ⊥
    go true q =
        true-false
        (sym (ap (λ (n : ℕ). one_of (eqb n 11) (both (has_expression n) (is_call_expression r.expr))) k ∙ q) ∙ a)
    go false q =
        true-false
        (sym (ap (λ (n : ℕ). one_of (eqb n 2) (both (eqb n 13) (if_true (is_call_expression r.expr) false true))) k
        ∙ ap (λ (d : Bool). if_true d false true) q) ∙ b)

-- ---- effects

module _ (w : Width) (t : Tables) (good : WellFormed (program_from w t)) (e : Entry) (es : Ledger) (x : World) (s : x.machine.state ≡ Running) (i : Invariant w t e es x) where
  abbrev row : Row
  row = rows t x.machine.next

  -- it stops with a number, or leaves a good world
  unfoldable pub Leads : Effect → Type 0
  Leads (stops k) = 0 < k
  Leads (leaves y) = GoodNow w t (length x.memory) (counted_in (rows t) x.machine.next (e ∷ es)) y

  leads-kept : (d : Entry) (ds : Ledger) → counted_in (rows t) x.machine.next (e ∷ es) ≡ d ∷ ds → (f : Effect) → Kept w t d ds f → Fine x f → Leads f
  unfolding Leads Kept Fine
  leads-kept d ds q (stops k) a b = b
  leads-kept d ds q (leaves y) a (u, v) = subst (λ (p : Ledger). GoodNow w t (length x.memory) p y) (sym q) (runs d ds y v (u ∙ s) a)

  leads-back : counted_in (rows t) x.machine.next (e ∷ es) ≡ popped (rows t) (e ∷ es) → (f : Effect) → Returns w t (popped (rows t) (e ∷ es)) x f → Numbered f → Leads f
  unfolding Leads Returns Numbered
  leads-back b (stops k) a n = n
  leads-back b (leaves y) (finishing v q u z m) n =
      subst (λ (p : Ledger). GoodNow w t (length x.memory) p y) (sym (b ∙ q)) (ends y v m u z)
  leads-back b (leaves y) (going_back d ds q j u m) n =
      subst (λ (p : Ledger). GoodNow w t (length x.memory) p y) (sym (b ∙ q)) (runs d ds y m (u ∙ s) j)

  -- the ledger stays
  same : importing row ≡ false → is_calling row ≡ false → is_return row ≡ false → (row.kind ≡ 12 → ⊥) → counted_in (rows t) x.machine.next (e ∷ es) ≡ e ∷ es
  unfolding counted_in
  same n a b c = if_true-no _ _ n ∙ if_true-no _ _ a ∙ if_eq-no _ _ c ∙ if_true-no _ _ b

  call-ledger : importing row ≡ false → is_calling row ≡ true → counted_in (rows t) x.machine.next (e ∷ es) ≡ record { func = row.callee; call = some x.machine.next } ∷ e ∷ es
  unfolding counted_in
  call-ledger n a = if_true-no _ _ n ∙ if_true-yes _ _ a

  tail-ledger : importing row ≡ false → is_calling row ≡ false → row.kind ≡ 12 → counted_in (rows t) x.machine.next (e ∷ es) ≡ record { func = row.callee; call = e.call } ∷ es
  unfolding counted_in replaced
  tail-ledger n a k = if_true-no _ _ n ∙ if_true-no _ _ a ∙ if_eq-yes _ _ k

  listed : is_listed row.kind ≡ true
  listed = (here (rows t) t.count (ok w t good) x.machine.next i.frame.within).listed

  -- a row of the last kinds
  module _ (own : importing row ≡ false) (a : is_calling row ≡ false) (b : is_return row ≡ false) (c : is_test row.kind ≡ false) (k3 : row.kind ≡ 3 → ⊥) (k4 : row.kind ≡ 4 → ⊥)
      (k5 : row.kind ≡ 5 → ⊥) (k6 : row.kind ≡ 6 → ⊥) (k7 : row.kind ≡ 7 → ⊥) (k8 : row.kind ≡ 8 → ⊥) (k9 : row.kind ≡ 9 → ⊥) (k12 : row.kind ≡ 12 → ⊥) (k22 : row.kind ≡ 22 → ⊥)
    where
      up : (n : ℕ) → n ≤ row.kind → (row.kind ≡ n → ⊥) → suc n ≤ row.kind
      up n h q = lt_of_le-ne h (λ d. q (sym d))

      jump : (row.kind ≡ 10 → ⊥) → (row.kind ≡ 20 → ⊥) → (row.kind ≡ 21 → ⊥) → ⊥
      jump k10 k20 k21 =
          let l14 : 14 ≤ row.kind = up 13 (up 12 (up 11 (up 10 (up 9 (up 8 (up 7 (up 6 (up 5 (up 4 (up 3 (up 2 (up 1 (listed-low row.kind listed) i.frame.inside) (no_end row b)) k3) k4) k5) k6) k7) k8) k9) k10) (no-bare-call row a)) k12) (no_return row a b) in
          let l23 : 23 ≤ row.kind = up 22 (up 21 (up 20 (past-tests row.kind c l14) k20) k21) k22 in omega (arith, l23, listed-high row.kind listed)

      target : (row.kind ≡ 10 → ⊥) → has_target row.kind ≡ true
      unfolding has_target
      target k10 =
          elim (ℕ_discrete row.kind 20) [
            | yes z ↦ if_true-no true (if_eq row.kind 20 true (eqb row.kind 21)) c ∙ if_eq-yes true (eqb row.kind 21) z
            | no z ↦ elim (ℕ_discrete row.kind 21) [
              | yes y ↦ if_true-no true (if_eq row.kind 20 true (eqb row.kind 21)) c ∙ if_eq-no true (eqb row.kind 21) z ∙ eq-eqb row.kind 21 y
              | no y ↦ absurd (jump k10 z y)
            ]
          ]

      leads-jump : Leads (goes_to (program_from w t) x row.a)
      leads-jump =
          elim (ℕ_discrete row.kind 10) [
            | yes k ↦ leads-kept e es (same own a b k12) _ (kept-goto w t good e es x i k) (fine-goes (program_from w t) x row.a)
            | no k ↦ leads-kept e es (same own a b k12) _ (kept-jump w t good e es x i (target k)) (fine-goes (program_from w t) x row.a)
          ]

  -- ---- the statement

  leads_stays : importing row ≡ false → is_calling row ≡ false → is_return row ≡ false → (row.kind ≡ 12 → ⊥) → (f : Effect) → Kept w t e es f → Fine x f → Leads f
  leads_stays n a b k f g h = leads-kept e es (same n a b k) f g h

  -- where it calls no imported function
  pub leads : importing row ≡ false → Leads (effect_of (program_from w t) x)
  unfolding effect_of
  leads own =
      either_true Leads (is_calling row) _ _
      (λ a. leads-kept _ _ (call-ledger own a) _ (kept-call w t good e es x i own a) (fine-call (program_from w t) x))
      (λ a. either_true Leads (is_return row) _ _
      (λ b. leads-back (return-ledger (rows t) x.machine.next (e ∷ es) own b) _ (returns_of_lem w t good e es x i) (numbered-return (program_from w t) x))
      (λ b. either_true Leads (is_test row.kind) _ _
      (λ c. leads_stays own a b (λ k. true-false (sym c ∙ no_test k)) _ (kept_test w t good e es x i c) (fine-test (program_from w t) x))
      (λ c. either-eq Leads row.kind 3 _ _
      (λ k. leads_stays own a b (λ d. omega (arith, k, d)) _ (kept_block w t good e es x i k) (fine-block (program_from w t) x))
      (λ k3. either-eq Leads row.kind 4 _ _
      (λ k. leads_stays own a b (λ d. omega (arith, k, d)) _ (kept-end-block w t good e es x i k) (fine-end-block (program_from w t) x))
      (λ k4. either-eq Leads row.kind 5 _ _
      (λ k. leads_stays own a b (λ d. omega (arith, k, d)) _ (kept-let w t good e es x i (omega (arith, k)) (omega (arith, k)))
      (fine-assigned (program_from w t) x _ (some-worked (program_from w t) x)))
      (λ k5. either-eq Leads row.kind 6 _ _
      (λ k. leads_stays own a b (λ d. omega (arith, k, d)) _ (kept-let w t good e es x i (omega (arith, k)) (omega (arith, k)))
      (fine-assigned (program_from w t) x _ (some-worked (program_from w t) x)))
      (λ k6. either-eq Leads row.kind 7 _ _
      (λ k. leads_stays own a b (λ d. omega (arith, k, d)) _ (kept-set-at w t good e es x i k) (fine-set-at (program_from w t) x))
      (λ k7. either-eq Leads row.kind 8 _ _
      (λ k. leads_stays own a b (λ d. omega (arith, k, d)) _ (kept-set-byte w t good e es x i k _) (fine-set-byte (program_from w t) x _))
      (λ k8. either-eq Leads row.kind 9 _ _
      (λ k. leads_stays own a b (λ d. omega (arith, k, d)) _ (kept-set-word w t good e es x i k _) (fine-set-word (program_from w t) x _))
      (λ k9. either-eq Leads row.kind 12 _ _
      (λ k. leads-kept _ _ (tail-ledger own a k) _ (kept-tail-call w t good e es x i own k _) (fine-tail-call (program_from w t) x _))
      (λ k12. either-eq Leads row.kind 22 _ _
      (λ k. leads_stays own a b k12 _ (kept_next w t good e es x i (omega (arith, k))) (fine-goes (program_from w t) x _))
      (λ k22. either-eq Leads row.kind 10 _ _
      (λ k. leads-jump own a b c k3 k4 k5 k6 k7 k8 k9 k12 k22)
      (λ k10. either-eq Leads row.kind 20 _ _
      (λ k. leads-jump own a b c k3 k4 k5 k6 k7 k8 k9 k12 k22)
      (λ k20. either-eq Leads row.kind 21 _ _
      (λ k. leads-jump own a b c k3 k4 k5 k6 k7 k8 k9 k12 k22)
      (λ k21. leads-jump own a b c k3 k4 k5 k6 k7 k8 k9 k12 k22)))))))))))))))
    where
      no_test : row.kind ≡ 12 → is_test row.kind ≡ false
      no_test k = ap is_test k ∙ test-12

  -- ---- going on with a word, the address of `set @` being good

  module _ (im : importing row ≡ true) (address : row.kind ≡ 7 → word_good w (length x.memory) (address_of (program_from w t) x) ≡ true) where
    import-pops : returns_import row ≡ true → counted_in (rows t) x.machine.next (e ∷ es) ≡ popped (rows t) (e ∷ es)
    unfolding counted_in
    import-pops h = if_true-yes _ _ im ∙ if_true-yes _ _ h

    import-stays : returns_import row ≡ false → counted_in (rows t) x.machine.next (e ∷ es) ≡ e ∷ es
    unfolding counted_in
    import-stays h = if_true-yes _ _ im ∙ if_true-no _ _ h

    pub leads-handed : (v : ℕ) → Leads (handed_in (program_from w t) v x)
    unfolding handed_in
    leads-handed v =
        either_true Leads (returns_import row) _ _
        (λ h. leads-back (import-pops h) _ (returns-value w t good e es x i (as_word w v)) (numbered-to (program_from w t) x (as_word w v) _))
        (λ h. leads-kept e es (import-stays h) _ (kept_here w t good e es x i im address h (as_word w v)) (fine-here w t good e es x i im address (as_word w v)))
