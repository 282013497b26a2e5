-- The statement of each kind is the one that the code takes.
-- Assumes nothing.
use mathlib.Core.Path.{◌≡◌, refl, sym, ◌∙◌, ap}
use mathlib.Core.Bool.{Bool, true, false}
use mathlib.Core.List.{List, [], ◌∷◌}
use Prim.Native.Nat.{ℕ, suc, ◌+◌, ◌<◌, ◌≤◌}
use native.Mathlib.Omega.{arith}
use lib.ListN.{length, get_or, set, replicate}
use lib.Dec.{eqb}
use borrow.Author.Tests.{eq-eqb, ne_eqb}
use Rattle.base_prelude.specs.Choice.{if_eq, if_true}
use Rattle.base_limits.specs.declared.Width.TheVariants.{Bits32}
use Rattle.base_limits.specs.declared.Machine.{Machine}
use Rattle.base_limits.specs.Record.{going_on}
use Rattle.prog_tables.specs.Tests.{both, one_of}
use Rattle.prog_tables.specs.Statement.{Row, has_expression, is_test, is_call_expression, row_at}
use Rattle.prog_tables.specs.Program.{rows_alone}
use Rattle.vm_definitions.specs.Access.{store_from}
use Rattle.vm_definitions.specs.Frames.{is_calling}
use Rattle.vm_definitions.proofs.Words.{word-32}
use Rattle.vm_definitions.specs.Step.{Effect, keeps, goes_to, block_of, end_block_of, test_of, set_at_of, effect_of, effected}
use Rattle.vm_definitions.specs.Lent.{world, left}
use Rattle.vm_definitions.specs.declared.Outcome.{Outcome}
use Rattle.vm_calls.specs.Outcomes.{one_step, after, calling, at_calling, tail_calling, handing, assigning, setting_byte, setting_word}
use Rattle.vm_statements.specs.Ready.{Ready, setting_local, returning}
use Rattle.vm_statements.proofs.Forms as forms
use Rattle.prog_tables.proofs.Each.{one-true}

module _ (t : List ℕ) (c : ℕ) (r : Machine) (st m : List ℕ) where
  abbrev row : Row
  row = row_at t r.next

  becomes : (e : Effect) (o : Outcome) (st' m' : List ℕ) → effect_of (rows_alone t c) (world r st m) ≡ e → left o st' m' ≡ effected (world r st m) e
      → left o st' m' ≡ after effect_of t c r st m
  becomes e o st' m' q d = d ∙ ap (effected (world r st m)) (sym q)

  -- `let` and `set` of a local, by their expression
  module _ (e : ℕ) (o : Outcome) (st' : List ℕ) (h : has_expression row.kind ≡ true) (d : e ≡ row.expr) where
    pub local-call : e ≡ 2 → left o st' m ≡ after calling t c r st m → left o st' m ≡ after setting_local t c r st m
    unfolding is_calling is_call_expression if_eq if_true
    local-call q p = rw (h, ← d, q, one-true (eqb row.kind 11)) p

    pub local-other : Ready (row_at t) c r st (length m) → (e ≡ 2 → ⊥) → row.kind < 8 → left o st' m ≡ after assigning t c r st m → left o st' m ≡ after setting_local t c r st m
    unfolding is_calling if_true
    local-other y q l p = rw (h, forms.uncalled t c r st (length m) y h (λ j. q (d ∙ j)), ne_eqb row.kind 11 (λ j. omega (arith, l, j))) p

  -- `set @`
  module _ (e : ℕ) (o : Outcome) (k : row.kind ≡ 7) (d : e ≡ row.expr) where
    pub at_call : (st' : List ℕ) → e ≡ 2 → left o st' m ≡ after at_calling t c r st m → left o st' m ≡ after effect_of t c r st m
    at_call st' q p = becomes (at_calling (rows_alone t c) (world r st m)) o st' m (forms.of-at-call (rows_alone t c) (world r st m) k (sym d ∙ q)) p

    pub at_other : (m' : List ℕ) → Ready (row_at t) c r st (length m) → (e ≡ 2 → ⊥) → left o st m' ≡ after set_at_of t c r st m → left o st m' ≡ after effect_of t c r st m
    at_other m' y q p = becomes (set_at_of (rows_alone t c) (world r st m)) o st m' (forms.of_at (rows_alone t c) (world r st m) k (forms.at_other t c r st (length m) y k (λ j. q (d ∙ j))).plain) p

  -- `return`
  module _ (e : ℕ) (o : Outcome) (k : row.kind ≡ 13) (d : e ≡ row.expr) where
    pub return-call : (st' : List ℕ) → e ≡ 2 → left o st' m ≡ after calling t c r st m → left o st' m ≡ after effect_of t c r st m
    return-call st' q p = becomes (calling (rows_alone t c) (world r st m)) o st' m (forms.of-return-call (rows_alone t c) (world r st m) k (sym d ∙ q)) p

    pub return-bare : (st' m' : List ℕ) → e ≡ 0 → left o st' m' ≡ after (handing 0) t c r st m → left o st' m' ≡ after effect_of t c r st m
    return-bare st' m' q p = becomes (handing 0 (rows_alone t c) (world r st m)) o st' m' (forms.of-return-bare (rows_alone t c) (world r st m) k (sym d ∙ q)) p

    pub return-other : (st' m' : List ℕ) → Ready (row_at t) c r st (length m) → (e ≡ 0 → ⊥) → (e ≡ 2 → ⊥) → left o st' m' ≡ after returning t c r st m → left o st' m' ≡ after effect_of t c r st m
    return-other st' m' y z q p =
        becomes (returning (rows_alone t c) (world r st m)) o st' m'
        (forms.of-return (rows_alone t c) (world r st m) k (λ j. z (d ∙ j)) (forms.return-other t c r st (length m) y k (λ j. z (d ∙ j)) (λ j. q (d ∙ j))).plain) p

  -- the statement of kind k
  module _ (k : ℕ) (o : Outcome) (e : k ≡ row.kind) where
    pub do-end : (st' m' : List ℕ) → k ≡ 2 → left o st' m' ≡ after (handing 0) t c r st m → left o st' m' ≡ after effect_of t c r st m
    do-end st' m' q p = becomes (handing 0 (rows_alone t c) (world r st m)) o st' m' (forms.of_end (rows_alone t c) (world r st m) (sym e ∙ q)) p

    pub do-block : (st' : List ℕ) → r.top < 4294967296 → k ≡ 3 → o ≡ one_step (going_on r (suc r.next) r.top) → st' ≡ store_from st (r.frame + row.a) (r.top ∷ replicate row.b 0)
        → left o st' m ≡ after effect_of t c r st m
    unfolding block_of keeps effected
    do-block st' l q p s = becomes (block_of (rows_alone t c) (world r st m)) o st' m (forms.of-block (rows_alone t c) (world r st m) (sym e ∙ q)) (rw (p, s, word-32 r.top l))

    pub do-end-block : k ≡ 4 → o ≡ one_step (going_on r (suc r.next) (get_or st (r.frame + row.a) 0)) → left o st m ≡ after effect_of t c r st m
    unfolding end_block_of keeps store_from effected
    do-end-block q p = becomes (end_block_of (rows_alone t c) (world r st m)) o st m (forms.of-end-block (rows_alone t c) (world r st m) (sym e ∙ q)) (rw p)

    pub do-let : (st' : List ℕ) → k ≡ 5 → left o st' m ≡ after setting_local t c r st m → left o st' m ≡ after effect_of t c r st m
    do-let st' q p = becomes (setting_local (rows_alone t c) (world r st m)) o st' m (forms.of-let (rows_alone t c) (world r st m) (sym e ∙ q)) p

    pub do-set : (st' : List ℕ) → k ≡ 6 → left o st' m ≡ after setting_local t c r st m → left o st' m ≡ after effect_of t c r st m
    do-set st' q p = becomes (setting_local (rows_alone t c) (world r st m)) o st' m (forms.of-set (rows_alone t c) (world r st m) (sym e ∙ q)) p

    pub do-set-byte : (m' : List ℕ) → k ≡ 8 → left o st m' ≡ after setting_byte t c r st m → left o st m' ≡ after effect_of t c r st m
    do-set-byte m' q p = becomes (setting_byte (rows_alone t c) (world r st m)) o st m' (forms.of-set-byte (rows_alone t c) (world r st m) (sym e ∙ q)) p

    pub do-set-word : (m' : List ℕ) → k ≡ 9 → left o st m' ≡ after setting_word t c r st m → left o st m' ≡ after effect_of t c r st m
    do-set-word m' q p = becomes (setting_word (rows_alone t c) (world r st m)) o st m' (forms.of-set-word (rows_alone t c) (world r st m) (sym e ∙ q)) p

    pub do-call : (st' : List ℕ) → k ≡ 11 → left o st' m ≡ after calling t c r st m → left o st' m ≡ after effect_of t c r st m
    do-call st' q p = becomes (calling (rows_alone t c) (world r st m)) o st' m (forms.of-call (rows_alone t c) (world r st m) (sym e ∙ q)) p

    pub do-tail-call : (st' : List ℕ) → k ≡ 12 → left o st' m ≡ after tail_calling t c r st m → left o st' m ≡ after effect_of t c r st m
    do-tail-call st' q p = becomes (tail_calling (rows_alone t c) (world r st m)) o st' m (forms.of-tail-call (rows_alone t c) (world r st m) (sym e ∙ q)) p

    pub do-end-if : k ≡ 22 → o ≡ one_step (going_on r (suc r.next) r.top) → left o st m ≡ after effect_of t c r st m
    unfolding goes_to effected
    do-end-if q p = becomes (goes_to (rows_alone t c) (world r st m) (suc r.next)) o st m (forms.of-end-if (rows_alone t c) (world r st m) (sym e ∙ q)) (rw p)

    pub do-test : (b : Bool) → b ≡ is_test k → b ≡ true → left o st m ≡ after test_of t c r st m → left o st m ≡ after effect_of t c r st m
    do-test b d q p = becomes (test_of (rows_alone t c) (world r st m)) o st m (forms.of_test (rows_alone t c) (world r st m) (ap is_test (sym e) ∙ sym d ∙ q)) p

    pub do-jump : (b : Bool) → b ≡ is_test k → b ≡ false → (k ≡ 2 → ⊥) → (k ≡ 3 → ⊥) → (k ≡ 4 → ⊥) → (k ≡ 5 → ⊥) → (k ≡ 6 → ⊥) → (k ≡ 7 → ⊥) → (k ≡ 8 → ⊥)
        → (k ≡ 9 → ⊥) → (k ≡ 11 → ⊥) → (k ≡ 12 → ⊥) → (k ≡ 13 → ⊥) → (k ≡ 22 → ⊥) → o ≡ one_step (going_on r row.a r.top) → left o st m ≡ after effect_of t c r st m
    unfolding goes_to effected
    do-jump b d q a2 a3 a4 a5 a6 a7 a8 a9 a11 a12 a13 a22 p =
        becomes (goes_to (rows_alone t c) (world r st m) row.a) o st m
        (forms.of-jump (rows_alone t c) (world r st m) (ap is_test (sym e) ∙ sym d ∙ q) (λ j. a2 (e ∙ j)) (λ j. a3 (e ∙ j)) (λ j. a4 (e ∙ j)) (λ j. a5 (e ∙ j)) (λ j. a6 (e ∙ j))
        (λ j. a7 (e ∙ j)) (λ j. a8 (e ∙ j)) (λ j. a9 (e ∙ j)) (λ j. a11 (e ∙ j)) (λ j. a12 (e ∙ j)) (λ j. a13 (e ∙ j)) (λ j. a22 (e ∙ j)))
        (rw p)

pub ruleset locals = (local-call, local-other)

pub ruleset at-forms = (at_call, at_other)

pub ruleset return-forms = (return-call, return-bare, return-other)

pub ruleset doing = (do-end, do-block, do-end-block, do-let, do-set, do-set-byte, do-set-word, do-call, do-tail-call, do-end-if, do-test, do-jump)
