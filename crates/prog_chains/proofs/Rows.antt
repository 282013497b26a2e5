-- Row by row: where the tests of frame words and scope hold of all rows before row n, the same tests made from counts of lets say what they
-- say of row n.
-- Assumes nothing.
use mathlib.Core.Path.{◌≡◌, refl, sym, ap}
use mathlib.Core.Bool.{Bool, true, false}
use mathlib.Core.List.{List, [], ◌∷◌}
use Prim.Native.Nat.{ℕ, ◌<◌, ◌≤◌}
use native.Mathlib.Decide.{ℕ_discrete}
use native.Mathlib.Omega.{arith}
use borrow.Author.Tests.{eqb-true, eq-eqb, ne_eqb}
use lib.Dec.{eqb, ltb, leb}
use Rattle.base_prelude.specs.Choice.{if_eq}
use Rattle.prog_tables.specs.Tests.{both, given, all, all_below}
use Rattle.prog_tables.specs.Statement.{Row}
use Rattle.prog_tables.specs.Program.{Program}
use Rattle.prog_tables.specs.Nesting.{stands, depth_of}
use Rattle.prog_tables.specs.Frames.{lets_before, frame_size, block_word, let_word, in_scope, locals_at}
use Rattle.prog_tables.specs.Faults.{address_listed}
use Rattle.prog_tables.specs.WellFormed.{operand_good, operands_good, address_good, sets_local, framed, few_locals}
use Rattle.prog_tables.specs.declared.Operand.{Operand}
use Rattle.prog_tables.specs.declared.Operand.TheVariants.{Constant, Local, Address, AtConstant, AtLocal, AtAddress, Unlisted}
use Rattle.prog_tables.proofs.Each.{both_left, both_false, given-then, all-at, below_at}
use Rattle.prog_laws.proofs.Next.{end-block}
use Rattle.prog_tables.proofs.Words.{scopes}
use Rattle.prog_chains.specs.FrameTests.{frame_tests, frame_good}
use Rattle.prog_chains.specs.Counted.{next_word, scope_holds, scope_size, operand_held, operands_held, address_held, set_held, block_held, let_held, function_held, word_held, row_held}
use Rattle.prog_chains.proofs.Numbers.{all_same}
use Rattle.prog_chains.proofs.Chains.{Counts, scope-is, size_is, let-next, block-next}

-- ---- tests put together

twice : (a : Bool) → both (both a true) true ≡ a
twice true = refl
twice false = refl

last_one : (a b : Bool) → both a b ≡ both (both a true) b
last_one true b = refl
last_one false b = refl

turned : (a b : Bool) → both a b ≡ both (both b true) (both a true)
turned true true = refl
turned true false = refl
turned false true = refl
turned false false = refl

-- the tests in another order
mixed : (w v o s a : Bool) → both (both w v) (both o (both s (both a true))) ≡ both o (both a (both s (both w (both v true))))
mixed w v false s a = both_false (both w v)
mixed w v true false true = both_false (both w v)
mixed w v true false false = both_false (both w v)
mixed w v true true false = both_false (both w v)
mixed true true true true true = refl
mixed true false true true true = refl
mixed false v true true true = refl

-- ---- what `framed` says of a row

module _ (f : ℕ → Row) (c i : ℕ) (h : framed f c i ≡ true) where
  abbrev word_tests : List Bool
  word_tests =
      given (eqb (f i).kind 5) (eqb (f i).a (let_word f c i))
      ∷ given (eqb (f i).kind 3) (both (eqb (f i).a (block_word f c i)) (both (eqb (f i).b (lets_before f i c)) (eqb (f i).callee (locals_at f i))))
      ∷ given (eqb (f i).kind 4) (eqb (f i).a (block_word f c (f i).scope))
      ∷ given (eqb (f i).kind 1) (eqb (f i).a (frame_size f c i))
      ∷ []

  pub let-framed : (f i).kind ≡ 5 → (f i).a ≡ let_word f c i
  unfolding framed
  let-framed e =
      eqb-true _ _ (given-then (eqb (f i).kind 5) (eqb (f i).a (let_word f c i)) (all-at word_tests 0 h (omega arith)) (eq-eqb _ _ e))

  pub block-framed : (f i).kind ≡ 3 → (f i).a ≡ block_word f c i
  unfolding framed
  block-framed e =
      eqb-true _ _
      (both_left (eqb (f i).a (block_word f c i)) (both (eqb (f i).b (lets_before f i c)) (eqb (f i).callee (locals_at f i)))
      (given-then (eqb (f i).kind 3) (both (eqb (f i).a (block_word f c i)) (both (eqb (f i).b (lets_before f i c)) (eqb (f i).callee (locals_at f i)))) (all-at word_tests 1 h (omega arith)) (eq-eqb _ _ e)))

framed-good : (p : Program) (n : ℕ) → frame_good p n ≡ true → framed p.rows p.count n ≡ true
unfolding frame_tests
framed-good p n h =
    all-at (operands_good p n ∷ address_good p n ∷ sets_local p.rows n ∷ framed p.rows p.count n ∷ few_locals p.rows n ∷ []) 3 h (omega arith)

-- ---- row n

module _ (p : Program)
    (ok : (i : ℕ) → i < p.count → stands p.rows i ≡ true)
    (flat : (i : ℕ) → i < p.count → depth_of p.rows 17 i ≤ 16)
    (n : ℕ)
    (low : n < p.count)
    (good : all_below (frame_good p) n ≡ true)
    (x y : List ℕ)
    (counts : Counts p.rows p.count n x)
    (whole : Counts p.rows p.count p.count y) where
  before : (i : ℕ) → i < n → framed p.rows p.count i ≡ true
  before i l = framed-good p i (below_at (frame_good p) n i good l)

  blocks : (i : ℕ) → i < n → (p.rows i).kind ≡ 3 → (p.rows i).a ≡ block_word p.rows p.count i
  blocks i l e = block-framed p.rows p.count i (before i l) e

  lets : (i : ℕ) → i < n → (p.rows i).kind ≡ 5 → (p.rows i).a ≡ let_word p.rows p.count i
  lets i l e = let-framed p.rows p.count i (before i l) e

  scope-same : (w : ℕ) → scope_holds p.rows x n w ≡ in_scope p.rows n w
  scope-same w = scope-is p.rows p.count ok flat n blocks lets (omega arith) x counts low w

  size_same : scope_size p.rows x n ≡ locals_at p.rows n
  size_same = size_is p.rows p.count ok flat n blocks lets (omega arith) x counts low

  let-same : next_word p.rows x (p.rows n).scope ≡ let_word p.rows p.count n
  let-same = let-next p.rows p.count ok flat n blocks lets (omega arith) x counts low

  block_same : next_word p.rows y (p.rows n).scope ≡ block_word p.rows p.count n
  block_same = block-next p.rows p.count ok flat n blocks lets (omega arith) x counts low y whole

  operand_same : (o : Operand) → operand_held p.rows p.labels p.label_count x n o ≡ operand_good p n o
  unfolding operand_held operand_good
  operand_same (Constant v) = refl
  operand_same (Local w) = scope-same w
  operand_same (Address v) = refl
  operand_same (AtConstant v) = refl
  operand_same (AtLocal w) = scope-same w
  operand_same (AtAddress v) = refl
  operand_same Unlisted = refl

  operands_same : operands_held p.rows p.labels p.label_count x n ≡ operands_good p n
  unfolding operands_held operands_good
  operands_same = all_same (operand_held p.rows p.labels p.label_count x n) (operand_good p n) (p.rows n).operands operand_same

  address_same : address_held p.rows p.labels p.label_count x n ≡ address_good p n
  unfolding address_held address_good if_eq
  address_same = ap (λ (b : Bool). given (eqb (p.rows n).kind 7) (both (address_listed (p.rows n).address) b)) (operand_same (p.rows n).address)

  set_same : set_held p.rows x n ≡ sets_local p.rows n
  unfolding set_held sets_local if_eq
  set_same = ap (λ (b : Bool). given (eqb (p.rows n).kind 6) b) (scope-same (p.rows n).a)

  -- ---- a row's own word

  word-let : (p.rows n).kind ≡ 5 → word_held p.rows p.count x y n ≡ both (framed p.rows p.count n) (few_locals p.rows n)
  unfolding word_held let_held framed few_locals all if_eq
  word-let e =
      rw (e, let-same, size_same) (last_one (eqb (p.rows n).a (let_word p.rows p.count n)) (ltb (locals_at p.rows n) 64))

  word-block : (p.rows n).kind ≡ 3 → word_held p.rows p.count x y n ≡ both (framed p.rows p.count n) (few_locals p.rows n)
  unfolding word_held block_held framed few_locals all if_eq
  word-block e =
      rw (e, block_same, size_same, whole.each n low)
      (sym (twice (both (eqb (p.rows n).a (block_word p.rows p.count n)) (both (eqb (p.rows n).b (lets_before p.rows n p.count)) (eqb (p.rows n).callee (locals_at p.rows n))))))

  -- an `end block` has the word of its block
  word_end_lem : (p.rows n).kind ≡ 4 → word_held p.rows p.count x y n ≡ both (framed p.rows p.count n) (few_locals p.rows n)
  unfolding word_held framed few_locals all if_eq
  word_end_lem e =
      rw (e, blocks (p.rows n).scope before-end (end-block p.rows p.count ok n low e))
      (sym (twice (eqb (p.rows n).a (block_word p.rows p.count (p.rows n).scope))))
    where
      before-end : (p.rows n).scope < n
      before-end = (scopes p.rows p.count ok p.count (omega arith) n low (λ (d : (p.rows n).kind ≡ 1). omega arith)).low

  word-function : (p.rows n).kind ≡ 1 → word_held p.rows p.count x y n ≡ both (framed p.rows p.count n) (few_locals p.rows n)
  unfolding word_held function_held framed few_locals all if_eq
  word-function e = rw e (turned (leb (p.rows n).b 8) (eqb (p.rows n).a (frame_size p.rows p.count n)))

  word-other : ((p.rows n).kind ≡ 5 → ⊥) → ((p.rows n).kind ≡ 3 → ⊥) → ((p.rows n).kind ≡ 4 → ⊥) → ((p.rows n).kind ≡ 1 → ⊥)
      → word_held p.rows p.count x y n ≡ both (framed p.rows p.count n) (few_locals p.rows n)
  unfolding word_held framed few_locals all if_eq
  word-other a b d e = rw (ne_eqb (p.rows n).kind 5 a, ne_eqb (p.rows n).kind 3 b, ne_eqb (p.rows n).kind 4 d, ne_eqb (p.rows n).kind 1 e)

  word_same : word_held p.rows p.count x y n ≡ both (framed p.rows p.count n) (few_locals p.rows n)
  word_same =
      elim (ℕ_discrete (p.rows n).kind 5) [
        | yes e ↦ word-let e
        | no a ↦ elim (ℕ_discrete (p.rows n).kind 3) [
          | yes e ↦ word-block e
          | no b ↦ elim (ℕ_discrete (p.rows n).kind 4) [
            | yes e ↦ word_end_lem e
            | no d ↦ elim (ℕ_discrete (p.rows n).kind 1) [ yes e ↦ word-function e | no e ↦ word-other a b d e ]
          ]
        ]
      ]

  -- all tests of row n
  pub row_same : row_held p.rows p.count p.labels p.label_count x y n ≡ frame_good p n
  unfolding row_held frame_tests all
  row_same =
      rw (word_same, operands_same, set_same, address_same)
      (mixed (framed p.rows p.count n) (few_locals p.rows n) (operands_good p n) (sets_local p.rows n) (address_good p n))
