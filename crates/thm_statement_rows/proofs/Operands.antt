-- Operands, destinations, targets and callees of rows whose names have no fault are those of things in scope.
-- Assumes nothing.
use mathlib.Core.Path.{◌≡◌, refl, sym, ◌∙◌, ap, ap₂, subst}
use mathlib.Core.Bool.{Bool, true, false}
use mathlib.Core.List.{List, [], ◌∷◌}
use Prim.Native.Nat.{ℕ, zero, suc, ◌+◌, ◌*◌, ◌-◌, ◌%◌, ◌≤◌, ◌<◌, min}
use native.Mathlib.Nat.{mod-eq_of_lt}
use native.Mathlib.Decide.{dec_lt, ℕ_discrete}
use native.Mathlib.Omega.{arith}
use lib.Dec.{eqb, ltb, leb}
use lib.ListN.{length, get_or}
use mathlib.Core.Logic.{◌⊎◌, inl, inr}
use borrow.Author.Tests.{eq-eqb, ne_eqb, eqb-true, lt-ltb, le-leb}
use Rattle.base_prelude.specs.Choice.{pick, if_lt, if_eq, if_true}
use Rattle.base_prelude.specs.Fault.{none}
use Rattle.base_prelude.proofs.Choice.{either-eq, either_true, if_eq-yes, if_eq-no, true-false}
use Rattle.parse_lines.specs.Tokens.{key_at, kind_at, value_at}
use Rattle.parse_lines.proofs.Keys.{no_key}
use Rattle.prog_tables.proofs.Each.{both_true}
use Rattle.prog_tables.specs.Tests.{both, one_of, given, all, all_of, some_below}
use Rattle.prog_tables.specs.Statement.{Row, row_at, is_call}
use Rattle.prog_tables.specs.Nesting.{encloses}
use Rattle.prog_tables.specs.Frames.{frame_depth, let_seen, is_parameter, seen_at, in_scope}
use Rattle.prog_tables.specs.Label.{Label, is_data, is_function_label}
use Rattle.prog_tables.specs.Faults.{address_listed}
use Rattle.prog_tables.specs.WellFormed.{labelled, operand_good}
use Rattle.prog_tables.specs.declared.Operand.{Operand}
use Rattle.prog_tables.specs.declared.Operand.TheVariants.{Constant, Local, Address, AtConstant, AtLocal, AtAddress, Unlisted}
use Rattle.res_scope.specs.Lines.{first_token, end_token, label_kind, label_statement, label_arguments}
use Rattle.res_scope.specs.Names.{let_named, meaning_of}
use Rattle.res_scope.specs.Parts.{parts_of}
use Rattle.res_scope.specs.declared.Meaning.{Meaning}
use Rattle.res_scope.specs.declared.Meaning.TheVariants as meaning
use Rattle.res_names.specs.Naming.{data_fault, value_fault, set_fault, function_fault, callee_fault, place_fault, goto_fault}
use Rattle.res_rows.specs.Rows.{label_number, word_of_let, word_of_parameter, local_word, label_target, called_label, callee_target, is_imported, plain_operand, at_operand, constant_operand, token_operand, address_constant, address_operand, operands_from}
use Rattle.thm_statement_rows.proofs.Views.{viewing, Alike, seen_same}
use Rattle.thm_statement_rows.proofs.Meanings.{IsLet, IsParameter, From, meaning-from, data-kind, Callable, function-good, place-good}
use Rattle.prog_tables.proofs.Each.{some_at}
use Rattle.prog_tables.specs.Program.{Program}

or_left : (a b : Bool) → a ≡ true → one_of a b ≡ true
or_left true b p = refl
or_left false b p = true-false (sym p)

or_right : (a b : Bool) → b ≡ true → one_of a b ≡ true
or_right true b p = refl
or_right false b p = p

-- what is known of the finished tables: the view f of the rows, h of the labels
pub record Known (same : ℕ → ℕ → Bool) (t k y : List ℕ) (l : ℕ) (w z : List ℕ) (c : ℕ) (f : ℕ → Row) (h : ℕ → Label) : Type 0 where
  pub alike : Alike f (row_at k)
  -- a let's row holds its word
  pub lets : (m : ℕ) → m < c → (row_at k m).kind ≡ 5 → (f m).a ≡ get_or w m 0
  -- the parameters of the function around a row
  pub params : (r : ℕ) → r < c → ((row_at k (row_at k r).func).b ≡ end_token k (row_at k r).func - (first_token k (row_at k r).func + 1)) × ((row_at k (row_at k r).func).b ≤ 8)
  pub frame : (r : ℕ) → r < c → (row_at k (row_at k r).func).kind ≡ 3 → ⊥
  -- a label's row
  pub numbers : (j : ℕ) → j < l → (h j).number ≡ label_number z j
  pub values : (j : ℕ) → j < l → label_kind y j ≡ 1 → is_data (h j).kind ≡ true
  pub functions : (j : ℕ) → j < l → label_kind y j ≡ 3 → (is_function_label (h j).kind ≡ true) × (label_number z j ≡ label_statement y j)
  pub places : (j : ℕ) → j < l → label_kind y j ≡ 5 → ((h j).kind ≡ 5) × (label_number z j ≡ label_statement y j)
  pub imports : (j : ℕ) → j < l → label_kind y j ≡ 6 → ((h j).kind ≡ 6) × ((h j).arguments ≡ label_arguments y j)
  -- what it names
  pub callees : (j : ℕ) → j < l → label_kind y j ≡ 3 → (label_statement y j < c) × ((row_at k (label_statement y j)).kind ≡ 1)
  pub spots : (j : ℕ) → j < l → label_kind y j ≡ 5 → label_statement y j < c
  -- a label by which a statement that stands before its function calls it is not exported
  pub forward : (r j : ℕ) → r < c → j < l → is_call (row_at k r).kind (parts_of t (row_at k r).kind (first_token k r) (end_token k r)).expr ≡ true
      → meaning_of same k y l r (parts_of t (row_at k r).kind (first_token k r) (end_token k r)).callee ≡ meaning.Label j
      → label_kind y j ≡ 3 → r < label_statement y j → (h j).kind ≡ 3

module _ (same : ℕ → ℕ → Bool) (t k y : List ℕ) (l : ℕ) (w z : List ℕ) (c : ℕ) (f : ℕ → Row) (h : ℕ → Label) (q : Known same t k y l w z c f h) where
  named-kind : (s i m : ℕ) → let_named same k s i m ≡ true → ((row_at k m).kind ≡ 5) × (encloses (row_at k) frame_depth (row_at k m).scope s ≡ true)
  unfolding let_named
  named-kind s i m =
      either-eq (λ (b : Bool). b ≡ true → ((row_at k m).kind ≡ 5) × (encloses (row_at k) frame_depth (row_at k m).scope s ≡ true)) (row_at k m).kind 5 _ _
      (λ e. either_true (λ (b : Bool). b ≡ true → ((row_at k m).kind ≡ 5) × (encloses (row_at k) frame_depth (row_at k m).scope s ≡ true)) (same (first_token k m + 1) i) _ _
      (λ _ g. (e, g)) (λ _ g. true-false (sym g)))
      (λ _ g. true-false (sym g))

  -- a let's word is in scope
  seen_by : (s m : ℕ) → ((row_at k m).kind ≡ 5) × (encloses (row_at k) frame_depth (row_at k m).scope s ≡ true) → let_seen (row_at k) s m ≡ true
  unfolding let_seen
  seen_by s m n = both_true (eqb (row_at k m).kind 5) (encloses (row_at k) frame_depth (row_at k m).scope s) (eq-eqb _ _ n.0) n.1

  seen-is : (r m : ℕ) → ((row_at k m).kind ≡ 5) × (encloses (row_at k) frame_depth (row_at k m).scope (row_at k r).scope ≡ true) → let_seen f (f r).scope m ≡ true
  seen-is r m n =
      seen_same f (row_at k) q.alike (f r).scope m ∙ ap (λ (s : ℕ). let_seen (row_at k) s m) (q.alike.scopes r) ∙ seen_by (row_at k r).scope m n

  let-scope : (r i m : ℕ) → r < c → IsLet same k y l r i m → in_scope f r (word_of_let w m) ≡ true
  unfolding in_scope seen_at word_of_let
  let-scope r i m l₀ x =
      let n = named-kind (row_at k r).scope i m x.named in
      let a = x.before in
      or_right (is_parameter (f (f r).func).b (get_or w m 0)) (some_below (λ i. both (let_seen f (f r).scope i) (eqb (f i).a (get_or w m 0))) r)
      (some_at (λ i. both (let_seen f (f r).scope i) (eqb (f i).a (get_or w m 0))) r m a
      (both_true (let_seen f (f r).scope m) (eqb (f m).a (get_or w m 0)) (seen-is r m n) (eq-eqb (f m).a (get_or w m 0) (q.lets m (omega (arith, a)) n.0))))

  -- a parameter's word is in scope
  parameter-scope : (r i j : ℕ) → r < c → IsParameter same k y l r i j → in_scope f r (word_of_parameter j) ≡ true
  unfolding in_scope is_parameter word_of_parameter
  parameter-scope r i j l₀ x =
      let p = q.params r l₀ in
      let a : j < (row_at k (row_at k r).func).b = omega (arith, x.few, p.0) in
      let e : (3 + j) % 4294967296 ≡ 3 + j = mod-eq_of_lt (omega (arith, a, p.1)) in
      let b : (f (f r).func).b ≡ (row_at k (row_at k r).func).b = ap (λ (i : ℕ). (f i).b) (q.alike.funcs r) ∙ q.alike.counts (row_at k r).func (λ d. q.frame r l₀ (sym (q.alike.kinds (row_at k r).func) ∙ d)) in
      or_left (both (leb 3 ((3 + j) % 4294967296)) (ltb ((3 + j) % 4294967296 - 3) (f (f r).func).b)) (some_below (seen_at f (f r).scope ((3 + j) % 4294967296)) r)
      (both_true (leb 3 ((3 + j) % 4294967296)) (ltb ((3 + j) % 4294967296 - 3) (f (f r).func).b)
      (le-leb 3 ((3 + j) % 4294967296) (omega (arith, e)))
      (lt-ltb ((3 + j) % 4294967296 - 3) (f (f r).func).b (omega (arith, e, a, b))))

  pub label-named : (p : ℕ → Bool) (j : ℕ) → j < l → p (h j).kind ≡ true → labelled h l p (label_number z j) ≡ true
  unfolding labelled
  label-named p j g e =
      some_at (λ i. both (p (h i).kind) (eqb (h i).number (label_number z j))) l j g
      (both_true (p (h j).kind) (eqb (h j).number (label_number z j)) e (eq-eqb (h j).number (label_number z j) (q.numbers j g)))

  called-function : (j : ℕ) → label_kind y j ≡ 3 → called_label y z j ≡ label_number z j
  unfolding called_label
  called-function j e = if_eq-no _ _ (λ d. let v : ⊥ = omega (arith, e, d) in v)

  called-import : (j : ℕ) → label_kind y j ≡ 6 → called_label y z j ≡ j
  unfolding called_label
  called-import j e = if_eq-yes _ _ e

  module _ (prog : Program) (n r i : ℕ) (l₀ : r < c) where
    pub plain-good : (m : Meaning) → From same k y l r i m → none ≤ value_fault t n y i m → operand_good (viewing prog f c h l prog.data_length) r (plain_operand w z m) ≡ true
    unfolding value_fault plain_operand operand_good
    plain-good (meaning.Let m) x g = let-scope r i m l₀ x
    plain-good (meaning.Parameter j) x g = parameter-scope r i j l₀ x
    plain-good (meaning.Label j) x g = label-named is_data j x (q.values j x (data-kind t n k y r i j g))
    plain-good meaning.Unknown x g = no_key t n i 10 (omega arith) g

    pub at-good : (m : Meaning) → From same k y l r i m → none ≤ value_fault t n y i m → operand_good (viewing prog f c h l prog.data_length) r (at_operand w z m) ≡ true
    unfolding value_fault at_operand operand_good
    at-good (meaning.Let m) x g = let-scope r i m l₀ x
    at-good (meaning.Parameter j) x g = parameter-scope r i j l₀ x
    at-good (meaning.Label j) x g = label-named is_data j x (q.values j x (data-kind t n k y r i j g))
    at-good meaning.Unknown x g = no_key t n i 10 (omega arith) g

    pub plain-listed : (m : Meaning) → none ≤ value_fault t n y i m → address_listed (plain_operand w z m) ≡ true
    unfolding value_fault plain_operand address_listed
    plain-listed (meaning.Let m) g = refl
    plain-listed (meaning.Parameter j) g = refl
    plain-listed (meaning.Label j) g = refl
    plain-listed meaning.Unknown g = no_key t n i 10 (omega arith) g

    -- "`set` takes a local."
    pub set-scope : (m : Meaning) → From same k y l r i m → none ≤ set_fault t n i m → in_scope f r (local_word w m) ≡ true
    unfolding set_fault local_word
    set-scope (meaning.Let m) x g = let-scope r i m l₀ x
    set-scope (meaning.Parameter j) x g = parameter-scope r i j l₀ x
    set-scope (meaning.Label j) x g = no_key t n i 11 (omega arith) g
    set-scope meaning.Unknown x g = no_key t n i 10 (omega arith) g

    -- "`call` and `tail-call` take a function label with its parameter count."
    pub callee-good : (count : ℕ) (m : Meaning) → From same k y l r i m → none ≤ callee_fault t n k y i count m → is_imported y m ≡ false
        → (j : ℕ) × (j < l) × (label_kind y j ≡ 3) × (callee_target y z m ≡ label_statement y j) × ((row_at k (label_statement y j)).b ≡ count)
        × (labelled h l is_function_label (callee_target y z m) ≡ true) × (m ≡ meaning.Label j)
    unfolding callee_fault callee_target is_imported
    callee-good count (meaning.Let m) x g o = no_key t n i 11 (omega arith) g
    callee-good count (meaning.Parameter j) x g o = no_key t n i 11 (omega arith) g
    callee-good count (meaning.Label j) x g o = by (function-good t n k y r i count j g)
      where
        by : Callable t n k y r i count j
            → (e : ℕ) × (e < l) × (label_kind y e ≡ 3) × (callee_target y z (meaning.Label j) ≡ label_statement y e) × ((row_at k (label_statement y e)).b ≡ count)
            × (labelled h l is_function_label (callee_target y z (meaning.Label j)) ≡ true) × (meaning.Label j ≡ meaning.Label e)
        by (inl d) =
            let v = q.functions j x d.0 in
            let e = called-function j d.0 in
            (j, x, d.0, e ∙ v.1, d.1, ap (labelled h l is_function_label) e ∙ label-named is_function_label j x v.0, refl)
        by (inr d) = true-false (sym (eq-eqb _ _ d.0) ∙ o)
    callee-good count meaning.Unknown x g o = no_key t n i 10 (omega arith) g

    -- an imported name is called by its label row, with its argument count
    pub import-good : (count : ℕ) (m : Meaning) → From same k y l r i m → none ≤ callee_fault t n k y i count m → is_imported y m ≡ true
        → (j : ℕ) × (j < l) × (callee_target y z m ≡ j) × ((h j).kind ≡ 6) × ((h j).arguments ≡ count)
    unfolding callee_fault callee_target is_imported
    import-good count (meaning.Let m) x g o = true-false (sym o)
    import-good count (meaning.Parameter j) x g o = true-false (sym o)
    import-good count (meaning.Label j) x g o = by (function-good t n k y r i count j g)
      where
        six : label_kind y j ≡ 6
        six = eqb-true _ _ o

        by : Callable t n k y r i count j → (e : ℕ) × (e < l) × (callee_target y z (meaning.Label j) ≡ e) × ((h e).kind ≡ 6) × ((h e).arguments ≡ count)
        by (inl d) = let e : ⊥ = omega (arith, d.0, six) in absurd e
        by (inr d) = let v = q.imports j x six in (j, x, called-import j six, v.0, v.1 ∙ d.1)
    import-good count meaning.Unknown x g o = true-false (sym o)

    -- "`goto` takes a statement's label in the same function and innermost block."
    pub goto-good : (m : Meaning) → From same k y l r i m → none ≤ goto_fault t n k y r i m
        → (j : ℕ) × (j < l) × (label_kind y j ≡ 5) × (label_target z m ≡ label_statement y j) × ((row_at k (label_statement y j)).func ≡ (row_at k r).func) × ((row_at k (label_statement y j)).scope ≡ (row_at k r).scope)
        × (labelled h l (λ v. eqb v 5) (label_target z m) ≡ true)
    unfolding goto_fault label_target
    goto-good (meaning.Let m) x g = no_key t n i 11 (omega arith) g
    goto-good (meaning.Parameter j) x g = no_key t n i 11 (omega arith) g
    goto-good (meaning.Label j) x g =
        let d = place-good t n k y r i j g in
        let v = q.places j x d.0 in
        (j, x, d.0, v.1, d.1, d.2, label-named (λ v. eqb v 5) j x (eq-eqb _ _ v.0))
    goto-good meaning.Unknown x g = no_key t n i 10 (omega arith) g
