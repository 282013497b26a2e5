-- Every row of an accepted source passes its tests.
-- Assumes nothing.
use mathlib.Core.Path.{◌≡◌, refl, sym, ◌∙◌, ap, ap₂, subst}
use mathlib.Core.Bool.{Bool, true, false}
use mathlib.Core.List.{List, [], ◌∷◌}
use Prim.Native.Nat.{ℕ, zero, suc, ◌+◌, ◌*◌, ◌-◌, ◌≤◌, ◌<◌}
use native.Mathlib.Decide.{ℕ_discrete}
use native.Mathlib.Omega.{arith}
use lib.Dec.{eqb, ltb, leb}
use lib.ListN.{length, get_or}
use Rattle.base_prelude.specs.Choice.{if_lt, if_eq, if_true}
use Rattle.base_prelude.specs.Lists.{zeros}
use Rattle.base_prelude.proofs.Choice.{either-eq, if_eq-yes, if_eq-no, true-false}
use Rattle.base_limits.specs.declared.Width.{Width}
use Rattle.parse_lines.specs.Tokens.{kind_at}
use Rattle.prog_tables.proofs.Each.{both_true}
use Rattle.prog_tables.specs.Tests.{both, all, all_below}
use Rattle.prog_tables.specs.Statement.{Row, row_at, is_call, has_expression}
use Rattle.prog_tables.specs.Nesting.{stands}
use Rattle.prog_tables.specs.Label.{Label, is_data, is_function_label}
use Rattle.prog_tables.specs.WellFormed.{shallow, few_locals, row_tests}
use Rattle.prog_tables.specs.Program.{Program}
use Rattle.parse_outline.specs.Outline.{Outlined, outline_of}
use Rattle.parse_outline.specs.Outline as outline
use Rattle.parse_outline.specs.Parsed as answer
use Rattle.res_skeleton.specs.Skeleton.{skeleton_of}
use Rattle.res_scope.specs.Lines.{first_token, end_token, label_kind, label_statement, label_arguments}
use Rattle.res_scope.specs.Names.{meaning_of}
use Rattle.res_scope.specs.declared.Meaning.TheVariants as meaning
use Rattle.res_frame_words.specs.Framing.{words_of}
use Rattle.res_rows.specs.Rows.{label_number, aOf, row_with, row_of, statement_table}
use Rattle.parse_verdict.specs.Verdict.{Clean}
use Rattle.thm_acceptance.specs.Faults.{all_name_faults}
use Rattle.thm_outline.proofs.Rows.{kind_of, parts_at, row-shaped, row_listed, row-few, row_operands, address-marked, callee-some, callee-none, function-parameters}
use Rattle.thm_statement_rows.proofs.Views.{viewing, Alike, stands_same, shallow-same, few-same}
use Rattle.thm_statement_rows.proofs.Operands.{Known}
use Rattle.thm_statement_rows.proofs.Statements.{statement-clean, Called, operands-pass, address-passes, set-passes, goto-passes, calls-pass, forward-passes, shape-passes}
use Rattle.thm_statement_rows.proofs.Framing.{aimed-passes, framed-passes}
use Rattle.thm_soundness.proofs.Rows.{few-statements, stand, in-function, few-parameters, back, alike}

-- what the label rows say: h the view of the finished ones
pub record Labels (k y : List ℕ) (l : ℕ) (z : List ℕ) (c : ℕ) (h : ℕ → Label) : Type 0 where
  pub numbers : (j : ℕ) → j < l → (h j).number ≡ label_number z j
  pub values : (j : ℕ) → j < l → label_kind y j ≡ 1 → is_data (h j).kind ≡ true
  pub functions : (j : ℕ) → j < l → label_kind y j ≡ 3 → (is_function_label (h j).kind ≡ true) × (label_number z j ≡ label_statement y j)
  pub places : (j : ℕ) → j < l → label_kind y j ≡ 5 → ((h j).kind ≡ 5) × (label_number z j ≡ label_statement y j)
  pub imports : (j : ℕ) → j < l → label_kind y j ≡ 6 → ((h j).kind ≡ 6) × ((h j).arguments ≡ label_arguments y j)
  pub callees : (j : ℕ) → j < l → label_kind y j ≡ 3 → (label_statement y j < c) × ((row_at k (label_statement y j)).kind ≡ 1)
  pub spots : (j : ℕ) → j < l → label_kind y j ≡ 5 → label_statement y j < c

-- a label by which a statement that stands before its function calls it is not exported
abbrev pub Forward : (ℕ → ℕ → Bool) → List ℕ → List ℕ → List ℕ → ℕ → ℕ → (ℕ → Label) → Type 0
Forward same t k y l c h = (r j : ℕ) → r < c → j < l → is_call (kind_of k r) (parts_at t k r).expr ≡ true → meaning_of same k y l r (parts_at t k r).callee ≡ meaning.Label j
    → label_kind y j ≡ 3 → r < label_statement y j → (h j).kind ≡ 3

-- a call is no block
block-not : (e : ℕ) → is_call 3 e ≡ false
unfolding is_call has_expression if_lt if_true
block-not e =
    either-eq (λ (b : Bool). b ≡ false) e 3 _ _ (λ _. refl)
    (λ _. if_eq-no _ _ (λ d. let z : ⊥ = omega arith in z) ∙ if_eq-no _ _ (λ d. let z : ⊥ = omega arith in z))

call-not : (e v : ℕ) → v ≡ 3 → is_call v e ≡ true → ⊥
call-not e v q h = true-false (sym h ∙ ap (λ (u : ℕ). is_call u e) q ∙ block-not e)

module _ (w : Width) (t : List ℕ) (n c l : ℕ) (x y : List ℕ) (long : length t ≡ 32768) (oh : outline_of w t n ≡ outline.parsed (answer.accepted c l) x y)
    (same : ℕ → ℕ → Bool) (z : List ℕ) (m : ℕ) (room : c * 27 ≤ m) (h : ℕ → Label) (lb : Labels (skeleton_of x c) y l z c h)
    (clean : Clean (all_name_faults same t n (skeleton_of x c) y l c))
    (deep : (r : ℕ) → r < c → shallow (row_at (skeleton_of x c)) r ≡ true) (few : (r : ℕ) → r < c → few_locals (row_at (skeleton_of x c)) r ≡ true)
    (forward : Forward same t (skeleton_of x c) y l c h) where
  abbrev k : List ℕ
  k = skeleton_of x c

  abbrev frames : List ℕ
  frames = words_of (row_at (skeleton_of x c)) c

  abbrev table : List ℕ
  table = statement_table same t (skeleton_of x c) y l (words_of (row_at (skeleton_of x c)) c) z c (zeros m)

  like : Alike (row_at table) (row_at (skeleton_of x c))
  like = alike w t n c l x y long oh same z m room

  read : (r : ℕ) → r < c → row_at table r ≡ row_of same t (skeleton_of x c) y l (words_of (row_at (skeleton_of x c)) c) z c r
  read r g = back w t n c l x y long oh same z m room r g

  let-word : (r : ℕ) → (row_at (skeleton_of x c) r).kind ≡ 5 → (row_of same t (skeleton_of x c) y l (words_of (row_at (skeleton_of x c)) c) z c r).a ≡ get_or (words_of (row_at (skeleton_of x c)) c) r 0
  unfolding row_of row_with aOf
  let-word r e = if_eq-no _ _ (λ d. absurd (omega arith)) ∙ if_eq-no _ _ (λ d. absurd (omega arith))

  -- the function of a row is no block
  outside : (r : ℕ) → r < c → (row_at (skeleton_of x c) (row_at (skeleton_of x c) r).func).kind ≡ 3 → ⊥
  outside r g d = let v = in-function w t n c l x y long oh r g in absurd (omega (arith, v.1))

  outside-table : (r : ℕ) → r < c → (row_at table (row_at table r).func).kind ≡ 3 → ⊥
  outside-table r g d = outside r g (ap (λ (i : ℕ). (row_at (skeleton_of x c) i).kind) (sym (like.funcs r)) ∙ sym (like.kinds (row_at table r).func) ∙ d)

  known : Known same t (skeleton_of x c) y l (words_of (row_at (skeleton_of x c)) c) z c (row_at table) h
  known =
      record {
        alike = like;
        lets = λ r g e. ap (λ (v : Row). v.a) (read r g) ∙ let-word r e;
        params = λ r g.
            let v = in-function w t n c l x y long oh r g in
            let u = function-parameters w t n c l x y long oh (row_at (skeleton_of x c) r).func v.0 v.1 in
            (u.0, few-parameters w t n c l x y long oh (row_at (skeleton_of x c) r).func);
        frame = outside;
        numbers = lb.numbers;
        values = lb.values;
        functions = lb.functions;
        places = lb.places;
        imports = lb.imports;
        callees = lb.callees;
        spots = lb.spots;
        forward = forward;
      }

  -- the twelve tests
  pub row-passes : (prog : Program) (r : ℕ) → r < c → all (row_tests (viewing prog (row_at table) c h l prog.data_length) r) ≡ true
  unfolding row_tests all
  row-passes prog r g =
      let few₈ = few-parameters w t n c l x y long oh in
      let hc = few-statements w t n c l x y long oh in
      let v = statement-clean same t n (skeleton_of x c) y l c r clean g in
      let s : Called same t (skeleton_of x c) y l frames z c (row_at table) h known prog n r g (read r g) v =
      record { named = λ e. (callee-some w t n c l x y long oh r g e, λ d. call-not _ _ d e); uncalled = callee-none w t n c l x y long oh r g } in
      both_true _ _ (stands_same (row_at table) (row_at (skeleton_of x c)) like r ∙ stand w t n c l x y long oh r g)
      (both_true _ _ (shallow-same (row_at table) (row_at (skeleton_of x c)) like r ∙ deep r g)
      (both_true _ _ (aimed-passes same t (skeleton_of x c) y l z c (row_at table) hc few₈ like r g (outside-table r g) (read r g))
      (both_true _ _ (goto-passes same t (skeleton_of x c) y l frames z c (row_at table) h known prog n r g (read r g) v)
      (both_true _ _ (calls-pass same t (skeleton_of x c) y l frames z c (row_at table) h known prog n r g (read r g) v s (row-few w t n c l x y long oh r g))
      (both_true _ _ (shape-passes same t (skeleton_of x c) y l frames z c (row_at table) h known prog n r g (read r g) v s (row_listed w t n c l x y long oh r g) (row-shaped w t n c l x y long oh r g))
      (both_true _ _ (operands-pass same t (skeleton_of x c) y l frames z c (row_at table) h known prog n r g (read r g) v
      (λ j a b. let o = row_operands w t n c l x y long oh r g j a b in (o.0, omega (arith, o.1))))
      (both_true _ _ (address-passes same t (skeleton_of x c) y l frames z c (row_at table) h known prog n r g (read r g) v (λ e. (address-marked w t n c l x y long oh r g e).1))
      (both_true _ _ (set-passes same t (skeleton_of x c) y l frames z c (row_at table) h known prog n r g (read r g) v)
      (both_true _ _ (framed-passes same t (skeleton_of x c) y l z c (row_at table) hc few₈ like r g (outside-table r g) (read r g))
      (both_true _ _ (few-same (row_at table) (row_at (skeleton_of x c)) like r (outside-table r g) (λ e. like.counts r (λ d. absurd (omega arith))) ∙ few r g)
      (both_true _ _ (forward-passes same t (skeleton_of x c) y l frames z c (row_at table) h known prog n r g (read r g) v s)
      refl)))))))))))
