-- A forward call is by a label that is not exported: "An export stands before the first operand or target that means its label", and
-- no statement stands between it and its definition.
-- Assumes nothing.
use mathlib.Core.Path.{◌≡◌, refl, sym, ◌∙◌, ap, subst}
use mathlib.Core.Bool.{Bool, true, false}
use mathlib.Core.List.{List, [], ◌∷◌, ◌++◌}
use mathlib.Core.Logic.{◌⊎◌, inl, inr, ⊎_elim}
use Prim.Native.Nat.{ℕ, zero, suc, ◌+◌, ◌*◌, ◌-◌, ◌≤◌, ◌<◌}
use native.Mathlib.Decide.{dec_lt, ℕ_discrete}
use native.Mathlib.Omega.{arith}
use lib.Dec.{eqb}
use lib.ListN.{length}
use borrow.Author.Tests.{eq-eqb, ne_eqb}
use Rattle.base_prelude.specs.Choice.{pick, if_lt, if_eq}
use Rattle.base_prelude.specs.Lists.{is_among}
use Rattle.base_prelude.proofs.Choice.{either, either_true, if_eq-yes, if_eq-no, true-false}
use Rattle.base_limits.specs.declared.Width.{Width}
use Rattle.parse_lines.specs.Units.{unit_at}
use Rattle.parse_lines.specs.Lines.{line_kind}
use Rattle.parse_lines.specs.declared.Span.{Span}
use Rattle.parse_outline.specs.Outline.{outline_of}
use Rattle.parse_outline.specs.Outline as outline
use Rattle.parse_outline.specs.Parsed as answer
use Rattle.parse_verdict.specs.Verdict.{All}
use Rattle.prog_tables.specs.Tests.{first_from}
use Rattle.prog_tables.specs.Statement.{is_call}
use Rattle.res_skeleton.specs.Skeleton.{skeleton_of}
use Rattle.res_scope.specs.Lines.{first_token, end_token, label_token, label_kind, label_statement}
use Rattle.res_scope.specs.Names.{meaning_of}
use Rattle.res_scope.specs.declared.Meaning.{Meaning}
use Rattle.res_scope.specs.declared.Meaning.TheVariants as meaning
use Rattle.res_scope.specs.declared.Parts.{Parts}
use Rattle.res_names.specs.Uses.{operand_names, callee_names, head_names, body_names, uses_in, is_label, means_label}
use Rattle.res_exports.specs.Exports.{carries_label, carried_by, carried_in, definition_from, exported_from, is_exported}
use Rattle.thm_outline.proofs.Rows.{kind_of, parts_at, row-ordered, callee_named}
use Rattle.thm_outline.proofs.LabelRows.{label-behind}
use Rattle.thm_acceptance.specs.Lines.{Line, line_from, lines_from, lines_of, EachFrom, EachLine}
use Rattle.thm_acceptance.proofs.Page.{each_both}
use Rattle.thm_soundness.proofs.Exports.{Apart, exports-apart}

-- ---- the export of a label

others : (j m : ℕ) (ms : List ℕ) → (j ≡ m → ⊥) → is_among j (m ∷ ms) ≡ true → is_among j ms ≡ true
unfolding is_among
others j m ms d e = ap (λ (b : Bool). pick b true (is_among j ms)) (sym (ne_eqb j m d)) ∙ e

module _ (same : ℕ → ℕ → Bool) (t y : List ℕ) (l j : ℕ) (Q : List Line → Line → Type 0) where
  -- a line that exports label j
  record Exporting : Type 0 where
    before : List Line
    here : Line
    export : here.kind ≡ 27
    carries : carried_in same t y l here.unit ≡ j
    has : Q before here

  exporting : (left at : ℕ) (before : List Line) → is_among j (exported_from left same t y l at) ≡ true → EachFrom Q before (lines_from left t at) → Exporting
  unfolding exported_from lines_from line_from is_among
  exporting zero at before h g = true-false (sym h)
  exporting (suc left) at before h g =
      elim (ℕ_discrete (line_kind t (unit_at t at).word) 0) [
        | yes e ↦ true-false (sym h ∙ ap (is_among j) (if_eq-yes _ _ e))
        | no d ↦
            let rest : EachFrom Q _ (lines_from left t (unit_at t at).next) = subst (EachFrom Q _) (if_eq-no _ _ d) g.1 in
            elim (ℕ_discrete (line_kind t (unit_at t at).word) 27) [
              | yes e ↦ elim (ℕ_discrete j (carried_in same t y l (unit_at t at))) [
                | yes q ↦ record { before = before; here = record { unit = unit_at t at; kind = line_kind t (unit_at t at).word }; export = e; carries = sym q; has = g.0 }
                | no q ↦ exporting left (unit_at t at).next _ (others j (carried_in same t y l (unit_at t at)) (exported_from left same t y l (unit_at t at).next) q (sym (ap (is_among j) (if_eq-no _ _ d ∙ if_eq-yes _ _ e)) ∙ h)) rest
              ]
              | no e ↦ exporting left (unit_at t at).next _ (sym (ap (is_among j) (if_eq-no _ _ d ∙ if_eq-no _ _ e)) ∙ h) rest
            ]
      ]

-- the label that is carried stands before the definition's word
first_holds : (p : ℕ → Bool) (left i j : ℕ) → first_from p left i ≡ j → j < i + left → p j ≡ true
unfolding first_from
first_holds p zero i j e h = let z : ⊥ = omega arith in absurd z
first_holds p (suc left) i j e h = by (p i) refl e (λ d. first_holds p left (suc i) j d (omega arith))
  where
    by : (b : Bool) → p i ≡ b → pick b i (first_from p left (suc i)) ≡ j → (first_from p left (suc i) ≡ j → p j ≡ true) → p j ≡ true
    by true q d f = ap p (sym d) ∙ q
    by false q d f = f d

carries-low : (same : ℕ → ℕ → Bool) (y : List ℕ) (first word i j : ℕ) → carries_label same y first word i j ≡ true → label_token y j < word
unfolding carries_label
carries-low same y first word i j =
    either (λ (b : Bool). b ≡ true → label_token y j < word) (label_token y j) first _ _ (λ _ q. true-false (sym q)) (λ _.
    either (λ (b : Bool). b ≡ true → label_token y j < word) (label_token y j) word _ _ (λ g _. g) (λ _ q. true-false (sym q)))

carried-before : (same : ℕ → ℕ → Bool) (t y : List ℕ) (l j : ℕ) (u : Span) → j < l → carried_in same t y l u ≡ j → label_token y j < (definition_from t u.next).word
unfolding carried_in carried_by
carried-before same t y l j u h e = carries-low same y _ _ (u.word + 1) j (first_holds _ l 0 j e (omega arith))

-- ---- the use in a call

all_right : (P : ℕ → Type 0) (xs ys : List ℕ) → All P (xs ++ ys) → All P ys
all_right P [] ys h = h
all_right P (x ∷ xs) ys h = all_right P xs ys h.1

all_left : (P : ℕ → Type 0) (xs ys : List ℕ) → All P (xs ++ ys) → All P xs
all_left P [] ys h = tt
all_left P (x ∷ xs) ys h = (h.0, all_left P xs ys h.1)

callee-used : (P : ℕ → Type 0) (t k : List ℕ) (r : ℕ) → ((parts_at t k r).callee ≡ 0 → ⊥) → All P (uses_in t k r) → P (parts_at t k r).callee
unfolding uses_in body_names callee_names
callee-used P t k r d h =
    (subst (All P) (if_eq-no _ _ d) (all_left P (callee_names (parts_at t k r).callee) _ (all_right P (head_names t (kind_of k r) (first_token k r + 1)) _ h))).0

-- ---- forward calls

module _ (w : Width) (t : List ℕ) (n c l : ℕ) (x y : List ℕ) (long : length t ≡ 32768) (oh : outline_of w t n ≡ outline.parsed (answer.accepted c l) x y)
    (same : ℕ → ℕ → Bool)
    (first : EachLine t (λ before v. v.kind ≡ 27 → (r : ℕ) → r < c → All (λ i. means_label same (skeleton_of x c) y l r (carried_in same t y l v.unit) i ≡ true → v.unit.word + 1 ≤ i) (uses_in t (skeleton_of x c) r))) where
  abbrev k : List ℕ
  k = skeleton_of x c

  means-it : (r j i : ℕ) → meaning_of same k y l r i ≡ meaning.Label j → means_label same k y l r j i ≡ true
  unfolding is_label
  means-it r j i e = ap (is_label j) e ∙ eq-eqb j j refl

  -- statement r calls the function of label j, which stands behind it
  pub forward-free : (r j : ℕ) → r < c → j < l → is_call (kind_of k r) (parts_at t k r).expr ≡ true → meaning_of same k y l r (parts_at t k r).callee ≡ meaning.Label j
      → label_kind y j ≡ 3 → r < label_statement y j → is_exported same t y l j ≡ false
  unfolding is_exported lines_of
  forward-free r j g a call e q ahead = by (is_exported same t y l j) refl
    where
      by : (b : Bool) → is_exported same t y l j ≡ b → is_exported same t y l j ≡ false
      by false p = p
      by true p =
          let v = exporting same t y l j _ (suc (length t)) 0 [] p (each_both _ (Apart t k c) [] (lines_of t) first (exports-apart w t n c l x y long oh)) in
          let s = callee_named w t n c l x y long oh r g call in
          let b = label-behind w t n c l x y long oh j a (λ d. absurd (omega arith)) (λ d. absurd (omega arith)) r ahead in
          let d = carried-before same t y l j v.here.unit a v.carries in
          let o = row-ordered w t n c l x y long oh r g in
          let used = callee-used _ t k r (λ z. absurd (omega (arith, s.0))) (v.has.0 v.export r g) in
          let i : v.here.unit.word + 1 ≤ (parts_at t k r).callee = used (subst (λ (m : ℕ). means_label same k y l r m (parts_at t k r).callee ≡ true) (sym v.carries) (means-it r j _ e)) in
          ⊎_elim (λ f. absurd (omega (arith, f, i, s.1))) (λ f. absurd (omega (arith, f, o, b, d))) (v.has.1 v.export r g)
