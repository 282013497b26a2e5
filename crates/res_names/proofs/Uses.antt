-- The uses that the naming pass marks are the first uses of specs/Uses.
-- Assumes nothing.
use mathlib.Core.Path.{◌≡◌, refl, sym, ◌∙◌, ap, subst}
use mathlib.Core.Bool.{Bool}
use mathlib.Core.List.{List, [], ◌∷◌, ◌++◌}
use Prim.Native.Nat.{ℕ, zero, suc, ◌+◌, ◌-◌, ◌≤◌, ◌<◌}
use native.Mathlib.Decide.{dec_lt, ℕ_discrete}
use native.Mathlib.Omega.{arith}
use lib.ListN.{length, get_or, length-set, length-replicate, get_or-replicate}
use lib.Seq.{get_or-set_same, get_or-set_other}
use borrow.Author.Tests.{eq-eqb, ne_eqb}
use Rattle.base_prelude.specs.Choice.{pick, if_lt, if_eq}
use Rattle.base_prelude.specs.Fault.{none}
use Rattle.base_prelude.specs.Lists.{zeros}
use Rattle.base_prelude.proofs.Choice.{either-eq, if_lt-yes, if_lt-no, if_eq-yes, if_eq-no}
use Rattle.parse_lines.specs.Tokens.{kind_at}
use Rattle.prog_tables.specs.Statement.{row_at}
use Rattle.res_scope.specs.Lines.{first_token, end_token}
use Rattle.res_scope.specs.Names.{meaning_of}
use Rattle.res_scope.specs.Parts.{parts_of}
use Rattle.res_scope.specs.declared.Meaning.{Meaning}
use Rattle.res_scope.specs.declared.Meaning.TheVariants.{Let, Parameter, Label, Unknown}
use Rattle.res_scope.specs.declared.Parts.{Parts}
use Rattle.res_names.specs.Naming.{Naming, naming, mark_use, use_of, judged, value_part, operands_part, callee_part, set_part, goto_part, head_part, body_part, statement_part, statements_part, names_of, labels_fault}
use Rattle.res_names.specs.Uses.{operand_name, operand_names, callee_names, head_names, body_names, uses_in, is_label, or_else, first_among, means_label, first_use_from, first_use}

-- ---- the first of two

or-none : (a : ℕ) → or_else a 0 ≡ a
unfolding or_else
or-none a = either-eq (λ (x : ℕ). x ≡ a) a 0 0 a (λ e. sym e) (λ _. refl)

or-zero : (b : ℕ) → or_else 0 b ≡ b
unfolding or_else if_eq
or-zero b = refl

or_some : (a b : ℕ) → (a ≡ 0 → ⊥) → or_else a b ≡ a
unfolding or_else
or_some a b d = if_eq-no b a d

or-first : (a b : ℕ) → a ≡ 0 → or_else a b ≡ b
unfolding or_else
or-first a b e = if_eq-yes b a e

or-or : (a b c : ℕ) → or_else (or_else a b) c ≡ or_else a (or_else b c)
or-or a b c =
    elim (ℕ_discrete a 0) [
      | yes e ↦ ap (λ (x : ℕ). or_else x c) (or-first a b e) ∙ sym (or-first a (or_else b c) e)
      | no d ↦ ap (λ (x : ℕ). or_else x c) (or_some a b d) ∙ or_some a c d ∙ sym (or_some a (or_else b c) d)
    ]

first-append : (p : ℕ → Bool) (is js : List ℕ) → first_among p (is ++ js) ≡ or_else (first_among p is) (first_among p js)
unfolding first_among
first-append p [] js = sym (or-zero (first_among p js))
first-append p (i ∷ is) js = ap (or_else (pick (p i) i 0)) (first-append p is js) ∙ sym (or-or (pick (p i) i 0) (first_among p is) (first_among p js))

first_one : (p : ℕ → Bool) (i : ℕ) → first_among p (i ∷ []) ≡ pick (p i) i 0
unfolding first_among
first_one p i = or-none (pick (p i) i 0)

first-nil : (p : ℕ → Bool) → first_among p [] ≡ 0
unfolding first_among
first-nil p = refl

-- ---- one mark

-- token 5 means label 1; token 7, which means it too, is not its first use
first-mark : mark_use 7 1 (mark_use 5 1 (0 ∷ 0 ∷ [])) ≡ 0 ∷ 5 ∷ []
unfolding mark_use if_lt if_eq
first-mark = refl

mark-here : (i j : ℕ) (u : List ℕ) → j < length u → get_or (mark_use i j u) j 0 ≡ or_else (get_or u j 0) i
unfolding mark_use
mark-here i j u h =
    ap (λ (v : List ℕ). get_or v j 0) (if_lt-yes _ _ h)
    ∙ elim (ℕ_discrete (get_or u j 0) 0) [
      | yes e ↦ ap (λ (v : List ℕ). get_or v j 0) (if_eq-yes _ _ e) ∙ get_or-set_same u j i 0 h ∙ sym (or-first (get_or u j 0) i e)
      | no d ↦ ap (λ (v : List ℕ). get_or v j 0) (if_eq-no _ _ d) ∙ sym (or_some (get_or u j 0) i d)
    ]

mark-other : (i m j : ℕ) (u : List ℕ) → (m ≡ j → ⊥) → get_or (mark_use i m u) j 0 ≡ get_or u j 0
unfolding mark_use
mark-other i m j u d =
    elim (dec_lt m (length u)) [
      | yes h ↦ ap (λ (v : List ℕ). get_or v j 0) (if_lt-yes _ _ h)
          ∙ elim (ℕ_discrete (get_or u m 0) 0) [
            | yes e ↦ ap (λ (v : List ℕ). get_or v j 0) (if_eq-yes _ _ e) ∙ get_or-set_other u m j i 0 (λ z. d (sym z))
            | no e ↦ ap (λ (v : List ℕ). get_or v j 0) (if_eq-no _ _ e)
          ]
      | no h ↦ ap (λ (v : List ℕ). get_or v j 0) (if_lt-no _ _ (let z : length u ≤ m = omega arith in z))
    ]

mark-long : (i m : ℕ) (u : List ℕ) → length (mark_use i m u) ≡ length u
unfolding mark_use
mark-long i m u =
    elim (dec_lt m (length u)) [
      | yes h ↦ ap length (if_lt-yes _ _ h)
          ∙ elim (ℕ_discrete (get_or u m 0) 0) [
            | yes e ↦ ap length (if_eq-yes _ _ e) ∙ length-set u m i
            | no e ↦ ap length (if_eq-no _ _ e)
          ]
      | no h ↦ ap length (if_lt-no _ _ (let z : length u ≤ m = omega arith in z))
    ]

use-here : (i j : ℕ) (m : Meaning) (u : List ℕ) → j < length u → get_or (use_of i m u) j 0 ≡ or_else (get_or u j 0) (pick (is_label j m) i 0)
unfolding use_of is_label
use-here i j (Let q) u h = sym (or-none (get_or u j 0))
use-here i j (Parameter q) u h = sym (or-none (get_or u j 0))
use-here i j (Label q) u h =
    elim (ℕ_discrete q j) [
      | yes e ↦ ap (λ (v : ℕ). get_or (mark_use i v u) j 0) e ∙ mark-here i j u h ∙ ap (λ (b : Bool). or_else (get_or u j 0) (pick b i 0)) (sym (eq-eqb q j e))
      | no d ↦ mark-other i q j u d ∙ sym (or-none (get_or u j 0)) ∙ ap (λ (b : Bool). or_else (get_or u j 0) (pick b i 0)) (sym (ne_eqb q j d))
    ]
use-here i j Unknown u h = sym (or-none (get_or u j 0))

use-long : (i : ℕ) (m : Meaning) (u : List ℕ) → length (use_of i m u) ≡ length u
unfolding use_of
use-long i (Let q) u = refl
use-long i (Parameter q) u = refl
use-long i (Label q) u = mark-long i q u
use-long i Unknown u = refl

-- what holds of both arms of two choices by one test
both-eq : (P : List ℕ → Naming → Type 0) (a b : ℕ) (is js : List ℕ) (x z : Naming) → (a ≡ b → P is x) → ((a ≡ b → ⊥) → P js z) → P (if_eq a b is js) (if_eq a b x z)
both-eq P a b is js x z f g =
    elim (ℕ_discrete a b) [
      | yes e ↦ subst (λ (v : List ℕ). P v (if_eq a b x z)) (sym (if_eq-yes is js e)) (subst (P is) (sym (if_eq-yes x z e)) (f e))
      | no d ↦ subst (λ (v : List ℕ). P v (if_eq a b x z)) (sym (if_eq-no is js d)) (subst (P js) (sym (if_eq-no x z d)) (g d))
    ]

-- ---- a statement, at row r

module _ (same : ℕ → ℕ → Bool) (t : List ℕ) (n : ℕ) (k y : List ℕ) (l r : ℕ) where
  -- from the uses u to the uses v by the names `is`
  record Marks (is u v : List ℕ) : Type 0 where
    pub long : length v ≡ length u
    pub first : (j : ℕ) → j < length u → get_or v j 0 ≡ or_else (get_or u j 0) (first_among (means_label same k y l r j) is)

  no-marks : (u : List ℕ) → Marks [] u u
  no-marks u = record { long = refl; first = λ j h. sym (ap (or_else (get_or u j 0)) (first-nil (means_label same k y l r j)) ∙ or-none (get_or u j 0)) }

  one-mark : (i : ℕ) (u : List ℕ) → Marks (i ∷ []) u (use_of i (meaning_of same k y l r i) u)
  one-mark i u =
      record {
        long = use-long i (meaning_of same k y l r i) u;
        first = λ j h. use-here i j (meaning_of same k y l r i) u h ∙ ap (or_else (get_or u j 0)) (sym (first_one (means_label same k y l r j) i));
      }

  more-marks : (is js u v w : List ℕ) → Marks is u v → Marks js v w → Marks (is ++ js) u w
  more-marks is js u v w a b =
      record {
        long = b.long ∙ a.long;
        first = λ j h.
            b.first j (omega (arith, a.long)) ∙ ap (λ (x : ℕ). or_else x (first_among (means_label same k y l r j) js)) (a.first j h)
            ∙ or-or (get_or u j 0) (first_among (means_label same k y l r j) is) (first_among (means_label same k y l r j) js)
            ∙ ap (or_else (get_or u j 0)) (sym (first-append (means_label same k y l r j) is js));
      }

  judged-marks : (i f : ℕ) (x : Naming) → Marks (i ∷ []) x.uses (judged i f (meaning_of same k y l r i) x).uses
  unfolding judged
  judged-marks i f x = one-mark i x.uses

  value-marks : (i : ℕ) (x : Naming) → Marks (operand_name t i) x.uses (value_part same t n k y l r i x).uses
  unfolding operand_name value_part
  value-marks i x =
      elim (ℕ_discrete (kind_at t i) 3) [
        | yes e ↦ rw (if_eq-yes (i ∷ []) (if_eq (kind_at t i) 5 (i ∷ []) []) e) (subst (λ (z : Naming). Marks (i ∷ []) x.uses z.uses) (sym (if_eq-yes _ _ e)) (judged-marks i _ x))
        | no d ↦ elim (ℕ_discrete (kind_at t i) 5) [
          | yes e ↦ rw (if_eq-no (i ∷ []) (if_eq (kind_at t i) 5 (i ∷ []) []) d, if_eq-yes (i ∷ []) [] e)
              (subst (λ (z : Naming). Marks (i ∷ []) x.uses z.uses) (sym (if_eq-no _ _ d ∙ if_eq-yes _ _ e)) (judged-marks i _ x))
          | no f ↦ rw (if_eq-no (i ∷ []) (if_eq (kind_at t i) 5 (i ∷ []) []) d, if_eq-no (i ∷ []) [] f)
              (subst (λ (z : Naming). Marks [] x.uses z.uses) (sym (if_eq-no _ _ d ∙ if_eq-no _ _ f)) (no-marks x.uses))
        ]
      ]

  operands-marks : (left i : ℕ) (x : Naming) → Marks (operand_names left t i) x.uses (operands_part left same t n k y l r i x).uses
  unfolding operand_names operands_part
  operands-marks zero i x = no-marks x.uses
  operands-marks (suc left) i x =
      more-marks (operand_name t i) (operand_names left t (i + 1)) x.uses (value_part same t n k y l r i x).uses (operands_part left same t n k y l r (i + 1) (value_part same t n k y l r i x)).uses
      (value-marks i x) (operands-marks left (i + 1) (value_part same t n k y l r i x))

  callee-marks : (i count : ℕ) (x : Naming) → Marks (callee_names i) x.uses (callee_part same t n k y l r i count x).uses
  unfolding callee_names callee_part
  callee-marks i count x =
      elim (ℕ_discrete i 0) [
        | yes e ↦ rw (if_eq-yes [] (i ∷ []) e) (subst (λ (z : Naming). Marks [] x.uses z.uses) (sym (if_eq-yes _ _ e)) (no-marks x.uses))
        | no d ↦ rw (if_eq-no [] (i ∷ []) d) (subst (λ (z : Naming). Marks (i ∷ []) x.uses z.uses) (sym (if_eq-no _ _ d)) (judged-marks i _ x))
      ]

  set-marks : (i : ℕ) (x : Naming) → Marks (i ∷ []) x.uses (set_part same t n k y l r i x).uses
  unfolding set_part
  set-marks i x = judged-marks i _ x

  goto-marks : (i : ℕ) (x : Naming) → Marks (i ∷ []) x.uses (goto_part same t n k y l r i x).uses
  unfolding goto_part
  goto-marks i x = judged-marks i _ x

  head-marks : (sort : ℕ) (x : Naming) → Marks (head_names t sort (first_token k r + 1)) x.uses (head_part same t n k y l r sort x).uses
  unfolding head_names head_part
  head-marks sort x =
      both-eq (λ is z. Marks is x.uses z.uses) sort 6 _ _ _ _ (λ _. set-marks (first_token k r + 1) x) (λ _.
      both-eq (λ is z. Marks is x.uses z.uses) sort 7 _ _ _ _ (λ _. value-marks (first_token k r + 1) x) (λ _.
      both-eq (λ is z. Marks is x.uses z.uses) sort 10 _ _ _ _ (λ _. goto-marks (first_token k r + 1) x) (λ _. no-marks x.uses)))

  body-marks : (p : Parts) (next : ℕ) (x : Naming) → Marks (body_names t p next) x.uses (body_part same t n k y l r p next x).uses
  unfolding body_names body_part
  body-marks p next x =
      more-marks _ _ _ _ _ (callee-marks p.callee (next - p.first) x)
      (operands-marks (next - p.first) p.first (callee_part same t n k y l r p.callee (next - p.first) x))

  statement-marks : (x : Naming) → Marks (uses_in t k r) x.uses (statement_part same t n k y l r x).uses
  unfolding uses_in statement_part
  statement-marks x =
      more-marks _ _ _ _ _ (head-marks (row_at k r).kind (naming _ x.uses))
      (body-marks (parts_of t (row_at k r).kind (first_token k r) (end_token k r)) (end_token k r) (head_part same t n k y l r (row_at k r).kind (naming _ x.uses)))

-- ---- all statements

module _ (same : ℕ → ℕ → Bool) (t : List ℕ) (n : ℕ) (k y : List ℕ) (l : ℕ) where
  statements-first : (left r : ℕ) (x : Naming) (j : ℕ) → j < length x.uses
      → get_or (statements_part left same t n k y l r x).uses j 0 ≡ or_else (get_or x.uses j 0) (first_use_from left same t k y l j r)
  unfolding statements_part first_use_from
  statements-first zero r x j h = sym (or-none (get_or x.uses j 0))
  statements-first (suc left) r x j h =
      let m = statement-marks same t n k y l r x in
      statements-first left (r + 1) (statement_part same t n k y l r x) j (omega (arith, m.long))
      ∙ ap (λ (v : ℕ). or_else v (first_use_from left same t k y l j (r + 1))) (m.first j h)
      ∙ or-or (get_or x.uses j 0) (first_among (means_label same k y l r j) (uses_in t k r)) (first_use_from left same t k y l j (r + 1))

  -- the uses that are marked are the first uses
  pub uses-first : (c j : ℕ) → j < 256 → get_or (names_of same t n k y l c).uses j 0 ≡ first_use same t k y l c j
  unfolding names_of first_use
  uses-first c j h =
      let e : length (zeros 256) ≡ 256 = length-replicate {A = ℕ} 256 0 in
      statements-first c 0 (naming (labels_fault l same t n y l 0 none) (zeros 256)) j (omega arith)
      ∙ or-first (get_or (zeros 256) j 0) (first_use_from c same t k y l j 0) (get_or-replicate 256 j 0 0 h)
