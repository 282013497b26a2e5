-- The rules of specs/LineRules on words and shapes, and the rules that the parser asks: a rule finds nothing exactly where the line
-- does not break it.
-- Assumes nothing.
use mathlib.Core.Path.{◌≡◌, refl, sym, ◌∙◌, ap, subst}
use mathlib.Core.Bool.{Bool, true, false}
use mathlib.Core.List.{List, [], ◌∷◌}
use mathlib.Core.Logic.{◌⊎◌, inl, inr, ⊎_elim}
use Prim.Native.Nat.{ℕ, zero, suc, ◌+◌, ◌-◌, ◌≤◌, ◌<◌, min}
use native.Mathlib.Decide.{ℕ_discrete}
use native.Mathlib.Omega.{arith}
use lib.Dec.{eqb, ltb}
use borrow.Author.Tests.{lt-ltb, le-ltb, eq-eqb, ne_eqb}
use Rattle.base_prelude.specs.Choice.{pick, if_lt, if_eq, if_true}
use Rattle.base_prelude.specs.Fault.{none}
use Rattle.base_prelude.specs.Lists.{is_among}
use Rattle.base_prelude.proofs.Choice.{either, either-eq, either_true, if_lt-yes, if_lt-no, if_eq-yes, if_eq-no, if_true-yes, if_true-no, true-false}
use Rattle.base_limits.specs.declared.Width.{Width}
use Rattle.lang_words.specs.Words.{most_operands}
use Rattle.parse_lines.specs.Tokens.{kind_at, word_at}
use Rattle.parse_lines.specs.declared.Span.{Span}
use Rattle.parse_lines.proofs.Keys.{no_key}
use Rattle.parse_shapes.specs.Shapes.{operand_count, shapes, shape_in, shape_of, is_shaped, form_fits, is_listed, count_fits, range_fits, shape_fits}
use Rattle.parse_rules.specs.Rules.{shape_rule, own_word, name_key, substitute_key, token_key, tokens_least, tokens_rule, past_most, list_rule, reserved_label}
use Rattle.thm_acceptance.specs.LineRules.{is_reserved, names, substitutes}

silent : (x y : ℕ) → x ≡ none → y ≡ x → none ≤ y
silent x y e f = omega arith

-- ---- one of two, of three

among_two : (k a b : ℕ) → is_among k (a ∷ b ∷ []) ≡ true → (k ≡ a) ⊎ (k ≡ b)
unfolding is_among
among_two k a b h =
    elim (ℕ_discrete k a) [
      | yes e ↦ inl e
      | no d ↦ elim (ℕ_discrete k b) [
        | yes e ↦ inr e
        | no c ↦ true-false (sym h ∙ ap (λ (x : Bool). pick x true (pick (eqb k b) true false)) (ne_eqb k a d) ∙ ap (λ (x : Bool). pick x true false) (ne_eqb k b c))
      ]
    ]

first-among : (k a : ℕ) (xs : List ℕ) → k ≡ a → is_among k (a ∷ xs) ≡ true
unfolding is_among
first-among k a xs e = ap (λ (x : Bool). pick x true (is_among k xs)) (eq-eqb k a e)

later-among : (k a : ℕ) (xs : List ℕ) → is_among k xs ≡ true → is_among k (a ∷ xs) ≡ true
unfolding is_among
later-among k a xs h = by (eqb k a)
  where
    by : (b : Bool) → pick b true (is_among k xs) ≡ true
    by true = refl
    by false = h

none-among : (k a : ℕ) (xs : List ℕ) → (k ≡ a → ⊥) → is_among k xs ≡ false → is_among k (a ∷ xs) ≡ false
unfolding is_among
none-among k a xs d h = ap (λ (x : Bool). pick x true (is_among k xs)) (ne_eqb k a d) ∙ h

nil-among : (k : ℕ) → is_among k [] ≡ false
unfolding is_among
nil-among k = refl

among-three : (k a b c : ℕ) → is_among k (a ∷ b ∷ c ∷ []) ≡ true → (k ≡ c → ⊥) → (k ≡ a) ⊎ (k ≡ b)
among-three k a b c h d =
    elim (ℕ_discrete k a) [
      | yes e ↦ inl e
      | no f ↦ elim (ℕ_discrete k b) [
        | yes e ↦ inr e
        | no g ↦ true-false (sym h ∙ none-among k a (b ∷ c ∷ []) f (none-among k b (c ∷ []) g (none-among k c [] d (nil-among k))))
      ]
    ]

-- ---- reserved words

module _ (t : List ℕ) (n i : ℕ) where
  pub reserved-by : none ≤ reserved_label t n i → is_reserved (word_at t i) ≡ false
  unfolding reserved_label is_reserved
  reserved-by =
      either (λ (x : ℕ). none ≤ x → if_lt (word_at t i) 1 false (ltb (word_at t i) 52) ≡ false) (word_at t i) 1 _ _ (λ a _. if_lt-yes _ _ a) (λ a.
      either (λ (x : ℕ). none ≤ x → if_lt (word_at t i) 1 false (ltb (word_at t i) 52) ≡ false) (word_at t i) 52 _ _ (λ _ h. no_key t n i 8 (omega arith) h)
      (λ b _. if_lt-no _ _ a ∙ le-ltb (word_at t i) 52 b))

  pub by-reserved : is_reserved (word_at t i) ≡ false → none ≤ reserved_label t n i
  unfolding reserved_label is_reserved
  by-reserved h =
      either (λ (x : ℕ). none ≤ x) (word_at t i) 1 _ _ (λ _. omega arith) (λ a.
      either (λ (x : ℕ). none ≤ x) (word_at t i) 52 _ _ (λ b. true-false (sym (if_lt-no _ _ a ∙ lt-ltb (word_at t i) 52 b) ∙ h)) (λ _. omega arith))

  module _ (own : ℕ) where
    name_by : none ≤ name_key t n own i → (i ≡ own → ⊥) → is_reserved (word_at t i) ≡ false
    unfolding name_key reserved_label
    name_by h d = reserved-by (subst (λ (x : ℕ). none ≤ x) (if_eq-no _ _ d) h)

    by_name : ((i ≡ own → ⊥) → is_reserved (word_at t i) ≡ false) → none ≤ name_key t n own i
    unfolding name_key reserved_label
    by_name f = either-eq (λ (x : ℕ). none ≤ x) i own _ _ (λ _. omega arith) (λ d. by-reserved (f d))

  -- ---- substitutes

  substitute-by : none ≤ substitute_key t n i → (word_at t i ≡ 1) ⊎ (word_at t i ≡ 2)
  unfolding substitute_key
  substitute-by =
      either-eq (λ (x : ℕ). none ≤ x → (word_at t i ≡ 1) ⊎ (word_at t i ≡ 2)) (word_at t i) 1 _ _ (λ e _. inl e) (λ _.
      either-eq (λ (x : ℕ). none ≤ x → (word_at t i ≡ 1) ⊎ (word_at t i ≡ 2)) (word_at t i) 2 _ _ (λ e _. inr e) (λ _.
      either-eq (λ (x : ℕ). none ≤ x → (word_at t i ≡ 1) ⊎ (word_at t i ≡ 2)) (word_at t i) 3 _ _ (λ _ h. no_key t n i 9 (omega arith) h) (λ _ h. no_key t n i 7 (omega arith) h)))

  by-substitute : (word_at t i ≡ 1) ⊎ (word_at t i ≡ 2) → none ≤ substitute_key t n i
  unfolding substitute_key
  by-substitute c =
      either-eq (λ (x : ℕ). none ≤ x) (word_at t i) 1 _ _ (λ _. omega arith) (λ a.
      either-eq (λ (x : ℕ). none ≤ x) (word_at t i) 2 _ _ (λ _. omega arith) (λ b. ⊎_elim (λ e. absurd (a e)) (λ e. absurd (b e)) c))

  -- ---- one token

  module _ (own : ℕ) where
    key-name : is_among (kind_at t i) names ≡ true → none ≤ token_key t n own i → none ≤ name_key t n own i
    unfolding token_key
    key-name h g =
        ⊎_elim (λ e. subst (λ (x : ℕ). none ≤ x) (if_eq-yes _ _ e) g) (λ e. subst (λ (x : ℕ). none ≤ x) (if_eq-no _ _ (λ z. omega arith) ∙ if_eq-yes _ _ e) g)
        (among_two (kind_at t i) 3 5 h)

    key-substitute : is_among (kind_at t i) substitutes ≡ true → none ≤ token_key t n own i → none ≤ substitute_key t n i
    unfolding token_key
    key-substitute h g =
        ⊎_elim (λ e. subst (λ (x : ℕ). none ≤ x) (if_eq-no _ _ (λ z. omega arith) ∙ if_eq-no _ _ (λ z. omega arith) ∙ if_eq-yes _ _ e) g)
        (λ e. subst (λ (x : ℕ). none ≤ x) (if_eq-no _ _ (λ z. omega arith) ∙ if_eq-no _ _ (λ z. omega arith) ∙ if_eq-no _ _ (λ z. omega arith) ∙ if_eq-yes _ _ e) g)
        (among_two (kind_at t i) 4 6 h)

    by_key : (is_among (kind_at t i) names ≡ true → none ≤ name_key t n own i) → (is_among (kind_at t i) substitutes ≡ true → none ≤ substitute_key t n i) → none ≤ token_key t n own i
    unfolding token_key
    by_key f g =
        either-eq (λ (x : ℕ). none ≤ x) (kind_at t i) 3 _ _ (λ e. f (first-among (kind_at t i) 3 (5 ∷ []) e)) (λ _.
        either-eq (λ (x : ℕ). none ≤ x) (kind_at t i) 5 _ _ (λ e. f (later-among (kind_at t i) 3 (5 ∷ []) (first-among (kind_at t i) 5 [] e))) (λ _.
        either-eq (λ (x : ℕ). none ≤ x) (kind_at t i) 4 _ _ (λ e. g (first-among (kind_at t i) 4 (6 ∷ []) e)) (λ _.
        either-eq (λ (x : ℕ). none ≤ x) (kind_at t i) 6 _ _ (λ e. g (later-among (kind_at t i) 4 (6 ∷ []) (first-among (kind_at t i) 6 [] e))) (λ _. omega arith))))

-- ---- the tokens of a line

module _ (t : List ℕ) (n : ℕ) where
  least-each : (left own i : ℕ) → none ≤ tokens_least left t n own i → (j : ℕ) → i ≤ j → j < i + left → none ≤ token_key t n own j
  unfolding tokens_least
  least-each zero own i h j a b = let z : ⊥ = omega arith in absurd z
  least-each (suc left) own i h j a b =
      elim (ℕ_discrete i j) [
        | yes e ↦ subst (λ (v : ℕ). none ≤ token_key t n own v) e (omega arith)
        | no d ↦ least-each left own (i + 1) (omega arith) j (omega arith) (omega arith)
      ]

  each-least : (left own i : ℕ) → ((j : ℕ) → i ≤ j → j < i + left → none ≤ token_key t n own j) → none ≤ tokens_least left t n own i
  unfolding tokens_least
  each-least zero own i f = omega arith
  each-least (suc left) own i f = omega (arith, f i (omega arith) (omega arith), each-least left own (i + 1) (λ j a b. f j (omega arith) (omega arith)))

  module _ (u : Span) (k : ℕ) where
    pub record TokensFree : Type 0 where
      pub names : (i : ℕ) → u.word < i → i < u.next → is_among (kind_at t i) names ≡ true → (i ≡ own_word t u k → ⊥) → is_reserved (word_at t i) ≡ false
      pub known : (i : ℕ) → u.word < i → i < u.next → is_among (kind_at t i) substitutes ≡ true → is_among (word_at t i) (1 ∷ 2 ∷ 3 ∷ []) ≡ true
      pub sizes : (i : ℕ) → u.word < i → i < u.next → is_among (kind_at t i) substitutes ≡ true → word_at t i ≡ 3 → ⊥

    pub tokens-by : none ≤ tokens_rule t n u k → TokensFree
    unfolding tokens_rule
    tokens-by h =
        record {
          names = λ i a b c. name_by t n i (own_word t u k) (key-name t n i (own_word t u k) c (each i a b));
          known = λ i a b c.
              ⊎_elim (λ e. first-among (word_at t i) 1 (2 ∷ 3 ∷ []) e) (λ e. later-among (word_at t i) 1 (2 ∷ 3 ∷ []) (first-among (word_at t i) 2 (3 ∷ []) e)) (known_by i a b c);
          sizes = λ i a b c e. ⊎_elim (λ d. let z : ⊥ = omega arith in z) (λ d. let z : ⊥ = omega arith in z) (known_by i a b c);
        }
      where
        each : (i : ℕ) → u.word < i → i < u.next → none ≤ token_key t n (own_word t u k) i
        each i a b = least-each (u.next - (u.word + 1)) (own_word t u k) (u.word + 1) h i (omega arith) (omega arith)

        known_by : (i : ℕ) → u.word < i → i < u.next → is_among (kind_at t i) substitutes ≡ true → (word_at t i ≡ 1) ⊎ (word_at t i ≡ 2)
        known_by i a b c = substitute-by t n i (key-substitute t n i (own_word t u k) c (each i a b))

    pub by-tokens : TokensFree → none ≤ tokens_rule t n u k
    unfolding tokens_rule
    by-tokens f =
        each-least (u.next - (u.word + 1)) (own_word t u k) (u.word + 1) (λ i a b.
        by_key t n i (own_word t u k) (λ c. by_name t n i (own_word t u k) (f.names i (omega arith) (omega arith) c))
        (λ c. by-substitute t n i (among-three (word_at t i) 1 2 3 (f.known i (omega arith) (omega arith) c) (f.sizes i (omega arith) (omega arith) c))))

    -- ---- parameters and arguments

    pub list-by : none ≤ list_rule t n u k → is_listed k ≡ true → operand_count u ≤ most_operands (word_at t u.word)
    unfolding list_rule past_most
    list-by h e =
        either (λ (x : ℕ). none ≤ x → operand_count u ≤ most_operands (word_at t u.word)) (u.word + 1 + most_operands (word_at t u.word)) u.next _ _
        (λ _ z. no_key t n _ 14 (omega arith) z) (λ l _. omega arith) (subst (λ (x : ℕ). none ≤ x) (if_true-yes _ _ e) h)

    pub by-list : (is_listed k ≡ true → operand_count u ≤ most_operands (word_at t u.word)) → none ≤ list_rule t n u k
    unfolding list_rule past_most
    by-list f =
        either_true (λ (x : ℕ). none ≤ x) (is_listed k) _ _
        (λ e. subst (λ (x : ℕ). none ≤ x) (sym (if_lt-no _ _ (let z : u.next ≤ u.word + 1 + most_operands (word_at t u.word) = omega (arith, f e) in z))) (omega arith)) (λ _. omega arith)

-- ---- shapes

unknown-form : (t : List ℕ) (u : Span) → form_fits t u 35 ≡ false
unfolding form_fits is_shaped shape_of shape_in shapes if_eq
unknown-form t u = refl

unknown-shape : (w : Width) (t : List ℕ) (u : Span) → shape_fits w t u 35 ≡ false
unfolding shape_fits
unknown-shape w t u = either_true (λ (b : Bool). b ≡ false) (count_fits t u 35) _ _ (λ _. if_true-no _ _ (unknown-form t u)) (λ _. refl)

module _ (w : Width) (t : List ℕ) (n : ℕ) (u : Span) (k : ℕ) where
  edge-among : is_among k (0 ∷ 34 ∷ []) ≡ false → (k ≡ 0 → ⊥) × (k ≡ 34 → ⊥)
  edge-among h = (
    λ e. true-false (sym (first-among k 0 (34 ∷ []) e) ∙ h),
    λ e. true-false (sym (later-among k 0 (34 ∷ []) (first-among k 34 [] e)) ∙ h),
  )

  pub shape-by : none ≤ shape_rule w t n u k → is_among k (0 ∷ 34 ∷ []) ≡ false → shape_fits w t u k ≡ true
  unfolding shape_rule
  shape-by h a =
      let d = edge-among a in
      either-eq (λ (x : ℕ). none ≤ x → shape_fits w t u k ≡ true) k 35 _ _ (λ _ z. no_key t n u.word 7 (omega arith) z)
      (λ _. either_true (λ (x : ℕ). none ≤ x → shape_fits w t u k ≡ true) (shape_fits w t u k) _ _ (λ e _. e) (λ _ z. no_key t n u.word 7 (omega arith) z))
      (subst (λ (x : ℕ). none ≤ x) (if_eq-no _ _ d.0 ∙ if_eq-no _ _ d.1) h)

  pub by_shape : (is_among k (0 ∷ 34 ∷ []) ≡ false → shape_fits w t u k ≡ true) → none ≤ shape_rule w t n u k
  unfolding shape_rule
  by_shape f =
      either-eq (λ (x : ℕ). none ≤ x) k 0 _ _ (λ _. omega arith) (λ a.
      either-eq (λ (x : ℕ). none ≤ x) k 34 _ _ (λ _. omega arith) (λ b.
      let s : shape_fits w t u k ≡ true = f (none-among k 0 (34 ∷ []) a (none-among k 34 [] b (nil-among k))) in
      either-eq (λ (x : ℕ). none ≤ x) k 35 _ _ (λ e. true-false (sym (sym (ap (shape_fits w t u) e ∙ unknown-shape w t u) ∙ s)))
      (λ _. subst (λ (x : ℕ). none ≤ x) (sym (if_true-yes _ _ s)) (omega arith))))
