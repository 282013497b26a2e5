-- "Two names are one only when all their bytes agree": in the token table of an accepted source two tokens have one number exactly when
-- their decoded bytes agree. Every definition that compares names takes the comparison as a parameter, so what the code does with numbers is
-- what the rules say of bytes.
-- Assumes nothing.
use mathlib.Core.Path.{◌≡◌, refl, sym, ◌∙◌, ap, ap₂, subst, fun_ext}
use mathlib.Core.Bool.{Bool, true, false}
use mathlib.Core.List.{List, [], ◌∷◌}
use Prim.Native.Nat.{ℕ, zero, suc, ◌+◌, ◌*◌, ◌≤◌, ◌<◌}
use native.Mathlib.Decide.{dec_lt, ℕ_discrete}
use native.Mathlib.Omega.{arith}
use lib.Dec.{T, eqb, ltb}
use lib.ListN.{length, get_or}
use borrow.Author.Tests.{eq-eqb, ne_eqb}
use Rattle.base_prelude.specs.Choice.{pick, if_lt, if_true}
use Rattle.base_prelude.specs.Lists.{same_list}
use Rattle.base_prelude.proofs.Choice.{if_lt-yes, if_lt-no, true-false}
use Rattle.base_prelude.proofs.Lists.{same-is, same_refl}
use Rattle.base_limits.specs.declared.Width.{Width}
use Rattle.lex_spelling.specs.Text.{name_at}
use Rattle.lex_lexeme.specs.Reading.{is_named, name_start}
use Rattle.parse_lines.specs.Tokens.{token_word, kind_at}
use Rattle.lex_source.specs.Token.{Token}
use Rattle.lex_source.specs.Rows.{row_of, token_table}
use Rattle.lex_source.specs.Lex.{Outcome, accepted, refused, lex_of}
use Rattle.lex_source.proofs.Tokens.{no_token, every-at}
use Rattle.lex_source.proofs.Laws.{TokenGood, Good, accepted-good, same_number_lem, same_text_lem, token-read, token-behind}
use Rattle.res_scope.specs.Names.{has_name, same_number}
use Rattle.res_text.specs.Same.{name_of, same_text}

-- one test of numbers is one test of lists where equal numbers mean equal lists and the other way
test-is : (a b : ℕ) (x y : List ℕ) → (a ≡ b → x ≡ y) → (x ≡ y → a ≡ b) → eqb a b ≡ same_list x y
test-is a b x y f g =
    elim (ℕ_discrete a b) [
      | yes e ↦ eq-eqb a b e ∙ sym (ap (λ (z : List ℕ). same_list x z) (sym (f e)) ∙ same_refl x)
      | no d ↦ ne_eqb a b d ∙ sym (by (same_list x y) refl d)
    ]
  where
    by : (q : Bool) → same_list x y ≡ q → (a ≡ b → ⊥) → q ≡ false
    by true e d = absurd (d (g (same-is x y (subst (λ (z : Bool). T z) (sym e) tt))))
    by false e d = refl

named-is : (kind : ℕ) → is_named kind ≡ if_lt kind 2 false (ltb kind 7)
unfolding is_named if_lt
named-is kind = by (ltb kind 2) (ltb kind 7)
  where
    by : (p q : Bool) → pick p false (pick q true false) ≡ pick p false q
    by true q = refl
    by false true = refl
    by false false = refl

module _ (w : Width) (s : List ℕ) (ts : List Token) (e : lex_of w s ≡ accepted ts) where
  good : Good s ts (length s)
  good = accepted-good w s ts e

  token-good : (i : ℕ) → i < length ts → TokenGood s (get_or ts i no_token)
  token-good i h = every-at (TokenGood s) ts i good.each h

  kind-token : (i : ℕ) → i < length ts → kind_at (token_table ts) i ≡ (get_or ts i no_token).kind
  unfolding token_word row_of
  kind-token i h = token-read ts i 0 h (omega arith)

  first-token : (i : ℕ) → i < length ts → token_word (token_table ts) i 1 ≡ (get_or ts i no_token).first
  unfolding token_word row_of
  first-token i h = token-read ts i 1 h (omega arith)

  name-token : (i : ℕ) → i < length ts → token_word (token_table ts) i 4 ≡ (get_or ts i no_token).name
  unfolding token_word row_of
  name-token i h = token-read ts i 4 h (omega arith)

  -- a token with a name stands in the table
  named-within : (i : ℕ) → has_name (token_table ts) i ≡ true → i < length ts
  unfolding has_name token_word
  named-within i h =
      elim (dec_lt i (length ts)) [
        | yes l ↦ l
        | no l ↦
            let z : get_or (token_table ts) (i * 8 + 0) 0 ≡ 0 = token-behind ts i 0 (omega arith) in
            true-false (sym h ∙ if_lt-yes _ _ (omega arith))
      ]

  named-token : (i : ℕ) → has_name (token_table ts) i ≡ true → is_named (get_or ts i no_token).kind ≡ true
  unfolding has_name
  named-token i h =
      ap is_named (sym (kind-token i (named-within i h))) ∙ named-is (kind_at (token_table ts) i) ∙ h

  text-token : (i : ℕ) → has_name (token_table ts) i ≡ true → name_of s (token_table ts) i ≡ (get_or ts i no_token).text
  unfolding name_of
  text-token i h =
      ap₂ (λ (k f : ℕ). name_at s (name_start s k f)) (kind-token i (named-within i h)) (first-token i (named-within i h))
      ∙ sym ((token-good i (named-within i h)).spelt (named-token i h))

  names-agree : (i j : ℕ) → has_name (token_table ts) i ≡ true → has_name (token_table ts) j ≡ true
      → eqb (token_word (token_table ts) i 4) (token_word (token_table ts) j 4) ≡ same_list (name_of s (token_table ts) i) (name_of s (token_table ts) j)
  names-agree i j h g =
      let li : i < length ts = named-within i h in
      let lj : j < length ts = named-within j g in
      ap₂ eqb (name-token i li) (name-token j lj)
      ∙ test-is (get_or ts i no_token).name (get_or ts j no_token).name (get_or ts i no_token).text (get_or ts j no_token).text
      (same_number_lem ts good.numbered i j li lj (named-token i h) (named-token j g))
      (same_text_lem ts good.numbered i j li lj (named-token i h) (named-token j g))
      ∙ sym (ap₂ same_list (text-token i h) (text-token j g))

  pub same_at : (i j : ℕ) → same_number (token_table ts) i j ≡ same_text s (token_table ts) i j
  unfolding same_number same_text if_true
  same_at i j = by (has_name (token_table ts) i) (has_name (token_table ts) j) refl refl
    where
      by : (p q : Bool) → has_name (token_table ts) i ≡ p → has_name (token_table ts) j ≡ q
          → if_true p (if_true q (eqb (token_word (token_table ts) i 4) (token_word (token_table ts) j 4)) false) false
          ≡ if_true p (if_true q (same_list (name_of s (token_table ts) i) (name_of s (token_table ts) j)) false) false
      by true true h g = names-agree i j h g
      by true false h g = refl
      by false q h g = refl

  -- numbers compare as bytes do
  pub same_names : same_number (token_table ts) ≡ same_text s (token_table ts)
  same_names = fun_ext (λ i. fun_ext (λ j. same_at i j))
