-- The ranges of kinds that the code tests say what the lists of specs/Exports say.
-- Assumes nothing.
use mathlib.Core.Path.{◌≡◌, sym, ◌∙◌}
use mathlib.Core.Bool.{Bool, true, false}
use Prim.Native.Nat.{ℕ, suc, ◌≤◌, ◌<◌}
use native.Mathlib.Omega.{arith}
use lib.Dec.{T, ltb}
use borrow.Author.Tests.{lt-ltb, le-ltb}
use Rattle.base_prelude.specs.Choice.{if_lt, if_eq}
use Rattle.base_prelude.specs.Lists.{is_among}
use Rattle.base_prelude.proofs.Choice.{if_lt-yes, if_lt-no, if_eq-yes, if_eq-no}
use Rattle.lang_kinds.specs.Kinds as kind
use Rattle.base_prelude.proofs.Table.{under, agree, among-by}
use Rattle.res_exports.specs.Exports.{definitions, is_definition, search_ends, ends_search}

-- past every kind of line
abbrev past_kinds : ℕ
past_kinds = suc kind.unknown

-- one kind, or those from a to before b: past the bound there is none
range-past : (i a b k : ℕ) → i < past_kinds → a ≤ past_kinds → b ≤ past_kinds → past_kinds ≤ k → if_eq k i true (if_lt k a false (ltb k b)) ≡ false
range-past i a b k hi ha hb h = if_eq-no _ _ (λ q. omega arith) ∙ if_lt-no _ _ (omega arith) ∙ le-ltb k b (omega arith)

abbrev pub definition_range : ℕ → Bool
definition_range k = if_eq k kind.function true (if_lt k kind.byte false (ltb k kind.end_group))

definitions-agree : T (under (λ k. agree (is_among k definitions) (definition_range k)) past_kinds)
unfolding is_among if_eq if_lt
definitions-agree = tt

pub definition-by : (k : ℕ) (b : Bool) → b ≡ definition_range k → b ≡ is_definition k
unfolding is_definition
definition-by k b e =
    e ∙ among-by past_kinds definition_range definitions definitions-agree tt (λ i h. range-past kind.function kind.byte kind.end_group i (omega arith) (omega arith) (omega arith) h) k

abbrev pub end_range : ℕ → Bool
end_range k = if_eq k kind.edge true (if_lt k kind.section_data false (ltb k kind.export))

ends-agree : T (under (λ k. agree (is_among k search_ends) (end_range k)) past_kinds)
unfolding is_among if_eq if_lt
ends-agree = tt

pub ends_by : (k : ℕ) (b : Bool) → b ≡ end_range k → b ≡ ends_search k
unfolding ends_search
ends_by k b e =
    e ∙ among-by past_kinds end_range search_ends ends-agree tt (λ i h. range-past kind.edge kind.section_data kind.export i (omega arith) (omega arith) (omega arith) h) k

-- a kind in the range, or outside it
module _ (i a b k : ℕ) where
  pub range-one : k ≡ i → true ≡ if_eq k i true (if_lt k a false (ltb k b))
  range-one h = sym (if_eq-yes _ _ h)

  pub range-within : i < a → a ≤ k → k < b → true ≡ if_eq k i true (if_lt k a false (ltb k b))
  range-within l h g = sym (if_eq-no _ _ (λ q. omega arith) ∙ if_lt-no _ _ h ∙ lt-ltb k b g)

  pub range-before : (k ≡ i → ⊥) → k < a → false ≡ if_eq k i true (if_lt k a false (ltb k b))
  range-before q h = sym (if_eq-no _ _ q ∙ if_lt-yes _ _ h)

  pub range-behind : i < a → a ≤ b → b ≤ k → false ≡ if_eq k i true (if_lt k a false (ltb k b))
  range-behind l m h = sym (if_eq-no _ _ (λ q. omega arith) ∙ if_lt-no _ _ (omega arith) ∙ le-ltb k b h)

pub ruleset ranging = (range-one, range-within, range-before, range-behind)
