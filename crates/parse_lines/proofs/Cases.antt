-- One law for each way through a function of this crate.
-- Assumes nothing.
use mathlib.Core.Path.{◌≡◌, sym, subst}
use mathlib.Core.List.{List}
use Prim.Native.Nat.{ℕ, ◌+◌, ◌≤◌, ◌<◌}
use native.Mathlib.Omega.{arith}
use lib.ListN.{length}
use Rattle.base_prelude.proofs.Choice.{tests}
use Rattle.lang_kinds.specs.Nesting.{kind_of_word}
use Rattle.parse_lines.specs.Tokens.{token_word, skip}
use Rattle.parse_lines.specs.Lines.{section_kind, end_kind, test_kind, else_kind, set_kind, symbol_kind, other_kind, line_kind}
use Rattle.parse_lines.proofs.Scans.{skip-top}

module _ (kind w : ℕ) where
  pub else-bare : kind < 2 → 20 ≡ else_kind kind w
  unfolding else_kind
  else-bare h = search tests

  pub else-test : (r : ℕ) → 2 ≤ kind → kind ≡ 3 → r ≡ test_kind w → r ≡ else_kind kind w
  unfolding else_kind
  else-test r h e q = rw (← q) (search tests)

  pub else-other : 2 ≤ kind → (kind ≡ 3 → ⊥) → 35 ≡ else_kind kind w
  unfolding else_kind
  else-other h e = search tests

pub ruleset elses = (else-bare, else-test, else-other)

module _ (w kind second : ℕ) where
  pub symbol-section : (r : ℕ) → w ≡ 1 → kind ≡ 3 → r ≡ section_kind second → r ≡ symbol_kind w kind second
  unfolding symbol_kind
  symbol-section r e f q = rw (← q) (search tests)

  pub symbol-no-section : w ≡ 1 → (kind ≡ 3 → ⊥) → 35 ≡ symbol_kind w kind second
  unfolding symbol_kind
  symbol-no-section e f = search tests

  pub symbol_end_lem : (r : ℕ) → (w ≡ 1 → ⊥) → w ≡ 11 → kind ≡ 3 → r ≡ end_kind second → r ≡ symbol_kind w kind second
  unfolding symbol_kind
  symbol_end_lem r a e f q = rw (← q) (search tests)

  pub symbol-no-end : (w ≡ 1 → ⊥) → w ≡ 11 → (kind ≡ 3 → ⊥) → 35 ≡ symbol_kind w kind second
  unfolding symbol_kind
  symbol-no-end a e f = search tests

  pub symbol-else : (r : ℕ) → (w ≡ 1 → ⊥) → (w ≡ 11 → ⊥) → w ≡ 12 → r ≡ else_kind kind second → r ≡ symbol_kind w kind second
  unfolding symbol_kind
  symbol-else r a b e q = rw (← q) (search tests)

  pub symbol-set : (r : ℕ) → (w ≡ 1 → ⊥) → (w ≡ 11 → ⊥) → (w ≡ 12 → ⊥) → w ≡ 18 → r ≡ set_kind kind → r ≡ symbol_kind w kind second
  unfolding symbol_kind
  symbol-set r a b c e q = rw (← q) (search tests)

  pub symbol-word : (r : ℕ) → (w ≡ 1 → ⊥) → (w ≡ 11 → ⊥) → (w ≡ 12 → ⊥) → (w ≡ 18 → ⊥) → r ≡ kind_of_word w → r ≡ symbol_kind w kind second
  unfolding symbol_kind
  symbol-word r a b c e q = rw (← q) (search tests)

pub ruleset symbolic = (symbol-section, symbol-no-section, symbol_end_lem, symbol-no-end, symbol-else, symbol-set, symbol-word)

module _ (t : List ℕ) (i kind w : ℕ) (p : kind ≡ token_word t i 0) (q : w ≡ token_word t i 5) where
  pub line-symbol : (a b r : ℕ) → kind ≡ 3 → a ≡ token_word t (i + 1) 0 → b ≡ token_word t (i + 1) 5 → r ≡ symbol_kind w a b → r ≡ line_kind t i
  unfolding line_kind
  line-symbol a b r e f g h = rw (← p, ← q, ← f, ← g, ← h) (search tests)

  pub line_other : (r : ℕ) → (kind ≡ 3 → ⊥) → r ≡ other_kind kind w → r ≡ line_kind t i
  unfolding line_kind
  line_other r e h = rw (← p, ← q, ← h) (search tests)

pub ruleset linear = (line-symbol, line_other)

-- a scan that starts within 4,097 ends there
pub scan-top : (t : List ℕ) (lo hi from j : ℕ) → length t ≡ 32768 → from ≤ 4097 → 1 ≤ lo → j ≡ skip t lo hi from → j ≤ 4097
scan-top t lo hi from j e h l p = subst (λ (x : ℕ). x ≤ 4097) (sym p) (skip-top t lo hi 4097 l (omega arith) from h)

-- the two scans of a unit
pub newlines-top : (t : List ℕ) (from j : ℕ) → length t ≡ 32768 → from ≤ 4097 → j ≡ skip t 1 2 from → j ≤ 4097
newlines-top t from j e h p = scan-top t 1 2 from j e h (omega arith) p

pub labels-top : (t : List ℕ) (from j : ℕ) → length t ≡ 32768 → from ≤ 4097 → j ≡ skip t 1 3 from → j < 4294967295
labels-top t from j e h p = omega (arith, scan-top t 1 3 from j e h (omega arith) p)
