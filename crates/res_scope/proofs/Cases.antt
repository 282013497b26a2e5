-- One law for each way through a function of this crate.
-- Assumes nothing.
use mathlib.Core.Path.{◌≡◌, sym, ◌∙◌, ap}
use mathlib.Core.Bool.{Bool, true, false}
use mathlib.Core.List.{List}
use Prim.Native.Nat.{ℕ, zero, suc, ◌+◌, ◌*◌, ◌-◌, ◌<◌, ◌≤◌, min, ◌%◌}
use native.Mathlib.Omega.{arith}
use lib.Dec.{eqb, ltb, leb}
use lib.ListN.{get_or}
use borrow.Author.Tests.{eq-eqb, ne_eqb, lt-leb}
use Rattle.base_prelude.specs.Choice.{pick, if_eq, if_true}
use Rattle.base_prelude.proofs.Choice.{if_lt-yes, if_lt-no, if_eq-yes, if_eq-no}
use Rattle.parse_lines.specs.Tokens.{token_word}
use Rattle.prog_tables.specs.Tests.{first_from}
use Rattle.prog_tables.specs.Statement.{row_at}
use Rattle.prog_tables.specs.Nesting.{encloses}
use Rattle.prog_tables.specs.Frames.{is_in}
use Rattle.parse_shapes.specs.Shapes.{is_name, is_operator}
use Rattle.res_scope.specs.Lines.{first_token, end_token, label_token, label_statement, label_arguments}
use Rattle.res_scope.specs.Names.{has_name, same_number, let_named, let_here, let_of, parameter_of, label_of, last_from, label_named, parameter_named, label_meaning, outer_meaning, meaning_of}
use Rattle.res_scope.specs.Parts.{parts, symbol_parts, expression_parts, return_parts, lists_operands, plain_parts, parts_of}
use Rattle.res_scope.specs.declared.Meaning.{Meaning}
use Rattle.res_scope.specs.declared.Meaning.TheVariants.{Let, Parameter}
use Rattle.res_scope.specs.declared.Parts.{Parts}

pub first-low : (k : List ℕ) (n r : ℕ) → r ≡ first_token k n → r ≤ 4097
unfolding first_token
first-low k n r e = let h : min (get_or k (n * 27 + 9) 0) 4097 ≤ 4097 = omega arith in rw e h

pub end_low : (k : List ℕ) (n r : ℕ) → r ≡ end_token k n → r ≤ 4097
unfolding end_token
end_low k n r e = let h : min (get_or k (n * 27 + 10) 0) 4097 ≤ 4097 = omega arith in rw e h

pub first-room : (k : List ℕ) (n r : ℕ) → r ≡ first_token k n → r + 1 < 4294967296
first-room k n r e = omega (arith, first-low k n r e)

pub statement-is : (y : List ℕ) (j v r : ℕ) → v ≡ get_or y (j * 4 + 2) 0 → r ≡ v - 1 → r ≡ label_statement y j
unfolding label_statement
statement-is y j v r e q = q ∙ ap (λ (x : ℕ). x - 1) e

pub arguments-are : (y : List ℕ) (j v r : ℕ) → v ≡ get_or y (j * 4 + 2) 0 → r ≡ v - 1 → r % 16 ≡ label_arguments y j
unfolding label_arguments
arguments-are y j v r e q = ap (λ (x : ℕ). x % 16) (q ∙ ap (λ (x : ℕ). x - 1) e)

pub named-low : (t : List ℕ) (i k : ℕ) → k ≡ token_word t i 0 → k < 2 → leb 2 k ≡ has_name t i
unfolding has_name
named-low t i k e h = rw (← e, lt-leb 2 k h) (sym (if_lt-yes _ _ h))

pub named-high : (t : List ℕ) (i k : ℕ) → k ≡ token_word t i 0 → 2 ≤ k → ltb k 7 ≡ has_name t i
unfolding has_name
named-high t i k e h = rw (← e) (sym (if_lt-no _ _ h))

pub ruleset named = (named-low, named-high)

module _ (t : List ℕ) (i j : ℕ) (b : Bool) (d : b ≡ has_name t i) where
  pub same_not : b ≡ false → false ≡ same_number t i j
  unfolding same_number if_true
  same_not h = rw (← d, h)

  module _ (h : b ≡ true) (c : Bool) (e : c ≡ has_name t j) where
    pub same-other : c ≡ false → c ≡ same_number t i j
    unfolding same_number if_true
    same-other q = rw (← d, h, ← e, q)

    pub same-both : (x y : ℕ) → c ≡ true → x ≡ token_word t i 4 → y ≡ token_word t j 4 → eqb x y ≡ same_number t i j
    unfolding same_number if_true
    same-both x y q u v = rw (← d, h, ← e, q, ← u, ← v)

pub ruleset same_name = (same_not, same-other, same-both)

module _ (same : ℕ → ℕ → Bool) (k : List ℕ) (s i m : ℕ) where
  module _ (x : ℕ) (e : x ≡ (row_at k m).kind) where
    pub let-not : (x ≡ 5 → ⊥) → false ≡ let_named same k s i m
    unfolding let_named if_eq
    let-not h = rw (← e, ne_eqb _ _ h)

    module _ (h : x ≡ 5) (q : ℕ) (b : Bool) (f : q ≡ first_token k m) (d : b ≡ same (q + 1) i) where
      pub let-other : b ≡ false → b ≡ let_named same k s i m
      unfolding let_named if_eq if_true
      let-other g = rw (← e, eq-eqb _ _ h, ← f, ← d, g)

      pub let-seen : (o : ℕ) (v : Bool) → b ≡ true → o ≡ (row_at k m).scope → v ≡ encloses (row_at k) 17 o s → v ≡ let_named same k s i m
      unfolding let_named if_eq if_true
      let-seen o v g u w = rw (← e, eq-eqb _ _ h, ← f, ← d, g, ← u) w

  module _ (b : Bool) (d : b ≡ is_in (row_at k) 5 s m) where
    pub here-not : b ≡ false → b ≡ let_here same k s i m
    unfolding let_here if_true
    here-not h = rw (← d, h)

    pub here-same : (q : ℕ) (v : Bool) → b ≡ true → q ≡ first_token k m → v ≡ same (q + 1) i → v ≡ let_here same k s i m
    unfolding let_here if_true
    here-same q v h f g = rw (← d, h, ← f) g

pub ruleset lets = (let-not, let-other, let-seen, here-not, here-same)

-- the searches, as their definitions
pub parameter-of : (same : ℕ → ℕ → Bool) (k : List ℕ) (f i first end r : ℕ) → first ≡ first_token k f → end ≡ end_token k f
    → r ≡ first_from (parameter_named same i) (end - (first + 1)) (first + 1) → r ≡ parameter_of same k f i
unfolding parameter_of
parameter-of same k f i first end r e d q = rw (← e, ← d) q

pub label-of : (same : ℕ → ℕ → Bool) (y : List ℕ) (l i r : ℕ) → r ≡ first_from (label_named same y i) (l - 0) 0 → r ≡ label_of same y l i
unfolding label_of
label-of same y l i r q = let e : l - 0 ≡ l = omega arith in rw e at q

pub label_same : (same : ℕ → ℕ → Bool) (y : List ℕ) (i j x : ℕ) (b : Bool) → x ≡ label_token y j → b ≡ same x i → b ≡ label_named same y i j
label_same same y i j x b e q = q ∙ ap (λ (z : ℕ). same z i) e

-- a parameter stands behind the magic word
picked-above : (b : Bool) (s r : ℕ) → suc s ≤ r → s ≤ pick b s r
picked-above true s r h = omega arith
picked-above false s r h = omega arith

pub from_start : (p : ℕ → Bool) (left s : ℕ) → s ≤ first_from p left s
unfolding first_from
from_start p zero s = omega arith
from_start p (suc left) s = picked-above (p s) s (first_from p left (suc s)) (from_start p left (suc s))

pub parameter-room : (same : ℕ → ℕ → Bool) (k : List ℕ) (f i first q : ℕ) → first ≡ first_token k f → q ≡ parameter_of same k f i → first + 1 ≤ q
unfolding parameter_of
parameter-room same k f i first q e d =
    rw (e, d) (from_start (parameter_named same i) (end_token k f - (first_token k f + 1)) (first_token k f + 1))

pub let-of : (same : ℕ → ℕ → Bool) (k : List ℕ) (n i s f r : ℕ) → s ≡ (row_at k n).scope → f ≡ (row_at k n).func
    → r ≡ last_from (let_named same k s i) (n - f) f → r ≡ let_of same k n i
unfolding let_of
let-of same k n i s f r e d q = rw (← e, ← d) q

module _ (same : ℕ → ℕ → Bool) (k y : List ℕ) (l f i q end : ℕ) (e : end ≡ end_token k f) (d : q ≡ parameter_of same k f i) where
  pub outer-parameter : (first : ℕ) → q < end → first ≡ first_token k f → Parameter (q - (first + 1)) ≡ outer_meaning k l f (parameter_of same k f i) (label_of same y l i)
  unfolding outer_meaning
  outer-parameter first h p = rw (← p, ← e, ← d) (sym (if_lt-yes _ _ h))

  pub outer-label : (j : ℕ) (r : Meaning) → end ≤ q → j ≡ label_of same y l i → r ≡ label_meaning l j → r ≡ outer_meaning k l f (parameter_of same k f i) (label_of same y l i)
  unfolding outer_meaning
  outer-label j r h p g = g ∙ rw (← p, ← e, ← d) (sym (if_lt-no _ _ h))

pub ruleset outer = (outer-parameter, outer-label)

module _ (same : ℕ → ℕ → Bool) (k y : List ℕ) (l n i m : ℕ) (e : m ≡ let_of same k n i) where
  pub meaning-outer : (f : ℕ) (r : Meaning) → m ≡ 0 → f ≡ (row_at k n).func → r ≡ outer_meaning k l f (parameter_of same k f i) (label_of same y l i)
      → r ≡ meaning_of same k y l n i
  unfolding meaning_of
  meaning-outer f r h d q = q ∙ rw (← e, ← d) (sym (if_eq-yes _ _ h))

  pub meaning-let : (m ≡ 0 → ⊥) → Let (m - 1) ≡ meaning_of same k y l n i
  unfolding meaning_of
  meaning-let h = rw (← e) (sym (if_eq-no _ _ h))

pub ruleset meanings = (meaning-outer, meaning-let)

-- ---- parts

module _ (w i : ℕ) where
  pub symbol-call : w ≡ 14 → parts 2 (i + 1) (i + 2) ≡ symbol_parts w i
  unfolding symbol_parts
  symbol-call h = sym (if_eq-yes _ _ h)

  module _ (h : w ≡ 14 → ⊥) (b : Bool) (d : b ≡ is_operator w) where
    pub symbol-operator : b ≡ true → parts w 0 (i + 1) ≡ symbol_parts w i
    unfolding symbol_parts if_true
    symbol-operator q = sym (if_eq-no _ _ h ∙ rw (← d, q))

    pub symbol-operand : b ≡ false → parts 1 0 i ≡ symbol_parts w i
    unfolding symbol_parts if_true
    symbol-operand q = sym (if_eq-no _ _ h ∙ rw (← d, q))

module _ (t : List ℕ) (i : ℕ) (b : Bool) (d : b ≡ is_name t i) where
  pub expression-symbol : (w : ℕ) (r : Parts) → b ≡ true → w ≡ token_word t i 5 → r ≡ symbol_parts w i → r ≡ expression_parts t i
  unfolding expression_parts if_true
  expression-symbol w r h e q = q ∙ rw (← d, h, ← e)

  pub expression-operand : b ≡ false → parts 1 0 i ≡ expression_parts t i
  unfolding expression_parts if_true
  expression-operand h = rw (← d, h)

pub return-some : (t : List ℕ) (i next : ℕ) (r : Parts) → i < next → r ≡ expression_parts t i → r ≡ return_parts t i next
unfolding return_parts
return-some t i next r h q = q ∙ sym (if_lt-yes _ _ h)

pub return-bare : (t : List ℕ) (i next : ℕ) (r : Parts) → next ≤ i → r ≡ parts 0 0 next → r ≡ return_parts t i next
unfolding return_parts
return-bare t i next r h q = q ∙ sym (if_lt-no _ _ h)

module _ (kind i next : ℕ) (b : Bool) (r : Parts) (d : b ≡ lists_operands kind) where
  pub plain-operands : b ≡ true → r ≡ parts 0 0 (i + 1) → r ≡ plain_parts kind i next
  unfolding plain_parts if_true
  plain-operands h q = q ∙ rw (← d, h)

  module _ (h : b ≡ false) where
    pub plain-call : kind ≡ 11 → r ≡ parts 2 (i + 1) (i + 2) → r ≡ plain_parts kind i next
    unfolding plain_parts if_true if_eq
    plain-call e q = q ∙ rw (← d, h, eq-eqb _ _ e)

    pub plain-tail : (kind ≡ 11 → ⊥) → kind ≡ 12 → r ≡ parts 2 (i + 1) (i + 2) → r ≡ plain_parts kind i next
    unfolding plain_parts if_true if_eq
    plain-tail f e q = q ∙ rw (← d, h, ne_eqb _ _ f, eq-eqb _ _ e)

    pub plain-none : (kind ≡ 11 → ⊥) → (kind ≡ 12 → ⊥) → r ≡ parts 0 0 next → r ≡ plain_parts kind i next
    unfolding plain_parts if_true if_eq
    plain-none f e q = q ∙ rw (← d, h, ne_eqb _ _ f, ne_eqb _ _ e)

module _ (t : List ℕ) (kind i next : ℕ) (r : Parts) where
  pub parts-return : kind ≡ 13 → r ≡ return_parts t (i + 1) next → r ≡ parts_of t kind i next
  unfolding parts_of
  parts-return h q = q ∙ sym (if_eq-yes _ _ h)

  module _ (h : kind ≡ 13 → ⊥) where
    pub parts_none : kind < 5 → r ≡ parts 0 0 next → r ≡ parts_of t kind i next
    unfolding parts_of
    parts_none l q = q ∙ sym (if_eq-no _ _ h ∙ if_lt-yes _ _ l)

    pub parts-expression : 5 ≤ kind → kind < 8 → r ≡ expression_parts t (i + 2) → r ≡ parts_of t kind i next
    unfolding parts_of
    parts-expression l m q = q ∙ sym (if_eq-no _ _ h ∙ if_lt-no _ _ l ∙ if_lt-yes _ _ m)

    pub parts-plain : 5 ≤ kind → 8 ≤ kind → r ≡ plain_parts kind i next → r ≡ parts_of t kind i next
    unfolding parts_of
    parts-plain l m q = q ∙ sym (if_eq-no _ _ h ∙ if_lt-no _ _ l ∙ if_lt-no _ _ m)

pub ruleset parting =
    (symbol-call, symbol-operator, symbol-operand, expression-symbol, expression-operand, return-some, return-bare, plain-operands, plain-call, plain-tail, plain-none, parts-return, parts_none, parts-expression, parts-plain)
