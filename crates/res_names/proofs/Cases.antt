-- One law for each way through a function of this crate.
-- Assumes nothing.
use mathlib.Core.Path.{◌≡◌, refl, sym, ◌∙◌, ap}
use mathlib.Core.Bool.{Bool, true, false}
use lib.Dec.{ltb}
use mathlib.Core.List.{List}
use Prim.Native.Nat.{ℕ, ◌+◌, ◌-◌, ◌<◌, ◌≤◌, min}
use lib.ListN.{length, get_or, set}
use Rattle.base_prelude.specs.Choice.{pick, if_lt, if_true}
use Rattle.base_prelude.specs.Fault.{none}
use Rattle.base_prelude.proofs.Choice.{if_lt-yes, if_lt-no, if_eq-yes, if_eq-no}
use Rattle.parse_lines.specs.Tokens.{token_word, key_at}
use Rattle.prog_tables.specs.Tests.{first_from}
use Rattle.prog_tables.specs.Statement.{row_at}
use Rattle.res_scope.specs.Lines.{first_token, end_token, label_token, label_kind, label_statement, label_arguments}
use Rattle.res_scope.specs.Names.{let_here, parameter_of, label_of, meaning_of}
use Rattle.res_scope.specs.Parts.{parts_of}
use Rattle.res_scope.specs.declared.Meaning.{Meaning}
use Rattle.res_scope.specs.declared.Meaning.TheVariants.{Let, Parameter, Label, Unknown}
use Rattle.res_scope.specs.declared.Parts.{Parts}
use Rattle.res_names.specs.Naming.{data_fault, value_fault, set_fault, import_fault, function_fault, callee_fault, place_fault, goto_fault, parameter_taken, local_taken, let_fault, parameter_fault, label_fault, Naming, naming, judged, mark_use, use_of, value_part, operands_part, callee_part, set_part, goto_part, parameters_fault, declared_fault, head_part, body_part, statement_part}

-- ---- faults

module _ (t : List ℕ) (n : ℕ) (y : List ℕ) (i : ℕ) where
  module _ (j x : ℕ) (e : x ≡ label_kind y j) where
    pub data-yes : x ≡ 1 → none ≡ data_fault t n y i j
    unfolding data_fault
    data-yes h = rw (← e) (sym (if_eq-yes _ _ h))

    pub data-no : (q : ℕ) → (x ≡ 1 → ⊥) → q ≡ key_at t n i 11 → q ≡ data_fault t n y i j
    unfolding data_fault
    data-no q h p = p ∙ rw (← e) (sym (if_eq-no _ _ h))

  module _ (m : Meaning) where
    pub value-let : (j : ℕ) → m ≡ Let j → none ≡ value_fault t n y i m
    unfolding value_fault
    value-let j e = rw e

    pub value-parameter : (j : ℕ) → m ≡ Parameter j → none ≡ value_fault t n y i m
    unfolding value_fault
    value-parameter j e = rw e

    pub value-label : (j q : ℕ) → m ≡ Label j → q ≡ data_fault t n y i j → q ≡ value_fault t n y i m
    unfolding value_fault
    value-label j q e p = rw e p

    pub value-unknown : (q : ℕ) → m ≡ Unknown → q ≡ key_at t n i 10 → q ≡ value_fault t n y i m
    unfolding value_fault
    value-unknown q e p = rw e p

    pub set-let : (j : ℕ) → m ≡ Let j → none ≡ set_fault t n i m
    unfolding set_fault
    set-let j e = rw e

    pub set-parameter : (j : ℕ) → m ≡ Parameter j → none ≡ set_fault t n i m
    unfolding set_fault
    set-parameter j e = rw e

    pub set-label : (j q : ℕ) → m ≡ Label j → q ≡ key_at t n i 11 → q ≡ set_fault t n i m
    unfolding set_fault
    set-label j q e p = rw e p

    pub set-unknown : (q : ℕ) → m ≡ Unknown → q ≡ key_at t n i 10 → q ≡ set_fault t n i m
    unfolding set_fault
    set-unknown q e p = rw e p

pub ruleset values = (data-yes, data-no, value-let, value-parameter, value-label, value-unknown)

pub ruleset sets = (set-let, set-parameter, set-label, set-unknown)

module _ (t : List ℕ) (n : ℕ) (y : List ℕ) (i count j x : ℕ) (e : x ≡ label_kind y j) where
  pub import-not : (q : ℕ) → (x ≡ 6 → ⊥) → q ≡ key_at t n i 11 → q ≡ import_fault t n y i count j
  unfolding import_fault
  import-not q h p = p ∙ rw (← e) (sym (if_eq-no _ _ h))

  module _ (a : ℕ) (h : x ≡ 6) (g : a ≡ label_arguments y j) where
    pub import-fits : a ≡ count → none ≡ import_fault t n y i count j
    unfolding import_fault
    import-fits f = rw (← e, ← g) (sym (if_eq-yes _ _ h ∙ if_eq-yes _ _ f))

    pub import-count : (q : ℕ) → (a ≡ count → ⊥) → q ≡ key_at t n i 13 → q ≡ import_fault t n y i count j
    unfolding import_fault
    import-count q f p = p ∙ rw (← e, ← g) (sym (if_eq-yes _ _ h ∙ if_eq-no _ _ f))

pub ruleset imports = (import-not, import-fits, import-count)

module _ (t : List ℕ) (n : ℕ) (k y : List ℕ) (i : ℕ) where
  module _ (count j x : ℕ) (e : x ≡ label_kind y j) where
    pub function-not : (q : ℕ) → (x ≡ 3 → ⊥) → q ≡ import_fault t n y i count j → q ≡ function_fault t n k y i count j
    unfolding function_fault
    function-not q h p = p ∙ rw (← e) (sym (if_eq-no _ _ h))

    module _ (s b : ℕ) (h : x ≡ 3) (d : s ≡ label_statement y j) (g : b ≡ (row_at k s).b) where
      pub function-fits : b ≡ count → none ≡ function_fault t n k y i count j
      unfolding function_fault
      function-fits f = rw (← e, ← d, ← g) (sym (if_eq-yes _ _ h ∙ if_eq-yes _ _ f))

      pub function-count : (q : ℕ) → (b ≡ count → ⊥) → q ≡ key_at t n i 13 → q ≡ function_fault t n k y i count j
      unfolding function_fault
      function-count q f p = p ∙ rw (← e, ← d, ← g) (sym (if_eq-yes _ _ h ∙ if_eq-no _ _ f))

  module _ (count : ℕ) (m : Meaning) where
    pub callee-let : (j q : ℕ) → m ≡ Let j → q ≡ key_at t n i 11 → q ≡ callee_fault t n k y i count m
    unfolding callee_fault
    callee-let j q e p = rw e p

    pub callee-parameter : (j q : ℕ) → m ≡ Parameter j → q ≡ key_at t n i 11 → q ≡ callee_fault t n k y i count m
    unfolding callee_fault
    callee-parameter j q e p = rw e p

    pub callee-label : (j q : ℕ) → m ≡ Label j → q ≡ function_fault t n k y i count j → q ≡ callee_fault t n k y i count m
    unfolding callee_fault
    callee-label j q e p = rw e p

    pub callee-unknown : (q : ℕ) → m ≡ Unknown → q ≡ key_at t n i 10 → q ≡ callee_fault t n k y i count m
    unfolding callee_fault
    callee-unknown q e p = rw e p

pub ruleset callees = (function-not, function-fits, function-count, callee-let, callee-parameter, callee-label, callee-unknown)

module _ (t : List ℕ) (n : ℕ) (k y : List ℕ) (r i : ℕ) where
  module _ (j x : ℕ) (e : x ≡ label_kind y j) where
    pub place-not : (q : ℕ) → (x ≡ 5 → ⊥) → q ≡ key_at t n i 11 → q ≡ place_fault t n k y r i j
    unfolding place_fault
    place-not q h p = p ∙ rw (← e) (sym (if_eq-no _ _ h))

    module _ (s f g : ℕ) (h : x ≡ 5) (d : s ≡ label_statement y j) (a : f ≡ (row_at k s).func) (b : g ≡ (row_at k r).func) where
      pub place-function : (q : ℕ) → (f ≡ g → ⊥) → q ≡ key_at t n i 11 → q ≡ place_fault t n k y r i j
      unfolding place_fault
      place-function q o p = p ∙ rw (← e, ← d, ← a, ← b) (sym (if_eq-yes _ _ h ∙ if_eq-no _ _ o))

      module _ (v w : ℕ) (o : f ≡ g) (c : v ≡ (row_at k s).scope) (u : w ≡ (row_at k r).scope) where
        pub place-scope : (q : ℕ) → (v ≡ w → ⊥) → q ≡ key_at t n i 11 → q ≡ place_fault t n k y r i j
        unfolding place_fault
        place-scope q z p = p ∙ rw (← e, ← d, ← a, ← b, ← c, ← u) (sym (if_eq-yes _ _ h ∙ if_eq-yes _ _ o ∙ if_eq-no _ _ z))

        pub place-fits : v ≡ w → none ≡ place_fault t n k y r i j
        unfolding place_fault
        place-fits z = rw (← e, ← d, ← a, ← b, ← c, ← u) (sym (if_eq-yes _ _ h ∙ if_eq-yes _ _ o ∙ if_eq-yes _ _ z))

  module _ (m : Meaning) where
    pub goto-let : (j q : ℕ) → m ≡ Let j → q ≡ key_at t n i 11 → q ≡ goto_fault t n k y r i m
    unfolding goto_fault
    goto-let j q e p = rw e p

    pub goto-parameter : (j q : ℕ) → m ≡ Parameter j → q ≡ key_at t n i 11 → q ≡ goto_fault t n k y r i m
    unfolding goto_fault
    goto-parameter j q e p = rw e p

    pub goto-label : (j q : ℕ) → m ≡ Label j → q ≡ place_fault t n k y r i j → q ≡ goto_fault t n k y r i m
    unfolding goto_fault
    goto-label j q e p = rw e p

    pub goto-unknown : (q : ℕ) → m ≡ Unknown → q ≡ key_at t n i 10 → q ≡ goto_fault t n k y r i m
    unfolding goto_fault
    goto-unknown q e p = rw e p

pub ruleset gotos = (place-not, place-function, place-scope, place-fits, goto-let, goto-parameter, goto-label, goto-unknown)

module _ (same : ℕ → ℕ → Bool) (k : List ℕ) (f i q end : ℕ) (e : q ≡ parameter_of same k f i) (d : end ≡ end_token k f) where
  pub taken_is : ltb q end ≡ parameter_taken same k f i
  unfolding parameter_taken if_lt
  taken_is = rw (← e, ← d) (picked (ltb q end))
    where
      picked : (b : Bool) → b ≡ pick b true false
      picked true = refl
      picked false = refl

module _ (same : ℕ → ℕ → Bool) (k : List ℕ) (s r i m : ℕ) (e : m ≡ first_from (let_here same k s i) (r - s) s) where
  pub local-let : m < r → true ≡ local_taken same k s r i
  unfolding local_taken
  local-let h = rw (← e) (sym (if_lt-yes _ _ h))

  module _ (h : r ≤ m) (x : ℕ) (d : x ≡ (row_at k s).kind) where
    pub local-parameter : (b : Bool) → x ≡ 1 → b ≡ parameter_taken same k s i → b ≡ local_taken same k s r i
    unfolding local_taken
    local-parameter b f q = q ∙ rw (← e, ← d) (sym (if_lt-no _ _ h ∙ if_eq-yes _ _ f))

    pub local_free : (x ≡ 1 → ⊥) → false ≡ local_taken same k s r i
    unfolding local_taken
    local_free f = rw (← e, ← d) (sym (if_lt-no _ _ h ∙ if_eq-no _ _ f))

module _ (same : ℕ → ℕ → Bool) (t : List ℕ) (n : ℕ) (k : List ℕ) (r : ℕ) where
  module _ (i s : ℕ) (b : Bool) (e : s ≡ (row_at k r).scope) (d : b ≡ local_taken same k s r i) where
    pub let-second : (q : ℕ) → b ≡ true → q ≡ key_at t n i 12 → q ≡ let_fault same t n k r i
    unfolding let_fault if_true
    let-second q h p = p ∙ rw (← e, ← d, h)

    pub let-new : b ≡ false → none ≡ let_fault same t n k r i
    unfolding let_fault if_true
    let-new h = rw (← e, ← d, h)

  module _ (q p : ℕ) (e : p ≡ parameter_of same k r q) where
    pub parameter-second : (z : ℕ) → p < q → z ≡ key_at t n q 12 → z ≡ parameter_fault same t n k r q
    unfolding parameter_fault
    parameter-second z h g = g ∙ rw (← e) (sym (if_lt-yes _ _ h))

    pub parameter-new : q ≤ p → none ≡ parameter_fault same t n k r q
    unfolding parameter_fault
    parameter-new h = rw (← e) (sym (if_lt-no _ _ h))

module _ (same : ℕ → ℕ → Bool) (t : List ℕ) (n : ℕ) (y : List ℕ) (l j i p : ℕ) (d : i ≡ label_token y j) (e : p ≡ label_of same y l i) where
  pub label-second : (z : ℕ) → p < j → z ≡ key_at t n i 12 → z ≡ label_fault same t n y l j
  unfolding label_fault
  label-second z h g = g ∙ rw (← d, ← e) (sym (if_lt-yes _ _ h))

  pub label-new : j ≤ p → none ≡ label_fault same t n y l j
  unfolding label_fault
  label-new h = rw (← d, ← e) (sym (if_lt-no _ _ h))

pub ruleset seconds =
    (taken_is, local-let, local-parameter, local_free, let-second, let-new, parameter-second, parameter-new, label-second, label-new)

-- ---- uses

module _ (u : List ℕ) (w i : ℕ) (h : w < length u) where
  pub use-first : get_or u w 0 ≡ 0 → set u w i ≡ mark_use i w u
  unfolding mark_use
  use-first q = sym (if_lt-yes _ _ h ∙ if_eq-yes _ _ q)

  pub use-later : (get_or u w 0 ≡ 0 → ⊥) → u ≡ mark_use i w u
  unfolding mark_use
  use-later q = sym (if_lt-yes _ _ h ∙ if_eq-no _ _ q)

pub use-past : (u : List ℕ) (w i : ℕ) → length u ≤ w → u ≡ mark_use i w u
unfolding mark_use
use-past u w i h = sym (if_lt-no _ _ h)

pub ruleset marks = (use-first, use-later, use-past)

module _ (i : ℕ) (m : Meaning) (u : List ℕ) where
  pub use-label : (j : ℕ) (v : List ℕ) → m ≡ Label j → v ≡ mark_use i j u → v ≡ use_of i m u
  unfolding use_of
  use-label j v e p = rw e p

pub use-none : (i : ℕ) (m : Meaning) (u : List ℕ) → ((j : ℕ) → m ≡ Label j → ⊥) → u ≡ use_of i m u
unfolding use_of
use-none i (Let j) u h = refl
use-none i (Parameter j) u h = refl
use-none i (Label j) u h = absurd (h j refl)
use-none i Unknown u h = refl

pub ruleset uses = (use-label, use-none)

-- ---- parts

-- a name judged by a fault f of its meaning m
pub judged-is : (i best q x : ℕ) (u v : List ℕ) (m m' : Meaning) (f : Meaning → ℕ) → m ≡ m' → v ≡ use_of i m u → q ≡ f m → x ≡ min best q
    → naming x v ≡ judged i (f m') m' (naming best u)
unfolding judged
judged-is i best q x u v m m' f e a b d = rw (← e, ← b, ← a) (ap (λ (z : ℕ). naming z v) d)

module _ (same : ℕ → ℕ → Bool) (t : List ℕ) (n : ℕ) (k y : List ℕ) (l r i best : ℕ) (u : List ℕ) where
  abbrev value-judged : Naming
  value-judged = judged i (value_fault t n y i (meaning_of same k y l r i)) (meaning_of same k y l r i) (naming best u)

  pub value-name : (m : Meaning) (v : List ℕ) (q x : ℕ) → m ≡ meaning_of same k y l r i → v ≡ use_of i m u → q ≡ value_fault t n y i m → x ≡ min best q
      → naming x v ≡ judged i (value_fault t n y i (meaning_of same k y l r i)) (meaning_of same k y l r i) (naming best u)
  value-name m v q x e a b d = judged-is i best q x u v m _ (value_fault t n y i) e a b d

  pub set-name : (m : Meaning) (v : List ℕ) (q x : ℕ) → m ≡ meaning_of same k y l r i → v ≡ use_of i m u → q ≡ set_fault t n i m → x ≡ min best q
      → naming x v ≡ set_part same t n k y l r i (naming best u)
  unfolding set_part
  set-name m v q x e a b d = judged-is i best q x u v m _ (set_fault t n i) e a b d

  pub goto-name : (m : Meaning) (v : List ℕ) (q x : ℕ) → m ≡ meaning_of same k y l r i → v ≡ use_of i m u → q ≡ goto_fault t n k y r i m → x ≡ min best q
      → naming x v ≡ goto_part same t n k y l r i (naming best u)
  unfolding goto_part
  goto-name m v q x e a b d = judged-is i best q x u v m _ (goto_fault t n k y r i) e a b d

  module _ (count : ℕ) where
    pub callee-none : i ≡ 0 → naming best u ≡ callee_part same t n k y l r i count (naming best u)
    unfolding callee_part
    callee-none h = sym (if_eq-yes _ _ h)

    pub callee-name : (m : Meaning) (v : List ℕ) (q x : ℕ) → (i ≡ 0 → ⊥) → m ≡ meaning_of same k y l r i → v ≡ use_of i m u → q ≡ callee_fault t n k y i count m → x ≡ min best q
        → naming x v ≡ callee_part same t n k y l r i count (naming best u)
    unfolding callee_part
    callee-name m v q x h e a b d = judged-is i best q x u v m _ (callee_fault t n k y i count) e a b d ∙ sym (if_eq-no _ _ h)

  module _ (kind : ℕ) (e : kind ≡ token_word t i 0) where
    pub part-symbol : (x : ℕ) (v : List ℕ) → kind ≡ 3 → naming x v ≡ value-judged → naming x v ≡ value_part same t n k y l r i (naming best u)
    unfolding value_part
    part-symbol x v h q = q ∙ rw (← e) (sym (if_eq-yes _ _ h))

    pub part_at : (x : ℕ) (v : List ℕ) → (kind ≡ 3 → ⊥) → kind ≡ 5 → naming x v ≡ value-judged → naming x v ≡ value_part same t n k y l r i (naming best u)
    unfolding value_part
    part_at x v g h q = q ∙ rw (← e) (sym (if_eq-no _ _ g ∙ if_eq-yes _ _ h))

    pub part-other : (kind ≡ 3 → ⊥) → (kind ≡ 5 → ⊥) → naming best u ≡ value_part same t n k y l r i (naming best u)
    unfolding value_part
    part-other g h = rw (← e) (sym (if_eq-no _ _ g ∙ if_eq-no _ _ h))

pub ruleset names = (value-name, set-name, goto-name, callee-none, callee-name)

pub ruleset valued = (part-symbol, part_at, part-other)

module _ (same : ℕ → ℕ → Bool) (t : List ℕ) (n : ℕ) (k : List ℕ) (r kind i best : ℕ) (e : i ≡ first_token k r) where
  pub declared-function : (end x : ℕ) → kind ≡ 1 → end ≡ end_token k r → x ≡ parameters_fault (end - (i + 1)) same t n k r (i + 1) best → x ≡ declared_fault same t n k r kind best
  unfolding declared_fault
  declared-function end x h d q = q ∙ rw (← e, ← d) (sym (if_eq-yes _ _ h))

  pub declared-let : (q x : ℕ) → (kind ≡ 1 → ⊥) → kind ≡ 5 → q ≡ let_fault same t n k r (i + 1) → x ≡ min best q → x ≡ declared_fault same t n k r kind best
  unfolding declared_fault
  declared-let q x g h d p = p ∙ rw (← e, ← d) (sym (if_eq-no _ _ g ∙ if_eq-yes _ _ h))

  pub declared-none : (kind ≡ 1 → ⊥) → (kind ≡ 5 → ⊥) → best ≡ declared_fault same t n k r kind best
  unfolding declared_fault
  declared-none g h = sym (if_eq-no _ _ g ∙ if_eq-no _ _ h)

pub ruleset declaring = (declared-function, declared-let, declared-none)

module _ (same : ℕ → ℕ → Bool) (t : List ℕ) (n : ℕ) (k y : List ℕ) (l r kind i best : ℕ) (u : List ℕ) (e : i ≡ first_token k r) where
  module _ (x : ℕ) (v : List ℕ) where
    pub head-set : kind ≡ 6 → naming x v ≡ set_part same t n k y l r (i + 1) (naming best u) → naming x v ≡ head_part same t n k y l r kind (naming best u)
    unfolding head_part
    head-set h q = q ∙ rw (← e) (sym (if_eq-yes _ _ h))

    pub head_at_lem : (kind ≡ 6 → ⊥) → kind ≡ 7 → naming x v ≡ value_part same t n k y l r (i + 1) (naming best u) → naming x v ≡ head_part same t n k y l r kind (naming best u)
    unfolding head_part
    head_at_lem f h q = q ∙ rw (← e) (sym (if_eq-no _ _ f ∙ if_eq-yes _ _ h))

    pub head-goto : (kind ≡ 6 → ⊥) → (kind ≡ 7 → ⊥) → kind ≡ 10 → naming x v ≡ goto_part same t n k y l r (i + 1) (naming best u)
        → naming x v ≡ head_part same t n k y l r kind (naming best u)
    unfolding head_part
    head-goto f g h q = q ∙ rw (← e) (sym (if_eq-no _ _ f ∙ if_eq-no _ _ g ∙ if_eq-yes _ _ h))

  pub head-none : (kind ≡ 6 → ⊥) → (kind ≡ 7 → ⊥) → (kind ≡ 10 → ⊥) → naming best u ≡ head_part same t n k y l r kind (naming best u)
  unfolding head_part
  head-none f g h = sym (if_eq-no _ _ f ∙ if_eq-no _ _ g ∙ if_eq-no _ _ h)

pub ruleset heads = (head-set, head_at_lem, head-goto, head-none)

pub body_is : (same : ℕ → ℕ → Bool) (t : List ℕ) (n : ℕ) (k y : List ℕ) (l r : ℕ) (p : Parts) (next best count found x : ℕ) (u v w : List ℕ)
    → count ≡ next - p.first → naming found v ≡ callee_part same t n k y l r p.callee count (naming best u)
    → naming x w ≡ operands_part (next - p.first) same t n k y l r p.first (naming found v) → naming x w ≡ body_part same t n k y l r p next (naming best u)
unfolding body_part
body_is same t n k y l r p next best count found x u v w e a b =
    b ∙ ap (λ (z : Naming). operands_part (next - p.first) same t n k y l r p.first z) (a ∙ ap (λ (z : ℕ). callee_part same t n k y l r p.callee z (naming best u)) e)

pub statement-is : (same : ℕ → ℕ → Bool) (t : List ℕ) (n : ℕ) (k y : List ℕ) (l r kind best declared head next first x : ℕ) (p : Parts) (u v w : List ℕ)
    → kind ≡ (row_at k r).kind → declared ≡ declared_fault same t n k r kind best → naming head v ≡ head_part same t n k y l r kind (naming declared u)
    → next ≡ end_token k r → first ≡ first_token k r → p ≡ parts_of t kind first next → naming x w ≡ body_part same t n k y l r p next (naming head v)
    → naming x w ≡ statement_part same t n k y l r (naming best u)
unfolding statement_part
statement-is same t n k y l r kind best declared head next first x p u v w a b c d e f g =
    rw (← a, ← d, ← e, ← f, ← b, ← c) g
