-- The ways through the rules of labels.
-- Assumes nothing.
use mathlib.Core.Path.{◌≡◌, ◌∙◌, ap}
use mathlib.Core.Bool.{Bool, true, false, not}
use mathlib.Core.List.{List, []}
use Prim.Native.Nat.{ℕ, ◌+◌, ◌-◌, ◌*◌, ◌<◌, ◌≤◌, min}
use lib.Dec.{eqb, leb}
use lib.ListN.{length, take, drop}
use borrow.Author.Tests.{eq-eqb, ne_eqb, lt-ltb, le-ltb, le-leb, lt-leb}
use Rattle.base_prelude.specs.Choice.{if_true, if_eq}
use Rattle.base_prelude.specs.Lists.{same_list}
use Rattle.lang_words.specs.Words.{number_of}
use Rattle.prog_tables.specs.Tests.{all, some_below}
use Rattle.prog_tables.specs.Statement.{Row}
use Rattle.prog_tables.specs.Label.{Label, label_at, is_data, is_function_label}
use Rattle.prog_tables.specs.Program.{Program, lent_program}
use Rattle.prog_tables.specs.Nesting.{follows_jump}
use Rattle.prog_tables.specs.WellFormed.{names, name_good, name_new, label_tests, label_good}
use Rattle.prog_names.proofs.Part.{part-name}
use Rattle.prog_tables.proofs.Each.{last-true}
use Rattle.prog_labels.specs.Labels.{tabled, place_named, row_named}

-- ---- what a label names

module _ (f : ℕ → Row) (x v : ℕ) where
  pub place-kind : (x ≡ 5 → ⊥) → false ≡ place_named f x v
  unfolding place_named all
  place-kind h = rw (ne_eqb _ _ h)

  module _ (j : ℕ) (h : x ≡ 5) (e : j ≡ (f v).kind) where
    pub place-function : j ≡ 1 → false ≡ place_named f x v
    unfolding place_named all
    place-function q = rw (eq-eqb _ _ h, ← e, eq-eqb _ _ q)

    module _ (b : Bool) (q : j ≡ 1 → ⊥) (d : b ≡ follows_jump f v) where
      pub place-rest : not b ≡ place_named f x v
      unfolding place_named all
      place-rest = rw (eq-eqb _ _ h, ← e, ne_eqb _ _ q, ← d) (last-true (not b))

  module _ (b : Bool) (d : b ≡ is_function_label x) where
    pub row-function : (j : ℕ) → b ≡ true → j ≡ (f v).kind → eqb j 1 ≡ row_named f x v
    unfolding row_named if_true
    row-function j h e = rw (← d, h, ← e)

    pub row-place : (w : Bool) → b ≡ false → w ≡ place_named f x v → w ≡ row_named f x v
    unfolding row_named if_true
    row-place w h e = rw (← d, h) e

pub ruleset row-ways = (place-kind, place-function, place-rest, row-function, row-place)

module _ (p : Program) (r : Label) (x v : ℕ) (b : Bool) (e : x ≡ r.kind) (q : v ≡ r.number) (d : b ≡ is_data x) where
  names-within : b ≡ true → leb v p.data_length ≡ names p r
  unfolding names if_true
  names-within h = rw (← e, ← d, h, ← q)

  module _ (h : b ≡ false) where
    pub names-import : (a : ℕ) → x ≡ 6 → a ≡ r.arguments → leb a 8 ≡ names p r
    unfolding names if_true if_eq
    names-import a g s = rw (← e, ← d, h, eq-eqb _ _ g, ← s)

    module _ (g : x ≡ 6 → ⊥) where
      pub names-far : p.count ≤ v → false ≡ names p r
      unfolding names if_true if_eq
      names-far l = rw (← e, ← d, h, ne_eqb _ _ g, ← q, le-ltb _ _ l)

      pub names-row : (w : Bool) → v < p.count → w ≡ row_named p.rows x v → w ≡ names p r
      unfolding names row_named place_named if_true if_eq
      names-row w l s = rw (← e, ← d, h, ne_eqb _ _ g, ← q, lt-ltb _ _ l) s

pub names-data : (t : List ℕ) (c : ℕ) (l : List ℕ) (k m i x v : ℕ) (b : Bool) → x ≡ (label_at l [] i).kind → v ≡ (label_at l [] i).number → b ≡ is_data x → b ≡ true
    → leb v m ≡ names (lent_program t c l k m) (label_at l [] i)
names-data t c l k m i x v b e q d h = names-within (lent_program t c l k m) (label_at l [] i) x v b e q d h

pub ruleset name-ways = (names-data, names-import, names-far, names-row)

-- ---- its own name

module _ (l nm : List ℕ) (i : ℕ) where
  module _ (s : ℕ) (e : s ≡ (label_at l [] i).size) where
    pub good-empty : s < 1 → false ≡ name_good (label_at l nm i)
    unfolding name_good label_at all
    good-empty h = rw (← e, lt-leb _ _ h)

    pub good-long : 1 ≤ s → 64 < s → false ≡ name_good (label_at l nm i)
    unfolding name_good label_at all
    good-long h g = rw (← e, le-leb _ _ h, lt-leb _ _ g)

    free : 1 ≤ s → s ≤ 64 → eqb (number_of (label_at l nm i).name) 0 ≡ name_good (label_at l nm i)
    unfolding name_good label_at all
    free h g = rw (← e, le-leb _ _ h, le-leb _ _ g) (last-true _)

    pub good-free : (from to w : ℕ) → 1 ≤ s → s ≤ 64 → from ≡ min (i * 64) (length nm) → to ≡ min (i * 64 + (label_at l [] i).size) (length nm)
        → w ≡ number_of (take (to - from) (drop from nm)) → eqb w 0 ≡ name_good (label_at l nm i)
    good-free from to w h g q r d = ap (λ (n : ℕ). eqb n 0) (d ∙ ap number_of (part-name l nm i from to q r)) ∙ free h g

  pub named-is : (name : List ℕ) (from to : ℕ) (b : Bool) → from ≡ min (i * 64) (length nm) → to ≡ min (i * 64 + (label_at l [] i).size) (length nm)
      → b ≡ same_list (take (to - from) (drop from nm)) name → b ≡ same_list (label_at l nm i).name name
  named-is name from to b q r d = d ∙ ap (λ (x : List ℕ). same_list x name) (part-name l nm i from to q r)

pub ruleset good-ways = (good-empty, good-long, good-free)

module _ (l nm : List ℕ) (n from to : ℕ) (b : Bool) (q : from ≡ min (n * 64) (length nm)) (r : to ≡ min (n * 64 + (label_at l [] n).size) (length nm))
    (d : b ≡ some_below (λ i. same_list (label_at l nm i).name (take (to - from) (drop from nm))) n) where
  taken_is : b ≡ some_below (λ i. same_list (label_at l nm i).name (label_at l nm n).name) n
  taken_is = d ∙ ap (λ (x : List ℕ). some_below (λ i. same_list (label_at l nm i).name x) n) (part-name l nm n from to q r)

  pub new_is : not b ≡ name_new (label_at l nm) n
  unfolding name_new
  new_is = rw (← taken_is)

-- ---- the rules of a label

module _ (t : List ℕ) (c : ℕ) (l : List ℕ) (k : ℕ) (nm : List ℕ) (d n : ℕ) (b : Bool) (e : b ≡ names (lent_program t c l k d) (label_at l [] n)) where
  same_names : b ≡ names (tabled t c l k nm d) (label_at l nm n)
  unfolding names label_at
  same_names = e

  pub label-names : b ≡ false → false ≡ label_good (tabled t c l k nm d) n
  unfolding label_tests all
  label-names h = rw (← same_names, h)

  module _ (v : Bool) (h : b ≡ true) (q : v ≡ name_good (label_at l nm n)) where
    pub label-name : v ≡ false → false ≡ label_good (tabled t c l k nm d) n
    unfolding label_tests all
    label-name r = rw (← same_names, h, ← q, r)

    pub label-new : (w : Bool) → v ≡ true → w ≡ name_new (label_at l nm) n → w ≡ label_good (tabled t c l k nm d) n
    unfolding label_tests all
    label-new w r s = rw (← same_names, h, ← q, r, ← s) (last-true w)

pub ruleset label-ways = (label-names, label-name, label-new)
