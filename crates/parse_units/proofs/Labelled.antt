-- The ranges of words and grounds that the code tests say what the lists of words before which labels may stand say.
-- Assumes nothing.
use mathlib.Core.Path.{◌≡◌, refl, sym, ◌∙◌, ap}
use mathlib.Core.Bool.{Bool, true, false}
use mathlib.Core.List.{List, [], ◌∷◌}
use Prim.Native.Nat.{ℕ, ◌≤◌, ◌<◌}
use native.Mathlib.Decide.{dec_lt, ℕ_discrete}
use native.Mathlib.Omega.{arith}
use lib.Dec.{T}
use Rattle.base_prelude.specs.Choice.{pick, if_lt, if_eq}
use Rattle.base_prelude.specs.Lists.{is_among}
use Rattle.base_prelude.proofs.Choice.{if_lt-yes, if_lt-no, if_eq-yes, if_eq-no}
use Rattle.base_prelude.proofs.Table.{under, under_at, agree, agree-is, low, among-past}
use Rattle.lang_kinds.specs.Standing.{Ground, ground_numbered}
use Rattle.lang_kinds.proofs.Standing.{no-ground}
use Rattle.parse_units.specs.Places.{data_words, function_words, statement_words, labelled_on, may_label}

-- ---- words

abbrev pub data_range : ℕ → Bool
data_range w = if_lt w 4 false (if_lt w 9 true false)

abbrev pub statement_range : ℕ → Bool
statement_range w = if_lt w 9 false (if_eq w 13 false (if_lt w 33 true false))

data_agree : ℕ → Bool
data_agree w = agree (is_among w data_words) (data_range w)

data-agree : T (under data_agree 33)
unfolding data_agree is_among if_lt
data-agree = tt

statement_agree : ℕ → Bool
statement_agree w = agree (is_among w statement_words) (statement_range w)

statement-agree : T (under statement_agree 33)
unfolding statement_agree is_among if_lt if_eq
statement-agree = tt

pub data-by : (w : ℕ) (b : Bool) → b ≡ data_range w → b ≡ is_among w data_words
unfolding data_agree
data-by w b e =
    elim (dec_lt w 33) [
      | yes l ↦ e ∙ sym (agree-is (is_among w data_words) (data_range w) (under_at data_agree 33 w data-agree l))
      | no l ↦ e ∙ if_lt-no _ _ (omega arith) ∙ if_lt-no _ _ (omega arith) ∙ sym (among-past 33 w data_words tt (omega arith))
    ]

pub statement-by : (w : ℕ) (b : Bool) → b ≡ statement_range w → b ≡ is_among w statement_words
unfolding statement_agree
statement-by w b e =
    elim (dec_lt w 33) [
      | yes l ↦ e ∙ sym (agree-is (is_among w statement_words) (statement_range w) (under_at statement_agree 33 w statement-agree l))
      | no l ↦ e ∙ if_lt-no _ _ (omega arith) ∙ if_eq-no _ _ (λ q. omega arith) ∙ if_lt-no _ _ (omega arith)
          ∙ sym (among-past 33 w statement_words tt (omega arith))
    ]

pub function-by : (w : ℕ) (b : Bool) → b ≡ if_eq w 9 true false → b ≡ is_among w function_words
unfolding is_among if_eq
function-by w b e = e

-- ---- grounds

module _ (g w : ℕ) where
  abbrev On : ℕ → Bool
  On x = is_among w (labelled_on (ground_numbered x))

  before-words : g ≡ 0 → On g ≡ false
  unfolding labelled_on ground_numbered if_eq is_among
  before-words e = ap On e

  function-words : g ≡ 1 → On g ≡ is_among w function_words
  unfolding labelled_on ground_numbered if_eq
  function-words e = ap On e

  data-words : (g ≡ 0 → ⊥) → (g ≡ 1 → ⊥) → g < 4 → On g ≡ is_among w data_words
  unfolding labelled_on ground_numbered if_eq
  data-words a b l =
      elim (ℕ_discrete g 2) [ yes e ↦ ap On e | no d ↦ let e : g ≡ 3 = omega arith in ap On e ]

  statement-words : 4 ≤ g → g < 8 → On g ≡ is_among w statement_words
  unfolding labelled_on ground_numbered if_eq
  statement-words a l =
      elim (ℕ_discrete g 4) [
        | yes e ↦ ap On e
        | no b ↦ elim (ℕ_discrete g 5) [
          | yes e ↦ ap On e
          | no c ↦ elim (ℕ_discrete g 6) [ yes e ↦ ap On e | no d ↦ let e : g ≡ 7 = omega arith in ap On e ]
        ]
      ]

  past_words_lem : 8 ≤ g → On g ≡ false
  unfolding labelled_on is_among
  past_words_lem h = ap (λ (x : Ground). is_among w (labelled_on x)) (no-ground g h)

  module _ (kind : ℕ) where
    pub may_none : kind ≡ 3 → g ≡ 0 → false ≡ may_label g kind w
    unfolding may_label
    may_none e f = sym (if_eq-yes _ _ e ∙ before-words f)

    pub may-function : (r : Bool) → kind ≡ 3 → (g ≡ 0 → ⊥) → g ≡ 1 → r ≡ is_among w function_words → r ≡ may_label g kind w
    unfolding may_label
    may-function r e f h q = q ∙ sym (if_eq-yes _ _ e ∙ function-words h)

    pub may-data : (r : Bool) → kind ≡ 3 → (g ≡ 0 → ⊥) → (g ≡ 1 → ⊥) → g < 4 → r ≡ is_among w data_words → r ≡ may_label g kind w
    unfolding may_label
    may-data r e f h i q = q ∙ sym (if_eq-yes _ _ e ∙ data-words f h i)

    pub may-statement : (r : Bool) → kind ≡ 3 → 4 ≤ g → g < 8 → r ≡ is_among w statement_words → r ≡ may_label g kind w
    unfolding may_label
    may-statement r e h i q = q ∙ sym (if_eq-yes _ _ e ∙ statement-words h i)

    pub may_past : kind ≡ 3 → 8 ≤ g → false ≡ may_label g kind w
    unfolding may_label
    may_past e h = sym (if_eq-yes _ _ e ∙ past_words_lem h)

    pub may-other : (kind ≡ 3 → ⊥) → false ≡ may_label g kind w
    unfolding may_label
    may-other e = sym (if_eq-no _ _ e)

pub ruleset maying = (may_none, may-function, may-data, may-statement, may_past, may-other)

-- ---- what a label that may stand says

pub may-before : (w : ℕ) → is_among w (labelled_on (ground_numbered 0)) ≡ false
unfolding labelled_on ground_numbered if_eq is_among
may-before w = refl

pub may-first : (w : ℕ) → is_among w (labelled_on (ground_numbered 1)) ≡ if_eq w 9 true false
unfolding labelled_on ground_numbered if_eq is_among
may-first w = refl
