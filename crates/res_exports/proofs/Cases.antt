-- One law for each way through a function of this crate.
-- Assumes nothing.
use mathlib.Core.Path.{◌≡◌, sym, ◌∙◌, ap}
use mathlib.Core.Bool.{Bool, true, false}
use mathlib.Core.List.{List}
use Prim.Native.Nat.{ℕ, ◌+◌, ◌<◌, ◌≤◌, min}
use lib.ListN.{length, get_or, set}
use Rattle.std.specs.declared.ops.ControlFlow.TheVariants.{Continue, Break}
use Rattle.base_prelude.specs.Choice.{if_true}
use Rattle.base_prelude.specs.Fault.{none}
use Rattle.base_prelude.proofs.Choice.{if_lt-yes, if_lt-no, if_eq-yes, if_eq-no}
use Rattle.parse_lines.specs.Tokens.{token_word, key_at}
use Rattle.parse_lines.specs.declared.Span.{Span}
use Rattle.res_scope.specs.Lines.{label_token}
use Rattle.res_scope.specs.Names.{label_of}
use Rattle.res_exports.specs.Exports.{is_definition, ends_search, seek_on, sought, carries_label, carried_by, definition_from, use_fault, missing_fault, export_fault, label_at_token, import_use, import_fault, import_judged, exported, flagged, judged_by, export_part}

module _ (u : Span) (k : ℕ) (b : Bool) (d : b ≡ is_definition k) where
  pub seek-here : b ≡ true → sought (Break u) ≡ seek_on u k
  unfolding seek_on if_true
  seek-here h = rw (← d, h)

  module _ (h : b ≡ false) (c : Bool) (e : c ≡ ends_search k) where
    pub seek-nowhere : c ≡ true → sought (Break (record { first = 0; word = 0; next = 0 })) ≡ seek_on u k
    unfolding seek_on if_true
    seek-nowhere g = rw (← d, h, ← e, g)

    pub seek-further : c ≡ false → sought (Continue u.next) ≡ seek_on u k
    unfolding seek_on if_true
    seek-further g = rw (← d, h, ← e, g)

pub ruleset seeking = (seek-here, seek-nowhere, seek-further)

module _ (same : ℕ → ℕ → Bool) (y : List ℕ) (first word i j q : ℕ) (e : q ≡ label_token y j) where
  pub carries-before : q < first → false ≡ carries_label same y first word i j
  unfolding carries_label
  carries-before h = rw (← e) (sym (if_lt-yes _ _ h))

  pub carries-within : (b : Bool) → first ≤ q → q < word → b ≡ same q i → b ≡ carries_label same y first word i j
  unfolding carries_label
  carries-within b h g d = d ∙ rw (← e) (sym (if_lt-no _ _ h ∙ if_lt-yes _ _ g))

  pub carries-behind : first ≤ q → word ≤ q → false ≡ carries_label same y first word i j
  unfolding carries_label
  carries-behind h g = rw (← e) (sym (if_lt-no _ _ h ∙ if_lt-no _ _ g))

pub ruleset carrying = (carries-before, carries-within, carries-behind)

module _ (t : List ℕ) (n i q : ℕ) where
  pub use-none : q ≡ 0 → none ≡ use_fault t n i q
  unfolding use_fault
  use-none h = sym (if_eq-yes _ _ h)

  pub use-before : (z : ℕ) → (q ≡ 0 → ⊥) → q < i → z ≡ key_at t n i 17 → z ≡ use_fault t n i q
  unfolding use_fault
  use-before z h g p = p ∙ sym (if_eq-no _ _ h ∙ if_lt-yes _ _ g)

  pub use-behind : (q ≡ 0 → ⊥) → i ≤ q → none ≡ use_fault t n i q
  unfolding use_fault
  use-behind h g = sym (if_eq-no _ _ h ∙ if_lt-no _ _ g)

module _ (same : ℕ → ℕ → Bool) (t : List ℕ) (n : ℕ) (y : List ℕ) (l i : ℕ) where
  module _ (p : ℕ) (e : p ≡ label_of same y l i) where
    pub missing-kind : (z : ℕ) → p < l → z ≡ key_at t n i 11 → z ≡ missing_fault same t n y l i
    unfolding missing_fault
    missing-kind z h q = q ∙ rw (← e) (sym (if_lt-yes _ _ h))

    pub missing-name : (z : ℕ) → l ≤ p → z ≡ key_at t n i 10 → z ≡ missing_fault same t n y l i
    unfolding missing_fault
    missing-name z h q = q ∙ rw (← e) (sym (if_lt-no _ _ h))

  module _ (uses : List ℕ) (j : ℕ) where
    pub export-found : (q z : ℕ) → j < l → q ≡ get_or uses j 0 → z ≡ use_fault t n i q → z ≡ export_fault same t n y l uses i j
    unfolding export_fault
    export-found q z h e d = d ∙ rw (← e) (sym (if_lt-yes _ _ h))

    pub export-missing : (z : ℕ) → l ≤ j → z ≡ missing_fault same t n y l i → z ≡ export_fault same t n y l uses i j
    unfolding export_fault
    export-missing z h d = d ∙ sym (if_lt-no _ _ h)

    pub export-judged : (best q x : ℕ) (f g : List ℕ) → g ≡ flagged l j f → q ≡ export_fault same t n y l uses i j → x ≡ min best q
        → exported x g ≡ judged_by same t n y l uses i j (exported best f)
    unfolding judged_by
    export-judged best q x f g a b c = rw (← a, ← b) (ap (λ (z : ℕ). exported z g) c)

module _ (t : List ℕ) (n : ℕ) (y : List ℕ) (l : ℕ) (uses : List ℕ) (i h : ℕ) (e : h ≡ token_word t i 7) where
  pub import-unlisted : (z : ℕ) → h ≡ 0 → z ≡ key_at t n i 10 → z ≡ import_fault t n y l uses i
  unfolding import_fault
  import-unlisted z g d = d ∙ rw (← e) (sym (if_eq-yes _ _ g))

  pub import-listed : (j z : ℕ) → (h ≡ 0 → ⊥) → j ≡ label_at_token y l i → z ≡ import_use t n l uses i j → z ≡ import_fault t n y l uses i
  unfolding import_fault
  import-listed j z g f d = d ∙ rw (← e, ← f) (sym (if_eq-no _ _ g))

module _ (t : List ℕ) (n l : ℕ) (uses : List ℕ) (i j : ℕ) where
  pub import-used : (q z : ℕ) → j < l → q ≡ get_or uses j 0 → z ≡ use_fault t n i q → z ≡ import_use t n l uses i j
  unfolding import_use
  import-used q z h e d = d ∙ rw (← e) (sym (if_lt-yes _ _ h))

  pub import-alone : l ≤ j → none ≡ import_use t n l uses i j
  unfolding import_use
  import-alone h = sym (if_lt-no _ _ h)

pub ruleset import-uses = (import-used, import-alone)

pub ruleset importing = (import-unlisted, import-listed)

pub ruleset faulting = (use-none, use-before, use-behind, missing-kind, missing-name, export-found, export-missing)

module _ (f : List ℕ) (l j : ℕ) where
  pub flag-none : l ≤ j → f ≡ flagged l j f
  unfolding flagged
  flag-none h = sym (if_lt-no _ _ h)

  pub flag-set : j < l → j < length f → set f j 1 ≡ flagged l j f
  unfolding flagged
  flag-set h g = sym (if_lt-yes _ _ h ∙ if_lt-yes _ _ g)

  pub flag-past : j < l → length f ≤ j → f ≡ flagged l j f
  unfolding flagged
  flag-past h g = sym (if_lt-yes _ _ h ∙ if_lt-no _ _ g)

pub ruleset flagging = (flag-none, flag-set, flag-past)

module _ (same : ℕ → ℕ → Bool) (t : List ℕ) (n : ℕ) (y : List ℕ) (l : ℕ) (uses : List ℕ) (u : Span) (k best : ℕ) (f : List ℕ) where
  pub part-export : (d : Span) (j x : ℕ) (g : List ℕ) → k ≡ 27 → d ≡ definition_from t u.next → j ≡ carried_by same y l d.first d.word (u.word + 1)
      → exported x g ≡ judged_by same t n y l uses (u.word + 1) j (exported best f) → exported x g ≡ export_part same t n y l uses u k (exported best f)
  unfolding export_part
  part-export d j x g h e q p = p ∙ rw (← e, ← q) (sym (if_eq-yes _ _ h))

  pub part-import : (q x : ℕ) → (k ≡ 27 → ⊥) → k ≡ 36 → q ≡ import_fault t n y l uses (u.word + 1) → x ≡ min best q
      → exported x f ≡ export_part same t n y l uses u k (exported best f)
  unfolding export_part import_judged
  part-import q x h g e p = rw (← e) (ap (λ (z : ℕ). exported z f) p) ∙ sym (if_eq-no _ _ h ∙ if_eq-yes _ _ g)

  pub part-other : (k ≡ 27 → ⊥) → (k ≡ 36 → ⊥) → exported best f ≡ export_part same t n y l uses u k (exported best f)
  unfolding export_part
  part-other h g = sym (if_eq-no _ _ h ∙ if_eq-no _ _ g)

pub ruleset exporting = (part-export, part-import, part-other)
