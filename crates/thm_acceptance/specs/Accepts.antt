-- The verdict of the whole check, over the whole source: "Check order: 1; 2 to 6 with 14 for tokens; 7, 8, 9 and other 14; 10 to 13 and 17; 15;
-- 16. In each group the lowest place, then the lowest number."
-- Assumes nothing.
use Rattle.std.specs.Prelude.{ℕ, ◌≤◌, ◌≡◌, Bool, true, false, List, [], ◌∷◌, ◌++◌, length, Ok, Err}
use Rattle.base_prelude.specs.Choice.{if_lt, if_true}
use Rattle.base_prelude.specs.Fault.{none, key, key_number, key_place, least_of}
use Rattle.base_limits.specs.Limits.{source_bytes}
use Rattle.base_limits.specs.declared.Width.{Width}
use Rattle.lex_source.specs.Token.{Token}
use Rattle.lex_source.specs.Lex.{Outcome, accepted, refused, lex_of}
use Rattle.prog_tables.specs.Hosts.{Hosts}
use Rattle.parse_outline.specs.Outline.{Outlined, outline_of}
use Rattle.parse_outline.specs.Parsed.{Parsed}
use Rattle.res_skeleton.specs.Skeleton.{skeleton_of}
use Rattle.res_names.specs.Naming.{Naming, names_of}
use Rattle.res_data.specs.Sizes.{length_of, length_in, big_rule}
use Rattle.res_text.specs.Same.{same_text}
use Rattle.parse_verdict.specs.Verdict.{Clean, all_faults}
use Rattle.parse_verdict.specs.Lexing.{lex_faults}
use Rattle.check_judge.specs.Judge.{hosted_table}
use Rattle.check_source.specs.Check.{Lent, has_room}
use Rattle.check_source.specs.Checked.{Checked}
use Rattle.check_source.specs.Checked as checked
use Rattle.thm_acceptance.specs.Faults.{all_name_faults, export_faults}

-- ---- what a source has: its tokens ts, statements and labels; none where it is refused

unfoldable pub tokens_in : Outcome → List Token
tokens_in (accepted ts) = ts
tokens_in (refused k) = []

unfoldable pub tokens_of : Width → List ℕ → List Token
tokens_of w s = tokens_in (lex_of w s)

-- their table, the names of imports marked against the host's list h, and the outline made of it
abbrev pub table_of : Width → Hosts → List ℕ → List ℕ
table_of w h s = hosted_table h s (tokens_of w s)

abbrev pub outlined : Width → Hosts → List ℕ → Outlined
outlined w h s = outline_of w (table_of w h s) (length s)

unfoldable pub statements_in : Parsed → ℕ
statements_in (Ok x) = x.statements
statements_in (Err r) = 0

unfoldable pub labels_in : Parsed → ℕ
labels_in (Ok x) = x.labels
labels_in (Err r) = 0

-- ---- the groups

-- 1: "source too long: 16,384"
unfoldable pub long_rule : List ℕ → ℕ
long_rule s = if_lt source_bytes (length s) (key source_bytes 1) none

-- 10 to 13 and 17, in a table t of tokens with the rows k and the label rows y
unfoldable pub names_in : (ℕ → ℕ → Bool) → List ℕ → ℕ → List ℕ → List ℕ → ℕ → ℕ → List ℕ
names_in same t n k y l c = all_name_faults same t n k y l c ++ export_faults same t n y l (names_of same t n k y l c).uses

unfoldable pub name_faults : List ℕ → List ℕ → Outlined → List ℕ
name_faults s t o =
    names_in (same_text s t) t (length s) (skeleton_of o.rows (statements_in o.answer)) o.labels (labels_in o.answer) (statements_in o.answer)

-- 16, which has no place: n tokens, c statements, l labels, and so many bytes of data
unfoldable pub room_rule : Lent → ℕ → ℕ → ℕ → ℕ → ℕ
room_rule b n c l size = if_true (has_room b n c l size) none (key 0 16)

-- 7, 8, 9 and other 14; 10 to 13 and 17; 15; 16
unfoldable pub later_groups : Width → List ℕ → Lent → ℕ → List ℕ → Outlined → List (List ℕ)
later_groups w s b n t o =
    all_faults w t (length s)
    ∷ name_faults s t o
    ∷ (big_rule w t (length s) ∷ [])
    ∷ (room_rule b n (statements_in o.answer) (labels_in o.answer) (length_in (length_of w t)) ∷ [])
    ∷ []

-- all groups, in the check's order
unfoldable pub groups_of : Width → Hosts → List ℕ → Lent → List (List ℕ)
groups_of w h s b =
    (long_rule s ∷ [])
    ∷ lex_faults w s
    ∷ later_groups w s b (length (tokens_of w s)) (table_of w h s) (outlined w h s)

-- the least fault of the first group that has one, else the answer a
unfoldable pub judge : List (List ℕ) → Checked → Checked
judge [] a = a
judge (ks ∷ gs) a = if_lt (least_of ks) none (checked.refused (key_number (least_of ks)) (key_place (least_of ks))) (judge gs a)

-- the counts of a source
unfoldable pub counts_in : Width → ℕ → List ℕ → Parsed → Checked
counts_in w n t a = checked.accepted n (statements_in a) (labels_in a) (length_in (length_of w t))

unfoldable pub counts_of : Width → Hosts → List ℕ → Checked
counts_of w h s = counts_in w (length (tokens_of w s)) (table_of w h s) (outlined w h s).answer

-- no group of a list has a fault
abbrev pub AllClean : List (List ℕ) → Type 0
AllClean [] = Unit {0}
AllClean (ks ∷ gs) = Clean ks × AllClean gs

-- ---- "and the tables lent can hold it": 16

abbrev pub Holds : Width → Hosts → List ℕ → Lent → Type 0
Holds w h s b =
    has_room b (length (tokens_of w s)) (statements_in (outlined w h s).answer) (labels_in (outlined w h s).answer) (length_in (length_of w (table_of w h s)))
    ≡ true

abbrev pub is_accepted : Checked → Bool
is_accepted (Ok x) = true
is_accepted (Err r) = false
