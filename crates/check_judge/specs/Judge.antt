-- Every rule but 16: "Check order: 1; 2 to 6 with 14 for tokens; 7, 8, 9 and other 14; 10 to 13 and 17; 15; 16. In each group the lowest place,
-- then the lowest number." A group that finds no fault hands on to the next; none sees how long the lent buffers are.
-- Assumes nothing.
use Rattle.std.specs.Prelude.{ℕ, min, Bool, List, length}
use Rattle.base_prelude.specs.Choice.{if_lt}
use Rattle.base_prelude.specs.Fault.{none, key_number, key_place}
use Rattle.base_limits.specs.declared.Width.{Width}
use Rattle.lex_source.specs.Token.{Token}
use Rattle.lex_source.specs.Lex.{Outcome, accepted, refused, lex_of}
use Rattle.lex_source.specs.Rows.{token_table}
use Rattle.prog_tables.specs.Hosts.{Hosts}
use Rattle.parse_lines.specs.Tokens.{place_at}
use Rattle.parse_outline.specs.Outline.{outline_of}
use Rattle.parse_outline.specs.Parsed.{Parsed}
use Rattle.res_skeleton.specs.Skeleton.{skeleton_of}
use Rattle.res_names.specs.Naming.{Naming, names_of}
use Rattle.res_exports.specs.Exports.{Exported, exported, exports_of}
use Rattle.res_data.specs.Sizes.{length_of}
use Rattle.std.specs.Prelude.{Result, Ok, Err}
use Rattle.res_text.specs.Same.{same_text}
use Rattle.res_hosts.specs.Marks.{hosted_tokens}

-- what is known of a source without a fault
pub record Known : Type 0 where
  -- n tokens in the table t
  pub n : ℕ
  pub t : List ℕ
  -- c statements in the skeleton k
  pub c : ℕ
  pub k : List ℕ
  -- l labels in the label rows y
  pub l : ℕ
  pub y : List ℕ
  -- 1 for each label that is exported
  pub flags : List ℕ

abbrev pub known : ℕ → List ℕ → ℕ → List ℕ → ℕ → List ℕ → List ℕ → Known
known n t c k l y flags = record { n = n; t = t; c = c; k = k; l = l; y = y; flags = flags }

-- a refusal with its number and place; or what is known of the source, and its bytes of data
pub data Judged : Type 0 where
  refusal : ℕ → ℕ → Judged
  fine : Known → ℕ → Judged

-- ---- the groups, last to first; m is the number of the source's bytes, `same` says whether two tokens have one name

-- 15
unfoldable pub size_group : ℕ → Known → Result ℕ ℕ → Judged
size_group m p (Ok size) = fine p size
size_group m p (Err i) = refusal 15 (place_at p.t m i)

-- 10 to 13 and 17: the least fault of all names, and which labels are exported
unfoldable pub names_with : (ℕ → ℕ → Bool) → List ℕ → ℕ → List ℕ → ℕ → Naming → Exported
names_with same t m y l a =
    exported (min a.fault (exports_of same t m y l a.uses).fault) (exports_of same t m y l a.uses).flags

unfoldable pub names_judged : (ℕ → ℕ → Bool) → List ℕ → ℕ → List ℕ → List ℕ → ℕ → ℕ → Exported
names_judged same t m k y l c = names_with same t m y l (names_of same t m k y l c)

unfoldable pub fault_group : Width → ℕ → ℕ → List ℕ → ℕ → List ℕ → ℕ → List ℕ → Exported → Judged
fault_group w m n t c k l y e =
    if_lt e.fault none (refusal (key_number e.fault) (key_place e.fault)) (size_group m (known n t c k l y e.flags) (length_of w t))

unfoldable pub name_group : Width → (ℕ → ℕ → Bool) → ℕ → ℕ → List ℕ → ℕ → List ℕ → ℕ → List ℕ → Judged
name_group w same m n t c k l y = fault_group w m n t c k l y (names_judged same t m k y l c)

-- 7, 8, 9 and other 14
unfoldable pub outline_group : Width → (ℕ → ℕ → Bool) → ℕ → ℕ → List ℕ → Parsed → List ℕ → List ℕ → Judged
outline_group w same m n t (Ok o) x y = name_group w same m n t o.statements (skeleton_of x o.statements) o.labels y
outline_group w same m n t (Err r) x y = refusal r.number r.place

unfoldable pub line_group : Width → (ℕ → ℕ → Bool) → ℕ → ℕ → List ℕ → Judged
line_group w same m n t = outline_group w same m n t (outline_of w t m).answer (outline_of w t m).rows (outline_of w t m).labels

-- the table of the tokens of a source, the names of its imports marked against the host's list
abbrev pub hosted_table : Hosts → List ℕ → List Token → List ℕ
hosted_table h s ts = hosted_tokens h s (length ts) (token_table ts)

-- 1; 2 to 6 with 14 for tokens
unfoldable pub token_group : Width → Hosts → List ℕ → Outcome → Judged
token_group w h s (accepted ts) = line_group w (same_text s (hosted_table h s ts)) (length s) (length ts) (hosted_table h s ts)
token_group w h s (refused k) = refusal (key_number k) (key_place k)

-- the source s, against the host's list h
unfoldable pub judge_of : Width → Hosts → List ℕ → Judged
judge_of w h s = token_group w h s (lex_of w s)
