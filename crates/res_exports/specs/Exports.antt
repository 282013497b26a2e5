-- "`export n`: the first data definition, group or function after it carries label n, with no `section` between; else 10 if no label is n, 11
-- if one is. Exporting n twice is as once." "An export stands before the first operand or target that means its label": else 17. Each at the
-- export's name. At an import's name: "10 for a name the host didn't list, no label then; 17 also for an import after use" (02, 3).
-- Assumes nothing.
use Rattle.std.specs.Prelude.{ℕ, zero, suc, ◌+◌, min, Bool, false, List, [], ◌∷◌, eqb, length, get_or, set}
use Rattle.std.specs.declared.ops.ControlFlow.{ControlFlow}
use Rattle.std.specs.declared.ops.ControlFlow.TheVariants.{Continue, Break}
use Rattle.base_prelude.specs.Choice.{if_lt, if_eq, if_true}
use Rattle.base_prelude.specs.Fault.{none}
use Rattle.base_prelude.specs.Lists.{zeros, is_among}
use Rattle.base_prelude.specs.Walk.{Step, go, stop, walk}
use Rattle.base_limits.specs.Limits as limits
use Rattle.lang_kinds.specs.Kinds as kind
use Rattle.parse_lines.specs.Tokens.{host_at, key_at}
use Rattle.parse_lines.specs.Units.{unit_at}
use Rattle.parse_lines.specs.Lines.{line_kind}
use Rattle.parse_lines.specs.declared.Span.{Span}
use Rattle.prog_tables.specs.Tests.{first_from}
use Rattle.res_scope.specs.Lines.{label_token}
use Rattle.res_scope.specs.Names.{label_of}
use Rattle.res_exports.specs.declared.Exports.{Exports}

-- ---- the definition behind an export

-- "data definition, group or function": `align`, exports and imports are passed over
abbrev pub definitions : List ℕ
definitions = kind.byte ∷ kind.word ∷ kind.string ∷ kind.group ∷ kind.function ∷ []

unfoldable pub is_definition : ℕ → Bool
is_definition k = is_among k definitions

-- the source's end, or a `section`
abbrev pub search_ends : List ℕ
search_ends = kind.edge ∷ kind.section_data ∷ kind.section_functions ∷ []

unfoldable pub ends_search : ℕ → Bool
ends_search k = is_among k search_ends

-- no unit: it has no labels
abbrev pub nowhere : Span
nowhere = record { first = 0; word = 0; next = 0 }

unfoldable pub seek_on : Span → ℕ → Step ℕ Span
seek_on u k = if_true (is_definition k) (stop u) (if_true (ends_search k) (stop nowhere) (go u.next))

unfoldable pub seek_step : List ℕ → ℕ → Step ℕ Span
seek_step t at = seek_on (unit_at t at) (line_kind t (unit_at t at).word)

-- what one step of the code's loop comes to
abbrev pub sought : ControlFlow Span ℕ → Step ℕ Span
sought (Continue at) = go at
sought (Break u) = stop u

-- the unit of the first definition from a token on, with no `section` between
unfoldable pub definition_from : List ℕ → ℕ → Span
definition_from t at = walk (seek_step t) nowhere (suc (length t)) at

-- ---- the rules

-- label j has the name of token i and stands from token `first` to before the magic word of a definition
unfoldable pub carries_label : (ℕ → ℕ → Bool) → List ℕ → ℕ → ℕ → ℕ → ℕ → Bool
carries_label same y first word i j =
    if_lt (label_token y j) first false
    (if_lt (label_token y j) word (same (label_token y j) i) false)

-- the label that is exported; l for none
unfoldable pub carried_by : (ℕ → ℕ → Bool) → List ℕ → ℕ → ℕ → ℕ → ℕ → ℕ
carried_by same y l first word i = first_from (carries_label same y first word i) l 0

-- 17: "export after use"; q is the first token that means the label, 0 for none
unfoldable pub use_fault : List ℕ → ℕ → ℕ → ℕ → ℕ
use_fault t n i q = if_eq q 0 none (if_lt q i (key_at t n i 17) none)

-- 10 and 11
unfoldable pub missing_fault : (ℕ → ℕ → Bool) → List ℕ → ℕ → List ℕ → ℕ → ℕ → ℕ
missing_fault same t n y l i = if_lt (label_of same y l i) l (key_at t n i 11) (key_at t n i 10)

-- the export whose name is token i and whose label is j
unfoldable pub export_fault : (ℕ → ℕ → Bool) → List ℕ → ℕ → List ℕ → ℕ → List ℕ → ℕ → ℕ → ℕ
export_fault same t n y l uses i j = if_lt j l (use_fault t n i (get_or uses j 0)) (missing_fault same t n y l i)

-- the label that stands at token i; l for none
unfoldable pub label_at_token : List ℕ → ℕ → ℕ → ℕ
label_at_token y l i = first_from (λ j. eqb (label_token y j) i) l 0

-- the import whose name is token i and whose label is j: "17 also for an import after use, at its name"
unfoldable pub import_use : List ℕ → ℕ → ℕ → List ℕ → ℕ → ℕ → ℕ
import_use t n l uses i j = if_lt j l (use_fault t n i (get_or uses j 0)) none

-- "10 for a name the host didn't list, no label then"
unfoldable pub import_fault : List ℕ → ℕ → List ℕ → ℕ → List ℕ → ℕ → ℕ
import_fault t n y l uses i = if_eq (host_at t i) 0 (key_at t n i 10) (import_use t n l uses i (label_at_token y l i))

-- ---- all exports and imports

-- the least fault, and for each label 1 where it is exported
pub record Exported : Type 0 where
  pub fault : ℕ
  pub flags : List ℕ

abbrev pub exported : ℕ → List ℕ → Exported
exported fault flags = record { fault = fault; flags = flags }

-- between two units, with the flags
pub record World : Type 0 where
  pub state : Exports
  pub flags : List ℕ

abbrev pub world : Exports → List ℕ → World
world s flags = record { state = s; flags = flags }

abbrev pub exports : ℕ → ℕ → Exports
exports at best = record { at = at; best = best }

unfoldable pub flagged : ℕ → ℕ → List ℕ → List ℕ
flagged l j flags = if_lt j l (if_lt j (length flags) (set flags j 1) flags) flags

-- the export whose name is token i, its label being j
unfoldable pub judged_by : (ℕ → ℕ → Bool) → List ℕ → ℕ → List ℕ → ℕ → List ℕ → ℕ → ℕ → Exported → Exported
judged_by same t n y l uses i j x = exported (min x.fault (export_fault same t n y l uses i j)) (flagged l j x.flags)

unfoldable pub import_judged : List ℕ → ℕ → List ℕ → ℕ → List ℕ → ℕ → Exported → Exported
import_judged t n y l uses i x = exported (min x.fault (import_fault t n y l uses i)) x.flags

-- the line whose unit is u
unfoldable pub export_part : (ℕ → ℕ → Bool) → List ℕ → ℕ → List ℕ → ℕ → List ℕ → Span → ℕ → Exported → Exported
export_part same t n y l uses u k x =
    if_eq k kind.export
    (judged_by same t n y l uses (u.word + 1) (carried_by same y l (definition_from t u.next).first (definition_from t u.next).word (u.word + 1)) x)
    (if_eq k kind.import_line (import_judged t n y l uses (u.word + 1) x) x)

unfoldable pub export_on : (ℕ → ℕ → Bool) → List ℕ → ℕ → List ℕ → ℕ → List ℕ → Span → ℕ → World → Step World Exported
export_on same t n y l uses u k x =
    if_eq k kind.edge (stop (exported x.state.best x.flags))
    (go
    (world (exports u.next (export_part same t n y l uses u k (exported x.state.best x.flags)).fault)
    (export_part same t n y l uses u k (exported x.state.best x.flags)).flags))

unfoldable pub export_step : (ℕ → ℕ → Bool) → List ℕ → ℕ → List ℕ → ℕ → List ℕ → World → Step World Exported
export_step same t n y l uses x =
    export_on same t n y l uses (unit_at t x.state.at) (line_kind t (unit_at t x.state.at).word) x

-- what one step of the code's loop comes to
abbrev pub going : ControlFlow ℕ Exports → List ℕ → Step World Exported
going (Continue s) flags = go (world s flags)
going (Break best) flags = stop (exported best flags)

unfoldable pub exports_from : (ℕ → ℕ → Bool) → List ℕ → ℕ → List ℕ → ℕ → List ℕ → World → Exported
exports_from same t n y l uses x = walk (export_step same t n y l uses) (exported none []) (suc (length t)) x

-- the exports and imports of the tokens t of a source of n bytes with l label rows y; `uses` has the first token that means each label
unfoldable pub exports_of : (ℕ → ℕ → Bool) → List ℕ → ℕ → List ℕ → ℕ → List ℕ → Exported
exports_of same t n y l uses = exports_from same t n y l uses (world (exports 0 none) (zeros limits.labels))

-- ---- which labels are exported

-- the label that the first definition behind an export's line carries; l for none
unfoldable pub carried_in : (ℕ → ℕ → Bool) → List ℕ → List ℕ → ℕ → Span → ℕ
carried_in same t y l u = carried_by same y l (definition_from t u.next).first (definition_from t u.next).word (u.word + 1)

-- those of the exports among so many lines from a token on
unfoldable pub exported_from : ℕ → (ℕ → ℕ → Bool) → List ℕ → List ℕ → ℕ → ℕ → List ℕ
exported_from zero same t y l at = []
exported_from (suc left) same t y l at =
    if_eq (line_kind t (unit_at t at).word) kind.edge []
    (if_eq (line_kind t (unit_at t at).word) kind.export (carried_in same t y l (unit_at t at) ∷ exported_from left same t y l (unit_at t at).next)
    (exported_from left same t y l (unit_at t at).next))

-- label j is exported: an export's definition carries it
unfoldable pub is_exported : (ℕ → ℕ → Bool) → List ℕ → List ℕ → ℕ → ℕ → Bool
is_exported same t y l j = is_among j (exported_from (suc (length t)) same t y l 0)
