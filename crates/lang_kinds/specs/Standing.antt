-- Which lines may stand where: for each ground the kinds of lines that it takes (01, 'Tokens to statements'). What a ground does not
-- list is refusal 8 there.
-- Assumes nothing.
use Rattle.std.specs.Prelude.{ℕ, Bool, List, [], ◌∷◌, ◌++◌}
use Rattle.base_prelude.specs.Choice.{if_eq}
use Rattle.base_prelude.specs.Lists.{is_among}
use Rattle.lang_kinds.specs.Kinds as kind
use Rattle.lang_kinds.specs.Grounds as ground

-- what a line stands in: with nothing open a section, else what is open innermost
pub data Ground : Type 0 where
  BeforeSections FunctionsSection DataSection Group InFunction InBlock InTestArm InElseArm : Ground
  -- no ground has this number
  NoGround : Ground

-- the ground with a number of specs/Grounds
unfoldable pub ground_numbered : ℕ → Ground
ground_numbered g =
    if_eq g ground.before_sections BeforeSections
    (if_eq g ground.functions_section FunctionsSection
    (if_eq g ground.data_section DataSection
    (if_eq g ground.group Group
    (if_eq g ground.in_function InFunction
    (if_eq g ground.in_block InBlock
    (if_eq g ground.in_test_arm InTestArm
    (if_eq g ground.in_else_arm InElseArm
    NoGround)))))))

-- with nothing open the source may end, and a section begin: "8 at source end if something is open"
abbrev pub nothing_open : List ℕ
nothing_open = kind.edge ∷ kind.section_data ∷ kind.section_functions ∷ []

-- "Data (`byte`, `word`, `string`, `group`, `align`) stands in data"; groups "hold the other four"
abbrev pub data_lines : List ℕ
data_lines = kind.byte ∷ kind.word ∷ kind.string ∷ kind.align ∷ []

-- the statements that stand in a function, a block and an `if`
abbrev pub body_lines : List ℕ
body_lines =
    kind.block ∷
    kind.set ∷
    kind.set_at ∷
    kind.set_byte ∷
    kind.set_word ∷
    kind.goto ∷
    kind.call ∷
    kind.tail_call ∷
    kind.return ∷
    kind.ifeq ∷
    kind.ifge ∷
    kind.ifgt ∷
    kind.ifle ∷
    kind.iflt ∷
    kind.ifne ∷
    []

-- refused by 9 and 7 wherever they stand, and by 8 nowhere
abbrev pub refused_else : List ℕ
refused_else = kind.left_out ∷ kind.unknown ∷ []

unfoldable pub lines_on : Ground → List ℕ
-- "Before the first `section` only blank lines and comments stand."
lines_on BeforeSections = nothing_open ++ refused_else
-- "functions in functions"; `align` "does nothing between functions"; "`import` between functions is taken"
lines_on FunctionsSection = kind.function ∷ kind.align ∷ kind.export ∷ kind.import_line ∷ nothing_open ++ refused_else
lines_on DataSection = kind.group ∷ data_lines ++ kind.export ∷ nothing_open ++ refused_else
-- "groups do not nest"
lines_on Group = kind.end_group ∷ data_lines ++ refused_else
-- "`let` stands in a function or block and in no `if` inside that frame"
lines_on InFunction = kind.end_function ∷ kind.let_local ∷ body_lines ++ refused_else
lines_on InBlock = kind.end_block ∷ kind.let_local ∷ body_lines ++ refused_else
lines_on InTestArm = kind.end_if ∷ kind.else ∷ kind.else_if ∷ body_lines ++ refused_else
-- behind a bare `else` no second one
lines_on InElseArm = kind.end_if ∷ body_lines ++ refused_else
lines_on NoGround = []

-- a line of kind k may stand on the ground with number g
unfoldable pub stands_on : ℕ → ℕ → Bool
stands_on g k = is_among k (lines_on (ground_numbered g))
