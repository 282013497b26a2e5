-- Definitions at small numbers.
-- Assumes nothing.
use mathlib.Core.Path.{◌≡◌, refl}
use mathlib.Core.List.{List, [], ◌∷◌}
use Prim.Native.Nat.{ℕ}
use Rattle.base_prelude.specs.Choice.{if_lt, if_eq, if_true}
use Rattle.base_prelude.specs.Fault.{none, key}
use Rattle.base_limits.specs.Limits as limits
use Rattle.lang_kinds.specs.Kinds as kind
use Rattle.lang_kinds.specs.Grounds as ground
use Rattle.lang_kinds.specs.Tokens as token
use Rattle.lang_words.specs.Numbers as word
use Rattle.parse_lines.specs.Tokens.{token_word, place_at, key_at}
use Rattle.parse_lines.specs.declared.Span.{Span}
use Rattle.parse_shapes.specs.Shapes.{is_name}
use Rattle.parse_rules.specs.Rules.{label_limit}
use Rattle.parse_units.specs.Places.{line_on, import_labels, import_rule}
use Rattle.parse_units.specs.Parse.{locals_behind, depth_behind}

-- `end block` of a block before which two locals were in scope, and three lets in it
closed_block : locals_behind kind.end_block 1 2 5 ≡ 2
unfolding locals_behind if_eq
closed_block = refl

-- `end block` in a block in a block
closed-depth : depth_behind kind.end_block 2 ≡ 1
unfolding depth_behind if_eq
closed-depth = refl

-- `import` between functions, in data, in a function
taken-between : line_on ground.functions_section kind.import_line ≡ kind.import_line
unfolding line_on if_eq
taken-between = refl

left-in-data : line_on ground.data_section kind.import_line ≡ kind.left_out
unfolding line_on if_eq
left-in-data = refl

left-in-function : line_on ground.in_function kind.import_line ≡ kind.left_out
unfolding line_on if_eq
left-in-function = refl

-- the tokens of `import bath`, the name with a mark m
bath : ℕ → List ℕ
bath m =
    token.symbol ∷ 0 ∷ 6 ∷ 6 ∷ 0 ∷ word.import ∷ 0 ∷ 0
    ∷ token.symbol ∷ 7 ∷ 11 ∷ 4 ∷ 1 ∷ 0 ∷ 0 ∷ m ∷ []

bath-line : Span
bath-line = record { first = 0; word = 0; next = 2 }

-- a listed name is a label, one that is not listed is none
listed-name : import_labels (bath 2) bath-line kind.import_line ≡ 1
unfolding import_labels is_name token_word if_eq if_true bath bath-line
listed-name = refl

unlisted-name : import_labels (bath 0) bath-line kind.import_line ≡ 0
unfolding import_labels is_name token_word if_eq if_true bath bath-line
unlisted-name = refl

-- behind 255 labels and behind 256: 14 at the name
last-label : import_rule (bath 2) 11 bath-line kind.import_line 255 ≡ none
unfolding import_rule label_limit import_labels is_name place_at key_at token_word if_lt if_eq if_true bath bath-line
last-label = refl

one-label-more : import_rule (bath 2) 11 bath-line kind.import_line limits.labels ≡ key 7 14
unfolding import_rule label_limit import_labels is_name place_at key_at token_word if_lt if_eq if_true bath bath-line
one-label-more = refl
