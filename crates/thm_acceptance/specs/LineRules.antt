-- The rules of 'Tokens to statements' on one line x, where the lines `before` stand before it, the latest first. t the tokens of a
-- source of n bytes.
-- Assumes nothing.
use Rattle.std.specs.Prelude.{ℕ, ◌+◌, ◌≤◌, ◌<◌, ◌≡◌, Bool, true, false, List, [], ◌∷◌, ltb}
use Rattle.base_prelude.specs.Choice.{if_lt}
use Rattle.base_prelude.specs.Fault.{none}
use Rattle.base_prelude.specs.Lists.{is_among}
use Rattle.base_limits.specs.Limits as limits
use Rattle.base_limits.specs.declared.Width.{Width}
use Rattle.lang_kinds.specs.Kinds as kind
use Rattle.lang_kinds.specs.Grounds as ground
use Rattle.lang_kinds.specs.Tokens as token
use Rattle.lang_kinds.specs.Nesting.{rows_of}
use Rattle.lang_kinds.specs.Standing.{stands_on}
use Rattle.lang_words.specs.Numbers as word
use Rattle.lang_words.specs.Substitutes as substitute
use Rattle.lang_words.specs.Words.{most_operands}
use Rattle.parse_lines.specs.Tokens.{kind_at, word_at}
use Rattle.parse_shapes.specs.Shapes.{operand_count, is_listed, shape_fits}
use Rattle.parse_rules.specs.Rules.{own_word}
use Rattle.parse_units.specs.Places.{may_label}
use Rattle.thm_acceptance.specs.Lines.{Line, statements_before, labels_before, labels_on, label_count, open_before, locals_in, blocks_in, ground_before, kind_on}

-- a rule finds nothing
abbrev pub Silent : ℕ → Type 0
Silent key = none ≤ key

-- "The magic words and operators of 000 and 001, `end`, `else`, `if` and those left out are reserved"
unfoldable pub is_reserved : ℕ → Bool
is_reserved w = if_lt w word.section false (ltb w word.past_words)

-- what holds of the tokens of some kinds behind a line's magic word
abbrev pub Operands : List ℕ → List ℕ → (ℕ → Type 0) → Line → Type 0
Operands t kinds P x = (i : ℕ) → x.unit.word < i → i < x.unit.next → is_among (kind_at t i) kinds ≡ true → P i

-- names, `@` before them or not
abbrev pub names : List ℕ
names = token.symbol ∷ token.at_symbol ∷ []

-- the two that are integers, and the one left out
abbrev pub known_substitutes : List ℕ
known_substitutes = substitute.bits_per_word ∷ substitute.bytes_per_word ∷ substitute.saved_frame_size ∷ []

abbrev pub substitutes : List ℕ
substitutes = token.substitute ∷ token.at_substitute ∷ []

module _ (w : Width) (t : List ℕ) where
  -- 7: "word or shape unknown: magic word", and "Out of range here is refusal 7"; what is left out is 9 in any shape
  abbrev pub Shaped : List Line → Line → Type 0
  Shaped before x = is_among (kind_on t before x) (kind.edge ∷ kind.left_out ∷ []) ≡ false → shape_fits w t x.unit (kind_on t before x) ≡ true

  -- 7: "any other substitute is refusal 7"
  abbrev pub SubstitutesKnown : List Line → Line → Type 0
  SubstitutesKnown before x =
      Operands t substitutes (λ i. is_among (word_at t i) known_substitutes ≡ true) x

  -- 8: reserved words, "as a name each is refusal 8, at it"; a line's own word is no name
  abbrev pub NamesFree : List Line → Line → Type 0
  NamesFree before x = Operands t names (λ i. (i ≡ own_word t x.unit x.kind → ⊥) → is_reserved (word_at t i) ≡ false) x

  -- 8: "not allowed here: magic word"; "8 at source end if something is open"
  abbrev pub Placed : List Line → Line → Type 0
  Placed before x = stands_on (ground_before t before) (kind_on t before x) ≡ true

  -- 8: "A label names a data definition, group or `align` in data, a function in functions, or a statement inside a function ..;
  -- else, or at the source's end, refusal 8 at it"
  abbrev pub MayBeLabelled : List Line → Line → Type 0
  MayBeLabelled before x =
      kind_at t x.unit.first ≡ token.label
      → may_label (ground_before t before) (kind_at t x.unit.word) (word_at t x.unit.word) ≡ true

  -- 8: the name of a label is no reserved word
  abbrev pub LabelsFree : List Line → Line → Type 0
  LabelsFree before x = (i : ℕ) → x.unit.first ≤ i → i < x.unit.word → kind_at t i ≡ token.label → is_reserved (word_at t i) ≡ false

  -- 9: "left out", in any shape and place
  abbrev pub NotLeftOut : List Line → Line → Type 0
  NotLeftOut before x = x.kind ≡ kind.left_out → ⊥

  -- 9: "`import` between functions is taken", "9 no longer for that `import`" (02, 3): in the section of functions, outside a function
  abbrev pub ImportBetween : List Line → Line → Type 0
  ImportBetween before x = x.kind ≡ kind.import_line → ground_before t before ≡ ground.functions_section

  -- 9: "`%saved-frame-size`"
  abbrev pub NoFrameSize : List Line → Line → Type 0
  NoFrameSize before x = Operands t substitutes (λ i. word_at t i ≡ substitute.saved_frame_size → ⊥) x

  -- 14: "statements 1,024"
  abbrev pub FewStatements : List Line → Line → Type 0
  FewStatements before x = statements_before before + rows_of x.kind ≤ limits.statements

  -- 14: "labels 256"
  abbrev pub FewLabels : List Line → Line → Type 0
  FewLabels before x = labels_before t before + labels_on t x ≤ limits.labels

  -- 14, at the name of an import: "Imported names count as labels in the one space" (02, 3)
  abbrev pub FewImports : List Line → Line → Type 0
  FewImports before x = x.kind ≡ kind.import_line → labels_before t before + label_count t x ≤ limits.labels

  -- 14: "locals in scope 64, parameters and shadowed ones included"
  abbrev pub FewLocals : List Line → Line → Type 0
  FewLocals before x = x.kind ≡ kind.let_local → locals_in (open_before t before) < limits.locals

  -- 14: "blocks nested 16 deep"
  abbrev pub FewBlocks : List Line → Line → Type 0
  FewBlocks before x = x.kind ≡ kind.block → blocks_in (open_before t before) < limits.block_depth

  -- 14: "parameters and arguments 8": "token (as a 9th argument)". The word list has the most that may follow each word
  abbrev pub FewArguments : List Line → Line → Type 0
  FewArguments before x = is_listed x.kind ≡ true → operand_count x.unit ≤ most_operands (word_at t x.unit.word)
