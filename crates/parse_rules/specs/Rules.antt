-- The rules of 'Tokens to statements' that need no state: each gives the least fault it finds, or none.
-- Assumes nothing.
use Rattle.std.specs.Prelude.{ℕ, zero, suc, ◌+◌, ◌-◌, min, Bool, true, false, List}
use Rattle.base_prelude.specs.Choice.{if_lt, if_eq, if_true}
use Rattle.base_prelude.specs.Fault.{none}
use Rattle.base_limits.specs.Limits as limits
use Rattle.base_limits.specs.declared.Width.{Width}
use Rattle.lang_kinds.specs.Kinds as kind
use Rattle.lang_kinds.specs.Tokens as token
use Rattle.lang_words.specs.Numbers as word
use Rattle.lang_words.specs.Substitutes as substitute
use Rattle.lang_words.specs.Words.{most_operands}
use Rattle.parse_lines.specs.Tokens.{kind_at, word_at, key_at}
use Rattle.parse_shapes.specs.Shapes.{is_name, is_operator, is_listed, shape_fits, shape_of, Shape, Bare, Closing, Names, Name, Integer, OptionalInteger, String, Operands, Test, Call, OptionalExpression, NameAndExpression, AddressAndExpression, NoShape}
use Rattle.parse_lines.specs.declared.Span.{Span}
use Rattle.parse_rules.specs.declared.Labelled.{Labelled}

-- 7: "word or shape unknown: magic word"
unfoldable pub shape_rule : Width → List ℕ → ℕ → Span → ℕ → ℕ
shape_rule w t n u k =
    if_eq k kind.edge none
    (if_eq k kind.left_out none
    (if_eq k kind.unknown (key_at t n u.word 7)
    (if_true (shape_fits w t u k) none (key_at t n u.word 7))))

-- 9: "left out", in any shape and place
unfoldable pub left_rule : List ℕ → ℕ → Span → ℕ → ℕ
left_rule t n u k = if_eq k kind.left_out (key_at t n u.word 9) none

-- the first token of an expression is an operator or `call`, and no name
unfoldable pub is_head : List ℕ → ℕ → Bool
is_head t i = if_true (is_name t i) (if_eq (word_at t i) word.call true (is_operator (word_at t i))) false

unfoldable pub head_at : List ℕ → ℕ → ℕ
head_at t i = if_true (is_head t i) i 0

-- the token of a line that is a reserved word in its own place, by the line's shape; 0 where none is
unfoldable pub own_in : List ℕ → Span → Shape → ℕ
own_in t u Bare = 0
own_in t u Closing = u.word + 1
own_in t u Names = 0
own_in t u Name = 0
own_in t u Integer = 0
own_in t u OptionalInteger = 0
own_in t u String = 0
own_in t u Operands = 0
own_in t u Test = u.word + 1
own_in t u Call = 0
own_in t u OptionalExpression = head_at t (u.word + 1)
own_in t u NameAndExpression = head_at t (u.word + 2)
own_in t u AddressAndExpression = head_at t (u.word + 2)
own_in t u NoShape = 0

unfoldable pub own_word : List ℕ → Span → ℕ → ℕ
own_word t u k = own_in t u (shape_of k)

-- 8: "as a name each is refusal 8, at it"
unfoldable pub name_key : List ℕ → ℕ → ℕ → ℕ → ℕ
name_key t n own i = if_eq i own none (if_lt (word_at t i) word.section none (if_lt (word_at t i) word.past_words (key_at t n i 8) none))

-- "any other substitute is refusal 7, the one left out 9, each at it"
unfoldable pub substitute_key : List ℕ → ℕ → ℕ → ℕ
substitute_key t n i =
    if_eq (word_at t i) substitute.bits_per_word none
    (if_eq (word_at t i) substitute.bytes_per_word none
    (if_eq (word_at t i) substitute.saved_frame_size (key_at t n i 9)
    (key_at t n i 7)))

unfoldable pub token_key : List ℕ → ℕ → ℕ → ℕ → ℕ
token_key t n own i =
    if_eq (kind_at t i) token.symbol (name_key t n own i)
    (if_eq (kind_at t i) token.at_symbol (name_key t n own i)
    (if_eq (kind_at t i) token.substitute (substitute_key t n i)
    (if_eq (kind_at t i) token.at_substitute (substitute_key t n i)
    none)))

-- the least over so many tokens from i on
unfoldable pub tokens_least : ℕ → List ℕ → ℕ → ℕ → ℕ → ℕ
tokens_least zero t n own i = none
tokens_least (suc left) t n own i = min (token_key t n own i) (tokens_least left t n own (i + 1))

unfoldable pub tokens_rule : List ℕ → ℕ → Span → ℕ → ℕ
tokens_rule t n u k = tokens_least (u.next - (u.word + 1)) t n (own_word t u k) (u.word + 1)

-- 14: "token (as a 9th argument)": the first one past the word's most operands
unfoldable pub past_most : List ℕ → ℕ → ℕ → ℕ → ℕ
past_most t n i next = if_lt i next (key_at t n i 14) none

unfoldable pub list_rule : List ℕ → ℕ → Span → ℕ → ℕ
list_rule t n u k = if_true (is_listed k) (past_most t n (u.word + 1 + most_operands (word_at t u.word)) u.next) none

-- 8 at a label whose name is reserved
unfoldable pub reserved_label : List ℕ → ℕ → ℕ → ℕ
reserved_label t n i = if_lt (word_at t i) word.section none (if_lt (word_at t i) word.past_words (key_at t n i 8) none)

-- 14 at the 257th label
unfoldable pub label_limit : List ℕ → ℕ → ℕ → ℕ → ℕ
label_limit t n i c = if_lt c limits.labels none (key_at t n i 14)

unfoldable pub label_key : List ℕ → ℕ → ℕ → ℕ → ℕ
label_key t n i c = min (reserved_label t n i) (label_limit t n i c)

abbrev pub labelled : ℕ → ℕ → Labelled
labelled fault count = record { fault = fault; count = count }

-- one token of those before the magic word: a label counts, a newline does not
unfoldable pub label_step : List ℕ → ℕ → ℕ → Labelled → Labelled
label_step t n i x = if_eq (kind_at t i) token.label (labelled (min x.fault (label_key t n i x.count)) (x.count + 1)) x

unfoldable pub labels_from : ℕ → List ℕ → ℕ → ℕ → Labelled → Labelled
labels_from zero t n i x = x
labels_from (suc left) t n i x = labels_from left t n (i + 1) (label_step t n i x)

-- the labels of a unit, c labels standing before it
unfoldable pub labels_rule : List ℕ → ℕ → Span → ℕ → Labelled
labels_rule t n u c = labels_from (u.word - u.first) t n u.first (labelled none c)
