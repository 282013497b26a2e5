use Rattle.base_prelude.proofs.Choice.{tests}
use Rattle.lex_spelling.specs.Classes.{is_blank, is_separator, is_digit, is_letter}
use Rattle.lex_spelling.specs.Escape.{hex_of, plain_of}
use Rattle.lex_spelling.specs.Text.{in_string}
use Rattle.lex_spelling.proofs.plain.Goals as goal

pub returns-in-92 : goal.returns-in-92
unfolding is_blank is_separator is_digit is_letter hex_of plain_of in_string
returns-in-92 c =
    search tests depth 16

pub returns-in-34 : goal.returns-in-34
unfolding is_blank is_separator is_digit is_letter hex_of plain_of in_string
returns-in-34 c =
    search tests depth 16

pub returns-in-110 : goal.returns-in-110
unfolding is_blank is_separator is_digit is_letter hex_of plain_of in_string
returns-in-110 c =
    search tests depth 16

pub returns-in-114 : goal.returns-in-114
unfolding is_blank is_separator is_digit is_letter hex_of plain_of in_string
returns-in-114 c =
    search tests depth 16

pub returns-in-116 : goal.returns-in-116
unfolding is_blank is_separator is_digit is_letter hex_of plain_of in_string
returns-in-116 c =
    search tests depth 16

pub returns-in-32 : goal.returns-in-32
unfolding is_blank is_separator is_digit is_letter hex_of plain_of in_string
returns-in-32 c =
    search tests depth 16

pub returns-in_default : goal.returns-in_default
unfolding is_blank is_separator is_digit is_letter hex_of plain_of in_string
returns-in_default c =
    search tests depth 16
