use Rattle.lex_lexeme.proofs.Digits.{digiting, digit_low}
use borrow.Author.Rules.{rules}
use Rattle.lex_lexeme.proofs.digit_from.Goals as goal

pub overflow_sub-result : goal.overflow_sub-result
overflow_sub-result c =
    search (digit_low, rules)

pub returns-then-is_digit : goal.returns-then-is_digit
returns-then-is_digit c =
    search digiting

pub returns : goal.returns
returns c =
    search digiting
