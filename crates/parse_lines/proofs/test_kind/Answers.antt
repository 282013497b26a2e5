use Rattle.base_prelude.proofs.Choice.{tests}
use borrow.Author.Rules.{rules}
use Rattle.parse_lines.specs.Lines.{test_kind}
use Rattle.parse_lines.proofs.test_kind.Goals as goal

pub returns-then-w-lt-ADD : goal.returns-then-w-lt-ADD
unfolding test_kind
returns-then-w-lt-ADD c =
    search (tests, rules) depth 16

pub returns : goal.returns
unfolding test_kind
returns c =
    search (tests, rules) depth 16
