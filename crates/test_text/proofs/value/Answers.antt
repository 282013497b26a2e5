use Rattle.test_text.proofs.Cases.{values, sign-within}
use Rattle.std.proofs.Common.{rules}
use Rattle.test_text.proofs.value.Goals as goal

pub slice_bounds-field-count : goal.slice_bounds-field-count
slice_bounds-field-count c =
    search (sign-within, rules)

pub slice_bounds-field-start : goal.slice_bounds-field-start
slice_bounds-field-start c =
    search (sign-within, rules)

pub returns-then-c-eq45 : goal.returns-then-c-eq45
returns-then-c-eq45 c =
    search values

pub returns : goal.returns
returns c =
    search values
