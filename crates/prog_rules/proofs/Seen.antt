-- The rules of a row look at no name of a label: they are the same of the program that tables hold.
-- Assumes nothing.
use mathlib.Core.Path.{◌≡◌, refl}
use Prim.Native.Nat.{ℕ}
use Rattle.base_limits.specs.declared.Width.{Width}
use Rattle.prog_tables.specs.Tests.{all_below}
use Rattle.prog_tables.specs.Label.{Tables, label_at}
use Rattle.prog_tables.specs.Program.{program_from, lent_program}
use Rattle.prog_tables.specs.WellFormed.{labelled, jumps, function_calls, import_calls, calls, forward_calls}
use Rattle.prog_rules.specs.Rules.{rule_tests, ruled}

module _ (w : Width) (t : Tables) where
  pub rules-seen : (n : ℕ) → ruled (lent_program t.statements t.count t.labels t.label_count t.data_length) n ≡ ruled (program_from w t) n
  unfolding rule_tests jumps calls function_calls import_calls forward_calls labelled label_at
  rules-seen n = refl

  pub all_seen : (c : ℕ) → all_below (ruled (lent_program t.statements t.count t.labels t.label_count t.data_length)) c ≡ all_below (ruled (program_from w t)) c
  unfolding rule_tests jumps calls function_calls import_calls forward_calls labelled label_at
  all_seen c = refl
