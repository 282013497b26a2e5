-- The state of a case, and one part of it set.
-- Assumes nothing.
use Rattle.std.specs.Prelude.{ℕ, Bool, true, false, List, Option, None, Some}
use Rattle.base_prelude.specs.Choice.{if_eq}
use Rattle.base_limits.specs.declared.Machine.{Machine}
use Rattle.base_limits.specs.Record.{fresh_of}
use Rattle.test_lines.specs.Lines.{one_more}
use Rattle.test_lines.specs.Sources.{Source}
use Rattle.test_state.specs.declared.Fault.{Fault}
use Rattle.test_state.specs.declared.Fault.TheVariants.{BadLine, NoAnswer, Differs}
use Rattle.test_state.specs.declared.Lent.{Lent}
use Rattle.test_state.specs.declared.Progress.{Progress}

-- a progress, and the one buffer that a line changes
abbrev pub On : Type 0
On = record { progress : Progress; buffer : List ℕ }

abbrev pub on : Progress → List ℕ → On
on progress buffer = record { progress = progress; buffer = buffer }

-- all of each table, and 64 of stack and memory
unfoldable pub all_lent : Lent
all_lent = record { statements = 27648; labels = 1024; names = 16384; bytes = 32768; stack = 64; memory = 64 }

-- before the first case
unfoldable pub first_of : Progress
first_of =
    record {
      line = 0;
      cases = 0;
      differ = 0;
      name = 0;
      size = 0;
      is_body = false;
      is_checked = false;
      is_wrong = false;
      given = 0;
      told = 0;
      fault = None;
      shown = 0;
      lent = all_lent;
      counts = record { statements = 0; labels = 0; bytes = 0 };
      machine = fresh_of 0 0 0;
    }

-- a case whose name stands at a place
unfoldable pub opened_of : Progress → ℕ → Progress
opened_of q name =
    record {
      line = q.line;
      cases = one_more q.cases;
      differ = q.differ;
      name = name;
      size = 0;
      is_body = false;
      is_checked = false;
      is_wrong = false;
      given = 0;
      told = 0;
      fault = None;
      shown = 0;
      lent = all_lent;
      counts = record { statements = 0; labels = 0; bytes = 0 };
      machine = fresh_of 0 0 0;
    }

-- the fault of a number: none, a bad line, no answer; any other is a difference
unfoldable pub fault_of : ℕ → Option Fault
fault_of n = if_eq n 0 None (if_eq n 1 (Some BadLine) (if_eq n 2 (Some NoAnswer) (Some Differs)))

unfoldable pub numbered_of : Progress → ℕ → Progress
numbered_of q number =
    record {
      line = q.line;
      cases = q.cases;
      differ = q.differ;
      name = q.name;
      size = q.size;
      is_body = q.is_body;
      is_checked = q.is_checked;
      is_wrong = q.is_wrong;
      given = q.given;
      told = q.told;
      fault = fault_of number;
      shown = q.shown;
      lent = q.lent;
      counts = q.counts;
      machine = q.machine;
    }

unfoldable pub failed_of : Progress → Fault → Progress
failed_of q fault =
    record {
      line = q.line;
      cases = q.cases;
      differ = q.differ;
      name = q.name;
      size = q.size;
      is_body = q.is_body;
      is_checked = q.is_checked;
      is_wrong = q.is_wrong;
      given = q.given;
      told = q.told;
      fault = Some fault;
      shown = q.shown;
      lent = q.lent;
      counts = q.counts;
      machine = q.machine;
    }

unfoldable pub sized_of : Progress → ℕ → Progress
sized_of q size =
    record {
      line = q.line;
      cases = q.cases;
      differ = q.differ;
      name = q.name;
      size = size;
      is_body = q.is_body;
      is_checked = q.is_checked;
      is_wrong = q.is_wrong;
      given = q.given;
      told = q.told;
      fault = q.fault;
      shown = q.shown;
      lent = q.lent;
      counts = q.counts;
      machine = q.machine;
    }

unfoldable pub bodied_of : Progress → Bool → Progress
bodied_of q body =
    record {
      line = q.line;
      cases = q.cases;
      differ = q.differ;
      name = q.name;
      size = q.size;
      is_body = body;
      is_checked = q.is_checked;
      is_wrong = q.is_wrong;
      given = q.given;
      told = q.told;
      fault = q.fault;
      shown = q.shown;
      lent = q.lent;
      counts = q.counts;
      machine = q.machine;
    }

unfoldable pub checked_of : Progress → Progress
checked_of q =
    record {
      line = q.line;
      cases = q.cases;
      differ = q.differ;
      name = q.name;
      size = q.size;
      is_body = q.is_body;
      is_checked = true;
      is_wrong = q.is_wrong;
      given = q.given;
      told = q.told;
      fault = q.fault;
      shown = q.shown;
      lent = q.lent;
      counts = q.counts;
      machine = q.machine;
    }

unfoldable pub shown_of : Progress → ℕ → Progress
shown_of q size =
    record {
      line = q.line;
      cases = q.cases;
      differ = q.differ;
      name = q.name;
      size = q.size;
      is_body = q.is_body;
      is_checked = q.is_checked;
      is_wrong = q.is_wrong;
      given = q.given;
      told = q.told;
      fault = q.fault;
      shown = size;
      lent = q.lent;
      counts = q.counts;
      machine = q.machine;
    }

unfoldable pub answered_of : Progress → ℕ → Progress
answered_of q size =
    record {
      line = q.line;
      cases = q.cases;
      differ = q.differ;
      name = q.name;
      size = q.size;
      is_body = q.is_body;
      is_checked = q.is_checked;
      is_wrong = q.is_wrong;
      given = size;
      told = size;
      fault = q.fault;
      shown = q.shown;
      lent = q.lent;
      counts = q.counts;
      machine = q.machine;
    }

-- an answer, which waits for its line
abbrev pub answered_by : Progress → Source → On
answered_by q s = on (answered_of q s.size) s.text

unfoldable pub unanswered_of : Progress → Progress
unanswered_of q =
    record {
      line = q.line;
      cases = q.cases;
      differ = q.differ;
      name = q.name;
      size = q.size;
      is_body = q.is_body;
      is_checked = q.is_checked;
      is_wrong = q.is_wrong;
      given = 0;
      told = q.told;
      fault = q.fault;
      shown = q.shown;
      lent = q.lent;
      counts = q.counts;
      machine = q.machine;
    }

unfoldable pub counted_of : Progress → ℕ → ℕ → ℕ → Progress
counted_of q statements labels bytes =
    record {
      line = q.line;
      cases = q.cases;
      differ = q.differ;
      name = q.name;
      size = q.size;
      is_body = q.is_body;
      is_checked = q.is_checked;
      is_wrong = q.is_wrong;
      given = q.given;
      told = q.told;
      fault = q.fault;
      shown = q.shown;
      lent = q.lent;
      counts = record { statements = statements; labels = labels; bytes = bytes };
      machine = q.machine;
    }

unfoldable pub lent_of : Progress → Lent → Progress
lent_of q a =
    record {
      line = q.line;
      cases = q.cases;
      differ = q.differ;
      name = q.name;
      size = q.size;
      is_body = q.is_body;
      is_checked = q.is_checked;
      is_wrong = q.is_wrong;
      given = q.given;
      told = q.told;
      fault = q.fault;
      shown = q.shown;
      lent = a;
      counts = q.counts;
      machine = q.machine;
    }

unfoldable pub machine_of : Progress → Machine → Progress
machine_of q r =
    record {
      line = q.line;
      cases = q.cases;
      differ = q.differ;
      name = q.name;
      size = q.size;
      is_body = q.is_body;
      is_checked = q.is_checked;
      is_wrong = q.is_wrong;
      given = q.given;
      told = q.told;
      fault = q.fault;
      shown = q.shown;
      lent = q.lent;
      counts = q.counts;
      machine = r;
    }
