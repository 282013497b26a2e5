-- What the code answers, with what it leaves in the scratch; after a refusal the scratch does not count.
-- Assumes nothing.
use Rattle.std.specs.Prelude.{List, ℕ, Result, Ok, Err}
use Rattle.base_limits.specs.declared.Refusal.{Refusal}
use Rattle.check_judge.specs.Judge.{Known, known, Judged, refusal, fine}
use Rattle.check_judge.specs.declared.Counts.{Counts}

abbrev pub known_by : Counts → List ℕ → List ℕ → List ℕ → List ℕ → Known
known_by p t k y flags = known p.tokens t p.statements k p.labels y flags

-- the counts of a source without a fault, or a refusal
abbrev pub Judgement : Type 0
Judgement = Result Counts Refusal

abbrev pub judged : Judgement → List ℕ → List ℕ → List ℕ → List ℕ → Judged
judged (Ok p) t k y flags = fine (known_by p t k y flags) p.size
judged (Err r) t k y flags = refusal r.number r.place
