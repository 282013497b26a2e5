-- A loop as a definition: a step leads from a state to the next one or to the answer, and is taken again and again.
-- Assumes nothing.
use Rattle.std.specs.Prelude.{ℕ, zero, suc}

pub data Step (A R : Type 0) : Type 0 where
  go : A → Step A R
  stop : R → Step A R

-- where a step leads, f answering for the next state
abbrev pub after : {A R : Type 0} → Step A R → (A → R) → R
after (go b) f = f b
after (stop r) f = r

-- the answer after at most so many steps; d where they are too few
unfoldable pub walk : {A R : Type 0} → (A → Step A R) → R → ℕ → A → R
walk f d zero a = d
walk f d (suc k) a = after (f a) (λ b. walk f d k b)
