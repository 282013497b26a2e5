-- What shifts and rotates are held against: the floor of a quotient, and a rotate bit by bit.
-- Assumes nothing.
use Rattle.std.specs.Prelude.{◌≡◌, ℕ, zero, suc, ◌+◌, ◌*◌, ◌/◌, ◌%◌, ◌^◌, ◌<◌, ℤ, pos, ◌+ℤ◌, ◌*ℤ◌}

-- q is the floor of x / m: x is q * m and a rest from 0 to m - 1
pub record Floor (x : ℤ) (m : ℕ) (q : ℤ) : Type 0 where
  pub rest : ℕ
  pub rest_below : rest < m
  pub whole : q *ℤ pos m +ℤ pos rest ≡ x

-- rotated left by one bit: doubled, and the bit that leaves at the left comes back at the right
abbrev pub turn : ℕ → ℕ → ℕ
turn w a = (a * 2) % 2 ^ w + a * 2 / 2 ^ w

-- n such rotates
abbrev pub turns : ℕ → ℕ → ℕ → ℕ
turns w zero a = a
turns w (suc n) a = turn w (turns w n a)
