-- A fault is a place and a refusal number, written as one number, so that the least is the one with the lowest place, then
-- the lowest number.
-- Assumes nothing.
use Rattle.std.specs.Prelude.{ℕ, ◌+◌, ◌*◌, ◌/◌, ◌%◌, List, [], ◌∷◌, min}

-- no fault: above every key
abbrev pub none : ℕ
none = 1099511627776

-- a place of 32 bits, a number below 64
unfoldable pub key : ℕ → ℕ → ℕ
key place number = (place % 4294967296) * 64 + number

abbrev pub key_place : ℕ → ℕ
key_place k = k / 64

abbrev pub key_number : ℕ → ℕ
key_number k = k % 64

-- the least of a list of faults
unfoldable pub least_of : List ℕ → ℕ
least_of [] = none
least_of (k ∷ ks) = min k (least_of ks)
