-- What shifts and rotates give at counts below the width, at it, past it and below 0; the numbers of the stops.
-- Assumes nothing.
use Rattle.std.proofs.Common.{Err, Ok}
use Rattle.std.proofs.Common.{◌≡◌, ℕ, ◌-◌, ◌^◌, List, [], ◌∷◌, refl}
use Rattle.base_word.specs.Word.{Answer, stop_of}
use Rattle.base_word.specs.declared.WordError.TheVariants.{Division, Shift}
use Rattle.base_word.specs.Word.{shl_of, bsr_of, shr_of, asr_of, rol_of, ror_of}

-- the 32-bit word of -n
abbrev minus : ℕ → ℕ
minus n = 2 ^ 32 - n

pub stop-numbers : stop_of (Err Division) ∷ stop_of (Err Shift) ∷ [] ≡ 30 ∷ 31 ∷ []
stop-numbers = refl

abbrev at_counts : (ℕ → Answer) → List Answer
at_counts f = f 0 ∷ f 1 ∷ f 31 ∷ f 32 ∷ f 33 ∷ f 2147483647 ∷ f (minus 1) ∷ f (minus 2147483648) ∷ []

pub shl-counts : at_counts (shl_of 32 1)
    ≡ Ok 1 ∷ Ok 2 ∷ Ok 2147483648 ∷ Ok 0 ∷ Ok 0 ∷ Ok 0 ∷ Err Shift ∷ Err Shift ∷ []
unfolding shl_of
shl-counts = refl

pub bsr-counts : at_counts (bsr_of 32 (minus 8))
    ≡ Ok (minus 8) ∷ Ok 2147483644 ∷ Ok 1 ∷ Ok 0 ∷ Ok 0 ∷ Ok 0 ∷ Err Shift ∷ Err Shift ∷ []
unfolding bsr_of
bsr-counts = refl

pub shr-counts : at_counts (shr_of 32 (minus 8))
    ≡ Ok (minus 8) ∷ Ok 2147483644 ∷ Ok 1 ∷ Ok 0 ∷ Ok 0 ∷ Ok 0 ∷ Err Shift ∷ Err Shift ∷ []
shr-counts = bsr-counts

pub asr-minus-counts : at_counts (asr_of 32 (minus 8))
    ≡ Ok (minus 8) ∷ Ok (minus 4) ∷ Ok (minus 1) ∷ Ok (minus 1) ∷ Ok (minus 1) ∷ Ok (minus 1) ∷ Err Shift ∷ Err Shift ∷ []
unfolding asr_of
asr-minus-counts = refl

pub asr-plus-counts : at_counts (asr_of 32 8) ≡ Ok 8 ∷ Ok 4 ∷ Ok 0 ∷ Ok 0 ∷ Ok 0 ∷ Ok 0 ∷ Err Shift ∷ Err Shift ∷ []
unfolding asr_of
asr-plus-counts = refl

-- 6 is 110, which a rotate by 31 to the left turns as one by 1 to the right
pub rol-counts : at_counts (rol_of 32 6) ≡ Ok 6 ∷ Ok 12 ∷ Ok 3 ∷ Ok 6 ∷ Ok 12 ∷ Ok 3 ∷ Err Shift ∷ Err Shift ∷ []
unfolding rol_of
rol-counts = refl

pub ror-counts : at_counts (ror_of 32 6) ≡ Ok 6 ∷ Ok 3 ∷ Ok 12 ∷ Ok 6 ∷ Ok 3 ∷ Ok 12 ∷ Err Shift ∷ Err Shift ∷ []
unfolding ror_of
ror-counts = refl

-- at 16 bits: shl 1 16, bsr 32768 16, asr -8 17, rol 6 17
pub narrow-counts : shl_of 16 1 16 ∷ bsr_of 16 32768 16 ∷ asr_of 16 (2 ^ 16 - 8) 17 ∷ rol_of 16 6 17 ∷ []
    ≡ Ok 0 ∷ Ok 0 ∷ Ok (2 ^ 16 - 1) ∷ Ok 12 ∷ []
unfolding shl_of bsr_of asr_of rol_of
narrow-counts = refl
