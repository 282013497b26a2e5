-- What is read at a place ends behind it and within the text; a decoded value is a byte.
-- Assumes nothing.
use mathlib.Core.Path.{◌≡◌, refl, sym, subst}
use mathlib.Core.Bool.{Bool, false}
use mathlib.Core.List.{List}
use Prim.Native.Nat.{ℕ, ◌+◌, ◌≤◌, ◌<◌}
use native.Mathlib.Decide.{dec_lt}
use native.Mathlib.Omega.{arith}
use lib.ListN.{length}
use Rattle.base_prelude.specs.Bytes.{byte_at}
use Rattle.base_prelude.proofs.Choice.{either, either-eq, either_true}
use Rattle.base_prelude.proofs.Bytes.{byte-within}
use Rattle.lex_spelling.specs.Classes.{is_name_byte}
use Rattle.lex_spelling.specs.Continuation.{joined}
use Rattle.lex_spelling.specs.Escape.{hex_of, plain_of, bad_place, plain_at, hex_at, hex_from, escape_at}
use Rattle.lex_spelling.specs.Text.{Character, in_string, in_symbol, escaped, raw_at, character_from, character_at}
use Rattle.lex_spelling.specs.Pair.{Paired, pair_one, pair_end, pair_of, pair_at}
use Rattle.std.proofs.Common.{Result, Ok, Err, Continue, Break}
use Rattle.lex_spelling.specs.declared.Decoded.{Decoded}
use Rattle.lex_spelling.specs.declared.Ending.TheVariants.{Stopped, Broken}
use Rattle.lex_spelling.proofs.Ends.{name-byte, joined-from, joined_in}
use Rattle.lex_spelling.proofs.Cases.{character-past}

-- a value below its bound was read from a byte
pub hex-byte : (c : ℕ) → hex_of c < 16 → c < 256
unfolding hex_of
hex-byte c =
    either (λ (v : ℕ). v < 16 → c < 256) c 48 _ _ (λ h _. omega arith) (λ _.
    either (λ (v : ℕ). v < 16 → c < 256) c 58 _ _ (λ h _. omega arith) (λ _.
    either (λ (v : ℕ). v < 16 → c < 256) c 65 _ _ (λ h _. omega arith) (λ _.
    either (λ (v : ℕ). v < 16 → c < 256) c 71 _ _ (λ h _. omega arith) (λ _.
    either (λ (v : ℕ). v < 16 → c < 256) c 97 _ _ (λ h _. omega arith) (λ _.
    either (λ (v : ℕ). v < 16 → c < 256) c 103 _ _ (λ h _. omega arith) (λ _ h. let z : ⊥ = omega arith in absurd z))))))

pub plain_byte : (c : ℕ) → plain_of c < 256 → c < 256
unfolding plain_of
plain_byte c =
    either-eq (λ (v : ℕ). v < 256 → c < 256) c 92 _ _ (λ h _. omega arith) (λ _.
    either-eq (λ (v : ℕ). v < 256 → c < 256) c 34 _ _ (λ h _. omega arith) (λ _.
    either-eq (λ (v : ℕ). v < 256 → c < 256) c 110 _ _ (λ h _. omega arith) (λ _.
    either-eq (λ (v : ℕ). v < 256 → c < 256) c 114 _ _ (λ h _. omega arith) (λ _.
    either-eq (λ (v : ℕ). v < 256 → c < 256) c 116 _ _ (λ h _. omega arith) (λ _.
    either-eq (λ (v : ℕ). v < 256 → c < 256) c 32 _ _ (λ h _. omega arith) (λ _ h. let z : ⊥ = omega arith in absurd z))))))

abbrev pub EscapeIn : List ℕ → ℕ → Result Decoded ℕ → Type 0
EscapeIn s at (Ok x) = (at < x.next) × (x.next ≤ length s) × (x.value < 256)
EscapeIn s at (Err place) = (at ≤ place) × (place ≤ length s)

-- the n bytes before the place of a bad escape stand in the text
pub bad-in : (s : List ℕ) (at n : ℕ) → at + n < length s → EscapeIn s at (Err (bad_place at n))
unfolding bad_place
bad-in s at n w = (omega arith, omega arith)

pub escape-in : (s : List ℕ) (at : ℕ) → at < length s → EscapeIn s at (escape_at s at)
unfolding escape_at hex_from hex_at plain_at
escape-in s at w =
    either-eq (EscapeIn s at) (byte_at s (at + 1)) 120 _ _
    (λ e. let u : at + 1 < length s = byte-within s (at + 1) (omega arith) in
    either (EscapeIn s at) (hex_of (byte_at s (at + 2))) 16 _ _
    (λ h. let t : at + 2 < length s = byte-within s (at + 2) (hex-byte (byte_at s (at + 2)) h) in
    either (EscapeIn s at) (hex_of (byte_at s (at + 3))) 16 _ _
    (λ h'. let v : at + 3 < length s = byte-within s (at + 3) (hex-byte (byte_at s (at + 3)) h') in (omega arith, omega arith, omega arith))
    (λ _. bad-in s at 2 t))
    (λ _. bad-in s at 1 u))
    (λ _. either (EscapeIn s at) (plain_of (byte_at s (at + 1))) 256 _ _
    (λ h. let v : at + 1 < length s = byte-within s (at + 1) (plain_byte (byte_at s (at + 1)) h) in (omega arith, omega arith, h))
    (λ _. bad-in s at 0 (omega arith)))

abbrev pub CharacterIn : List ℕ → ℕ → Character → Type 0
CharacterIn s at (Ok x) = (at < x.next) × (x.next ≤ length s) × (x.value < 256)
CharacterIn s at (Err (Broken place)) = (at ≤ place) × (place ≤ length s)
CharacterIn s at (Err (Stopped place)) = (at ≤ place) × (place ≤ length s)

escaped-in : (s : List ℕ) (at : ℕ) (e : Result Decoded ℕ) → EscapeIn s at e → CharacterIn s at (escaped e)
unfolding escaped
escaped-in s at (Ok x) h = h
escaped-in s at (Err place) h = h

raw-in : (q : Bool) (s : List ℕ) (at : ℕ) → at ≤ length s → CharacterIn s at (raw_at q (byte_at s at) at)
unfolding raw_at in_string in_symbol
raw-in q s at l =
    either_true (CharacterIn s at) q _ _
    (λ _. either-eq (CharacterIn s at) (byte_at s at) 34 _ _ (λ _. (omega arith, l)) (λ _.
    either-eq (CharacterIn s at) (byte_at s at) 10 _ _ (λ _. (omega arith, l)) (λ _.
    either (CharacterIn s at) (byte_at s at) 256 _ _
    (λ h. let w : at < length s = byte-within s at h in (omega arith, omega arith, h))
    (λ _. (omega arith, l)))))
    (λ _. either_true (CharacterIn s at) (is_name_byte (byte_at s at)) _ _
    (λ e. let h : byte_at s at < 256 = name-byte (byte_at s at) e in
    let w : at < length s = byte-within s at h in (omega arith, omega arith, h))
    (λ _. (omega arith, l)))

from_in : (q : Bool) (s : List ℕ) (at : ℕ) → at ≤ length s → CharacterIn s at (character_from q s at)
unfolding character_from
from_in q s at l =
    either-eq (CharacterIn s at) (byte_at s at) 92 _ _
    (λ e. let w : at < length s = byte-within s at (omega arith) in escaped-in s at (escape_at s at) (escape-in s at w))
    (λ _. raw-in q s at l)

later : (s : List ℕ) (at i : ℕ) (x : Character) → at ≤ i → CharacterIn s i x → CharacterIn s at x
later s at i (Ok x) h c = (omega arith, c.1, c.2)
later s at i (Err (Broken place)) h c = (omega arith, c.1)
later s at i (Err (Stopped place)) h c = (omega arith, c.1)

pub character-in : (q : Bool) (s : List ℕ) (at : ℕ) → at ≤ length s → CharacterIn s at (character_at q s at)
unfolding character_at
character-in q s at l =
    later s at (joined s at) (character_from q s (joined s at)) (joined-from s at) (from_in q s (joined s at) (joined_in s at l))

-- a decoded byte that was read at any place stands within the text
abbrev pub OneIn : List ℕ → ℕ → Character → Type 0
OneIn s at (Ok x) = (at < x.next) × (x.next ≤ length s) × (x.value < 256)
OneIn s at (Err e) = Unit {0}

only_one : (s : List ℕ) (at : ℕ) (x : Character) → CharacterIn s at x → OneIn s at x
only_one s at (Ok x) h = h
only_one s at (Err e) h = tt

pub one_in : (q : Bool) (s : List ℕ) (at : ℕ) (x : Character) → x ≡ character_at q s at → OneIn s at x
one_in q s at x e =
    subst (OneIn s at) (sym e)
    (elim (dec_lt (length s) at) [
      | yes h ↦ subst (OneIn s at) (character-past q s at (joined s at) refl (omega (arith, joined-from s at))) tt
      | no h ↦ only_one s at (character_at q s at) (character-in q s at (omega arith))
    ])

abbrev pub PairIn : List ℕ → ℕ → ℕ → Paired → Type 0
PairIn s i j (Continue p) = ((i < p.0) × (p.0 ≤ length s)) × ((j < p.1) × (p.1 ≤ length s))
PairIn s i j (Break b) = Unit {0}

pair-in : (s : List ℕ) (i j : ℕ) (x y : Character) → OneIn s i x → OneIn s j y → PairIn s i j (pair_of x y)
unfolding pair_of pair_one pair_end
pair-in s i j (Ok x) (Ok y) h g = either-eq (PairIn s i j) x.value y.value _ _ (λ _. ((h.0, h.1), (g.0, g.1))) (λ _. tt)
pair-in s i j (Ok x) (Err e) h g = tt
pair-in s i j (Err e) (Ok y) h g = tt
pair-in s i j (Err e) (Err f) h g = tt

pub paired-in : (s : List ℕ) (i j : ℕ) (z : Paired) → z ≡ pair_at s i j → PairIn s i j z
unfolding pair_at
paired-in s i j z e =
    subst (PairIn s i j) (sym e)
    (pair-in s i j (character_at false s i) (character_at false s j) (one_in false s i _ refl) (one_in false s j _ refl))
