-- One law for each way through a function of this crate.
-- Assumes nothing.
use mathlib.Core.Path.{◌≡◌, refl, ◌∙◌, ap}
use mathlib.Core.Bool.{Bool, true, false}
use mathlib.Core.List.{List}
use Prim.Native.Nat.{ℕ, ◌+◌, ◌*◌, ◌≤◌, ◌<◌}
use lib.ListN.{length}
use Rattle.base_prelude.specs.Choice.{if_lt, if_eq, if_true}
use Rattle.base_prelude.specs.Bytes.{byte_at}
use Rattle.base_prelude.proofs.Choice.{tests}
use Rattle.lex_spelling.specs.Classes.{is_letter, is_digit, is_name_byte}
use Rattle.lex_spelling.specs.Continuation.{is_joint, joined}
use Rattle.lex_spelling.specs.Escape.{decoded, hex_of, plain_of, bad_place, plain_at, hex_at, hex_from, escape_at}
use Rattle.lex_spelling.specs.Text.{Character, in_string, in_symbol, escaped, raw_at, character_from, character_at}
use Rattle.std.proofs.Common.{Result, Ok, Err}
use Rattle.std.specs.Result.{MatchResult, IsErrAnd}
use Rattle.lex_spelling.specs.declared.Decoded.{Decoded}
use Rattle.lex_spelling.specs.declared.Ending.{Ending}
use Rattle.lex_spelling.specs.declared.Ending.TheVariants.{Stopped, Broken}
use Rattle.lex_spelling.proofs.Ends.{byte_past}

module _ (c : ℕ) (a : Bool) where
  pub name-letter : a ≡ is_letter c → a ≡ true → true ≡ is_name_byte c
  unfolding is_name_byte
  name-letter p e = rw (← p) (search tests)

  module _ (b : Bool) where
    pub name-digit : a ≡ is_letter c → a ≡ false → b ≡ is_digit c → b ≡ true → true ≡ is_name_byte c
    unfolding is_name_byte
    name-digit p e q f = rw (← p, ← q) (search tests)

    pub name-hyphen : a ≡ is_letter c → a ≡ false → b ≡ is_digit c → b ≡ false → c ≡ 45 → true ≡ is_name_byte c
    unfolding is_name_byte
    name-hyphen p e q f g = rw (← p, ← q) (search tests)

    pub name-none : a ≡ is_letter c → a ≡ false → b ≡ is_digit c → b ≡ false → (c ≡ 45 → ⊥) → false ≡ is_name_byte c
    unfolding is_name_byte
    name-none p e q f g = rw (← p, ← q) (search tests)

pub ruleset naming = (name-letter, name-digit, name-hyphen, name-none)

module _ (s : List ℕ) (at c : ℕ) (p : c ≡ byte_at s at) where
  pub joint-none : (c ≡ 92 → ⊥) → false ≡ is_joint s at
  unfolding is_joint
  joint-none e = rw (← p) (search tests)

  module _ (d : ℕ) (e : c ≡ 92) (q : d ≡ byte_at s (at + 1)) where
    pub joint-yes : d ≡ 10 → true ≡ is_joint s at
    unfolding is_joint
    joint-yes f = rw (← p, ← q) (search tests)

    pub joint-no : (d ≡ 10 → ⊥) → false ≡ is_joint s at
    unfolding is_joint
    joint-no f = rw (← p, ← q) (search tests)

pub ruleset joints = (joint-none, joint-yes, joint-no)

module _ (at : ℕ) where
  pub plain-good : (v : ℕ) → v < 256 → Ok (decoded v (at + 2)) ≡ plain_at at v
  unfolding plain_at
  plain-good v h = search tests

  pub plain-bad : (v p : ℕ) → 256 ≤ v → p ≡ bad_place at 0 → Err p ≡ plain_at at v
  unfolding plain_at
  plain-bad v p h q = rw (← q) (search tests)

module _ (s : List ℕ) (at x a : ℕ) (q : x ≡ byte_at s (at + 2)) (f : a ≡ hex_of x) where
  pub hex-first : (p : ℕ) → 16 ≤ a → p ≡ bad_place at 1 → Err p ≡ hex_from s at
  unfolding hex_from hex_at
  hex-first p h e = rw (← q, ← f, ← e) (search tests)

  module _ (y b : ℕ) (g : y ≡ byte_at s (at + 3)) (k : b ≡ hex_of y) where
    pub hex-good : a < 16 → b < 16 → Ok (decoded (a * 16 + b) (at + 4)) ≡ hex_from s at
    unfolding hex_from hex_at
    hex-good h l = rw (← q, ← f, ← g, ← k) (search tests)

    pub hex-second : (p : ℕ) → a < 16 → 16 ≤ b → p ≡ bad_place at 2 → Err p ≡ hex_from s at
    unfolding hex_from hex_at
    hex-second p h l e = rw (← q, ← f, ← g, ← k, ← e) (search tests)

module _ (s : List ℕ) (at : ℕ) where
  pub escape-hex : (c : ℕ) (r : Result Decoded ℕ) → c ≡ byte_at s (at + 1) → c ≡ 120 → r ≡ hex_from s at → r ≡ escape_at s at
  unfolding escape_at
  escape-hex c r p e k = rw (← p, ← k) (search tests)

  pub escape-plain : (c v : ℕ) (r : Result Decoded ℕ) → c ≡ byte_at s (at + 1) → (c ≡ 120 → ⊥) → v ≡ plain_of c → r ≡ plain_at at v → r ≡ escape_at s at
  unfolding escape_at
  escape-plain c v r p e q k = rw (← p, ← q, ← k) (search tests)

pub ruleset escapes = (plain-good, plain-bad, hex-good, hex-second, hex-first, escape-hex, escape-plain)

module _ (c at : ℕ) (b : Bool) (p : b ≡ is_name_byte c) where
  pub symbol-one : b ≡ true → Ok (decoded c (at + 1)) ≡ in_symbol c at
  unfolding in_symbol
  symbol-one e = rw (← p) (search tests)

  pub symbol-stop : b ≡ false → Err (Stopped at) ≡ in_symbol c at
  unfolding in_symbol
  symbol-stop e = rw (← p) (search tests)

module _ (q : Bool) (c at : ℕ) (r : Character) where
  pub raw-string : q ≡ true → r ≡ in_string c at → r ≡ raw_at q c at
  unfolding raw_at
  raw-string e p = rw (← p) (search tests)

  pub raw-symbol : q ≡ false → r ≡ in_symbol c at → r ≡ raw_at q c at
  unfolding raw_at
  raw-symbol e p = rw (← p) (search tests)

-- a bad escape ends a text where it breaks
escaped-mapped : (e : Result Decoded ℕ) (r : Character) → MatchResult e (λ x. r ≡ Ok x) (λ p. IsErrAnd r (λ d. d ≡ Broken p)) → r ≡ escaped e
unfolding escaped
escaped-mapped (Ok x) r h = h
escaped-mapped (Err p) (Ok y) h = absurd h
escaped-mapped (Err p) (Err d) h = ap (λ (z : Ending). Err z) h

module _ (q : Bool) (s : List ℕ) (at : ℕ) (r : Character) where
  pub from-mapped : (c : ℕ) (e : Result Decoded ℕ) → c ≡ byte_at s at → c ≡ 92 → e ≡ escape_at s at
      → MatchResult e (λ x. r ≡ Ok x) (λ p. IsErrAnd r (λ d. d ≡ Broken p)) → r ≡ character_from q s at
  unfolding character_from
  from-mapped c e p f g h = let k : r ≡ escaped e = escaped-mapped e r h in rw (← p, ← g, ← k) (search tests)

  pub from-raw : (c : ℕ) → c ≡ byte_at s at → (c ≡ 92 → ⊥) → r ≡ raw_at q c at → r ≡ character_from q s at
  unfolding character_from
  from-raw c p f h = rw (← p, ← h) (search tests)

  pub character-here : (i : ℕ) → i ≡ joined s at → r ≡ character_from q s i → r ≡ character_at q s at
  unfolding character_at
  character-here i p h = h ∙ ap (character_from q s) p

no-character : (q : Bool) (at : ℕ) → Err (Stopped at) ≡ raw_at q 256 at
unfolding raw_at in_string in_symbol is_name_byte is_letter is_digit if_true if_eq if_lt
no-character true at = refl
no-character false at = refl

past_is : (q : Bool) (s : List ℕ) (i : ℕ) → length s ≤ i → Err (Stopped i) ≡ character_from q s i
unfolding character_from if_eq
past_is q s i h = rw (byte_past s i h) (no-character q i)

pub character-past : (q : Bool) (s : List ℕ) (at i : ℕ) → i ≡ joined s at → length s ≤ i → Err (Stopped i) ≡ character_at q s at
unfolding character_at
character-past q s at i p h = past_is q s i h ∙ ap (character_from q s) p

pub ruleset characters =
    (symbol-one, symbol-stop, raw-string, raw-symbol, from-mapped, from-raw, character-here, character-past)
