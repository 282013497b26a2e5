-- One law for each way through a reading function.
-- Assumes nothing.
use mathlib.Core.Path.{◌≡◌, refl, sym, ◌∙◌, ap, subst}
use mathlib.Core.Bool.{Bool, true, false}
use mathlib.Core.List.{List, [], ◌∷◌}
use Prim.Native.Nat.{ℕ, ◌+◌, ◌≤◌, ◌<◌}
use native.Mathlib.Omega.{arith}
use lib.ListN.{length}
use Rattle.base_prelude.specs.Bytes.{byte_at}
use Rattle.base_prelude.proofs.Choice.{tests, either-eq, either_true, true-false}
use Rattle.base_prelude.proofs.Bytes.{byte-within}
use Rattle.base_limits.specs.declared.Width.{Width}
use Rattle.lex_spelling.specs.Classes.{is_letter, is_digit}
use Rattle.lex_spelling.specs.Continuation.{joined}
use Rattle.lex_spelling.specs.Text.{spelled_at, measured, end_of}
use Rattle.lex_spelling.specs.declared.Spelled.{Spelled}
use Rattle.lex_spelling.specs.declared.Ending.{Ending}
use Rattle.lex_spelling.specs.declared.Ending.TheVariants as ending
use Rattle.lex_spelling.proofs.Ends.{digit-byte, letter-byte, joined_in}
use Rattle.lex_spelling.proofs.Within.{spelled-in}
use Rattle.lex_lexeme.specs.Number.{digits_at, value_of, integer_of, decimal_of}
use Rattle.lex_lexeme.specs.Gap.{gap_end}
use Rattle.lex_lexeme.specs.Reading.{TokenRead, Reading, starts_symbol, starts_integer, texted, valued, symbol_to, symbol_end, symbol_by, symbol_at, string_to, string_end, string_by, string_read, integer_from, integer_by, digits_read, integer_at, marked_from, marked_at, at_from, at_read, plain_read, token_at, as_reading, read_at, next_read, name_start}
use Rattle.std.proofs.Common.{Option, None, Some, Ok, Err}
use Rattle.std.specs.Result.{MatchResult, IsOkAnd}
use Rattle.lex_lexeme.specs.declared.Decimal.{Decimal}
use Rattle.lex_lexeme.specs.declared.Lexeme.{Lexeme}
use Rattle.lex_lexeme.specs.declared.TokenError.TheVariants.{Lone, Broken, Open}
use Rattle.lex_lexeme.proofs.Digits.{decimal-number, decimal-count, decimal-next}

module _ (c : ℕ) (b : Bool) where
  pub starts-letter : b ≡ is_letter c → b ≡ true → true ≡ starts_symbol c
  unfolding starts_symbol
  starts-letter p e = rw (← p) (search tests)

  pub starts-escape : b ≡ is_letter c → b ≡ false → c ≡ 92 → true ≡ starts_symbol c
  unfolding starts_symbol
  starts-escape p e f = rw (← p) (search tests)

  pub starts_none : b ≡ is_letter c → b ≡ false → (c ≡ 92 → ⊥) → false ≡ starts_symbol c
  unfolding starts_symbol
  starts_none p e f = rw (← p) (search tests)

  pub integer-digit : b ≡ is_digit c → b ≡ true → true ≡ starts_integer c
  unfolding starts_integer
  integer-digit p e = rw (← p) (search tests)

  pub integer-plus : b ≡ is_digit c → b ≡ false → c ≡ 43 → true ≡ starts_integer c
  unfolding starts_integer
  integer-plus p e f = rw (← p) (search tests)

  pub integer-minus : b ≡ is_digit c → b ≡ false → (c ≡ 43 → ⊥) → c ≡ 45 → true ≡ starts_integer c
  unfolding starts_integer
  integer-minus p e f g = rw (← p) (search tests)

  pub integer-none : b ≡ is_digit c → b ≡ false → (c ≡ 43 → ⊥) → (c ≡ 45 → ⊥) → false ≡ starts_integer c
  unfolding starts_integer
  integer-none p e f g = rw (← p) (search tests)

pub ruleset starting = (starts-letter, starts-escape, starts_none, integer-digit, integer-plus, integer-minus, integer-none)

symbol-byte : (c : ℕ) → starts_symbol c ≡ true → c < 256
unfolding starts_symbol
symbol-byte c =
    either_true (λ (b : Bool). b ≡ true → c < 256) (is_letter c) _ _ (λ e _. letter-byte c e) (λ _.
    either-eq (λ (b : Bool). b ≡ true → c < 256) c 92 _ _ (λ e _. omega arith) (λ _ e. true-false (sym e)))

integer-byte : (c : ℕ) → starts_integer c ≡ true → c < 256
unfolding starts_integer
integer-byte c =
    either_true (λ (b : Bool). b ≡ true → c < 256) (is_digit c) _ _ (λ e _. digit-byte c e) (λ _.
    either-eq (λ (b : Bool). b ≡ true → c < 256) c 43 _ _ (λ e _. omega arith) (λ _.
    either-eq (λ (b : Bool). b ≡ true → c < 256) c 45 _ _ (λ e _. omega arith) (λ _ e. true-false (sym e))))

-- a token starts within the text
module _ (s : List ℕ) (at c : ℕ) (p : c ≡ byte_at s at) where
  pub percent-within : c ≡ 37 → at + 1 ≤ length s
  percent-within e = let w : at < length s = byte-within s at (omega arith) in omega arith

  pub integer-within : (b : Bool) → b ≡ starts_integer c → b ≡ true → at < length s
  integer-within b q e = byte-within s at (subst (λ (x : ℕ). x < 256) p (integer-byte c (sym q ∙ e)))

  pub symbol-within : (b : Bool) → b ≡ starts_symbol c → b ≡ true → at < length s
  symbol-within b q e = byte-within s at (subst (λ (x : ℕ). x < 256) p (symbol-byte c (sym q ∙ e)))

module _ (s : List ℕ) (kind first start size hash p : ℕ) (x : Lexeme) where
  pub to-label : (c : ℕ) → kind ≡ 3 → c ≡ byte_at s p → c ≡ 58 → x ≡ texted 2 first start (p + 1) size hash → x ≡ symbol_to s kind first start size hash p
  unfolding symbol_to
  to-label c k q e f = rw (← q, ← f) (search tests)

  pub to-symbol : (c : ℕ) → kind ≡ 3 → c ≡ byte_at s p → (c ≡ 58 → ⊥) → x ≡ texted 3 first start p size hash → x ≡ symbol_to s kind first start size hash p
  unfolding symbol_to
  to-symbol c k q e f = rw (← q, ← f) (search tests)

  pub to-marked : (kind ≡ 3 → ⊥) → x ≡ texted kind first start p size hash → x ≡ symbol_to s kind first start size hash p
  unfolding symbol_to
  to-marked k f = rw (← f) (search tests)

pub ending-in : (n p : ℕ) (e : Ending) → end_of e ≤ n → e ≡ ending.Stopped p → p ≤ n
ending-in n p e h q = subst (λ (x : Ending). end_of x ≤ n) q h

module _ (s : List ℕ) (kind first start size hash p : ℕ) (e : Ending) where
  pub end-stopped : (x : Lexeme) → e ≡ ending.Stopped p → x ≡ symbol_to s kind first start size hash p → Ok x ≡ symbol_end s kind first start size hash e
  unfolding symbol_end
  end-stopped x q f = rw q (ap (λ (y : Lexeme). Ok y) f)

  pub end-broken : e ≡ ending.Broken p → Err (Broken p) ≡ symbol_end s kind first start size hash e
  unfolding symbol_end
  end-broken q = rw q

module _ (s : List ℕ) (kind first start : ℕ) (x : Spelled) where
  pub by-stopped : (p : ℕ) (y : Lexeme) → x.ending ≡ ending.Stopped p → y ≡ symbol_to s kind first start x.size x.hash p → Ok y ≡ symbol_by s kind first start x
  unfolding symbol_by
  by-stopped p y q f = end-stopped s kind first start x.size x.hash p x.ending y q f

  pub by-broken : (p : ℕ) → x.ending ≡ ending.Broken p → Err (Broken p) ≡ symbol_by s kind first start x
  unfolding symbol_by
  by-broken p q = end-broken s kind first start x.size x.hash p x.ending q

  pub symbol-read : (r : TokenRead) → x ≡ measured (spelled_at false s start) → r ≡ symbol_by s kind first start x → r ≡ symbol_at s kind first start
  unfolding symbol_at
  symbol-read r p q = q ∙ ap (symbol_by s kind first start) p

pub spelled-end : (q : Bool) (s : List ℕ) (start : ℕ) (x : Spelled) → start ≤ length s → x ≡ measured (spelled_at q s start) → end_of x.ending ≤ length s
spelled-end q s start x l e = (spelled-in q s start x l e).1

pub string-ends : (s : List ℕ) (first : ℕ) (x : Spelled) → first < length s → x ≡ measured (spelled_at true s (first + 1)) → end_of x.ending ≤ length s
string-ends s first x l e = spelled-end true s (first + 1) x (omega arith) e

module _ (s : List ℕ) (first size hash p : ℕ) where
  pub to-string : (c j : ℕ) (x : Lexeme) → c ≡ byte_at s p → c ≡ 34 → j ≡ joined s (p + 1) → x ≡ texted 9 first (first + 1) j size hash → Ok x ≡ string_to s first size hash p
  unfolding string_to
  to-string c j x q e f g = rw (← q, ← f, ← g) (search tests)

  pub to-open : (c : ℕ) → c ≡ byte_at s p → (c ≡ 34 → ⊥) → Err (Open first) ≡ string_to s first size hash p
  unfolding string_to
  to-open c q e = rw (← q) (search tests)

  pub string-stopped : (r : TokenRead) (e : Ending) → e ≡ ending.Stopped p → r ≡ string_to s first size hash p → r ≡ string_end s first size hash e
  unfolding string_end
  string-stopped r e q f = rw q f

  pub string-broken : (e : Ending) → e ≡ ending.Broken p → Err (Broken p) ≡ string_end s first size hash e
  unfolding string_end
  string-broken e q = rw q

module _ (s : List ℕ) (first : ℕ) (x : Spelled) where
  pub string-by-stopped : (p : ℕ) (r : TokenRead) → x.ending ≡ ending.Stopped p → r ≡ string_to s first x.size x.hash p → r ≡ string_by s first x
  unfolding string_by
  string-by-stopped p r q f = string-stopped s first x.size x.hash p r x.ending q f

  pub string-by-broken : (p : ℕ) → x.ending ≡ ending.Broken p → Err (Broken p) ≡ string_by s first x
  unfolding string_by
  string-by-broken p q = string-broken s first x.size x.hash p x.ending q

  pub string-is : (r : TokenRead) → x ≡ measured (spelled_at true s (first + 1)) → r ≡ string_by s first x → r ≡ string_read s first
  unfolding string_read
  string-is r p q = q ∙ ap (string_by s first) p

empty : (w : Width) (kind first : ℕ) (neg : Bool) (ds : List ℕ) (next : ℕ) → length ds ≡ 0 → Err (Lone first) ≡ integer_by w kind first neg ds next
unfolding integer_by
empty w kind first neg [] next e = refl
empty w kind first neg (d ∷ ds) next e = let z : ⊥ = omega arith in absurd z

some : (w : Width) (kind first : ℕ) (neg : Bool) (ds : List ℕ) (next : ℕ) → (length ds ≡ 0 → ⊥)
    → Ok (integer_from kind first next (integer_of w neg (value_of ds))) ≡ integer_by w kind first neg ds next
unfolding integer_by
some w kind first neg [] next e = absurd (e refl)
some w kind first neg (d ∷ ds) next e = refl

module _ (w : Width) (s : List ℕ) (kind first : ℕ) (neg : Bool) (at : ℕ) (d : Decimal) (p : d ≡ decimal_of (digits_at s at)) where
  pub unsigned-none : d.count ≡ 0 → Err (Lone first) ≡ digits_read w s kind first neg at
  unfolding digits_read
  unsigned-none e = empty w kind first neg (digits_at s at).digits (digits_at s at).next (sym (decimal-count d (digits_at s at) p) ∙ e)

  pub unsigned-some : (n : Option ℕ) (x : Lexeme) → (d.count ≡ 0 → ⊥) → n ≡ integer_of w neg d.value → x ≡ valued kind first d.next n
      → Ok x ≡ digits_read w s kind first neg at
  unfolding digits_read integer_from
  unsigned-some n x e q f =
      ap (λ (y : Lexeme). Ok y) (f ∙ ap (integer_from kind first d.next) (q ∙ decimal-number w neg d (digits_at s at) p)
      ∙ ap (λ (j : ℕ). integer_from kind first j (integer_of w neg (value_of (digits_at s at).digits))) (decimal-next d (digits_at s at) p))
      ∙ some w kind first neg (digits_at s at).digits (digits_at s at).next (λ z. e (decimal-count d (digits_at s at) p ∙ z))

module _ (w : Width) (s : List ℕ) (kind first at c : ℕ) (r : TokenRead) (p : c ≡ byte_at s at) where
  pub integer-negative : c ≡ 45 → r ≡ digits_read w s kind first true (at + 1) → r ≡ integer_at w s kind first at
  unfolding integer_at
  integer-negative e q = rw (← p, ← q) (search tests)

  pub integer-positive : (c ≡ 45 → ⊥) → c ≡ 43 → r ≡ digits_read w s kind first false (at + 1) → r ≡ integer_at w s kind first at
  unfolding integer_at
  integer-positive e f q = rw (← p, ← q) (search tests)

  pub integer-plain : (c ≡ 45 → ⊥) → (c ≡ 43 → ⊥) → r ≡ digits_read w s kind first false at → r ≡ integer_at w s kind first at
  unfolding integer_at
  integer-plain e f q = rw (← p, ← q) (search tests)

module _ (s : List ℕ) (kind first at c : ℕ) (b : Bool) (p : c ≡ byte_at s at) (q : b ≡ starts_symbol c) where
  pub marked-symbol : (r : TokenRead) → b ≡ true → r ≡ symbol_at s kind first at → r ≡ marked_from s kind first at
  unfolding marked_from
  marked-symbol r e f = rw (← p, ← q, ← f) (search tests)

  pub marked-lone : b ≡ false → Err (Lone first) ≡ marked_from s kind first at
  unfolding marked_from
  marked-lone e = rw (← p, ← q) (search tests)

pub marked-is : (s : List ℕ) (kind first at i : ℕ) (r : TokenRead) → i ≡ joined s at → r ≡ marked_from s kind first i → r ≡ marked_at s kind first at
unfolding marked_at
marked-is s kind first at i r p q = q ∙ ap (marked_from s kind first) p

pub join-in : (s : List ℕ) (at i : ℕ) → at ≤ length s → i ≡ joined s at → i ≤ length s
join-in s at i l p = subst (λ (j : ℕ). j ≤ length s) (sym p) (joined_in s at l)

pub join-behind : (s : List ℕ) (first i : ℕ) → first < length s → i ≡ joined s (first + 1) → i ≤ length s
join-behind s first i l p = join-in s (first + 1) i (omega arith) p

module _ (w : Width) (s : List ℕ) (first at c : ℕ) (r : TokenRead) (p : c ≡ byte_at s at) where
  pub at-percent : c ≡ 37 → r ≡ marked_at s 6 first (at + 1) → r ≡ at_from w s first at
  unfolding at_from
  at-percent e q = rw (← p, ← q) (search tests)

  module _ (b : Bool) (e : c ≡ 37 → ⊥) (f : b ≡ starts_symbol c) where
    pub at_name : b ≡ true → r ≡ symbol_at s 5 first at → r ≡ at_from w s first at
    unfolding at_from
    at_name g q = rw (← p, ← f, ← q) (search tests)

    pub at-number : (d : Bool) → b ≡ false → d ≡ starts_integer c → d ≡ true → r ≡ integer_at w s 8 first at → r ≡ at_from w s first at
    unfolding at_from
    at-number d g h k q = rw (← p, ← f, ← h, ← q) (search tests)

pub at-lone : (w : Width) (s : List ℕ) (first at c : ℕ) (b d : Bool) → c ≡ byte_at s at → (c ≡ 37 → ⊥) → b ≡ starts_symbol c → b ≡ false
    → d ≡ starts_integer c → d ≡ false → Err (Lone first) ≡ at_from w s first at
unfolding at_from
at-lone w s first at c b d p e f g h k = rw (← p, ← f, ← h) (search tests)

pub at-is : (w : Width) (s : List ℕ) (first i : ℕ) (r : TokenRead) → i ≡ joined s (first + 1) → r ≡ at_from w s first i → r ≡ at_read w s first
unfolding at_read
at-is w s first i r p q = q ∙ ap (at_from w s first) p

module _ (w : Width) (s : List ℕ) (at c : ℕ) (b : Bool) (f : b ≡ starts_symbol c) where
  pub plain-symbol : (r : TokenRead) → b ≡ true → r ≡ symbol_at s 3 at at → r ≡ plain_read w s at c
  unfolding plain_read
  plain-symbol r g q = rw (← f, ← q) (search tests)

  pub plain-integer : (d : Bool) (r : TokenRead) → b ≡ false → d ≡ starts_integer c → d ≡ true → r ≡ integer_at w s 7 at at → r ≡ plain_read w s at c
  unfolding plain_read
  plain-integer d r g h k q = rw (← f, ← h, ← q) (search tests)

  pub plain-lone : (d : Bool) → b ≡ false → d ≡ starts_integer c → d ≡ false → Err (Lone at) ≡ plain_read w s at c
  unfolding plain_read
  plain-lone d g h k = rw (← f, ← h) (search tests)

module _ (w : Width) (s : List ℕ) (at c : ℕ) (p : c ≡ byte_at s at) where
  module _ (r : TokenRead) where
    pub token-string : c ≡ 34 → r ≡ string_read s at → r ≡ token_at w s at
    unfolding token_at
    token-string f q = rw (← p, ← q) (search tests)

    pub token-percent : c ≡ 37 → r ≡ marked_at s 4 at (at + 1) → r ≡ token_at w s at
    unfolding token_at
    token-percent g q = rw (← p, ← q) (search tests)

    pub token-at : c ≡ 64 → r ≡ at_read w s at → r ≡ token_at w s at
    unfolding token_at
    token-at k q = rw (← p, ← q) (search tests)

    pub token-plain : (c ≡ 10 → ⊥) → (c ≡ 34 → ⊥) → (c ≡ 37 → ⊥) → (c ≡ 64 → ⊥) → r ≡ plain_read w s at c → r ≡ token_at w s at
    unfolding token_at
    token-plain e f g k q = rw (← p, ← q) (search tests)

  pub token-newline : (x : Lexeme) → c ≡ 10 → x ≡ valued 1 at (at + 1) (Some 0) → Ok x ≡ token_at w s at
  unfolding token_at
  token-newline x e q = rw (← p, ← q) (search tests)

-- a token that is read is what is read
as-mapped : (t : TokenRead) (r : Reading) → MatchResult t (λ x. IsOkAnd r (λ y. y ≡ Some x)) (λ e. r ≡ Err e) → r ≡ as_reading t
unfolding as_reading
as-mapped (Ok x) (Ok y) h = ap (λ (z : Option Lexeme). Ok z) h
as-mapped (Ok x) (Err d) h = absurd h
as-mapped (Err e) r h = h

module _ (w : Width) (s : List ℕ) (at i : ℕ) (p : i ≡ gap_end s at) where
  pub next-token : (t : TokenRead) (r : Reading) → i < length s → t ≡ token_at w s i → MatchResult t (λ x. IsOkAnd r (λ y. y ≡ Some x)) (λ e. r ≡ Err e) → r ≡ next_read w s at
  unfolding next_read read_at
  next-token t r h q m = rw (← p, ← q, ← as-mapped t r m) (search tests)

  pub next-end : length s ≤ i → Ok None ≡ next_read w s at
  unfolding next_read read_at
  next-end h = rw (← p) (search tests)

pub ruleset symbols = (to-label, to-symbol, to-marked, by-stopped, by-broken, symbol-read)

pub ruleset strings = (to-string, to-open, string-by-stopped, string-by-broken, string-is)

pub ruleset integers = (unsigned-none, unsigned-some, integer-negative, integer-positive, integer-plain)

pub ruleset marks = (marked-symbol, marked-lone, marked-is, at-percent, at_name, at-number, at-lone, at-is)

pub ruleset plains = (plain-symbol, plain-integer, plain-lone)

pub ruleset reads = (token-newline, token-string, token-percent, token-at, token-plain, next-token, next-end)

module _ (s : List ℕ) (kind first : ℕ) where
  pub start_plain : kind < 4 → first ≡ name_start s kind first
  unfolding name_start
  start_plain h = search tests

  pub start-inner : (i j : ℕ) → 4 ≤ kind → kind ≡ 6 → i ≡ joined s (first + 1) → j ≡ joined s (i + 1) → j ≡ name_start s kind first
  unfolding name_start
  start-inner i j h e p q = rw (← p, ← q) (search tests)

  pub start-marked : (j : ℕ) → 4 ≤ kind → (kind ≡ 6 → ⊥) → j ≡ joined s (first + 1) → j ≡ name_start s kind first
  unfolding name_start
  start-marked j h e q = rw (← q) (search tests)

pub ruleset name-starting = (start_plain, start-inner, start-marked)
