-- What is read lies within the text; a token's row tells where its name starts; a name is not empty.
-- Assumes nothing.
use mathlib.Core.Path.{◌≡◌, refl, sym, ◌∙◌, ap, subst}
use mathlib.Core.Bool.{Bool, true, false}
use mathlib.Core.List.{List, [], ◌∷◌}
use Prim.Native.Nat.{ℕ, zero, suc, ◌+◌, ◌≤◌, ◌<◌}
use native.Mathlib.Omega.{arith}
use lib.ListN.{length}
use Rattle.base_prelude.specs.Choice.{if_eq, if_true}
use Rattle.base_prelude.specs.Bytes.{byte_at}
use Rattle.base_prelude.proofs.Choice.{either, either-eq, either_true, true-false, if_true-yes, if_true-no, if_lt-yes, if_lt-no, if_eq-yes, if_eq-no}
use Rattle.base_prelude.proofs.Bytes.{byte-within}
use Rattle.base_limits.specs.declared.Width.{Width}
use Rattle.lex_spelling.specs.Classes.{is_letter, is_name_byte}
use Rattle.lex_spelling.specs.Continuation.{joined, is_joint}
use Rattle.lex_spelling.specs.Escape.{decoded, escape_at}
use Rattle.lex_spelling.specs.Text.{Character, escaped, raw_at, in_symbol, character_from, character_at, spelled_at, measured, name_at, string_at, hash_of, hash_from, end_of}
use Rattle.lex_spelling.specs.declared.Decoded.{Decoded}
use Rattle.lex_spelling.specs.declared.Ending.{Ending}
use Rattle.lex_spelling.specs.declared.Ending.TheVariants as ending
use Rattle.lex_spelling.proofs.Ends.{joined-from, joined_in, joined-none, joined_same}
use Rattle.lex_spelling.proofs.Within.{TextIn, text_in, name-some, name-broken}
use Rattle.lex_lexeme.specs.Number.{Digit, Digits, digit_at, digit_more, digits_within, digits_at, value_of, integer_of}
use Rattle.lex_lexeme.specs.Gap.{gap_skip, gap_end}
use Rattle.lex_lexeme.specs.Reading.{TokenRead, Reading, starts_symbol, starts_integer, texted, valued, symbol_to, symbol_end, symbol_by, symbol_at, string_to, string_end, string_by, string_read, integer_from, integer_by, digits_read, integer_at, marked_from, marked_at, at_from, at_read, plain_read, token_at, as_reading, read_at, next_read, is_named, name_start, text_of}
use Rattle.std.proofs.Common.{Option, None, Some, Result, Ok, Err}
use Rattle.lex_lexeme.specs.declared.Lexeme.{Lexeme}
use Rattle.lex_lexeme.specs.declared.TokenError.{TokenError}
use Rattle.lex_lexeme.specs.declared.TokenError.TheVariants.{Lone, Broken, Open}
use Rattle.lex_lexeme.proofs.Digits.{DigitIn, digit-in}
use Rattle.lex_lexeme.proofs.Gaps.{gap-in, joint-skips}
use Rattle.lex_lexeme.proofs.Cases.{integer-within}

pub record LexemeIn (s : List ℕ) (at : ℕ) (x : Lexeme) : Type 0 where
  pub first-is : x.first ≡ at
  pub ahead : at < x.next
  pub within : x.next ≤ length s
  pub small : x.size ≤ length s
  pub kind-low : 1 ≤ x.kind
  pub kind-high : x.kind ≤ 9
  pub sized : x.size ≡ length (text_of s x.kind x.start)
  pub hashed : x.hash ≡ hash_of (text_of s x.kind x.start)
  pub started : is_named x.kind ≡ true → x.start ≡ name_start s x.kind at
  pub some : is_named x.kind ≡ true → 1 ≤ x.size

abbrev ErrorIn : List ℕ → ℕ → TokenError → Type 0
ErrorIn s at (Lone p) = (at ≤ p) × (p ≤ length s)
ErrorIn s at (Broken p) = (at ≤ p) × (p ≤ length s)
ErrorIn s at (Open p) = (at ≤ p) × (p ≤ length s)

abbrev TokenIn : List ℕ → ℕ → TokenRead → Type 0
TokenIn s at (Ok x) = LexemeIn s at x
TokenIn s at (Err e) = ErrorIn s at e

abbrev pub ReadingIn : List ℕ → ℕ → Reading → Type 0
ReadingIn s at (Ok None) = Unit {0}
ReadingIn s at (Ok (Some x)) = LexemeIn s at x
ReadingIn s at (Err e) = ErrorIn s at e

no-hash : hash_of [] ≡ 0
unfolding hash_from
no-hash = refl

-- kinds
named-is : (kind : ℕ) → 2 ≤ kind → kind ≤ 6 → is_named kind ≡ true
unfolding is_named
named-is kind h g = if_lt-no _ _ h ∙ if_lt-yes _ _ (omega arith)

unnamed-is : (kind : ℕ) → 7 ≤ kind → is_named kind ≡ false
unfolding is_named
unnamed-is kind h = if_lt-no _ _ (omega arith) ∙ if_lt-no _ _ h

nothing-named : is_named 1 ≡ false
unfolding is_named
nothing-named = if_lt-yes _ _ (omega arith)

pub text-named : (s : List ℕ) (kind start : ℕ) → is_named kind ≡ true → text_of s kind start ≡ name_at s start
unfolding text_of
text-named s kind start e = if_true-yes _ _ e

pub text-none : (s : List ℕ) (kind start : ℕ) → is_named kind ≡ false → (kind ≡ 9 → ⊥) → text_of s kind start ≡ []
unfolding text_of
text-none s kind start e f = if_true-no _ _ e ∙ if_eq-no _ _ f

text-string : (s : List ℕ) (start : ℕ) → text_of s 9 start ≡ string_at s start
unfolding text_of
text-string s start = if_true-no _ _ (unnamed-is 9 (omega arith)) ∙ if_eq-yes _ _ refl

start_plain : (s : List ℕ) (kind first : ℕ) → kind < 4 → name_start s kind first ≡ first
unfolding name_start
start_plain s kind first h = if_lt-yes _ _ h

start-marked : (s : List ℕ) (kind first : ℕ) → 4 ≤ kind → (kind ≡ 6 → ⊥) → name_start s kind first ≡ joined s (first + 1)
unfolding name_start
start-marked s kind first h e = if_lt-no _ _ h ∙ if_eq-no _ _ e

start-inner : (s : List ℕ) (first : ℕ) → name_start s 6 first ≡ joined s (joined s (first + 1) + 1)
unfolding name_start
start-inner s first = if_lt-no _ _ (omega arith) ∙ if_eq-yes _ _ refl

-- a symbol's first character is there, or its escape is bad
abbrev Shown : Character → Type 0
Shown (Ok x) = Unit {0}
Shown (Err (ending.Broken p)) = Unit {0}
Shown (Err (ending.Stopped p)) = ⊥

escaped-shown : (e : Result Decoded ℕ) → Shown (escaped e)
unfolding escaped
escaped-shown (Ok x) = tt
escaped-shown (Err p) = tt

letter-name : (c : ℕ) → is_letter c ≡ true → is_name_byte c ≡ true
unfolding is_name_byte
letter-name c e = if_true-yes _ _ e

raw-shown : (c at : ℕ) → is_letter c ≡ true → Shown (raw_at false c at)
unfolding raw_at in_symbol if_true
raw-shown c at e = subst (λ (b : Bool). Shown (if_true b (Ok (decoded c (at + 1))) (Err (ending.Stopped at)))) (sym (letter-name c e)) tt

from-shown : (s : List ℕ) (at : ℕ) → starts_symbol (byte_at s at) ≡ true → Shown (character_from false s at)
unfolding character_from starts_symbol
from-shown s at =
    either_true (λ (b : Bool). b ≡ true → Shown (if_eq (byte_at s at) 92 (escaped (escape_at s at)) (raw_at false (byte_at s at) at))) (is_letter (byte_at s at)) _ _
    (λ e _. either-eq Shown (byte_at s at) 92 _ _ (λ _. escaped-shown (escape_at s at)) (λ _. raw-shown (byte_at s at) at e))
    (λ _. either-eq (λ (b : Bool). b ≡ true → Shown (if_eq (byte_at s at) 92 (escaped (escape_at s at)) (raw_at false (byte_at s at) at))) (byte_at s at) 92 _ _
    (λ e _. subst Shown (sym (if_eq-yes (escaped (escape_at s at)) (raw_at false (byte_at s at) at) e)) (escaped-shown (escape_at s at)))
    (λ _ e. true-false (sym e)))

shown : (s : List ℕ) (at : ℕ) → starts_symbol (byte_at s at) ≡ true → is_joint s at ≡ false → Shown (character_at false s at)
unfolding character_at
shown s at e j = subst (λ (i : ℕ). Shown (character_from false s i)) (sym (joined_same s at j)) (from-shown s at e)

not-broken : (p q : ℕ) → ending.Broken p ≡ ending.Stopped q → ⊥
not-broken p q e = let z : ◌≡◌ {A = ℕ} 0 1 = cc in omega arith

some-name : (s : List ℕ) (at p : ℕ) (x : Character) → Shown x → character_at false s at ≡ x → (spelled_at false s at).ending ≡ ending.Stopped p → 1 ≤ length (name_at s at)
some-name s at p (Ok y) h e f = name-some s at y e
some-name s at p (Err (ending.Broken q)) h e f = absurd (not-broken q p (sym (name-broken s at q e) ∙ f))
some-name s at p (Err (ending.Stopped q)) h e f = absurd h

named_in : (s : List ℕ) (at : ℕ) → TextIn s at (spelled_at false s at) → (at + length (name_at s at) ≤ end_of (spelled_at false s at).ending) × (end_of (spelled_at false s at).ending ≤ length s)
unfolding name_at
named_in s at h = h

module _ (s : List ℕ) (kind first start : ℕ) (l : start ≤ length s) (o : first ≤ start) (k3 : 3 ≤ kind) (k6 : kind ≤ 6) (e : start ≡ name_start s kind first)
    (b : starts_symbol (byte_at s start) ≡ true) (j : is_joint s start ≡ false) where
  inside : TextIn s start (spelled_at false s start)
  inside = text_in false s start l

  here : (m p : ℕ) → 2 ≤ m → m ≤ 6 → start ≡ name_start s m first → first < p → p ≤ length s → 1 ≤ length (name_at s start)
      → LexemeIn s first (texted m first start p (length (name_at s start)) (hash_of (name_at s start)))
  unfolding name_at
  here m p h g q a w z =
      record {
        first-is = refl;
        ahead = a;
        within = w;
        small = omega (arith, inside.0, inside.1);
        kind-low = omega arith;
        kind-high = omega arith;
        sized = ap length (sym (text-named s m start (named-is m h g)));
        hashed = ap hash_of (sym (text-named s m start (named-is m h g)));
        started = λ _. q;
        some = λ _. z;
      }

  to_in : (p : ℕ) → (spelled_at false s start).ending ≡ ending.Stopped p → TokenIn s first (Ok (symbol_to s kind first start (length (name_at s start)) (hash_of (name_at s start)) p))
  unfolding symbol_to
  to_in p f =
      let z : 1 ≤ length (name_at s start) = some-name s start p (character_at false s start) (shown s start b j) refl f in
      let t : (start + length (name_at s start) ≤ p) × (p ≤ length s) = ends p f in
      let a : first < p = omega (arith, t.0) in
      either-eq (LexemeIn s first) kind 3 _ _
      (λ k. either-eq (LexemeIn s first) (byte_at s p) 58 _ _
      (λ c. let w : p < length s = byte-within s p (omega arith) in
      here 2 (p + 1) (omega arith) (omega arith) (plain k 2 (omega arith)) (omega arith) (omega arith) z)
      (λ _. here 3 p (omega arith) (omega arith) (plain k 3 (omega arith)) a t.1 z))
      (λ _. here kind p (omega arith) k6 e a t.1 z)
    where
      plain : kind ≡ 3 → (m : ℕ) → m < 4 → start ≡ name_start s m first
      plain k m h = e ∙ start_plain s kind first (omega arith) ∙ sym (start_plain s m first h)

      ends : (p : ℕ) → (spelled_at false s start).ending ≡ ending.Stopped p → (start + length (name_at s start) ≤ p) × (p ≤ length s)
      ends p f = subst (λ (x : Ending). (start + length (name_at s start) ≤ end_of x) × (end_of x ≤ length s)) f (named_in s start inside)

  end-in : (x : Ending) → (spelled_at false s start).ending ≡ x → TokenIn s first (symbol_end s kind first start (length (name_at s start)) (hash_of (name_at s start)) x)
  unfolding symbol_end
  end-in (ending.Stopped p) f = to_in p f
  end-in (ending.Broken p) f =
      let t : (start + length (name_at s start) ≤ p) × (p ≤ length s) = subst (λ (x : Ending). (start + length (name_at s start) ≤ end_of x) × (end_of x ≤ length s)) f (named_in s start inside) in
      (omega (arith, t.0), t.1)

  pub symbol-in : TokenIn s first (symbol_at s kind first start)
  unfolding symbol_at symbol_by measured name_at
  symbol-in = end-in (spelled_at false s start).ending refl

-- strings
module _ (s : List ℕ) (first : ℕ) (l : first < length s) where
  quoted-in : TextIn s (first + 1) (spelled_at true s (first + 1))
  quoted-in = text_in true s (first + 1) (omega arith)

  string-to : (p : ℕ) → first < p → p ≤ length s → TokenIn s first (string_to s first (length (string_at s (first + 1))) (hash_of (string_at s (first + 1))) p)
  unfolding string_to string_at
  string-to p a w =
      either-eq (TokenIn s first) (byte_at s p) 34 _ _
      (λ c. let v : p < length s = byte-within s p (omega arith) in
      record {
        first-is = refl;
        ahead = omega (arith, joined-from s (p + 1));
        within = joined_in s (p + 1) (omega arith);
        small = omega (arith, quoted-in.0, quoted-in.1);
        kind-low = omega arith;
        kind-high = omega arith;
        sized = ap length (sym (text-string s (first + 1)));
        hashed = ap hash_of (sym (text-string s (first + 1)));
        started = λ q. true-false (sym q ∙ unnamed-is 9 (omega arith));
        some = λ q. true-false (sym q ∙ unnamed-is 9 (omega arith));
      })
      (λ _. (omega arith, omega arith))

  string-end : (x : Ending) → (first + 1 ≤ end_of x) × (end_of x ≤ length s)
      → TokenIn s first (string_end s first (length (string_at s (first + 1))) (hash_of (string_at s (first + 1))) x)
  unfolding string_end
  string-end (ending.Stopped p) h = string-to p (omega (arith, h.0)) h.1
  string-end (ending.Broken p) h = (omega (arith, h.0), h.1)

  pub string-in : TokenIn s first (string_read s first)
  unfolding string_read string_by measured string_at
  string-in = string-end (spelled_at true s (first + 1)).ending (omega (arith, quoted-in.0), quoted-in.1)

-- digits end within the text, one place on for each
abbrev DigitsIn : List ℕ → ℕ → Digits → Type 0
DigitsIn s at d = (at + length d.digits ≤ d.next) × (d.next ≤ length s)

more-digits : (s : List ℕ) (at : ℕ) (x : Digit) (rest : ℕ → Digits) → at ≤ length s → DigitIn s at x → ((n : ℕ) → n ≤ length s → DigitsIn s n (rest n))
    → DigitsIn s at (digit_more x rest)
unfolding digit_more
more-digits s at (Ok x) rest l h f = let g : DigitsIn s x.next (rest x.next) = f x.next h.1 in (omega (arith, h.0, g.0), g.1)
more-digits s at (Err p) rest l h f = (omega (arith, h.0), h.1 l)

within-digits : (k : ℕ) (s : List ℕ) (at : ℕ) → at ≤ length s → DigitsIn s at (digits_within k s at)
unfolding digits_within
within-digits zero s at l = (omega arith, l)
within-digits (suc k) s at l = more-digits s at (digit_at s at) (λ n. digits_within k s n) l (digit-in s at (digit_at s at) refl) (λ n h. within-digits k s n h)

digits_in : (s : List ℕ) (at : ℕ) → at ≤ length s → DigitsIn s at (digits_at s at)
unfolding digits_at
digits_in s at l = within-digits (suc (length s)) s at l

-- integers
module _ (s : List ℕ) (kind first : ℕ) (k7 : 7 ≤ kind) (k8 : kind ≤ 8) where
  valued-in : (next : ℕ) (v : Option ℕ) → first < next → next ≤ length s → LexemeIn s first (valued kind first next v)
  valued-in next v a w =
      let t : text_of s kind first ≡ [] = text-none s kind first (unnamed-is kind k7) (λ e. let z : ⊥ = omega arith in z) in
      record {
        first-is = refl;
        ahead = a;
        within = w;
        small = omega arith;
        kind-low = omega arith;
        kind-high = omega arith;
        sized = sym (ap length t);
        hashed = sym (ap hash_of t ∙ no-hash);
        started = λ q. true-false (sym q ∙ unnamed-is kind k7);
        some = λ q. true-false (sym q ∙ unnamed-is kind k7);
      }

  number_in : (next : ℕ) (n : Option ℕ) → first < next → next ≤ length s → LexemeIn s first (integer_from kind first next n)
  unfolding integer_from
  number_in next n a w = valued-in next n a w

  by_in : (w : Width) (neg : Bool) (at : ℕ) (ds : List ℕ) (next : ℕ) → first < length s → first ≤ at → at + length ds ≤ next → next ≤ length s
      → TokenIn s first (integer_by w kind first neg ds next)
  unfolding integer_by
  by_in w neg at [] next l o a b = (omega arith, omega arith)
  by_in w neg at (d ∷ ds) next l o a b = number_in next (integer_of w neg (value_of (d ∷ ds))) (omega arith) b

  digits-read : (w : Width) (neg : Bool) (at : ℕ) → first < length s → first ≤ at → at ≤ length s → TokenIn s first (digits_read w s kind first neg at)
  unfolding digits_read
  digits-read w neg at l o g = let d : DigitsIn s at (digits_at s at) = digits_in s at g in by_in w neg at (digits_at s at).digits (digits_at s at).next l o d.0 d.1

  pub integer-in : (w : Width) (at : ℕ) → first ≤ at → at < length s → TokenIn s first (integer_at w s kind first at)
  unfolding integer_at
  integer-in w at o g =
      either-eq (TokenIn s first) (byte_at s at) 45 _ _ (λ _. digits-read w true (at + 1) (omega arith) (omega arith) (omega arith)) (λ _.
      either-eq (TokenIn s first) (byte_at s at) 43 _ _ (λ _. digits-read w false (at + 1) (omega arith) (omega arith) (omega arith)) (λ _.
      digits-read w false at (omega arith) o (omega arith)))

-- marks
module _ (s : List ℕ) (first : ℕ) (l : first < length s) where
  marked_from_lem : (kind at : ℕ) → 3 ≤ kind → kind ≤ 6 → first ≤ at → at ≤ length s → at ≡ name_start s kind first → is_joint s at ≡ false → TokenIn s first (marked_from s kind first at)
  unfolding marked_from
  marked_from_lem kind at k3 k6 o g e j =
      either_true (TokenIn s first) (starts_symbol (byte_at s at)) _ _
      (λ b. symbol-in s kind first at g o k3 k6 e b j)
      (λ _. (omega arith, omega arith))

  pub marked-in : (kind at : ℕ) → 3 ≤ kind → kind ≤ 6 → first ≤ at → at ≤ length s → joined s at ≡ name_start s kind first → TokenIn s first (marked_at s kind first at)
  unfolding marked_at
  marked-in kind at k3 k6 o g e =
      marked_from_lem kind (joined s at) k3 k6 (omega (arith, joined-from s at)) (joined_in s at g) e (joined-none s at)

  at_from_lem : (w : Width) (at : ℕ) → first < at → at ≤ length s → at ≡ joined s (first + 1) → TokenIn s first (at_from w s first at)
  unfolding at_from
  at_from_lem w at o g e =
      either-eq (TokenIn s first) (byte_at s at) 37 _ _
      (λ c. let v : at < length s = byte-within s at (omega arith) in
      marked-in 6 (at + 1) (omega arith) (omega arith) (omega arith) (omega arith) (ap (λ (i : ℕ). joined s (i + 1)) e ∙ sym (start-inner s first)))
      (λ _. either_true (TokenIn s first) (starts_symbol (byte_at s at)) _ _
      (λ b. symbol-in s 5 first at g (omega arith) (omega arith) (omega arith) (e ∙ sym (start-marked s 5 first (omega arith) (λ z. let y : ⊥ = omega arith in y))) b
      (ap (is_joint s) e ∙ joined-none s (first + 1)))
      (λ _. either_true (TokenIn s first) (starts_integer (byte_at s at)) _ _
      (λ b. integer-in s 8 first (omega arith) (omega arith) w at (omega arith) (integer-within s at (byte_at s at) refl true (sym b) refl))
      (λ _. (omega arith, omega arith))))

  pub at_in : (w : Width) → TokenIn s first (at_read w s first)
  unfolding at_read
  at_in w = at_from_lem w (joined s (first + 1)) (omega (arith, joined-from s (first + 1))) (joined_in s (first + 1) (omega arith)) refl

plain_in : (w : Width) (s : List ℕ) (at : ℕ) → at < length s → is_joint s at ≡ false → TokenIn s at (plain_read w s at (byte_at s at))
unfolding plain_read
plain_in w s at l j =
    either_true (TokenIn s at) (starts_symbol (byte_at s at)) _ _
    (λ b. symbol-in s 3 at at (omega arith) (omega arith) (omega arith) (omega arith) (sym (start_plain s 3 at (omega arith))) b j)
    (λ _. either_true (TokenIn s at) (starts_integer (byte_at s at)) _ _
    (λ b. integer-in s 7 at (omega arith) (omega arith) w at (omega arith) l)
    (λ _. (omega arith, omega arith)))

newline-in : (s : List ℕ) (at : ℕ) → at < length s → LexemeIn s at (valued 1 at (at + 1) (Some 0))
newline-in s at l =
    let t : text_of s 1 at ≡ [] = text-none s 1 at nothing-named (λ e. let z : ⊥ = omega arith in z) in
    record {
      first-is = refl;
      ahead = omega arith;
      within = omega arith;
      small = omega arith;
      kind-low = omega arith;
      kind-high = omega arith;
      sized = sym (ap length t);
      hashed = sym (ap hash_of t ∙ no-hash);
      started = λ q. true-false (sym q ∙ nothing-named);
      some = λ q. true-false (sym q ∙ nothing-named);
    }

token-in : (w : Width) (s : List ℕ) (at : ℕ) → at < length s → is_joint s at ≡ false → TokenIn s at (token_at w s at)
unfolding token_at
token-in w s at l j =
    either-eq (TokenIn s at) (byte_at s at) 10 _ _ (λ _. newline-in s at l) (λ _.
    either-eq (TokenIn s at) (byte_at s at) 34 _ _ (λ _. string-in s at l) (λ _.
    either-eq (TokenIn s at) (byte_at s at) 37 _ _
    (λ _. marked-in s at l 4 (at + 1) (omega arith) (omega arith) (omega arith) (omega arith) (sym (start-marked s 4 at (omega arith) (λ z. let y : ⊥ = omega arith in y)))) (λ _.
    either-eq (TokenIn s at) (byte_at s at) 64 _ _ (λ _. at_in s at l w) (λ _.
    plain_in w s at l j))))

as-in : (s : List ℕ) (at : ℕ) (r : TokenRead) → TokenIn s at r → ReadingIn s at (as_reading r)
unfolding as_reading
as-in s at (Ok x) h = h
as-in s at (Err e) h = h

pub read-in : (w : Width) (s : List ℕ) (at : ℕ) → is_joint s at ≡ false → ReadingIn s at (read_at w s at)
unfolding read_at
read-in w s at j =
    either (ReadingIn s at) at (length s) _ _ (λ l. as-in s at (token_at w s at) (token-in w s at l j)) (λ _. tt)

-- nothing can be skipped where a gap ends
no-joint : (s : List ℕ) (at : ℕ) → gap_skip s at ≤ at → is_joint s at ≡ false
no-joint s at h = by (is_joint s at) refl
  where
    by : (b : Bool) → is_joint s at ≡ b → is_joint s at ≡ false
    by true e = absurd (joint-skips s at e h)
    by false e = e

pub next-in : (w : Width) (s : List ℕ) (at : ℕ) → ReadingIn s (gap_end s at) (next_read w s at)
unfolding next_read
next-in w s at = read-in w s (gap_end s at) (no-joint s (gap_end s at) (gap-in s at).1)
