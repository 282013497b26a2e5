-- What is read is a bad escape only where an escape breaks.
-- Assumes nothing.
use mathlib.Core.Bool.{Bool, true, false}
use mathlib.Core.List.{List, [], ◌∷◌}
use Prim.Native.Nat.{ℕ, ◌+◌}
use lib.ListN.{length}
use Rattle.base_prelude.specs.Bytes.{byte_at}
use Rattle.base_prelude.proofs.Choice.{either, either-eq, either_true}
use Rattle.base_limits.specs.declared.Width.{Width}
use Rattle.lang_kinds.specs.Tokens as token
use Rattle.lex_spelling.specs.Continuation.{joined}
use Rattle.lex_spelling.specs.Breaks.{EscapeBreaks}
use Rattle.lex_spelling.specs.Text.{spelled_at, measured}
use Rattle.lex_spelling.specs.declared.Ending.{Ending}
use Rattle.lex_spelling.specs.declared.Ending.TheVariants as ending
use Rattle.lex_spelling.proofs.Broken.{EndingBreaks, text-breaks}
use Rattle.lex_lexeme.specs.Gap.{gap_end}
use Rattle.lex_lexeme.specs.Reading.{TokenRead, Reading, starts_symbol, starts_integer, symbol_end, symbol_by, symbol_at, string_to, string_end, string_by, string_read, integer_by, digits_read, integer_at, marked_from, marked_at, at_from, at_read, plain_read, token_at, as_reading, read_at, next_read}
use Rattle.lex_lexeme.specs.declared.TokenError.{TokenError}
use Rattle.lex_lexeme.specs.declared.TokenError.TheVariants.{Lone, Broken, Open}
use Rattle.std.proofs.Common.{Ok, Err}

abbrev ErrorBreaks : List ℕ → TokenError → Type 0
ErrorBreaks s (Lone p) = Unit {0}
ErrorBreaks s (Broken p) = EscapeBreaks s p
ErrorBreaks s (Open p) = Unit {0}

abbrev TokenBreaks : List ℕ → TokenRead → Type 0
TokenBreaks s (Ok x) = Unit {0}
TokenBreaks s (Err e) = ErrorBreaks s e

abbrev pub ReadingBreaks : List ℕ → Reading → Type 0
ReadingBreaks s (Ok x) = Unit {0}
ReadingBreaks s (Err e) = ErrorBreaks s e

module _ (s : List ℕ) where
  symbol-ends : (kind first start size hash : ℕ) (x : Ending) → EndingBreaks s x → TokenBreaks s (symbol_end s kind first start size hash x)
  unfolding symbol_end
  symbol-ends kind first start size hash (ending.Stopped p) h = tt
  symbol-ends kind first start size hash (ending.Broken p) h = h

  symbol-breaks : (kind first start : ℕ) → TokenBreaks s (symbol_at s kind first start)
  unfolding symbol_at symbol_by measured
  symbol-breaks kind first start = symbol-ends kind first start _ _ (spelled_at false s start).ending (text-breaks false s start)

  string-ends : (first size hash : ℕ) (x : Ending) → EndingBreaks s x → TokenBreaks s (string_end s first size hash x)
  unfolding string_end string_to
  string-ends first size hash (ending.Stopped p) h = either-eq (TokenBreaks s) (byte_at s p) 34 _ _ (λ _. tt) (λ _. tt)
  string-ends first size hash (ending.Broken p) h = h

  string-breaks : (first : ℕ) → TokenBreaks s (string_read s first)
  unfolding string_read string_by measured
  string-breaks first = string-ends first _ _ (spelled_at true s (first + 1)).ending (text-breaks true s (first + 1))

  digits-break : (w : Width) (kind first : ℕ) (negative : Bool) (ds : List ℕ) (next : ℕ) → TokenBreaks s (integer_by w kind first negative ds next)
  unfolding integer_by
  digits-break w kind first negative [] next = tt
  digits-break w kind first negative (d ∷ ds) next = tt

  integer-breaks : (w : Width) (kind first at : ℕ) → TokenBreaks s (integer_at w s kind first at)
  unfolding integer_at digits_read
  integer-breaks w kind first at =
      either-eq (TokenBreaks s) (byte_at s at) 45 _ _ (λ _. digits-break w kind first true _ _) (λ _.
      either-eq (TokenBreaks s) (byte_at s at) 43 _ _ (λ _. digits-break w kind first false _ _) (λ _. digits-break w kind first false _ _))

  marked-breaks : (kind first at : ℕ) → TokenBreaks s (marked_at s kind first at)
  unfolding marked_at marked_from
  marked-breaks kind first at =
      either_true (TokenBreaks s) (starts_symbol (byte_at s (joined s at))) _ _ (λ _. symbol-breaks kind first (joined s at)) (λ _. tt)

  at-breaks : (w : Width) (first at : ℕ) → TokenBreaks s (at_from w s first at)
  unfolding at_from
  at-breaks w first at =
      either-eq (TokenBreaks s) (byte_at s at) 37 _ _ (λ _. marked-breaks token.at_substitute first (at + 1)) (λ _.
      either_true (TokenBreaks s) (starts_symbol (byte_at s at)) _ _ (λ _. symbol-breaks token.at_symbol first at) (λ _.
      either_true (TokenBreaks s) (starts_integer (byte_at s at)) _ _ (λ _. integer-breaks w token.at_integer first at) (λ _. tt)))

  plain-breaks : (w : Width) (at c : ℕ) → TokenBreaks s (plain_read w s at c)
  unfolding plain_read
  plain-breaks w at c =
      either_true (TokenBreaks s) (starts_symbol c) _ _ (λ _. symbol-breaks token.symbol at at) (λ _.
      either_true (TokenBreaks s) (starts_integer c) _ _ (λ _. integer-breaks w token.integer at at) (λ _. tt))

  token-breaks : (w : Width) (at : ℕ) → TokenBreaks s (token_at w s at)
  unfolding token_at at_read
  token-breaks w at =
      either-eq (TokenBreaks s) (byte_at s at) 10 _ _ (λ _. tt) (λ _.
      either-eq (TokenBreaks s) (byte_at s at) 34 _ _ (λ _. string-breaks at) (λ _.
      either-eq (TokenBreaks s) (byte_at s at) 37 _ _ (λ _. marked-breaks token.substitute at (at + 1)) (λ _.
      either-eq (TokenBreaks s) (byte_at s at) 64 _ _ (λ _. at-breaks w at (joined s (at + 1))) (λ _.
      plain-breaks w at (byte_at s at)))))

  as-breaks : (r : TokenRead) → TokenBreaks s r → ReadingBreaks s (as_reading r)
  unfolding as_reading
  as-breaks (Ok x) h = tt
  as-breaks (Err e) h = h

  read-breaks : (w : Width) (at : ℕ) → ReadingBreaks s (read_at w s at)
  unfolding read_at
  read-breaks w at =
      either (ReadingBreaks s) at (length s) _ _ (λ _. as-breaks (token_at w s at) (token-breaks w at)) (λ _. tt)

  pub next-breaks : (w : Width) (at : ℕ) → ReadingBreaks s (next_read w s at)
  unfolding next_read
  next-breaks w at = read-breaks w (gap_end s at)
