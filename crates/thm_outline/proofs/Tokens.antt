-- The name of a label's token, and of a symbol: 1 to 64 bytes, none of the reserved words.
-- Assumes nothing.
use mathlib.Core.Path.{◌≡◌, refl, sym, ◌∙◌, ap, ap₂, subst}
use mathlib.Core.Bool.{Bool, true, false}
use mathlib.Core.List.{List, [], ◌∷◌, ◌++◌}
use mathlib.Core.Logic.{◌⊎◌, inl, inr, ⊎_elim}
use Prim.Native.Nat.{ℕ, zero, suc, ◌+◌, ◌*◌, ◌-◌, ◌≤◌, ◌<◌}
use native.Mathlib.Decide.{dec_lt, ℕ_discrete}
use native.Mathlib.Omega.{arith}
use lib.ListN.{length, get_or}
use Rattle.base_prelude.specs.Choice.{if_lt, if_eq, if_true}
use Rattle.base_prelude.specs.Fault.{none}
use Rattle.base_prelude.specs.Walk.{Step, go, stop, walk}
use Rattle.base_prelude.proofs.Choice.{either, either-eq, either_true, if_lt-yes, if_lt-no, if_eq-yes, if_eq-no, if_true-yes, if_true-no}
use Rattle.base_prelude.proofs.Walk.{Kept, walk_kept}
use Rattle.base_limits.specs.declared.Width.{Width}
use Rattle.lang_words.specs.Words.{number_of}
use Rattle.lang_words.specs.Sections.{section_of, known_of}
use Rattle.lang_words.proofs.Exact.{Entered, number-entered, number-below}
use Rattle.lex_spelling.specs.Text.{name_at}
use Rattle.lex_lexeme.specs.Reading.{Reading, is_named, name_start, text_of, next_read}
use Rattle.lex_lexeme.specs.declared.Lexeme.{Lexeme}
use Rattle.lex_lexeme.specs.declared.TokenError.{TokenError}
use Rattle.lex_lexeme.specs.declared.TokenError.TheVariants.{Lone, Broken, Open}
use Rattle.lex_source.specs.Token.{Token, is_substitute, word_of, token_value, token_of}
use Rattle.lex_source.specs.Faults.{fault_of}
use Rattle.lex_source.specs.Lex as lex
use Rattle.lex_source.specs.Lex.{State, state, Outcome, accepted, refused, token_step, lex_step, tokens_from, lex_of}
use Rattle.lex_source.specs.Rows.{row_of, token_table}
use Rattle.lex_source.proofs.Tokens.{no_token, Every, every_more, every-at}
use Rattle.lex_source.proofs.Laws.{TokenGood, Good, accepted-good, token-read, token-behind}
use Rattle.parse_lines.specs.Tokens.{token_word, kind_at, value_at, word_at}
use Rattle.thm_outline.proofs.Unit.{Free}
use Rattle.std.proofs.Common.{Option, Some, None, Result, Ok, Err}

-- ---- a name that is no reserved word

-- the number of a reserved word
number-low : (name : List ℕ) → number_of name ≤ 51
number-low name =
    elim (ℕ_discrete (number_of name) 0) [
      | yes e ↦ omega arith
      | no d ↦ let x : Entered name (number_of name) = number-entered name (number_of name) refl d in omega (arith, x.number, number-below x.place x.within)
    ]

known-free : (name : List ℕ) → (1 ≤ known_of name → 52 ≤ known_of name) → number_of name ≡ 0
unfolding known_of
known-free name =
    either-eq (λ (v : ℕ). (1 ≤ v → 52 ≤ v) → number_of name ≡ 0) (number_of name) 0 _ _ (λ e _. e)
    (λ d h. let z : ⊥ = omega (arith, h (omega arith), number-low name) in absurd z)

-- ---- the tokens of labels

-- a label or a symbol
abbrev pub Plain : ℕ → Type 0
Plain kind = (kind ≡ 2) ⊎ (kind ≡ 3)

-- its value is the size of its name, and its word the number of its name
abbrev Made : Token → Type 0
Made x = Plain x.kind → (x.value ≡ length x.text) × (x.word ≡ known_of x.text)

plain-range : (kind : ℕ) → Plain kind → (2 ≤ kind) × (kind ≤ 3)
plain-range kind h = ⊎_elim (λ e. (omega arith, omega arith)) (λ e. (omega arith, omega arith)) h

plain-is : (kind : ℕ) → Plain kind → is_substitute kind ≡ false
unfolding is_substitute if_eq
plain-is kind h = ⊎_elim (λ e. ap is_substitute e) (λ e. ap is_substitute e) h

plain-named : (kind : ℕ) → Plain kind → is_named kind ≡ true
unfolding is_named if_lt
plain-named kind h = ⊎_elim (λ e. ap is_named e) (λ e. ap is_named e) h

value_made : (w : Width) (kind value size word : ℕ) → Plain kind → token_value w kind value size word ≡ size
unfolding token_value
value_made w kind value size word e =
    let r = plain-range kind e in
    if_true-no _ _ (plain-is kind e) ∙ if_eq-no _ _ (λ z. let y : ⊥ = omega (arith, r.0, r.1) in y) ∙ if_eq-no _ _ (λ z. let y : ⊥ = omega (arith, r.0, r.1) in y)

word_made : (kind : ℕ) (text : List ℕ) → Plain kind → word_of kind text ≡ known_of text
unfolding word_of
word_made kind text e = if_true-yes _ _ (plain-named kind e) ∙ if_true-no _ _ (plain-is kind e)

token-made : (w : Width) (s : List ℕ) (ts : List Token) (x : Lexeme) → Made (token_of w s ts x)
unfolding token_of
token-made w s ts x e = (value_made w x.kind _ _ _ e, word_made x.kind _ e)

abbrev MadeIn : Outcome → Type 0
MadeIn (accepted ts) = Every Made ts
MadeIn (refused k) = Unit {0}

step-made : (w : Width) (s : List ℕ) (q : State) (r : Reading) → Every Made q.tokens → Kept (λ (x : State). Every Made x.tokens) MadeIn (token_step w s q r)
unfolding token_step
step-made w s q (Ok None) h = h
step-made w s q (Err (Lone p)) h = tt
step-made w s q (Err (Broken p)) h = tt
step-made w s q (Err (Open p)) h = tt
step-made w s q (Ok (Some x)) h = every_more Made q.tokens (token_of w s q.tokens x) h (token-made w s q.tokens x)

unit-step-made : (w : Width) (s : List ℕ) (q : State) → Every Made q.tokens → Kept (λ (x : State). Every Made x.tokens) MadeIn (lex_step w s q)
unfolding lex_step lex.read_step
unit-step-made w s q h =
    either (Kept (λ (x : State). Every Made x.tokens) MadeIn) (fault_of s (length q.tokens) (next_read w s q.at)) none _ _ (λ _. tt) (λ _. step-made w s q (next_read w s q.at) h)

from-made : (w : Width) (s : List ℕ) → MadeIn (tokens_from w s (state 0 []))
unfolding tokens_from
from-made w s = walk_kept (λ (x : State). Every Made x.tokens) MadeIn (lex_step w s) (refused none) tt (unit-step-made w s) (suc (length s)) (state 0 []) tt

lex-made : (w : Width) (s : List ℕ) → MadeIn (lex_of w s)
unfolding lex_of
lex-made w s = either MadeIn 16384 (length s) _ _ (λ _. tt) (λ _. from-made w s)

-- ---- the table of an accepted source

-- such a token: its name as it stands in the source
pub record LabelToken (s t : List ℕ) (i : ℕ) : Type 0 where
  pub some : 1 ≤ value_at t i
  pub short : value_at t i ≤ 64
  pub size : length (name_at s (token_word t i 1)) ≡ value_at t i
  pub free : Free t i → number_of (name_at s (token_word t i 1)) ≡ 0

-- its name begins at its first byte
pub plain-start : (s : List ℕ) (kind first : ℕ) → Plain kind → name_start s kind first ≡ first
unfolding name_start
plain-start s kind first e = if_lt-yes _ _ (let r = plain-range kind e in omega (arith, r.1))

module _ (w : Width) (s : List ℕ) (ts : List Token) (e : lex_of w s ≡ accepted ts) (i : ℕ)
    (k : (kind_at (token_table ts) i ≡ 2) ⊎ (kind_at (token_table ts) i ≡ 3)) where
  within : i < length ts
  unfolding token_word
  within =
      elim (dec_lt i (length ts)) [
        | yes l ↦ l
        | no l ↦ let z : ⊥ = omega (arith, token-behind ts i 0 (omega arith), (plain-range (kind_at (token_table ts) i) k).0) in absurd z
      ]

  abbrev x : Token
  x = get_or ts i no_token

  word-is : (j : ℕ) → j < 8 → token_word (token_table ts) i j ≡ get_or (row_of x) j 0
  unfolding token_word
  word-is j h = token-read ts i j within h

  kind-is : (x.kind ≡ 2) ⊎ (x.kind ≡ 3)
  unfolding row_of
  kind-is = subst Plain (word-is 0 (omega arith)) k

  first-is : token_word (token_table ts) i 1 ≡ x.first
  unfolding row_of
  first-is = word-is 1 (omega arith)

  value-is : value_at (token_table ts) i ≡ x.value
  unfolding row_of
  value-is = word-is 3 (omega arith)

  number_is : word_at (token_table ts) i ≡ x.word
  unfolding row_of
  number_is = word-is 5 (omega arith)

  made : (x.value ≡ length x.text) × (x.word ≡ known_of x.text)
  made = every-at Made ts i (subst MadeIn e (lex-made w s)) within kind-is

  good : TokenGood s x
  good = every-at (TokenGood s) ts i (accepted-good w s ts e).each within

  named : is_named x.kind ≡ true
  named = plain-named x.kind kind-is

  text-is : x.text ≡ name_at s (token_word (token_table ts) i 1)
  text-is = good.spelt named ∙ ap (name_at s) (plain-start s x.kind x.first kind-is ∙ sym first-is)

  size_is : length (name_at s (token_word (token_table ts) i 1)) ≡ value_at (token_table ts) i
  size_is = ap length (sym text-is) ∙ sym made.0 ∙ sym value-is

  pub label-token : LabelToken s (token_table ts) i
  label-token =
      record {
        some = subst (λ (n : ℕ). 1 ≤ n) (sym made.0 ∙ sym value-is) (good.some named);
        short = subst (λ (n : ℕ). n ≤ 64) (sym made.0 ∙ sym value-is) (good.short named);
        size = size_is;
        free = λ f. subst (λ (v : List ℕ). number_of v ≡ 0) text-is (known-free x.text (subst (λ (v : ℕ). 1 ≤ v → 52 ≤ v) (number_is ∙ made.1) f));
      }
