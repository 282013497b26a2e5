-- The lexer's tables have what the verdict asks of them.
-- Assumes nothing.
use mathlib.Core.Path.{◌≡◌, refl, sym, ◌∙◌, ap, subst}
use mathlib.Core.List.{List, [], ◌∷◌}
use Prim.Native.Nat.{ℕ, zero, suc, ◌+◌, ◌*◌, ◌-◌, ◌≤◌, ◌<◌}
use native.Mathlib.Decide.{dec_lt}
use native.Mathlib.Omega.{arith}
use lib.ListN.{length, get_or, length-append, length-replicate}
use Rattle.base_prelude.specs.Choice.{if_lt, if_eq}
use Rattle.base_prelude.specs.Fault.{key}
use Rattle.base_prelude.specs.Lists.{zeros}
use Rattle.base_prelude.proofs.Choice.{either, if_eq-yes, if_eq-no, if_lt-yes}
use Rattle.base_limits.specs.declared.Width.{Width}
use Rattle.parse_lines.specs.Tokens.{token_word, kind_at, place_at}
use Rattle.lex_source.specs.Token.{Token}
use Rattle.lex_source.specs.Rows.{row_of, rows_of, token_table}
use Rattle.lex_source.specs.Lex.{Outcome, accepted, refused, tokens_from, lex_of}
use Rattle.lex_source.proofs.Tokens.{no_token, every-at}
use Rattle.lex_source.proofs.Rows.{length-rows}
use Rattle.lex_source.proofs.Laws.{TokenGood, Good, accepted-good, token-read, token-behind}
use Rattle.parse_verdict.specs.Verdict.{Rising}

-- a table of at most 4,096 tokens has its whole length
table-long : (ts : List Token) → length ts ≤ 4096 → length (token_table ts) ≡ 32768
unfolding token_table
table-long ts h =
    length-append (rows_of ts) (zeros (32768 - length (rows_of ts))) ∙ ap (λ (n : ℕ). length (rows_of ts) + n) (length-replicate {A = ℕ} (32768 - length (rows_of ts)) 0)
    ∙ (let z : length (rows_of ts) + (32768 - length (rows_of ts)) ≡ 32768 = omega (arith, length-rows ts) in z)

not-refused : (k : ℕ) (ts : List Token) → refused k ≡ accepted ts → ⊥
not-refused k ts e = let z : ◌≡◌ {A = ℕ} 0 1 = cc in omega arith

-- an accepted source is short
short : (w : Width) (s : List ℕ) (ts : List Token) → lex_of w s ≡ accepted ts → length s ≤ 16384
unfolding lex_of
short w s ts e =
    elim (dec_lt 16384 (length s)) [
      | yes h ↦ absurd (not-refused (key 16384 1) ts (sym (if_lt-yes (refused (key 16384 1)) _ h) ∙ e))
      | no h ↦ omega arith
    ]

module _ (w : Width) (s : List ℕ) (ts : List Token) (e : lex_of w s ≡ accepted ts) where
  good : Good s ts (length s)
  good = accepted-good w s ts e

  pub lexed-long : length (token_table ts) ≡ 32768
  lexed-long = table-long ts good.few

  kind-token : (i : ℕ) → i < length ts → kind_at (token_table ts) i ≡ (get_or ts i no_token).kind
  unfolding token_word row_of
  kind-token i h = token-read ts i 0 h (omega arith)

  first-token : (i : ℕ) → i < length ts → token_word (token_table ts) i 1 ≡ (get_or ts i no_token).first
  unfolding token_word row_of
  first-token i h = token-read ts i 1 h (omega arith)

  kind-none : (i : ℕ) → length ts ≤ i → kind_at (token_table ts) i ≡ 0
  unfolding token_word
  kind-none i h = token-behind ts i 0 h

  token-good : (i : ℕ) → i < length ts → TokenGood s (get_or ts i no_token)
  token-good i h = every-at (TokenGood s) ts i good.each h

  place-token : (i : ℕ) → i < length ts → place_at (token_table ts) (length s) i ≡ (get_or ts i no_token).first
  unfolding place_at
  place-token i h =
      if_eq-no _ _ (λ z. let y : ⊥ = omega (arith, kind-token i h, (token-good i h).kind-low) in y) ∙ first-token i h

  place_none : (i : ℕ) → length ts ≤ i → place_at (token_table ts) (length s) i ≡ length s
  unfolding place_at
  place_none i h = if_eq-yes _ _ (kind-none i h)

  rises-here : (i : ℕ) → i < length ts → place_at (token_table ts) (length s) i < place_at (token_table ts) (length s) (i + 1)
  rises-here i h =
      elim (dec_lt (i + 1) (length ts)) [
        | yes g ↦ let z : (get_or ts i no_token).next ≤ (get_or ts (i + 1) no_token).first = good.rising.0 i g in
            omega (arith, place-token i h, place-token (i + 1) g, (token-good i h).ahead)
        | no g ↦ let z : (get_or ts i no_token).next ≤ length s = good.rising.1 i h in
            omega (arith, place-token i h, place_none (i + 1) (omega arith), (token-good i h).ahead)
      ]

  pub lexed-rising : Rising (token_table ts) (length s)
  lexed-rising =
      record {
        rises = λ i k. elim (dec_lt i (length ts)) [ yes h ↦ rises-here i h | no h ↦ let z : ⊥ = omega (arith, kind-none i (omega arith)) in absurd z ];
        ends = λ i z. elim (dec_lt i (length ts)) [
          | yes h ↦ let y : ⊥ = omega (arith, kind-token i h, (token-good i h).kind-low) in absurd y
          | no h ↦ kind-none (i + 1) (omega arith)
        ];
        low = λ i. elim (dec_lt i (length ts)) [
          | yes h ↦ omega (arith, place-token i h, (token-good i h).ahead, (token-good i h).within, short w s ts e)
          | no h ↦ omega (arith, place_none i (omega arith), short w s ts e)
        ];
      }
