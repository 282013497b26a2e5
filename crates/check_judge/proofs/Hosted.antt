-- The marks of imports' names leave what the other stages read of a token: its name, its place, the table's length.
-- Assumes nothing.
use mathlib.Core.Path.{◌≡◌, refl, sym, ◌∙◌, ap, ap₂, subst, fun_ext}
use mathlib.Core.Bool.{Bool}
use mathlib.Core.List.{List}
use Prim.Native.Nat.{ℕ, ◌+◌, ◌≤◌, ◌<◌}
use native.Mathlib.Omega.{arith}
use lib.ListN.{length}
use Rattle.base_limits.specs.declared.Width.{Width}
use Rattle.prog_tables.specs.Hosts.{Hosts}
use Rattle.lex_source.specs.Token.{Token}
use Rattle.lex_source.specs.Rows.{token_table}
use Rattle.lex_source.specs.Lex.{accepted, lex_of}
use Rattle.parse_lines.specs.Tokens.{token_word, kind_at, place_at}
use Rattle.parse_verdict.specs.Verdict.{Rising}
use Rattle.parse_verdict.proofs.Lexed.{lexed-long, lexed-rising}
use Rattle.res_scope.specs.Names.{has_name, same_number}
use Rattle.res_text.specs.Same.{name_of, same_text}
use Rattle.res_text.proofs.Same.{same_names}
use Rattle.res_hosts.proofs.Laws.{word-stays, hosted-long, place-stays}
use Rattle.check_judge.specs.Judge.{hosted_table}

module _ (h : Hosts) (s : List ℕ) (ts : List Token) where
  pub kind-hosted : (i : ℕ) → kind_at (hosted_table h s ts) i ≡ kind_at (token_table ts) i
  kind-hosted i = word-stays h s (length ts) (token_table ts) i 0 (omega arith)

  pub word-hosted : (i f : ℕ) → f < 7 → token_word (hosted_table h s ts) i f ≡ token_word (token_table ts) i f
  word-hosted i f g = word-stays h s (length ts) (token_table ts) i f g

  named-hosted : (i : ℕ) → has_name (hosted_table h s ts) i ≡ has_name (token_table ts) i
  unfolding has_name
  named-hosted i = rw (kind-hosted i)

  pub name-hosted : (i : ℕ) → name_of s (hosted_table h s ts) i ≡ name_of s (token_table ts) i
  unfolding name_of
  name-hosted i = rw (kind-hosted i, word-hosted i 1 (omega arith))

  number_at : (i j : ℕ) → same_number (hosted_table h s ts) i j ≡ same_number (token_table ts) i j
  unfolding same_number
  number_at i j = rw (named-hosted i, named-hosted j, word-hosted i 4 (omega arith), word-hosted j 4 (omega arith))

  text_at : (i j : ℕ) → same_text s (hosted_table h s ts) i j ≡ same_text s (token_table ts) i j
  unfolding same_text
  text_at i j = rw (named-hosted i, named-hosted j, name-hosted i, name-hosted j)

  pub text-hosted : same_text s (hosted_table h s ts) ≡ same_text s (token_table ts)
  text-hosted = fun_ext (λ i. fun_ext (λ j. text_at i j))

  module _ (w : Width) (e : lex_of w s ≡ accepted ts) where
    -- numbers compare as bytes do
    pub hosted-same : same_number (hosted_table h s ts) ≡ same_text s (hosted_table h s ts)
    hosted-same = fun_ext (λ i. fun_ext (λ j. number_at i j)) ∙ same_names w s ts e ∙ sym text-hosted

    pub table-long : length (hosted_table h s ts) ≡ 32768
    table-long = hosted-long h s (length ts) (token_table ts) ∙ lexed-long w s ts e

    place-hosted : (i : ℕ) → place_at (hosted_table h s ts) (length s) i ≡ place_at (token_table ts) (length s) i
    place-hosted i = place-stays h s (length ts) (token_table ts) (length s) i

    pub hosted-rising : Rising (hosted_table h s ts) (length s)
    hosted-rising =
        let r = lexed-rising w s ts e in
        record {
          rises = λ i k. rw (place-hosted i, place-hosted (i + 1)) (r.rises i (rw (kind-hosted i) at k));
          ends = λ i z. kind-hosted (i + 1) ∙ r.ends i (sym (kind-hosted i) ∙ z);
          low = λ i. rw (place-hosted i) (r.low i);
        }
