-- From the lexer's answer to the judgement: the laws of `judge`.
-- Assumes nothing.
use mathlib.Core.Path.{◌≡◌, refl, sym, ◌∙◌, ap, ap₂}
use mathlib.Core.Bool.{Bool}
use mathlib.Core.List.{List}
use Prim.Native.Nat.{ℕ, ◌%◌, ◌<◌}
use native.Mathlib.Nat.{mod-eq_of_lt}
use native.Mathlib.Omega.{arith}
use lib.ListN.{length, length-replicate}
use Rattle.base_limits.specs.declared.Width.{Width}
use Rattle.lex_source.specs.Token.{Token}
use Rattle.lex_source.specs.Rows.{token_table}
use Rattle.lex_source.specs.Lex.{Lexed, Outcome, accepted, refused, lex_of, answer_of, table_of}
use Rattle.std.proofs.Common.{Ok, Err}
use Rattle.base_limits.specs.declared.Refusal.{Refusal}
use Rattle.lex_source.proofs.Laws.{accepted-good}
use Rattle.res_scope.specs.Names.{same_number}
use Rattle.parse_verdict.proofs.Lexed.{lexed-long}
use Rattle.res_hosts.specs.Marks.{host_list, hosted_tokens}
use Rattle.res_hosts.proofs.Laws.{hosted-long}
use Rattle.parse_verdict.proofs.Lexing.{lexed-fine}
use Rattle.check_judge.specs.Judge.{Judged, refusal, line_group, hosted_table, token_group, judge_of}
use Rattle.check_judge.proofs.Hosted.{hosted-same}

-- what is known where the lexer gives tokens
record Tokens (w : Width) (s t : List ℕ) (n : ℕ) : Type 0 where
  tokens : List Token
  lexes : lex_of w s ≡ accepted tokens
  count : n ≡ length tokens
  table : t ≡ token_table tokens

not-tokens : (d : Refusal) (n : ℕ) → ◌≡◌ {A = Lexed} (Err d) (Ok n) → ⊥
not-tokens d n e = let z : ◌≡◌ {A = ℕ} 0 1 = cc in omega arith

tokens-by : (w : Width) (s t : List ℕ) (n : ℕ) (o : Outcome) → lex_of w s ≡ o → Ok n ≡ answer_of o → t ≡ table_of o → Tokens w s t n
unfolding answer_of table_of
tokens-by w s t n (accepted ts) e q p = record { tokens = ts; lexes = e; count = cc; table = p }
tokens-by w s t n (refused k) e q p = absurd (not-tokens _ n (sym q))

lexed-size : (w : Width) (s : List ℕ) (o : Outcome) → lex_of w s ≡ o → length (table_of o) ≡ 32768
unfolding table_of
lexed-size w s (accepted ts) e = lexed-long w s ts e
lexed-size w s (refused k) e = length-replicate {A = ℕ} 32768 0

-- the table keeps its length
pub token-long : (words names : List ℕ) (w : Width) (s t v : List ℕ) (n : ℕ) → t ≡ table_of (lex_of w s) → v ≡ hosted_tokens (host_list words names) s n t
    → length v ≡ 32768
token-long words names w s t v n p d =
    ap length d ∙ hosted-long (host_list words names) s n t ∙ ap length p ∙ lexed-size w s (lex_of w s) refl

module _ (words names : List ℕ) (w : Width) (s t : List ℕ) (r : Lexed) (q : r ≡ answer_of (lex_of w s)) (p : t ≡ table_of (lex_of w s)) where
  module _ (n : ℕ) (e : r ≡ Ok n) where
    known : Tokens w s t n
    known = tokens-by w s t n (lex_of w s) refl (sym e ∙ q) p

    pub token-count : n < 4294967296
    token-count = let g = accepted-good w s known.tokens known.lexes in omega (arith, g.few, known.count)

    marked-is : (v : List ℕ) → v ≡ hosted_tokens (host_list words names) s n t → v ≡ hosted_table (host_list words names) s known.tokens
    marked-is v d = d ∙ ap₂ (hosted_tokens (host_list words names) s) known.count known.table

    bytes_small : length s % 4294967296 ≡ length s
    bytes_small = mod-eq_of_lt (omega (arith, (lexed-fine w s known.tokens known.lexes).0))

    pub judge-tokens : (v : List ℕ) (x : Judged) → v ≡ hosted_tokens (host_list words names) s n t
        → x ≡ line_group w (same_number v) (length s % 4294967296) n v → x ≡ judge_of w (host_list words names) s
    unfolding judge_of token_group
    judge-tokens v x d g =
        let k = known in
        let h = host_list words names in
        g
        ∙ ap (λ (m : ℕ). line_group w (same_number v) m n v) bytes_small
        ∙ ap₂ (λ (i : ℕ) (z : List ℕ). line_group w (same_number z) (length s) i z) k.count (marked-is v d)
        ∙ ap (λ (z : ℕ → ℕ → Bool). line_group w z (length s) (length k.tokens) (hosted_table h s k.tokens)) (hosted-same h s k.tokens w k.lexes)
        ∙ sym (ap (token_group w h s) k.lexes)

  refused-by : (o : Outcome) (d : Refusal) → Err d ≡ answer_of o → refusal d.number d.place ≡ token_group w (host_list words names) s o
  unfolding token_group answer_of
  refused-by (accepted ts) d h = absurd (not-tokens d (length ts) h)
  refused-by (refused k) d h = cc

  pub judge-refused : (d : Refusal) → r ≡ Err d → refusal d.number d.place ≡ judge_of w (host_list words names) s
  unfolding judge_of
  judge-refused d e = refused-by (lex_of w s) d (sym e ∙ q)

pub ruleset source-ways = (judge-tokens, judge-refused)
