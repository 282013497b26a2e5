-- What an accepted check says of its source, stage by stage, and what it leaves.
-- Assumes nothing.
use mathlib.Core.Path.{◌≡◌, refl, sym, ◌∙◌, ap, subst}
use mathlib.Core.Bool.{Bool, true, false}
use mathlib.Core.List.{List}
use Prim.Native.Nat.{ℕ, ◌≤◌}
use native.Mathlib.Omega.{arith}
use lib.ListN.{length}
use Rattle.base_prelude.specs.Choice.{if_true}
use Rattle.base_prelude.specs.Fault.{none}
use Rattle.base_prelude.proofs.Choice.{if_true-yes, if_true-no, true-false}
use Rattle.base_limits.specs.declared.Width.{Width}
use Rattle.lex_source.specs.Token.{Token}
use Rattle.prog_tables.specs.Hosts.{Hosts}
use Rattle.lex_source.specs.Lex.{accepted, lex_of}
use Rattle.parse_outline.specs.Outline.{outline_of}
use Rattle.parse_outline.specs.Parsed as parsed
use Rattle.res_data.specs.Sizes.{length_of}
use Rattle.std.specs.Prelude.{Ok}
use Rattle.parse_verdict.specs.Verdict.{Clean}
use Rattle.parse_verdict.proofs.Decided.{least-none, none-all}
use Rattle.thm_acceptance.specs.Faults.{all_name_faults}
use Rattle.thm_acceptance.specs.Accepts.{is_accepted}
use Rattle.thm_acceptance.proofs.Least.{names-least}
use Rattle.check_judge.specs.Judge.{Known, Judged, refusal, fine, names_with, names_judged, hosted_table, judge_of}
use Rattle.check_judge.proofs.Fine.{names_in, known_in, passed}
use Rattle.check_source.specs.Check.{Lent, Filled, refuse, has_room, accept, answer_to, check_of}

refused-not : {X : Type 0} (number place : ℕ) (b : Lent) → is_accepted (refuse number place b).answer ≡ true → X
unfolding refuse
refused-not number place b h = true-false (sym h)

-- what is known of an accepted source
pub record Checks (w : Width) (h : Hosts) (s : List ℕ) (b : Lent) : Type 0 where
  pub tokens : List Token
  pub c : ℕ
  pub l : ℕ
  pub size : ℕ
  pub lexes : lex_of w s ≡ accepted tokens
  pub outlines : (outline_of w (hosted_table h s tokens) (length s)).answer ≡ parsed.accepted c l
  pub names : none ≤ (names_in w h s tokens c l).fault
  pub sized : length_of w (hosted_table h s tokens) ≡ Ok size
  pub held : has_room b (length tokens) c l size ≡ true
  pub leaves : check_of w h s b ≡ accept w s (known_in w h s tokens c l) size b

module _ (w : Width) (s : List ℕ) (b : Lent) where
  answer-inv : (j : Judged) → is_accepted (answer_to w s j b).answer ≡ true
      → (p : Known) × (size : ℕ) × (j ≡ fine p size) × (answer_to w s j b ≡ accept w s p size b) × (has_room b p.n p.c p.l size ≡ true)
  unfolding answer_to
  answer-inv (refusal number place) h = refused-not number place b h
  answer-inv (fine p size) h = let x = by (has_room b p.n p.c p.l size) refl in (p, size, refl, x.0, x.1)
    where
      by : (v : Bool) → has_room b p.n p.c p.l size ≡ v
          → (if_true (has_room b p.n p.c p.l size) (accept w s p size b) (refuse 16 0 b) ≡ accept w s p size b) × (has_room b p.n p.c p.l size ≡ true)
      by true e = (if_true-yes _ _ e, e)
      by false e = refused-not 16 0 b (ap (λ (x : Filled). is_accepted x.answer) (sym (if_true-no (accept w s p size b) (refuse 16 0 b) e)) ∙ h)

  -- a check that accepts
  pub checks : (hosts : Hosts) → is_accepted (check_of w hosts s b).answer ≡ true → Checks w hosts s b
  unfolding check_of
  checks hosts h =
      let j = answer-inv (judge_of w hosts s) h in
      let v = passed w hosts s j.0 j.1 j.2 in
      record {
        tokens = v.tokens;
        c = v.c;
        l = v.l;
        size = j.1;
        lexes = v.lexes;
        outlines = v.outlines;
        names = v.names;
        sized = v.sized;
        held = subst (λ (p : Known). has_room b p.n p.c p.l j.1 ≡ true) v.is j.4;
        leaves = j.3 ∙ ap (λ (p : Known). accept w s p j.1 b) v.is;
      }

-- no rule on names finds a fault
pub names-clean : (same : ℕ → ℕ → Bool) (t : List ℕ) (n : ℕ) (k y : List ℕ) (l c : ℕ) → none ≤ (names_judged same t n k y l c).fault → Clean (all_name_faults same t n k y l c)
unfolding names_judged names_with
names-clean same t n k y l c h =
    let e = names-least same t n y l k c in
    let g = least-none (all_name_faults same t n k y l c) in
    none-all (all_name_faults same t n k y l c) (omega (arith, e, g, h))
