-- What a source without a fault has, group by group.
-- Assumes nothing.
use mathlib.Core.Path.{◌≡◌, refl, sym, ◌∙◌, subst}
use mathlib.Core.List.{List}
use Prim.Native.Nat.{ℕ, ◌≤◌}
use native.Mathlib.Decide.{dec_lt}
use native.Mathlib.Omega.{arith}
use lib.ListN.{length}
use Rattle.base_prelude.specs.Fault.{none}
use Rattle.base_prelude.proofs.Choice.{if_lt-yes, if_lt-no}
use Rattle.base_limits.specs.declared.Width.{Width}
use Rattle.lex_source.specs.Token.{Token}
use Rattle.prog_tables.specs.Hosts.{Hosts}
use Rattle.lex_source.specs.Lex.{Outcome, accepted, refused, lex_of}
use Rattle.lex_source.proofs.Laws.{accepted-good}
use Rattle.parse_outline.specs.Outline.{outline_of}
use Rattle.parse_outline.specs.Parsed.{Parsed}
use Rattle.parse_outline.specs.Parsed as parsed
use Rattle.res_skeleton.specs.Skeleton.{skeleton_of}
use Rattle.res_exports.specs.Exports.{Exported}
use Rattle.res_data.specs.Sizes.{length_of}
use Rattle.std.specs.Prelude.{Result, Ok, Err}
use Rattle.res_scope.specs.Names.{same_number}
use Rattle.res_text.specs.Same.{same_text}
use Rattle.parse_verdict.proofs.Counts.{accepted-counts}
use Rattle.check_judge.specs.Judge.{Known, known, refusal, fine, size_group, names_judged, fault_group, name_group, outline_group, line_group, hosted_table, token_group, judge_of}
use Rattle.check_judge.proofs.Hosted.{hosted-same, table-long}

not-fine : {X : Type 0} (number place : ℕ) (p : Known) (size : ℕ) → refusal number place ≡ fine p size → X
not-fine number place p size e = let z : ◌≡◌ {A = ℕ} 0 1 = cc in absurd (let y : ⊥ = omega arith in y)

size-fine : (m : ℕ) (q : Known) (z : Result ℕ ℕ) (p : Known) (size : ℕ) → size_group m q z ≡ fine p size → (z ≡ Ok size) × (p ≡ q)
unfolding size_group
size-fine m q (Ok n) p size h = (cc, cc)
size-fine m q (Err i) p size h = not-fine _ _ p size h

fault-fine : (w : Width) (m n : ℕ) (t : List ℕ) (c : ℕ) (k : List ℕ) (l : ℕ) (y : List ℕ) (e : Exported) (p : Known) (size : ℕ) → fault_group w m n t c k l y e ≡ fine p size
    → (none ≤ e.fault) × (length_of w t ≡ Ok size) × (p ≡ known n t c k l y e.flags)
unfolding fault_group
fault-fine w m n t c k l y e p size h =
    elim (dec_lt e.fault none) [
      | yes g ↦ not-fine _ _ p size (sym (if_lt-yes _ _ g) ∙ h)
      | no g ↦
          let z : none ≤ e.fault = omega arith in
          let v = size-fine m (known n t c k l y e.flags) (length_of w t) p size (sym (if_lt-no _ _ z) ∙ h) in
          (z, v.0, v.1)
    ]

-- the names of c statements and l labels of the tokens ts, judged
abbrev pub names_in : Width → Hosts → List ℕ → List Token → ℕ → ℕ → Exported
names_in w h s ts c l =
    names_judged (same_text s (hosted_table h s ts)) (hosted_table h s ts) (length s) (skeleton_of (outline_of w (hosted_table h s ts) (length s)).rows c) (outline_of w (hosted_table h s ts) (length s)).labels l c

abbrev pub known_in : Width → Hosts → List ℕ → List Token → ℕ → ℕ → Known
known_in w h s ts c l =
    known (length ts) (hosted_table h s ts) c (skeleton_of (outline_of w (hosted_table h s ts) (length s)).rows c) l (outline_of w (hosted_table h s ts) (length s)).labels (names_in w h s ts c l).flags

pub record Passed (w : Width) (h : Hosts) (s : List ℕ) (p : Known) (size : ℕ) : Type 0 where
  pub tokens : List Token
  pub c : ℕ
  pub l : ℕ
  pub lexes : lex_of w s ≡ accepted tokens
  pub outlines : (outline_of w (hosted_table h s tokens) (length s)).answer ≡ parsed.accepted c l
  pub names : none ≤ (names_in w h s tokens c l).fault
  pub sized : length_of w (hosted_table h s tokens) ≡ Ok size
  pub is : p ≡ known_in w h s tokens c l

module _ (w : Width) (h : Hosts) (s : List ℕ) (p : Known) (size : ℕ) where
  outline-passed : (ts : List Token) → lex_of w s ≡ accepted ts → (a : Parsed) → (outline_of w (hosted_table h s ts) (length s)).answer ≡ a
      → outline_group w (same_text s (hosted_table h s ts)) (length s) (length ts) (hosted_table h s ts) a (outline_of w (hosted_table h s ts) (length s)).rows (outline_of w (hosted_table h s ts) (length s)).labels ≡ fine p size
      → Passed w h s p size
  unfolding outline_group name_group
  outline-passed ts e (Ok o) a g =
      let v = fault-fine w (length s) (length ts) (hosted_table h s ts) o.statements _ o.labels _ (names_in w h s ts o.statements o.labels) p size g in
      record { tokens = ts; c = o.statements; l = o.labels; lexes = e; outlines = a; names = v.0; sized = v.1; is = v.2 }
  outline-passed ts e (Err r) a g = not-fine r.number r.place p size g

  token-passed : (o : Outcome) → lex_of w s ≡ o → token_group w h s o ≡ fine p size → Passed w h s p size
  unfolding token_group line_group
  token-passed (accepted ts) e g = outline-passed ts e (outline_of w (hosted_table h s ts) (length s)).answer refl g
  token-passed (refused k) e g = not-fine _ _ p size g

  pub passed : judge_of w h s ≡ fine p size → Passed w h s p size
  unfolding judge_of
  passed g = token-passed (lex_of w s) refl g

  module _ (f : judge_of w h s ≡ fine p size) where
    -- the counts are within the limits
    pub fine-few : (p.n ≤ 4096) × (p.c ≤ 1024)
    fine-few =
        let q = passed f in
        let g = accepted-good w s q.tokens q.lexes in
        let d = accepted-counts w (hosted_table h s q.tokens) (length s) q.c q.l (table-long h s q.tokens w q.lexes) q.outlines in
        subst (λ (x : Known). (x.n ≤ 4096) × (x.c ≤ 1024)) (sym q.is) (g.few, d.0)

    -- tokens have one name where their numbers are one
    pub fine-same : same_number p.t ≡ same_text s p.t
    fine-same =
        let q = passed f in
        subst (λ (x : Known). same_number x.t ≡ same_text s x.t) (sym q.is) (hosted-same h s q.tokens w q.lexes)
