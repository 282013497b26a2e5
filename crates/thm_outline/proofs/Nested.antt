-- The rows of an accepted source stand where the rules of nesting put them, nothing is open behind the last, blocks are at most 16
-- deep, and parameters and locals are within their limits.
-- Assumes nothing.
use mathlib.Core.Path.{◌≡◌, refl, ◌∙◌, subst}
use mathlib.Core.Bool.{true}
use mathlib.Core.List.{List}
use Prim.Native.Nat.{ℕ, ◌-◌, ◌≤◌, ◌<◌}
use native.Mathlib.Numerals.{add-one}
use native.Mathlib.Omega.{arith}
use borrow.Author.Tests.{eq-eqb}
use lib.ListN.{length}
use Rattle.base_limits.specs.declared.Width.{Width}
use Rattle.parse_units.specs.Parse.{parse_of}
use Rattle.std.proofs.Common.{Ok, Err}
use Rattle.parse_units.specs.Verdict.{Verdict}
use Rattle.parse_outline.specs.Outline.{answer_of, outline_of}
use Rattle.parse_outline.specs.Parsed.{Parsed}
use Rattle.parse_outline.specs.Parsed as answer
use Rattle.res_skeleton.specs.Skeleton.{skeleton_of}
use Rattle.res_skeleton.proofs.Laws.{kind-is, func-is, scope-is, up_is, parameters-are}
use Rattle.prog_tables.specs.Statement.{row_at}
use Rattle.prog_tables.specs.Nesting.{stands, all_closed}
use Rattle.thm_outline.proofs.View.{strip, view_of}
use Rattle.thm_outline.proofs.Standing.{open-same, stands_same}
use Rattle.thm_outline.proofs.OneMore.{Formed}
use Rattle.thm_outline.proofs.Kept.{Nests}
use Rattle.thm_outline.proofs.Bounds.{Bounds, parse-answers}
use Rattle.thm_outline.proofs.Frames.{scope-low}
use Rattle.thm_outline.proofs.Depth.{shallow-same}
use Rattle.thm_outline.proofs.Locals.{few-same}
use Rattle.prog_tables.specs.WellFormed.{shallow, few_locals}

-- an answer with the rows x
pub record Accepting (c : ℕ) (x : List ℕ) : Type 0 where
  pub formed : Formed x c 0
  pub few : c ≤ 1024
  pub shallows : (m : ℕ) → m < c → shallow (view_of x) m ≡ true
  pub locals : (m : ℕ) → m < c → few_locals (view_of x) m ≡ true

abbrev Answered : Parsed → List ℕ → Type 0
Answered (Ok o) x = Accepting o.statements x
Answered (Err r) x = Unit {0}

answered : (v : Verdict) (x : List ℕ) → Nests v x → Bounds v x → Answered (answer_of v) x
unfolding answer_of
answered (Ok v) x h b =
    let e : h.0.c ≡ v.count - 1 = omega (arith, h.0.rows.count) in
    let d : b.c ≡ v.count - 1 = omega (arith, b.count) in
    record {
      formed = subst (λ (i : ℕ). Formed x i 0) e h.0.rows.formed;
      few = omega (arith, h.1);
      shallows = λ m l. b.rows-shallow m (omega arith);
      locals = λ m l. b.rows_few m (omega arith);
    }
answered (Err k) x h b = tt

outline-answered : (w : Width) (t : List ℕ) (n : ℕ) → length t ≡ 32768 → Answered (outline_of w t n).answer (outline_of w t n).rows
unfolding outline_of
outline-answered w t n e =
    let p = parse-answers w t n e in answered (parse_of w t n).verdict (parse_of w t n).outline p.0 p.1

-- ---- the skeleton's rows are those of the outline

module _ (x : List ℕ) (c : ℕ) (h : c ≤ 1024) where
  pub strip-is : (m : ℕ) → m < c → strip (row_at (skeleton_of x c) m) ≡ strip (view_of x m)
  strip-is m l =
      rw (kind-is x c h m l, func-is x c h m l, scope-is x c h m l, up_is x c h m l, parameters-are x c h m l, add-one m) refl

module _ (w : Width) (t : List ℕ) (n c l : ℕ) (e : length t ≡ 32768) (a : (outline_of w t n).answer ≡ answer.accepted c l) where
  -- the rows of the outline
  pub accepted : Accepting c (outline_of w t n).rows
  accepted = subst (λ (p : Parsed). Answered p (outline_of w t n).rows) a (outline-answered w t n e)

  abbrev x : List ℕ
  x = (outline_of w t n).rows

  -- the skeleton has the same
  pub rows_alike : (m : ℕ) → m < c → strip (row_at (skeleton_of (outline_of w t n).rows c) m) ≡ strip (view_of (outline_of w t n).rows m)
  rows_alike m h = strip-is x c accepted.few m h

  -- "each function, `if` and block closed by its own `end`, no `let` in an `if` of its frame"
  pub rows-stand : (m : ℕ) → m < c → stands (row_at (skeleton_of (outline_of w t n).rows c)) m ≡ true
  rows-stand m h = stands_same (view_of x) (row_at (skeleton_of x c)) c rows_alike accepted.formed.rows m h

  pub rows-closed : all_closed (row_at (skeleton_of (outline_of w t n).rows c)) c ≡ true
  unfolding all_closed
  rows-closed =
      eq-eqb _ _
      (open-same (view_of x) (row_at (skeleton_of x c)) c rows_alike c (omega arith) ∙ accepted.formed.last)

  -- "blocks nested 16 deep"
  pub rows-shallow : (m : ℕ) → m < c → shallow (row_at (skeleton_of (outline_of w t n).rows c)) m ≡ true
  rows-shallow m h =
      shallow-same (view_of x) (row_at (skeleton_of x c)) c rows_alike (scope-low (view_of x) c accepted.formed.rows) m h (accepted.shallows m h)

  -- "parameters and arguments 8; locals in scope 64, parameters and shadowed ones included"
  pub rows_few : (m : ℕ) → m < c → few_locals (row_at (skeleton_of (outline_of w t n).rows c)) m ≡ true
  rows_few m h = few-same (view_of x) (row_at (skeleton_of x c)) c accepted.formed.rows rows_alike m h (accepted.locals m h)
