-- One law for each way through a function of this crate.
-- Assumes nothing.
use mathlib.Core.Path.{◌≡◌, sym, ◌∙◌, ap}
use mathlib.Core.Bool.{Bool}
use mathlib.Core.List.{List}
use Prim.Native.Nat.{ℕ, ◌%◌, ◌/◌, ◌<◌, ◌≤◌, min}
use lib.ListN.{length}
use Rattle.base_prelude.specs.Fault.{none}
use Rattle.base_prelude.proofs.Choice.{if_lt-yes, if_lt-no}
use Rattle.base_limits.specs.declared.Width.{Width}
use Rattle.parse_lines.specs.Tokens.{place_at}
use Rattle.parse_outline.specs.Outline.{Outlined, parsed, outline_of}
use Rattle.base_limits.specs.declared.Refusal.{Refusal}
use Rattle.parse_outline.specs.Parsed.{Parsed}
use Rattle.parse_outline.specs.declared.RowCounts.{RowCounts}
use Rattle.res_skeleton.specs.Skeleton.{skeleton_of}
use Rattle.res_names.specs.Naming.{Naming, naming, names_of}
use Rattle.res_exports.specs.Exports.{Exported, exported, exports_of}
use Rattle.res_data.specs.Sizes.{measure_of}
use Rattle.std.specs.Prelude.{Result, Ok, Err}
use Rattle.parse_verdict.proofs.Counts.{accepted-counts}
use Rattle.check_judge.specs.Judge.{known, Judged, refusal, fine, size_group, names_with, names_judged, fault_group, name_group, outline_group, line_group}

-- `names_fault`
pub names-are : (same : ℕ → ℕ → Bool) (t : List ℕ) (m : ℕ) (k y : List ℕ) (l c a e fault : ℕ) (u f : List ℕ) → naming a u ≡ names_of same t m k y l c → exported e f ≡ exports_of same t m y l u → fault ≡ min a e
    → exported fault f ≡ names_judged same t m k y l c
unfolding names_judged names_with
names-are same t m k y l c a e fault u f p q r =
    ap (λ (z : ℕ). exported z f) r ∙ ap (λ (z : Exported). exported (min a z.fault) z.flags) q ∙ ap (λ (z : Naming). names_with same t m y l z) p

-- `judge_tokens`
module _ (w : Width) (same : ℕ → ℕ → Bool) (m n : ℕ) (t : List ℕ) (r : Parsed) (x y : List ℕ) (h : parsed r x y ≡ outline_of w t m) where
  line-is : line_group w same m n t ≡ outline_group w same m n t r x y
  unfolding line_group
  line-is = ap (λ (o : Outlined). outline_group w same m n t o.answer o.rows o.labels) (sym h)

  pub lines-refused : (f : Refusal) → r ≡ Err f → refusal f.number f.place ≡ line_group w same m n t
  unfolding outline_group
  lines-refused f e = sym (line-is ∙ ap (λ (i : Parsed). outline_group w same m n t i x y) e)

  module _ (p : RowCounts) (k : List ℕ) (e : r ≡ Ok p) (d : k ≡ skeleton_of x p.statements) (fault : ℕ) (f : List ℕ) (g : exported fault f ≡ names_judged same t m k y p.labels p.statements) where
    named : line_group w same m n t ≡ fault_group w m n t p.statements k p.labels y (exported fault f)
    unfolding outline_group name_group
    named =
        line-is ∙ ap (λ (i : Parsed). outline_group w same m n t i x y) e
        ∙ ap (λ (i : List ℕ). name_group w same m n t p.statements i p.labels y) (sym d)
        ∙ ap (fault_group w m n t p.statements k p.labels y) (sym g)

    pub names-refused : fault < none → refusal (fault % 64) (fault / 64) ≡ line_group w same m n t
    unfolding fault_group
    names-refused o = sym (named ∙ if_lt-yes _ _ o)

    module _ (o : none ≤ fault) (z : Result ℕ ℕ) (u : z ≡ measure_of w t 4098) where
      sized : line_group w same m n t ≡ size_group m (known n t p.statements k p.labels y f) z
      unfolding fault_group
      sized = named ∙ if_lt-no _ _ o ∙ ap (size_group m (known n t p.statements k p.labels y f)) (sym u)

      pub size-fine : (size : ℕ) → z ≡ Ok size → fine (known n t p.statements k p.labels y f) size ≡ line_group w same m n t
      unfolding size_group
      size-fine size v = sym (sized ∙ ap (size_group m (known n t p.statements k p.labels y f)) v)

      pub size-big : (i place : ℕ) → z ≡ Err i → place ≡ place_at t m i → refusal 15 place ≡ line_group w same m n t
      unfolding size_group
      size-big i place v q = ap (refusal 15) q ∙ sym (sized ∙ ap (size_group m (known n t p.statements k p.labels y f)) v)

-- what a skeleton asks
pub lines-few : (w : Width) (m : ℕ) (p : RowCounts) (t x y : List ℕ) (r : Parsed) → r ≡ Ok p → parsed r x y ≡ outline_of w t m → length t ≡ 32768 → p.statements ≤ 1024
lines-few w m p t x y r e h long = (accepted-counts w t m p.statements p.labels long (ap (λ (o : Outlined). o.answer) (sym h) ∙ e)).0
