-- One row more: where what is open allows it, the rows still stand, and the parser keeps what is open behind them.
-- Assumes nothing.
use mathlib.Core.Path.{◌≡◌, refl, sym, ◌∙◌, ap, subst}
use mathlib.Core.Bool.{Bool, true, false, not}
use mathlib.Core.List.{List}
use Prim.Native.Nat.{ℕ, suc, ◌+◌, ◌-◌, ◌*◌, ◌≤◌, ◌<◌}
use native.Mathlib.Decide.{ℕ_discrete}
use native.Mathlib.Omega.{arith}
use borrow.Author.Tests.{ne_eqb, leb-true}
use lib.Dec.{eqb, ltb, leb}
use lib.ListN.{length}
use Rattle.base_prelude.specs.Choice.{if_lt, if_eq, if_true}
use Rattle.base_prelude.proofs.Choice.{if_true-no, if_eq-yes, if_eq-no}
use Rattle.lang_kinds.specs.Nesting.{stands_in, enters, leaves, ground_of, is_frame}
use Rattle.parse_units.specs.Outline as outline
use Rattle.parse_units.specs.Outline.{put_row}
use Rattle.parse_units.specs.declared.Row as declared
use Rattle.prog_tables.specs.Tests.{given}
use Rattle.prog_tables.specs.Statement.{Row, is_test}
use Rattle.prog_tables.specs.Nesting.{behind, open_before, ground_in, func_in, scope_in, up_in, is_listed, may_stand, follows_jump, stands}
use Rattle.prog_tables.proofs.Each.{both_left, given-then}
use Rattle.prog_tables.proofs.Nested.{Standing, small, kind-fact}
use Rattle.thm_outline.proofs.View.{strip, seen, view_of, put_same, put_other}
use Rattle.thm_outline.proofs.Standing.{open-same, follows_same, ground-same, stands-more}

-- c rows stand, and behind them `top` is open
pub record Formed (t : List ℕ) (c top : ℕ) : Type 0 where
  pub rows : (m : ℕ) → m < c → stands (view_of t) m ≡ true
  pub last : open_before (view_of t) c ≡ top

-- what is no function does not stand on ground 1
not_first : (k : ℕ) → is_listed k ≡ true → may_stand k 1 ≡ true → k ≡ 1
unfolding may_stand
not_first k h g =
    elim (ℕ_discrete k 1) [
      | yes e ↦ e
      | no e ↦
          let l : 4 ≤ (stands_in k).start = leb-true _ _ (given-then (not (eqb k 1)) (leb 4 (stands_in k).start) (kind-fact k 0 h (omega arith)) (ap not (ne_eqb _ _ e))) in
          let m : (stands_in k).start ≤ 1 = leb-true _ _ (both_left (leb (stands_in k).start 1) (ltb 1 (stands_in k).end) g) in absurd (omega arith)
    ]

one-stays : (k : ℕ) → k ≡ 1 → leaves k ≡ false
unfolding leaves if_eq if_lt
one-stays k e = rw e

less : (b : Bool) (x y : ℕ) → if_true b x y - 1 ≡ if_true b (x - 1) (y - 1)
unfolding if_true
less true x y = refl
less false x y = refl

module _ (t : List ℕ) (n c top k token next before operands : ℕ) (e : n ≡ suc c) (room : n * 8 + 8 ≤ length t) (h : Formed t c top)
    (listed : is_listed k ≡ true) (ground : may_stand k (ground_in (view_of t) top) ≡ true) (jump : given (follows_jump (view_of t) c) (is_test k) ≡ true) where
  abbrev r : declared.Row
  r = outline.row_in k n top (outline.row_at t top) token next before operands

  abbrev f : ℕ → Row
  f = view_of t

  abbrev g : ℕ → Row
  g = view_of (put_row t n r)

  pub old : (i : ℕ) → i < c → g i ≡ f i
  old i l = ap seen (put_other t n r room (suc i) (omega arith))

  pub alike : (i : ℕ) → i < c → strip (g i) ≡ strip (f i)
  alike i l = ap strip (old i l)

  pub new : g c ≡ seen r
  new = ap (λ (m : ℕ). seen (outline.row_at (put_row t n r) m)) (sym e) ∙ ap seen (put_same t n r room)

  pub top-low : top ≤ c
  top-low = omega (arith, (small f c h.rows c (omega arith)).open-low, h.last)

  pub open_is : open_before g c ≡ top
  open_is = open-same f g c alike c (omega arith) ∙ h.last

  -- the row that is open, unless the new row is a function
  pub top-some : (k ≡ 1 → ⊥) → 1 ≤ top
  unfolding ground_in
  top-some q =
      elim (ℕ_discrete top 0) [
        | yes z ↦ absurd (q (not_first k listed (subst (λ (i : ℕ). may_stand k i ≡ true) (if_eq-yes 1 (ground_of (f (top - 1)).kind) z) ground)))
        | no z ↦ omega arith
      ]

  top-is : (k ≡ 1 → ⊥) → g (top - 1) ≡ seen (outline.row_at t top)
  top-is q =
      let l : 1 ≤ top = top-some q in
      let z : suc (top - 1) ≡ top = omega arith in
      old (top - 1) (omega (arith, top-low)) ∙ ap (λ (m : ℕ). seen (outline.row_at t m)) z

  new-func : (seen r).func ≡ func_in k c (g (top - 1))
  unfolding outline.row_in func_in
  new-func =
      elim (ℕ_discrete k 1) [
        | yes q ↦ ap (λ (i : ℕ). i - 1) (if_eq-yes n _ q) ∙ omega arith ∙ sym (if_eq-yes c _ q)
        | no q ↦ ap (λ (i : ℕ). i - 1) (if_eq-no n _ q) ∙ ap (λ (x : Row). x.func) (sym (top-is q)) ∙ sym (if_eq-no c _ q)
      ]

  new-scope : (seen r).scope ≡ scope_in k c top (g (top - 1))
  unfolding outline.row_in scope_in
  new-scope =
      elim (ℕ_discrete k 1) [
        | yes q ↦ ap (λ (i : ℕ). i - 1) (if_eq-yes n _ q) ∙ omega arith ∙ sym (if_eq-yes c _ q)
        | no q ↦ ap (λ (i : ℕ). i - 1) (if_eq-no n _ q) ∙ less (is_frame (outline.row_at t top).kind) top (outline.row_at t top).scope
            ∙ ap (λ (x : Row). if_true (is_frame x.kind) (top - 1) x.scope) (sym (top-is q)) ∙ sym (if_eq-no c _ q)
      ]

  new-up : (seen r).up ≡ up_in k top (g (top - 1))
  unfolding outline.row_in up_in
  new-up =
      elim (ℕ_discrete k 1) [
        | yes q ↦ if_true-no (outline.row_at t top).up top (one-stays k q) ∙ sym (if_true-no (g (top - 1)).up top (one-stays k q))
        | no q ↦ ap (λ (x : Row). if_true (leaves k) x.up top) (sym (top-is q))
      ]

  new-kind : (seen r).kind ≡ k
  unfolding outline.row_in
  new-kind = refl

  new-stands : Standing g c
  new-stands =
      let d : (g c).kind ≡ k = ap (λ (x : Row). x.kind) new ∙ new-kind in
      record {
        listed = rw d listed;
        ground = rw (d, open_is, ground-same f g c alike top top-low) ground;
        jump = rw (d, follows_same f g c alike c (omega arith)) jump;
        func-is = ap (λ (x : Row). x.func) new ∙ rw (d, open_is) new-func;
        scope-is = ap (λ (x : Row). x.scope) new ∙ rw (d, open_is) new-scope;
        up_is = ap (λ (x : Row). x.up) new ∙ rw (d, open_is) new-up;
      }

  behind-is : open_before g (suc c) ≡ outline.behind n r
  unfolding open_before behind outline.behind
  behind-is = ap (behind c) new ∙ ap (λ (i : ℕ). if_true (enters r.kind) i r.up) (sym e)

  pub put-formed : Formed (put_row t n r) (suc c) (outline.behind n r)
  put-formed = record { rows = stands-more f g c alike h.rows new-stands; last = behind-is }
