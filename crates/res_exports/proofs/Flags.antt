-- A label is flagged exactly when an export's definition carries it.
-- Assumes nothing.
use mathlib.Core.Path.{◌≡◌, refl, sym, ◌∙◌, ap}
use mathlib.Core.Bool.{Bool, true, false}
use mathlib.Core.List.{List, [], ◌∷◌}
use Prim.Native.Nat.{ℕ, zero, suc, ◌+◌, ◌*◌, ◌≤◌, ◌<◌}
use native.Mathlib.Nat.{not-suc-le-zero}
use native.Mathlib.Decide.{dec_lt, ℕ_discrete}
use native.Mathlib.Omega.{arith}
use lib.Dec.{eqb}
use lib.ListN.{length, get_or, length-set, length-replicate, get_or-replicate}
use lib.Seq.{get_or-set_same, get_or-set_other}
use borrow.Author.Tests.{eq-eqb, ne_eqb}
use Rattle.base_prelude.specs.Choice.{pick, if_lt}
use Rattle.base_prelude.specs.Fault.{none}
use Rattle.base_prelude.specs.Lists.{zeros, is_among}
use Rattle.base_prelude.specs.Walk.{Step, go, stop, walk}
use Rattle.base_prelude.proofs.Choice.{either-eq, if_lt-yes, if_lt-no, if_eq-yes, if_eq-no}
use Rattle.base_prelude.proofs.Walk.{walk-go, walk-stop}
use Rattle.parse_lines.specs.Tokens.{kind_at}
use Rattle.parse_lines.specs.Units.{unit_at}
use Rattle.parse_lines.specs.Lines.{line_kind}
use Rattle.parse_lines.specs.declared.Span.{Span}
use Rattle.parse_lines.proofs.Scans.{token-within}
use Rattle.parse_lines.proofs.Edge.{edge-is}
use Rattle.parse_units.proofs.Bounds.{unit-order}
use Rattle.res_exports.specs.Exports.{Exported, exported, World, world, exports, flagged, judged_by, import_judged, export_part, export_on, export_step, exports_from, exports_of, carried_in, exported_from, is_exported}

-- ---- one flag

-- label 1 of two labels is exported
one-flag : flagged 2 1 (0 ∷ 0 ∷ []) ≡ 0 ∷ 1 ∷ []
unfolding flagged if_lt
one-flag = refl

flag-here : (l j : ℕ) (flags : List ℕ) → j < l → j < length flags → get_or (flagged l j flags) j 0 ≡ 1
unfolding flagged
flag-here l j flags a b = ap (λ (v : List ℕ). get_or v j 0) (if_lt-yes _ _ a ∙ if_lt-yes _ _ b) ∙ get_or-set_same flags j 1 0 b

flag-other : (l m j : ℕ) (flags : List ℕ) → (j ≡ m → ⊥) → get_or (flagged l m flags) j 0 ≡ get_or flags j 0
unfolding flagged
flag-other l m j flags d =
    elim (dec_lt m l) [
      | yes a ↦ elim (dec_lt m (length flags)) [
        | yes b ↦ ap (λ (v : List ℕ). get_or v j 0) (if_lt-yes _ _ a ∙ if_lt-yes _ _ b) ∙ get_or-set_other flags m j 1 0 d
        | no b ↦ ap (λ (v : List ℕ). get_or v j 0) (if_lt-yes _ _ a ∙ if_lt-no _ _ (let z : length flags ≤ m = omega arith in z))
      ]
      | no a ↦ ap (λ (v : List ℕ). get_or v j 0) (if_lt-no _ _ (let z : l ≤ m = omega arith in z))
    ]

flag-long : (l m : ℕ) (flags : List ℕ) → length (flagged l m flags) ≡ length flags
unfolding flagged
flag-long l m flags =
    elim (dec_lt m l) [
      | yes a ↦ elim (dec_lt m (length flags)) [
        | yes b ↦ ap length (if_lt-yes _ _ a ∙ if_lt-yes _ _ b) ∙ length-set flags m 1
        | no b ↦ ap length (if_lt-yes _ _ a ∙ if_lt-no _ _ (let z : length flags ≤ m = omega arith in z))
      ]
      | no a ↦ ap length (if_lt-no _ _ (let z : l ≤ m = omega arith in z))
    ]

-- the flag of j behind an export of the label m
flag_is : (l m j : ℕ) (flags : List ℕ) → j < l → j < length flags → get_or (flagged l m flags) j 0 ≡ pick (eqb j m) 1 (get_or flags j 0)
flag_is l m j flags a b =
    elim (ℕ_discrete j m) [
      | yes e ↦ ap (λ (v : ℕ). get_or (flagged l v flags) j 0) (sym e) ∙ flag-here l j flags a b ∙ ap (λ (t : Bool). pick t 1 (get_or flags j 0)) (sym (eq-eqb j m e))
      | no d ↦ flag-other l m j flags d ∙ ap (λ (t : Bool). pick t 1 (get_or flags j 0)) (sym (ne_eqb j m d))
    ]

pick-pick : (a b : Bool) (v : ℕ) → pick b 1 (pick a 1 v) ≡ pick (pick a true b) 1 v
pick-pick true true v = refl
pick-pick true false v = refl
pick-pick false true v = refl
pick-pick false false v = refl

among-cons : (j m : ℕ) (ms : List ℕ) → is_among j (m ∷ ms) ≡ pick (eqb j m) true (is_among j ms)
unfolding is_among
among-cons j m ms = refl

among-nil : (j : ℕ) → is_among j [] ≡ false
unfolding is_among
among-nil j = refl

-- ---- line after line

line-within : (t : List ℕ) (i : ℕ) → (line_kind t i ≡ 0 → ⊥) → i < length t
line-within t i h =
    elim (ℕ_discrete (kind_at t i) 0) [
      | yes z ↦ absurd (h (edge-is t i z))
      | no z ↦ let w : i * 8 + 0 < length t = token-within t i 0 (omega arith) in omega arith
    ]

module _ (same : ℕ → ℕ → Bool) (t : List ℕ) (n : ℕ) (y : List ℕ) (l : ℕ) (uses : List ℕ) where
  abbrev kind_of : ℕ → ℕ
  kind_of at = line_kind t (unit_at t at).word

  abbrev line_of : World → Exported
  line_of x = export_part same t n y l uses (unit_at t x.state.at) (kind_of x.state.at) (exported x.state.best x.flags)

  abbrev step : World → Step World Exported
  step = export_step same t n y l uses

  part-export : (u : Span) (k : ℕ) (x : Exported) → k ≡ 27 → (export_part same t n y l uses u k x).flags ≡ flagged l (carried_in same t y l u) x.flags
  unfolding export_part judged_by carried_in
  part-export u k x e = ap (λ (z : Exported). z.flags) (if_eq-yes _ _ e)

  part-other : (u : Span) (k : ℕ) (x : Exported) → (k ≡ 27 → ⊥) → (export_part same t n y l uses u k x).flags ≡ x.flags
  unfolding export_part import_judged
  part-other u k x d =
      ap (λ (z : Exported). z.flags) (if_eq-no _ _ d) ∙ either-eq (λ (z : Exported). z.flags ≡ x.flags) k 36 _ _ (λ _. refl) (λ _. refl)

  step-edge : (x : World) → kind_of x.state.at ≡ 0 → step x ≡ stop (exported x.state.best x.flags)
  unfolding export_step export_on
  step-edge x e = if_eq-yes _ _ e

  step-more : (x : World) → (kind_of x.state.at ≡ 0 → ⊥) → step x ≡ go (world (exports (unit_at t x.state.at).next (line_of x).fault) (line_of x).flags)
  unfolding export_step export_on
  step-more x e = if_eq-no _ _ e

  from-edge : (m at : ℕ) → kind_of at ≡ 0 → exported_from (suc m) same t y l at ≡ []
  unfolding exported_from
  from-edge m at e = if_eq-yes _ _ e

  from-export : (m at : ℕ) → kind_of at ≡ 27 → exported_from (suc m) same t y l at ≡ carried_in same t y l (unit_at t at) ∷ exported_from m same t y l (unit_at t at).next
  unfolding exported_from
  from-export m at e = if_eq-no _ _ (λ z. let q : ⊥ = omega arith in q) ∙ if_eq-yes _ _ e

  from-other : (m at : ℕ) → (kind_of at ≡ 0 → ⊥) → (kind_of at ≡ 27 → ⊥) → exported_from (suc m) same t y l at ≡ exported_from m same t y l (unit_at t at).next
  unfolding exported_from
  from-other m at d e = if_eq-no _ _ d ∙ if_eq-no _ _ e

  module _ (j : ℕ) (low : j < l) where
    -- a line's own part
    line-flag : (m : ℕ) (x : World) → j < length x.flags → (kind_of x.state.at ≡ 0 → ⊥)
        → (length (line_of x).flags ≡ length x.flags)
        × (pick (is_among j (exported_from m same t y l (unit_at t x.state.at).next)) 1 (get_or (line_of x).flags j 0) ≡ pick (is_among j (exported_from (suc m) same t y l x.state.at)) 1 (get_or x.flags j 0))
    line-flag m x h d =
        elim (ℕ_discrete (kind_of x.state.at) 27) [
          | yes e ↦
              let c = carried_in same t y l (unit_at t x.state.at) in
              let q : (line_of x).flags ≡ flagged l c x.flags = part-export (unit_at t x.state.at) (kind_of x.state.at) (exported x.state.best x.flags) e in (
                ap length q ∙ flag-long l c x.flags,
                ap (λ (v : List ℕ). pick (is_among j (exported_from m same t y l (unit_at t x.state.at).next)) 1 (get_or v j 0)) q
                    ∙ ap (pick (is_among j (exported_from m same t y l (unit_at t x.state.at).next)) 1) (flag_is l c j x.flags low h)
                    ∙ pick-pick (eqb j c) (is_among j (exported_from m same t y l (unit_at t x.state.at).next)) (get_or x.flags j 0)
                    ∙ ap (λ (b : Bool). pick b 1 (get_or x.flags j 0)) (sym (ap (is_among j) (from-export m x.state.at e) ∙ among-cons j c (exported_from m same t y l (unit_at t x.state.at).next))),
              )
          | no e ↦
              let q : (line_of x).flags ≡ x.flags = part-other (unit_at t x.state.at) (kind_of x.state.at) (exported x.state.best x.flags) e in (
                ap length q,
                ap (λ (v : List ℕ). pick (is_among j (exported_from m same t y l (unit_at t x.state.at).next)) 1 (get_or v j 0)) q
                    ∙ ap (λ (v : List ℕ). pick (is_among j v) 1 (get_or x.flags j 0)) (sym (from-other m x.state.at d e)),
              )
        ]

    flags-from : (m : ℕ) (x : World) → 1 ≤ m → length t < x.state.at + m → j < length x.flags
        → get_or (walk step (exported none []) m x).flags j 0 ≡ pick (is_among j (exported_from m same t y l x.state.at)) 1 (get_or x.flags j 0)
    flags-from zero x h g b = absurd (not-suc-le-zero h)
    flags-from (suc m) x h g b =
        elim (ℕ_discrete (kind_of x.state.at) 0) [
          | yes e ↦ ap (λ (z : Exported). get_or z.flags j 0) (walk-stop step (exported none []) m x _ (step-edge x e))
              ∙ ap (λ (v : Bool). pick v 1 (get_or x.flags j 0)) (sym (ap (is_among j) (from-edge m x.state.at e) ∙ among-nil j))
          | no e ↦
              let o = unit-order t x.state.at in
              let i : (unit_at t x.state.at).word < length t = line-within t (unit_at t x.state.at).word e in
              let z = world (exports (unit_at t x.state.at).next (line_of x).fault) (line_of x).flags in
              let f = line-flag m x b e in
              ap (λ (z : Exported). get_or z.flags j 0) (walk-go step (exported none []) m x _ (step-more x e))
              ∙ flags-from m z (omega (arith, o.0, o.1)) (omega (arith, o.0, o.1, o.2)) (omega (arith, f.0)) ∙ f.1
        ]

    -- the flag of a label says whether it is exported
    pub flags-say : j < 256 → get_or (exports_of same t n y l uses).flags j 0 ≡ pick (is_exported same t y l j) 1 0
    unfolding exports_of exports_from is_exported
    flags-say h =
        let e : length (zeros 256) ≡ 256 = length-replicate {A = ℕ} 256 0 in
        flags-from (suc (length t)) (world (exports 0 none) (zeros 256)) (omega arith) (omega arith) (omega arith)
        ∙ ap (pick (is_exported same t y l j) 1) (get_or-replicate 256 j 0 0 h)
