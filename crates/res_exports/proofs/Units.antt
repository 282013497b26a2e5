-- The walks over units: a search for a definition, and the exports one after the other.
-- Assumes nothing.
use mathlib.Core.Path.{◌≡◌, refl, sym, ◌∙◌, ap, ap₂, subst}
use mathlib.Core.Bool.{Bool, true, false}
use mathlib.Core.List.{List, []}
use Prim.Native.Nat.{ℕ, suc, ◌-◌, ◌<◌, ◌≤◌}
use native.Mathlib.Omega.{arith}
use lib.ListN.{length, length-set}
use Rattle.std.specs.declared.ops.ControlFlow.{ControlFlow}
use Rattle.std.specs.declared.ops.ControlFlow.TheVariants.{Continue, Break}
use Rattle.base_prelude.specs.Fault.{none}
use Rattle.base_prelude.specs.Lists.{zeros, cleared_from, is_among}
use Rattle.base_prelude.specs.Walk.{Step, go, stop}
use Rattle.base_prelude.proofs.Choice.{either, either-eq, either_true, if_eq-yes, if_eq-no}
use Rattle.base_prelude.proofs.Walk.{Runs, runs-start, runs-go, runs-stop}
use Rattle.parse_lines.specs.Units.{unit_at}
use Rattle.parse_lines.specs.Lines.{line_kind}
use Rattle.parse_lines.specs.declared.Span.{Span}
use Rattle.parse_units.proofs.Bounds.{unit-order, unit-near, unit-next, line-some}
use Rattle.res_exports.specs.Fits.{UnitFits}
use Rattle.res_exports.specs.Exports.{is_definition, ends_search, nowhere, seek_on, seek_step, sought, definition_from, Exported, exported, World, world, exports, flagged, judged_by, import_judged, export_part, export_on, export_step, going, exports_from, exports_of}
use Rattle.res_exports.specs.declared.Exports.{Exports}

module _ (t : List ℕ) (at : ℕ) (h : UnitFits t at) (u : Span) (e : u ≡ unit_at t at) where
  pub step-near : u.word ≤ 4097
  step-near = subst (λ (v : Span). v.word ≤ 4097) (sym e) (unit-near t at h.tokens h.near)

  pub step_small : u.word < 4294967295
  step_small = omega (arith, step-near)

  module _ (k : ℕ) (d : k ≡ line_kind t u.word) (g : k ≡ 0 → ⊥) where
    pub step-next : u.next ≤ 4097
    step-next =
        let i : u.word < 4096 = line-some t u.word h.tokens (λ q. g (d ∙ q)) in
        let j : (unit_at t at).word < 4097 = subst (λ (v : Span). v.word < 4097) e (omega arith) in
        subst (λ (v : Span). v.next ≤ 4097) (sym e) (unit-next t at h.tokens j)

-- ---- a definition

pub seek_is : (t : List ℕ) (at : ℕ) (u : Span) (k : ℕ) (r : ControlFlow Span ℕ) → u ≡ unit_at t at → k ≡ line_kind t u.word → sought r ≡ seek_on u k → sought r ≡ seek_step t at
unfolding seek_step
seek_is t at u k r e d q = q ∙ ap₂ seek_on e (d ∙ ap (λ (v : Span). line_kind t v.word) e)

abbrev SeekGood : List ℕ → ℕ → Step ℕ Span → Type 0
SeekGood t at (go b) = UnitFits t b × (at < b)
SeekGood t at (stop u) = Unit {0}

zero-ends : (k : ℕ) → k ≡ 0 → ends_search k ≡ true
unfolding ends_search is_among
zero-ends k h = rw h

seek-good : (t : List ℕ) (at : ℕ) → UnitFits t at → SeekGood t at (seek_step t at)
unfolding seek_step seek_on
seek-good t at h =
    either_true (SeekGood t at) (is_definition (line_kind t (unit_at t at).word)) _ _ (λ _. tt) (λ _.
    either_true (SeekGood t at) (ends_search (line_kind t (unit_at t at).word)) _ _ (λ _. tt) (λ f.
    let o = unit-order t at in (
      record {
        tokens = h.tokens;
        near = step-next t at h (unit_at t at) refl (line_kind t (unit_at t at).word) refl
            (λ q. absurd (subst (λ (b : Bool). NotTrue b) (sym f ∙ zero-ends _ q) tt));
      },
      omega (arith, o.0, o.1, o.2),
    )))
  where
    NotTrue : Bool → Type 0
    NotTrue true = ⊥
    NotTrue false = Unit {0}

pub record Seeking (t : List ℕ) (from at : ℕ) : Type 0 where
  pub fits : UnitFits t at
  pub runs : Runs (seek_step t) nowhere (definition_from t from) at (suc (4097 - at))

module _ (t : List ℕ) (from : ℕ) where
  pub seeking-start : UnitFits t from → Seeking t from from
  unfolding definition_from
  seeking-start h = record { fits = h; runs = runs-start _ _ _ _ _ (omega (arith, h.tokens)) }

  pub seeking-fits : (at : ℕ) → Seeking t from at → UnitFits t at
  seeking-fits at h = h.fits

  module _ (at : ℕ) (r : ControlFlow Span ℕ) (h : Seeking t from at) (p : sought r ≡ seek_step t at) where
    further-good : (b : ℕ) → r ≡ Continue b → UnitFits t b × (at < b)
    further-good b e = subst (SeekGood t at) (sym (ap sought (sym e) ∙ p)) (seek-good t at h.fits)

    pub seeking-less : (b : ℕ) → r ≡ Continue b → 4097 - b < 4097 - at
    seeking-less b e = let m = further-good b e in omega (arith, m.1, m.0.near)

    pub seeking-more : (b : ℕ) → r ≡ Continue b → Seeking t from b
    seeking-more b e =
        record {
          fits = (further-good b e).0;
          runs = runs-go _ _ _ _ _ (4097 - at) _ h.runs (sym (ap sought (sym e) ∙ p)) (omega (arith, seeking-less b e));
        }

    pub seeking-done : (u : Span) → r ≡ Break u → u ≡ definition_from t from
    seeking-done u e = runs-stop _ _ _ _ _ _ h.runs (sym (ap sought (sym e) ∙ p))

pub ruleset definitions = (seeking-start, seeking-more, seeking-done)

-- ---- exports

flag-long : (l j : ℕ) (f : List ℕ) → length (flagged l j f) ≡ length f
unfolding flagged
flag-long l j f =
    either (λ (v : List ℕ). length v ≡ length f) j l _ _
    (λ _. either (λ (v : List ℕ). length v ≡ length f) j (length f) _ _ (λ _. length-set f j 1) (λ _. refl)) (λ _. refl)

module _ (same : ℕ → ℕ → Bool) (t : List ℕ) (n : ℕ) (y : List ℕ) (l : ℕ) (uses : List ℕ) where
  part-long : (u : Span) (k : ℕ) (x : Exported) → length (export_part same t n y l uses u k x).flags ≡ length x.flags
  unfolding export_part judged_by import_judged
  part-long u k x =
      either-eq (λ (z : Exported). length z.flags ≡ length x.flags) k 27 _ _ (λ _. flag-long l _ x.flags)
      (λ _. either-eq (λ (z : Exported). length z.flags ≡ length x.flags) k 36 _ _ (λ _. refl) (λ _. refl))

  module _ (s : Exports) (f : List ℕ) (u : Span) (k : ℕ) (pu : u ≡ unit_at t s.at) (pk : k ≡ line_kind t u.word) where
    on-is : export_step same t n y l uses (world s f) ≡ export_on same t n y l uses u k (world s f)
    unfolding export_step
    on-is =
        ap₂ (λ (v : Span) (i : ℕ). export_on same t n y l uses v i (world s f)) (sym pu) (sym (pk ∙ ap (λ (v : Span). line_kind t v.word) pu))

    pub step-over : k ≡ 0 → going (Break s.best) f ≡ export_step same t n y l uses (world s f)
    unfolding export_on
    step-over h = sym (on-is ∙ if_eq-yes _ _ h)

    pub step-on : (best : ℕ) (g : List ℕ) → (k ≡ 0 → ⊥) → exported best g ≡ export_part same t n y l uses u k (exported s.best f)
        → going (Continue (record { at = u.next; best = best })) g ≡ export_step same t n y l uses (world s f)
    unfolding export_on
    step-on best g h q =
        ap (λ (z : Exported). go (world (exports u.next z.fault) z.flags)) q ∙ sym (on-is ∙ if_eq-no _ _ h)

  pub ruleset stepping = (step-over, step-on)

  abbrev StepGood : Exports → List ℕ → Step World Exported → Type 0
  StepGood s f (go x) = UnitFits t x.state.at × (s.at < x.state.at) × (length x.flags ≡ length f)
  StepGood s f (stop x) = length x.flags ≡ length f

  step-good : (s : Exports) (f : List ℕ) → UnitFits t s.at → StepGood s f (export_step same t n y l uses (world s f))
  unfolding export_step export_on
  step-good s f h =
      either-eq (StepGood s f) (line_kind t (unit_at t s.at).word) 0 _ _ (λ _. refl) (λ e.
      let o = unit-order t s.at in (
        record { tokens = h.tokens; near = step-next t s.at h (unit_at t s.at) refl (line_kind t (unit_at t s.at).word) refl e },
        omega (arith, o.0, o.1, o.2),
        part-long (unit_at t s.at) (line_kind t (unit_at t s.at).word) (exported s.best f),
      ))

  pub record Exporting (start : Exports) (f₀ : List ℕ) (s : Exports) (f : List ℕ) : Type 0 where
    pub fits : UnitFits t s.at
    pub long : length f ≡ length f₀
    pub runs : Runs (export_step same t n y l uses) (exported none []) (exports_from same t n y l uses (world start f₀)) (world s f) (suc (4097 - s.at))

  module _ (start : Exports) (f₀ : List ℕ) where
    pub exporting-start : UnitFits t start.at → Exporting start f₀ start f₀
    unfolding exports_from
    exporting-start h = record { fits = h; long = refl; runs = runs-start _ _ _ _ _ (omega (arith, h.tokens)) }

    pub exporting-fits : (s : Exports) (f : List ℕ) → Exporting start f₀ s f → UnitFits t s.at
    exporting-fits s f h = h.fits

    module _ (s : Exports) (f : List ℕ) (r : ControlFlow ℕ Exports) (g : List ℕ) (h : Exporting start f₀ s f) (p : going r g ≡ export_step same t n y l uses (world s f)) where
      more-good : (x : Exports) → r ≡ Continue x → UnitFits t x.at × (s.at < x.at) × (length g ≡ length f)
      more-good x e = subst (StepGood s f) (sym (ap (λ (z : ControlFlow ℕ Exports). going z g) (sym e) ∙ p)) (step-good s f h.fits)

      pub exporting-less : (x : Exports) → r ≡ Continue x → 4097 - x.at < 4097 - s.at
      exporting-less x e = let m = more-good x e in omega (arith, m.1, m.0.near)

      pub exporting-more : (x : Exports) → r ≡ Continue x → Exporting start f₀ x g
      exporting-more x e =
          record {
            fits = (more-good x e).0;
            long = (more-good x e).2 ∙ h.long;
            runs = runs-go _ _ _ _ _ (4097 - s.at) _ h.runs (sym (ap (λ (z : ControlFlow ℕ Exports). going z g) (sym e) ∙ p)) (omega (arith, exporting-less x e));
          }

      pub exporting-done : (best : ℕ) → r ≡ Break best → exported best g ≡ exports_from same t n y l uses (world start f₀)
      exporting-done best e = runs-stop _ _ _ _ _ _ h.runs (sym (ap (λ (z : ControlFlow ℕ Exports). going z g) (sym e) ∙ p))

      pub exporting-same : (best : ℕ) → r ≡ Break best → length g ≡ length f₀
      exporting-same best e =
          subst (StepGood s f) (sym (ap (λ (z : ControlFlow ℕ Exports). going z g) (sym e) ∙ p)) (step-good s f h.fits) ∙ h.long

  pub ruleset exporting = (exporting-start, exporting-more, exporting-done)

  pub exports-are : (x : ℕ) (f g z : List ℕ) → length f ≡ 256 → g ≡ cleared_from f 0 → exported x z ≡ exports_from same t n y l uses (world (record { at = 0; best = none }) g)
      → exported x z ≡ exports_of same t n y l uses
  unfolding exports_of cleared_from
  exports-are x f g z h e q =
      let v : length f - 0 ≡ 256 = omega arith in
      q ∙ ap (λ (i : List ℕ). exports_from same t n y l uses (world (exports 0 none) i)) (e ∙ ap zeros v)

pub first_fits : (t : List ℕ) → length t ≡ 32768 → UnitFits t 0
first_fits t h = record { tokens = h; near = omega arith }

pub unit-fits : (t : List ℕ) (at : ℕ) → length t ≡ 32768 → at ≤ 4097 → UnitFits t at
unit-fits t at h g = record { tokens = h; near = g }
