-- The loops over units.
-- Assumes nothing.
use mathlib.Core.Path.{◌≡◌, refl, sym, ◌∙◌, ap, subst}
use mathlib.Core.List.{List}
use Prim.Native.Nat.{ℕ, suc, ◌-◌, ◌≤◌, ◌<◌}
use native.Mathlib.Omega.{arith}
use lib.ListN.{length}
use Rattle.base_prelude.specs.Walk.{Step, go, stop}
use Rattle.base_prelude.proofs.Choice.{either, either-eq, true-false}
use Rattle.base_prelude.proofs.Walk.{Runs, runs-start, runs-go, runs-stop}
use Rattle.base_limits.specs.Width.{data_limit}
use Rattle.base_limits.specs.declared.Width.{Width}
use Rattle.parse_lines.specs.Units.{unit_at}
use Rattle.parse_lines.specs.Lines.{line_kind}
use Rattle.parse_lines.specs.declared.Span.{Span}
use Rattle.parse_units.proofs.Bounds.{unit-order, unit-near, unit-next, line-some}
use Rattle.res_data.specs.Sizes.{cursor_behind, add_line, next_of, next_at, measured, measure_step, measure_from, first_cursor}
use Rattle.res_data.specs.Image.{line_bytes, put_bytes, Laying, laying, laid, put_unit, lay_step, lay_from}
use Rattle.res_data.specs.Fits.{CursorFits}
use Rattle.res_data.specs.declared.Cursor.{Cursor}
use Rattle.std.specs.Prelude.{Result, Ok, Err, Option, Some, None, is_some, true, false}
use Rattle.res_data.proofs.Cases.{put-long}

module _ (t : List ℕ) (s : Cursor) (u : Span) (p : u ≡ unit_at t s.at) where
  pub unit-small : CursorFits t s → u.word < 4294967295
  unit-small h =
      subst (λ (v : Span). v.word < 4294967295) (sym p) (omega (arith, unit-near t s.at h.tokens h.near))

  pub next-is : (w : Width) (end k : ℕ) (r : Result (Option Cursor) ℕ) → k ≡ line_kind t u.word → r ≡ next_of w t end u k s → r ≡ next_at w t end s
  unfolding next_at
  next-is w end k r q e =
      e ∙ ap (λ (i : ℕ). next_of w t end u i s) q ∙ ap (λ (v : Span). next_of w t end v (line_kind t v.word) s) p

-- a unit leads forward, within the table
abbrev NextGood : List ℕ → Cursor → Result (Option Cursor) ℕ → Type 0
NextGood t s (Ok (Some y)) = CursorFits t y × (s.at < y.at)
NextGood t s (Err i) = Unit {0}
NextGood t s (Ok None) = Unit {0}

next-good : (w : Width) (t : List ℕ) (end : ℕ) (s : Cursor) → CursorFits t s → NextGood t s (next_at w t end s)
unfolding next_at next_of add_line cursor_behind
next-good w t end s h =
    either-eq (NextGood t s) (line_kind t (unit_at t s.at).word) 0 _ _ (λ _. tt) (λ e.
    either (NextGood t s) (unit_at t s.at).word end _ _ (λ _.
    either (NextGood t s) (data_limit w - s.size) _ _ _ (λ _. tt) (λ _.
    let o = unit-order t s.at in
    let i : (unit_at t s.at).word < 4096 = line-some t (unit_at t s.at).word h.tokens e in
    let n : (unit_at t s.at).next ≤ 4097 = unit-next t s.at h.tokens (omega arith) in
    (record { tokens = h.tokens; near = n }, omega (arith, o.0, o.1, o.2)))) (λ _. tt))

pub next-on : (w : Width) (t : List ℕ) (end : ℕ) (s y : Cursor) (r : Result (Option Cursor) ℕ) → CursorFits t s → r ≡ next_at w t end s → r ≡ Ok (Some y) → CursorFits t y × (s.at < y.at)
next-on w t end s y r h p e = subst (NextGood t s) (sym p ∙ e) (next-good w t end s h)

-- the loop of `measure_from`
pub record Measuring (w : Width) (t : List ℕ) (end : ℕ) (start s : Cursor) : Type 0 where
  pub fits : CursorFits t s
  pub runs : Runs (measure_step w t end) (Ok 0) (measure_from w t end start) s (suc (4097 - s.at))

module _ (w : Width) (t : List ℕ) (end : ℕ) (start : Cursor) where
  pub measuring-start : CursorFits t start → Measuring w t end start start
  unfolding measure_from
  measuring-start h = record { fits = h; runs = runs-start _ _ _ _ _ (omega (arith, h.tokens)) }

  pub measuring-fits : (s : Cursor) → Measuring w t end start s → CursorFits t s
  measuring-fits s h = h.fits

  module _ (s : Cursor) (r : Result (Option Cursor) ℕ) (h : Measuring w t end start s) (p : r ≡ next_at w t end s) where
    step_is : (x : Result (Option Cursor) ℕ) → r ≡ x → measure_step w t end s ≡ measured s x
    unfolding measure_step
    step_is x e = ap (measured s) (sym p ∙ e)

    pub measuring-less : (y : Cursor) (o : Option Cursor) → r ≡ Ok o → o ≡ Some y → 4097 - y.at < 4097 - s.at
    measuring-less y o q d =
        let e : r ≡ Ok (Some y) = q ∙ ap Ok d in let m = next-on w t end s y r h.fits p e in omega (arith, m.1, m.0.near)

    pub measuring-more : (y : Cursor) (o : Option Cursor) → r ≡ Ok o → o ≡ Some y → Measuring w t end start y
    measuring-more y o q d =
        let e : r ≡ Ok (Some y) = q ∙ ap Ok d in
        record {
          fits = (next-on w t end s y r h.fits p e).0;
          runs = runs-go _ _ _ _ _ (4097 - s.at) _ h.runs (step_is (Ok (Some y)) e) (omega (arith, measuring-less y o q d));
        }

    pub measuring-full : (i : ℕ) → r ≡ Err i → Err i ≡ measure_from w t end start
    measuring-full i e = runs-stop _ _ _ _ _ _ h.runs (step_is (Err i) e)

    pub measuring-over : (o : Option Cursor) → r ≡ Ok o → o ≡ None → Ok s.size ≡ measure_from w t end start
    measuring-over o q d =
        let e : r ≡ Ok None = q ∙ ap Ok d in runs-stop _ _ _ _ _ _ h.runs (step_is (Ok None) e)

pub ruleset measuring = (measuring-start, measuring-more, measuring-full, measuring-over)

pub first_fits : (t : List ℕ) (s : Cursor) → length t ≡ 32768 → s ≡ first_cursor → CursorFits t s
first_fits t s a e = subst (CursorFits t) (sym e) (record { tokens = a; near = omega arith })

-- a step of `lay_from`
module _ (w : Width) (s t : List ℕ) (c : Cursor) (out : List ℕ) (u : Span) (k : ℕ) (r : Result (Option Cursor) ℕ) (p : u ≡ unit_at t c.at) (q : k ≡ line_kind t u.word) (g : r ≡ next_of w t 4098 u k c) where
  put_is : (x : List ℕ) → x ≡ put_bytes out c.size (line_bytes w s t u k) → x ≡ put_unit w s t (laying c out)
  unfolding put_unit
  put_is x e =
      e ∙ ap (λ (i : ℕ). put_bytes out c.size (line_bytes w s t u i)) q ∙ ap (λ (v : Span). put_bytes out c.size (line_bytes w s t v (line_kind t v.word))) p

  lay-is : (y : Result (Option Cursor) ℕ) → r ≡ y → lay_step w s t (laying c out) ≡ laid y (put_unit w s t (laying c out)) out
  unfolding lay_step
  lay-is y e = ap (λ (z : Result (Option Cursor) ℕ). laid z (put_unit w s t (laying c out)) out) (sym (next-is t c u p w 4098 k r q g) ∙ e)

  pub step-on : (y : Cursor) (x : List ℕ) → r ≡ Ok (Some y) → x ≡ put_bytes out c.size (line_bytes w s t u k) → laid (Ok (Some y)) x x ≡ lay_step w s t (laying c out)
  step-on y x e f = ap (λ (z : List ℕ). go (laying y z)) (put_is x f) ∙ sym (lay-is (Ok (Some y)) e)

  pub step-full : (i : ℕ) → r ≡ Err i → laid (Err i) out out ≡ lay_step w s t (laying c out)
  step-full i e = sym (lay-is (Err i) e)

  pub step-over : r ≡ Ok None → laid (Ok None) out out ≡ lay_step w s t (laying c out)
  step-over e = sym (lay-is (Ok None) e)

  pub step-some : (o : Option Cursor) (x : List ℕ) → r ≡ Ok o → is_some o ≡ true → x ≡ put_bytes out c.size (line_bytes w s t u k) → laid (Ok o) x x ≡ lay_step w s t (laying c out)
  step-some (Some y) x e h f = step-on y x e f
  step-some None x e h f = true-false (sym h)

  pub step-none : (o : Option Cursor) → r ≡ Ok o → is_some o ≡ false → laid (Ok o) out out ≡ lay_step w s t (laying c out)
  step-none (Some y) e h = true-false h
  step-none None e h = step-over e

-- the loop of `lay_from`
pub record Imaging (w : Width) (s t : List ℕ) (start : Cursor) (out₀ : List ℕ) (c : Cursor) (out : List ℕ) : Type 0 where
  pub fits : CursorFits t c
  pub long : length out ≡ length out₀
  pub runs : Runs (lay_step w s t) out₀ (lay_from w s t (laying start out₀)) (laying c out) (suc (4097 - c.at))

abbrev StepGood : List ℕ → Cursor → ℕ → Step Laying (List ℕ) → Type 0
StepGood t c n (go m) = CursorFits t m.cursor × (c.at < m.cursor.at) × (length m.image ≡ n)
StepGood t c n (stop x) = Unit {0}

laid-good : (t : List ℕ) (c : Cursor) (r : Result (Option Cursor) ℕ) (x out : List ℕ) → NextGood t c r → length x ≡ length out → StepGood t c (length out) (laid r x out)
laid-good t c (Ok (Some y)) x out h l = (h.0, h.1, l)
laid-good t c (Err i) x out h l = tt
laid-good t c (Ok None) x out h l = tt

pub unit-long : (w : Width) (s t : List ℕ) (m : Laying) → length (put_unit w s t m) ≡ length m.image
unfolding put_unit
unit-long w s t m = put-long m.image m.cursor.size _

lay-good : (w : Width) (s t : List ℕ) (c : Cursor) (out : List ℕ) → CursorFits t c → StepGood t c (length out) (lay_step w s t (laying c out))
unfolding lay_step
lay-good w s t c out h =
    laid-good t c (next_at w t 4098 c) (put_unit w s t (laying c out)) out (next-good w t 4098 c h) (unit-long w s t (laying c out))

module _ (w : Width) (s t : List ℕ) (start : Cursor) (out₀ : List ℕ) where
  pub imaging-start : CursorFits t start → Imaging w s t start out₀ start out₀
  unfolding lay_from
  imaging-start h = record { fits = h; long = refl; runs = runs-start _ _ _ _ _ (omega (arith, h.tokens)) }

  pub imaging-fits : (c : Cursor) (out : List ℕ) → Imaging w s t start out₀ c out → CursorFits t c
  imaging-fits c out h = h.fits

  module _ (c : Cursor) (out : List ℕ) (r : Result (Option Cursor) ℕ) (x : List ℕ) (h : Imaging w s t start out₀ c out) (p : laid r x x ≡ lay_step w s t (laying c out)) where
    leads : (z : Result (Option Cursor) ℕ) → r ≡ z → lay_step w s t (laying c out) ≡ laid z x x
    leads z e = sym p ∙ ap (λ (y : Result (Option Cursor) ℕ). laid y x x) e

    on-good : (y : Cursor) → r ≡ Ok (Some y) → CursorFits t y × (c.at < y.at) × (length x ≡ length out)
    on-good y e = subst (StepGood t c (length out)) (leads (Ok (Some y)) e) (lay-good w s t c out h.fits)

    pub imaging-less : (y : Cursor) (o : Option Cursor) → r ≡ Ok o → o ≡ Some y → 4097 - y.at < 4097 - c.at
    imaging-less y o q d =
        let e : r ≡ Ok (Some y) = q ∙ ap Ok d in let m = on-good y e in omega (arith, m.1, m.0.near)

    pub imaging-more : (y : Cursor) (o : Option Cursor) → r ≡ Ok o → o ≡ Some y → Imaging w s t start out₀ y x
    imaging-more y o q d =
        let e : r ≡ Ok (Some y) = q ∙ ap Ok d in
        record {
          fits = (on-good y e).0;
          long = (on-good y e).2 ∙ h.long;
          runs = runs-go _ _ _ _ _ (4097 - c.at) _ h.runs (leads (Ok (Some y)) e) (omega (arith, imaging-less y o q d));
        }

    pub imaging-full : (i : ℕ) → r ≡ Err i → x ≡ lay_from w s t (laying start out₀)
    imaging-full i e = runs-stop _ _ _ _ _ _ h.runs (leads (Err i) e)

    pub imaging-over : (o : Option Cursor) → r ≡ Ok o → o ≡ None → x ≡ lay_from w s t (laying start out₀)
    imaging-over o q d =
        let e : r ≡ Ok None = q ∙ ap Ok d in runs-stop _ _ _ _ _ _ h.runs (leads (Ok None) e)

pub ruleset imaging = (imaging-start, imaging-more, imaging-full, imaging-over)
