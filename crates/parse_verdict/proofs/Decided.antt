-- The parser's answer is the least fault over the whole source: the first unit with a fault decides, no fault anywhere is lower, and a
-- source is accepted exactly when no rule finds a fault.
-- Assumes nothing.
use mathlib.Core.Path.{◌≡◌, refl, sym, ◌∙◌, ap, subst}
use mathlib.Core.Bool.{Bool, true, false}
use mathlib.Core.List.{List, [], ◌∷◌}
use mathlib.Core.Logic.{◌⊎◌, inl, inr, ⊎_elim}
use Prim.Native.Nat.{ℕ, zero, suc, ◌+◌, ◌*◌, ◌-◌, ◌≤◌, ◌<◌, min}
use native.Mathlib.Nat.{min-eq_left, min-eq_right, min-le_left, min-le_right, le_trans}
use native.Mathlib.Decide.{dec_lt, ℕ_discrete}
use native.Mathlib.Omega.{arith}
use lib.ListN.{length, length-replicate}
use Rattle.base_prelude.specs.Choice.{if_lt, if_eq}
use Rattle.base_prelude.specs.Fault.{none, key, least_of}
use Rattle.base_prelude.specs.Lists.{zeros}
use Rattle.base_prelude.specs.Walk.{Step, go, stop, walk}
use Rattle.base_prelude.proofs.Choice.{either, either-eq, if_lt-yes, if_lt-no, if_eq-yes, if_eq-no, true-false}
use Rattle.base_prelude.proofs.Keys.{key-is, key-fault}
use Rattle.base_prelude.proofs.Walk.{Kept, walk_kept, walk-go, walk-stop, Ends, walk_ends}
use Rattle.base_limits.specs.declared.Width.{Width}
use Rattle.parse_lines.specs.Tokens.{kind_at, place_at, key_at, skip_step, skip}
use Rattle.parse_lines.specs.Units.{span_from, span_of, unit_at}
use Rattle.parse_lines.specs.Lines.{line_kind}
use Rattle.parse_lines.specs.declared.Span.{Span}
use Rattle.parse_lines.proofs.Edge.{edge-is}
use Rattle.parse_units.specs.Places.{ground_in, line_on, unit_fault}
use Rattle.parse_units.specs.Parse.{World, world, Result, parse_result, begin, state_behind, join_state, advance, open_row, fault_in, unit_step_on, unit_step, parse_from, parse_of}
use Rattle.parse_units.specs.Fits.{UnitStepFits}
use Rattle.std.proofs.Common.{Ok, Err}
use Rattle.parse_units.specs.Verdict.{Verdict, accepted, refused}
use Rattle.parse_units.proofs.Bounds.{unit-order, line-some}
use Rattle.parse_units.proofs.UnitSteps.{UnitStepGood, unit-step-good}
use Rattle.parse_verdict.specs.Verdict.{kind_in, fault_at, next_world, faults_from, all_faults, verdict_of, All, Clean, key_of, Rising}
use Rattle.parse_verdict.proofs.Scans.{name-inside}
use Rattle.parse_verdict.proofs.Found.{Found, nothing, found, unit-found}

-- lists of faults
pub least-none : (ks : List ℕ) → least_of ks ≤ none
unfolding least_of
least-none [] = omega arith
least-none (k ∷ ks) = le_trans (min-le_right k (least_of ks)) (least-none ks)

cons-least : (k : ℕ) (ks : List ℕ) → least_of (k ∷ ks) ≡ min k (least_of ks)
unfolding least_of
cons-least k ks = refl

all_weaker : (P Q : ℕ → Type 0) → ((k : ℕ) → P k → Q k) → (ks : List ℕ) → All P ks → All Q ks
all_weaker P Q f [] h = tt
all_weaker P Q f (k ∷ ks) h = (f k h.0, all_weaker P Q f ks h.1)

least-nil : least_of [] ≡ none
unfolding least_of
least-nil = refl

-- no fault is lower than the least
pub least-lower : (ks : List ℕ) → All (λ (k : ℕ). least_of ks ≤ k) ks
unfolding least_of
least-lower [] = tt
least-lower (k ∷ ks) =
    (min-le_left k (least_of ks), all_weaker (λ (x : ℕ). least_of ks ≤ x) (λ (x : ℕ). min k (least_of ks) ≤ x) (λ x h. le_trans (min-le_right k (least_of ks)) h) ks (least-lower ks))

pub all_none : (ks : List ℕ) → Clean ks → none ≤ least_of ks
unfolding least_of
all_none [] h = omega arith
all_none (k ∷ ks) h = omega (arith, h.0, all_none ks h.1)

pub none-all : (ks : List ℕ) → least_of ks ≡ none → Clean ks
none-all ks e = subst (λ (v : ℕ). All (λ (k : ℕ). v ≤ k) ks) e (least-lower ks)

-- inside a scan all kinds are in its range
inside-step : (t : List ℕ) (lo hi from j : ℕ) → ((i : ℕ) → from ≤ i → i < j → lo ≤ kind_at t i)
    → Kept (λ (j : ℕ). (i : ℕ) → from ≤ i → i < j → lo ≤ kind_at t i) (λ (j : ℕ). (i : ℕ) → from ≤ i → i < j → lo ≤ kind_at t i) (skip_step t lo hi j)
unfolding skip_step
inside-step t lo hi from j h =
    either (Kept (λ (j : ℕ). (i : ℕ) → from ≤ i → i < j → lo ≤ kind_at t i) (λ (j : ℕ). (i : ℕ) → from ≤ i → i < j → lo ≤ kind_at t i)) (kind_at t j) lo _ _ (λ _. h) (λ g.
    either (Kept (λ (j : ℕ). (i : ℕ) → from ≤ i → i < j → lo ≤ kind_at t i) (λ (j : ℕ). (i : ℕ) → from ≤ i → i < j → lo ≤ kind_at t i)) (kind_at t j) hi _ _
    (λ _ i a b. elim (dec_lt i j) [ yes l ↦ h i a l | no l ↦ subst (λ (x : ℕ). lo ≤ kind_at t x) (let e : j ≡ i = omega arith in e) g ])
    (λ _. h))

inside : (t : List ℕ) (lo hi from i : ℕ) → from ≤ i → i < skip t lo hi from → lo ≤ kind_at t i
unfolding skip
inside t lo hi from =
    walk_kept (λ (j : ℕ). (i : ℕ) → from ≤ i → i < j → lo ≤ kind_at t i) (λ (j : ℕ). (i : ℕ) → from ≤ i → i < j → lo ≤ kind_at t i) (skip_step t lo hi) from
    (λ i a b. let z : ⊥ = omega arith in absurd z) (inside-step t lo hi from) (suc (length t)) from (λ i a b. let z : ⊥ = omega arith in absurd z)

behind-word : (t : List ℕ) (at i : ℕ) → (unit_at t at).word < i → i < (unit_at t at).next → 1 ≤ kind_at t i
unfolding unit_at span_of span_from
behind-word t at i h g = omega (arith, inside t 2 16 (skip t 1 3 (skip t 1 2 at) + 1) i (omega arith) g)

module _ (t : List ℕ) (n : ℕ) (r : Rising t n) where
  at-end : (i : ℕ) → kind_at t i ≡ 0 → place_at t n i ≡ n
  unfolding place_at
  at-end i e = if_eq-yes _ _ e

  mono-step : (i : ℕ) → place_at t n i ≤ place_at t n (i + 1)
  mono-step i =
      elim (ℕ_discrete (kind_at t i) 0) [
        | yes e ↦ omega (arith, at-end i e, at-end (i + 1) (r.ends i e))
        | no e ↦ omega (arith, r.rises i (omega arith))
      ]

  mono-add : (d i : ℕ) → place_at t n i ≤ place_at t n (i + d)
  mono-add zero i = let e : i + 0 ≡ i = omega arith in subst (λ (j : ℕ). place_at t n i ≤ place_at t n j) (sym e) (omega arith)
  mono-add (suc d) i =
      let e : i + suc d ≡ i + 1 + d = omega arith in
      subst (λ (j : ℕ). place_at t n i ≤ place_at t n j) (sym e) (le_trans (mono-step i) (mono-add d (i + 1)))

  mono : (i j : ℕ) → i ≤ j → place_at t n i ≤ place_at t n j
  mono i j h = let e : i + (j - i) ≡ j = omega arith in subst (λ (k : ℕ). place_at t n i ≤ place_at t n k) e (mono-add (j - i) i)

  end-add : (d i : ℕ) → kind_at t i ≡ 0 → kind_at t (i + d) ≡ 0
  end-add zero i e = let q : i + 0 ≡ i = omega arith in ap (kind_at t) q ∙ e
  end-add (suc d) i e = let q : i + suc d ≡ i + 1 + d = omega arith in ap (kind_at t) q ∙ end-add d (i + 1) (r.ends i e)

  before-word : (i j : ℕ) → i ≤ j → (kind_at t j ≡ 0 → ⊥) → 1 ≤ kind_at t i
  before-word i j h e =
      elim (ℕ_discrete (kind_at t i) 0) [
        | yes z ↦ let q : i + (j - i) ≡ j = omega arith in absurd (e (ap (kind_at t) (sym q) ∙ end-add (j - i) i z))
        | no z ↦ omega arith
      ]

  key-at : (i m : ℕ) → key_at t n i m ≡ place_at t n i * 64 + m
  unfolding key_at
  key-at i m = key-is (place_at t n i) m (r.low i)

  found-low : (a b x : ℕ) → Found t n a b x → place_at t n a * 64 ≤ x
  found-low a b x nothing = omega (arith, r.low a)
  found-low a b x (found i m h g l) = omega (arith, key-at i m, mono a i h)

  found-high : (a b x : ℕ) → ((i : ℕ) → a ≤ i → i < b → 1 ≤ kind_at t i) → Found t n a b x → x < none → x < place_at t n b * 64
  found-high a b x k nothing h = let z : ⊥ = omega arith in absurd z
  found-high a b x k (found i m o g l) h = omega (arith, key-at i m, r.rises i (k i o g), mono (i + 1) b (omega arith))

  module _ (w : Width) where
    at-found : (x : World) → Found t n (unit_at t x.state.at).first (unit_at t x.state.at).next (fault_at w t n x)
    unfolding fault_at fault_in
    at-found x =
        let o = unit-order t x.state.at in
        unit-found w t n (unit_at t x.state.at) (line_on (ground_in x.state (open_row x)) (line_kind t (unit_at t x.state.at).word)) (ground_in x.state (open_row x))
        x.state o.1 o.2 (name-inside t x.state.at)

    next-at : (x : World) → (next_world t n x).state.at ≡ (unit_at t x.state.at).next
    unfolding next_world advance join_state state_behind
    next-at x = refl

    rest-low : (k : ℕ) (x : World) → place_at t n (next_world t n x).state.at * 64 ≤ least_of (faults_from k w t n (next_world t n x))
        → (place_at t n (unit_at t x.state.at).next * 64 ≤ least_of (if_eq (kind_in t x) 0 [] (faults_from k w t n (next_world t n x)))) ⊎ (kind_in t x ≡ 0)
    rest-low k x h =
        elim (ℕ_discrete (kind_in t x) 0) [
          | yes e ↦ inr e
          | no e ↦ inl (subst (λ (ks : List ℕ). place_at t n (unit_at t x.state.at).next * 64 ≤ least_of ks) (sym (if_eq-no [] (faults_from k w t n (next_world t n x)) e)) (subst (λ (i : ℕ). place_at t n i * 64 ≤ least_of (faults_from k w t n (next_world t n x))) (next-at x) h))
        ]

    rest-edge : (k : ℕ) (x : World) → kind_in t x ≡ 0 → least_of (if_eq (kind_in t x) 0 [] (faults_from k w t n (next_world t n x))) ≡ none
    rest-edge k x e = ap least_of (if_eq-yes [] (faults_from k w t n (next_world t n x)) e) ∙ least-nil

    -- nothing behind a state is lower than its own place
    later-low : (k : ℕ) (x : World) → place_at t n x.state.at * 64 ≤ least_of (faults_from k w t n x)
    unfolding faults_from
    later-low zero x = omega (arith, r.low x.state.at, least-nil)
    later-low (suc k) x =
        let o = unit-order t x.state.at in
        let f : place_at t n (unit_at t x.state.at).first * 64 ≤ fault_at w t n x = found-low (unit_at t x.state.at).first (unit_at t x.state.at).next (fault_at w t n x) (at-found x) in
        let m : place_at t n x.state.at ≤ place_at t n (unit_at t x.state.at).first = mono x.state.at (unit_at t x.state.at).first o.0 in
        let m' : place_at t n x.state.at ≤ place_at t n (unit_at t x.state.at).next = mono x.state.at (unit_at t x.state.at).next (omega (arith, o.0, o.1, o.2)) in
        ⊎_elim
        (λ g. omega (arith, cons-least (fault_at w t n x) (if_eq (kind_in t x) 0 [] (faults_from k w t n (next_world t n x)))))
        (λ e. omega (arith, r.low x.state.at, rest-edge k x e, cons-least (fault_at w t n x) (if_eq (kind_in t x) 0 [] (faults_from k w t n (next_world t n x)))))
        (rest-low k x (later-low k (next_world t n x)))

    -- a unit that is not the edge is all tokens
    unit-tokens : (x : World) → (kind_in t x ≡ 0 → ⊥) → (i : ℕ) → (unit_at t x.state.at).first ≤ i → i < (unit_at t x.state.at).next → 1 ≤ kind_at t i
    unfolding kind_in
    unit-tokens x e i h g =
        elim (dec_lt (unit_at t x.state.at).word i) [
          | yes l ↦ behind-word t x.state.at i l g
          | no l ↦ before-word i (unit_at t x.state.at).word (omega arith) (λ z. e (edge-is t (unit_at t x.state.at).word z))
        ]

    -- where a unit has a fault, nothing behind it is lower
    first-least : (k : ℕ) (x : World) → fault_at w t n x < none → least_of (faults_from (suc k) w t n x) ≡ fault_at w t n x
    unfolding faults_from
    first-least k x h =
        cons-least (fault_at w t n x) (if_eq (kind_in t x) 0 [] (faults_from k w t n (next_world t n x)))
        ∙ min-eq_left (elim (ℕ_discrete (kind_in t x) 0) [
          | yes e ↦ omega (arith, rest-edge k x e)
          | no e ↦ let b : fault_at w t n x < place_at t n (unit_at t x.state.at).next * 64 = found-high (unit_at t x.state.at).first (unit_at t x.state.at).next (fault_at w t n x) (unit-tokens x e) (at-found x) h in
              ⊎_elim (λ g. omega arith) (λ z. absurd (e z)) (rest-low k x (later-low k (next_world t n x)))
        ])

    unit-step-fault : (x : World) → fault_at w t n x < none → unit_step w t n x ≡ stop (parse_result (refused (fault_at w t n x)) x.table)
    unfolding unit_step unit_step_on fault_at
    unit-step-fault x h = if_lt-yes _ _ h

    unit-step-edge : (x : World) → none ≤ fault_at w t n x → kind_in t x ≡ 0 → unit_step w t n x ≡ stop (parse_result (accepted x.state.count x.state.labels) x.table)
    unfolding unit_step unit_step_on fault_at kind_in
    unit-step-edge x h e = if_lt-no _ _ h ∙ if_eq-yes _ _ e

    unit-step-on : (x : World) → none ≤ fault_at w t n x → (kind_in t x ≡ 0 → ⊥) → unit_step w t n x ≡ go (next_world t n x)
    unfolding unit_step unit_step_on fault_at kind_in next_world
    unit-step-on x h e = if_lt-no _ _ h ∙ if_eq-no _ _ e

    skip_first : (k : ℕ) (x : World) → none ≤ fault_at w t n x → least_of (faults_from (suc k) w t n x) ≡ least_of (if_eq (kind_in t x) 0 [] (faults_from k w t n (next_world t n x)))
    unfolding faults_from
    skip_first k x h =
        cons-least (fault_at w t n x) (if_eq (kind_in t x) 0 [] (faults_from k w t n (next_world t n x)))
        ∙ min-eq_right (omega (arith, least-none (if_eq (kind_in t x) 0 [] (faults_from k w t n (next_world t n x)))))

    -- the walk over units finds the least over all of them
    decides : (k : ℕ) (x : World) → key_of (walk (unit_step w t n) (parse_result (refused none) []) k x).verdict ≡ least_of (faults_from k w t n x)
    unfolding walk faults_from least_of
    decides zero x = refl
    decides (suc k) x =
        elim (dec_lt (fault_at w t n x) none) [
          | yes h ↦ ap (λ (y : Result). key_of y.verdict) (walk-stop (unit_step w t n) (parse_result (refused none) []) k x _ (unit-step-fault x h)) ∙ sym (first-least k x h)
          | no h ↦ elim (ℕ_discrete (kind_in t x) 0) [
            | yes e ↦ ap (λ (y : Result). key_of y.verdict) (walk-stop (unit_step w t n) (parse_result (refused none) []) k x _ (unit-step-edge x (omega arith) e)) ∙ sym (skip_first k x (omega arith) ∙ rest-edge k x e)
            | no e ↦ ap (λ (y : Result). key_of y.verdict) (walk-go (unit_step w t n) (parse_result (refused none) []) k x _ (unit-step-on x (omega arith) e)) ∙ decides k (next_world t n x)
                ∙ sym (skip_first k x (omega arith) ∙ ap least_of (if_eq-no [] (faults_from k w t n (next_world t n x)) e))
          ]
        ]

    -- the stage's verdict is the least fault over the whole source
    pub decided : key_of (parse_of w t n).verdict ≡ verdict_of w t n
    unfolding parse_of parse_from verdict_of all_faults
    decided = decides (suc (length t)) (world begin (zeros 8200))

    -- none is lower
    pub none-lower : All (λ (k : ℕ). key_of (parse_of w t n).verdict ≤ k) (all_faults w t n)
    unfolding verdict_of
    none-lower = subst (λ (v : ℕ). All (λ (k : ℕ). v ≤ k) (all_faults w t n)) (sym decided) (least-lower (all_faults w t n))

-- a refusal is that of a fault
abbrev pub is_accepted : Verdict → Bool
is_accepted (Ok x) = true
is_accepted (Err k) = false

abbrev pub RealV : Verdict → Type 0
RealV (Ok x) = Unit {0}
RealV (Err k) = k < none

abbrev StopReal : Step World Result → Type 0
StopReal (go z) = Unit {0}
StopReal (stop z) = RealV z.verdict

unit-step-stop : (w : Width) (t : List ℕ) (n : ℕ) (x : World) → StopReal (unit_step w t n x)
unfolding unit_step unit_step_on
unit-step-stop w t n x =
    either StopReal (fault_in w t n (unit_at t x.state.at) x) none _ _ (λ h. h) (λ _.
    either-eq StopReal (line_kind t (unit_at t x.state.at).word) 0 _ _ (λ _. tt) (λ _. tt))

stop-real : (w : Width) (t : List ℕ) (n : ℕ) (x : World) (y : Result) → unit_step w t n x ≡ stop y → RealV y.verdict
stop-real w t n x y e = subst StopReal e (unit-step-stop w t n x)

abbrev FitWorld : List ℕ → World → Type 0
FitWorld t x = UnitStepFits t x.table x.state × (x.state.labels ≤ x.state.at)

unit-step-real : (w : Width) (t : List ℕ) (n : ℕ) (x : World) → FitWorld t x
    → Ends (FitWorld t) (λ (y : Result). RealV y.verdict) (λ (y : World). 4097 - y.state.at) x (unit_step w t n x)
unit-step-real w t n x h = by (unit_step w t n x) refl (unit-step-good w t n x.state x.table h.0 h.1)
  where
    by : (s : Step World Result) → unit_step w t n x ≡ s → UnitStepGood t x.state s → Ends (FitWorld t) (λ (y : Result). RealV y.verdict) (λ (y : World). 4097 - y.state.at) x s
    by (go y) e g = (g.0, omega (arith, g.1, g.0.0.near))
    by (stop y) e g = stop-real w t n x y e

begin-fits : (t : List ℕ) → length t ≡ 32768 → FitWorld t (world begin (zeros 8200))
begin-fits t e = (record { tokens = e; long = length-replicate {A = ℕ} 8200 0; near = omega arith; few = omega arith; free = omega arith }, omega arith)

pub parse-real : (w : Width) (t : List ℕ) (n : ℕ) → length t ≡ 32768 → RealV (parse_of w t n).verdict
unfolding parse_of parse_from
parse-real w t n e =
    walk_ends (FitWorld t) (λ (y : Result). RealV y.verdict) (λ (y : World). 4097 - y.state.at) (unit_step w t n) (parse_result (refused none) []) (unit-step-real w t n)
    (suc (length t)) (world begin (zeros 8200)) (omega arith) (begin-fits t e)

real-none : (v : Verdict) → RealV v → key_of v ≡ none → is_accepted v ≡ true
real-none (Ok x) h e = refl
real-none (Err k) h e = let z : ⊥ = omega arith in absurd z

none-real : (v : Verdict) → is_accepted v ≡ true → key_of v ≡ none
none-real (Ok x) e = refl
none-real (Err k) e = true-false (sym e)

-- "You accept a source exactly when it breaks none of the listed rules": the rules of this stage
module _ (w : Width) (t : List ℕ) (n : ℕ) (e : length t ≡ 32768) (r : Rising t n) where
  pub fine-accepted : Clean (all_faults w t n) → is_accepted (parse_of w t n).verdict ≡ true
  unfolding verdict_of
  fine-accepted h =
      real-none (parse_of w t n).verdict (parse-real w t n e)
      (decided t n r w ∙ (let z : least_of (all_faults w t n) ≡ none = omega (arith, least-none (all_faults w t n), all_none (all_faults w t n) h) in z))

  pub accepted-fine : is_accepted (parse_of w t n).verdict ≡ true → Clean (all_faults w t n)
  accepted-fine h = subst (λ (v : ℕ). All (λ (k : ℕ). v ≤ k) (all_faults w t n)) (none-real (parse_of w t n).verdict h) (none-lower t n r w)
