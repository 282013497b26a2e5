-- The frames under one another: their words sum up to the frame's start, their heads are good, and a return comes out where the
-- ledger says.
-- Assumes nothing.
use mathlib.Core.Path.{◌≡◌, refl, sym, ◌∙◌, ap, subst}
use mathlib.Core.Bool.{Bool, true, false}
use mathlib.Core.Option.{Option, none, some}
use mathlib.Core.List.{List, [], ◌∷◌}
use Prim.Native.Nat.{ℕ, zero, suc, ◌+◌, ◌-◌, ◌<◌, ◌≤◌}
use native.Mathlib.Nat.{not-suc-le-zero}
use native.Mathlib.Omega.{arith}
use borrow.Author.Tests.{eq-eqb, ne_eqb, lt-ltb, le-leb}
use lib.Dec.{eqb, ltb, leb}
use lib.ListN.{length}
use Rattle.base_prelude.specs.Choice.{if_true}
use Rattle.base_prelude.proofs.Choice.{true-false, either_true, if_true-yes, if_true-no}
use Rattle.base_limits.specs.declared.Width.{Width}
use Rattle.base_limits.specs.Record.{mark}
use Rattle.prog_tables.specs.Tests.{both, one_of}
use Rattle.prog_tables.specs.Statement.{Row}
use Rattle.prog_tables.specs.Label.{Tables, rows}
use Rattle.prog_tables.specs.Program.{program_from}
use Rattle.prog_tables.specs.Faults.{in_function, size_at}
use Rattle.prog_tables.specs.WellFormed.{WellFormed}
use Rattle.prog_tables.proofs.Each.{both_true}
use Rattle.prog_tables.proofs.Sound.{function-sound}
use Rattle.prog_laws.proofs.Rows.{size-here, size-at}
use Rattle.vm_definitions.specs.Access.{word_good}
use Rattle.vm_definitions.specs.Operands.{number_in}
use Rattle.vm_definitions.specs.Frames.{returns_to, caller_frame, top_at_entry, is_first, is_return_call, is_calling, called_from, head_good, passes_on, leaves_good, resumption_of}
use Rattle.vm_definitions.specs.Ledger.{Entry, Ledger, from_return, popped, sum_of, last_of}
use Rattle.vm_definitions.specs.Step.{World}
use Rattle.vm_definitions.specs.declared.Resumption.{Resumption}
use Rattle.vm_definitions.specs.declared.Resumption.TheVariants.{Ends, Caller}
use Rattle.vm_definitions.proofs.Invariant.{FrameAt, Head, FirstHead, Under, Invariant}

-- ---- tests

pub one_left : (p q : Bool) → p ≡ true → one_of p q ≡ true
one_left true q e = refl
one_left false q e = true-false (sym e)

pub one_right : (p q : Bool) → q ≡ true → one_of p q ≡ true
one_right true q e = refl
one_right false q e = e

module _ (w : Width) (t : Tables) (m : ℕ) (st : List ℕ) where
  -- a frame starts behind the words of all functions under it
  pub under-sum : (c : Option ℕ) (es : Ledger) (s : ℕ) → Under w t m st c es s → s ≡ sum_of (rows t) es
  unfolding Under sum_of
  under-sum none [] s u = u.at
  under-sum none (d ∷ es) s u = absurd u
  under-sum (some c) [] s u = absurd u
  under-sum (some c) (d ∷ es) s u = omega (arith, u.0.ends, under-sum d.call es (caller_frame st s) u.1)

  -- ---- where a return comes out

  -- at row c in the frame of d from v to u, with an auto top, ds being under it
  pub record CallerAt (d : Entry) (ds : Ledger) (c v u top : ℕ) : Type 0 where
    pub within : c < t.count
    pub calls : is_calling (rows t c) ≡ true
    pub plain : is_return_call (rows t c) ≡ false
    pub frame : FrameAt w t m st d.func v c
    pub under : Under w t m st d.call ds v
    pub ends : v + (rows t d.func).a ≡ u
    pub low : top ≤ m
    pub address : (rows t c).kind ≡ 7 → word_good w m (number_in w st v (rows t c).address) ≡ true

  -- p is the ledger then
  pub data Resumed (p : Ledger) (l : Resumption) : Type 0 where
    ends : (top : ℕ) → l ≡ Ends top → top ≤ m → p ≡ [] → Resumed p l
    to-caller : (d : Entry) (ds : Ledger) (c v u top : ℕ) → CallerAt d ds c v u top → l ≡ Caller c v u top → p ≡ d ∷ ds → Resumed p l

  again : (p q : Ledger) (l k : Resumption) → q ≡ p → k ≡ l → Resumed p l → Resumed q k
  again p q l k a b (ends top e h d) = ends top (b ∙ e) h (a ∙ d)
  again p q l k a b (to-caller d ds c v u top x e f) = to-caller d ds c v u top x (b ∙ e) (a ∙ f)

-- what a return leaves open lies under the frame it leaves
pub popped-sum : (f : ℕ → Row) (e : Entry) (es : Ledger) → sum_of f (popped f (e ∷ es)) ≤ sum_of f es
unfolding popped sum_of
popped-sum f e [] = either_true (λ (p : Ledger). sum_of f p ≤ 0) (from_return f e.call) [] [] (λ k. omega arith) (λ k. omega arith)
popped-sum f e (d ∷ es) =
    either_true (λ (p : Ledger). sum_of f p ≤ sum_of f (d ∷ es)) (from_return f e.call) (popped f (d ∷ es)) (d ∷ es)
    (λ k. omega (arith, popped-sum f d es)) (λ k. omega arith)

-- the words in use are those of all open functions
pub invariant-sum : (w : Width) (t : Tables) (e : Entry) (es : Ledger) (x : World) → Invariant w t e es x → x.machine.used ≡ sum_of (rows t) (e ∷ es)
unfolding sum_of
invariant-sum w t e es x i = omega (arith, i.ends, under-sum w t (length x.memory) x.stack e.call es x.machine.frame i.under)

pub invariant-frame : (w : Width) (t : Tables) (e : Entry) (es : Ledger) (x : World) → Invariant w t e es x
    → x.machine.frame ≡ sum_of (rows t) (e ∷ es) - last_of (rows t) (e ∷ es)
unfolding sum_of last_of
invariant-frame w t e es x i = omega (arith, under-sum w t (length x.memory) x.stack e.call es x.machine.frame i.under)

module _ (w : Width) (t : Tables) (ok : WellFormed (program_from w t)) (m : ℕ) (st : List ℕ) where
  -- the size of a frame's function
  pub frame-size : (g s p : ℕ) → FrameAt w t m st g s p → size_at (rows t) t.count p ≡ (rows t g).a
  frame-size g s p x = size-here w t ok p x.within ∙ ap (λ (n : ℕ). (rows t n).a) x.func

  pub frame-some : (g s p : ℕ) → FrameAt w t m st g s p → 3 ≤ (rows t g).a
  frame-some g s p x = omega (arith, (size-at w t ok p x.within).head, ap (λ (n : ℕ). (rows t n).a) x.func)

  -- ---- heads

  first-yes : (s : ℕ) → FirstHead w t m st s → is_first w st s ≡ true
  unfolding is_first
  first-yes s u =
      both_true (eqb s 0) (both (eqb (returns_to st s) (mark w)) (eqb (caller_frame st s) (mark w))) (eq-eqb _ _ u.at)
      (both_true (eqb (returns_to st s) (mark w)) (eqb (caller_frame st s) (mark w)) (eq-eqb _ _ u.place) (eq-eqb _ _ u.caller))

  module _ (c g s : ℕ) (h : Head w t m st c g s) where
    -- a called frame starts behind its caller's
    pub head-behind : caller_frame st s < s
    head-behind = omega (arith, h.ends, frame-some g (caller_frame st s) c h.frame)

    first-no : is_first w st s ≡ false
    unfolding is_first
    first-no = ap (λ (b : Bool). both b (both (eqb (returns_to st s) (mark w)) (eqb (caller_frame st s) (mark w)))) (ne_eqb s 0 (λ (e : s ≡ 0). omega (arith, head-behind)))

    called : called_from (rows t) t.count st s ≡ true
    unfolding called_from
    called = subst (λ (p : ℕ). both (ltb p t.count) (both (in_function (rows t) t.count p) (both (is_calling (rows t p)) (eqb (caller_frame st s + size_at (rows t) t.count p) s))) ≡ true) (sym h.place) at
      where
        at : both (ltb c t.count) (both (in_function (rows t) t.count c) (both (is_calling (rows t c)) (eqb (caller_frame st s + size_at (rows t) t.count c) s))) ≡ true
        at =
            both_true (ltb c t.count) (both (in_function (rows t) t.count c) (both (is_calling (rows t c)) (eqb (caller_frame st s + size_at (rows t) t.count c) s))) (lt-ltb _ _ h.frame.within)
            (both_true (in_function (rows t) t.count c) (both (is_calling (rows t c)) (eqb (caller_frame st s + size_at (rows t) t.count c) s)) (function-sound w t ok c h.frame.within)
            (both_true (is_calling (rows t c)) (eqb (caller_frame st s + size_at (rows t) t.count c) s) h.calls
            (eq-eqb _ _ (ap (λ (n : ℕ). caller_frame st s + n) (frame-size g (caller_frame st s) c h.frame) ∙ h.ends))))

    passes : passes_on w (rows t) t.count st s ≡ is_return_call (rows t c)
    unfolding passes_on
    passes =
        if_true-no false (both (called_from (rows t) t.count st s) (is_return_call (rows t (returns_to st s)))) first-no
        ∙ ap (λ (b : Bool). both b (is_return_call (rows t (returns_to st s)))) called
        ∙ ap (λ (n : ℕ). is_return_call (rows t n)) h.place

  pub head-good : (c : Option ℕ) (es : Ledger) (s : ℕ) → Under w t m st c es s → head_good w (rows t) t.count st s ≡ true
  unfolding Under head_good
  head-good none [] s u = one_left (is_first w st s) (called_from (rows t) t.count st s) (first-yes s u)
  head-good none (d ∷ es) s u = absurd u
  head-good (some c) [] s u = absurd u
  head-good (some c) (d ∷ es) s u = one_right (is_first w st s) (called_from (rows t) t.count st s) (called c d.func s u.0)

  -- the frames that a return leaves
  pub leaves-good : (c : Option ℕ) (es : Ledger) (fuel s : ℕ) → Under w t m st c es s → top_at_entry st s ≤ m → s < fuel
      → leaves_good w (rows t) t.count m st fuel s ≡ true
  unfolding Under leaves_good passes_on
  leaves-good c es zero s u l h = absurd (not-suc-le-zero h)
  leaves-good none [] (suc fuel) s u l h =
      both_true (head_good w (rows t) t.count st s) _ (head-good none [] s u)
      (both_true (leb (top_at_entry st s) m) _ (le-leb _ _ l)
      (if_true-no (leaves_good w (rows t) t.count m st fuel (caller_frame st s)) true
      (if_true-yes false (both (called_from (rows t) t.count st s) (is_return_call (rows t (returns_to st s)))) (first-yes s u))))
  leaves-good none (d ∷ es) (suc fuel) s u l h = absurd u
  leaves-good (some c) [] (suc fuel) s u l h = absurd u
  leaves-good (some c) (d ∷ es) (suc fuel) s u l h =
      both_true (head_good w (rows t) t.count st s) _ (head-good (some c) (d ∷ es) s u)
      (both_true (leb (top_at_entry st s) m) _ (le-leb _ _ l)
      (either_true (λ (b : Bool). b ≡ true) (passes_on w (rows t) t.count st s) (leaves_good w (rows t) t.count m st fuel (caller_frame st s)) true
      (λ e. leaves-good d.call es fuel (caller_frame st s) u.1 u.0.frame.top (omega (arith, head-behind c d.func s u.0, h)))
      (λ e. refl)))

  -- ---- returns

  resumed-by : (c : Option ℕ) (es : Ledger) (fuel s : ℕ) → Under w t m st c es s → top_at_entry st s ≤ m → s < fuel
      → Resumed w t m st (if_true (from_return (rows t) c) (popped (rows t) es) es) (resumption_of w (rows t) t.count st fuel s)
  unfolding Under resumption_of popped from_return
  resumed-by c es zero s u l h = absurd (not-suc-le-zero h)
  resumed-by none [] (suc fuel) s u l h =
      ends (top_at_entry st s) (if_true-yes _ _ (first-yes s u)) l (if_true-no (popped (rows t) []) [] refl)
  resumed-by none (d ∷ es) (suc fuel) s u l h = absurd u
  resumed-by (some c) [] (suc fuel) s u l h = absurd u
  resumed-by (some c) (d ∷ es) (suc fuel) s u l h =
      by (λ k. resumed-by d.call es fuel (caller_frame st s) u.1 u.0.frame.top k) (is_return_call (rows t c)) refl
    where
      by : (caller_frame st s < fuel → Resumed w t m st (popped (rows t) (d ∷ es)) (resumption_of w (rows t) t.count st fuel (caller_frame st s))) → (b : Bool) → is_return_call (rows t c) ≡ b → Resumed w t m st (if_true (from_return (rows t) (some c)) (popped (rows t) (d ∷ es)) (d ∷ es)) (resumption_of w (rows t) t.count st (suc fuel) s)
      by on true e =
          again w t m st _ _ _ _ (if_true-yes (popped (rows t) (d ∷ es)) (d ∷ es) e)
          (if_true-no _ _ (first-no c d.func s u.0) ∙ if_true-yes _ _ (passes c d.func s u.0 ∙ e))
          (on (omega (arith, head-behind c d.func s u.0, h)))
      by on false e =
          to-caller d es c (caller_frame st s) s (top_at_entry st s)
          (record {
            within = u.0.frame.within;
            calls = u.0.calls;
            plain = e;
            frame = u.0.frame;
            under = u.1;
            ends = u.0.ends;
            low = l;
            address = u.0.address;
          })
          (if_true-no _ _ (first-no c d.func s u.0) ∙ if_true-no _ _ (passes c d.func s u.0 ∙ e)
          ∙ ap (λ (n : ℕ). Caller n (caller_frame st s) s (top_at_entry st s)) u.0.place)
          (if_true-no (popped (rows t) (d ∷ es)) (d ∷ es) e)

  pub resumed : (e : Entry) (es : Ledger) (fuel s : ℕ) → Under w t m st e.call es s → top_at_entry st s ≤ m → s < fuel
      → Resumed w t m st (popped (rows t) (e ∷ es)) (resumption_of w (rows t) t.count st fuel s)
  unfolding popped
  resumed e es fuel s u l h = resumed-by e.call es fuel s u l h
