-- The frames of the invariant on another stack, which has the words that they speak of.
-- Assumes nothing.
use mathlib.Core.Path.{◌≡◌, refl, sym, ◌∙◌, ap, subst}
use Prim.Native.Nat.{ℕ, ◌+◌, ◌<◌, ◌≤◌}
use mathlib.Core.Bool.{true, false}
use mathlib.Core.Option.{Option, none, some}
use mathlib.Core.List.{List, [], ◌∷◌}
use native.Mathlib.Omega.{arith}
use lib.ListN.{get_or, length}
use Rattle.base_limits.specs.declared.Width.{Width}
use Rattle.base_limits.specs.Record.{going_on}
use Rattle.prog_tables.specs.Label.{Tables, rows}
use Rattle.prog_tables.specs.Program.{program_from}
use Rattle.prog_tables.specs.Nesting.{encloses}
use Rattle.prog_tables.specs.Frames.{frame_depth}
use Rattle.prog_tables.specs.Faults.{operand_fault}
use Rattle.prog_tables.specs.WellFormed.{WellFormed}
use Rattle.prog_tables.specs.declared.Operand.{Operand}
use Rattle.prog_tables.specs.declared.Operand.TheVariants.{Constant, Local, Address, AtConstant, AtLocal, AtAddress, Unlisted}
use Rattle.prog_tables.proofs.Words.{around-func}
use Rattle.prog_tables.proofs.Sound.{ok}
use Rattle.prog_laws.proofs.Next.{scope-frame}
use Rattle.prog_laws.proofs.Rows.{local-word, at-local-word, size-at, address-words}
use Rattle.prog_laws.proofs.Words.{block_within}
use Rattle.vm_definitions.specs.Access.{word_good}
use Rattle.vm_definitions.specs.Operands.{number_in}
use Rattle.vm_definitions.specs.Frames.{caller_frame}
use Rattle.vm_definitions.specs.Step.{World}
use Rattle.vm_definitions.specs.Ledger.{Entry, Ledger}
use Rattle.vm_definitions.proofs.Invariant.{FrameAt, Head, Under, Invariant}

-- two stacks agree below n
abbrev pub Agree : List ℕ → List ℕ → ℕ → Type 0
Agree st' st n = (i : ℕ) → i < n → get_or st' i 0 ≡ get_or st i 0

-- an operand that is not broken reads its own frame
pub number_same : (w : Width) (st st' : List ℕ) (s size d n : ℕ) (o : Operand) → operand_fault size d o ≡ false → s + size ≤ n → Agree st' st n → number_in w st' s o ≡ number_in w st s o
unfolding number_in
number_same w st st' s size d n (Constant v) e h same = refl
number_same w st st' s size d n (Local v) e h same = same (s + v) (omega (arith, local-word size d v e))
number_same w st st' s size d n (Address v) e h same = refl
number_same w st st' s size d n (AtConstant v) e h same = refl
number_same w st st' s size d n (AtLocal v) e h same = same (s + v) (omega (arith, at-local-word size d v e))
number_same w st st' s size d n (AtAddress v) e h same = refl
number_same w st st' s size d n Unlisted e h same = refl

module _ (w : Width) (t : Tables) (good : WellFormed (program_from w t)) where
  -- the word of a block that is open at row p is in the frame of p's function
  pub block_in : (p b : ℕ) → p < t.count → ((rows t p).kind ≡ 1 → ⊥) → b < t.count → (rows t b).kind ≡ 3 → encloses (rows t) frame_depth b (rows t p).scope ≡ true
      → (rows t b).a < (rows t (rows t p).func).a
  block_in p b h q l k e =
      omega (
        arith,
        block_within w t good b l k,
        ap (λ (x : ℕ). (rows t x).a)
            (around-func (rows t) t.count (ok w t good) 17 b (rows t p).scope (omega (arith, (scope-frame w t good p h q).low)) e ∙ (scope-frame w t good p h q).same),
      )

  pub frame_same : (m : ℕ) (st st' : List ℕ) (g s p n : ℕ) → Agree st' st n → s + (rows t g).a ≤ n → FrameAt w t m st g s p → FrameAt w t m st' g s p
  frame_same m st st' g s p n same h x =
      record {
        within = x.within;
        inside = x.inside;
        func = x.func;
        top = omega (arith, x.top, same (s + 2) (omega (arith, size)));
        blocks = λ b l k e. omega (arith, x.blocks b l k e, same (s + (rows t b).a) (omega (arith, own, block_in p b x.within x.inside l k e)));
      }
    where
      own : (rows t (rows t p).func).a ≡ (rows t g).a
      own = ap (λ (y : ℕ). (rows t y).a) x.func

      size : 3 ≤ (rows t g).a
      size = omega (arith, own, (size-at w t good p x.within).head)

  -- at another row of its function and scope
  pub frame-to : (m : ℕ) (st : List ℕ) (g s p q : ℕ) → q < t.count → ((rows t q).kind ≡ 1 → ⊥) → (rows t q).func ≡ (rows t p).func → (rows t q).scope ≡ (rows t p).scope
      → FrameAt w t m st g s p → FrameAt w t m st g s q
  frame-to m st g s p q l i f c x =
      record {
        within = l;
        inside = i;
        func = f ∙ x.func;
        top = x.top;
        blocks = λ b h k e. x.blocks b h k (ap (encloses (rows t) frame_depth b) (sym c) ∙ e);
      }

  -- what lies under the frame at s: the words before it and its first two
  pub under_same : (m : ℕ) (st st' : List ℕ) (c : Option ℕ) (es : Ledger) (s : ℕ) → Agree st' st (s + 2) → Under w t m st c es s → Under w t m st' c es s
  unfolding Under
  under_same m st st' none [] s same u =
      record { at = u.at; place = same s (omega arith) ∙ u.place; caller = same (s + 1) (omega arith) ∙ u.caller }
  under_same m st st' none (d ∷ es) s same u = u
  under_same m st st' (some c) [] s same u = u
  under_same m st st' (some c) (d ∷ es) s same u =
      (head, subst (Under w t m st' d.call es) (sym z) (under_same m st st' d.call es (caller_frame st s) (λ i l. same i (omega (arith, u.0.ends))) u.1))
    where
      z : caller_frame st' s ≡ caller_frame st s
      z = same (s + 1) (omega arith)

      own : (rows t (rows t c).func).a ≡ (rows t d.func).a
      own = ap (λ (y : ℕ). (rows t y).a) u.0.frame.func

      below : Agree st' st s
      below i l = same i (omega arith)

      number : (rows t c).kind ≡ 7 → number_in w st' (caller_frame st' s) (rows t c).address ≡ number_in w st (caller_frame st s) (rows t c).address
      number k =
          ap (λ (y : ℕ). number_in w st' y (rows t c).address) z
          ∙ number_same w st st' (caller_frame st s) (rows t (rows t c).func).a t.data_length s (rows t c).address
          (address-words w t good c u.0.frame.within k).whole (omega (arith, own, u.0.ends)) below

      head : Head w t m st' c d.func s
      head =
          record {
            place = same s (omega arith) ∙ u.0.place;
            ends = ap (λ (y : ℕ). y + (rows t d.func).a) z ∙ u.0.ends;
            calls = u.0.calls;
            address = λ k. ap (word_good w m) (number k) ∙ u.0.address k;
            frame =
                subst (λ (y : ℕ). FrameAt w t m st' d.func y c) (sym z)
                (frame_same m st st' d.func (caller_frame st s) c s below (omega (arith, u.0.ends)) u.0.frame);
          }

  -- the same frame at row n, with another auto top, stack and memory
  pub kept : (e : Entry) (es : Ledger) (x : World) → Invariant w t e es x → (n top : ℕ) (st mem : List ℕ) → length st ≡ length x.stack → length mem ≡ length x.memory
      → top ≤ length x.memory → FrameAt w t (length x.memory) st e.func x.machine.frame n → Agree st x.stack (x.machine.frame + 2)
      → Invariant w t e es (record { machine = going_on x.machine n top; stack = st; memory = mem })
  unfolding going_on
  kept e es x i n top st mem ls lm h f same =
      record {
        frame = subst (λ (m : ℕ). FrameAt w t m st e.func x.machine.frame n) (sym lm) f;
        under =
            subst (λ (m : ℕ). Under w t m st e.call es x.machine.frame) (sym lm)
            (under_same (length x.memory) x.stack st e.call es x.machine.frame same i.under);
        ends = i.ends;
        lent = omega (arith, i.lent);
        few = omega (arith, i.few);
        top = omega arith;
        data-fits = omega (arith, i.data-fits);
        short = omega (arith, i.short);
      }
