-- What holds of a world that has not finished, and of the ledger it was fed: the open functions' frames lie on the stack one
-- behind the other, each with its head, and every saved auto top is within the memory.
-- Assumes nothing.
use mathlib.Core.Path.{◌≡◌}
use Prim.Native.Nat.{ℕ, ◌+◌, ◌≤◌, ◌<◌}
use mathlib.Core.Bool.{true}
use mathlib.Core.Option.{Option, none, some}
use mathlib.Core.List.{List, [], ◌∷◌}
use lib.ListN.{get_or, length}
use Rattle.base_limits.specs.Limits.{stack_words}
use Rattle.base_limits.specs.Width.{memory_limit}
use Rattle.base_limits.specs.declared.Width.{Width}
use Rattle.base_limits.specs.Record.{mark}
use Rattle.prog_tables.specs.Label.{Tables, rows}
use Rattle.prog_tables.specs.Nesting.{encloses}
use Rattle.prog_tables.specs.Frames.{frame_depth}
use Rattle.vm_definitions.specs.Access.{word_good}
use Rattle.vm_definitions.specs.Operands.{number_in}
use Rattle.vm_definitions.specs.Frames.{returns_to, caller_frame, top_at_entry, is_calling}
use Rattle.vm_definitions.specs.Step.{World}
use Rattle.vm_definitions.specs.Ledger.{Entry, Ledger}

module _ (w : Width) (t : Tables) (m : ℕ) (st : List ℕ) where
  -- the frame at s of the function at row g, in which p is the next statement or the calling one
  pub record FrameAt (g s p : ℕ) : Type 0 where
    pub within : p < t.count
    pub inside : (rows t p).kind ≡ 1 → ⊥
    pub func : (rows t p).func ≡ g
    pub top : top_at_entry st s ≤ m
    pub blocks : (b : ℕ) → b < t.count → (rows t b).kind ≡ 3 → encloses (rows t) frame_depth b (rows t p).scope ≡ true → get_or st (s + (rows t b).a) 0 ≤ m

  -- the head of the frame at s, called by row c in a function at row g
  pub record Head (c g s : ℕ) : Type 0 where
    pub place : returns_to st s ≡ c
    pub ends : caller_frame st s + (rows t g).a ≡ s
    pub calls : is_calling (rows t c) ≡ true
    pub address : (rows t c).kind ≡ 7 → word_good w m (number_in w st (caller_frame st s) (rows t c).address) ≡ true
    pub frame : FrameAt g (caller_frame st s) c

  pub record FirstHead (s : ℕ) : Type 0 where
    pub at : s ≡ 0
    pub place : returns_to st s ≡ mark w
    pub caller : caller_frame st s ≡ mark w

  -- what lies under the frame at s, which was called so, the functions under it being those of a ledger
  unfoldable pub Under : Option ℕ → Ledger → ℕ → Type 0
  Under none [] s = FirstHead s
  Under none (d ∷ es) s = ⊥
  Under (some c) [] s = ⊥
  Under (some c) (d ∷ es) s = Head c d.func s × Under d.call es (caller_frame st s)

-- of a world whose ledger has e last opened, and es under it
pub record Invariant (w : Width) (t : Tables) (e : Entry) (es : Ledger) (x : World) : Type 0 where
  pub frame : FrameAt w t (length x.memory) x.stack e.func x.machine.frame x.machine.next
  pub under : Under w t (length x.memory) x.stack e.call es x.machine.frame
  pub ends : x.machine.frame + (rows t e.func).a ≡ x.machine.used
  pub lent : x.machine.used ≤ length x.stack
  pub few : length x.stack ≤ stack_words
  pub top : x.machine.top ≤ length x.memory
  pub data-fits : t.data_length ≤ length x.memory
  pub short : length x.memory ≤ memory_limit w
