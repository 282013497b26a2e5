-- The ways through calls and returns.
-- Assumes nothing.
use Rattle.prog_tables.specs.declared.Operand.{Operand}
use Rattle.vm_quick_operands.proofs.Reading.{Reading, reading-none, reading-more, reading-stops, reading-done}
use Rattle.vm_quick_operands.specs.Fast.{read_each}
use Rattle.std.proofs.Common.{Err, Option, Some, None, Ok}
use Rattle.vm_definitions.specs.Operands.{Worked, valued}
use mathlib.Core.Path.{◌≡◌, refl, sym, ◌∙◌, ap}
use mathlib.Core.Bool.{Bool, true, false}
use mathlib.Core.List.{List}
use Prim.Native.Nat.{ℕ, zero, suc, ◌+◌, ◌-◌, ◌*◌, ◌<◌, ◌≤◌}
use native.Mathlib.Omega.{arith}
use lib.ListN.{length, get_or, set, take}
use lib.Dec.{eqb, ltb, leb}
use borrow.Author.Tests.{eq-eqb, ne_eqb, lt-ltb, le-ltb, le-leb, lt-leb}
use Rattle.base_prelude.specs.Choice.{if_lt, if_eq, if_true}
use Rattle.prog_tables.specs.Statement.{Row, operand_of, operand_at, slots, row_at}
use Rattle.prog_tables.specs.Program.{Program, lent_program}
use Rattle.prog_tables.specs.Faults.{operand_fault}
use Rattle.vm_definitions.specs.Access.{store_from}
use Rattle.base_limits.specs.declared.Width.TheVariants.{Bits32}
use Rattle.vm_definitions.specs.Frames.{frame_words}
use Rattle.vm_calls.specs.Outcomes.{words_given}
use Rattle.vm_quick_operands.specs.Fast.{good_read, good_work, size_of}
use Rattle.prog_tables.proofs.Ranges.{one_more_lem}
use Rattle.vm_quick_calls.specs.declared.Transfer.{Transfer}
use Rattle.vm_definitions.specs.declared.Value.{Value}
use Rattle.vm_quick_calls.specs.Transfers.{to_frame, Transferred, transferred, good_from, callee_size, calls_local, calls_any, call_good, good_all, pushed, entered_by, entered, call_transfer, tail_transfer, result_of, resumed, hand_to, hand_transfer, return_by, return_transfer, transfer_of}

-- ---- operands

module _ (t : List ℕ) (size d i k v : ℕ) (e : k ≡ get_or t i 0) (g : v ≡ get_or t (i + 1) 0) where
  pub bad-constant : k ≡ 1 → false ≡ operand_fault size d (operand_at t i)
  unfolding operand_at operand_of operand_fault if_eq
  bad-constant h = rw (← e, h)

  pub bad-local : k ≡ 2 → leb size v ≡ operand_fault size d (operand_at t i)
  unfolding operand_at operand_of operand_fault if_eq
  bad-local h = rw (← e, h, ← g)

  pub bad-address : k ≡ 3 → ltb d v ≡ operand_fault size d (operand_at t i)
  unfolding operand_at operand_of operand_fault if_eq
  bad-address h = rw (← e, h, ← g)

  pub bad-at-constant : k ≡ 4 → false ≡ operand_fault size d (operand_at t i)
  unfolding operand_at operand_of operand_fault if_eq
  bad-at-constant h = rw (← e, h)

  pub bad-at-local : k ≡ 5 → leb size v ≡ operand_fault size d (operand_at t i)
  unfolding operand_at operand_of operand_fault if_eq
  bad-at-local h = rw (← e, h, ← g)

  pub bad-at-address : k ≡ 6 → ltb d v ≡ operand_fault size d (operand_at t i)
  unfolding operand_at operand_of operand_fault if_eq
  bad-at-address h = rw (← e, h, ← g)

  pub bad-unlisted : (k ≡ 1 → ⊥) → (k ≡ 2 → ⊥) → (k ≡ 3 → ⊥) → (k ≡ 4 → ⊥) → (k ≡ 5 → ⊥) → (k ≡ 6 → ⊥) → true ≡ operand_fault size d (operand_at t i)
  unfolding operand_at operand_of operand_fault if_eq
  bad-unlisted a1 a2 a3 a4 a5 a6 = rw (← e, ne_eqb k 1 a1, ne_eqb k 2 a2, ne_eqb k 3 a3, ne_eqb k 4 a4, ne_eqb k 5 a5, ne_eqb k 6 a6)

pub ruleset bads = (bad-constant, bad-local, bad-address, bad-at-constant, bad-at-local, bad-at-address, bad-unlisted)

-- what is left to test gives the whole answer
pub record GoodSoFar (t : List ℕ) (at size d k i : ℕ) : Type 0 where
  pub below : i ≤ k
  pub rest : good_from t at size d (k - i) i ≡ good_from t at size d k 0

module _ (t : List ℕ) (at size d k : ℕ) where
  pub good_none : GoodSoFar t at size d k 0
  good_none = let z : k - 0 ≡ k = omega arith in record { below = omega arith; rest = ap (λ (j : ℕ). good_from t at size d j 0) z }

  module _ (i : ℕ) (h : GoodSoFar t at size d k i) where
    module _ (b : Bool) (l : i < k) (e : b ≡ operand_fault size d (operand_at t (at + 11 + i * 2))) where
      one_less : good_from t at size d (k - i) i ≡ if_true b false (good_from t at size d (k - (i + 1)) (i + 1))
      unfolding good_from
      one_less =
          let z : k - i ≡ suc (k - (i + 1)) = omega (arith, l) in
          ap (λ (j : ℕ). good_from t at size d j i) z
          ∙ ap (λ (j : ℕ). if_true (operand_fault size d (operand_at t (at + 11 + i * 2))) false (good_from t at size d (k - (i + 1)) j)) (sym (one_more_lem i))
          ∙ ap (λ (x : Bool). if_true x false (good_from t at size d (k - (i + 1)) (i + 1))) (sym e)

      pub good-bad : b ≡ true → false ≡ good_from t at size d k 0
      unfolding if_true
      good-bad q = sym (one_less ∙ rw q) ∙ h.rest

      pub good_more : b ≡ false → GoodSoFar t at size d k (i + 1)
      unfolding if_true
      good_more q = record { below = omega (arith, l); rest = sym (one_less ∙ rw q) ∙ h.rest }

    pub good-done : k ≤ i → true ≡ good_from t at size d k 0
    unfolding good_from
    good-done l = let z : k - i ≡ 0 = omega (arith, l) in ap (λ (j : ℕ). good_from t at size d j i) (sym z) ∙ h.rest

pub ruleset goods = (good_none, good-bad, good_more, good-done)

-- ---- rows that call

module _ (t : List ℕ) (c : ℕ) (lw : List ℕ) (lc d p k b : ℕ) (e : b ≡ (row_at t p).b) where
  pub callee-fits : (r : ℕ) → b ≡ k → r ≡ size_of (row_at t) c p → r ≡ callee_size (lent_program t c lw lc d) p k
  unfolding callee_size if_eq
  callee-fits r h q = rw (← e, eq-eqb b k h) q

  pub callee-other : (b ≡ k → ⊥) → 0 ≡ callee_size (lent_program t c lw lc d) p k
  unfolding callee_size if_eq
  callee-other h = rw (← e, ne_eqb b k h)

pub ruleset callees = (callee-fits, callee-other)

module _ (t : List ℕ) (size n : ℕ) where
  module _ (x : ℕ) (q : x ≡ (row_at t n).expr) where
    pub local-none : (x ≡ 2 → ⊥) → false ≡ calls_local (row_at t) size n
    unfolding calls_local if_eq
    local-none h = rw (← q, ne_eqb x 2 h)

    module _ (h : x ≡ 2) (k a : ℕ) (e : k ≡ (row_at t n).kind) (p : a ≡ (row_at t n).a) where
      pub local-bare : k ≡ 11 → true ≡ calls_local (row_at t) size n
      unfolding calls_local if_eq
      local-bare z = rw (← q, h, ← e, z)

      pub local-let : k ≡ 5 → ltb a size ≡ calls_local (row_at t) size n
      unfolding calls_local if_eq
      local-let z = rw (← q, h, ← e, z, ← p)

      pub local-set : k ≡ 6 → ltb a size ≡ calls_local (row_at t) size n
      unfolding calls_local if_eq
      local-set z = rw (← q, h, ← e, z, ← p)

      pub local-other : (k ≡ 11 → ⊥) → (k ≡ 5 → ⊥) → (k ≡ 6 → ⊥) → false ≡ calls_local (row_at t) size n
      unfolding calls_local if_eq
      local-other w y z = rw (← q, h, ← e, ne_eqb k 11 w, ne_eqb k 5 y, ne_eqb k 6 z)

module _ (t : List ℕ) (size n k : ℕ) (e : k ≡ (row_at t n).kind) where
  pub any-return : (x : ℕ) → k ≡ 13 → x ≡ (row_at t n).expr → eqb x 2 ≡ calls_any (row_at t) size n
  unfolding calls_any if_eq
  any-return x h q = rw (← e, h, ← q)

  pub any-local : (r : Bool) → (k ≡ 13 → ⊥) → r ≡ calls_local (row_at t) size n → r ≡ calls_any (row_at t) size n
  unfolding calls_any if_eq
  any-local r h q = rw (← e, ne_eqb k 13 h) q

pub ruleset locals = (local-bare, local-none, local-let, local-set, local-other)

pub ruleset anys = (any-return, any-local)

module _ (t : List ℕ) (c : ℕ) (lw : List ℕ) (lc d size p k : ℕ) (e : k ≡ (row_at t p).count) where
  pub call-many : 8 < k → false ≡ call_good t c lw lc d size p
  unfolding call_good if_lt
  call-many l = rw (← e, lt-ltb 8 k l)

  module _ (f z : ℕ) (l : k ≤ 8) (i : f ≡ (row_at t p).callee) (h : z ≡ callee_size (lent_program t c lw lc d) f k) where
    pub call_none : z ≡ 0 → false ≡ call_good t c lw lc d size p
    unfolding call_good if_lt if_eq
    call_none q = rw (← e, le-ltb 8 k l, ← i, ← h, q)

    module _ (b : Bool) (q : z ≡ 0 → ⊥) (g : b ≡ calls_local (row_at t) size p) where
      pub call-other : b ≡ false → false ≡ call_good t c lw lc d size p
      unfolding call_good if_lt if_eq if_true
      call-other w = rw (← e, le-ltb 8 k l, ← i, ← h, ne_eqb z 0 q, ← g, w)

      pub call-local : (r : Bool) → b ≡ true → r ≡ good_from t (p * 27) size d k 0 → r ≡ call_good t c lw lc d size p
      unfolding call_good if_lt if_eq if_true
      call-local r w o = rw (← e, le-ltb 8 k l, ← i, ← h, ne_eqb z 0 q, ← g, w) o

pub ruleset call-tests = (call-many, call_none, call-other, call-local)

-- ---- calls

module _ (rd : Operand → Option ℕ) (t : List ℕ) (at k : ℕ) (ws : List ℕ) (i : ℕ) (h : Reading rd t at k ws i) where
  pub arguments-stop : (x : Option ℕ) → i < k → x ≡ rd (operand_at t (at + 11 + i * 2)) → x ≡ None → words_given None k ≡ read_each rd (take k (slots t at))
  unfolding if_true
  arguments-stop x l e g = reading-stops rd t at k ws i x h l e g

  pub arguments-read : k ≤ i → words_given (Some ws) k ≡ read_each rd (take k (slots t at))
  unfolding if_true
  arguments-read l = reading-done rd t at k ws i h l

pub ruleset arguments = (reading-none, reading-more, arguments-stop, arguments-read)

pub push-built : (st st' : List ℕ) (at call below top p z : ℕ) (vs : List ℕ) → st' ≡ store_from st at (frame_words Bits32 call below top vs z)
    → transferred (to_frame (p + 1) at (at + z) top) st' ≡ pushed st at call below top p z vs
unfolding pushed
push-built st st' at call below top p z vs e =
    ap (λ (i : ℕ). transferred (to_frame i at (at + z) top) st') (one_more_lem p) ∙ ap (λ (y : List ℕ). transferred (to_frame (suc p) at (at + z) top) y) e

module _ (t : List ℕ) (d size : ℕ) (st : List ℕ) (s : ℕ) (m : List ℕ) (n at call below top p k z : ℕ) where
  pub enter-full : length st < at + z → transferred None st ≡ entered t d size st s m n at call below top p k z
  unfolding entered if_lt
  enter-full l = rw (lt-ltb (length st) (at + z) l)

  module _ (x : Option (List ℕ)) (l : at + z ≤ length st) (e : words_given x k ≡ good_all size d st s m (take k (slots t (n * 27)))) where
    pub enter-bad : x ≡ None → transferred None st ≡ entered t d size st s m n at call below top p k z
    unfolding entered entered_by if_lt if_true
    enter-bad h = rw (le-ltb (length st) (at + z) l, ← e, h)

    pub enter-pushed : (ws : List ℕ) (r : Option Transfer) (st' : List ℕ) → x ≡ Some ws → transferred r st' ≡ pushed st at call below top p z (take (k - 0) ws)
        → transferred r st' ≡ entered t d size st s m n at call below top p k z
    unfolding entered entered_by if_lt if_true
    enter-pushed ws r st' h q =
        let y : k - 0 ≡ k = omega arith in
        rw (le-ltb (length st) (at + z) l, ← e, h) (q ∙ ap (λ (i : ℕ). pushed st at call below top p z (take i ws)) y)

pub ruleset entering = (enter-full, enter-bad, enter-pushed)

module _ (t : List ℕ) (c : ℕ) (lw : List ℕ) (lc d size : ℕ) (st : List ℕ) (s : ℕ) (m : List ℕ) (n at call below top k : ℕ) (e : k ≡ (row_at t n).count) where
  pub transfer-many : 8 < k → transferred None st ≡ call_transfer t c lw lc d size st s m n at call below top
  unfolding call_transfer if_lt
  transfer-many l = rw (← e, lt-ltb 8 k l)

  module _ (p : ℕ) (l : k ≤ 8) (g : p ≡ (row_at t n).callee) where
    pub transfer-past : c ≤ p → transferred None st ≡ call_transfer t c lw lc d size st s m n at call below top
    unfolding call_transfer if_lt
    transfer-past h = rw (← e, le-ltb 8 k l, ← g, le-ltb p c h)

    module _ (z : ℕ) (h : p < c) (i : z ≡ callee_size (lent_program t c lw lc d) p k) where
      pub transfer-none : z ≡ 0 → transferred None st ≡ call_transfer t c lw lc d size st s m n at call below top
      unfolding call_transfer if_lt if_eq
      transfer-none q = rw (← e, le-ltb 8 k l, ← g, lt-ltb p c h, ← i, q)

      pub transfer-enters : (r : Option Transfer) (st' : List ℕ) → (z ≡ 0 → ⊥) → transferred r st' ≡ entered t d size st s m n at call below top p k z
          → transferred r st' ≡ call_transfer t c lw lc d size st s m n at call below top
      unfolding call_transfer if_lt if_eq
      transfer-enters r st' q o = rw (← e, le-ltb 8 k l, ← g, lt-ltb p c h, ← i, ne_eqb z 0 q) o

pub ruleset calling = (transfer-many, transfer-past, transfer-none, transfer-enters)

module _ (t : List ℕ) (c : ℕ) (lw : List ℕ) (lc d size : ℕ) (st : List ℕ) (s : ℕ) (m : List ℕ) (n x : ℕ) (f : x ≡ (row_at t n).expr) where
  pub tail-other : (x ≡ 2 → ⊥) → transferred None st ≡ tail_transfer t c lw lc d size st s m n
  unfolding tail_transfer if_eq
  tail-other q = rw (← f, ne_eqb x 2 q)

  module _ (z : x ≡ 2) (top : ℕ) (h : top ≡ get_or st (s + 2) 0) where
    pub tail-high : length m < top → transferred None st ≡ tail_transfer t c lw lc d size st s m n
    unfolding tail_transfer if_lt if_eq
    tail-high l = rw (← f, z, ← h, lt-ltb (length m) top l)

    pub tail-calls : (call below : ℕ) (r : Option Transfer) (st' : List ℕ) → call ≡ get_or st s 0 → below ≡ get_or st (s + 1) 0 → top ≤ length m
        → transferred r st' ≡ call_transfer t c lw lc d size st s m n s call below top → transferred r st' ≡ tail_transfer t c lw lc d size st s m n
    unfolding tail_transfer if_lt if_eq
    tail-calls call below r st' e g l q = rw (← f, z, ← h, le-ltb (length m) top l, ← e, ← g) q

pub ruleset tailing = (tail-other, tail-high, tail-calls)

-- ---- returns

module _ (t : List ℕ) (d size : ℕ) (st : List ℕ) (s : ℕ) (m : List ℕ) (n top k : ℕ) (e : k ≡ (row_at t n).kind) where
  pub result-end : k ≡ 2 → valued 0 0 ≡ result_of t d size st s m n top
  unfolding result_of if_eq
  result-end h = rw (← e, h)

  pub result-bare : (x : ℕ) → k ≡ 13 → x ≡ (row_at t n).expr → x ≡ 0 → valued 0 0 ≡ result_of t d size st s m n top
  unfolding result_of if_eq
  result-bare x h q z = rw (← e, h, ← q, z)

  pub result-work : (x : ℕ) (r : Worked) → k ≡ 13 → x ≡ (row_at t n).expr → (x ≡ 0 → ⊥) → r ≡ good_work t (n * 27) size d st s m top → r ≡ result_of t d size st s m n top
  unfolding result_of if_eq
  result-work x r h q z o = rw (← e, h, ← q, ne_eqb x 0 z) o

  pub result-none : (k ≡ 2 → ⊥) → (k ≡ 13 → ⊥) → Err 0 ≡ result_of t d size st s m n top
  unfolding result_of if_eq
  result-none h q = rw (← e, ne_eqb k 2 h, ne_eqb k 13 q)

pub ruleset results = (result-end, result-bare, result-work, result-none)

module _ (t : List ℕ) (st : List ℕ) (s v p caller back k : ℕ) (e : k ≡ (row_at t p).kind) where
  pub resume-drops : k ≡ 11 → transferred (to_frame (p + 1) caller s back) st ≡ resumed (row_at t) st s v p caller back
  unfolding resumed if_eq
  resume-drops h = ap (λ (i : ℕ). transferred (to_frame i caller s back) st) (one_more_lem p) ∙ rw (← e, h)

  pub resume-stores : (a : ℕ) (st' : List ℕ) → (k ≡ 11 → ⊥) → a ≡ (row_at t p).a → st' ≡ set st (caller + a) v → transferred (to_frame (p + 1) caller s back) st' ≡ resumed (row_at t) st s v p caller back
  unfolding resumed if_eq
  resume-stores a st' h q o = ap (λ (i : ℕ). transferred (to_frame i caller s back) st') (one_more_lem p) ∙ rw (← e, ne_eqb k 11 h, ← q) (ap (λ (y : List ℕ). transferred (to_frame (suc p) caller s back) y) o)

pub ruleset resumptions = (resume-drops, resume-stores)

module _ (t : List ℕ) (c : ℕ) (lw : List ℕ) (lc d : ℕ) (st : List ℕ) (s m v p : ℕ) (e : p ≡ get_or st s 0) where
  pub hand-past : c ≤ p → transferred None st ≡ hand_transfer t c lw lc d st s m v
  unfolding hand_transfer if_lt
  hand-past l = rw (← e, le-ltb p c l)

  module _ (g z : ℕ) (l : p < c) (i : g ≡ (row_at t p).func) (h : z ≡ size_of (row_at t) c g) where
    pub hand-none : z ≡ 0 → transferred None st ≡ hand_transfer t c lw lc d st s m v
    unfolding hand_transfer if_lt if_eq
    hand-none q = rw (← e, lt-ltb p c l, ← i, ← h, q)

    pub hand_on : (r : Option Transfer) (st' : List ℕ) → (z ≡ 0 → ⊥) → transferred r st' ≡ hand_to t c lw lc d st s m v p z → transferred r st' ≡ hand_transfer t c lw lc d st s m v
    unfolding hand_transfer if_lt if_eq
    hand_on r st' q o = rw (← e, lt-ltb p c l, ← i, ← h, ne_eqb z 0 q) o

pub ruleset handing = (hand-past, hand-none, hand_on)

module _ (t : List ℕ) (c : ℕ) (lw : List ℕ) (lc d : ℕ) (st : List ℕ) (s m v p z caller back : ℕ) (j : caller ≡ get_or st (s + 1) 0) (o : back ≡ get_or st (s + 2) 0) where
  pub to_high : m < back → transferred None st ≡ hand_to t c lw lc d st s m v p z
  unfolding hand_to if_lt
  to_high x = rw (← o, lt-ltb m back x)

  pub to-apart : back ≤ m → (caller + z ≡ s → ⊥) → transferred None st ≡ hand_to t c lw lc d st s m v p z
  unfolding hand_to if_lt if_eq
  to-apart x y = rw (← o, le-ltb m back x, ← j, ne_eqb (caller + z) s y)

  module _ (b : Bool) (x : back ≤ m) (y : caller + z ≡ s) (w : b ≡ call_good t c lw lc d z p) where
    pub to-bad : b ≡ false → transferred None st ≡ hand_to t c lw lc d st s m v p z
    unfolding hand_to if_lt if_eq if_true
    to-bad u = rw (← o, le-ltb m back x, ← j, eq-eqb (caller + z) s y, ← w, u)

    pub to-caller : (r : Option Transfer) (st' : List ℕ) → b ≡ true → transferred r st' ≡ resumed (row_at t) st s v p caller back → transferred r st' ≡ hand_to t c lw lc d st s m v p z
    unfolding hand_to if_lt if_eq if_true
    to-caller r st' u k = rw (← o, le-ltb m back x, ← j, eq-eqb (caller + z) s y, ← w, u) k

pub ruleset handing-to = (to_high, to-apart, to-bad, to-caller)

module _ (t : List ℕ) (c : ℕ) (lw : List ℕ) (lc d size : ℕ) (st : List ℕ) (s : ℕ) (m : List ℕ) (n top : ℕ) (x : Worked) (e : x ≡ result_of t d size st s m n top) where
  pub back-value : (v : Value) (r : Option Transfer) (st' : List ℕ) → x ≡ Ok v → transferred r st' ≡ hand_transfer t c lw lc d st s (length m) v.word → transferred r st' ≡ return_transfer t c lw lc d size st s m n top
  unfolding return_transfer return_by
  back-value v r st' h q = rw (← e, h) q

  pub back-stop : (k : ℕ) → x ≡ Err k → transferred None st ≡ return_transfer t c lw lc d size st s m n top
  unfolding return_transfer return_by
  back-stop k h = rw (← e, h)

pub ruleset backs = (back-value, back-stop)

module _ (t : List ℕ) (c : ℕ) (lw : List ℕ) (lc g d size : ℕ) (st : List ℕ) (s used : ℕ) (m : List ℕ) (n top : ℕ) where
  pub transfer-beyond : c ≤ n → transferred None st ≡ transfer_of t c lw lc g d size st s used m n top
  unfolding transfer_of if_lt
  transfer-beyond l = rw (le-ltb n c l)

  module _ (own : ℕ) (l : n < c) (e : own ≡ (row_at t n).func) where
    pub transfer-other : (own ≡ g → ⊥) → transferred None st ≡ transfer_of t c lw lc g d size st s used m n top
    unfolding transfer_of if_lt if_eq
    transfer-other h = rw (lt-ltb n c l, ← e, ne_eqb own g h)

    module _ (b : Bool) (r : Option Transfer) (st' : List ℕ) (h : own ≡ g) (q : b ≡ calls_any (row_at t) size n) where
      pub transfer-call : b ≡ true → transferred r st' ≡ call_transfer t c lw lc d size st s m n used n s top → transferred r st' ≡ transfer_of t c lw lc g d size st s used m n top
      unfolding transfer_of if_lt if_eq if_true
      transfer-call z o = rw (lt-ltb n c l, ← e, eq-eqb own g h, ← q, z) o

      module _ (k : ℕ) (z : b ≡ false) (i : k ≡ (row_at t n).kind) where
        pub transfer-tail : k ≡ 12 → transferred r st' ≡ tail_transfer t c lw lc d size st s m n → transferred r st' ≡ transfer_of t c lw lc g d size st s used m n top
        unfolding transfer_of if_lt if_eq if_true
        transfer-tail j o = rw (lt-ltb n c l, ← e, eq-eqb own g h, ← q, z, ← i, eq-eqb k 12 j) o

        pub transfer-back : (k ≡ 12 → ⊥) → transferred r st' ≡ return_transfer t c lw lc d size st s m n top → transferred r st' ≡ transfer_of t c lw lc g d size st s used m n top
        unfolding transfer_of if_lt if_eq if_true
        transfer-back j o = rw (lt-ltb n c l, ← e, eq-eqb own g h, ← q, z, ← i, ne_eqb k 12 j) o

pub ruleset transferring = (transfer-beyond, transfer-other, transfer-call, transfer-tail, transfer-back)
