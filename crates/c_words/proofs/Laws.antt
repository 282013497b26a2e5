-- A record that was written is read back as it was, and word 7 stays.
-- Assumes nothing.
use Rattle.std.proofs.Common.{Option, Some, None}
use mathlib.Core.Path.{◌≡◌, refl, sym, ◌∙◌, ap, subst}
use mathlib.Core.Bool.{Bool, true, false}
use mathlib.Core.List.{List, [], ◌∷◌}
use Prim.Native.Nat.{ℕ, ◌<◌, ◌≤◌}
use native.Mathlib.Omega.{arith}
use lib.Dec.{eqb, ltb}
use lib.ListN.{length, get_or}
use borrow.Author.Tests.{ltb-false, eqb-true}
use Rattle.base_prelude.specs.Choice.{pick, if_lt, if_eq, if_true}
use Rattle.base_prelude.proofs.Choice.{true-false, if_lt-no}
use Rattle.base_limits.specs.declared.State.{State}
use Rattle.base_limits.specs.declared.State.TheVariants.{Running, Finished, Stopped, Paused}
use Rattle.base_limits.specs.declared.Pause.{Pause}
use Rattle.base_limits.specs.declared.Machine.{Machine}
use Rattle.base_limits.specs.Record.{of_parts, pause_of, eight_words}
use Rattle.vm_definitions.specs.Access.{store_from}
use Rattle.vm_definitions.proofs.Stores.{store-before, store-behind}
use Rattle.c_words.specs.Words as word
use Rattle.c_words.specs.Words.{record_size}
use Rattle.c_words.specs.Record.{is_stop, is_listed, pause_held, state_of, state_in, machine_of, record_of, state_number, state_value, state_place, state_pause, record_words, record_over}

-- a state that words can hold: a stopped one has the number of a stop
unfoldable pub Listed : State → Type 0
Listed Running = Unit {0}
Listed (Finished v) = Unit {0}
Listed (Stopped k i) = is_stop k ≡ true
Listed (Paused q) = Unit {0}

-- the words of a record, with x in word 7 and others behind them
read_back : (s : State) (next frame used top x : ℕ) (ws : List ℕ) → Listed s
    → record_of
    (state_number s ∷ next ∷ frame ∷ used ∷ top ∷ state_value s ∷ state_place s ∷ x ∷ (state_pause s).first ∷ (state_pause s).second
    ∷ (state_pause s).third ∷ (state_pause s).fourth ∷ (state_pause s).fifth ∷ (state_pause s).sixth ∷ (state_pause s).seventh
    ∷ (state_pause s).eighth ∷ ws)
    ≡ Some (of_parts s next frame used top)
unfolding Listed record_of machine_of state_in is_listed state_of pause_held state_number state_value state_place state_pause if_eq if_true
read_back Running next frame used top x ws l = if_lt-no None _ (omega arith)
read_back (Finished v) next frame used top x ws l = if_lt-no None _ (omega arith)
read_back (Stopped k i) next frame used top x ws l =
    if_lt-no None _ (omega arith) ∙ ap (λ (b : Bool). pick b (Some (of_parts (Stopped k i) next frame used top)) None) l
read_back (Paused q) next frame used top x ws l = if_lt-no None _ (omega arith)

-- ---- what a record that was read says of its words

abbrev is_fit : Option Machine → Bool
is_fit (Some r) = true
is_fit None = false

abbrev machine_in : Machine → Option Machine → Machine
machine_in d (Some r) = r
machine_in d None = d

fit-ways : (u v : Bool) (q r : Machine) → pick u None (pick v (Some q) None) ≡ Some r → (u ≡ false) × (v ≡ true) × (q ≡ r)
fit-ways true v q r e = true-false (sym (ap is_fit e))
fit-ways false true q r e = (refl, refl, ap (machine_in r) e)
fit-ways false false q r e = true-false (sym (ap is_fit e))

module _ (s a b : ℕ) (q : Pause) where
  ways-of : (P : State → Type 0) → (s ≡ word.running → P Running) → (s ≡ word.finished → P (Finished a))
      → (s ≡ word.stopped → is_stop a ≡ true → P (Stopped a b)) → (s ≡ word.paused → P (Paused q))
      → is_listed s a ≡ true → P (state_of s a b q)
  unfolding is_listed state_of if_eq
  ways-of P f g h p = by (eqb s word.running) (eqb s word.finished) (eqb s word.stopped) refl refl refl
    where
      by : (u v w : Bool) → eqb s word.running ≡ u → eqb s word.finished ≡ v → eqb s word.stopped ≡ w
          → pick u true (pick v true (pick w (is_stop a) (eqb s word.paused))) ≡ true
          → P (pick u Running (pick v (Finished a) (pick w (Stopped a b) (Paused q))))
      by true v w e d r k = f (eqb-true s word.running e)
      by false true w e d r k = g (eqb-true s word.finished d)
      by false false true e d r k = h (eqb-true s word.stopped r) k
      by false false false e d r k = p (eqb-true s word.paused k)

  listed-number : is_listed s a ≡ true → state_number (state_of s a b q) ≡ s
  unfolding state_number
  listed-number = ways-of (λ (x : State). state_number x ≡ s) sym sym (λ h d. sym h) sym

  listed-state : is_listed s a ≡ true → Listed (state_of s a b q)
  unfolding Listed
  listed-state = ways-of Listed (λ h. tt) (λ h. tt) (λ h d. d) (λ h. tt)

module _ (ws : List ℕ) (r : Machine) (e : record_of ws ≡ Some r) where
  ways : (ltb (length ws) record_size ≡ false) × (is_listed (get_or ws word.state 0) (get_or ws word.value 0) ≡ true) × (machine_of ws ≡ r)
  unfolding record_of if_lt if_true
  ways = fit-ways (ltb (length ws) record_size) (is_listed (get_or ws word.state 0) (get_or ws word.value 0)) (machine_of ws) r e

  pub record-long : record_size ≤ length ws
  record-long = ltb-false (length ws) record_size ways.0

  pub record-state : get_or ws word.state 0 ≡ state_number r.state
  unfolding machine_of state_in of_parts
  record-state =
      sym (listed-number (get_or ws word.state 0) (get_or ws word.value 0) (get_or ws word.at 0) (pause_held ws) ways.1)
      ∙ ap (λ (q : Machine). state_number q.state) ways.2

  pub record-listed : Listed r.state
  unfolding machine_of state_in of_parts
  record-listed =
      subst (λ (q : Machine). Listed q.state) ways.2
      (listed-state (get_or ws word.state 0) (get_or ws word.value 0) (get_or ws word.at 0) (pause_held ws) ways.1)

-- a record that was written is read back
short : {P : Type 0} (n : ℕ) → n < record_size → record_size ≤ n → P
short n h q = absurd (let z : ⊥ = omega arith in z)

pub record-back : (r : Machine) (ws : List ℕ) → Listed r.state → record_size ≤ length ws → record_of (record_over r ws) ≡ Some r
unfolding record_over record_words store_from eight_words of_parts
record-back r (x0 ∷ x1 ∷ x2 ∷ x3 ∷ x4 ∷ x5 ∷ x6 ∷ x7 ∷ x8 ∷ x9 ∷ x10 ∷ x11 ∷ x12 ∷ x13 ∷ x14 ∷ x15 ∷ ws) l h =
    read_back r.state r.next r.frame r.used r.top x7 ws l
record-back r [] l h = short 0 (omega arith) h
record-back r (x0 ∷ []) l h = short 1 (omega arith) h
record-back r (x0 ∷ x1 ∷ []) l h = short 2 (omega arith) h
record-back r (x0 ∷ x1 ∷ x2 ∷ []) l h = short 3 (omega arith) h
record-back r (x0 ∷ x1 ∷ x2 ∷ x3 ∷ []) l h = short 4 (omega arith) h
record-back r (x0 ∷ x1 ∷ x2 ∷ x3 ∷ x4 ∷ []) l h = short 5 (omega arith) h
record-back r (x0 ∷ x1 ∷ x2 ∷ x3 ∷ x4 ∷ x5 ∷ []) l h = short 6 (omega arith) h
record-back r (x0 ∷ x1 ∷ x2 ∷ x3 ∷ x4 ∷ x5 ∷ x6 ∷ []) l h = short 7 (omega arith) h
record-back r (x0 ∷ x1 ∷ x2 ∷ x3 ∷ x4 ∷ x5 ∷ x6 ∷ x7 ∷ []) l h = short 8 (omega arith) h
record-back r (x0 ∷ x1 ∷ x2 ∷ x3 ∷ x4 ∷ x5 ∷ x6 ∷ x7 ∷ x8 ∷ []) l h = short 9 (omega arith) h
record-back r (x0 ∷ x1 ∷ x2 ∷ x3 ∷ x4 ∷ x5 ∷ x6 ∷ x7 ∷ x8 ∷ x9 ∷ []) l h = short 10 (omega arith) h
record-back r (x0 ∷ x1 ∷ x2 ∷ x3 ∷ x4 ∷ x5 ∷ x6 ∷ x7 ∷ x8 ∷ x9 ∷ x10 ∷ []) l h = short 11 (omega arith) h
record-back r (x0 ∷ x1 ∷ x2 ∷ x3 ∷ x4 ∷ x5 ∷ x6 ∷ x7 ∷ x8 ∷ x9 ∷ x10 ∷ x11 ∷ []) l h = short 12 (omega arith) h
record-back r (x0 ∷ x1 ∷ x2 ∷ x3 ∷ x4 ∷ x5 ∷ x6 ∷ x7 ∷ x8 ∷ x9 ∷ x10 ∷ x11 ∷ x12 ∷ []) l h = short 13 (omega arith) h
record-back r (x0 ∷ x1 ∷ x2 ∷ x3 ∷ x4 ∷ x5 ∷ x6 ∷ x7 ∷ x8 ∷ x9 ∷ x10 ∷ x11 ∷ x12 ∷ x13 ∷ []) l h = short 14 (omega arith) h
record-back r (x0 ∷ x1 ∷ x2 ∷ x3 ∷ x4 ∷ x5 ∷ x6 ∷ x7 ∷ x8 ∷ x9 ∷ x10 ∷ x11 ∷ x12 ∷ x13 ∷ x14 ∷ []) l h = short 15 (omega arith) h

-- "never read and never written"
pub word-seven : (r : Machine) (ws : List ℕ) → get_or (record_over r ws) 7 0 ≡ get_or ws 7 0
unfolding record_over record_words
word-seven r ws =
    store-before (store_from ws word.state (record_words r)) word.arguments _ 7 (omega arith)
    ∙ store-behind ws word.state (record_words r) 7 (omega arith)
