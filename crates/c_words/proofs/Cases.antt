-- The ways through the functions of this crate.
-- Assumes nothing.
use Rattle.vm_definitions.specs.declared.StartError.{StartError}
use Rattle.std.proofs.Common.{Ok, Err, Option, Some, None}
use mathlib.Core.Path.{◌≡◌, refl, sym, ◌∙◌, ap, ap₂}
use mathlib.Core.Bool.{Bool, true, false, not}
use mathlib.Core.List.{List, [], ◌∷◌}
use Prim.Native.Nat.{ℕ, zero, suc, ◌+◌, ◌/◌, ◌%◌, ◌<◌, ◌≤◌}
use native.Mathlib.Omega.{arith}
use lib.Dec.{eqb, leb}
use borrow.Author.Tests.{ne_eqb}
use lib.ListN.{length, get_or, set}
use Rattle.base_prelude.specs.Choice.{pick, if_lt, if_eq, if_true}
use Rattle.base_prelude.specs.Lists.{overlay}
use Rattle.base_prelude.proofs.Choice.{if_lt-yes, if_lt-no, if_eq-yes, if_eq-no, if_true-yes, if_true-no}
use Rattle.base_limits.specs.declared.State.{State}
use Rattle.base_limits.specs.declared.State.TheVariants.{Running, Finished, Stopped, Paused}
use Rattle.base_limits.specs.declared.Pause.{Pause}
use Rattle.base_limits.specs.declared.Machine.{Machine}
use Rattle.base_limits.specs.Record.{of_parts, pause_of, eight_words}
use Rattle.vm_definitions.specs.Access.{store_from}
use Rattle.vm_definitions.specs.declared.Broken.{Broken}
use Rattle.vm_definitions.specs.Start.{Started}
use Rattle.vm_definitions.specs.declared.StartError.TheVariants.{Refused, Unsound}
use Rattle.vm_definitions.specs.declared.Opening.{Opening}
use Rattle.vm_definitions.specs.declared.Outcome.{Outcome}
use Rattle.vm_definitions.specs.declared.Resumed.{Resumed}
use Rattle.c_words.specs.Placed.{placed, three_at}
use Rattle.c_words.specs.Words as word
use Rattle.c_words.specs.Words.{record_size, nowhere}
use Rattle.c_words.specs.Record.{is_stop, is_listed, state_of, state_in, machine_of, record_of, state_number, state_value, state_place, state_pause, record_words, record_over}
use Rattle.c_words.specs.Reply.{Reply, reply, refusal_words, refusal_reply, broken_number, broken_place, state_flag, flagged_word, outcome_number, outcome_words, changes, record_after, outcome_reply, resumed_reply, start_number, start_place, start_words, record_begun, opening_reply}

pub overlay-none : (out : List ℕ) → out ≡ overlay [] out
unfolding overlay
overlay-none [] = refl
overlay-none (x ∷ xs) = ap (λ (l : List ℕ). x ∷ l) (overlay-none xs)

overlay-full : (xs : List ℕ) → [] ≡ overlay xs []
unfolding overlay
overlay-full xs = refl

overlay-one : (x : ℕ) (xs : List ℕ) (y : ℕ) (out : List ℕ) → overlay (x ∷ xs) (y ∷ out) ≡ x ∷ overlay xs out
unfolding overlay
overlay-one x xs y out = refl

-- what a list of words written one by one leaves
pub over : (x : ℕ) (xs : List ℕ) (y : ℕ) (out r : List ℕ) → r ≡ overlay xs out → x ∷ r ≡ overlay (x ∷ xs) (y ∷ out)
over x xs y out r e = ap (λ (l : List ℕ). x ∷ l) e ∙ sym (overlay-one x xs y out)

one-put : (a : ℕ) (out : List ℕ) → set out 0 a ≡ overlay (a ∷ []) out
one-put a [] = overlay-full (a ∷ [])
one-put a (x ∷ xs) = over a [] x xs xs (overlay-none xs)

two-put : (a b : ℕ) (out : List ℕ) → set (set out 0 a) 1 b ≡ overlay (a ∷ b ∷ []) out
two-put a b [] = overlay-full (a ∷ b ∷ [])
two-put a b (x ∷ xs) = over a (b ∷ []) x xs (set xs 0 b) (one-put b xs)

three-put : (a b c : ℕ) (out : List ℕ) → set (set (set out 0 a) 1 b) 2 c ≡ overlay (a ∷ b ∷ c ∷ []) out
three-put a b c [] = overlay-full (a ∷ b ∷ c ∷ [])
three-put a b c (x ∷ xs) = over a (b ∷ c ∷ []) x xs (set (set xs 0 b) 1 c) (two-put b c xs)

four-put : (a b c d : ℕ) (out : List ℕ) → set (set (set (set out 0 a) 1 b) 2 c) 3 d ≡ overlay (a ∷ b ∷ c ∷ d ∷ []) out
four-put a b c d [] = overlay-full (a ∷ b ∷ c ∷ d ∷ [])
four-put a b c d (x ∷ xs) = over a (b ∷ c ∷ d ∷ []) x xs (set (set (set xs 0 b) 1 c) 2 d) (three-put b c d xs)

five-put : (a b c d e : ℕ) (out : List ℕ) → set (set (set (set (set out 0 a) 1 b) 2 c) 3 d) 4 e ≡ overlay (a ∷ b ∷ c ∷ d ∷ e ∷ []) out
five-put a b c d e [] = overlay-full (a ∷ b ∷ c ∷ d ∷ e ∷ [])
five-put a b c d e (x ∷ xs) = over a (b ∷ c ∷ d ∷ e ∷ []) x xs (set (set (set (set xs 0 b) 1 c) 2 d) 3 e) (four-put b c d e xs)

six-put : (a b c d e f : ℕ) (out : List ℕ)
    → set (set (set (set (set (set out 0 a) 1 b) 2 c) 3 d) 4 e) 5 f ≡ overlay (a ∷ b ∷ c ∷ d ∷ e ∷ f ∷ []) out
six-put a b c d e f [] = overlay-full (a ∷ b ∷ c ∷ d ∷ e ∷ f ∷ [])
six-put a b c d e f (x ∷ xs) =
    over a (b ∷ c ∷ d ∷ e ∷ f ∷ []) x xs (set (set (set (set (set xs 0 b) 1 c) 2 d) 3 e) 4 f) (five-put b c d e f xs)

pub six-placed : (a b c d e f : ℕ) (out o₀ o₁ : List ℕ) → o₁ ≡ three_at o₀ 3 d e f → o₀ ≡ three_at out 0 a b c
    → o₁ ≡ overlay (a ∷ b ∷ c ∷ d ∷ e ∷ f ∷ []) out
unfolding three_at placed
six-placed a b c d e f out o₀ o₁ q p =
    q ∙ ap (λ (l : List ℕ). set (set (set l 3 d) 4 e) 5 f) p ∙ six-put a b c d e f out

-- ---- the record

pub stop-below : (k : ℕ) → k < 30 → false ≡ is_stop k
unfolding is_stop
stop-below k h = sym (if_lt-yes false _ h)

pub stop-from : (k : ℕ) → 30 ≤ k → leb k 34 ≡ is_stop k
unfolding is_stop
stop-from k h = sym (if_lt-no false _ h)

pub ruleset stop-ways = (stop-below, stop-from)

module _ (s k : ℕ) where
  pub listed-running : s ≡ word.running → true ≡ is_listed s k
  unfolding is_listed
  listed-running h = sym (if_eq-yes true _ h)

  pub listed-finished : (s ≡ word.running → ⊥) → s ≡ word.finished → true ≡ is_listed s k
  unfolding is_listed
  listed-finished h q = sym (if_eq-no true _ h ∙ if_eq-yes true _ q)

  pub listed-stopped : (b : Bool) → (s ≡ word.running → ⊥) → (s ≡ word.finished → ⊥) → s ≡ word.stopped → b ≡ is_stop k → b ≡ is_listed s k
  unfolding is_listed
  listed-stopped b h q r e = e ∙ sym (if_eq-no true _ h ∙ if_eq-no true _ q ∙ if_eq-yes (is_stop k) _ r)

  pub listed-paused : (s ≡ word.running → ⊥) → (s ≡ word.finished → ⊥) → (s ≡ word.stopped → ⊥) → eqb s word.paused ≡ is_listed s k
  unfolding is_listed
  listed-paused h q r = sym (if_eq-no true _ h ∙ if_eq-no true _ q ∙ if_eq-no (is_stop k) _ r)

pub ruleset listed-ways = (listed-running, listed-finished, listed-stopped, listed-paused)

module _ (s a b : ℕ) (q : Pause) where
  pub state-running : s ≡ word.running → Running ≡ state_of s a b q
  unfolding state_of
  state-running h = sym (if_eq-yes Running _ h)

  pub state-finished : (s ≡ word.running → ⊥) → s ≡ word.finished → Finished a ≡ state_of s a b q
  unfolding state_of
  state-finished h g = sym (if_eq-no Running _ h ∙ if_eq-yes (Finished a) _ g)

  pub state-stopped : (s ≡ word.running → ⊥) → (s ≡ word.finished → ⊥) → s ≡ word.stopped → Stopped a b ≡ state_of s a b q
  unfolding state_of
  state-stopped h g f = sym (if_eq-no Running _ h ∙ if_eq-no (Finished a) _ g ∙ if_eq-yes (Stopped a b) _ f)

  pub state-paused : (s ≡ word.running → ⊥) → (s ≡ word.finished → ⊥) → (s ≡ word.stopped → ⊥) → Paused q ≡ state_of s a b q
  unfolding state_of
  state-paused h g f = sym (if_eq-no Running _ h ∙ if_eq-no (Finished a) _ g ∙ if_eq-no (Stopped a b) _ f)

pub ruleset state-ways = (state-running, state-finished, state-stopped, state-paused)

module _ (ws : List ℕ) where
  pub load-short : length ws < record_size → None ≡ record_of ws
  unfolding record_of
  load-short h = sym (if_lt-yes None _ h)

  module _ (b : Bool) (h : record_size ≤ length ws) (e : b ≡ is_listed (get_or ws word.state 0) (get_or ws word.value 0)) where
    pub load-unlisted : b ≡ false → None ≡ record_of ws
    unfolding record_of
    load-unlisted q = sym (if_lt-no None _ h ∙ if_true-no (Some (machine_of ws)) None (sym e ∙ q))

    pub load-fit : (s : State) (r : Machine) → b ≡ true → s ≡ state_in ws
        → r ≡ of_parts s (get_or ws word.next 0) (get_or ws word.frame 0) (get_or ws word.used 0) (get_or ws word.top 0) → Some r ≡ record_of ws
    unfolding record_of machine_of
    load-fit s r q p d =
        ap Some (d ∙ ap (λ (z : State). of_parts z (get_or ws word.next 0) (get_or ws word.frame 0) (get_or ws word.used 0) (get_or ws word.top 0)) p)
        ∙ sym (if_lt-no None _ h ∙ if_true-yes (Some (machine_of ws)) None (sym e ∙ q))

pub ruleset load-ways = (load-short, load-unlisted, load-fit)

pub pause-stored : (q : Pause) (ws o₀ o₁ o₂ o₃ : List ℕ) → o₀ ≡ three_at ws 8 q.first q.second q.third
    → o₁ ≡ three_at o₀ 11 q.fourth q.fifth q.sixth → o₂ ≡ set o₁ 14 q.seventh → o₃ ≡ set o₂ 15 q.eighth
    → o₃ ≡ store_from ws word.arguments (eight_words q)
unfolding three_at placed eight_words store_from
pause-stored q ws o₀ o₁ o₂ o₃ a b c d = rw (d, c, b, a)

pub record-stored : (r : Machine) (s v p : ℕ) (q : Pause) (ws o₀ o₁ o₂ o₃ : List ℕ) → s ≡ state_number r.state → v ≡ state_value r.state
    → p ≡ state_place r.state → q ≡ state_pause r.state → o₀ ≡ three_at ws 0 s r.next r.frame
    → o₁ ≡ three_at o₀ 3 r.used r.top v → o₂ ≡ set o₁ 6 p → o₃ ≡ store_from o₂ word.arguments (eight_words q) → o₃ ≡ record_over r ws
unfolding three_at placed record_words record_over store_from
record-stored r s v p q ws o₀ o₁ o₂ o₃ e g h k a b c d = rw (d, c, b, a, e, g, h, k)

-- ---- a step and a run

pub outcome-number : (o : Outcome) (n a : ℕ) → n ≡ broken_number o.broken o.machine.state → a ≡ n → a ≡ outcome_number o
unfolding outcome_number
outcome-number o n a e q = q ∙ e

pub outcome-words : (o : Outcome) (n p low high flag word : ℕ) (out out' : List ℕ) → n ≡ broken_number o.broken o.machine.state
    → p ≡ broken_place o.broken o.machine.state → low ≡ o.count % 4294967296 → high ≡ o.count / 4294967296
    → flag ≡ state_flag o.machine.state → word ≡ flagged_word o.machine.state
    → out' ≡ overlay (n ∷ p ∷ low ∷ high ∷ flag ∷ word ∷ []) out → out' ≡ overlay (outcome_words o) out
unfolding outcome_number outcome_words
outcome-words o n p low high flag word out out' e q h g f w s = rw (← e, ← q, ← h, ← g, ← f, ← w) s

module _ (s : ℕ) (o : Outcome) where
  pub changed-counted : (o.count ≡ 0 → ⊥) → true ≡ changes s o
  unfolding changes
  changed-counted h = sym (if_eq-no _ true h)

  pub changed-state : (n : ℕ) → o.count ≡ 0 → n ≡ state_number o.machine.state → not (eqb n s) ≡ changes s o
  unfolding changes
  changed-state n h e = ap (λ (k : ℕ). not (eqb k s)) e ∙ sym (if_eq-yes _ true h)

pub ruleset change-ways = (changed-counted, changed-state)

module _ (o : Outcome) (ws : List ℕ) (s : ℕ) (b : Bool) (q : s ≡ get_or ws word.state 0) (e : b ≡ changes s o) where
  is : b ≡ changes (get_or ws word.state 0) o
  is = e ∙ ap (λ (n : ℕ). changes n o) q

  pub kept-changed : (ws' : List ℕ) → b ≡ true → ws' ≡ record_over o.machine ws → ws' ≡ record_after o ws
  unfolding record_after
  kept-changed ws' h g = g ∙ sym (if_true-yes _ ws (sym is ∙ h))

  pub kept_same : b ≡ false → ws ≡ record_after o ws
  unfolding record_after
  kept_same h = sym (if_true-no _ ws (sym is ∙ h))

pub ruleset keep-ways = (kept-changed, kept_same)

pub outcome-replied : (o : Outcome) (n : ℕ) (ws ws' out out' : List ℕ) → ws' ≡ record_after o ws → (n ≡ outcome_number o) × (out' ≡ overlay (outcome_words o) out)
    → reply n ws' out' ≡ outcome_reply o ws out
unfolding outcome_reply
outcome-replied o n ws ws' out out' e q = rw (e, q.0, q.1)

-- ---- going on

module _ (o : Resumed) (n : ℕ) (ws out out' : List ℕ) where
  pub resumed-refused : o.unpaused ≡ true → (n ≡ 37) × (out' ≡ overlay (refusal_words 37) out) → reply n ws out' ≡ resumed_reply o ws out
  unfolding resumed_reply refusal_reply
  resumed-refused h q = rw (q.0, q.1) (sym (if_true-yes _ (outcome_reply o.outcome ws out) h))

  pub resumed-on : (ws' : List ℕ) → o.unpaused ≡ false → reply n ws' out' ≡ outcome_reply o.outcome ws out → reply n ws' out' ≡ resumed_reply o ws out
  unfolding resumed_reply
  resumed-on ws' h q = q ∙ sym (if_true-no (refusal_reply 37 ws out) _ h)

pub ruleset resumed-ways = (resumed-refused, resumed-on)

-- ---- a start

pub start-numbered : (a : Started) (n r : ℕ) → n ≡ start_number a → r ≡ n → r ≡ start_number a
start-numbered a n r e q = q ∙ e

pub start-worded : (a : Started) (n p : ℕ) (out out' : List ℕ) → n ≡ start_number a → p ≡ start_place a
    → out' ≡ overlay (n ∷ p ∷ 0 ∷ 0 ∷ 0 ∷ 0 ∷ []) out → out' ≡ overlay (start_words a) out
unfolding start_words
start-worded a n p out out' e q s = rw (← e, ← q) s

module _ (a : Started) (r : Machine) (ws : List ℕ) where
  pub begun_kept : (ws' : List ℕ) → a ≡ Ok tt → ws' ≡ record_over r ws → ws' ≡ record_begun a r ws
  unfolding record_begun
  begun_kept ws' e q = q ∙ sym (ap (λ (x : Started). record_begun x r ws) e)

  pub refused-kept : (k : StartError) → a ≡ Err k → ws ≡ record_begun a r ws
  unfolding record_begun
  refused-kept k e = sym (ap (λ (x : Started). record_begun x r ws) e)

pub ruleset begun-ways = (begun_kept, refused-kept)

pub opening-replied : (o : Opening) (n : ℕ) (ws ws' out out' : List ℕ) → ws' ≡ record_begun o.answer o.machine ws
    → (n ≡ start_number o.answer) × (out' ≡ overlay (start_words o.answer) out) → reply n ws' out' ≡ opening_reply o ws out
unfolding opening_reply
opening-replied o n ws ws' out out' e q = rw (e, q.0, q.1)
