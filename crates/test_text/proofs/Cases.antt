-- One law for each way through a function without a loop.
-- Assumes nothing.
use Rattle.vm_definitions.specs.declared.StartError.{StartError}
use Rattle.std.proofs.Common.{◌≡◌, ℕ, zero, suc, ◌+◌, ◌-◌, ◌*◌, ◌/◌, ◌%◌, ◌<◌, ◌≤◌, Bool, true, false, List, [], ◌∷◌, ◌++◌, length, min, take, drop, sym, refl, ap, ◌∙◌, arith, length-drop, take_all, Ok, Err}
use Rattle.base_prelude.specs.Bytes.{byte_at}
use Rattle.base_prelude.proofs.Bytes.{byte-within}
use Rattle.base_prelude.proofs.Choice.{tests, if_lt-yes, if_lt-no, if_true-yes, if_true-no}
use native.Mathlib.Decide.{dec_lt}
use Rattle.base_limits.specs.declared.State.{State}
use Rattle.base_limits.specs.declared.State.TheVariants.{Running, Finished, Stopped, Paused}
use Rattle.base_limits.specs.declared.Pause.{Pause}
use Rattle.base_limits.specs.declared.Machine.{Machine}
use Rattle.base_limits.specs.Record.{moved_to, with_state, eight_words, paused_words}
use Rattle.vm_definitions.specs.declared.Broken.{Broken}
use Rattle.vm_definitions.specs.declared.Broken.TheVariants.{No, At, Somewhere}
use Rattle.vm_definitions.specs.Start.{Started}
use Rattle.vm_definitions.specs.declared.StartError.TheVariants.{Refused, Unsound}
use Rattle.vm_definitions.specs.declared.Outcome.{Outcome}
use Rattle.vm_definitions.specs.declared.Resumed.{Resumed}
use Rattle.app_page.specs.Bytes.{digits_within, decimal, field}
use Rattle.test_lines.specs.Lines.{starts_with}
use Rattle.test_lines.specs.Fields.{no_number, field_start, field_of}
use Rattle.test_lines.specs.Sources.{Source, source, add_byte}
use Rattle.test_text.specs.Fields.{count_fields, has_word, word_end, raw_at}
use Rattle.test_text.specs.Numbers.{negated_of, field_value, field_word, are_values, has_values, long_digit}
use Rattle.test_text.specs.Answers.{error_bytes, add_all, field_bytes, none-word, begun-word, refused-word, broken-word, rejected-word, going-word, finished-word, stopped-word, paused-word, record-word, broken_bytes, started_bytes, rejected_bytes, counted_bytes, stopped_bytes, finished_bytes, list_bytes, paused_bytes, state_bytes, unsound_bytes, outcome_bytes, resumed_bytes, record_bytes}
use Rattle.test_text.specs.Records as poke
use Rattle.test_text.specs.Records.{poke_number, pause_poked, is_pause_poke, poke_state, is_number_poke, is_state_poke, is_record_poke, poke_record}
use Rattle.test_text.specs.Buffers.{lesser_of, behind_of}

-- a word at the start of a field
pub word_at : (l word : List ℕ) (k i : ℕ) (r : Bool) → i ≡ field_start l k → r ≡ starts_with (take (length l - i) (drop i l)) word → r ≡ has_word l k word
unfolding has_word
word_at l word k i r p e =
    e ∙ ap (λ (m : List ℕ). starts_with m word) (take_all (length l - i) (drop i l) (omega (arith, length-drop i l)))
    ∙ ap (λ (j : ℕ). starts_with (drop j l) word) p

-- ---- numbers

module _ (n : ℕ) where
  pub negated-some : n < no_number → (no_number - n) % no_number ≡ negated_of n
  unfolding negated_of
  negated-some h = search tests

  pub negated-none : no_number ≤ n → no_number ≡ negated_of n
  unfolding negated_of
  negated-none h = search tests

pub ruleset negations = (negated-some, negated-none)

-- behind a sign the line goes on
pub sign-within : (l : List ℕ) (at c : ℕ) → c ≡ byte_at l at → c ≡ 45 → at + 1 ≤ length l
sign-within l at c p e = omega (arith, byte-within l at (omega arith))

module _ (l : List ℕ) (k at c : ℕ) (p : at ≡ field_start l k) (q : c ≡ byte_at l at) where
  pub value-signed : (n r : ℕ) → c ≡ 45 → n ≡ field_of (take (length l - (at + 1)) (drop (at + 1) l)) 0 → r ≡ negated_of n → r ≡ field_value l k
  unfolding field_value
  value-signed n r e f g =
      let f' : n ≡ field_of (drop (at + 1) l) 0 = f ∙ ap (λ (m : List ℕ). field_of m 0) (take_all (length l - (at + 1)) (drop (at + 1) l) (omega (arith, length-drop (at + 1) l))) in
      rw (← p, ← q, ← f', ← g) (search tests)

  pub value-plain : (r : ℕ) → (c ≡ 45 → ⊥) → r ≡ field_of l k → r ≡ field_value l k
  unfolding field_value
  value-plain r e f = rw (← p, ← q, ← f) (search tests)

pub ruleset values = (value-signed, value-plain)

pub word_in : (l : List ℕ) (k n r : ℕ) → n ≡ field_value l k → r ≡ n % no_number → r ≡ field_word l k
unfolding field_word
word_in l k n r p e = e ∙ ap (λ (x : ℕ). x % no_number) p

module _ (l : List ℕ) (from end n : ℕ) (p : n ≡ count_fields l) where
  pub has-others : (n ≡ end → ⊥) → false ≡ has_values l from end
  unfolding has_values
  has-others e = rw (← p) (search tests)

  pub has_all : (r : Bool) → n ≡ end → r ≡ are_values l from end → r ≡ has_values l from end
  unfolding has_values
  has_all r e f = rw (← p, ← f) (search tests)

pub ruleset has_all_values = (has-others, has_all)

module _ (n c : ℕ) where
  pub long-low : c < 48 → n ≡ long_digit n c
  unfolding long_digit
  long-low h = search tests

  pub long-high : 48 ≤ c → 57 < c → n ≡ long_digit n c
  unfolding long_digit
  long-high h g = search tests

  pub long-full : 48 ≤ c → c ≤ 57 → 1844674407370955161 < n → n ≡ long_digit n c
  unfolding long_digit
  long-full h g k = search tests

  pub long-more : (r : ℕ) → 48 ≤ c → c ≤ 57 → n ≤ 1844674407370955161 → r ≡ (n * 10 + (c - 48)) % 18446744073709551616 → r ≡ long_digit n c
  unfolding long_digit
  long-more r h g k e = search tests

pub ruleset longs = (long-low, long-high, long-full, long-more)

-- ---- bytes added to a text

-- one text behind another
pub add-append : (xs ys : List ℕ) (q : Source) → add_all (xs ++ ys) q ≡ add_all ys (add_all xs q)
unfolding add_all
add-append [] ys q = refl
add-append (x ∷ xs) ys q = add-append xs ys (add_byte q.text q.size x)

pub add-two : (a b : List ℕ) (s₀ s₁ s₂ : Source) → s₁ ≡ add_all a s₀ → s₂ ≡ add_all b s₁ → s₂ ≡ add_all (a ++ b) s₀
add-two a b s₀ s₁ s₂ e f = f ∙ ap (add_all b) e ∙ sym (add-append a b s₀)

pub add-three : (a b c : List ℕ) (s₀ s₁ s₂ s₃ : Source) → s₁ ≡ add_all a s₀ → s₂ ≡ add_all b s₁ → s₃ ≡ add_all c s₂ → s₃ ≡ add_all (a ++ (b ++ c)) s₀
add-three a b c s₀ s₁ s₂ s₃ e f g = add-two a (b ++ c) s₀ s₁ s₃ e (add-two b c s₁ s₂ s₃ f g)

as_bytes : (a b : List ℕ) (s₀ s₁ : Source) → a ≡ b → s₁ ≡ add_all a s₀ → s₁ ≡ add_all b s₀
as_bytes a b s₀ s₁ p e = e ∙ ap (λ (x : List ℕ). add_all x s₀) p

pub add-one-byte : (m n c : ℕ) (t u : List ℕ) → source n u ≡ add_byte t m c → source n u ≡ add_all (c ∷ []) (source m t)
unfolding add_all
add-one-byte m n c t u e = e

-- `add_digits`
module _ (n m : ℕ) (t : List ℕ) where
  pub digits-none : (left : ℕ) → left ≡ 0 → source m t ≡ add_all (digits_within left n) (source m t)
  unfolding add_all digits_within
  digits-none zero e = refl
  digits-none (suc k) e = let z : ⊥ = omega arith in absurd z

  pub digits_last : (left d r : ℕ) (u : List ℕ) → (left ≡ 0 → ⊥) → n < 10 → d ≡ 48 + n → source r u ≡ add_byte t m d → source r u ≡ add_all (digits_within left n) (source m t)
  unfolding digits_within
  digits_last zero d r u h l p e = absurd (h refl)
  digits_last (suc k) d r u h l p e =
      as_bytes ((48 + n) ∷ []) _ (source m t) (source r u) (sym (if_lt-yes _ _ l))
      (add-one-byte m r (48 + n) t u (e ∙ ap (λ (x : ℕ). add_byte t m x) p))

  pub digits_more : (left d i r : ℕ) (v u : List ℕ) → (left ≡ 0 → ⊥) → 10 ≤ n → source i v ≡ add_all (digits_within (left - 1) (n / 10)) (source m t) → d ≡ 48 + n % 10
      → source r u ≡ add_byte v i d → source r u ≡ add_all (digits_within left n) (source m t)
  unfolding digits_within
  digits_more zero d i r v u h l e p f = absurd (h refl)
  digits_more (suc k) d i r v u h l e p f =
      let q : suc k - 1 ≡ k = omega arith in
      as_bytes (digits_within k (n / 10) ++ ((48 + n % 10) ∷ [])) _ (source m t) (source r u) (sym (if_lt-no _ _ l))
      (add-two (digits_within k (n / 10)) ((48 + n % 10) ∷ []) (source m t) (source i v) (source r u)
      (e ∙ ap (λ (j : ℕ). add_all (digits_within j (n / 10)) (source m t)) q)
      (add-one-byte i r (48 + n % 10) v u (f ∙ ap (λ (x : ℕ). add_byte v i x) p)))

pub ruleset digits = (digits-none, digits_last, digits_more)

pub number-added : (n : ℕ) (q z : Source) → z ≡ add_all (digits_within 20 n) q → z ≡ add_all (decimal n) q
unfolding decimal
number-added n q z e = e

pub next-added : (n m i : ℕ) (t u : List ℕ) (z : Source) → source i u ≡ add_byte t m 32 → z ≡ add_all (decimal n) (source i u) → z ≡ add_all (field n) (source m t)
unfolding field
next-added n m i t u z e f = add-two (32 ∷ []) (decimal n) (source m t) (source i u) z (add-one-byte m i 32 t u e) f

pub raw-added : (l : List ℕ) (from end : ℕ) (q z : Source) → end ≡ word_end l from → z ≡ add_all (take (end - from) (drop from l)) q → z ≡ add_all (raw_at l from) q
unfolding raw_at
raw-added l from end q z p e = as_bytes _ _ q z (ap (λ (i : ℕ). take (i - from) (drop from l)) p) e

module _ (l : List ℕ) (k n : ℕ) (p : n ≡ field_value l k) where
  is_number : n < no_number → decimal n ≡ field_bytes l k
  unfolding field_bytes
  is_number h = rw (← p) (search tests)

  is-raw : (i : ℕ) → no_number ≤ n → i ≡ field_start l k → raw_at l i ≡ field_bytes l k
  unfolding field_bytes
  is-raw i h e = rw (← p, ← e) (search tests)

  module _ (q z : Source) where
    pub field-number : n < no_number → z ≡ add_all (decimal n) q → z ≡ add_all (field_bytes l k) q
    field-number h e = as_bytes _ _ q z (is_number h) e

    pub field-raw : (i : ℕ) → no_number ≤ n → i ≡ field_start l k → z ≡ add_all (raw_at l i) q → z ≡ add_all (field_bytes l k) q
    field-raw i h e f = as_bytes _ _ q z (is-raw i h e) f

pub ruleset fields = (field-number, field-raw)

-- ---- answers

module _ (b : Broken) (q : Source) where
  pub broken-no : b ≡ No → q ≡ add_all (broken_bytes b) q
  unfolding broken_bytes add_all
  broken-no e = rw e

  pub broken-at : (i : ℕ) (z : Source) → b ≡ At i → z ≡ add_all (field i) q → z ≡ add_all (broken_bytes b) q
  unfolding broken_bytes
  broken-at i z e f = rw e f

  pub broken-none : (z : Source) → b ≡ Somewhere → z ≡ add_all none-word q → z ≡ add_all (broken_bytes b) q
  unfolding broken_bytes
  broken-none z e f = rw e f

pub ruleset brokens = (broken-no, broken-at, broken-none)

module _ (a : Started) (q : Source) where
  pub started-begun : (z : Source) → a ≡ Ok tt → z ≡ add_all begun-word q → z ≡ add_all (started_bytes a) q
  unfolding started_bytes
  started-begun z e f = rw e f

  pub started-not : (x : StartError) (z : Source) → a ≡ Err x → z ≡ add_all (error_bytes x) q → z ≡ add_all (started_bytes a) q
  unfolding started_bytes
  started-not x z e f = rw e f

pub ruleset starteds = (started-begun, started-not)

module _ (a : StartError) (q : Source) where
  pub error-refused : (n : ℕ) (y z : Source) → a ≡ Refused n → y ≡ add_all refused-word q → z ≡ add_all (field n) y → z ≡ add_all (error_bytes a) q
  unfolding error_bytes
  error-refused n y z e f g = rw e (add-two refused-word (field n) q y z f g)

  pub error-broken : (b : Broken) (y z : Source) → a ≡ Unsound b → y ≡ add_all broken-word q → z ≡ add_all (broken_bytes b) y → z ≡ add_all (error_bytes a) q
  unfolding error_bytes
  error-broken b y z e f g = rw e (add-two broken-word (broken_bytes b) q y z f g)

pub ruleset start-errors = (error-refused, error-broken)

pub rejected-added : (number place : ℕ) (q x y z : Source) → x ≡ add_all rejected-word q → y ≡ add_all (field number) x → z ≡ add_all (field place) y → z ≡ add_all (rejected_bytes number place) q
unfolding rejected_bytes
rejected-added number place q x y z e f g = add-three rejected-word (field number) (field place) q x y z e f g

pub counted-added : (word : List ℕ) (count : ℕ) (q y z : Source) → y ≡ add_all word q → z ≡ add_all (field count) y → z ≡ add_all (counted_bytes word count) q
unfolding counted_bytes
counted-added word count q y z e f = add-two word (field count) q y z e f

pub stopped-added : (count number statement : ℕ) (q x y z : Source) → x ≡ add_all (counted_bytes stopped-word count) q → y ≡ add_all (field number) x → z ≡ add_all (field statement) y
    → z ≡ add_all (stopped_bytes count number statement) q
unfolding stopped_bytes
stopped-added count number statement q x y z e f g = add-three (counted_bytes stopped-word count) (field number) (field statement) q x y z e f g

pub finished-added : (count word : ℕ) (q y z : Source) → y ≡ add_all (counted_bytes finished-word count) q → z ≡ add_all (field word) y → z ≡ add_all (finished_bytes count word) q
unfolding finished_bytes
finished-added count word q y z e f = add-two (counted_bytes finished-word count) (field word) q y z e f

pub eight-held : (p : Pause) → p.first ∷ p.second ∷ p.third ∷ p.fourth ∷ p.fifth ∷ p.sixth ∷ p.seventh ∷ p.eighth ∷ [] ≡ eight_words p
unfolding eight_words
eight-held p = refl

pub paused-added : (count : ℕ) (p : Pause) (ws vs : List ℕ) (q x y z : Source) → ws ≡ eight_words p → vs ≡ take p.count ws → x ≡ add_all (counted_bytes paused-word count) q
    → y ≡ add_all (field p.number) x → z ≡ add_all (list_bytes vs) y → z ≡ add_all (paused_bytes count p) q
unfolding paused_bytes paused_words
paused-added count p ws vs q x y z w h e f g =
    add-three (counted_bytes paused-word count) (field p.number) (list_bytes (take p.count (eight_words p))) q x y z e f
    (g ∙ ap (λ (v : List ℕ). add_all (list_bytes v) y) (h ∙ ap (λ (v : List ℕ). take p.count v) w))

module _ (s : State) (count : ℕ) (q z : Source) where
  pub state-running : s ≡ Running → z ≡ add_all (counted_bytes going-word count) q → z ≡ add_all (state_bytes s count) q
  unfolding state_bytes
  state-running e f = rw e f

  pub state-finished : (word : ℕ) → s ≡ Finished word → z ≡ add_all (finished_bytes count word) q → z ≡ add_all (state_bytes s count) q
  unfolding state_bytes
  state-finished word e f = rw e f

  pub state-stopped : (number statement : ℕ) → s ≡ Stopped number statement → z ≡ add_all (stopped_bytes count number statement) q → z ≡ add_all (state_bytes s count) q
  unfolding state_bytes
  state-stopped number statement e f = rw e f

  pub state-paused : (p : Pause) → s ≡ Paused p → z ≡ add_all (paused_bytes count p) q → z ≡ add_all (state_bytes s count) q
  unfolding state_bytes
  state-paused p e f = rw e f

pub ruleset states = (state-running, state-finished, state-stopped, state-paused)

pub unsound-added : (b : Broken) (count : ℕ) (q y z : Source) → y ≡ add_all (counted_bytes broken-word count) q → z ≡ add_all (broken_bytes b) y → z ≡ add_all (unsound_bytes b count) q
unfolding unsound_bytes
unsound-added b count q y z e f = add-two (counted_bytes broken-word count) (broken_bytes b) q y z e f

module _ (o : Outcome) (q z : Source) where
  pub outcome-state : o.broken ≡ No → z ≡ add_all (state_bytes o.machine.state o.count) q → z ≡ add_all (outcome_bytes o) q
  unfolding outcome_bytes
  outcome-state e f = rw e f

  pub outcome-at : (i : ℕ) → o.broken ≡ At i → z ≡ add_all (unsound_bytes (At i) o.count) q → z ≡ add_all (outcome_bytes o) q
  unfolding outcome_bytes
  outcome-at i e f = rw e f

  pub outcome-nowhere : o.broken ≡ Somewhere → z ≡ add_all (unsound_bytes Somewhere o.count) q → z ≡ add_all (outcome_bytes o) q
  unfolding outcome_bytes
  outcome-nowhere e f = rw e f

pub ruleset outcomes = (outcome-state, outcome-at, outcome-nowhere)

module _ (o : Resumed) (q z : Source) where
  pub resumed-not : o.unpaused ≡ true → z ≡ add_all (started_bytes (Err (Refused 37))) q → z ≡ add_all (resumed_bytes o) q
  unfolding resumed_bytes
  resumed-not e f = f ∙ ap (λ (x : List ℕ). add_all x q) (sym (if_true-yes _ _ e))

  pub resumed-so : o.unpaused ≡ false → z ≡ add_all (outcome_bytes o.outcome) q → z ≡ add_all (resumed_bytes o) q
  unfolding resumed_bytes
  resumed-so e f = f ∙ ap (λ (x : List ℕ). add_all x q) (sym (if_true-no _ _ e))

pub ruleset resumptions = (resumed-not, resumed-so)

pub record-added : (r : Machine) (q w x y z : Source) → w ≡ add_all (counted_bytes record-word r.next) q → x ≡ add_all (field r.frame) w → y ≡ add_all (field r.used) x → z ≡ add_all (field r.top) y
    → z ≡ add_all (record_bytes r) q
unfolding record_bytes
record-added r q w x y z e f g h =
    add-two (counted_bytes record-word r.next) (field r.frame ++ (field r.used ++ field r.top)) q w z e
    (add-three (field r.frame) (field r.used) (field r.top) w x y z f g h)

-- ---- records

module _ (l : List ℕ) (a : Bool) (p : a ≡ has_word l 2 poke.next_word) where
  module _ (r : Machine) (n v : ℕ) (g : n ≡ field_value l 3) (h : v ≡ n % no_number) where
    v-is : v ≡ field_value l 3 % no_number
    v-is = h ∙ ap (λ (x : ℕ). x % no_number) g

    pub poke-next : (q : Machine) → a ≡ true → q ≡ moved_to r v r.frame r.used r.top → q ≡ poke_number l r
    unfolding poke_number
    poke-next q e z = rw (← p, ← v-is) (z ∙ sym (if_true-yes _ _ e))

    module _ (a0 : a ≡ false) (b : Bool) (p' : b ≡ has_word l 2 poke.frame-word) where
      pub poke-frame : (q : Machine) → b ≡ true → q ≡ moved_to r r.next v r.used r.top → q ≡ poke_number l r
      unfolding poke_number
      poke-frame q e z = rw (← p, ← p', ← v-is) (z ∙ sym (if_true-no _ _ a0 ∙ if_true-yes _ _ e))

      module _ (b0 : b ≡ false) (c : Bool) (p'' : c ≡ has_word l 2 poke.used-word) where
        pub poke-used : (q : Machine) → c ≡ true → q ≡ moved_to r r.next r.frame v r.top → q ≡ poke_number l r
        unfolding poke_number
        poke-used q e z = rw (← p, ← p', ← p'', ← v-is) (z ∙ sym (if_true-no _ _ a0 ∙ if_true-no _ _ b0 ∙ if_true-yes _ _ e))

        module _ (c0 : c ≡ false) (d : Bool) (p''' : d ≡ has_word l 2 poke.top-word) where
          pub poke-top : (q : Machine) → d ≡ true → q ≡ moved_to r r.next r.frame r.used v → q ≡ poke_number l r
          unfolding poke_number
          poke-top q e z =
              rw (← p, ← p', ← p'', ← p''', ← v-is) (z ∙ sym (if_true-no _ _ a0 ∙ if_true-no _ _ b0 ∙ if_true-no _ _ c0 ∙ if_true-yes _ _ e))

          pub poke-other : d ≡ false → r ≡ poke_number l r
          unfolding poke_number
          poke-other e = rw (← p, ← p', ← p'', ← p''') (search tests)

  pub names-next : a ≡ true → true ≡ is_number_poke l
  unfolding is_number_poke
  names-next e = rw (← p) (search tests)

  module _ (a0 : a ≡ false) (b : Bool) (p' : b ≡ has_word l 2 poke.frame-word) where
    pub names-frame : b ≡ true → true ≡ is_number_poke l
    unfolding is_number_poke
    names-frame e = rw (← p, ← p') (search tests)

    module _ (b0 : b ≡ false) (c : Bool) (p'' : c ≡ has_word l 2 poke.used-word) where
      pub names-used : c ≡ true → true ≡ is_number_poke l
      unfolding is_number_poke
      names-used e = rw (← p, ← p', ← p'') (search tests)

      pub names-top : (d : Bool) → c ≡ false → d ≡ has_word l 2 poke.top-word → d ≡ is_number_poke l
      unfolding is_number_poke
      names-top d e f = rw (← p, ← p', ← p'', ← f) (search tests)

pub ruleset pokes = (poke-next, poke-frame, poke-used, poke-top, poke-other)

pub ruleset named = (names-next, names-frame, names-used, names-top)

module _ (l : List ℕ) (a : Bool) (p : a ≡ has_word l 2 poke.finished-word) (r z : Machine) (n v : ℕ) (g : n ≡ field_value l 3) (h : v ≡ n % no_number) where
  w-is : v ≡ field_value l 3 % no_number
  w-is = h ∙ ap (λ (x : ℕ). x % no_number) g

  pub poke-finished : a ≡ true → z ≡ with_state (Finished v) r → z ≡ poke_state l r
  unfolding poke_state
  poke-finished e f = rw (← p, ← w-is, ← f) (search tests)

  module _ (a0 : a ≡ false) (b : Bool) (p' : b ≡ has_word l 2 poke.stopped-word) where
    pub poke-stopped : (m i : ℕ) → b ≡ true → m ≡ field_value l 4 → i ≡ m % no_number → z ≡ with_state (Stopped v i) r → z ≡ poke_state l r
    unfolding poke_state
    poke-stopped m i e f k q =
        let k' : i ≡ field_value l 4 % no_number = k ∙ ap (λ (x : ℕ). x % no_number) f in
        rw (← p, ← p', ← w-is, ← k', ← q) (search tests)

    module _ (b0 : b ≡ false) (c : Bool) (p'' : c ≡ has_word l 2 poke.paused-word) where
      pub poke-paused : (w : Pause) → c ≡ true → w ≡ pause_poked l → z ≡ with_state (Paused w) r → z ≡ poke_state l r
      unfolding poke_state
      poke-paused w e f q = rw (← p, ← p', ← p'', ← f, ← q) (search tests)

      pub poke-running : c ≡ false → z ≡ with_state Running r → z ≡ poke_state l r
      unfolding poke_state
      poke-running e f = rw (← p, ← p', ← p'', ← f) (search tests)

pub ruleset state-pokes = (poke-finished, poke-stopped, poke-paused, poke-running)

module _ (l : List ℕ) (n : ℕ) (p : n ≡ count_fields l) where
  pub pause-long : 13 < n → false ≡ is_pause_poke l
  unfolding is_pause_poke
  pause-long h = rw (← p) (search tests)

  pub pause-values : (r : Bool) → n ≤ 13 → r ≡ are_values l 3 n → r ≡ is_pause_poke l
  unfolding is_pause_poke
  pause-values r h e = rw (← p, ← e) (search tests)

pub ruleset pauses = (pause-long, pause-values)

module _ (l : List ℕ) (n : ℕ) (p0 : n ≡ field_word l 3) (k : ℕ) (p1 : k ≡ field_word l 4) where
  pub pause-read : (a b c d e f g h : ℕ) → a ≡ field_word l 5 → b ≡ field_word l 6 → c ≡ field_word l 7 → d ≡ field_word l 8 → e ≡ field_word l 9 → f ≡ field_word l 10 → g ≡ field_word l 11
      → h ≡ field_word l 12
      → record { number = n; count = k; first = a; second = b; third = c; fourth = d; fifth = e; sixth = f; seventh = g; eighth = h } ≡ pause_poked l
  unfolding pause_poked
  pause-read a b c d e f g h p2 p3 p4 p5 p6 p7 p8 p9 = rw (← p0, ← p1, ← p2, ← p3, ← p4, ← p5, ← p6, ← p7, ← p8, ← p9)

module _ (l : List ℕ) (r a : Bool) (p : a ≡ has_word l 2 poke.running-word) where
  pub names-running : a ≡ true → r ≡ has_values l 3 4 → r ≡ is_state_poke l
  unfolding is_state_poke
  names-running e f = rw (← p, ← f) (search tests)

  module _ (a0 : a ≡ false) (b : Bool) (p' : b ≡ has_word l 2 poke.finished-word) where
    pub names-finished : b ≡ true → r ≡ has_values l 3 4 → r ≡ is_state_poke l
    unfolding is_state_poke
    names-finished e f = rw (← p, ← p', ← f) (search tests)

    module _ (b0 : b ≡ false) (c : Bool) (p'' : c ≡ has_word l 2 poke.stopped-word) where
      pub names-stopped : c ≡ true → r ≡ has_values l 3 5 → r ≡ is_state_poke l
      unfolding is_state_poke
      names-stopped e f = rw (← p, ← p', ← p'', ← f) (search tests)

      module _ (c0 : c ≡ false) (d : Bool) (p''' : d ≡ has_word l 2 poke.paused-word) where
        pub names-paused : d ≡ true → r ≡ is_pause_poke l → r ≡ is_state_poke l
        unfolding is_state_poke
        names-paused e f = rw (← p, ← p', ← p'', ← p''', ← f) (search tests)

        pub names-none : d ≡ false → false ≡ is_state_poke l
        unfolding is_state_poke
        names-none e = rw (← p, ← p', ← p'', ← p''') (search tests)

pub ruleset state-names = (names-running, names-finished, names-stopped, names-paused, names-none)

module _ (l : List ℕ) (a : Bool) (p : a ≡ is_state_poke l) where
  pub changes-state : a ≡ true → true ≡ is_record_poke l
  unfolding is_record_poke
  changes-state e = rw (← p) (search tests)

  module _ (a0 : a ≡ false) (b : Bool) (p' : b ≡ is_number_poke l) where
    pub changes-number : (r : Bool) → b ≡ true → r ≡ has_values l 3 4 → r ≡ is_record_poke l
    unfolding is_record_poke
    changes-number r e f = rw (← p, ← p', ← f) (search tests)

    pub changes-none : b ≡ false → false ≡ is_record_poke l
    unfolding is_record_poke
    changes-none e = rw (← p, ← p') (search tests)

  pub poked-state : (r z : Machine) → a ≡ true → z ≡ poke_state l r → z ≡ poke_record l r
  unfolding poke_record
  poked-state r z e f = rw (← p, ← f) (search tests)

  pub poked-number : (r z : Machine) → a ≡ false → z ≡ poke_number l r → z ≡ poke_record l r
  unfolding poke_record
  poked-number r z e f = rw (← p, ← f) (search tests)

pub ruleset changes = (changes-state, changes-number, changes-none)

pub ruleset poked = (poked-state, poked-number)

-- ---- buffers

pub lesser-min : (n most : ℕ) → min n most ≡ lesser_of n most
unfolding lesser_of
lesser-min n most =
    elim (dec_lt most n) [
      | yes h ↦ (let e : min n most ≡ most = omega arith in e ∙ sym (if_lt-yes most n h))
      | no h ↦ (let e : min n most ≡ n = omega arith in e ∙ sym (if_lt-no most n (omega arith)))
    ]

module _ {X : Type 0} (n : ℕ) (t : List X) where
  pub behind-part : n ≤ length t → take (length t - n) (drop n t) ≡ behind_of n t
  unfolding behind_of
  behind-part h =
      let e : take (length t - n) (drop n t) ≡ drop n t = take_all (length t - n) (drop n t) (omega (arith, length-drop n t)) in
      search tests

  pub behind-all : length t < n → t ≡ behind_of n t
  unfolding behind_of
  behind-all h = search tests

pub ruleset behinds = (behind-part, behind-all)
