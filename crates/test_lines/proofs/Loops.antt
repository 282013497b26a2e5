-- The loops: what is left gives the whole answer.
-- Assumes nothing.
use Rattle.std.proofs.Common.{◌≡◌, ℕ, suc, ◌+◌, ◌-◌, ◌<◌, ◌≤◌, Bool, true, false, List, length, drop, sym, ap, ◌∙◌, arith}
use Rattle.base_prelude.specs.Bytes.{byte_at}
use Rattle.base_prelude.specs.Walk.{go, stop}
use Rattle.base_prelude.proofs.Choice.{tests}
use Rattle.base_prelude.proofs.Walk.{Runs, runs-start, runs-go, runs-stop}
use Rattle.test_lines.specs.Lines.{one_more, byte_step, byte_place, prefix_step, starts_with, count, place_step, place_of}
use Rattle.test_lines.specs.Fields.{no_number, field_step, field_start, with_digit, reading, digit_step, number_from, field_of, numbers_step, has_numbers}
use Rattle.test_lines.specs.Sources.{text_byte, spelled_size, Source, source, full, add_byte, adding, text_step, add_text, add_times}

-- `byte_place`
module _ (b : ℕ) (s : List ℕ) (i : ℕ) where
  byte-on : (c : ℕ) → i < length s → c ≡ byte_at s i → (c ≡ b → ⊥) → go (i + 1) ≡ byte_step b s i
  unfolding byte_step
  byte-on c h p e = rw (← p) (search tests)

  byte-here : (c : ℕ) → i < length s → c ≡ byte_at s i → c ≡ b → stop i ≡ byte_step b s i
  unfolding byte_step
  byte-here c h p e = rw (← p) (search tests)

  byte-past : length s ≤ i → stop i ≡ byte_step b s i
  unfolding byte_step
  byte-past h = search tests

pub record ByteSeeking (b : ℕ) (s : List ℕ) (at i : ℕ) : Type 0 where
  pub from : at ≤ i
  pub within : i ≤ length s
  pub runs : Runs (byte_step b s) at (byte_place b s at) i (suc (length s - i))

pub finding-start : (b : ℕ) (s : List ℕ) (at : ℕ) → at ≤ length s → ByteSeeking b s at at
unfolding byte_place
finding-start b s at h = record { from = omega arith; within = h; runs = runs-start _ _ _ _ _ (omega arith) }

module _ (b : ℕ) (s : List ℕ) (at i : ℕ) where
  pub finding-more : (c : ℕ) → ByteSeeking b s at i → i < length s → c ≡ byte_at s i → (c ≡ b → ⊥) → ByteSeeking b s at (i + 1)
  finding-more c h l p e =
      record { from = omega (arith, h.from); within = omega arith; runs = runs-go _ _ _ _ _ (length s - i) _ h.runs (sym (byte-on b s i c l p e)) (omega arith) }

  pub finding-here : (c : ℕ) → ByteSeeking b s at i → i < length s → c ≡ byte_at s i → c ≡ b → i ≡ byte_place b s at
  finding-here c h l p e = runs-stop _ _ _ _ _ _ h.runs (sym (byte-here b s i c l p e))

  pub finding-past : ByteSeeking b s at i → length s ≤ i → length s ≡ byte_place b s at
  finding-past h l = let e : length s ≡ i = omega (arith, h.within) in e ∙ runs-stop _ _ _ _ _ _ h.runs (sym (byte-past b s i l))

pub ruleset finding = (finding-start, finding-more, finding-here, finding-past)

-- `starts_with`
module _ (l word : List ℕ) (i : ℕ) where
  prefix-on : (a b : ℕ) → i < length word → a ≡ byte_at l i → b ≡ byte_at word i → a ≡ b → go (i + 1) ≡ prefix_step l word i
  unfolding prefix_step
  prefix-on a b h p q e = rw (← p, ← q) (search tests)

  prefix-off : (a b : ℕ) → i < length word → a ≡ byte_at l i → b ≡ byte_at word i → (a ≡ b → ⊥) → stop false ≡ prefix_step l word i
  unfolding prefix_step
  prefix-off a b h p q e = rw (← p, ← q) (search tests)

  prefix-past : length word ≤ i → stop true ≡ prefix_step l word i
  unfolding prefix_step
  prefix-past h = search tests

pub record Prefixing (l word : List ℕ) (i : ℕ) : Type 0 where
  pub runs : Runs (prefix_step l word) false (starts_with l word) i (suc (length word - i))

pub prefixing-start : (l word : List ℕ) → Prefixing l word 0
unfolding starts_with
prefixing-start l word = record { runs = runs-start _ _ _ _ _ (omega arith) }

module _ (l word : List ℕ) (i : ℕ) where
  pub prefixing-more : (a b : ℕ) → Prefixing l word i → i < length word → a ≡ byte_at l i → b ≡ byte_at word i → a ≡ b → Prefixing l word (i + 1)
  prefixing-more a b h g p q e =
      record { runs = runs-go _ _ _ _ _ (length word - i) _ h.runs (sym (prefix-on l word i a b g p q e)) (omega arith) }

  pub prefixing-off : (a b : ℕ) → Prefixing l word i → i < length word → a ≡ byte_at l i → b ≡ byte_at word i → (a ≡ b → ⊥) → false ≡ starts_with l word
  prefixing-off a b h g p q e = runs-stop _ _ _ _ _ _ h.runs (sym (prefix-off l word i a b g p q e))

  pub prefixing-past : Prefixing l word i → length word ≤ i → true ≡ starts_with l word
  prefixing-past h g = runs-stop _ _ _ _ _ _ h.runs (sym (prefix-past l word i g))

pub ruleset prefixing = (prefixing-start, prefixing-more, prefixing-off, prefixing-past)

-- `place_of`
module _ (t word : List ℕ) (k seen i : ℕ) where
  place-off : (b : Bool) → i < length t → b ≡ starts_with (drop i t) word → b ≡ false → go (count seen (i + 1)) ≡ place_step t word k (count seen i)
  unfolding place_step
  place-off b h p e = rw (← p) (search tests)

  place-on : (b : Bool) (n : ℕ) → i < length t → b ≡ starts_with (drop i t) word → b ≡ true → n ≡ one_more seen → (n ≡ k → ⊥) → go (count n (i + 1)) ≡ place_step t word k (count seen i)
  unfolding place_step
  place-on b n h p e q f = rw (← p, ← q) (search tests)

  place_here : (b : Bool) (n : ℕ) → i < length t → b ≡ starts_with (drop i t) word → b ≡ true → n ≡ one_more seen → n ≡ k → stop i ≡ place_step t word k (count seen i)
  unfolding place_step
  place_here b n h p e q f = rw (← p, ← q) (search tests)

  place-past : length t ≤ i → stop i ≡ place_step t word k (count seen i)
  unfolding place_step
  place-past h = search tests

pub record Placing (t word : List ℕ) (k seen i : ℕ) : Type 0 where
  pub runs : Runs (place_step t word k) (length t) (place_of t word k) (count seen i) (suc (length t - i))

pub placing-start : (t word : List ℕ) (k : ℕ) → Placing t word k 0 0
unfolding place_of
placing-start t word k = record { runs = runs-start _ _ _ _ _ (omega arith) }

module _ (t word : List ℕ) (k seen i : ℕ) where
  pub placing-off : (b : Bool) → Placing t word k seen i → i < length t → b ≡ starts_with (drop i t) word → b ≡ false → Placing t word k seen (i + 1)
  placing-off b h g p e =
      record { runs = runs-go _ _ _ _ _ (length t - i) _ h.runs (sym (place-off t word k seen i b g p e)) (omega arith) }

  pub placing-on : (b : Bool) (n : ℕ) → Placing t word k seen i → i < length t → b ≡ starts_with (drop i t) word → b ≡ true → n ≡ one_more seen → (n ≡ k → ⊥) → Placing t word k n (i + 1)
  placing-on b n h g p e q f =
      record { runs = runs-go _ _ _ _ _ (length t - i) _ h.runs (sym (place-on t word k seen i b n g p e q f)) (omega arith) }

  pub placing-here : (b : Bool) (n : ℕ) → Placing t word k seen i → i < length t → b ≡ starts_with (drop i t) word → b ≡ true → n ≡ one_more seen → n ≡ k → i ≡ place_of t word k
  placing-here b n h g p e q f = runs-stop _ _ _ _ _ _ h.runs (sym (place_here t word k seen i b n g p e q f))

  pub placing-past : Placing t word k seen i → length t ≤ i → i ≤ length t → length t ≡ place_of t word k
  placing-past h g f = let e : length t ≡ i = omega arith in e ∙ runs-stop _ _ _ _ _ _ h.runs (sym (place-past t word k seen i g))

pub ruleset placing = (placing-start, placing-off, placing-on, placing-here, placing-past)

-- `field_start`
module _ (l : List ℕ) (k seen i : ℕ) where
  field_off : (c : ℕ) → i < length l → (seen ≡ k → ⊥) → c ≡ byte_at l i → (c ≡ 32 → ⊥) → go (count seen (i + 1)) ≡ field_step l k (count seen i)
  unfolding field_step
  field_off c h n p e = rw (← p) (search tests)

  field-on : (c m : ℕ) → i < length l → (seen ≡ k → ⊥) → c ≡ byte_at l i → c ≡ 32 → m ≡ one_more seen → go (count m (i + 1)) ≡ field_step l k (count seen i)
  unfolding field_step
  field-on c m h n p e q = rw (← p, ← q) (search tests)

  field-here : i < length l → seen ≡ k → stop i ≡ field_step l k (count seen i)
  unfolding field_step
  field-here h e = search tests

  field_past : length l ≤ i → stop i ≡ field_step l k (count seen i)
  unfolding field_step
  field_past h = search tests

pub record Fielding (l : List ℕ) (k seen i : ℕ) : Type 0 where
  pub within : i ≤ length l
  pub runs : Runs (field_step l k) (length l) (field_start l k) (count seen i) (suc (length l - i))

pub fielding-start : (l : List ℕ) (k : ℕ) → Fielding l k 0 0
unfolding field_start
fielding-start l k = record { within = omega arith; runs = runs-start _ _ _ _ _ (omega arith) }

module _ (l : List ℕ) (k seen i : ℕ) where
  pub fielding-off : (c : ℕ) → Fielding l k seen i → i < length l → (seen ≡ k → ⊥) → c ≡ byte_at l i → (c ≡ 32 → ⊥) → Fielding l k seen (i + 1)
  fielding-off c h g n p e =
      record { within = omega arith; runs = runs-go _ _ _ _ _ (length l - i) _ h.runs (sym (field_off l k seen i c g n p e)) (omega arith) }

  pub fielding-on : (c m : ℕ) → Fielding l k seen i → i < length l → (seen ≡ k → ⊥) → c ≡ byte_at l i → c ≡ 32 → m ≡ one_more seen → Fielding l k m (i + 1)
  fielding-on c m h g n p e q =
      record { within = omega arith; runs = runs-go _ _ _ _ _ (length l - i) _ h.runs (sym (field-on l k seen i c m g n p e q)) (omega arith) }

  pub fielding-here : Fielding l k seen i → i < length l → seen ≡ k → i ≡ field_start l k
  fielding-here h g e = runs-stop _ _ _ _ _ _ h.runs (sym (field-here l k seen i g e))

  pub fielding-past : Fielding l k seen i → length l ≤ i → length l ≡ field_start l k
  fielding-past h g = let e : length l ≡ i = omega (arith, h.within) in e ∙ runs-stop _ _ _ _ _ _ h.runs (sym (field_past l k seen i g))

pub ruleset fielding = (fielding-start, fielding-off, fielding-on, fielding-here, fielding-past)

-- `number_from`
module _ (l : List ℕ) (v i : ℕ) where
  digit-on : (c w : ℕ) → i < length l → c ≡ byte_at l i → (c ≡ 32 → ⊥) → w ≡ with_digit v c → go (reading w (i + 1)) ≡ digit_step l (reading v i)
  unfolding digit_step
  digit-on c w h p e q = rw (← p, ← q) (search tests)

  digit-end : (c : ℕ) → i < length l → c ≡ byte_at l i → c ≡ 32 → stop v ≡ digit_step l (reading v i)
  unfolding digit_step
  digit-end c h p e = rw (← p) (search tests)

  digit-past : length l ≤ i → stop v ≡ digit_step l (reading v i)
  unfolding digit_step
  digit-past h = search tests

pub record Numbering (l : List ℕ) (at n i v : ℕ) : Type 0 where
  pub runs : Runs (digit_step l) n (number_from l at n) (reading v i) (suc (length l - i))

pub numbering_start : (l : List ℕ) (at n : ℕ) → Numbering l at n at n
unfolding number_from
numbering_start l at n = record { runs = runs-start _ _ _ _ _ (omega arith) }

module _ (l : List ℕ) (at n i v : ℕ) where
  pub numbering-more : (c w : ℕ) → Numbering l at n i v → i < length l → c ≡ byte_at l i → (c ≡ 32 → ⊥) → w ≡ with_digit v c → Numbering l at n (i + 1) w
  numbering-more c w h g p e q =
      record { runs = runs-go _ _ _ _ _ (length l - i) _ h.runs (sym (digit-on l v i c w g p e q)) (omega arith) }

  pub numbering-end : (c : ℕ) → Numbering l at n i v → i < length l → c ≡ byte_at l i → c ≡ 32 → v ≡ number_from l at n
  numbering-end c h g p e = runs-stop _ _ _ _ _ _ h.runs (sym (digit-end l v i c g p e))

  pub numbering-past : Numbering l at n i v → length l ≤ i → v ≡ number_from l at n
  numbering-past h g = runs-stop _ _ _ _ _ _ h.runs (sym (digit-past l v i g))

pub ruleset numbering = (numbering_start, numbering-more, numbering-end, numbering-past)

-- `has_numbers`
module _ (l : List ℕ) (end k : ℕ) where
  numbers_on : (n : ℕ) → k < end → n ≡ field_of l k → n < no_number → go (k + 1) ≡ numbers_step l end k
  unfolding numbers_step
  numbers_on n h p e = rw (← p) (search tests)

  numbers-off : (n : ℕ) → k < end → n ≡ field_of l k → no_number ≤ n → stop false ≡ numbers_step l end k
  unfolding numbers_step
  numbers-off n h p e = rw (← p) (search tests)

  numbers_more : (i : ℕ) → end ≤ k → i ≡ field_start l end → i < length l → stop false ≡ numbers_step l end k
  unfolding numbers_step
  numbers_more i h p e = rw (← p) (search tests)

  numbers-last : (i : ℕ) → end ≤ k → i ≡ field_start l end → length l ≤ i → stop true ≡ numbers_step l end k
  unfolding numbers_step
  numbers-last i h p e = rw (← p) (search tests)

pub record Checking (l : List ℕ) (from end k : ℕ) : Type 0 where
  pub runs : Runs (numbers_step l end) false (has_numbers l from end) k (suc (end - k))

pub checking-start : (l : List ℕ) (from end : ℕ) → Checking l from end from
unfolding has_numbers
checking-start l from end = record { runs = runs-start _ _ _ _ _ (omega arith) }

module _ (l : List ℕ) (from end k : ℕ) where
  pub checking-on : (n : ℕ) → Checking l from end k → k < end → n ≡ field_of l k → n < no_number → Checking l from end (k + 1)
  checking-on n h g p e =
      record { runs = runs-go _ _ _ _ _ (end - k) _ h.runs (sym (numbers_on l end k n g p e)) (omega arith) }

  pub checking-off : (n : ℕ) → Checking l from end k → k < end → n ≡ field_of l k → no_number ≤ n → false ≡ has_numbers l from end
  checking-off n h g p e = runs-stop _ _ _ _ _ _ h.runs (sym (numbers-off l end k n g p e))

  pub checking-more : (i : ℕ) → Checking l from end k → end ≤ k → i ≡ field_start l end → i < length l → false ≡ has_numbers l from end
  checking-more i h g p e = runs-stop _ _ _ _ _ _ h.runs (sym (numbers_more l end k i g p e))

  pub checking-last : (i : ℕ) → Checking l from end k → end ≤ k → i ≡ field_start l end → length l ≤ i → true ≡ has_numbers l from end
  checking-last i h g p e = runs-stop _ _ _ _ _ _ h.runs (sym (numbers-last l end k i g p e))

pub ruleset checking = (checking-start, checking-on, checking-off, checking-more, checking-last)

-- `add_text`
module _ (l : List ℕ) (n : ℕ) (t : List ℕ) (i : ℕ) where
  text-on : (c m b d : ℕ) (u : List ℕ) → i < length l → c ≡ text_byte l i → c ≤ 255 → source m u ≡ add_byte t n c → b ≡ byte_at l i → d ≡ spelled_size b
      → go (adding (i + d) (source m u)) ≡ text_step l (adding i (source n t))
  unfolding text_step
  text-on c m b d u h p e f q g = rw (← p, ← f, ← q, ← g) (search tests)

  text-bad : (c : ℕ) → i < length l → c ≡ text_byte l i → 255 < c → stop (source full t) ≡ text_step l (adding i (source n t))
  unfolding text_step
  text-bad c h p e = rw (← p) (search tests)

  text-past : length l ≤ i → stop (source n t) ≡ text_step l (adding i (source n t))
  unfolding text_step
  text-past h = search tests

pub record Texting (l : List ℕ) (from : ℕ) (q : Source) (t : List ℕ) (n i : ℕ) : Type 0 where
  pub runs : Runs (text_step l) q (add_text l from q) (adding i (source n t)) (suc (length l - i))

pub texting-start : (l : List ℕ) (from n : ℕ) (t : List ℕ) → Texting l from (source n t) t n from
unfolding add_text
texting-start l from n t = record { runs = runs-start _ _ _ _ _ (omega arith) }

module _ (l : List ℕ) (from : ℕ) (q : Source) (t : List ℕ) (n i : ℕ) where
  pub texting-more : (c m b d : ℕ) (u : List ℕ) → Texting l from q t n i → i < length l → c ≡ text_byte l i → c ≤ 255 → source m u ≡ add_byte t n c → b ≡ byte_at l i → d ≡ spelled_size b → 1 ≤ d
      → Texting l from q u m (i + d)
  texting-more c m b d u h g p e f w z k =
      record { runs = runs-go _ _ _ _ _ (length l - i) _ h.runs (sym (text-on l n t i c m b d u g p e f w z)) (omega arith) }

  pub texting-bad : (c : ℕ) → Texting l from q t n i → i < length l → c ≡ text_byte l i → 255 < c → source full t ≡ add_text l from q
  texting-bad c h g p e = runs-stop _ _ _ _ _ _ h.runs (sym (text-bad l n t i c g p e))

  pub texting-past : Texting l from q t n i → length l ≤ i → source n t ≡ add_text l from q
  texting-past h g = runs-stop _ _ _ _ _ _ h.runs (sym (text-past l n t i g))

pub ruleset texting = (texting-start, texting-more, texting-bad, texting-past)

-- `add_times`
pub record Repeating (l : List ℕ) (from times : ℕ) (q : Source) (t : List ℕ) (n k : ℕ) : Type 0 where
  pub below : k ≤ times
  pub rest : add_times l from (times - k) (source n t) ≡ add_times l from times q

pub repeating-start : (l : List ℕ) (from times n : ℕ) (t : List ℕ) → Repeating l from times (source n t) t n 0
repeating-start l from times n t =
    let e : times - 0 ≡ times = omega arith in
    record { below = omega arith; rest = ap (λ (m : ℕ). add_times l from m (source n t)) e }

module _ (l : List ℕ) (from times : ℕ) (q : Source) (t : List ℕ) (n k : ℕ) where
  pub repeating-more : (m : ℕ) (u : List ℕ) → Repeating l from times q t n k → k < times → source m u ≡ add_text l from (source n t) → Repeating l from times q u m (k + 1)
  unfolding add_times
  repeating-more m u h g p =
      let e : times - k ≡ suc (times - (k + 1)) = omega arith in
      record {
        below = omega arith;
        rest = ap (λ (z : Source). add_times l from (times - (k + 1)) z) p ∙ ap (λ (j : ℕ). add_times l from j (source n t)) (sym e) ∙ h.rest;
      }

  pub repeating-done : Repeating l from times q t n k → times ≤ k → source n t ≡ add_times l from times q
  unfolding add_times
  repeating-done h g =
      let e : times - k ≡ 0 = omega arith in
      ap (λ (j : ℕ). add_times l from j (source n t)) (sym e) ∙ h.rest

pub ruleset repeating = (repeating-start, repeating-more, repeating-done)
