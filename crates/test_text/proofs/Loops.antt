-- The loops: what is left gives the whole answer.
-- Assumes nothing.
use Rattle.std.proofs.Common.{◌≡◌, ℕ, zero, suc, ◌+◌, ◌-◌, ◌%◌, ◌<◌, ◌≤◌, true, false, ltb, List, [], ◌∷◌, ◌++◌, length, get_or, take, drop, set, replicate, sym, refl, ap, ◌∙◌, append_assoc, add-one, arith, length-set, drop_of_length-le, length-take, drop-cons, get_or-take}
use native.Mathlib.Decide.{dec_lt}
use borrow.Author.Tests.{le-ltb}
use lib.ListN.{length-replicate}
use lib.Seq.{paste}
use borrow.Rule.Slice.PartMut.{put_mid, mid_of, mid_len}
use Rattle.std.proofs.lemmas.Slice.{put_mid-paste}
use Rattle.std.proofs.lemmas.List.Edits.{paste_all}
use Rattle.base_prelude.specs.Bytes.{byte_at}
use Rattle.base_prelude.specs.Walk.{go, stop}
use Rattle.base_prelude.proofs.Choice.{tests, if_lt-yes, if_lt-no}
use Rattle.base_prelude.proofs.Walk.{Runs, runs-start, runs-go, runs-stop}
use Rattle.vm_definitions.specs.Access.{store_from}
use Rattle.vm_memory.proofs.Cases.{store-next, front-stored}
use Rattle.app_page.specs.Bytes.{field}
use Rattle.test_lines.specs.Lines.{one_more, count}
use Rattle.test_lines.specs.Fields.{no_number}
use Rattle.test_lines.specs.Sources.{Source, source, add_byte}
use Rattle.test_text.specs.Fields.{count_fields, count_step}
use Rattle.test_text.specs.Numbers.{field_value, values_step, are_values, digits_step, is_digits, long_digit, long_step, long_number, listed, argument_step, arguments_of}
use Rattle.test_text.specs.Answers.{add_all, field_bytes, fields_from, plain_bytes, none-word, words-word, holds-word, counted_bytes, list_bytes, numbers_from, words_bytes, holds_bytes}
use Rattle.test_text.specs.Buffers.{lesser_of, changed_step, changed_in, stored, storing, store_step, bytes_stored}
use Rattle.test_text.proofs.Cases.{add-two, add-one-byte}

-- `count_fields`
module _ (l : List ℕ) (n i : ℕ) where
  count-off : (c : ℕ) → i < length l → c ≡ byte_at l i → (c ≡ 32 → ⊥) → go (count n (i + 1)) ≡ count_step l (count n i)
  unfolding count_step
  count-off c h p e = rw (← p) (search tests)

  count-on : (c m : ℕ) → i < length l → c ≡ byte_at l i → c ≡ 32 → m ≡ one_more n → go (count m (i + 1)) ≡ count_step l (count n i)
  unfolding count_step
  count-on c m h p e q = rw (← p, ← q) (search tests)

  count_past : length l ≤ i → stop n ≡ count_step l (count n i)
  unfolding count_step
  count_past h = search tests

pub record Counting (l : List ℕ) (n i : ℕ) : Type 0 where
  pub runs : Runs (count_step l) 1 (count_fields l) (count n i) (suc (length l - i))

pub counting-start : (l : List ℕ) → Counting l 1 0
unfolding count_fields
counting-start l = record { runs = runs-start _ _ _ _ _ (omega arith) }

module _ (l : List ℕ) (n i : ℕ) where
  pub counting-off : (c : ℕ) → Counting l n i → i < length l → c ≡ byte_at l i → (c ≡ 32 → ⊥) → Counting l n (i + 1)
  counting-off c h g p e =
      record { runs = runs-go _ _ _ _ _ (length l - i) _ h.runs (sym (count-off l n i c g p e)) (omega arith) }

  pub counting-on : (c m : ℕ) → Counting l n i → i < length l → c ≡ byte_at l i → c ≡ 32 → m ≡ one_more n → Counting l m (i + 1)
  counting-on c m h g p e q =
      record { runs = runs-go _ _ _ _ _ (length l - i) _ h.runs (sym (count-on l n i c m g p e q)) (omega arith) }

  pub counting-past : Counting l n i → length l ≤ i → n ≡ count_fields l
  counting-past h g = runs-stop _ _ _ _ _ _ h.runs (sym (count_past l n i g))

pub ruleset counting = (counting-start, counting-off, counting-on, counting-past)

-- `are_values`
module _ (l : List ℕ) (end k : ℕ) where
  values-on : (n : ℕ) → k < end → n ≡ field_value l k → n < no_number → go (k + 1) ≡ values_step l end k
  unfolding values_step
  values-on n h p e = rw (← p) (search tests)

  values-off : (n : ℕ) → k < end → n ≡ field_value l k → no_number ≤ n → stop false ≡ values_step l end k
  unfolding values_step
  values-off n h p e = rw (← p) (search tests)

  values-end : end ≤ k → stop true ≡ values_step l end k
  unfolding values_step
  values-end h = search tests

pub record Valuing (l : List ℕ) (from end k : ℕ) : Type 0 where
  pub runs : Runs (values_step l end) false (are_values l from end) k (suc (end - k))

pub valuing-start : (l : List ℕ) (from end : ℕ) → Valuing l from end from
unfolding are_values
valuing-start l from end = record { runs = runs-start _ _ _ _ _ (omega arith) }

module _ (l : List ℕ) (from end k : ℕ) where
  pub valuing-on : (n : ℕ) → Valuing l from end k → k < end → n ≡ field_value l k → n < no_number → Valuing l from end (k + 1)
  valuing-on n h g p e = record { runs = runs-go _ _ _ _ _ (end - k) _ h.runs (sym (values-on l end k n g p e)) (omega arith) }

  pub valuing-off : (n : ℕ) → Valuing l from end k → k < end → n ≡ field_value l k → no_number ≤ n → false ≡ are_values l from end
  valuing-off n h g p e = runs-stop _ _ _ _ _ _ h.runs (sym (values-off l end k n g p e))

  pub valuing-end : Valuing l from end k → end ≤ k → true ≡ are_values l from end
  valuing-end h g = runs-stop _ _ _ _ _ _ h.runs (sym (values-end l end k g))

pub ruleset valuing = (valuing-start, valuing-on, valuing-off, valuing-end)

-- `is_digits`
module _ (l : List ℕ) (from i : ℕ) where
  digits-on : (c : ℕ) → i < length l → c ≡ byte_at l i → 48 ≤ c → c ≤ 57 → go (i + 1) ≡ digits_step l from i
  unfolding digits_step
  digits-on c h p e f = rw (← p) (search tests)

  digits_low : (c : ℕ) → i < length l → c ≡ byte_at l i → c < 48 → stop false ≡ digits_step l from i
  unfolding digits_step
  digits_low c h p e = rw (← p) (search tests)

  digits-high : (c : ℕ) → i < length l → c ≡ byte_at l i → 48 ≤ c → 57 < c → stop false ≡ digits_step l from i
  unfolding digits_step
  digits-high c h p e f = rw (← p) (search tests)

  digits-end : length l ≤ i → stop (ltb from i) ≡ digits_step l from i
  unfolding digits_step
  digits-end h = search tests

pub record Testing (l : List ℕ) (from i : ℕ) : Type 0 where
  pub below : from ≤ i
  pub within : i ≤ length l + (from - length l)
  pub runs : Runs (digits_step l from) false (is_digits l from) i (suc (length l - i))

pub testing-start : (l : List ℕ) (from : ℕ) → Testing l from from
unfolding is_digits
testing-start l from = record { below = omega arith; within = omega arith; runs = runs-start _ _ _ _ _ (omega arith) }

module _ (l : List ℕ) (from i : ℕ) where
  pub testing-on : (c : ℕ) → Testing l from i → i < length l → c ≡ byte_at l i → 48 ≤ c → c ≤ 57 → Testing l from (i + 1)
  testing-on c h g p e f = record { below = omega (arith, h.below); within = omega arith; runs = runs-go _ _ _ _ _ (length l - i) _ h.runs (sym (digits-on l from i c g p e f)) (omega arith) }

  pub testing-low : (c : ℕ) → Testing l from i → i < length l → c ≡ byte_at l i → c < 48 → false ≡ is_digits l from
  testing-low c h g p e = runs-stop _ _ _ _ _ _ h.runs (sym (digits_low l from i c g p e))

  pub testing-high : (c : ℕ) → Testing l from i → i < length l → c ≡ byte_at l i → 48 ≤ c → 57 < c → false ≡ is_digits l from
  testing-high c h g p e f = runs-stop _ _ _ _ _ _ h.runs (sym (digits-high l from i c g p e f))

  pub testing-end : Testing l from i → length l ≤ i → ltb from (length l) ≡ is_digits l from
  testing-end h g = same ∙ runs-stop _ _ _ _ _ _ h.runs (sym (digits-end l from i g))
    where
      same : ltb from (length l) ≡ ltb from i
      same =
          elim (dec_lt from (length l)) [
            | yes w ↦ (let e : length l ≡ i = omega (arith, h.within) in ap (λ (n : ℕ). ltb from n) e)
            | no w ↦ (let a : length l ≤ from = omega arith in let b : i ≤ from = omega (arith, h.within) in le-ltb from (length l) a ∙ sym (le-ltb from i b))
          ]

pub ruleset testing = (testing-start, testing-on, testing-low, testing-high, testing-end)

-- `long_number`
module _ (l : List ℕ) (n i : ℕ) where
  long-on : (c m : ℕ) → i < length l → c ≡ byte_at l i → m ≡ long_digit n c → go (count m (i + 1)) ≡ long_step l (count n i)
  unfolding long_step
  long-on c m h p e = rw (← p, ← e) (search tests)

  long-end : length l ≤ i → stop n ≡ long_step l (count n i)
  unfolding long_step
  long-end h = search tests

pub record LongReading (l : List ℕ) (from n i : ℕ) : Type 0 where
  pub runs : Runs (long_step l) 0 (long_number l from) (count n i) (suc (length l - i))

pub long-reading-start : (l : List ℕ) (from : ℕ) → LongReading l from 0 from
unfolding long_number
long-reading-start l from = record { runs = runs-start _ _ _ _ _ (omega arith) }

module _ (l : List ℕ) (from n i : ℕ) where
  pub long-reading-on : (c m : ℕ) → LongReading l from n i → i < length l → c ≡ byte_at l i → m ≡ long_digit n c → LongReading l from m (i + 1)
  long-reading-on c m h g p e = record { runs = runs-go _ _ _ _ _ (length l - i) _ h.runs (sym (long-on l n i c m g p e)) (omega arith) }

  pub long-reading-end : LongReading l from n i → length l ≤ i → n ≡ long_number l from
  long-reading-end h g = runs-stop _ _ _ _ _ _ h.runs (sym (long-end l n i g))

pub ruleset long-reading = (long-reading-start, long-reading-on, long-reading-end)

-- `add_all`
next-drop : (s : List ℕ) (i : ℕ) → i < length s → drop i s ≡ get_or s i 0 ∷ drop (i + 1) s
next-drop s i h = drop-cons s i 0 h ∙ ap (λ (n : ℕ). get_or s i 0 ∷ drop n s) (sym (add-one i))

pub record Adding (l : List ℕ) (q : Source) (t : List ℕ) (n i : ℕ) : Type 0 where
  pub rest : add_all (drop i l) (source n t) ≡ add_all l q

pub adding-start : (l : List ℕ) (n : ℕ) (t : List ℕ) → Adding l (source n t) t n 0
adding-start l n t = record { rest = refl }

module _ (l : List ℕ) (q : Source) (t : List ℕ) (n i : ℕ) where
  pub adding-more : (c m : ℕ) (u : List ℕ) → Adding l q t n i → i < length l → c ≡ get_or l i 0 → source m u ≡ add_byte t n c → Adding l q u m (i + 1)
  unfolding add_all
  adding-more c m u h g p e =
      record {
        rest =
            ap (add_all (drop (i + 1) l)) (e ∙ ap (λ (x : ℕ). add_byte t n x) p)
            ∙ ap (λ (x : List ℕ). add_all x (source n t)) (sym (next-drop l i g))
            ∙ h.rest;
      }

  pub adding-done : Adding l q t n i → length l ≤ i → source n t ≡ add_all l q
  unfolding add_all
  adding-done h g = ap (λ (x : List ℕ). add_all x (source n t)) (sym (drop_of_length-le l g)) ∙ h.rest

pub ruleset adding = (adding-start, adding-more, adding-done)

-- `add_list`
pub record Listed (ws : List ℕ) (q : Source) (t : List ℕ) (n i : ℕ) : Type 0 where
  pub rest : add_all (list_bytes (drop i ws)) (source n t) ≡ add_all (list_bytes ws) q

pub listed_start : (ws : List ℕ) (n : ℕ) (t : List ℕ) → Listed ws (source n t) t n 0
listed_start ws n t = record { rest = refl }

list-next : (v : ℕ) (vs : List ℕ) (s₀ s₁ : Source) → s₁ ≡ add_all (field v) s₀ → add_all (list_bytes vs) s₁ ≡ add_all (list_bytes (v ∷ vs)) s₀
unfolding list_bytes
list-next v vs s₀ s₁ e = add-two (field v) (list_bytes vs) s₀ s₁ (add_all (list_bytes vs) s₁) e refl

list-none : (q : Source) → q ≡ add_all (list_bytes []) q
unfolding list_bytes add_all
list-none q = refl

module _ (ws : List ℕ) (q : Source) (t : List ℕ) (n i : ℕ) where
  pub listed_more : (v m : ℕ) (u : List ℕ) → Listed ws q t n i → i < length ws → v ≡ get_or ws i 0 → source m u ≡ add_all (field v) (source n t) → Listed ws q u m (i + 1)
  listed_more v m u h g p e =
      record {
        rest =
            list-next (get_or ws i 0) (drop (i + 1) ws) (source n t) (source m u) (e ∙ ap (λ (x : ℕ). add_all (field x) (source n t)) p)
            ∙ ap (λ (x : List ℕ). add_all (list_bytes x) (source n t)) (sym (next-drop ws i g))
            ∙ h.rest;
      }

  pub listed-done : Listed ws q t n i → length ws ≤ i → source n t ≡ add_all (list_bytes ws) q
  listed-done h g = list-none (source n t) ∙ ap (λ (x : List ℕ). add_all (list_bytes x) (source n t)) (sym (drop_of_length-le ws g)) ∙ h.rest

pub ruleset listed-words = (listed_start, listed_more, listed-done)

-- `plain_line`
pub record Lining (l : List ℕ) (fields : ℕ) (q : Source) (t : List ℕ) (n k : ℕ) : Type 0 where
  pub rest : add_all (fields_from l (fields - k) k) (source n t) ≡ add_all (fields_from l (fields - 1) 1) q

fields-none : (l : List ℕ) (k : ℕ) (q : Source) → q ≡ add_all (fields_from l 0 k) q
unfolding fields_from add_all
fields-none l k q = refl

fields-more : (l : List ℕ) (j k m n : ℕ) (t u : List ℕ) (z : Source) → source m u ≡ add_byte t n 32 → z ≡ add_all (field_bytes l k) (source m u)
    → add_all (fields_from l j (suc k)) z ≡ add_all (fields_from l (suc j) k) (source n t)
unfolding fields_from
fields-more l j k m n t u z e f =
    add-two (32 ∷ []) (field_bytes l k ++ fields_from l j (suc k)) (source n t) (source m u) (add_all (fields_from l j (suc k)) z) (add-one-byte n m 32 t u e)
    (add-two (field_bytes l k) (fields_from l j (suc k)) (source m u) z (add_all (fields_from l j (suc k)) z) f refl)

pub lining-start : (l : List ℕ) (fields n : ℕ) (t : List ℕ) → Lining l fields (source n t) t n 1
lining-start l fields n t = record { rest = refl }

module _ (l : List ℕ) (fields : ℕ) (q : Source) (t : List ℕ) (n k : ℕ) where
  pub lining-more : (m r : ℕ) (u v : List ℕ) → Lining l fields q t n k → k < fields → source m u ≡ add_byte t n 32 → source r v ≡ add_all (field_bytes l k) (source m u)
      → Lining l fields q v r (k + 1)
  lining-more m r u v h g e f =
      let j : fields - k ≡ suc (fields - (k + 1)) = omega arith in
      record {
        rest =
            ap (λ (i : ℕ). add_all (fields_from l (fields - (k + 1)) i) (source r v)) (add-one k)
            ∙ fields-more l (fields - (k + 1)) k m n t u (source r v) e f
            ∙ ap (λ (i : ℕ). add_all (fields_from l i k) (source n t)) (sym j)
            ∙ h.rest;
      }

  pub lining-done : (t₀ : List ℕ) → Lining l fields q t n k → fields ≤ k → fields ≡ count_fields l → q ≡ add_all (field_bytes l 0) (source 0 t₀) → source n t ≡ add_all (plain_bytes l) (source 0 t₀)
  unfolding plain_bytes
  lining-done t₀ h g p e =
      let j : fields - k ≡ 0 = omega arith in
      let r : source n t ≡ add_all (fields_from l (fields - 1) 1) q = fields-none l k (source n t) ∙ ap (λ (i : ℕ). add_all (fields_from l i k) (source n t)) (sym j) ∙ h.rest in
      add-two (field_bytes l 0) (fields_from l (fields - 1) 1) (source 0 t₀) q (source n t) e r
      ∙ ap (λ (i : ℕ). add_all (field_bytes l 0 ++ fields_from l (i - 1) 1) (source 0 t₀)) p

pub ruleset lining = (lining-start, lining-more, lining-done)

-- `add_words`, `add_bytes`
pub record Showing (s : List ℕ) (fields at : ℕ) (q : Source) (t : List ℕ) (n i k : ℕ) : Type 0 where
  pub rest : add_all (numbers_from s (fields - k) i) (source n t) ≡ add_all (numbers_from s (fields - 2) at) q

pub showing-start : (s : List ℕ) (fields at n : ℕ) (t : List ℕ) → Showing s fields at (source n t) t n at 2
showing-start s fields at n t = record { rest = refl }

module _ (s : List ℕ) (j i : ℕ) where
  numbers_more : i < length s → field (get_or s i 0) ++ numbers_from s j (suc i) ≡ numbers_from s (suc j) i
  unfolding numbers_from
  numbers_more h = sym (if_lt-yes _ _ h)

  numbers-past : length s ≤ i → none-word ≡ numbers_from s (suc j) i
  unfolding numbers_from
  numbers-past h = sym (if_lt-no _ _ h)

numbers-none : (s : List ℕ) (i : ℕ) (q : Source) → q ≡ add_all (numbers_from s 0 i) q
unfolding numbers_from add_all
numbers-none s i q = refl

module _ (s : List ℕ) (fields at : ℕ) (q : Source) (t : List ℕ) (n i k : ℕ) (h : Showing s fields at q t n i k) where
  pub showing-more : (v m : ℕ) (u : List ℕ) → k < fields → i < length s → v ≡ get_or s i 0 → source m u ≡ add_all (field v) (source n t) → Showing s fields at q u m (i + 1) (k + 1)
  showing-more v m u g b p e =
      let j : fields - k ≡ suc (fields - (k + 1)) = omega arith in
      let f : source m u ≡ add_all (field (get_or s i 0)) (source n t) = e ∙ ap (λ (x : ℕ). add_all (field x) (source n t)) p in
      record {
        rest =
            ap (λ (x : ℕ). add_all (numbers_from s (fields - (k + 1)) x) (source m u)) (add-one i)
            ∙ add-two (field (get_or s i 0)) (numbers_from s (fields - (k + 1)) (suc i)) (source n t) (source m u) (add_all (numbers_from s (fields - (k + 1)) (suc i)) (source m u)) f refl
            ∙ ap (λ (x : List ℕ). add_all x (source n t)) (numbers_more s (fields - (k + 1)) i b ∙ ap (λ (x : ℕ). numbers_from s x i) (sym j))
            ∙ h.rest;
      }

  past_is : (z : Source) → k < fields → length s ≤ i → z ≡ add_all none-word (source n t) → z ≡ add_all (numbers_from s (fields - 2) at) q
  past_is z g b e =
      let j : fields - k ≡ suc (fields - (k + 1)) = omega arith in
      e ∙ ap (λ (x : List ℕ). add_all x (source n t)) (numbers-past s (fields - (k + 1)) i b ∙ ap (λ (x : ℕ). numbers_from s x i) (sym j)) ∙ h.rest

  done-is : fields ≤ k → source n t ≡ add_all (numbers_from s (fields - 2) at) q
  done-is g =
      let j : fields - k ≡ 0 = omega arith in
      numbers-none s i (source n t) ∙ ap (λ (x : ℕ). add_all (numbers_from s x i) (source n t)) (sym j) ∙ h.rest

  module _ (l t₀ : List ℕ) (p : fields ≡ count_fields l) where
    behind-head : (word : List ℕ) (z : Source) → q ≡ add_all (counted_bytes word at) (source 0 t₀) → z ≡ add_all (numbers_from s (fields - 2) at) q
        → z ≡ add_all (counted_bytes word at ++ numbers_from s (count_fields l - 2) at) (source 0 t₀)
    behind-head word z e f =
        add-two (counted_bytes word at) (numbers_from s (fields - 2) at) (source 0 t₀) q z e f
        ∙ ap (λ (j : ℕ). add_all (counted_bytes word at ++ numbers_from s (j - 2) at) (source 0 t₀)) p

    module _ (e : q ≡ add_all (counted_bytes words-word at) (source 0 t₀)) where
      pub words-past : (z : Source) → k < fields → length s ≤ i → z ≡ add_all none-word (source n t) → z ≡ add_all (words_bytes l at s) (source 0 t₀)
      unfolding words_bytes
      words-past z g b f = behind-head words-word z e (past_is z g b f)

      pub words-done : fields ≤ k → source n t ≡ add_all (words_bytes l at s) (source 0 t₀)
      unfolding words_bytes
      words-done g = behind-head words-word (source n t) e (done-is g)

    module _ (e : q ≡ add_all (counted_bytes holds-word at) (source 0 t₀)) where
      pub holds-past : (z : Source) → k < fields → length s ≤ i → z ≡ add_all none-word (source n t) → z ≡ add_all (holds_bytes l at s) (source 0 t₀)
      unfolding holds_bytes
      holds-past z g b f = behind-head holds-word z e (past_is z g b f)

      pub holds-done : fields ≤ k → source n t ≡ add_all (holds_bytes l at s) (source 0 t₀)
      unfolding holds_bytes
      holds-done g = behind-head holds-word (source n t) e (done-is g)

pub ruleset shown-words = (words-past, words-done)

pub ruleset shown-bytes = (holds-past, holds-done)

-- `read_arguments`
pub record Listing (l w₀ w : List ℕ) (n : ℕ) : Type 0 where
  pub below : n ≤ 16
  pub runs : Runs (argument_step l (count_fields l)) (listed 17 w₀) (arguments_of l w₀) (listed n w) (suc (16 - n))

pub listing_start : (l w : List ℕ) → Listing l w w 0
unfolding arguments_of
listing_start l w = record { below = omega arith; runs = runs-start _ _ _ _ _ (omega arith) }

module _ (l w : List ℕ) (n fields : ℕ) (p : fields ≡ count_fields l) where
  module _ (g : n < 16) where
    argument-end : fields ≤ n + 2 → stop (listed n w) ≡ argument_step l (count_fields l) (listed n w)
    unfolding argument_step
    argument-end h = rw (← p) (search tests)

    argument-bad : (v : ℕ) → n + 2 < fields → v ≡ field_value l (n + 2) → no_number ≤ v → stop (listed 17 w) ≡ argument_step l (count_fields l) (listed n w)
    unfolding argument_step
    argument-bad v h e f = rw (← p, ← e) (search tests)

    argument-on : (v x : ℕ) → n + 2 < fields → v ≡ field_value l (n + 2) → v < no_number → x ≡ v % no_number
        → go (listed (n + 1) (set w n x)) ≡ argument_step l (count_fields l) (listed n w)
    unfolding argument_step
    argument-on v x h e f k = rw (← p, ← e, ← k) (search tests)

  arguments-over : 16 ≤ n → 18 < fields → stop (listed 17 w) ≡ argument_step l (count_fields l) (listed n w)
  unfolding argument_step
  arguments-over g h = rw (← p) (search tests)

  arguments-full : 16 ≤ n → fields ≤ 18 → stop (listed 16 w) ≡ argument_step l (count_fields l) (listed n w)
  unfolding argument_step
  arguments-full g h = rw (← p) (search tests)

module _ (l w₀ w : List ℕ) (n fields : ℕ) (h : Listing l w₀ w n) (p : fields ≡ count_fields l) where
  pub listing-end : n < 16 → fields ≤ n + 2 → listed n w ≡ arguments_of l w₀
  listing-end g e = runs-stop _ _ _ _ _ _ h.runs (sym (argument-end l w n fields p g e))

  pub listing-bad : (v : ℕ) → n < 16 → n + 2 < fields → v ≡ field_value l (n + 2) → no_number ≤ v → listed 17 w ≡ arguments_of l w₀
  listing-bad v g e f k = runs-stop _ _ _ _ _ _ h.runs (sym (argument-bad l w n fields p g v e f k))

  pub listing-more : (v x : ℕ) → n < 16 → n + 2 < fields → v ≡ field_value l (n + 2) → v < no_number → x ≡ v % no_number → Listing l w₀ (set w n x) (n + 1)
  listing-more v x g e f k z =
      record { below = omega arith; runs = runs-go _ _ _ _ _ (16 - n) _ h.runs (sym (argument-on l w n fields p g v x e f k z)) (omega arith) }

  pub listing-over : 16 ≤ n → 18 < fields → listed 17 w ≡ arguments_of l w₀
  listing-over g e = runs-stop _ _ _ _ _ _ h.runs (sym (arguments-over l w n fields p g e))

  pub listing_full : 16 ≤ n → fields ≤ 18 → listed 16 w ≡ arguments_of l w₀
  listing_full g e = runs-stop _ _ _ _ _ _ h.runs (sym (arguments-full l w n fields p g e))

pub ruleset listing = (listing_start, listing-end, listing-bad, listing-more, listing-over, listing_full)

-- `clear_stack`, `clear_memory`, `keep_stack`, `keep_memory`: what is stored within a list
cons-stored : (x : ℕ) (m : List ℕ) (a : ℕ) (ys : List ℕ) → store_from (x ∷ m) (suc a) ys ≡ x ∷ store_from m a ys
unfolding store_from
cons-stored x m a [] = refl
cons-stored x m a (y ∷ ys) = cons-stored x (set m a y) (suc a) ys

stored-within : (m ys : List ℕ) (a b : ℕ) → b ≡ a + length ys → b ≤ length m → store_from m a ys ≡ take a m ++ (ys ++ drop b m)
stored-within m ys zero b e h = front-stored m ys (omega arith) ∙ ap (λ (n : ℕ). ys ++ drop n m) (let f : length ys ≡ b = omega arith in f)
stored-within [] ys (suc a) b e h = absurd (omega arith)
stored-within (x ∷ m) ys (suc a) zero e h = absurd (omega arith)
stored-within (x ∷ m) ys (suc a) (suc b) e h =
    cons-stored x m a ys ∙ ap (λ (l : List ℕ). x ∷ l) (stored-within m ys a b (omega arith) (omega arith))

pub cleared : (size from : ℕ) (t z w : List ℕ) → from < size → size ≤ length t → z ≡ put_mid from (size - from) t w → w ≡ replicate (length (mid_of from (size - from) t)) 0
    → z ≡ store_from t from (replicate (size - from) 0)
cleared size from t z w h g f e =
    let l : size - from ≡ length (replicate (size - from) 0) = sym (length-replicate (size - from) 0) in
    let b : size ≡ from + length (replicate (size - from) 0) = omega arith in
    let s : from + (size - from) ≡ size = omega arith in
    let m : length (mid_of from (size - from) t) ≡ size - from = mid_len from size t g in
    let o : w ≡ replicate (size - from) 0 = e ∙ ap (λ (n : ℕ). replicate n 0) m in
    f ∙ put_mid-paste from (size - from) t w (replicate (size - from) 0) (size - from) o refl l
    ∙ paste_all t from (replicate (size - from) 0) (size - from) l
    ∙ ap (λ (n : ℕ). take from t ++ (replicate (size - from) 0 ++ drop n t)) s
    ∙ sym (stored-within t (replicate (size - from) 0) from size b g)

pub cleared-none : (size from : ℕ) (t : List ℕ) → size ≤ from → t ≡ store_from t from (replicate (size - from) 0)
unfolding store_from
cleared-none size from t h = let j : 0 ≡ size - from = omega arith in ap (λ (n : ℕ). store_from t from (replicate n 0)) j

pub kept : (size n : ℕ) (t : List ℕ) → n ≤ size → size + n ≤ length t → paste t size (drop 0 t) (n - 0) ≡ store_from t size (take n t)
kept size n t h g =
    let z : n - 0 ≡ n = omega arith in
    let e : size + n ≡ size + length (take n t) = omega (arith, length-take n t) in
    ap (λ (j : ℕ). paste t size t j) z ∙ append_assoc (take size t) (take n t) (drop (size + n) t) ∙ sym (stored-within t (take n t) size (size + n) e g)

-- `changed_word`, `changed_byte`
module _ (size : ℕ) (k : List ℕ) (n i : ℕ) where
  changed-on : i < n → i < size → get_or k i 0 ≡ get_or k (i + size) 0 → go (i + 1) ≡ changed_step size k n i
  unfolding changed_step
  changed-on h g e = search tests

  changed-here : i < n → i < size → (get_or k i 0 ≡ get_or k (i + size) 0 → ⊥) → stop i ≡ changed_step size k n i
  unfolding changed_step
  changed-here h g e = search tests

  changed-past : i < n → size ≤ i → stop n ≡ changed_step size k n i
  unfolding changed_step
  changed-past h g = search tests

  changed-end : n ≤ i → stop n ≡ changed_step size k n i
  unfolding changed_step
  changed-end h = search tests

pub record Changing (size : ℕ) (k : List ℕ) (n i : ℕ) : Type 0 where
  pub runs : Runs (changed_step size k n) n (changed_in size k n) i (suc (n - i))

pub changing-start : (size : ℕ) (k : List ℕ) (n : ℕ) → Changing size k n 0
unfolding changed_in
changing-start size k n = record { runs = runs-start _ _ _ _ _ (omega arith) }

module _ (size : ℕ) (k : List ℕ) (n i : ℕ) (h : Changing size k n i) where
  pub changing-on : i < n → i < size → get_or k i 0 ≡ get_or k (i + size) 0 → Changing size k n (i + 1)
  changing-on g b e = record { runs = runs-go _ _ _ _ _ (n - i) _ h.runs (sym (changed-on size k n i g b e)) (omega arith) }

  pub changing-here : i < n → i < size → (get_or k i 0 ≡ get_or k (i + size) 0 → ⊥) → i ≡ changed_in size k n
  changing-here g b e = runs-stop _ _ _ _ _ _ h.runs (sym (changed-here size k n i g b e))

  pub changing-past : i < n → size ≤ i → n ≡ changed_in size k n
  changing-past g b = runs-stop _ _ _ _ _ _ h.runs (sym (changed-past size k n i g b))

  pub changing-end : n ≤ i → n ≡ changed_in size k n
  changing-end g = runs-stop _ _ _ _ _ _ h.runs (sym (changed-end size k n i g))

pub ruleset changing = (changing-start, changing-on, changing-here, changing-past, changing-end)

-- `put_bytes`
module _ (l : List ℕ) (fields at n i f : ℕ) (m : List ℕ) (p : fields ≡ count_fields l) where
  module _ (g : f < fields) where
    store-none : n ≤ i → stop (stored false m) ≡ store_step l (count_fields l) at n (storing i f m)
    unfolding store_step
    store-none h = rw (← p) (search tests)

    module _ (h : i < n) where
      store-far : 65537 ≤ i → stop (stored false m) ≡ store_step l (count_fields l) at n (storing i f m)
      unfolding store_step
      store-far e = rw (← p) (search tests)

      store-large : (v : ℕ) → i < 65537 → v ≡ field_value l f → 255 < v → stop (stored false m) ≡ store_step l (count_fields l) at n (storing i f m)
      unfolding store_step
      store-large v e q k = rw (← p, ← q) (search tests)

      store-on : (v : ℕ) → i < 65537 → v ≡ field_value l f → v ≤ 255 → go (storing (i + 1) (f + 1) (set m i v)) ≡ store_step l (count_fields l) at n (storing i f m)
      unfolding store_step
      store-on v e q k = rw (← p, ← q) (search tests)

  store-end : fields ≤ f → stop (stored (ltb at i) m) ≡ store_step l (count_fields l) at n (storing i f m)
  unfolding store_step
  store-end g = rw (← p) (search tests)

pub record Bytes (l : List ℕ) (fields at n : ℕ) (m₀ m : List ℕ) (i f : ℕ) : Type 0 where
  pub runs : Runs (store_step l (count_fields l) at n) (stored false m₀) (bytes_stored l at n m₀) (storing i f m) (suc (fields - f))

pub bytes-start : (l : List ℕ) (fields at n : ℕ) (m : List ℕ) → fields ≡ count_fields l → Bytes l fields at n m m at 2
unfolding bytes_stored
bytes-start l fields at n m p = record { runs = runs-start _ _ _ _ _ (omega arith) }

module _ (l : List ℕ) (fields at n : ℕ) (m₀ m : List ℕ) (i f : ℕ) (h : Bytes l fields at n m₀ m i f) (p : fields ≡ count_fields l) where
  module _ (g : f < fields) where
    pub bytes-none : n ≤ i → stored false m ≡ bytes_stored l at n m₀
    bytes-none b = runs-stop _ _ _ _ _ _ h.runs (sym (store-none l fields at n i f m p g b))

    module _ (b : i < n) where
      pub bytes-far : 65537 ≤ i → stored false m ≡ bytes_stored l at n m₀
      bytes-far e = runs-stop _ _ _ _ _ _ h.runs (sym (store-far l fields at n i f m p g b e))

      pub bytes-large : (v : ℕ) → i < 65537 → v ≡ field_value l f → 255 < v → stored false m ≡ bytes_stored l at n m₀
      bytes-large v e q k = runs-stop _ _ _ _ _ _ h.runs (sym (store-large l fields at n i f m p g b v e q k))

      pub bytes_on : (v : ℕ) → i < 65537 → v ≡ field_value l f → v ≤ 255 → Bytes l fields at n m₀ (set m i v) (i + 1) (f + 1)
      bytes_on v e q k =
          record { runs = runs-go _ _ _ _ _ (fields - f) _ h.runs (sym (store-on l fields at n i f m p g b v e q k)) (omega arith) }

  pub bytes-end : fields ≤ f → stored (ltb at i) m ≡ bytes_stored l at n m₀
  bytes-end g = runs-stop _ _ _ _ _ _ h.runs (sym (store-end l fields at n i f m p g))

pub ruleset storing-bytes = (bytes-start, bytes-none, bytes-far, bytes-large, bytes_on, bytes-end)
