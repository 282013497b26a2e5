-- One law for each way through a function without a loop.
-- Assumes nothing.
use Rattle.std.proofs.Common.{◌≡◌, ℕ, ◌+◌, ◌-◌, ◌<◌, ◌≤◌, Bool, true, false, List, length, take, drop, ap, ◌∙◌, arith, length-drop, take_all}
use Rattle.base_prelude.specs.Bytes.{byte_at}
use Rattle.base_prelude.proofs.Choice.{tests}
use Rattle.test_lines.specs.Lines.{is_comment, starts_with}
use Rattle.test_lines.specs.Fields.{no_number, field_start, with_digit, number_from, number_at, field_of}
use Rattle.test_lines.specs.Sources.{hex_of, hex_byte, text_byte, Source, source, full, add_byte, add_text, add_times, add_line, text-word, line_word, times-word, is_source, add_source}

module _ (l : List ℕ) where
  pub comment-empty : length l ≡ 0 → true ≡ is_comment l
  unfolding is_comment
  comment-empty h = search tests

  module _ (c : ℕ) (h : length l ≡ 0 → ⊥) (p : c ≡ byte_at l 0) where
    pub comment-yes : c ≡ 59 → true ≡ is_comment l
    unfolding is_comment
    comment-yes e = rw (← p) (search tests)

    pub comment-no : (c ≡ 59 → ⊥) → false ≡ is_comment l
    unfolding is_comment
    comment-no e = rw (← p) (search tests)

pub ruleset comments = (comment-empty, comment-yes, comment-no)

-- a word at a place
pub stands_at : (t word : List ℕ) (i : ℕ) (r : Bool) → r ≡ starts_with (take (length t - i) (drop i t)) word → r ≡ starts_with (drop i t) word
stands_at t word i r e =
    e ∙ ap (λ (l : List ℕ). starts_with l word) (take_all (length t - i) (drop i t) (omega (arith, length-drop i t)))

module _ (l : List ℕ) (at c : ℕ) (p : c ≡ byte_at l at) where
  pub number-none : 57 < c → no_number ≡ number_at l at
  unfolding number_at
  number-none h = rw (← p) (search tests)

  pub number-some : (d r : ℕ) → c ≤ 57 → d ≡ with_digit 0 c → r ≡ number_from l (at + 1) d → r ≡ number_at l at
  unfolding number_at
  number-some d r h q e = rw (← p, ← q, ← e) (search tests)

pub ruleset numbers = (number-none, number-some)

module _ (l : List ℕ) (i c : ℕ) (p : c ≡ byte_at l i) where
  pub byte-hex : (a b x y r : ℕ) → c ≡ 126 → a ≡ byte_at l (i + 1) → x ≡ hex_of a → b ≡ byte_at l (i + 2) → y ≡ hex_of b → r ≡ hex_byte x y → r ≡ text_byte l i
  unfolding text_byte
  byte-hex a b x y r e q f g h k = rw (← p, ← q, ← f, ← g, ← h, ← k) (search tests)

  pub byte-plain : (c ≡ 126 → ⊥) → c ≡ text_byte l i
  unfolding text_byte
  byte-plain e = rw (← p) (search tests)

pub ruleset bytes = (byte-hex, byte-plain)

pub line_added : (l : List ℕ) (from n r : ℕ) (t u : List ℕ) (q : Source) → source n t ≡ add_text l from q → source r u ≡ add_byte t n 10 → source r u ≡ add_line l from q
unfolding add_line
line_added l from n r t u q e f = f ∙ ap (λ (z : Source). add_byte z.text z.size 10) e

module _ (l : List ℕ) (a : Bool) (p : a ≡ starts_with l text-word) where
  pub is-text : a ≡ true → true ≡ is_source l
  unfolding is_source
  is-text e = rw (← p) (search tests)

  pub add-as-text : (q z : Source) → a ≡ true → z ≡ add_text l 5 q → z ≡ add_source l q
  unfolding add_source
  add-as-text q z e f = rw (← p, ← f) (search tests)

  module _ (n : a ≡ false) (b : Bool) (p' : b ≡ starts_with l line_word) where
    pub is-line : b ≡ true → true ≡ is_source l
    unfolding is_source
    is-line e = rw (← p, ← p') (search tests)

    pub is-times : (r : Bool) → b ≡ false → r ≡ starts_with l times-word → r ≡ is_source l
    unfolding is_source
    is-times r e f = rw (← p, ← p', ← f) (search tests)

    pub add-as-line : (q z : Source) → b ≡ true → z ≡ add_line l 5 q → z ≡ add_source l q
    unfolding add_source
    add-as-line q z e f = rw (← p, ← p', ← f) (search tests)

    pub add-too-often : (k m : ℕ) (t : List ℕ) → b ≡ false → k ≡ field_of l 1 → 16400 < k → source full t ≡ add_source l (source m t)
    unfolding add_source
    add-too-often k m t e f h = rw (← p, ← p', ← f) (search tests)

    pub add-as-times : (k i : ℕ) (q z : Source) → b ≡ false → k ≡ field_of l 1 → k ≤ 16400 → i ≡ field_start l 2 → z ≡ add_times l i k q → z ≡ add_source l q
    unfolding add_source
    add-as-times k i q z e f h g m = rw (← p, ← p', ← f, ← g, ← m) (search tests)

pub ruleset kinds = (is-text, is-line, is-times)

pub ruleset adds = (add-as-text, add-as-line, add-too-often, add-as-times)
