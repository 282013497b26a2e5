-- The loops: what is left gives the whole answer; of a row, what was written is the words below j.
-- Assumes nothing.
use mathlib.Core.Path.{◌≡◌, refl, sym, ◌∙◌, ap}
use mathlib.Core.List.{List, [], ◌++◌}
use Prim.Native.Nat.{ℕ, suc, ◌+◌, ◌*◌, ◌-◌, ◌≤◌, ◌<◌}
use native.Mathlib.Numerals.{add-one}
use native.Mathlib.Omega.{arith}
use lib.ListN.{length, get_or}
use Rattle.base_prelude.specs.Choice.{if_true}
use Rattle.base_word.specs.Bytes.{word_bytes}
use Rattle.prog_tables.specs.Label.{label_at}
use Rattle.app_page.specs.Sheet.{sheet, put}
use Rattle.app_page.proofs.Cases.{put-append, put_two, put-long, put-none}
use Rattle.file_codec.specs.Fields.{field_of}
use Rattle.file_codec.specs.Rows.{uses, packed, packed_below, word_of}
use Rattle.file_codec.specs.Labels.{label_bytes}
use Rattle.file_codec.specs.File.{row_fields, label_fields}

-- ---- the used words of a row

pub record Packing (t : List ℕ) (n k e m at : ℕ) (out₀ out : List ℕ) (to j : ℕ) : Type 0 where
  pub within : j ≤ 27
  pub few : to ≤ at + 4 * j
  pub long : length out ≡ length out₀
  pub kind : k ≡ get_or t (n * 27 + 0) 0
  pub expression : e ≡ get_or t (n * 27 + 6) 0
  pub count : m ≡ get_or t (n * 27 + 8) 0
  pub done : sheet to out ≡ put (packed_below (uses k e m) (word_of t n) j) (sheet at out₀)

module _ (t : List ℕ) (n k e m at : ℕ) (out₀ : List ℕ) where
  none-packed : packed_below (uses k e m) (word_of t n) 0 ≡ []
  unfolding packed_below
  none-packed = refl

  pub packing-start : k ≡ get_or t (n * 27 + 0) 0 → e ≡ get_or t (n * 27 + 6) 0 → m ≡ get_or t (n * 27 + 8) 0 → Packing t n k e m at out₀ out₀ at 0
  packing-start p q o =
      record {
        within = omega arith;
        few = omega arith;
        long = refl;
        kind = p;
        expression = q;
        count = o;
        done = put-none (sheet at out₀) ∙ ap (λ (x : List ℕ). put x (sheet at out₀)) (sym none-packed);
      }

  module _ (out : List ℕ) (to j : ℕ) (h : Packing t n k e m at out₀ out to j) where
    more-packed : packed_below (uses k e m) (word_of t n) (j + 1) ≡ packed_below (uses k e m) (word_of t n) j ++ if_true (uses k e m j) (word_bytes 4 (word_of t n j)) []
    unfolding packed_below
    more-packed = ap (packed_below (uses k e m) (word_of t n)) (add-one j)

    pub packing-more : (to' : ℕ) (out' : List ℕ) → j < 27
        → sheet to' out' ≡ put (if_true (uses k e m j) (word_bytes 4 (word_of t n j)) []) (sheet to out) → to' ≤ to + 4
        → Packing t n k e m at out₀ out' to' (j + 1)
    packing-more to' out' l f g =
        record {
          within = omega arith;
          few = omega (arith, h.few);
          long = put-long (if_true (uses k e m j) (word_bytes 4 (word_of t n j)) []) (sheet to out) (sheet to' out') f ∙ h.long;
          kind = h.kind;
          expression = h.expression;
          count = h.count;
          done =
              put_two (packed_below (uses k e m) (word_of t n) j) (if_true (uses k e m j) (word_bytes 4 (word_of t n j)) []) (sheet at out₀) (sheet to out)
              (sheet to' out') h.done f
              ∙ ap (λ (x : List ℕ). put x (sheet at out₀)) (sym more-packed);
        }

    pub packing-done : 27 ≤ j → sheet to out ≡ put (packed (word_of t n)) (sheet at out₀)
    unfolding packed
    packing-done l =
        let z : j ≡ 27 = omega (arith, h.within) in
        h.done
        ∙ ap (λ (i : ℕ). put (packed_below (uses k e m) (word_of t n) i) (sheet at out₀)) z
        ∙ ap (λ (i : ℕ). put (packed_below (uses i e m) (word_of t n) 27) (sheet at out₀)) h.kind
        ∙ ap (λ (i : ℕ). put (packed_below (uses (word_of t n 0) i m) (word_of t n) 27) (sheet at out₀)) h.expression
        ∙ ap (λ (i : ℕ). put (packed_below (uses (word_of t n 0) (word_of t n 6) i) (word_of t n) 27) (sheet at out₀)) h.count

pub ruleset packing = (packing-start, packing-more, packing-done)

-- ---- fields of rows, those of f (i), f (i + 1), ..: each at most w bytes

pub record Listing (all : ℕ → ℕ → List ℕ) (w count at : ℕ) (out₀ out : List ℕ) (to i : ℕ) : Type 0 where
  pub within : i ≤ count
  pub few : to ≤ at + w * i
  pub long : length out ≡ length out₀
  pub rest : put (all (count - i) i) (sheet to out) ≡ put (all count 0) (sheet at out₀)

module _ (all : ℕ → ℕ → List ℕ) (one : ℕ → List ℕ) (w count at : ℕ) (out₀ : List ℕ) where
  listing_start : Listing all w count at out₀ out₀ at 0
  listing_start =
      let z : count - 0 ≡ count = omega arith in
      record { within = omega arith; few = omega arith; long = refl; rest = ap (λ (n : ℕ). put (all n 0) (sheet at out₀)) z }

  module _ (out : List ℕ) (to i : ℕ) (h : Listing all w count at out₀ out to i) where
    listing-more : (to' : ℕ) (out' : List ℕ) → ((n j : ℕ) → all (suc n) j ≡ one j ++ all n (suc j)) → i < count → sheet to' out' ≡ put (one i) (sheet to out)
        → to' ≤ at + w * (i + 1) → Listing all w count at out₀ out' to' (i + 1)
    listing-more to' out' step l f g =
        let q : count - i ≡ suc (count - (i + 1)) = omega arith in
        record {
          within = omega arith;
          few = g;
          long = put-long (one i) (sheet to out) (sheet to' out') f ∙ h.long;
          rest =
              ap (put (all (count - (i + 1)) (i + 1))) f
              ∙ sym (put-append (one i) (all (count - (i + 1)) (i + 1)) (sheet to out))
              ∙ ap (λ (n : ℕ). put (one i ++ all (count - (i + 1)) n) (sheet to out)) (add-one i)
              ∙ ap (λ (x : List ℕ). put x (sheet to out)) (sym (ap (λ (n : ℕ). all n i) q ∙ step (count - (i + 1)) i))
              ∙ h.rest;
        }

    listing-done : ((j : ℕ) → all 0 j ≡ []) → count ≤ i → sheet to out ≡ put (all count 0) (sheet at out₀)
    listing-done none l =
        let q : count - i ≡ 0 = omega arith in
        put-none (sheet to out) ∙ ap (λ (x : List ℕ). put x (sheet to out)) (sym (ap (λ (n : ℕ). all n i) q ∙ none i)) ∙ h.rest

-- statement rows
module _ (t : List ℕ) (count at : ℕ) (out₀ : List ℕ) where
  rows_step : (n j : ℕ) → row_fields t (suc n) j ≡ field_of 3 (packed (word_of t j)) ++ row_fields t n (suc j)
  unfolding row_fields
  rows_step n j = refl

  rows_none : (j : ℕ) → row_fields t 0 j ≡ []
  unfolding row_fields
  rows_none j = refl

  pub rows_start : Listing (row_fields t) 111 count at out₀ out₀ at 0
  rows_start = listing_start (row_fields t) (λ j. field_of 3 (packed (word_of t j))) 111 count at out₀

  module _ (out : List ℕ) (to i : ℕ) (h : Listing (row_fields t) 111 count at out₀ out to i) where
    pub rows_more : (to' : ℕ) (out' : List ℕ) → i < count → sheet to' out' ≡ put (field_of 3 (packed (word_of t i))) (sheet to out) → to' ≤ to + 111
        → Listing (row_fields t) 111 count at out₀ out' to' (i + 1)
    rows_more to' out' l f g =
        listing-more (row_fields t) (λ j. field_of 3 (packed (word_of t j))) 111 count at out₀ out to i h to' out' rows_step l f (omega (arith, h.few))

    pub rows-done : count ≤ i → sheet to out ≡ put (row_fields t count 0) (sheet at out₀)
    rows-done l = listing-done (row_fields t) (λ j. field_of 3 (packed (word_of t j))) 111 count at out₀ out to i h rows_none l

    pub rows-near : count < 4294967296 → to ≤ at + 476741369856
    rows-near l = omega (arith, h.few, h.within)

pub ruleset listing-rows = (rows_start, rows_more, rows-done)

-- label rows
module _ (l names : List ℕ) (count at : ℕ) (out₀ : List ℕ) where
  labels-step : (n j : ℕ) → label_fields l names (suc n) j ≡ field_of 4 (label_bytes (label_at l names j)) ++ label_fields l names n (suc j)
  unfolding label_fields
  labels-step n j = refl

  labels-none : (j : ℕ) → label_fields l names 0 j ≡ []
  unfolding label_fields
  labels-none j = refl

  pub labels-start : Listing (label_fields l names) 4294967311 count at out₀ out₀ at 0
  labels-start = listing_start (label_fields l names) (λ j. field_of 4 (label_bytes (label_at l names j))) 4294967311 count at out₀

  module _ (out : List ℕ) (to i : ℕ) (h : Listing (label_fields l names) 4294967311 count at out₀ out to i) where
    pub labels-more : (to' : ℕ) (out' : List ℕ) → i < count → sheet to' out' ≡ put (field_of 4 (label_bytes (label_at l names i))) (sheet to out)
        → to' ≤ to + 4294967311 → Listing (label_fields l names) 4294967311 count at out₀ out' to' (i + 1)
    labels-more to' out' g f p =
        listing-more (label_fields l names) (λ j. field_of 4 (label_bytes (label_at l names j))) 4294967311 count at out₀ out to i h to' out' labels-step g f
        (omega (arith, h.few))

    pub labels-done : count ≤ i → sheet to out ≡ put (label_fields l names count 0) (sheet at out₀)
    labels-done g = listing-done (label_fields l names) (λ j. field_of 4 (label_bytes (label_at l names j))) 4294967311 count at out₀ out to i h labels-none g

pub ruleset listing-labels = (labels-start, labels-more, labels-done)
