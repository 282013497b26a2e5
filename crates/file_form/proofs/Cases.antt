-- The ways through the functions on fields.
-- Assumes nothing.
use mathlib.Core.Path.{◌≡◌, refl, sym, ◌∙◌}
use mathlib.Core.Bool.{Bool, true, false}
use mathlib.Core.List.{List}
use native.Mathlib.Decide.{dec_le}
use native.Mathlib.Nat.{sub-zero}
use Prim.Native.Nat.{ℕ, zero, suc, ◌+◌, ◌-◌, ◌*◌, ◌<◌, ◌≤◌}
use native.Mathlib.Omega.{arith}
use lib.Dec.{eqb, leb}
use lib.ListN.{length, get_or, take, drop}
use borrow.Author.Tests.{leb-true, eq-eqb, ne_eqb, le-leb, lt-leb}
use Rattle.base_prelude.specs.Choice.{if_true, if_eq}
use Rattle.file_codec.specs.Fields.{size_at, behind_at, is_whole, body_at}
use Rattle.prog_tables.specs.Tests.{both}
use Rattle.prog_tables.proofs.Each.{both_left, both_right, both_false}
use Rattle.file_codec.specs.Words.{word_in}
use Rattle.file_codec.specs.Rows.{row_fits}
use Rattle.file_codec.specs.Labels.{label_fits}
use Rattle.file_codec.specs.Form.{field_good, behind_fields, statements_in, labels_in, data_in, is_long, counts_end, data_end, rows_end, labels_end, formed}
use Rattle.file_form.specs.Shape.{fits_of, place_of, is_within, form_of}
use Rattle.std.specs.Prelude.{Some, None}

pub size-made : (b : List ℕ) (at x y : ℕ) → x ≡ get_or b (at + 1) 0 → y ≡ get_or b (at + 2) 0 → x + 256 * y ≡ size_at b at
unfolding size_at
size-made b at x y p q = rw (p, q)

module _ (b : List ℕ) (at : ℕ) where
  pub whole-past : length b < at → false ≡ is_whole b at
  unfolding is_whole behind_at
  whole-past h = sym (lt-leb (at + 3 + size_at b at) (length b) (omega arith))

  pub whole-short : at ≤ length b → length b - at < 3 → false ≡ is_whole b at
  unfolding is_whole behind_at
  whole-short h p = sym (lt-leb (at + 3 + size_at b at) (length b) (omega arith))

  pub whole-there : (s : ℕ) → at ≤ length b → 3 ≤ length b - at → s ≡ size_at b at → leb s (length b - at - 3) ≡ is_whole b at
  unfolding is_whole behind_at
  whole-there s h p d =
      elim (dec_le s (length b - at - 3)) [
        | yes q ↦ le-leb s (length b - at - 3) q ∙ sym (le-leb (at + 3 + size_at b at) (length b) (omega arith))
        | no q ↦ lt-leb s (length b - at - 3) (omega arith) ∙ sym (lt-leb (at + 3 + size_at b at) (length b) (omega arith))
      ]

  pub whole-fits : is_whole b at ≡ true → at + 3 + size_at b at ≤ length b
  unfolding is_whole behind_at
  whole-fits h = leb-true (at + 3 + size_at b at) (length b) h

  pub whole-behind : is_whole b at ≡ true → behind_at b at ≤ length b
  unfolding is_whole
  whole-behind h = leb-true (behind_at b at) (length b) h

  pub behind-made : (s : ℕ) → s ≡ size_at b at → at + 3 + s ≡ behind_at b at
  unfolding behind_at
  behind-made s d = rw d

pub ruleset whole-ways = (whole-past, whole-short, whole-there)

-- ---- a field's bytes

module _ (tag long : ℕ) (x : List ℕ) where
  pub fits-row : (r : Bool) → tag ≡ 3 → r ≡ row_fits x → r ≡ fits_of tag long x
  unfolding fits_of if_eq
  fits-row r p d = rw (eq-eqb _ _ p) d

  pub fits-label : (r : Bool) → (tag ≡ 3 → ⊥) → tag ≡ 4 → r ≡ label_fits x → r ≡ fits_of tag long x
  unfolding fits_of if_eq
  fits-label r q p d = rw (ne_eqb _ _ q, eq-eqb _ _ p) d

  pub fits-long : (tag ≡ 3 → ⊥) → (tag ≡ 4 → ⊥) → eqb (length x) long ≡ fits_of tag long x
  unfolding fits_of if_eq is_long
  fits-long q p = rw (ne_eqb _ _ q, ne_eqb _ _ p)

pub ruleset fits-ways = (fits-row, fits-label, fits-long)

module _ (tag long : ℕ) (b : List ℕ) (at : ℕ) where
  pub good-tag : (x : ℕ) → x ≡ get_or b at 0 → (x ≡ tag → ⊥) → false ≡ field_good tag (fits_of tag long) b at
  unfolding field_good
  good-tag x d h = rw (← d, ne_eqb _ _ h)

  module _ (x : ℕ) (d : x ≡ get_or b at 0) (h : x ≡ tag) (v : Bool) (e : v ≡ is_whole b at) where
    pub good-body : (r : Bool) (y : List ℕ) → v ≡ true → y ≡ body_at b at → r ≡ fits_of tag long y → r ≡ field_good tag (fits_of tag long) b at
    unfolding field_good
    good-body r y p o q = rw (← d, eq-eqb _ _ h, ← e, p, ← o) q

    pub good-cut : v ≡ false → v ≡ field_good tag (fits_of tag long) b at
    unfolding field_good
    good-cut p = rw (← d, eq-eqb _ _ h, ← e, p)

pub ruleset good-ways = (good-tag, good-body, good-cut)

-- ---- fields one behind the other

module _ (tag : ℕ) (fits : List ℕ → Bool) (b : List ℕ) where
  pub good-whole : (at : ℕ) → field_good tag fits b at ≡ true → is_whole b at ≡ true
  unfolding field_good
  good-whole at h = both_left (is_whole b at) (fits (body_at b at)) (both_right (eqb (get_or b at 0) tag) (both (is_whole b at) (fits (body_at b at))) h)

  pub good-fits : (at : ℕ) → field_good tag fits b at ≡ true → fits (body_at b at) ≡ true
  unfolding field_good
  good-fits at h = both_right (is_whole b at) (fits (body_at b at)) (both_right (eqb (get_or b at 0) tag) (both (is_whole b at) (fits (body_at b at))) h)

  -- no field stands past the end
  pub past-bad : field_good tag fits b (suc (length b)) ≡ false
  unfolding field_good
  past-bad = rw (← whole-past b (suc (length b)) (omega arith)) (both_false (eqb (get_or b (suc (length b)) 0) tag))

  pub past-stays : (n : ℕ) → behind_fields tag fits b n (suc (length b)) ≡ suc (length b)
  unfolding behind_fields if_true
  past-stays zero = refl
  past-stays (suc n) = rw past-bad

  pub skip-good : (n at : ℕ) → field_good tag fits b at ≡ true → behind_fields tag fits b (suc n) at ≡ behind_fields tag fits b n (behind_at b at)
  unfolding behind_fields if_true
  skip-good n at h = rw h

  pub skip-bad : (n at : ℕ) → field_good tag fits b at ≡ false → behind_fields tag fits b (suc n) at ≡ suc (length b)
  unfolding behind_fields if_true
  skip-bad n at h = rw h

  -- where the walk stays in the file, its first field is good
  pub first_good : (n at : ℕ) → behind_fields tag fits b (suc n) at ≤ length b → field_good tag fits b at ≡ true
  first_good n at h = split (field_good tag fits b at) refl
    where
      split : (g : Bool) → field_good tag fits b at ≡ g → field_good tag fits b at ≡ true
      split true d = d
      split false d = absurd (let z = skip-bad n at d in omega (arith, h, z))

  -- the loop of `skip`: what is left gives the whole
  pub record Skipping (n at i p : ℕ) : Type 0 where
    pub below : i ≤ n
    pub within : p ≤ length b
    pub rest : behind_fields tag fits b (n - i) p ≡ behind_fields tag fits b n at

  pub skip-start : (n at : ℕ) → at ≤ length b → Skipping n at 0 at
  skip-start n at h = record { below = omega arith; within = h; rest = rw (sub-zero n) }

  module _ (n at i p : ℕ) (h : Skipping n at i p) where
    pub skip-more : (v : Bool) (q : ℕ) → i < n → v ≡ field_good tag fits b p → v ≡ true → q ≡ behind_at b p → Skipping n at (i + 1) q
    skip-more v q l d e r =
        let g : field_good tag fits b p ≡ true = sym d ∙ e in
        let z : n - i ≡ suc (n - (i + 1)) = omega arith in
        record {
          below = omega arith;
          within = rw r (whole-behind b p (good-whole p g));
          rest = rw r (sym (skip-good (n - (i + 1)) p g) ∙ (rw z at h.rest));
        }

    pub skip-not : (v : Bool) → i < n → v ≡ field_good tag fits b p → v ≡ false → suc (length b) ≡ behind_fields tag fits b n at
    skip-not v l d e =
        let z : n - i ≡ suc (n - (i + 1)) = omega arith in
        sym (skip-bad (n - (i + 1)) p (sym d ∙ e)) ∙ (rw z at h.rest)

    pub skip-done : n ≤ i → p ≡ behind_fields tag fits b n at
    unfolding behind_fields
    skip-done l = let z : n - i ≡ 0 = omega arith in rw z at h.rest

pub ruleset skipping = (skip-start, skip-more)

-- what `skip` gives
module _ (tag : ℕ) (fits : List ℕ → Bool) (b : List ℕ) (n at i p : ℕ) (h : Skipping tag fits b n at i p) where
  pub ends_at : n ≤ i → place_of (length b) (Some p) ≡ behind_fields tag fits b n at
  unfolding place_of
  ends_at l = skip-done tag fits b n at i p h l

  pub ends_nowhere : (v : Bool) → i < n → v ≡ field_good tag fits b p → v ≡ false → place_of (length b) None ≡ behind_fields tag fits b n at
  unfolding place_of
  ends_nowhere v l d e = skip-not tag fits b n at i p h v l d e

  pub within-at : is_within (length b) (Some p) ≡ true
  unfolding is_within
  within-at = le-leb p (length b) h.within

pub within-nowhere : (n : ℕ) → is_within n None ≡ true
unfolding is_within
within-nowhere n = refl

-- ---- the parts of a file

module _ (b : List ℕ) where
  pub at_place : (p x : ℕ) → place_of (length b) (Some p) ≡ x → p ≡ x
  unfolding place_of
  at_place p x d = d

  pub at-within : (p : ℕ) → is_within (length b) (Some p) ≡ true → p ≤ length b
  unfolding is_within
  at-within p d = leb-true p (length b) d

  nowhere-place : (x : ℕ) → place_of (length b) None ≡ x → x ≡ suc (length b)
  unfolding place_of
  nowhere-place x d = sym d

  bad-end : labels_end b ≡ suc (length b) → None ≡ form_of b
  unfolding form_of formed if_true
  bad-end e = rw (e, ne_eqb (suc (length b)) (length b) (λ q. omega arith))

  pub counts-nowhere : place_of (length b) None ≡ behind_fields 1 (fits_of 1 12) b 1 0 → None ≡ form_of b
  unfolding counts_end data_end rows_end labels_end fits_of if_eq
  counts-nowhere d =
      let z : counts_end b ≡ suc (length b) = nowhere-place (counts_end b) d in
      bad-end (rw (z, past-stays 2 (is_long (data_in b)) b 1, past-stays 3 row_fits b (statements_in b)) (past-stays 4 label_fits b (labels_in b)))

  pub data-nowhere : (n at : ℕ) → n ≡ word_in (body_at b 0) 8 → at ≡ counts_end b → place_of (length b) None ≡ behind_fields 2 (fits_of 2 n) b 1 at → None ≡ form_of b
  unfolding data_end rows_end labels_end fits_of if_eq data_in
  data-nowhere n at p q d =
      let z : data_end b ≡ suc (length b) = nowhere-place (data_end b) (d ∙ rw (p, q)) in
      bad-end (rw (z, past-stays 3 row_fits b (statements_in b)) (past-stays 4 label_fits b (labels_in b)))

  pub rows-nowhere : (n at : ℕ) → n ≡ statements_in b → at ≡ data_end b → place_of (length b) None ≡ behind_fields 3 (fits_of 3 0) b n at → None ≡ form_of b
  unfolding rows_end labels_end fits_of if_eq
  rows-nowhere n at p q d =
      let z : rows_end b ≡ suc (length b) = nowhere-place (rows_end b) (d ∙ rw (p, q)) in
      bad-end (rw z (past-stays 4 label_fits b (labels_in b)))

  pub labels-nowhere : (n at : ℕ) → n ≡ labels_in b → at ≡ rows_end b → place_of (length b) None ≡ behind_fields 4 (fits_of 4 0) b n at → None ≡ form_of b
  unfolding labels_end fits_of if_eq
  labels-nowhere n at p q d = bad-end (nowhere-place (labels_end b) (d ∙ rw (p, q)))

module _ (b : List ℕ) where
  pub counts-at : (p : ℕ) → p ≡ behind_fields 1 (fits_of 1 12) b 1 0 → p ≡ counts_end b
  unfolding counts_end fits_of if_eq
  counts-at p d = d

  pub data-at : (n at p : ℕ) → n ≡ data_in b → at ≡ counts_end b → p ≡ behind_fields 2 (fits_of 2 n) b 1 at → p ≡ data_end b
  unfolding data_end fits_of if_eq
  data-at n at p q e d = d ∙ rw (q, e)

  pub rows_at : (n at p : ℕ) → n ≡ statements_in b → at ≡ data_end b → p ≡ behind_fields 3 (fits_of 3 0) b n at → p ≡ rows_end b
  unfolding rows_end fits_of if_eq
  rows_at n at p q e d = d ∙ rw (q, e)

  labels_at : (n at p : ℕ) → n ≡ labels_in b → at ≡ rows_end b → p ≡ behind_fields 4 (fits_of 4 0) b n at → p ≡ labels_end b
  unfolding labels_end fits_of if_eq
  labels_at n at p q e d = d ∙ rw (q, e)

  module _ (c l d rows at end : ℕ) (pc : c ≡ statements_in b) (pl : l ≡ labels_in b) (pd : d ≡ data_in b) (pr : rows ≡ data_end b) (pa : at ≡ rows_end b)
      (g : place_of (length b) (Some end) ≡ behind_fields 4 (fits_of 4 0) b l at) where
    the_end : end ≡ labels_end b
    the_end = labels_at l at end pl pa (at_place b end (behind_fields 4 (fits_of 4 0) b l at) g)

    pub form-good : end ≡ length b → Some (record { statements = c; labels = l; size = d; rows = rows; names = at }) ≡ form_of b
    unfolding form_of formed if_true
    form-good h = rw (eq-eqb (labels_end b) (length b) (sym the_end ∙ h), pc, pl, pd, pr, pa)

    pub form-surplus : (end ≡ length b → ⊥) → None ≡ form_of b
    unfolding form_of formed if_true
    form-surplus h = rw (ne_eqb (labels_end b) (length b) (λ q. h (the_end ∙ q)))

  counts-good : (at : ℕ) → at ≡ counts_end b → at ≤ length b → field_good 1 (is_long 12) b 0 ≡ true
  unfolding counts_end
  counts-good at e h = first_good 1 (is_long 12) b 0 0 (rw e at h)

  pub counts_whole : (at : ℕ) → at ≡ counts_end b → at ≤ length b → is_whole b 0 ≡ true
  counts_whole at e h = good-whole 1 (is_long 12) b 0 (counts-good at e h)

  pub count-statements : (c : ℕ) → c ≡ word_in (body_at b 0) 0 → c ≡ statements_in b
  unfolding statements_in
  count-statements c d = d

  pub count-labels : (c : ℕ) → c ≡ word_in (body_at b 0) 4 → c ≡ labels_in b
  unfolding labels_in
  count-labels c d = d

  pub count-data : (c : ℕ) → c ≡ word_in (body_at b 0) 8 → c ≡ data_in b
  unfolding data_in
  count-data c d = d

-- ---- a field's bytes as a part of the file

pub body-cut : (b : List ℕ) (at s : ℕ) → s ≡ size_at b at → take (at + 3 + s - (at + 3)) (drop (at + 3) b) ≡ body_at b at
unfolding body_at
body-cut b at s d = let z : at + 3 + s - (at + 3) ≡ size_at b at = omega arith in rw z

pub whole-fits-by : (b : List ℕ) (at : ℕ) (v : Bool) → v ≡ is_whole b at → v ≡ true → at + 3 + size_at b at ≤ length b
whole-fits-by b at v d h = whole-fits b at (sym d ∙ h)

pub good-fits-by : (tag : ℕ) (fits : List ℕ → Bool) (b : List ℕ) (at : ℕ) (v : Bool) → v ≡ field_good tag fits b at → v ≡ true → at + 3 + size_at b at ≤ length b
good-fits-by tag fits b at v d h = whole-fits b at (good-whole tag fits b at (sym d ∙ h))

pub counts-fit : (b : List ℕ) (at : ℕ) → at ≡ counts_end b → at ≤ length b → 3 + size_at b 0 ≤ length b
counts-fit b at e h = whole-fits b 0 (counts_whole b at e h)

-- ---- what each part owes the next

module _ (b : List ℕ) (end : ℕ) where
  pub counts-place : place_of (length b) (Some end) ≡ behind_fields 1 (fits_of 1 12) b 1 0 → end ≡ counts_end b
  counts-place g = counts-at b end (at_place b end (behind_fields 1 (fits_of 1 12) b 1 0) g)

  pub data-place : (d at : ℕ) → d ≡ word_in (body_at b 0) 8 → at ≡ counts_end b → place_of (length b) (Some end) ≡ behind_fields 2 (fits_of 2 d) b 1 at → end ≡ data_end b
  data-place d at pd pa g = data-at b d at end (count-data b d pd) pa (at_place b end (behind_fields 2 (fits_of 2 d) b 1 at) g)

  pub rows-place : (c at : ℕ) → c ≡ statements_in b → at ≡ data_end b → place_of (length b) (Some end) ≡ behind_fields 3 (fits_of 3 0) b c at → end ≡ rows_end b
  rows-place c at pc pa g = rows_at b c at end pc pa (at_place b end (behind_fields 3 (fits_of 3 0) b c at) g)

pub ruleset places = (counts-place, data-place, rows-place, at-within, count-statements, count-labels, count-data)

pub ruleset form-ways = (counts-nowhere, data-nowhere, rows-nowhere, labels-nowhere, form-good, form-surplus)
