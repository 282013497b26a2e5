-- The ways through the functions that unpack rows: what is left to write gives the whole.
-- Assumes nothing.
use mathlib.Core.Path.{◌≡◌, refl, sym, ◌∙◌, ap}
use mathlib.Core.Bool.{Bool, true, false}
use mathlib.Core.List.{List, ◌∷◌}
use Prim.Native.Nat.{ℕ, zero, suc, ◌+◌, ◌-◌, ◌*◌, ◌<◌, ◌≤◌}
use native.Mathlib.Nat.{sub-zero, zero-mul, suc-mul}
use native.Mathlib.Numerals.{add-one}
use native.Mathlib.Omega.{arith}
use lib.ListN.{length, get_or, set, length-set}
use lib.Seq.{get_or-drop}
use Rattle.base_prelude.specs.Choice.{pick}
use Rattle.base_prelude.proofs.Choice.{if_true-yes, if_true-no, if_eq-yes, if_eq-no}
use Rattle.prog_tables.specs.Tests.{count_below}
use Rattle.vm_definitions.specs.Access.{store_from}
use Rattle.vm_memory.proofs.Cases.{store-next, store-append}
use Rattle.file_codec.specs.Words.{word_in, listed}
use Rattle.file_codec.specs.Fields.{size_at, behind_at, body_at}
use Rattle.file_codec.specs.Rows.{uses, unpacked_at, kind_in, expr_in, count_in, uses_in, unpacked}
use Rattle.file_codec.specs.Labels.{label_head, label_kind_in, name_in, name_size, arguments_in, label_words_in, name_slot}
use Rattle.file_codec.specs.Form.{field_good, behind_fields}
use Rattle.file_codec.specs.Tables.{each_field}
use Rattle.file_codec.proofs.Counts.{count-more}
use Rattle.file_form.proofs.Cases.{first_good, skip-good, good-whole, whole-fits}

pub listed-length : (g : ℕ → ℕ) (n j : ℕ) → length (listed g n j) ≡ n
unfolding listed
listed-length g zero j = refl
listed-length g (suc n) j = ap suc (listed-length g n (suc j))

-- the loop over the numbers from 0 on, to n
pub record Listing (g : ℕ → ℕ) (n : ℕ) (l₀ : List ℕ) (at : ℕ) (l : List ℕ) (j : ℕ) : Type 0 where
  pub within : j ≤ n
  pub long : length l ≡ length l₀
  pub rest : store_from l (at + j) (listed g (n - j) j) ≡ store_from l₀ at (listed g n 0)

pub listing_start : (g : ℕ → ℕ) (n : ℕ) (l : List ℕ) (at : ℕ) → Listing g n l at l 0
listing_start g n l at =
    let z : at + 0 ≡ at = omega arith in record { within = omega arith; long = refl; rest = rw (z, sub-zero n) }

module _ (g : ℕ → ℕ) (n : ℕ) (l₀ : List ℕ) (at : ℕ) (l : List ℕ) (j : ℕ) (h : Listing g n l₀ at l j) where
  pub listing-more : (v : ℕ) → j < n → v ≡ g j → Listing g n l₀ at (set l (at + j) v) (j + 1)
  unfolding listed
  listing-more v p e =
      let z : n - j ≡ suc (n - (j + 1)) = omega arith in
      let y : at + (j + 1) ≡ at + j + 1 = omega arith in
      record {
        within = omega arith;
        long = length-set l (at + j) v ∙ h.long;
        rest =
            ap (λ (m : ℕ). store_from (set l (at + j) v) m (listed g (n - (j + 1)) (j + 1))) y
            ∙ sym (store-next l (at + j) v (listed g (n - (j + 1)) (j + 1)))
            ∙ ap (λ (x : ℕ). store_from l (at + j) (x ∷ listed g (n - (j + 1)) (j + 1))) e
            ∙ ap (λ (m : ℕ). store_from l (at + j) (g j ∷ listed g (n - (j + 1)) m)) (add-one j)
            ∙ ap (λ (m : ℕ). store_from l (at + j) (listed g m j)) (sym z)
            ∙ h.rest;
      }

  pub listing-done : n ≤ j → l ≡ store_from l₀ at (listed g n 0)
  unfolding listed store_from
  listing-done p = let z : n - j ≡ 0 = omega arith in rw z at h.rest

-- ---- the words of a row

module _ (k e n : ℕ) (x : List ℕ) where
  pub record Unpacking (t₀ : List ℕ) (at : ℕ) (t : List ℕ) (p j : ℕ) : Type 0 where
    pub words : Listing (unpacked_at (uses k e n) x) 27 t₀ at t j
    pub place : p ≡ 4 * count_below (uses k e n) j
    pub small : p ≤ 4 * j

  pub unpacking-start : (t : List ℕ) (at : ℕ) → Unpacking t at t 0 0
  unfolding count_below
  unpacking-start t at = record { words = listing_start (unpacked_at (uses k e n) x) 27 t at; place = refl; small = omega arith }

  module _ (t₀ : List ℕ) (at : ℕ) (t : List ℕ) (p j : ℕ) (h : Unpacking t₀ at t p j) (b : Bool) (l : j < 27) (d : b ≡ uses k e n j) where
    pub unpacking-used : (v m : ℕ) (t' : List ℕ) → b ≡ true → v ≡ word_in x p → t' ≡ set t (at + j) v → m ≡ p + 4 → Unpacking t₀ at t' m (j + 1)
    unfolding unpacked_at
    unpacking-used v m t' q r f g =
        let c : count_below (uses k e n) (j + 1) ≡ count_below (uses k e n) j + 1 = ap (count_below (uses k e n)) (add-one j) ∙ count-more (uses k e n) j ∙ ap (λ (y : Bool). count_below (uses k e n) j + pick y 1 0) (sym d ∙ q) in
        rw (f, g)
        (record {
          words = listing-more (unpacked_at (uses k e n) x) 27 t₀ at t j h.words v l (r ∙ ap (word_in x) h.place ∙ sym (if_true-yes (word_in x (4 * count_below (uses k e n) j)) 0 (sym d ∙ q)));
          place = omega (arith, h.place, c);
          small = omega (arith, h.small);
        })

    pub unpacking-unused : (m : ℕ) (t' : List ℕ) → b ≡ false → t' ≡ set t (at + j) 0 → m ≡ p → Unpacking t₀ at t' m (j + 1)
    unfolding unpacked_at
    unpacking-unused m t' q f g =
        let c : count_below (uses k e n) (j + 1) ≡ count_below (uses k e n) j + 0 = ap (count_below (uses k e n)) (add-one j) ∙ count-more (uses k e n) j ∙ ap (λ (y : Bool). count_below (uses k e n) j + pick y 1 0) (sym d ∙ q) in
        rw (f, g)
        (record {
          words = listing-more (unpacked_at (uses k e n) x) 27 t₀ at t j h.words 0 l (sym (if_true-no (word_in x (4 * count_below (uses k e n) j)) 0 (sym d ∙ q)));
          place = omega (arith, h.place, c);
          small = omega (arith, h.small);
        })

  pub unpacking-done : (t₀ : List ℕ) (at : ℕ) (t : List ℕ) (p j : ℕ) → Unpacking t₀ at t p j → 27 ≤ j → t ≡ store_from t₀ at (listed (unpacked_at (uses k e n) x) 27 0)
  unpacking-done t₀ at t p j h l = listing-done (unpacked_at (uses k e n) x) 27 t₀ at t j h.words l

pub ruleset unpacking = (unpacking-start, unpacking-used, unpacking-unused, unpacking-done)

pub row-unpacked : (x : List ℕ) (k e n : ℕ) (t₀ t : List ℕ) (at : ℕ) → k ≡ word_in x 0 → e ≡ unpacked_at (uses k 0 0) x 6 → n ≡ unpacked_at (uses k e 0) x 8
    → t ≡ store_from t₀ at (listed (unpacked_at (uses k e n) x) 27 0) → t ≡ store_from t₀ at (unpacked x)
unfolding unpacked uses_in count_in expr_in kind_in
row-unpacked x k e n t₀ t at p q r d = d ∙ rw (r, q, p)

-- ---- the fields of n rows, m words each

module _ (tag : ℕ) (fits : List ℕ → Bool) (make : List ℕ → List ℕ) (m : ℕ) (each : (x : List ℕ) → length (make x) ≡ m) (b : List ℕ) (n at : ℕ) where
  pub record Fielding (t₀ t : List ℕ) (p i : ℕ) : Type 0 where
    pub below : i ≤ n
    pub long : length t ≡ length t₀
    pub good : behind_fields tag fits b (n - i) p ≤ length b
    pub rest : store_from t (i * m) (each_field make b (n - i) p) ≡ store_from t₀ 0 (each_field make b n at)

  pub fielding-start : (t : List ℕ) → behind_fields tag fits b n at ≤ length b → Fielding t t at 0
  fielding-start t h = record { below = omega arith; long = refl; good = rw (sub-zero n) h; rest = rw (sub-zero n, zero-mul m) }

  module _ (t₀ t : List ℕ) (p i : ℕ) (h : Fielding t₀ t p i) (l : i < n) where
    left : n - i ≡ suc (n - (i + 1))
    left = omega arith

    is-good : field_good tag fits b p ≡ true
    is-good = first_good tag fits b (n - (i + 1)) p (rw left at h.good)

    pub fielding-whole : p + 3 + size_at b p ≤ length b
    fielding-whole = whole-fits b p (good-whole tag fits b p is-good)

    pub fielding-more : (t' y : List ℕ) (q : ℕ) → y ≡ body_at b p → t' ≡ store_from t (i * m) (make y) → length t' ≡ length t → q ≡ behind_at b p → Fielding t₀ t' q (i + 1)
    unfolding each_field
    fielding-more t' y q o e s d =
        let z : (i + 1) * m ≡ i * m + length (make (body_at b p)) = next (each (body_at b p)) in
        record {
          below = omega arith;
          long = s ∙ h.long;
          good = rw (d, ← skip-good tag fits b (n - (i + 1)) p is-good, ← left) h.good;
          rest =
              rw (d, e, o, z)
              (sym (store-append t (i * m) (make (body_at b p)) (each_field make b (n - (i + 1)) (behind_at b p)))
              ∙ ap (λ (y : ℕ). store_from t (i * m) (each_field make b y p)) (sym left)
              ∙ h.rest);
        }
      where
        next : length (make (body_at b p)) ≡ m → (i + 1) * m ≡ i * m + length (make (body_at b p))
        next r = rw (r, add-one i) (suc-mul i m)

  pub fielding-done : (t₀ t : List ℕ) (p i : ℕ) → Fielding t₀ t p i → n ≤ i → t ≡ store_from t₀ 0 (each_field make b n at)
  unfolding each_field store_from
  fielding-done t₀ t p i h l = let z : n - i ≡ 0 = omega arith in rw z at h.rest

pub unpacked-length : (x : List ℕ) → length (unpacked x) ≡ 27
unfolding unpacked
unpacked-length x = listed-length (unpacked_at (uses_in x) x) 27 0

pub label-words-length : (x : List ℕ) → length (label_words_in x) ≡ 4
unfolding label_words_in
label-words-length x = refl

pub slot-length : (x : List ℕ) → length (name_slot x) ≡ 64
unfolding name_slot
slot-length x = listed-length (λ j. get_or (name_in x) j 0) 64 0

pub ruleset fielding = (fielding-start, fielding-whole, fielding-more, fielding-done)

-- ---- labels

pub arguments-import : (x : List ℕ) (k v : ℕ) → k ≡ 6 → v ≡ word_in x 8 → v ≡ arguments_in k x
unfolding arguments_in
arguments-import x k v h e = e ∙ sym (if_eq-yes (word_in x 8) 0 h)

pub arguments-none : (x : List ℕ) (k : ℕ) → (k ≡ 6 → ⊥) → 0 ≡ arguments_in k x
unfolding arguments_in
arguments-none x k h = sym (if_eq-no (word_in x 8) 0 h)

pub name-none : (n k h : ℕ) → h ≡ label_head k → n < h → 0 ≡ n - label_head k
name-none n k h e d = omega arith

pub name-some : (n k h : ℕ) → h ≡ label_head k → n - h ≡ n - label_head k
name-some n k h e = rw e

pub label-unpacked : (x l : List ℕ) (at k v a s : ℕ) → k ≡ word_in x 0 → v ≡ word_in x 4 → a ≡ arguments_in k x → s ≡ length x - label_head k
    → set (set (set (set l at k) (at + 1) v) (at + 2) a) (at + 3) s ≡ store_from l at (label_words_in x)
unfolding store_from label_words_in label_kind_in name_size
label-unpacked x l at k v a s p q r d =
    let z1 : at + 1 ≡ suc at = omega arith in
    let z2 : at + 2 ≡ suc (suc at) = omega arith in
    let z3 : at + 3 ≡ suc (suc (suc at)) = omega arith in
    rw (z1, z2, z3, d, r, q, p)

module _ (x : List ℕ) where
  abbrev pub Naming : List ℕ → ℕ → List ℕ → ℕ → Type 0
  Naming l₀ at l j = Listing (λ i. get_or (name_in x) i 0) 64 l₀ at l j

  pub naming-start : (l : List ℕ) (at : ℕ) → Naming l at l 0
  naming-start l at = listing_start (λ i. get_or (name_in x) i 0) 64 l at

  pub naming-more : (l₀ l : List ℕ) (at j k h v : ℕ) → Naming l₀ at l j → j < 64 → k ≡ word_in x 0 → h ≡ label_head k → v ≡ get_or x (h + j) 0 → Naming l₀ at (set l (at + j) v) (j + 1)
  unfolding name_in label_kind_in
  naming-more l₀ l at j k h v q p d e r =
      listing-more (λ i. get_or (name_in x) i 0) 64 l₀ at l j q v p (r ∙ ap (λ (y : ℕ). get_or x (y + j) 0) (e ∙ ap label_head d) ∙ sym (get_or-drop (label_head (word_in x 0)) x j 0))

  pub naming-done : (l₀ l : List ℕ) (at j : ℕ) → Naming l₀ at l j → 64 ≤ j → l ≡ store_from l₀ at (name_slot x)
  unfolding name_slot
  naming-done l₀ l at j q p = listing-done (λ i. get_or (name_in x) i 0) 64 l₀ at l j q p

pub ruleset naming = (naming-start, naming-more, naming-done)
