-- The loops: what is left gives the whole answer.
-- Assumes nothing.
use mathlib.Core.Path.{◌≡◌, refl, sym, ◌∙◌, ap}
use mathlib.Core.List.{List, [], ◌∷◌, ◌++◌}
use Prim.Native.Nat.{ℕ, suc, ◌+◌, ◌*◌, ◌-◌, ◌≤◌, ◌<◌}
use native.Mathlib.Numerals.{add-one}
use native.Mathlib.Omega.{arith}
use lib.ListN.{length, drop, get_or, drop_of_length-le}
use lib.Seq.{drop-cons}
use lib.Dec.{eqb}
use mathlib.Core.Bool.{Bool, true, false, cond}
use Rattle.std.specs.List.{count_by}
use Rattle.std.proofs.lemmas.List.Sums.{count_by-le-length}
use Rattle.std.proofs.lemmas.List.Recursion.{is_count_by}
use Rattle.base_prelude.specs.Choice.{pick, if_eq}
use Rattle.prog_tables.specs.Label.{label_at}
use Rattle.app_page.specs.Bytes.{name_byte, name_bytes_of, newlines}
use Rattle.app_page.specs.Sheet.{Sheet, sheet, put}
use Rattle.app_page.specs.Page.{label_line, label_lines}
use Rattle.app_page.proofs.Cases.{put-append, put-long}

next-drop : (s : List ℕ) (i : ℕ) → i < length s → drop i s ≡ get_or s i 0 ∷ drop (i + 1) s
next-drop s i h = drop-cons s i 0 h ∙ ap (λ (n : ℕ). get_or s i 0 ∷ drop n s) (sym (add-one i))

-- `put_bytes`
pub record Texting (s : List ℕ) (at : ℕ) (out₀ out : List ℕ) (to i : ℕ) : Type 0 where
  pub within : i ≤ length s
  pub few : to ≤ at + i
  pub long : length out ≡ length out₀
  pub rest : put (drop i s) (sheet to out) ≡ put s (sheet at out₀)

pub texting-start : (s : List ℕ) (at : ℕ) (out : List ℕ) → Texting s at out out at 0
texting-start s at out = record { within = omega arith; few = omega arith; long = refl; rest = refl }

module _ (s : List ℕ) (at : ℕ) (out₀ out : List ℕ) (to i : ℕ) where
  pub texting-more : (to' : ℕ) (out' : List ℕ) → Texting s at out₀ out to i → i < length s → sheet to' out' ≡ put (get_or s i 0 ∷ []) (sheet to out) → to' ≤ to + 1
      → Texting s at out₀ out' to' (i + 1)
  texting-more to' out' h l e f =
      record {
        within = omega arith;
        few = omega (arith, h.few);
        long = put-long (get_or s i 0 ∷ []) (sheet to out) (sheet to' out') e ∙ h.long;
        rest = ap (put (drop (i + 1) s)) e ∙ sym (put-append (get_or s i 0 ∷ []) (drop (i + 1) s) (sheet to out)) ∙ ap (λ (x : List ℕ). put x (sheet to out)) (sym (next-drop s i l)) ∙ h.rest;
      }

  pub texting-done : Texting s at out₀ out to i → length s ≤ i → sheet to out ≡ put s (sheet at out₀)
  unfolding put
  texting-done h l = ap (λ (x : List ℕ). put x (sheet to out)) (sym (drop_of_length-le s l)) ∙ h.rest

pub ruleset texting = (texting-start, texting-more, texting-done)

-- `put_name`
pub record Naming (s : List ℕ) (at : ℕ) (out₀ out : List ℕ) (to i : ℕ) : Type 0 where
  pub within : i ≤ length s
  pub few : to ≤ at + i * 4
  pub long : length out ≡ length out₀
  pub rest : put (name_bytes_of (drop i s)) (sheet to out) ≡ put (name_bytes_of s) (sheet at out₀)

pub naming-start : (s : List ℕ) (at : ℕ) (out : List ℕ) → Naming s at out out at 0
naming-start s at out = record { within = omega arith; few = omega arith; long = refl; rest = refl }

names_more : (c : ℕ) (cs : List ℕ) → name_bytes_of (c ∷ cs) ≡ name_byte c ++ name_bytes_of cs
unfolding name_bytes_of
names_more c cs = refl

names-none : name_bytes_of [] ≡ []
unfolding name_bytes_of
names-none = refl

put-none : (s : Sheet) → s ≡ put [] s
unfolding put
put-none s = refl

module _ (s : List ℕ) (at : ℕ) (out₀ out : List ℕ) (to i : ℕ) where
  pub naming-more : (to' : ℕ) (out' : List ℕ) → Naming s at out₀ out to i → i < length s → sheet to' out' ≡ put (name_byte (get_or s i 0)) (sheet to out) → to' ≤ to + 4
      → Naming s at out₀ out' to' (i + 1)
  naming-more to' out' h l e f =
      record {
        within = omega arith;
        few = omega (arith, h.few);
        long = put-long (name_byte (get_or s i 0)) (sheet to out) (sheet to' out') e ∙ h.long;
        rest = ap (put (name_bytes_of (drop (i + 1) s))) e ∙ sym (put-append (name_byte (get_or s i 0)) (name_bytes_of (drop (i + 1) s)) (sheet to out)) ∙ ap (λ (x : List ℕ). put x (sheet to out)) (sym (ap name_bytes_of (next-drop s i l) ∙ names_more (get_or s i 0) (drop (i + 1) s))) ∙ h.rest;
      }

  pub naming-done : Naming s at out₀ out to i → length s ≤ i → sheet to out ≡ put (name_bytes_of s) (sheet at out₀)
  naming-done h l =
      put-none (sheet to out) ∙ ap (λ (x : List ℕ). put x (sheet to out)) (sym (ap name_bytes_of (drop_of_length-le s l) ∙ names-none)) ∙ h.rest

  pub naming-near : Naming s at out₀ out to i → length s ≤ 64 → to ≤ at + 256
  naming-near h l = omega (arith, h.few, h.within)

pub ruleset naming = (naming-start, naming-more, naming-done)

-- `put_labels`
pub record Listing (count : ℕ) (table names rows : List ℕ) (at : ℕ) (out₀ out : List ℕ) (to i : ℕ) : Type 0 where
  pub within : i ≤ count
  pub few : to ≤ at + i * 1024
  pub long : length out ≡ length out₀
  pub rest : put (label_lines (count - i) table names rows i) (sheet to out) ≡ put (label_lines count table names rows 0) (sheet at out₀)

module _ (count : ℕ) (table names rows : List ℕ) where
  lines_more : (left i : ℕ) → label_lines (suc left) table names rows i ≡ label_line rows (label_at table names i) ++ label_lines left table names rows (suc i)
  unfolding label_lines
  lines_more left i = refl

  lines_none : (i : ℕ) → label_lines 0 table names rows i ≡ []
  unfolding label_lines
  lines_none i = refl

  pub listing_start : (at : ℕ) (out : List ℕ) → Listing count table names rows at out out at 0
  listing_start at out =
      let e : count - 0 ≡ count = omega arith in
      record { within = omega arith; few = omega arith; long = refl; rest = ap (λ (n : ℕ). put (label_lines n table names rows 0) (sheet at out)) e }

  module _ (at : ℕ) (out₀ out : List ℕ) (to i : ℕ) where
    pub listing-more : (to' : ℕ) (out' : List ℕ) → Listing count table names rows at out₀ out to i → i < count → sheet to' out' ≡ put (label_line rows (label_at table names i)) (sheet to out) → to' ≤ to + 1024
        → Listing count table names rows at out₀ out' to' (i + 1)
    listing-more to' out' h l e f =
        let q : count - i ≡ suc (count - (i + 1)) = omega arith in
        record {
          within = omega arith;
          few = omega (arith, h.few);
          long = put-long (label_line rows (label_at table names i)) (sheet to out) (sheet to' out') e ∙ h.long;
          rest = ap (put (label_lines (count - (i + 1)) table names rows (i + 1))) e ∙ sym (put-append (label_line rows (label_at table names i)) (label_lines (count - (i + 1)) table names rows (i + 1)) (sheet to out)) ∙ ap (λ (n : ℕ). put (label_line rows (label_at table names i) ++ label_lines (count - (i + 1)) table names rows n) (sheet to out)) (add-one i) ∙ ap (λ (x : List ℕ). put x (sheet to out)) (sym (ap (λ (n : ℕ). label_lines n table names rows i) q ∙ lines_more (count - (i + 1)) i)) ∙ h.rest;
        }

    pub listing-done : Listing count table names rows at out₀ out to i → count ≤ i → sheet to out ≡ put (label_lines count table names rows 0) (sheet at out₀)
    listing-done h l =
        let q : count - i ≡ 0 = omega arith in
        put-none (sheet to out) ∙ ap (λ (x : List ℕ). put x (sheet to out)) (sym (ap (λ (n : ℕ). label_lines n table names rows i) q ∙ lines_none i)) ∙ h.rest

    pub listing-near : Listing count table names rows at out₀ out to i → i < 4294967296 → at ≤ 1024 → to < 70368744177664
    listing-near h l k = omega (arith, h.few)

pub ruleset listing = (listing_start, listing-more, listing-done)

-- `newlines_in`
newlines_of : (b : Bool) (n : ℕ) → pick b (suc n) n ≡ cond b (1 + n) n
newlines_of true n = omega arith
newlines_of false n = refl

newlines-by : (s : List ℕ) → newlines s ≡ count_by (λ x. eqb x 10) s
unfolding newlines if_eq
newlines-by s = is_count_by newlines (λ x. eqb x 10) refl (λ x xs. newlines_of (eqb x 10) (newlines xs)) s

pub newlines-counted : (n : ℕ) (s : List ℕ) → n ≡ count_by (λ x. eqb x 10) s → n ≡ newlines s
newlines-counted n s e = e ∙ sym (newlines-by s)

pub newlines-few : (n : ℕ) (s : List ℕ) → n ≡ count_by (λ x. eqb x 10) s → length s ≤ 4294967296 → n ≤ 4294967296
newlines-few n s e l = omega (arith, count_by-le-length (λ x. eqb x 10) s)
