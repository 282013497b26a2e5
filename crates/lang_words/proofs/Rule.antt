-- The rule of the table, at each of its 51 words: the row has the word's number and counts, and the letters that the row spells are the
-- word's.
-- Assumes nothing.
use mathlib.Core.Path.{◌≡◌, refl}
use mathlib.Core.Bool.{Bool}
use mathlib.Core.List.{List, [], ◌∷◌}
use Prim.Native.Nat.{ℕ, zero, suc, ◌+◌, ◌≤◌, ◌<◌}
use lib.Dec.{T, leb, leb→le}
use lib.ListN.{length, get_or}
use Rattle.base_prelude.specs.Lists.{same_list}
use Rattle.base_prelude.proofs.Lists.{same-is}
use Rattle.base_prelude.proofs.Table.{at}
use Rattle.lang_words.specs.Words.{Entry, nothing, words}
use Rattle.lang_words.specs.Table.{all_letters, row, rows_from, rows, row_at, entry_at, spelled}

pub count : length words ≡ 51
unfolding words
count = refl

number-from : (p : ℕ) (es : List Entry) (k : ℕ) → (get_or (rows_from p es) k (row 0 0 0 0 0)).2 ≡ (get_or es k nothing).number
unfolding rows_from
number-from p [] k = refl
number-from p (e ∷ es) zero = refl
number-from p (e ∷ es) (suc k) = number-from (p + length e.letters) es k

least-from : (p : ℕ) (es : List Entry) (k : ℕ) → (get_or (rows_from p es) k (row 0 0 0 0 0)).3 ≡ (get_or es k nothing).least
unfolding rows_from
least-from p [] k = refl
least-from p (e ∷ es) zero = refl
least-from p (e ∷ es) (suc k) = least-from (p + length e.letters) es k

most-from : (p : ℕ) (es : List Entry) (k : ℕ) → (get_or (rows_from p es) k (row 0 0 0 0 0)).4 ≡ (get_or es k nothing).most
unfolding rows_from
most-from p [] k = refl
most-from p (e ∷ es) zero = refl
most-from p (e ∷ es) (suc k) = most-from (p + length e.letters) es k

pub row_number : (k : ℕ) → (row_at k).2 ≡ (entry_at k).number
unfolding rows row_at entry_at
row_number k = number-from 0 words k

pub row-least : (k : ℕ) → (row_at k).3 ≡ (entry_at k).least
unfolding rows row_at entry_at
row-least k = least-from 0 words k

pub row-most : (k : ℕ) → (row_at k).4 ≡ (entry_at k).most
unfolding rows row_at entry_at
row-most k = most-from 0 words k

fits-right : ℕ → Entry → Bool
fits-right k e = leb ((row_at k).0 + (row_at k).1) 283

spells-right : ℕ → Entry → Bool
spells-right k e = same_list (spelled (row_at k).0 (row_at k).1) e.letters

fits-rule : (k : ℕ) → k < 51 → T (fits-right k (entry_at k))
unfolding words rows_from rows row_at entry_at fits-right
fits-rule k h = at nothing fits-right words tt k h

spells-rule : (k : ℕ) → k < 51 → T (spells-right k (entry_at k))
unfolding words all_letters rows_from rows row_at entry_at spelled spells-right same_list
spells-rule k h = at nothing spells-right words tt k h

-- a row's letters end within the letters of all words
pub fits : (k : ℕ) → k < 51 → (row_at k).0 + (row_at k).1 ≤ 283
unfolding fits-right
fits k h = leb→le ((row_at k).0 + (row_at k).1) 283 (fits-rule k h)

-- they are the word's
pub spells : (k : ℕ) → k < 51 → spelled (row_at k).0 (row_at k).1 ≡ (entry_at k).letters
unfolding spells-right
spells k h = same-is (spelled (row_at k).0 (row_at k).1) (entry_at k).letters (spells-rule k h)
