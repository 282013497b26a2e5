-- One law for each way through a function of this crate, and its loops.
-- Assumes nothing.
use mathlib.Core.Path.{◌≡◌, refl, sym, ◌∙◌, ap}
use mathlib.Core.Bool.{Bool, true, false}
use mathlib.Core.List.{List}
use Prim.Native.Nat.{ℕ, ◌+◌, ◌*◌, ◌≤◌, ◌<◌}
use native.Mathlib.Numerals.{add-one}
use native.Mathlib.Omega.{arith}
use lib.Dec.{eqb}
use lib.ListN.{length, get_or, take, set, length-set}
use lib.Seq.{length-take-le}
use borrow.Author.Tests.{ne_eqb, eqb-true}
use Rattle.base_prelude.specs.Lists.{overlay}
use Rattle.base_prelude.proofs.Choice.{either-eq, either_true, if_lt-yes, if_lt-no, if_true-yes, if_true-no, true-false, tests}
use Rattle.lex_spelling.specs.Text.{spelled_at, name_at, measured}
use Rattle.lex_spelling.specs.declared.Spelled.{Spelled}
use Rattle.lex_spelling.proofs.Loops.{overlay-front}
use Rattle.parse_lines.specs.Tokens.{token_word, kind_at, word_at}
use Rattle.parse_lines.proofs.Scans.{token-within}
use Rattle.prog_tables.specs.Hosts.{Hosts, entries_of, host_of, mark_of, host_mark}
use Rattle.res_hosts.specs.Marks.{host_list, is_import, mark_at, name_marked, hosted_tokens}
use Rattle.prog_hosts.proofs.Cases.{entries-low}
use Rattle.res_hosts.proofs.First.{found-named, named-few, long-mark}

-- ---- the mark of a name

module _ (words names name : List ℕ) (i n : ℕ) (e : i ≡ host_of (host_list words names) name) (q : n ≡ entries_of (host_list words names)) where
  pub mark-low : i < n → i < 268435456
  mark-low h = omega (arith, q, entries-low words names)

  pub mark-few : (a : ℕ) → i < n → a ≡ get_or words (i * 2 + 1) 0 → a ≤ 8
  mark-few a h d =
      let g : host_of (host_list words names) name < entries_of (host_list words names) = omega (arith, e, q) in
      let f = named-few (host_list words names) (host_of (host_list words names) name) name (found-named (host_list words names) name g) in
      let y : get_or words (i * 2 + 1) 0 ≡ get_or words (host_of (host_list words names) name * 2 + 1) 0 = ap (λ (j : ℕ). get_or words (j * 2 + 1) 0) e in
      omega (arith, d, y, f)

  pub mark-listed : (a r : ℕ) → i < n → a ≡ get_or words (i * 2 + 1) 0 → r ≡ mark_of i a → r ≡ host_mark (host_list words names) name
  unfolding host_mark
  mark-listed a r h d f = rw (← e, ← q, ← d) (f ∙ sym (if_lt-yes _ _ h))

  pub mark-unlisted : n ≤ i → 0 ≡ host_mark (host_list words names) name
  unfolding host_mark
  mark-unlisted h = rw (← e, ← q) (sym (if_lt-no _ _ h))

pub ruleset marking = (mark-listed, mark-unlisted)

module _ (words names s : List ℕ) (at : ℕ) (x : Spelled) (e : x ≡ measured (spelled_at false s at)) where
  size_is : x.size ≡ length (name_at s at)
  unfolding measured name_at
  size_is = ap (λ (y : Spelled). y.size) e

  pub name-long : 64 < x.size → 0 ≡ host_mark (host_list words names) (name_at s at)
  name-long h = long-mark (host_list words names) (name_at s at) (omega (arith, size_is))

  pub name-read : (old out : List ℕ) (r : ℕ) → x.size ≤ length old → out ≡ overlay (spelled_at false s at).bytes old
      → r ≡ host_mark (host_list words names) (take x.size out) → r ≡ host_mark (host_list words names) (name_at s at)
  unfolding name_at
  name-read old out r h q f =
      let g : length (spelled_at false s at).bytes ≤ length old = omega (arith, size_is) in
      f ∙ ap (λ (l : List ℕ). host_mark (host_list words names) (take x.size l)) q
      ∙ ap (λ (n : ℕ). host_mark (host_list words names) (take n (overlay (spelled_at false s at).bytes old))) size_is
      ∙ ap (host_mark (host_list words names)) (overlay-front (spelled_at false s at).bytes old g)

pub ruleset reading = (name-long, name-read)

-- ---- imports

module _ (t : List ℕ) (i k : ℕ) (p : k ≡ token_word t i 0) where
  pub import-yes : (w n : ℕ) → k ≡ 3 → w ≡ token_word t i 5 → w ≡ 2 → n ≡ token_word t (i + 1) 0 → eqb n 3 ≡ is_import t i
  unfolding is_import
  import-yes w n e q f g = rw (← p, ← q, ← g) (search tests)

  pub import-other : (w : ℕ) → k ≡ 3 → w ≡ token_word t i 5 → (w ≡ 2 → ⊥) → false ≡ is_import t i
  unfolding is_import
  import-other w e q f = rw (← p, ← q) (search tests)

  pub import-no : (k ≡ 3 → ⊥) → false ≡ is_import t i
  unfolding is_import
  import-no e = rw (← p) (search tests)

pub ruleset importing = (import-yes, import-other, import-no)

-- a symbol stands behind an import
pub import-symbol : (t : List ℕ) (i : ℕ) → is_import t i ≡ true → kind_at t (i + 1) ≡ 3
unfolding is_import
import-symbol t i =
    either-eq (λ (b : Bool). b ≡ true → kind_at t (i + 1) ≡ 3) (kind_at t i) 3 _ _
    (λ _. either-eq (λ (b : Bool). b ≡ true → kind_at t (i + 1) ≡ 3) (word_at t i) 2 _ _ (λ _ e. eqb-true _ _ e) (λ _ e. true-false (sym e)))
    (λ _ e. true-false (sym e))

pub import-within : (t : List ℕ) (i : ℕ) → is_import t i ≡ true → length t ≡ 32768 → (i + 1) * 8 + 7 < 32768
import-within t i e h = omega (arith, token-within t (i + 1) 0 (let k = import-symbol t i e in omega (arith, k)), h)

pub import-room : (t : List ℕ) (i : ℕ) (b : Bool) → b ≡ is_import t i → b ≡ true → length t ≡ 32768 → (i + 1) * 8 + 7 < length t
import-room t i b p e h = omega (arith, import-within t i (sym p ∙ e) h, h)

pub name-marked : (words names s t : List ℕ) (i first r : ℕ) → first ≡ token_word t i 1 → r ≡ host_mark (host_list words names) (name_at s first)
    → r ≡ mark_at (host_list words names) s t i
unfolding mark_at
name-marked words names s t i first r f g = rw (← f) g

module _ (words names s t : List ℕ) (i : ℕ) (b : Bool) (p : b ≡ is_import t i) where
  pub token-marked : (r : ℕ) → b ≡ true → r ≡ mark_at (host_list words names) s t (i + 1)
      → set t ((i + 1) * 8 + 7) r ≡ name_marked (host_list words names) s i t
  unfolding name_marked
  token-marked r e g = rw (← p, ← g) (sym (if_true-yes _ _ e))

  pub token-left : b ≡ false → t ≡ name_marked (host_list words names) s i t
  unfolding name_marked
  token-left e = rw (← p) (sym (if_true-no _ _ e))

pub ruleset tokens = (token-marked, token-left)

-- ---- the front of a name

pub take_long : (n : ℕ) (xs : List ℕ) → n ≤ length xs → length (take n xs) ≡ n
take_long n xs h = length-take-le n xs h

-- ---- the loop of `mark_tokens`

pub length_marked : (h : Hosts) (s : List ℕ) (i : ℕ) (t : List ℕ) → length (name_marked h s i t) ≡ length t
unfolding name_marked
length_marked h s i t = either_true (λ (x : List ℕ). length x ≡ length t) (is_import t i) _ _ (λ _. length-set t _ _) (λ _. refl)

pub record Marking (words names s : List ℕ) (n : ℕ) (t₀ t : List ℕ) (i : ℕ) : Type 0 where
  pub long : length t ≡ length t₀
  pub below : i ≤ n
  pub so_far : t ≡ hosted_tokens (host_list words names) s i t₀

module _ (words names s : List ℕ) (n : ℕ) (t₀ : List ℕ) where
  pub marking-start : Marking words names s n t₀ t₀ 0
  unfolding hosted_tokens
  marking-start = record { long = refl; below = omega arith; so_far = refl }

  module _ (t : List ℕ) (i : ℕ) (h : Marking words names s n t₀ t i) where
    pub marking-room : length t₀ ≡ 32768 → length t ≡ 32768
    marking-room f = omega (arith, h.long)

    pub marking-more : (x : List ℕ) → i < n → x ≡ name_marked (host_list words names) s i t → Marking words names s n t₀ x (i + 1)
    unfolding hosted_tokens
    marking-more x g e =
        record {
          long = ap length e ∙ length_marked (host_list words names) s i t ∙ h.long;
          below = omega arith;
          so_far = rw (add-one i) (e ∙ ap (name_marked (host_list words names) s i) h.so_far);
        }

    pub marking-same : length t ≡ length t₀
    marking-same = h.long

    pub marking-done : n ≤ i → t ≡ hosted_tokens (host_list words names) s n t₀
    marking-done g = let e : i ≡ n = omega (arith, h.below) in h.so_far ∙ ap (λ (j : ℕ). hosted_tokens (host_list words names) s j t₀) e

pub ruleset walking = (marking-start, marking-more, marking-done)
