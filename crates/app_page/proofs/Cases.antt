-- One law for each way through a function of this crate.
-- Assumes nothing.
use mathlib.Core.Path.{◌≡◌, refl, sym, ◌∙◌, ap, ap₂, subst}
use mathlib.Core.Bool.{Bool, true, false}
use mathlib.Core.List.{List, [], ◌∷◌, ◌++◌}
use Prim.Native.Nat.{ℕ, zero, suc, ◌+◌, ◌*◌, ◌-◌, ◌/◌, ◌%◌, ◌≤◌, ◌<◌}
use native.Mathlib.Numerals.{add-one}
use native.Mathlib.Omega.{arith}
use lib.ListN.{length, take, drop, set, get_or, length-drop, length-set, drop_of_length-le}
use lib.Seq.{set_out, take-nil, take_all, take-length}
use Rattle.base_prelude.specs.Lists.{overlay}
use Rattle.base_prelude.proofs.Choice.{tests, if_lt-yes, if_lt-no}
use Rattle.lex_spelling.specs.Classes.{is_name_byte}
use Rattle.prog_tables.specs.Statement.{row_at}
use Rattle.prog_tables.specs.Label.{label_at}
use Rattle.app_page.specs.Bytes.{digits_within, decimal, field, hex_digit, name_byte, name_bytes_of, newlines, accepted-word, label-word, data-word, function-word, place-word, import-word, yes-word, no_word, refused-word, line_word, byte_word, line-end}
use Rattle.app_page.specs.Sheet.{Sheet, sheet, put}
use Rattle.app_page.specs.Page.{head_line, kind_word, exported_word, sizes, label_sizes, label_tail, label_head, label_line, label_lines, accepted_page, line_of, refused_page, shown, shown_on}
use Rattle.std.specs.Prelude.{Some, None}

-- one text behind another
pub put-append : (xs ys : List ℕ) (s : Sheet) → put (xs ++ ys) s ≡ put ys (put xs s)
unfolding put
put-append [] ys s = refl
put-append (x ∷ xs) ys s = put-append xs ys (sheet (suc s.at) (set s.out s.at x))

pub put_two : (a b : List ℕ) (s₀ s₁ s₂ : Sheet) → s₁ ≡ put a s₀ → s₂ ≡ put b s₁ → s₂ ≡ put (a ++ b) s₀
put_two a b s₀ s₁ s₂ e f = f ∙ ap (put b) e ∙ sym (put-append a b s₀)

-- the buffer keeps its length
put_keeps : (xs : List ℕ) (s : Sheet) → length (put xs s).out ≡ length s.out
unfolding put
put_keeps [] s = refl
put_keeps (x ∷ xs) s = put_keeps xs (sheet (suc s.at) (set s.out s.at x)) ∙ length-set s.out s.at x

pub put-long : (xs : List ℕ) (s₀ s₁ : Sheet) → s₁ ≡ put xs s₀ → length s₁.out ≡ length s₀.out
put-long xs s₀ s₁ e = ap (λ (s : Sheet). length s.out) e ∙ put_keeps xs s₀

-- `put_byte`
module _ (at c : ℕ) (out : List ℕ) where
  pub byte-in : at < length out → sheet (at + 1) (set out at c) ≡ put (c ∷ []) (sheet at out)
  unfolding put
  byte-in h = ap (λ (n : ℕ). sheet n (set out at c)) (add-one at)

  pub byte-out : length out ≤ at → sheet (at + 1) out ≡ put (c ∷ []) (sheet at out)
  unfolding put
  byte-out h = ap₂ sheet (add-one at) (sym (set_out out at c h))

pub ruleset bytes = (byte-in, byte-out)

-- `put_digits`
pub digits-none : (n : ℕ) (left : ℕ) (s : Sheet) → left ≡ 0 → s ≡ put (digits_within left n) s
unfolding put digits_within
digits-none n zero s e = refl
digits-none n (suc k) s e = let z : ⊥ = omega arith in absurd z

pub digits_last : (n left d : ℕ) (s₀ s₁ : Sheet) → (left ≡ 0 → ⊥) → n < 10 → d ≡ 48 + n → s₁ ≡ put (d ∷ []) s₀ → s₁ ≡ put (digits_within left n) s₀
unfolding digits_within
digits_last n zero d s₀ s₁ h l p e = absurd (h refl)
digits_last n (suc k) d s₀ s₁ h l p e =
    e ∙ ap (λ (c : ℕ). put (c ∷ []) s₀) p ∙ ap (λ (x : List ℕ). put x s₀) (sym (if_lt-yes _ _ l))

pub digits_more : (n left d : ℕ) (s₀ s₁ s₂ : Sheet) → (left ≡ 0 → ⊥) → 10 ≤ n → s₁ ≡ put (digits_within (left - 1) (n / 10)) s₀ → d ≡ 48 + n % 10 → s₂ ≡ put (d ∷ []) s₁
    → s₂ ≡ put (digits_within left n) s₀
unfolding digits_within
digits_more n zero d s₀ s₁ s₂ h l e p f = absurd (h refl)
digits_more n (suc k) d s₀ s₁ s₂ h l e p f =
    let q : suc k - 1 ≡ k = omega arith in
    put_two (digits_within k (n / 10)) ((48 + n % 10) ∷ []) s₀ s₁ s₂ (e ∙ ap (λ (j : ℕ). put (digits_within j (n / 10)) s₀) q) (f ∙ ap (λ (c : ℕ). put (c ∷ []) s₁) p) ∙ ap (λ (x : List ℕ). put x s₀) (sym (if_lt-no _ _ l))

pub ruleset digits = (digits-none, digits_last, digits_more)

pub decimal-put : (n : ℕ) (s₀ s₁ : Sheet) → s₁ ≡ put (digits_within 20 n) s₀ → s₁ ≡ put (decimal n) s₀
unfolding decimal
decimal-put n s₀ s₁ e = e

pub field_put : (n : ℕ) (s₀ s₁ s₂ : Sheet) → s₁ ≡ put (32 ∷ []) s₀ → s₂ ≡ put (decimal n) s₁ → s₂ ≡ put (field n) s₀
unfolding field
field_put n s₀ s₁ s₂ e f = put_two (32 ∷ []) (decimal n) s₀ s₁ s₂ e f

pub escape-put : (c x y : ℕ) (s₀ s₁ s₂ s₃ s₄ : Sheet) → s₁ ≡ put (92 ∷ []) s₀ → s₂ ≡ put (120 ∷ []) s₁ → x ≡ hex_digit (c / 16) → s₃ ≡ put (x ∷ []) s₂ → y ≡ hex_digit (c % 16) → s₄ ≡ put (y ∷ []) s₃
    → s₄ ≡ put (92 ∷ 120 ∷ hex_digit (c / 16) ∷ hex_digit (c % 16) ∷ []) s₀
escape-put c x y s₀ s₁ s₂ s₃ s₄ e f p g q h =
    put_two (92 ∷ 120 ∷ hex_digit (c / 16) ∷ []) (hex_digit (c % 16) ∷ []) s₀ s₃ s₄
    (put_two (92 ∷ 120 ∷ []) (hex_digit (c / 16) ∷ []) s₀ s₂ s₃ (put_two (92 ∷ []) (120 ∷ []) s₀ s₁ s₂ e f) (g ∙ ap (λ (d : ℕ). put (d ∷ []) s₂) p))
    (h ∙ ap (λ (d : ℕ). put (d ∷ []) s₃) q)

module _ (c w : ℕ) (b : Bool) (s₀ s₁ : Sheet) (p : w ≡ c) (q : b ≡ is_name_byte w) where
  test-is : b ≡ is_name_byte c
  test-is = q ∙ ap is_name_byte p

  pub name-plain : b ≡ true → s₁ ≡ put (c ∷ []) s₀ → s₁ ≡ put (name_byte c) s₀
  unfolding name_byte
  name-plain t e = e ∙ ap (λ (x : List ℕ). put x s₀) (rw (← test-is) (search tests))

  pub name-escaped : b ≡ false → s₁ ≡ put (92 ∷ 120 ∷ hex_digit (c / 16) ∷ hex_digit (c % 16) ∷ []) s₀ → s₁ ≡ put (name_byte c) s₀
  unfolding name_byte
  name-escaped t e = e ∙ ap (λ (x : List ℕ). put x s₀) (rw (← test-is) (search tests))

pub ruleset naming = (name-plain, name-escaped)

-- `part`
module _ (s : List ℕ) (from size : ℕ) where
  pub part_none : length s ≤ from → [] ≡ take size (drop from s)
  part_none h = sym (ap (take size) (drop_of_length-le s h) ∙ take-nil size)

  pub part-some : from < length s → size ≤ length s - from → take (from + size - from) (drop from s) ≡ take size (drop from s)
  part-some h l = let e : from + size - from ≡ size = omega arith in ap (λ (n : ℕ). take n (drop from s)) e

  pub part-rest : from < length s → length s - from < size → take (length s - from) (drop from s) ≡ take size (drop from s)
  part-rest h l =
      take_all (length s - from) (drop from s) (omega (arith, length-drop from s)) ∙ sym (take_all size (drop from s) (omega (arith, length-drop from s)))

pub ruleset parts = (part_none, part-some, part-rest)

pub part-name : (names a b : List ℕ) (n size : ℕ) → a ≡ take size (drop (n * 64) names) → b ≡ take 64 (drop 0 a) → b ≡ take 64 (take size (drop (n * 64) names))
part-name names a b n size e f = f ∙ ap (take 64) e

take-few : (k : ℕ) (l : List ℕ) → length (take k l) ≤ k
take-few zero l = omega arith
take-few (suc k) [] = omega arith
take-few (suc k) (x ∷ l) = omega (arith, take-few k l)

pub part-short : (a b : List ℕ) (from k : ℕ) → b ≡ take k (drop from a) → length b ≤ k
part-short a b from k e = subst (λ (l : List ℕ). length l ≤ k) (sym e) (take-few k (drop from a))

pub part_small : (a b : List ℕ) (k : ℕ) → b ≡ take k (drop 0 a) → k < 4294967296 → length b ≤ 4294967296
part_small a b k e h = omega (arith, part-short a b 0 k e)

-- `put_kind`, `put_exported`, `put_function`
module _ (kind : ℕ) (s₀ s₁ : Sheet) where
  pub kind-data : kind < 3 → s₁ ≡ put data-word s₀ → s₁ ≡ put (kind_word kind) s₀
  unfolding kind_word
  kind-data h e = e ∙ ap (λ (x : List ℕ). put x s₀) (search tests)

  pub kind-function : 3 ≤ kind → kind < 5 → s₁ ≡ put function-word s₀ → s₁ ≡ put (kind_word kind) s₀
  unfolding kind_word
  kind-function h l e = e ∙ ap (λ (x : List ℕ). put x s₀) (search tests)

  pub kind-import : 3 ≤ kind → 5 ≤ kind → kind ≡ 6 → s₁ ≡ put import-word s₀ → s₁ ≡ put (kind_word kind) s₀
  unfolding kind_word
  kind-import h l d e = e ∙ ap (λ (x : List ℕ). put x s₀) (search tests)

  pub kind-place : 3 ≤ kind → 5 ≤ kind → (kind ≡ 6 → ⊥) → s₁ ≡ put place-word s₀ → s₁ ≡ put (kind_word kind) s₀
  unfolding kind_word
  kind-place h l d e = e ∙ ap (λ (x : List ℕ). put x s₀) (search tests)

  pub exported-data : kind ≡ 2 → s₁ ≡ put yes-word s₀ → s₁ ≡ put (exported_word kind) s₀
  unfolding exported_word
  exported-data h e = e ∙ ap (λ (x : List ℕ). put x s₀) (search tests)

  pub exported-function : (kind ≡ 2 → ⊥) → kind ≡ 4 → s₁ ≡ put yes-word s₀ → s₁ ≡ put (exported_word kind) s₀
  unfolding exported_word
  exported-function h l e = e ∙ ap (λ (x : List ℕ). put x s₀) (search tests)

  pub exported-not : (kind ≡ 2 → ⊥) → (kind ≡ 4 → ⊥) → s₁ ≡ put no_word s₀ → s₁ ≡ put (exported_word kind) s₀
  unfolding exported_word
  exported-not h l e = e ∙ ap (λ (x : List ℕ). put x s₀) (search tests)

pub ruleset kinds = (kind-data, kind-function, kind-import, kind-place)

pub ruleset exports = (exported-data, exported-function, exported-not)

pub put-none : (s : Sheet) → s ≡ put [] s
unfolding put
put-none s = refl

module _ (rows : List ℕ) (kind n a : ℕ) (s₀ : Sheet) where
  pub no-sizes-data : kind < 3 → s₀ ≡ put (label_sizes rows kind n a) s₀
  unfolding label_sizes
  no-sizes-data h = put-none s₀ ∙ ap (λ (x : List ℕ). put x s₀) (search tests)

  pub some-sizes : (s₁ : Sheet) → 3 ≤ kind → kind < 5 → s₁ ≡ put (sizes rows n) s₀ → s₁ ≡ put (label_sizes rows kind n a) s₀
  unfolding label_sizes
  some-sizes s₁ h l e = e ∙ ap (λ (x : List ℕ). put x s₀) (search tests)

  pub import-sizes : (s₁ : Sheet) → 3 ≤ kind → 5 ≤ kind → kind ≡ 6 → s₁ ≡ put (field a) s₀ → s₁ ≡ put (label_sizes rows kind n a) s₀
  unfolding label_sizes
  import-sizes s₁ h l d e = e ∙ ap (λ (x : List ℕ). put x s₀) (search tests)

  pub no-sizes-place : 3 ≤ kind → 5 ≤ kind → (kind ≡ 6 → ⊥) → s₀ ≡ put (label_sizes rows kind n a) s₀
  unfolding label_sizes
  no-sizes-place h l d = put-none s₀ ∙ ap (λ (x : List ℕ). put x s₀) (search tests)

pub ruleset functions = (no-sizes-data, some-sizes, import-sizes, no-sizes-place)

pub sizes-put : (rows : List ℕ) (n p a : ℕ) (s₀ s₁ s₂ : Sheet) → p ≡ (row_at rows n).b → s₁ ≡ put (field p) s₀ → a ≡ (row_at rows n).a → s₂ ≡ put (field a) s₁ → s₂ ≡ put (sizes rows n) s₀
unfolding sizes
sizes-put rows n p a s₀ s₁ s₂ e f g h =
    put_two (field (row_at rows n).b) (field (row_at rows n).a) s₀ s₁ s₂ (f ∙ ap (λ (x : ℕ). put (field x) s₀) e) (h ∙ ap (λ (x : ℕ). put (field x) s₁) g)

pub put_three : (a b c : List ℕ) (s₀ s₁ s₂ s₃ : Sheet) → s₁ ≡ put a s₀ → s₂ ≡ put b s₁ → s₃ ≡ put c s₂ → s₃ ≡ put (a ++ b ++ c) s₀
put_three a b c s₀ s₁ s₂ s₃ e f g = put_two (a ++ b) c s₀ s₂ s₃ (put_two a b s₀ s₁ s₂ e f) g

pub put_four : (a b c d : List ℕ) (s₀ s₁ s₂ s₃ s₄ : Sheet) → s₁ ≡ put a s₀ → s₂ ≡ put b s₁ → s₃ ≡ put c s₂ → s₄ ≡ put d s₃ → s₄ ≡ put (a ++ b ++ c ++ d) s₀
put_four a b c d s₀ s₁ s₂ s₃ s₄ e f g h = put_two (a ++ b ++ c) d s₀ s₃ s₄ (put_three a b c s₀ s₁ s₂ s₃ e f g) h

pub put_five : (a b c d x : List ℕ) (s₀ s₁ s₂ s₃ s₄ s₅ : Sheet) → s₁ ≡ put a s₀ → s₂ ≡ put b s₁ → s₃ ≡ put c s₂ → s₄ ≡ put d s₃ → s₅ ≡ put x s₄ → s₅ ≡ put (a ++ b ++ c ++ d ++ x) s₀
put_five a b c d x s₀ s₁ s₂ s₃ s₄ s₅ e f g h k = put_two (a ++ b ++ c ++ d) x s₀ s₄ s₅ (put_four a b c d s₀ s₁ s₂ s₃ s₄ e f g h) k

pub tail-put : (rows : List ℕ) (kind number arguments : ℕ) (s₀ s₁ s₂ s₃ s₄ s₅ : Sheet) → s₁ ≡ put (kind_word kind) s₀ → s₂ ≡ put (decimal number) s₁ → s₃ ≡ put (exported_word kind) s₂
    → s₄ ≡ put (label_sizes rows kind number arguments) s₃ → s₅ ≡ put line-end s₄ → s₅ ≡ put (label_tail rows kind number arguments) s₀
unfolding label_tail
tail-put rows kind number arguments s₀ s₁ s₂ s₃ s₄ s₅ e f g h k =
    put_five (kind_word kind) (decimal number) (exported_word kind) (label_sizes rows kind number arguments) line-end s₀ s₁ s₂ s₃ s₄ s₅ e f g h k

pub head-put : (name : List ℕ) (s₀ s₁ s₂ : Sheet) → s₁ ≡ put label-word s₀ → s₂ ≡ put (name_bytes_of name) s₁ → s₂ ≡ put (label-word ++ name_bytes_of name) s₀
head-put name s₀ s₁ s₂ e f = put_two label-word (name_bytes_of name) s₀ s₁ s₂ e f

pub label-put : (table names rows name : List ℕ) (n kind number arguments size : ℕ) (s₀ s₁ s₂ : Sheet) → kind ≡ get_or table (n * 4) 0 → number ≡ get_or table (n * 4 + 1) 0
    → arguments ≡ get_or table (n * 4 + 2) 0 → size ≡ get_or table (n * 4 + 3) 0 → name ≡ take 64 (take size (drop (n * 64) names)) → s₁ ≡ put (label-word ++ name_bytes_of name) s₀
    → s₂ ≡ put (label_tail rows kind number arguments) s₁ → s₂ ≡ put (label_line rows (label_at table names n)) s₀
unfolding label_line label_head label_at
label-put table names rows name n kind number arguments size s₀ s₁ s₂ a b g c d e f =
    put_two (label-word ++ name_bytes_of (take 64 (take (get_or table (n * 4 + 3) 0) (drop (n * 64) names))))
    (label_tail rows (get_or table (n * 4) 0) (get_or table (n * 4 + 1) 0) (get_or table (n * 4 + 2) 0)) s₀ s₁ s₂
    (e ∙ ap (λ (x : List ℕ). put (label-word ++ name_bytes_of x) s₀) (d ∙ ap (λ (k : ℕ). take 64 (take k (drop (n * 64) names))) c))
    (f ∙ ap₂ (λ (x y : ℕ). put (label_tail rows x y arguments) s₁) a b ∙ ap (λ (x : ℕ). put (label_tail rows (get_or table (n * 4) 0) (get_or table (n * 4 + 1) 0) x) s₁) g)

pub head-line-put : (statements labels size : ℕ) (s₀ s₁ s₂ s₃ s₄ s₅ : Sheet) → s₁ ≡ put accepted-word s₀ → s₂ ≡ put (field statements) s₁ → s₃ ≡ put (field labels) s₂ → s₄ ≡ put (field size) s₃ → s₅ ≡ put line-end s₄
    → s₅ ≡ put (head_line statements labels size) s₀
unfolding head_line
head-line-put statements labels size s₀ s₁ s₂ s₃ s₄ s₅ e f g h k =
    put_five accepted-word (field statements) (field labels) (field size) line-end s₀ s₁ s₂ s₃ s₄ s₅ e f g h k

pub accepted-put : (statements labels size : ℕ) (table names rows : List ℕ) (s₀ s₁ s₂ : Sheet) → s₁ ≡ put (head_line statements labels size) s₀ → s₂ ≡ put (label_lines labels table names rows 0) s₁
    → s₂ ≡ put (accepted_page statements labels size table names rows) s₀
unfolding accepted_page
accepted-put statements labels size table names rows s₀ s₁ s₂ e f =
    put_two (head_line statements labels size) (label_lines labels table names rows 0) s₀ s₁ s₂ e f

pub line-is : (source front : List ℕ) (place n : ℕ) → front ≡ take place (drop 0 source) → n ≡ newlines front → n + 1 ≡ line_of source place
unfolding line_of
line-is source front place n e f = ap (λ (k : ℕ). k + 1) (f ∙ ap newlines e)

pub refusal-put : (number : ℕ) (s₀ s₁ s₂ s₃ : Sheet) → s₁ ≡ put refused-word s₀ → s₂ ≡ put (field number) s₁ → s₃ ≡ put line_word s₂ → s₃ ≡ put (refused-word ++ field number ++ line_word) s₀
refusal-put number s₀ s₁ s₂ s₃ e f g = put_three refused-word (field number) line_word s₀ s₁ s₂ s₃ e f g

pub place-put : (line place : ℕ) (s₀ s₁ s₂ s₃ s₄ : Sheet) → s₁ ≡ put (field line) s₀ → s₂ ≡ put byte_word s₁ → s₃ ≡ put (field place) s₂ → s₄ ≡ put line-end s₃
    → s₄ ≡ put (field line ++ byte_word ++ field place ++ line-end) s₀
place-put line place s₀ s₁ s₂ s₃ s₄ e f g h = put_four (field line) byte_word (field place) line-end s₀ s₁ s₂ s₃ s₄ e f g h

pub refused-put : (source : List ℕ) (number place line : ℕ) (s₀ s₁ s₂ : Sheet) → s₁ ≡ put (refused-word ++ field number ++ line_word) s₀ → line ≡ line_of source place
    → s₂ ≡ put (field line ++ byte_word ++ field place ++ line-end) s₁ → s₂ ≡ put (refused_page source number place) s₀
unfolding refused_page
refused-put source number place line s₀ s₁ s₂ e p f =
    put_two (refused-word ++ field number ++ line_word) (field (line_of source place) ++ byte_word ++ field place ++ line-end) s₀ s₁ s₂ e
    (f ∙ ap (λ (x : ℕ). put (field x ++ byte_word ++ field place ++ line-end) s₁) p)

-- what is put from the front on: the length, and the buffer
pub put-at : (xs : List ℕ) (s : Sheet) → (put xs s).at ≡ s.at + length xs
unfolding put
put-at [] s = omega arith
put-at (x ∷ xs) s = let e = put-at xs (sheet (suc s.at) (set s.out s.at x)) in omega (arith, e)

put-behind : (xs : List ℕ) (k y : ℕ) (out : List ℕ) → (put xs (sheet (suc k) (y ∷ out))).out ≡ y ∷ (put xs (sheet k out)).out
unfolding put
put-behind [] k y out = refl
put-behind (x ∷ xs) k y out = put-behind xs (suc k) y (set out k x)

put-nowhere : (xs : List ℕ) (k : ℕ) → (put xs (sheet k [])).out ≡ []
unfolding put
put-nowhere [] k = refl
put-nowhere (x ∷ xs) k = put-nowhere xs (suc k)

pub put-over : (xs out : List ℕ) → (put xs (sheet 0 out)).out ≡ overlay xs out
unfolding put overlay
put-over [] out = sym (take-length out)
put-over (x ∷ xs) [] = put-nowhere xs 1
put-over (x ∷ xs) (y ∷ out) = put-behind xs 0 x out ∙ ap (λ (l : List ℕ). x ∷ l) (put-over xs out)

module _ (page out : List ℕ) (n : ℕ) (a b : List ℕ) (e : sheet n a ≡ put page (sheet 0 b)) where
  size_is : n ≡ length page
  size_is = let q : n ≡ (put page (sheet 0 b)).at = ap (λ (s : Sheet). s.at) e in omega (arith, q, put-at page (sheet 0 b))

  pub page-short : length out < n → shown None out ≡ shown_on page out
  unfolding shown_on
  page-short h = sym (if_lt-yes _ _ (omega (arith, size_is)))

  pub page-written : (m : ℕ) (c : List ℕ) → n ≤ length out → sheet m c ≡ put page (sheet 0 out) → shown (Some m) c ≡ shown_on page out
  unfolding shown_on
  page-written m c h f =
      let q : m ≡ (put page (sheet 0 out)).at = ap (λ (s : Sheet). s.at) f in
      let k : m ≡ length page = omega (arith, q, put-at page (sheet 0 out)) in
      ap₂ (λ (x : ℕ) (y : List ℕ). shown (Some x) y) k (ap (λ (s : Sheet). s.out) f ∙ put-over page out) ∙ sym (if_lt-no _ _ (omega (arith, size_is)))

pub ruleset pages = (page-short, page-written)
