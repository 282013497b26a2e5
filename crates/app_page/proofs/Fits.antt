-- How long a page can be.
-- Assumes nothing.
use mathlib.Core.List.{List, [], ◌∷◌, ◌++◌}
use Prim.Native.Nat.{ℕ, zero, suc, ◌+◌, ◌*◌, ◌/◌, ◌%◌, ◌≤◌, min}
use native.Mathlib.Omega.{arith}
use lib.ListN.{length, take, length-append, length-take}
use Rattle.base_prelude.proofs.Choice.{either, either-eq, either_true}
use Rattle.prog_tables.specs.Statement.{row_at}
use Rattle.prog_tables.specs.Label.{Label, label_at}
use Rattle.app_page.specs.Bytes.{digits_within, decimal, field, name_byte, name_bytes_of, accepted-word, label-word, refused-word, line_word, byte_word, line-end}
use Rattle.app_page.specs.Page.{head_line, kind_word, exported_word, sizes, label_sizes, label_tail, label_head, label_line, label_lines, accepted_page, line_of, refused_page}

-- of at most n bytes
abbrev Within : ℕ → List ℕ → Type 0
Within n xs = length xs ≤ n

both-within : (a b : ℕ) (xs ys : List ℕ) → Within a xs → Within b ys → Within (a + b) (xs ++ ys)
both-within a b xs ys p q = omega (arith, length-append xs ys, p, q)

digits-within : (k n : ℕ) → Within k (digits_within k n)
unfolding digits_within
digits-within zero n = omega arith
digits-within (suc k) n =
    either (Within (suc k)) _ _ _ _ (λ _. omega arith)
    (λ _. omega (arith, length-append (digits_within k (n / 10)) ((48 + n % 10) ∷ []), digits-within k (n / 10)))

decimal-within : (n : ℕ) → Within 20 (decimal n)
unfolding decimal
decimal-within n = digits-within 20 n

field-within : (n : ℕ) → Within 21 (field n)
unfolding field
field-within n = both-within 1 20 (32 ∷ []) (decimal n) (omega arith) (decimal-within n)

byte-within : (c : ℕ) → Within 4 (name_byte c)
unfolding name_byte
byte-within c = either_true (Within 4) _ _ _ (λ _. omega arith) (λ _. omega arith)

name-within : (cs : List ℕ) → Within (4 * length cs) (name_bytes_of cs)
unfolding name_bytes_of
name-within [] = omega arith
name-within (c ∷ cs) = omega (arith, length-append (name_byte c) (name_bytes_of cs), byte-within c, name-within cs)

head-within : (name : List ℕ) → Within 262 (label_head name)
unfolding label_head
head-within name =
    omega (arith, length-append label-word (name_bytes_of (take 64 name)), name-within (take 64 name), length-take 64 name, least 64 (length name))
  where
    least : (a b : ℕ) → min a b ≤ a
    least a b = omega arith

kind-within : (k : ℕ) → Within 10 (kind_word k)
unfolding kind_word
kind-within k =
    either (Within 10) _ _ _ _ (λ _. omega arith)
    (λ _. either (Within 10) _ _ _ _ (λ _. omega arith) (λ _. either-eq (Within 10) _ _ _ _ (λ _. omega arith) (λ _. omega arith)))

exported-within : (k : ℕ) → Within 4 (exported_word k)
unfolding exported_word
exported-within k =
    either-eq (Within 4) _ _ _ _ (λ _. omega arith) (λ _. either-eq (Within 4) _ _ _ _ (λ _. omega arith) (λ _. omega arith))

sizes-within : (rows : List ℕ) (n : ℕ) → Within 42 (sizes rows n)
unfolding sizes
sizes-within rows n = both-within 21 21 (field (row_at rows n).b) (field (row_at rows n).a) (field-within (row_at rows n).b) (field-within (row_at rows n).a)

label-sizes-within : (rows : List ℕ) (k n a : ℕ) → Within 42 (label_sizes rows k n a)
unfolding label_sizes
label-sizes-within rows k n a =
    either (Within 42) _ _ _ _ (λ _. omega arith)
    (λ _. either (Within 42) _ _ _ _ (λ _. sizes-within rows n) (λ _. either-eq (Within 42) _ _ _ _ (λ _. omega (arith, field-within a)) (λ _. omega arith)))

tail_within : (rows : List ℕ) (k n a : ℕ) → Within 77 (label_tail rows k n a)
unfolding label_tail
tail_within rows k n a =
    both-within 76 1 (kind_word k ++ decimal n ++ exported_word k ++ label_sizes rows k n a) line-end
    (both-within 34 42 (kind_word k ++ decimal n ++ exported_word k) (label_sizes rows k n a)
    (both-within 30 4 (kind_word k ++ decimal n) (exported_word k)
    (both-within 10 20 (kind_word k) (decimal n) (kind-within k) (decimal-within n)) (exported-within k))
    (label-sizes-within rows k n a))
    (omega arith)

line-within : (rows : List ℕ) (l : Label) → Within 339 (label_line rows l)
unfolding label_line
line-within rows l = both-within 262 77 (label_head l.name) (label_tail rows l.kind l.number l.arguments) (head-within l.name) (tail_within rows l.kind l.number l.arguments)

lines-within : (left : ℕ) (table names rows : List ℕ) (i : ℕ) → Within (left * 339) (label_lines left table names rows i)
unfolding label_lines
lines-within zero table names rows i = omega arith
lines-within (suc left) table names rows i =
    omega (arith, length-append (label_line rows (label_at table names i)) (label_lines left table names rows (suc i)), line-within rows (label_at table names i), lines-within left table names rows (suc i))

head-line-within : (statements labels size : ℕ) → Within 72 (head_line statements labels size)
unfolding head_line
head-line-within statements labels size =
    both-within 71 1 (accepted-word ++ field statements ++ field labels ++ field size) line-end
    (both-within 50 21 (accepted-word ++ field statements ++ field labels) (field size)
    (both-within 29 21 (accepted-word ++ field statements) (field labels)
    (both-within 8 21 accepted-word (field statements) (omega arith) (field-within statements)) (field-within labels))
    (field-within size))
    (omega arith)

pub accepted-within : (statements labels size : ℕ) (table names rows : List ℕ) → length (accepted_page statements labels size table names rows) ≤ 72 + labels * 339
unfolding accepted_page
accepted-within statements labels size table names rows =
    both-within 72 (labels * 339) (head_line statements labels size) (label_lines labels table names rows 0)
    (head-line-within statements labels size) (lines-within labels table names rows 0)

pub refused-within : (source : List ℕ) (number place : ℕ) → length (refused_page source number place) ≤ 81
unfolding refused_page
refused-within source number place =
    both-within 33 48 (refused-word ++ field number ++ line_word) (field (line_of source place) ++ byte_word ++ field place ++ line-end)
    (both-within 28 5 (refused-word ++ field number) line_word
    (both-within 7 21 refused-word (field number) (omega arith) (field-within number)) (omega arith))
    (both-within 47 1 (field (line_of source place) ++ byte_word ++ field place) line-end
    (both-within 26 21 (field (line_of source place) ++ byte_word) (field place)
    (both-within 21 5 (field (line_of source place)) byte_word (field-within (line_of source place)) (omega arith)) (field-within place))
    (omega arith))
