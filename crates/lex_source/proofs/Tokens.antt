-- Lists of tokens: what holds of each; the number of a name.
-- Assumes nothing.
use mathlib.Core.Path.{◌≡◌, refl, sym, ◌∙◌, ap, subst}
use mathlib.Core.Bool.{Bool, true, false}
use mathlib.Core.List.{List, [], ◌∷◌, ◌++◌}
use Prim.Native.Nat.{ℕ, zero, suc, ◌+◌, ◌*◌, ◌<◌}
use native.Mathlib.Nat.{le_of_suc-le-suc, not-suc-le-zero}
use native.Mathlib.Omega.{arith}
use lib.Dec.{T}
use lib.ListN.{length, get_or, take}
use Rattle.base_prelude.specs.Choice.{if_eq, if_true}
use Rattle.base_prelude.specs.Lists.{same_list}
use Rattle.base_prelude.proofs.Choice.{either-eq, if_true-yes, if_true-no}
use Rattle.base_prelude.proofs.Lists.{same-is}
use Rattle.lex_spelling.specs.Text.{name_at, hash_of}
use Rattle.lex_lexeme.specs.Reading.{is_named, name_start}
use Rattle.lex_source.specs.Token.{Token, has_name, first_from, name_number}
use Rattle.lex_source.specs.Rows.{row_of, rows_of}
use Rattle.lex_source.specs.Filling.{row_named, find_within, find_name}
use Rattle.lex_source.proofs.Rows.{table-read}

abbrev pub no_token : Token
no_token = record { kind = 0; first = 0; next = 0; value = 0; text = []; name = 0; word = 0 }

abbrev pub Every : (Token → Type 0) → List Token → Type 0
Every P [] = Unit {0}
Every P (t ∷ ts) = P t × Every P ts

pub every_more : (P : Token → Type 0) (ts : List Token) (t : Token) → Every P ts → P t → Every P (ts ++ (t ∷ []))
every_more P [] t h p = (p, tt)
every_more P (x ∷ ts) t h p = (h.0, every_more P ts t h.1 p)

pub every-at : (P : Token → Type 0) (ts : List Token) (k : ℕ) → Every P ts → k < length ts → P (get_or ts k no_token)
every-at P [] k h l = absurd (not-suc-le-zero l)
every-at P (t ∷ ts) zero h l = h.0
every-at P (t ∷ ts) (suc k) h l = every-at P ts k h.1 (le_of_suc-le-suc l)

-- a named token's text is read where its row says
abbrev pub Spelt : List ℕ → Token → Type 0
Spelt s t = is_named t.kind ≡ true → t.text ≡ name_at s (name_start s t.kind t.first)

bool-true : (b : Bool) → T b → b ≡ true
bool-true true t = refl
bool-true false t = absurd t

bool_false : (b : Bool) → (b ≡ true → ⊥) → b ≡ false
bool_false true h = absurd (h refl)
bool_false false h = refl

-- equal texts have equal hashes, so different hashes different texts
other-hash : (a b : List ℕ) → (hash_of a ≡ hash_of b → ⊥) → same_list a b ≡ false
other-hash a b h = bool_false (same_list a b) (λ e. h (ap hash_of (same-is a b (subst T (sym e) tt))))

-- a row compared is a token compared
named-row : (s t : List ℕ) (x : Token) (k start : ℕ) (text : List ℕ) → text ≡ name_at s start → Spelt s x
    → get_or t (k * 8) 0 ≡ x.kind → get_or t (k * 8 + 1) 0 ≡ x.first → get_or t (k * 8 + 6) 0 ≡ hash_of x.text
    → row_named s t k (hash_of text) start ≡ has_name x text
unfolding row_named has_name
named-row s t x k start text e sp a b c =
    ap (λ (i : ℕ). if_eq (get_or t (k * 8 + 6) 0) (hash_of text) (if_true (is_named i) (same_list (name_at s (name_start s i (get_or t (k * 8 + 1) 0))) (name_at s start)) false) false) a
    ∙ ap (λ (i : ℕ). if_eq (get_or t (k * 8 + 6) 0) (hash_of text) (if_true (is_named x.kind) (same_list (name_at s (name_start s x.kind i)) (name_at s start)) false) false) b
    ∙ ap (λ (i : ℕ). if_eq i (hash_of text) (if_true (is_named x.kind) (same_list (name_at s (name_start s x.kind x.first)) (name_at s start)) false) false) c
    ∙ ap (λ (l : List ℕ). if_eq (hash_of x.text) (hash_of text) (if_true (is_named x.kind) (same_list (name_at s (name_start s x.kind x.first)) l) false) false) (sym e)
    ∙ by (is_named x.kind) refl
  where
    by : (b : Bool) → is_named x.kind ≡ b
        → if_eq (hash_of x.text) (hash_of text) (if_true (is_named x.kind) (same_list (name_at s (name_start s x.kind x.first)) text) false) false
        ≡ if_true (is_named x.kind) (same_list x.text text) false
    by true q =
        ap (λ (l : List ℕ). if_eq (hash_of x.text) (hash_of text) (if_true (is_named x.kind) (same_list l text) false) false) (sym (sp q))
        ∙ either-eq (λ (r : Bool). r ≡ if_true (is_named x.kind) (same_list x.text text) false) (hash_of x.text) (hash_of text) _ _
        (λ _. refl)
        (λ h. sym (if_true-yes _ _ q ∙ other-hash x.text text h))
    by false q =
        either-eq (λ (r : Bool). r ≡ if_true (is_named x.kind) (same_list x.text text) false) (hash_of x.text) (hash_of text) _ _
        (λ _. if_true-no _ _ q ∙ sym (if_true-no _ _ q))
        (λ _. sym (if_true-no _ _ q))

find-is : (s t : List ℕ) (hash start : ℕ) (text : List ℕ) (ts : List Token) (k : ℕ)
    → ((j : ℕ) → j < length ts → row_named s t (k + j) hash start ≡ has_name (get_or ts j no_token) text)
    → find_within (length ts) s t k hash start ≡ first_from k ts text
unfolding find_within first_from
find-is s t hash start text [] k h = refl
find-is s t hash start text (x ∷ ts) k h =
    let z : k + 0 ≡ k = omega arith in
    ap (λ (b : Bool). if_true b k (find_within (length ts) s t (k + 1) hash start)) (ap (λ (i : ℕ). row_named s t i hash start) (sym z) ∙ h 0 (omega arith))
    ∙ ap (λ (n : ℕ). if_true (has_name x text) k n)
    (find-is s t hash start text ts (k + 1)
    (λ j l. let e : k + 1 + j ≡ k + suc j = omega arith in ap (λ (i : ℕ). row_named s t i hash start) e ∙ h (suc j) (omega arith)))

-- the number that the code finds is the name's number
pub number_is : (s t : List ℕ) (ts : List Token) (n start : ℕ) → take (n * 8) t ≡ rows_of ts → n ≡ length ts → Every (Spelt s) ts
    → find_name s t n (hash_of (name_at s start)) start ≡ name_number ts (name_at s start)
unfolding find_name name_number row_of
number_is s t ts n start e q h =
    ap (λ (m : ℕ). find_within m s t 0 (hash_of (name_at s start)) start) q
    ∙ find-is s t (hash_of (name_at s start)) start (name_at s start) ts 0 (λ j l.
    let z : 0 + j ≡ j = omega arith in
    ap (λ (i : ℕ). row_named s t i (hash_of (name_at s start)) start) z
    ∙ named-row s t (get_or ts j no_token) j start (name_at s start) refl (every-at (Spelt s) ts j h l)
    (ap (λ (i : ℕ). get_or t i 0) (sym (none j)) ∙ word_at j 0 l (omega arith))
    (word_at j 1 l (omega arith))
    (word_at j 6 l (omega arith)))
  where
    none : (j : ℕ) → j * 8 + 0 ≡ j * 8
    none j = omega arith

    word_at : (j f : ℕ) → j < length ts → f < 8 → get_or t (j * 8 + f) 0 ≡ get_or (row_of (get_or ts j no_token)) f 0
    word_at j f l g = table-read no_token ts t n j f e q (subst (λ (m : ℕ). j < m) (sym q) l) g
