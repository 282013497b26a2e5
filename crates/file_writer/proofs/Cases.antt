-- Bytes one behind the other, and a field whose head is written behind its bytes.
-- Assumes nothing.
use mathlib.Core.Path.{◌≡◌, refl, sym, ◌∙◌, ap, ap₂}
use mathlib.Core.Bool.{Bool, true, false}
use mathlib.Core.List.{List, [], ◌∷◌, ◌++◌}
use Prim.Native.Nat.{ℕ, suc, ◌+◌, ◌*◌, ◌-◌, ◌/◌, ◌%◌, ◌≤◌, ◌<◌}
use native.Mathlib.Omega.{arith}
use lib.ListN.{length, take, drop, set, get_or}
use lib.Seq.{set_comm}
use Rattle.base_prelude.specs.Choice.{if_true, if_eq}
use Rattle.base_prelude.proofs.Choice.{if_true-yes, if_true-no, if_eq-yes, if_eq-no}
use Rattle.base_word.specs.Bytes.{word_bytes}
use Rattle.prog_tables.specs.Label.{label_at}
use Rattle.vm_definitions.specs.Lent.{tables_of}
use Rattle.app_page.specs.Sheet.{Sheet, sheet, put}
use Rattle.app_page.proofs.Cases.{put-append, put_two, put-at, put-none, part-short}
use Rattle.file_codec.specs.Fields.{field_of}
use Rattle.file_codec.specs.Rows.{uses, word_of}
use Rattle.file_codec.specs.Labels.{label_bytes}
use Rattle.file_codec.specs.File.{counts_bytes, row_fields, label_fields, file_of}

-- one behind the other, as definitions put them together
put_three : (a b c : List ℕ) (s₀ s₁ s₂ s₃ : Sheet) → s₁ ≡ put a s₀ → s₂ ≡ put b s₁ → s₃ ≡ put c s₂ → s₃ ≡ put (a ++ (b ++ c)) s₀
put_three a b c s₀ s₁ s₂ s₃ e f g = put_two a (b ++ c) s₀ s₁ s₃ e (put_two b c s₁ s₂ s₃ f g)

put_four : (a b c d : List ℕ) (s₀ s₁ s₂ s₃ s₄ : Sheet) → s₁ ≡ put a s₀ → s₂ ≡ put b s₁ → s₃ ≡ put c s₂ → s₄ ≡ put d s₃
    → s₄ ≡ put (a ++ (b ++ (c ++ d))) s₀
put_four a b c d s₀ s₁ s₂ s₃ s₄ e f g h = put_two a (b ++ (c ++ d)) s₀ s₁ s₄ e (put_three b c d s₁ s₂ s₃ s₄ f g h)

pub put-least : (xs : List ℕ) (at r : ℕ) (o out : List ℕ) → sheet r o ≡ put xs (sheet at out) → at ≤ r
put-least xs at r o out e = let q : r ≡ (put xs (sheet at out)).at = ap (λ (s : Sheet). s.at) e in omega (arith, q, put-at xs (sheet at out))

-- ---- a word

pub word-put : (v : ℕ) (s₀ s₁ s₂ s₃ s₄ : Sheet) → s₁ ≡ put (v % 256 ∷ []) s₀ → s₂ ≡ put (v / 256 % 256 ∷ []) s₁
    → s₃ ≡ put (v / 256 / 256 % 256 ∷ []) s₂ → s₄ ≡ put (v / 256 / 256 / 256 % 256 ∷ []) s₃ → s₄ ≡ put (word_bytes 4 v) s₀
unfolding word_bytes
word-put v s₀ s₁ s₂ s₃ s₄ e f g h =
    put_four (v % 256 ∷ []) (v / 256 % 256 ∷ []) (v / 256 / 256 % 256 ∷ []) (v / 256 / 256 / 256 % 256 ∷ []) s₀ s₁ s₂ s₃ s₄ e f g h

pub head-put : (tag n : ℕ) (s₀ s₁ s₂ s₃ : Sheet) → s₁ ≡ put (tag ∷ []) s₀ → s₂ ≡ put (n % 256 ∷ []) s₁ → s₃ ≡ put (n / 256 % 256 ∷ []) s₂
    → s₃ ≡ put (tag ∷ word_bytes 2 n) s₀
unfolding word_bytes
head-put tag n s₀ s₁ s₂ s₃ e f g = put_three (tag ∷ []) (n % 256 ∷ []) (n / 256 % 256 ∷ []) s₀ s₁ s₂ s₃ e f g

pub part-put : (s x : List ℕ) (from n : ℕ) (s₀ s₁ : Sheet) → x ≡ take n (drop from s) → s₁ ≡ put x s₀ → s₁ ≡ put (take n (drop from s)) s₀
part-put s x from n s₀ s₁ e f = f ∙ ap (λ (y : List ℕ). put y s₀) e

pub part-few : (s x : List ℕ) (from n : ℕ) → x ≡ take n (drop from s) → n < 4294967296 → length x ≤ 4294967296
part-few s x from n e h = omega (arith, part-short s x from n e)

pub part-near : (s x : List ℕ) (from n at to : ℕ) → x ≡ take n (drop from s) → n < 4294967296 → to ≤ at + length x → to ≤ at + 4294967296
part-near s x from n at to e h l = omega (arith, part-short s x from n e)

-- ---- a field: its bytes first, then its head before them

put-past : (xs : List ℕ) (a b x : ℕ) (out : List ℕ) → a < b → set (put xs (sheet b out)).out a x ≡ (put xs (sheet b (set out a x))).out
unfolding put
put-past [] a b x out h = refl
put-past (y ∷ ys) a b x out h =
    put-past ys a (suc b) x (set out b y) (omega arith)
    ∙ ap (λ (l : List ℕ). (put ys (sheet (suc b) l)).out) (set_comm out b a y x (λ e. omega (arith, e)))

put-before : (hs xs : List ℕ) (at : ℕ) (out : List ℕ)
    → (put hs (sheet at (put xs (sheet (at + length hs) out)).out)).out ≡ (put xs (put hs (sheet at out))).out
unfolding put
put-before [] xs at out = let z : at + 0 ≡ at = omega arith in ap (λ (n : ℕ). (put xs (sheet n out)).out) z
put-before (h ∷ hs) xs at out =
    let z : at + suc (length hs) ≡ suc at + length hs = omega arith in
    ap (λ (l : List ℕ). (put hs (sheet (suc at) l)).out)
    (put-past xs at (at + suc (length hs)) h out (omega arith) ∙ ap (λ (n : ℕ). (put xs (sheet n (set out at h))).out) z)
    ∙ put-before hs xs (suc at) (set out at h)

two-long : (n : ℕ) → length (word_bytes 2 n) ≡ 2
unfolding word_bytes
two-long n = refl

module _ (tag at : ℕ) (body out : List ℕ) (end : ℕ) (o₁ : List ℕ) (e : sheet end o₁ ≡ put body (sheet (at + 3) out)) where
  end_is : end ≡ at + 3 + length body
  end_is = let q : end ≡ (put body (sheet (at + 3) out)).at = ap (λ (s : Sheet). s.at) e in omega (arith, q, put-at body (sheet (at + 3) out))

  pub field_put : (r n : ℕ) (o₂ : List ℕ) → sheet r o₂ ≡ put (tag ∷ word_bytes 2 n) (sheet at o₁) → n ≡ end - (at + 3)
      → sheet end o₂ ≡ put (field_of tag body) (sheet at out)
  unfolding field_of
  field_put r n o₂ f g = ap₂ sheet ends fills ∙ sym (put-append hs body (sheet at out))
    where
      hs : List ℕ
      hs = tag ∷ word_bytes 2 (length body)

      n-is : n ≡ length body
      n-is = omega (arith, end_is, g)

      long : length hs ≡ 3
      long = ap suc (two-long (length body))

      place : at + 3 ≡ at + length hs
      place = omega (arith, long)

      ends : end ≡ (put body (put hs (sheet at out))).at
      ends = omega (arith, end_is, put-at body (put hs (sheet at out)), put-at hs (sheet at out), long)

      fills : o₂ ≡ (put body (put hs (sheet at out))).out
      fills =
          ap (λ (s : Sheet). s.out) f
          ∙ ap (λ (m : ℕ). (put (tag ∷ word_bytes 2 m) (sheet at o₁)).out) n-is
          ∙ ap (λ (l : List ℕ). (put hs (sheet at l)).out) (ap (λ (s : Sheet). s.out) e ∙ ap (λ (m : ℕ). (put body (sheet m out)).out) place)
          ∙ put-before hs body at out

-- that of the counts stands at the front
pub first-put : (tag : ℕ) (body out : List ℕ) (end : ℕ) (o₁ : List ℕ) → sheet end o₁ ≡ put body (sheet 3 out) → (r n : ℕ) (o₂ : List ℕ)
    → sheet r o₂ ≡ put (tag ∷ word_bytes 2 n) (sheet 0 o₁) → n ≡ end - 3 → sheet end o₂ ≡ put (field_of tag body) (sheet 0 out)
first-put tag body out end o₁ e r n o₂ f g = field_put tag 0 body out end o₁ e r n o₂ f g

-- ---- bodies

pub counts-put : (c k d : ℕ) (s₀ s₁ s₂ s₃ : Sheet) → s₁ ≡ put (word_bytes 4 c) s₀ → s₂ ≡ put (word_bytes 4 k) s₁ → s₃ ≡ put (word_bytes 4 d) s₂
    → s₃ ≡ put (counts_bytes c k d) s₀
unfolding counts_bytes
counts-put c k d s₀ s₁ s₂ s₃ e f g = put_three (word_bytes 4 c) (word_bytes 4 k) (word_bytes 4 d) s₀ s₁ s₂ s₃ e f g

module _ (k e m : ℕ) (t : List ℕ) (n j : ℕ) (s₀ : Sheet) (b : Bool) (q : b ≡ uses k e m j) where
  pub used-put : (v : ℕ) (s₁ : Sheet) → b ≡ true → v ≡ get_or t (n * 27 + j) 0 → s₁ ≡ put (word_bytes 4 v) s₀
      → s₁ ≡ put (if_true (uses k e m j) (word_bytes 4 (word_of t n j)) []) s₀
  used-put v s₁ h p f =
      f ∙ ap (λ (x : ℕ). put (word_bytes 4 x) s₀) p
      ∙ ap (λ (x : List ℕ). put x s₀) (sym (if_true-yes (word_bytes 4 (word_of t n j)) [] (sym q ∙ h)))

  pub unused-put : b ≡ false → s₀ ≡ put (if_true (uses k e m j) (word_bytes 4 (word_of t n j)) []) s₀
  unused-put h = put-none s₀ ∙ ap (λ (x : List ℕ). put x s₀) (sym (if_true-no (word_bytes 4 (word_of t n j)) [] (sym q ∙ h)))

pub ruleset used-ways = (used-put, unused-put)

module _ (k a : ℕ) (s₀ : Sheet) where
  pub arguments-put : (s₁ : Sheet) → k ≡ 6 → s₁ ≡ put (word_bytes 4 a) s₀ → s₁ ≡ put (if_eq k 6 (word_bytes 4 a) []) s₀
  arguments-put s₁ h f = f ∙ ap (λ (x : List ℕ). put x s₀) (sym (if_eq-yes (word_bytes 4 a) [] h))

  pub no_arguments : (k ≡ 6 → ⊥) → s₀ ≡ put (if_eq k 6 (word_bytes 4 a) []) s₀
  no_arguments h = put-none s₀ ∙ ap (λ (x : List ℕ). put x s₀) (sym (if_eq-no (word_bytes 4 a) [] h))

pub ruleset argument-ways = (arguments-put, no_arguments)

pub label-put : (l names : List ℕ) (n kind number arguments size : ℕ) (s₀ s₁ s₂ s₃ s₄ : Sheet) → kind ≡ get_or l (n * 4) 0
    → number ≡ get_or l (n * 4 + 1) 0 → arguments ≡ get_or l (n * 4 + 2) 0 → size ≡ get_or l (n * 4 + 3) 0 → s₁ ≡ put (word_bytes 4 kind) s₀
    → s₂ ≡ put (word_bytes 4 number) s₁ → s₃ ≡ put (if_eq kind 6 (word_bytes 4 arguments) []) s₂ → s₄ ≡ put (take size (drop (n * 64) names)) s₃
    → s₄ ≡ put (label_bytes (label_at l names n)) s₀
unfolding label_bytes label_at
label-put l names n kind number arguments size s₀ s₁ s₂ s₃ s₄ p q o r e f g h =
    rw (← p, ← q, ← o, ← r)
    (put_four (word_bytes 4 kind) (word_bytes 4 number) (if_eq kind 6 (word_bytes 4 arguments) []) (take size (drop (n * 64) names)) s₀ s₁ s₂ s₃ s₄ e f g h)

pub file-put : (t : List ℕ) (c : ℕ) (l : List ℕ) (k : ℕ) (names : List ℕ) (d : ℕ) (bytes : List ℕ) (s₀ s₁ s₂ s₃ s₄ : Sheet)
    → s₁ ≡ put (field_of 1 (counts_bytes c k d)) s₀ → s₂ ≡ put (field_of 2 (take d bytes)) s₁ → s₃ ≡ put (row_fields t c 0) s₂
    → s₄ ≡ put (label_fields l names k 0) s₃ → s₄ ≡ put (file_of (tables_of t c l k names d) bytes) s₀
unfolding file_of
file-put t c l k names d bytes s₀ s₁ s₂ s₃ s₄ e f g h =
    put_four (field_of 1 (counts_bytes c k d)) (field_of 2 (take d bytes)) (row_fields t c 0) (label_fields l names k 0) s₀ s₁ s₂ s₃ s₄ e f g h
