-- Classes of bytes, and the loops over blanks and continuations.
-- Assumes nothing.
use mathlib.Core.Path.{◌≡◌, refl, sym, ◌∙◌, ap}
use mathlib.Core.Bool.{Bool, true, false}
use mathlib.Core.List.{List}
use Prim.Native.Nat.{ℕ, suc, ◌+◌, ◌-◌, ◌≤◌, ◌<◌, max}
use native.Mathlib.Decide.{dec_le}
use native.Mathlib.Omega.{arith}
use lib.ListN.{length, get_or-eq_default}
use Rattle.base_prelude.specs.Choice.{if_eq}
use Rattle.base_prelude.specs.Bytes.{byte_at}
use Rattle.base_prelude.specs.Walk.{go, stop}
use Rattle.base_prelude.proofs.Choice.{if_true-yes, if_true-no, if_eq-no, either, either-eq, either_true, true-false}
use Rattle.base_prelude.proofs.Bytes.{byte-within}
use Rattle.base_prelude.proofs.Walk.{Runs, runs-start, runs-go, runs-stop, Kept, walk_kept, Ends, walk_ends, walk-stop}
use Rattle.lex_spelling.specs.Classes.{is_blank, is_digit, is_letter, is_name_byte}
use Rattle.lex_spelling.specs.Continuation.{blank_step, blanks_end, is_joint, join_step, joined}

-- past the end no byte stands
pub byte_past : (s : List ℕ) (i : ℕ) → length s ≤ i → byte_at s i ≡ 256
unfolding byte_at
byte_past s i h = get_or-eq_default s 256 h

-- a class holds of bytes only
abbrev Small : ℕ → Bool → Type 0
Small c b = b ≡ true → c < 256

pub blank-byte : (c : ℕ) → Small c (is_blank c)
unfolding is_blank
blank-byte c =
    either-eq (Small c) c 32 _ _ (λ h _. omega arith) (λ _.
    either-eq (Small c) c 9 _ _ (λ h _. omega arith) (λ _.
    either-eq (Small c) c 13 _ _ (λ h _. omega arith) (λ _ e. true-false (sym e))))

pub digit-byte : (c : ℕ) → Small c (is_digit c)
unfolding is_digit
digit-byte c =
    either (Small c) c 48 _ _ (λ _ e. true-false (sym e)) (λ _.
    either (Small c) c 58 _ _ (λ h _. omega arith) (λ _ e. true-false (sym e)))

pub letter-byte : (c : ℕ) → Small c (is_letter c)
unfolding is_letter
letter-byte c =
    either (Small c) c 65 _ _ (λ _ e. true-false (sym e)) (λ _.
    either (Small c) c 91 _ _ (λ h _. omega arith) (λ _.
    either-eq (Small c) c 95 _ _ (λ h _. omega arith) (λ _.
    either (Small c) c 97 _ _ (λ _ e. true-false (sym e)) (λ _.
    either (Small c) c 123 _ _ (λ h _. omega arith) (λ _ e. true-false (sym e))))))

pub name-byte : (c : ℕ) → Small c (is_name_byte c)
unfolding is_name_byte
name-byte c =
    either_true (Small c) (is_letter c) _ _ (λ h _. letter-byte c h) (λ _.
    either_true (Small c) (is_digit c) _ _ (λ h _. digit-byte c h) (λ _.
    either-eq (Small c) c 45 _ _ (λ h _. omega arith) (λ _ e. true-false (sym e))))

no-blank : is_blank 256 ≡ false
unfolding is_blank if_eq
no-blank = refl

module _ (s : List ℕ) (i : ℕ) where
  blank-go : is_blank (byte_at s i) ≡ true → blank_step s i ≡ go (i + 1)
  unfolding blank_step
  blank-go e = if_true-yes _ _ e

  blank-stop : is_blank (byte_at s i) ≡ false → blank_step s i ≡ stop i
  unfolding blank_step
  blank-stop e = if_true-no _ _ e

  join-go : is_joint s i ≡ true → join_step s i ≡ go (blanks_end s (i + 2))
  unfolding join_step
  join-go e = if_true-yes _ _ e

  join-stop : is_joint s i ≡ false → join_step s i ≡ stop i
  unfolding join_step
  join-stop e = if_true-no _ _ e

  no-joint : length s ≤ i → is_joint s i ≡ false
  unfolding is_joint
  no-joint h = if_eq-no _ _ (λ e. let z : ⊥ = omega (arith, byte_past s i h) in z)

  -- a continuation is two bytes of the text
  pub joint-within : is_joint s i ≡ true → i + 2 ≤ length s
  unfolding is_joint
  joint-within =
      either-eq (λ (b : Bool). b ≡ true → i + 2 ≤ length s) (byte_at s i) 92 _ _
      (λ _. either-eq (λ (b : Bool). b ≡ true → i + 2 ≤ length s) (byte_at s (i + 1)) 10 _ _
      (λ h _. let w : i + 1 < length s = byte-within s (i + 1) (omega arith) in omega arith)
      (λ _ e. true-false (sym e)))
      (λ _ e. true-false (sym e))

module _ (s : List ℕ) (at : ℕ) where
  blank-from : (i : ℕ) → at ≤ i → Kept (λ (j : ℕ). at ≤ j) (λ (j : ℕ). at ≤ j) (blank_step s i)
  unfolding blank_step
  blank-from i h = either_true (Kept (λ (j : ℕ). at ≤ j) (λ (j : ℕ). at ≤ j)) (is_blank (byte_at s i)) _ _ (λ _. omega arith) (λ _. h)

  pub blanks-from : at ≤ blanks_end s at
  unfolding blanks_end
  blanks-from =
      walk_kept (λ (j : ℕ). at ≤ j) (λ (j : ℕ). at ≤ j) (blank_step s) at (omega arith) blank-from (suc (length s)) at (omega arith)

  blank-in : (i : ℕ) → i ≤ length s → Kept (λ (j : ℕ). j ≤ length s) (λ (j : ℕ). j ≤ length s) (blank_step s i)
  unfolding blank_step
  blank-in i h =
      either_true (Kept (λ (j : ℕ). j ≤ length s) (λ (j : ℕ). j ≤ length s)) (is_blank (byte_at s i)) _ _
      (λ e. let w : i < length s = byte-within s i (blank-byte (byte_at s i) e) in omega arith)
      (λ _. h)

  pub blanks-in : at ≤ length s → blanks_end s at ≤ length s
  unfolding blanks_end
  blanks-in h =
      walk_kept (λ (j : ℕ). j ≤ length s) (λ (j : ℕ). j ≤ length s) (blank_step s) at h blank-in (suc (length s)) at h

module _ (s : List ℕ) (at : ℕ) where
  join-from : (i : ℕ) → at ≤ i → Kept (λ (j : ℕ). at ≤ j) (λ (j : ℕ). at ≤ j) (join_step s i)
  unfolding join_step
  join-from i h =
      either_true (Kept (λ (j : ℕ). at ≤ j) (λ (j : ℕ). at ≤ j)) (is_joint s i) _ _ (λ _. omega (arith, blanks-from s (i + 2))) (λ _. h)

  pub joined-from : at ≤ joined s at
  unfolding joined
  joined-from =
      walk_kept (λ (j : ℕ). at ≤ j) (λ (j : ℕ). at ≤ j) (join_step s) at (omega arith) join-from (suc (length s)) at (omega arith)

  join-in : (i : ℕ) → i ≤ length s → Kept (λ (j : ℕ). j ≤ length s) (λ (j : ℕ). j ≤ length s) (join_step s i)
  unfolding join_step
  join-in i h =
      either_true (Kept (λ (j : ℕ). j ≤ length s) (λ (j : ℕ). j ≤ length s)) (is_joint s i) _ _
      (λ e. blanks-in s (i + 2) (joint-within s i e))
      (λ _. h)

  pub joined_in : at ≤ length s → joined s at ≤ length s
  unfolding joined
  joined_in h =
      walk_kept (λ (j : ℕ). j ≤ length s) (λ (j : ℕ). j ≤ length s) (join_step s) at h join-in (suc (length s)) at h

-- from any place, at most the text's length further
joint-top : (s : List ℕ) (at i : ℕ) → i ≤ at + length s → Kept (λ (j : ℕ). j ≤ at + length s) (λ (j : ℕ). j ≤ at + length s) (join_step s i)
unfolding join_step
joint-top s at i h =
    either_true (Kept (λ (j : ℕ). j ≤ at + length s) (λ (j : ℕ). j ≤ at + length s)) (is_joint s i) _ _
    (λ e. omega (arith, blanks-in s (i + 2) (joint-within s i e)))
    (λ _. h)

pub joined-top : (s : List ℕ) (at : ℕ) → joined s at ≤ at + length s
unfolding joined
joined-top s at =
    walk_kept (λ (j : ℕ). j ≤ at + length s) (λ (j : ℕ). j ≤ at + length s) (join_step s) at (omega arith) (joint-top s at) (suc (length s)) at (omega arith)

-- behind continuations no continuation stands
join-ends : (s : List ℕ) (i : ℕ) → Ends (λ (j : ℕ). Unit {0}) (λ (j : ℕ). is_joint s j ≡ false) (λ (j : ℕ). length s - j) i (join_step s i)
unfolding join_step
join-ends s i =
    either_true (Ends (λ (j : ℕ). Unit {0}) (λ (j : ℕ). is_joint s j ≡ false) (λ (j : ℕ). length s - j) i) (is_joint s i) _ _
    (λ e. let w : i + 2 ≤ length s = joint-within s i e in (tt, omega (arith, blanks-from s (i + 2))))
    (λ e. e)

pub joined-none : (s : List ℕ) (at : ℕ) → is_joint s (joined s at) ≡ false
unfolding joined
joined-none s at =
    walk_ends (λ (j : ℕ). Unit {0}) (λ (j : ℕ). is_joint s j ≡ false) (λ (j : ℕ). length s - j) (join_step s) at (λ i _. join-ends s i) (suc (length s)) at (omega arith) tt

-- where none stands, the place is the same
join-here : (s : List ℕ) (i : ℕ) → is_joint s i ≡ false → join_step s i ≡ stop i
unfolding join_step
join-here s i e = if_true-no _ _ e

pub joined_same : (s : List ℕ) (at : ℕ) → is_joint s at ≡ false → joined s at ≡ at
unfolding joined
joined_same s at e = walk-stop (join_step s) at (length s) at at (join-here s at e)

-- the loop of `blanks_end`
pub record Blanks (s : List ℕ) (at i : ℕ) : Type 0 where
  pub runs : Runs (blank_step s) at (blanks_end s at) i (suc (length s - i))

module _ (s : List ℕ) (at i : ℕ) where
  pub blanks-start : Blanks s at at
  unfolding blanks_end
  blanks-start = record { runs = runs-start _ _ _ _ _ (omega arith) }

  pub blanks-more : (c : ℕ) (b : Bool) → Blanks s at i → i < length s → c ≡ byte_at s i → b ≡ is_blank c → b ≡ true → Blanks s at (i + 1)
  blanks-more c b h l p q e =
      record { runs = runs-go _ _ _ _ _ (length s - i) _ h.runs (blank-go s i (ap is_blank (sym p) ∙ sym q ∙ e)) (omega arith) }

  pub blanks-stop : (c : ℕ) (b : Bool) → Blanks s at i → c ≡ byte_at s i → b ≡ is_blank c → b ≡ false → i ≡ blanks_end s at
  blanks-stop c b h p q e = runs-stop _ _ _ _ _ _ h.runs (blank-stop s i (ap is_blank (sym p) ∙ sym q ∙ e))

  pub blanks-past : Blanks s at i → length s ≤ i → i ≡ blanks_end s at
  blanks-past h l = runs-stop _ _ _ _ _ _ h.runs (blank-stop s i (ap is_blank (byte_past s i l) ∙ no-blank))

  -- a place past the end stays
  pub blanks-all : (m : ℕ) → Blanks s at i → m ≡ max at (length s) → at ≤ i → (at ≤ length s → i ≤ length s) → length s ≤ i → m ≡ blanks_end s at
  blanks-all m h e l g k =
      elim (dec_le at (length s)) [
        | yes w ↦ let f : i ≤ length s = g w in let z : m ≡ i = omega arith in z ∙ blanks-past h k
        | no w ↦ let z : m ≡ at = omega arith in
            z ∙ runs-stop _ _ _ _ _ _ start.runs (blank-stop s at (ap is_blank (byte_past s at (omega arith)) ∙ no-blank))
      ]
    where
      start : Blanks s at at
      start = blanks-start

pub ruleset blanking = (blanks-start, blanks-more, blanks-stop, blanks-all)

-- the loop of `join`
pub record Joins (s : List ℕ) (at i : ℕ) : Type 0 where
  pub runs : Runs (join_step s) at (joined s at) i (suc (length s - i))

module _ (s : List ℕ) (at i : ℕ) where
  pub joins-start : Joins s at at
  unfolding joined
  joins-start = record { runs = runs-start _ _ _ _ _ (omega arith) }

  pub joins-less : (j : ℕ) → i < length s → j ≡ blanks_end s (i + 2) → length s - j < length s - i
  joins-less j l q = omega (arith, blanks-from s (i + 2))

  pub joins-more : (b : Bool) (j : ℕ) → Joins s at i → i < length s → b ≡ is_joint s i → b ≡ true → j ≡ blanks_end s (i + 2) → Joins s at j
  joins-more b j h l p e q =
      record {
        runs = runs-go _ _ _ _ _ (length s - i) _ h.runs (join-go s i (sym p ∙ e) ∙ ap go (sym q)) (omega (arith, joins-less j l q));
      }

  pub joins-stop : (b : Bool) → Joins s at i → b ≡ is_joint s i → b ≡ false → i ≡ joined s at
  joins-stop b h p e = runs-stop _ _ _ _ _ _ h.runs (join-stop s i (sym p ∙ e))

  pub joins-past : Joins s at i → length s ≤ i → i ≡ joined s at
  joins-past h l = runs-stop _ _ _ _ _ _ h.runs (join-stop s i (no-joint s i l))

pub ruleset joining = (joins-start, joins-more, joins-stop, joins-past)
