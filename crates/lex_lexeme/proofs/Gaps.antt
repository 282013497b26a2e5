-- The loops over comments and gaps.
-- Assumes nothing.
use mathlib.Core.Path.{◌≡◌, sym, ◌∙◌, ap}
use mathlib.Core.Bool.{Bool, true, false}
use mathlib.Core.List.{List}
use Prim.Native.Nat.{ℕ, suc, ◌+◌, ◌-◌, ◌≤◌, ◌<◌, max}
use native.Mathlib.Decide.{dec_lt, dec_le}
use native.Mathlib.Omega.{arith}
use lib.ListN.{length, get_or}
use Rattle.base_prelude.specs.Bytes.{byte_at}
use Rattle.base_prelude.specs.Walk.{go, stop}
use Rattle.base_prelude.proofs.Choice.{tests, either, either-eq, either_true, if_lt-yes, if_lt-no, true-false}
use Rattle.base_prelude.proofs.Bytes.{byte-within, get_d-within}
use Rattle.base_prelude.proofs.Walk.{Runs, runs-start, runs-go, runs-stop, Kept, walk_kept, Ends, walk_ends}
use Rattle.lex_spelling.specs.Classes.{is_blank}
use Rattle.lex_spelling.specs.Continuation.{is_joint}
use Rattle.lex_spelling.proofs.Ends.{byte_past, blank-byte, joint-within}
use Rattle.lex_lexeme.specs.Gap.{comment_step, comment_end, gap_skip, gap_step, gap_end}

module _ (s : List ℕ) (i c : ℕ) (p : c ≡ byte_at s i) where
  comment-newline : c ≡ 10 → comment_step s i ≡ stop i
  unfolding comment_step
  comment-newline e = sym (rw (← p) (search tests))

  comment-go : (c ≡ 10 → ⊥) → c < 256 → comment_step s i ≡ go (i + 1)
  unfolding comment_step
  comment-go e h = sym (rw (← p) (search tests))

  comment-past : (c ≡ 10 → ⊥) → 256 ≤ c → comment_step s i ≡ stop i
  unfolding comment_step
  comment-past e h = sym (rw (← p) (search tests))

pub record Commenting (s : List ℕ) (at i : ℕ) : Type 0 where
  pub runs : Runs (comment_step s) at (comment_end s at) i (suc (length s - i))

module _ (s : List ℕ) (at i : ℕ) where
  pub commenting-start : Commenting s at at
  unfolding comment_end
  commenting-start = record { runs = runs-start _ _ _ _ _ (omega arith) }

  read-is : i < length s → get_or s i 0 ≡ byte_at s i
  unfolding byte_at
  read-is l = get_d-within s i 0 256 l

  pub commenting-newline : Commenting s at i → i < length s → get_or s i 0 ≡ 10 → i ≡ comment_end s at
  commenting-newline h l e = runs-stop _ _ _ _ _ _ h.runs (comment-newline s i (get_or s i 0) (read-is l) e)

  pub commenting-more : Commenting s at i → i < length s → (get_or s i 0 ≡ 10 → ⊥) → get_or s i 0 < 256 → Commenting s at (i + 1)
  commenting-more h l e g = record { runs = runs-go _ _ _ _ _ (length s - i) _ h.runs (comment-go s i (get_or s i 0) (read-is l) e g) (omega arith) }

  commenting-past : Commenting s at i → length s ≤ i → i ≡ comment_end s at
  commenting-past h l =
      runs-stop _ _ _ _ _ _ h.runs
      (comment-past s i 256 (sym (byte_past s i l)) (λ e. let z : ⊥ = omega arith in z) (omega arith))

-- a place past the end stays
pub commenting-all : (s : List ℕ) (at i m : ℕ) → Commenting s at i → m ≡ max at (length s) → at ≤ i → (at ≤ length s → i ≤ length s) → length s ≤ i → m ≡ comment_end s at
commenting-all s at i m h e l g k =
    elim (dec_le at (length s)) [
      | yes w ↦ let f : i ≤ length s = g w in let z : m ≡ i = omega arith in z ∙ commenting-past s at i h k
      | no w ↦ let z : m ≡ at = omega arith in z ∙ commenting-past s at at (commenting-start s at at) (omega arith)
    ]

pub ruleset commenting = (commenting-start, commenting-newline, commenting-more, commenting-all)

module _ (s : List ℕ) (at : ℕ) where
  comment-from : (i : ℕ) → at ≤ i → Kept (λ (j : ℕ). at ≤ j) (λ (j : ℕ). at ≤ j) (comment_step s i)
  unfolding comment_step
  comment-from i h =
      either-eq (Kept (λ (j : ℕ). at ≤ j) (λ (j : ℕ). at ≤ j)) (byte_at s i) 10 _ _ (λ _. h) (λ _.
      either (Kept (λ (j : ℕ). at ≤ j) (λ (j : ℕ). at ≤ j)) (byte_at s i) 256 _ _ (λ _. omega arith) (λ _. h))

  pub comments-from : at ≤ comment_end s at
  unfolding comment_end
  comments-from =
      walk_kept (λ (j : ℕ). at ≤ j) (λ (j : ℕ). at ≤ j) (comment_step s) at (omega arith) comment-from (suc (length s)) at (omega arith)

  comment-in : (i : ℕ) → i ≤ length s → Kept (λ (j : ℕ). j ≤ length s) (λ (j : ℕ). j ≤ length s) (comment_step s i)
  unfolding comment_step
  comment-in i h =
      either-eq (Kept (λ (j : ℕ). j ≤ length s) (λ (j : ℕ). j ≤ length s)) (byte_at s i) 10 _ _ (λ _. h) (λ _.
      either (Kept (λ (j : ℕ). j ≤ length s) (λ (j : ℕ). j ≤ length s)) (byte_at s i) 256 _ _
      (λ g. let w : i < length s = byte-within s i g in omega arith) (λ _. h))

  pub comments-in : at ≤ length s → comment_end s at ≤ length s
  unfolding comment_end
  comments-in h =
      walk_kept (λ (j : ℕ). j ≤ length s) (λ (j : ℕ). j ≤ length s) (comment_step s) at h comment-in (suc (length s)) at h

module _ (s : List ℕ) (i c : ℕ) (b : Bool) (p : c ≡ byte_at s i) (q : b ≡ is_blank c) where
  pub skip-blank : b ≡ true → i + 1 ≡ gap_skip s i
  unfolding gap_skip
  skip-blank e = rw (← p, ← q) (search tests)

  pub skip-comment : (j : ℕ) → b ≡ false → c ≡ 35 → j ≡ comment_end s (i + 1) → j ≡ gap_skip s i
  unfolding gap_skip
  skip-comment j e f g = rw (← p, ← q, ← g) (search tests)

  pub skip-joint : (d : Bool) → b ≡ false → (c ≡ 35 → ⊥) → d ≡ is_joint s i → d ≡ true → i + 2 ≡ gap_skip s i
  unfolding gap_skip
  skip-joint d e f g h = rw (← p, ← q, ← g) (search tests)

  pub skip-none : (d : Bool) → b ≡ false → (c ≡ 35 → ⊥) → d ≡ is_joint s i → d ≡ false → i ≡ gap_skip s i
  unfolding gap_skip
  skip-none d e f g h = rw (← p, ← q, ← g) (search tests)

pub ruleset skipping = (skip-blank, skip-comment, skip-joint, skip-none)

-- a skip goes no way back, and not out of the text
pub skip-in : (s : List ℕ) (i : ℕ) → (i ≤ gap_skip s i) × (i ≤ length s → gap_skip s i ≤ length s)
unfolding gap_skip
skip-in s i =
    either_true (λ (j : ℕ). (i ≤ j) × (i ≤ length s → j ≤ length s)) (is_blank (byte_at s i)) _ _
    (λ e. let w : i < length s = byte-within s i (blank-byte (byte_at s i) e) in (omega arith, λ _. omega arith))
    (λ _. either-eq (λ (j : ℕ). (i ≤ j) × (i ≤ length s → j ≤ length s)) (byte_at s i) 35 _ _
    (λ e. let w : i < length s = byte-within s i (omega arith) in (omega (arith, comments-from s (i + 1)), λ _. comments-in s (i + 1) (omega arith)))
    (λ _. either_true (λ (j : ℕ). (i ≤ j) × (i ≤ length s → j ≤ length s)) (is_joint s i) _ _
    (λ e. (omega arith, λ _. joint-within s i e))
    (λ _. (omega arith, λ h. h))))

-- a continuation is skipped
pub joint-skips : (s : List ℕ) (i : ℕ) → is_joint s i ≡ true → gap_skip s i ≤ i → ⊥
unfolding gap_skip
joint-skips s i e =
    either_true (λ (j : ℕ). j ≤ i → ⊥) (is_blank (byte_at s i)) _ _ (λ _ h. let z : ⊥ = omega arith in z)
    (λ _. either-eq (λ (j : ℕ). j ≤ i → ⊥) (byte_at s i) 35 _ _
    (λ _ h. let z : ⊥ = omega (arith, comments-from s (i + 1)) in z)
    (λ _. either_true (λ (j : ℕ). j ≤ i → ⊥) (is_joint s i) _ _ (λ _ h. let z : ⊥ = omega arith in z)
    (λ f _. true-false (sym e ∙ f))))

no-skip : (s : List ℕ) (i : ℕ) → length s ≤ i → gap_skip s i ≤ i
unfolding gap_skip
no-skip s i h =
    either_true (λ (j : ℕ). j ≤ i) (is_blank (byte_at s i)) _ _
    (λ e. let w : i < length s = byte-within s i (blank-byte (byte_at s i) e) in let z : ⊥ = omega arith in absurd z)
    (λ _. either-eq (λ (j : ℕ). j ≤ i) (byte_at s i) 35 _ _
    (λ e. let w : i < length s = byte-within s i (omega arith) in let z : ⊥ = omega arith in absurd z)
    (λ _. either_true (λ (j : ℕ). j ≤ i) (is_joint s i) _ _
    (λ e. let z : ⊥ = omega (arith, joint-within s i e) in absurd z)
    (λ _. omega arith)))

module _ (s : List ℕ) (i : ℕ) where
  gap-go : i < gap_skip s i → gap_step s i ≡ go (gap_skip s i)
  unfolding gap_step
  gap-go h = if_lt-yes _ _ h

  gap-stop : gap_skip s i ≤ i → gap_step s i ≡ stop i
  unfolding gap_step
  gap-stop h = if_lt-no _ _ h

pub record Gapping (s : List ℕ) (at i : ℕ) : Type 0 where
  pub runs : Runs (gap_step s) at (gap_end s at) i (suc (length s - i))

module _ (s : List ℕ) (at i : ℕ) where
  pub gapping-start : Gapping s at at
  unfolding gap_end
  gapping-start = record { runs = runs-start _ _ _ _ _ (omega arith) }

  pub gapping-more : (j : ℕ) → Gapping s at i → i < length s → j ≡ gap_skip s i → i < j → Gapping s at j
  gapping-more j h l p g =
      record { runs = runs-go _ _ _ _ _ (length s - i) _ h.runs (gap-go s i (omega arith) ∙ ap go (sym p)) (omega arith) }

  pub gapping-stop : (j : ℕ) → Gapping s at i → j ≡ gap_skip s i → j ≤ i → i ≡ gap_end s at
  gapping-stop j h p g = runs-stop _ _ _ _ _ _ h.runs (gap-stop s i (omega arith))

  pub gapping-past : Gapping s at i → length s ≤ i → i ≡ gap_end s at
  gapping-past h l = runs-stop _ _ _ _ _ _ h.runs (gap-stop s i (no-skip s i l))

pub ruleset gapping = (gapping-start, gapping-more, gapping-stop, gapping-past)

-- a gap ends behind its start, within the text, where nothing can be skipped
gap-kept : (s : List ℕ) (at i : ℕ) → (at ≤ i) × (at ≤ length s → i ≤ length s)
    → Ends (λ (j : ℕ). (at ≤ j) × (at ≤ length s → j ≤ length s)) (λ (j : ℕ). ((at ≤ j) × (at ≤ length s → j ≤ length s)) × (gap_skip s j ≤ j)) (λ (j : ℕ). length s - j) i (gap_step s i)
unfolding gap_step
gap-kept s at i h =
    either (Ends (λ (j : ℕ). (at ≤ j) × (at ≤ length s → j ≤ length s)) (λ (j : ℕ). ((at ≤ j) × (at ≤ length s → j ≤ length s)) × (gap_skip s j ≤ j)) (λ (j : ℕ). length s - j) i) i (gap_skip s i) _ _
    (λ g. ((omega (arith, h.0), λ l. (skip-in s i).1 (h.1 l)), falls g))
    (λ g. (h, g))
  where
    falls : i < gap_skip s i → length s - gap_skip s i < length s - i
    falls g =
        elim (dec_lt i (length s)) [
          | yes l ↦ omega arith
          | no l ↦ let z : ⊥ = omega (arith, no-skip s i (omega arith)) in absurd z
        ]

pub gap-in : (s : List ℕ) (at : ℕ) → ((at ≤ gap_end s at) × (at ≤ length s → gap_end s at ≤ length s)) × (gap_skip s (gap_end s at) ≤ gap_end s at)
unfolding gap_end
gap-in s at =
    walk_ends (λ (j : ℕ). (at ≤ j) × (at ≤ length s → j ≤ length s)) (λ (j : ℕ). ((at ≤ j) × (at ≤ length s → j ≤ length s)) × (gap_skip s j ≤ j)) (λ (j : ℕ). length s - j) (gap_step s) at (gap-kept s at) (suc (length s)) at (omega arith) (omega arith, λ h. h)
