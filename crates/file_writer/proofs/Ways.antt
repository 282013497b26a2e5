-- The ways through a write.
-- Assumes nothing.
use mathlib.Core.Path.{◌≡◌, refl, sym, ◌∙◌, ap, ap₂}
use mathlib.Core.Bool.{Bool, true, false}
use mathlib.Core.List.{List}
use Prim.Native.Nat.{ℕ, ◌≤◌, ◌<◌}
use native.Mathlib.Omega.{arith}
use lib.Dec.{ltb}
use lib.ListN.{length}
use borrow.Author.Tests.{lt-ltb, le-ltb, ltb-false}
use Rattle.base_prelude.specs.Choice.{if_true}
use Rattle.base_prelude.proofs.Choice.{if_lt-yes, if_lt-no}
use Rattle.base_limits.specs.declared.Width.TheVariants.{Bits32}
use Rattle.prog_tables.specs.Tests.{one_of, some}
use Rattle.prog_tables.specs.Label.{Tables}
use Rattle.prog_tables.specs.Program.{program_from}
use Rattle.prog_tables.proofs.Each.{one-no, one-rest, one-false}
use Rattle.vm_definitions.specs.Broken.{or_else, start_broken}
use Rattle.vm_definitions.specs.Lent.{tables_of}
use Rattle.vm_definitions.specs.declared.Broken.{Broken}
use Rattle.vm_definitions.specs.declared.Broken.TheVariants.{No, At, Somewhere}
use Rattle.app_page.specs.Sheet.{Sheet, sheet, put}
use Rattle.app_page.proofs.Cases.{put-at, put-over}
use Rattle.file_codec.specs.File.{file_of}
use Rattle.std.specs.Prelude.{Ok, Err}
use Rattle.file_writer.specs.declared.WriteError.TheVariants as error
use Rattle.file_writer.specs.Write.{past_limits, write_broken, Wrote, wrote, fitted, unless_broken, write_of}

-- ---- 16, or the file

module _ (x out : List ℕ) (n : ℕ) (a b : List ℕ) (e : sheet n a ≡ put x (sheet 0 b)) where
  size_is : n ≡ length x
  size_is = let q : n ≡ (put x (sheet 0 b)).at = ap (λ (s : Sheet). s.at) e in omega (arith, q, put-at x (sheet 0 b))

  pub fit-short : length out < n → wrote (Err (error.Short n)) out ≡ fitted x out
  unfolding fitted
  fit-short h = ap (λ (i : ℕ). wrote (Err (error.Short i)) out) size_is ∙ sym (if_lt-yes _ _ (omega (arith, size_is)))

  pub fit-done : (m : ℕ) (c : List ℕ) → n ≤ length out → sheet m c ≡ put x (sheet 0 out) → wrote (Ok m) c ≡ fitted x out
  unfolding fitted
  fit-done m c h f =
      let q : m ≡ (put x (sheet 0 out)).at = ap (λ (s : Sheet). s.at) f in
      let k : m ≡ length x = omega (arith, q, put-at x (sheet 0 out)) in
      ap₂ (λ (i : ℕ) (y : List ℕ). wrote (Ok i) y) k (ap (λ (s : Sheet). s.out) f ∙ put-over x out)
      ∙ sym (if_lt-no _ _ (omega (arith, size_is)))

pub ruleset fit-ways = (fit-short, fit-done)

-- ---- 35

module _ (c k d : ℕ) where
  pub past-statements : 1024 < c → true ≡ past_limits c k d
  unfolding past_limits some
  past-statements h = rw (lt-ltb _ _ h)

  pub past-labels : c ≤ 1024 → 256 < k → true ≡ past_limits c k d
  unfolding past_limits some
  past-labels h g = rw (le-ltb _ _ h, lt-ltb _ _ g)

  pub past-data : c ≤ 1024 → k ≤ 256 → ltb 32768 d ≡ past_limits c k d
  unfolding past_limits some
  past-data h g = rw (le-ltb _ _ h, le-ltb _ _ g) (sym (one-false (ltb 32768 d)))

  -- what is in the limits
  few-labels : past_limits c k d ≡ false → k ≤ 256
  unfolding past_limits some
  few-labels e = ltb-false 256 k (one-no (ltb 256 k) (one_of (ltb 32768 d) false) (one-rest (ltb 1024 c) (one_of (ltb 256 k) (one_of (ltb 32768 d) false)) e))

pub ruleset limit-ways = (past-statements, past-labels, past-data)

none-past : (x : Broken) (v : Bool) → or_else x (if_true v Somewhere No) ≡ No → v ≡ false
unfolding or_else if_true
none-past No true g = absurd (let z : ◌≡◌ {A = ℕ} 0 1 = cc in omega arith)
none-past No false g = refl
none-past (At i) v g = absurd (let z : ◌≡◌ {A = ℕ} 0 1 = cc in omega arith)
none-past Somewhere v g = absurd (let z : ◌≡◌ {A = ℕ} 0 1 = cc in omega arith)

module _ (t : List ℕ) (c : ℕ) (l : List ℕ) (k : ℕ) (names : List ℕ) (d n : ℕ) where
  module _ (b : Broken) (e : b ≡ start_broken (program_from Bits32 (tables_of t c l k names d)) n) where
    pub judge-broken : (b ≡ No → ⊥) → b ≡ write_broken (tables_of t c l k names d) n
    unfolding write_broken or_else
    judge-broken h = rw (← e) (first b (if_true (past_limits c k d) Somewhere No) h)
      where
        first : (x y : Broken) → (x ≡ No → ⊥) → x ≡ or_else x y
        first No y h = absurd (h refl)
        first (At i) y h = refl
        first Somewhere y h = refl

    module _ (v : Bool) (h : b ≡ No) (q : v ≡ past_limits c k d) where
      pub judge-past : v ≡ true → Somewhere ≡ write_broken (tables_of t c l k names d) n
      unfolding write_broken or_else if_true
      judge-past r = rw (← e, h, ← q, r)

      pub judge-good : v ≡ false → No ≡ write_broken (tables_of t c l k names d) n
      unfolding write_broken or_else if_true
      judge-good r = rw (← e, h, ← q, r)

  pub sound-labels : (b : Broken) → b ≡ write_broken (tables_of t c l k names d) n → b ≡ No → k ≤ 256
  unfolding write_broken
  sound-labels b e h = few-labels c k d (none-past (start_broken (program_from Bits32 (tables_of t c l k names d)) n) (past_limits c k d) (sym e ∙ h))

pub ruleset judge-ways = (judge-broken, judge-past, judge-good)

-- ---- a write

module _ (t : Tables) (d out : List ℕ) (b : Broken) (e : b ≡ write_broken t (length d)) where
  pub write-broken : (b ≡ No → ⊥) → wrote (Err (error.Broken b)) out ≡ write_of t d out
  unfolding write_of unless_broken
  write-broken h = rw (← e) (unless b h)
    where
      unless : (x : Broken) → (x ≡ No → ⊥) → wrote (Err (error.Broken x)) out ≡ unless_broken x out (fitted (file_of t d) out)
      unless No h = absurd (h refl)
      unless (At i) h = refl
      unless Somewhere h = refl

  pub write-fits : (w : Wrote) → b ≡ No → w ≡ fitted (file_of t d) out → w ≡ write_of t d out
  unfolding write_of unless_broken
  write-fits w h f = rw (← e, h) f

pub ruleset write-ways = (write-broken, write-fits)
