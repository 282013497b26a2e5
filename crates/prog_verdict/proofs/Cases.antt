-- The ways through the verdict.
-- Assumes nothing.
use mathlib.Core.Path.{◌≡◌, refl, sym, ◌∙◌, ap, fun_ext}
use mathlib.Core.Bool.{Bool, true, false, not}
use mathlib.Core.List.{List, [], ◌∷◌}
use Prim.Native.Nat.{ℕ, ◌+◌, ◌*◌, ◌<◌, ◌≤◌}
use native.Mathlib.Omega.{arith}
use lib.Dec.{ltb, leb, eqb}
use lib.ListN.{length}
use borrow.Author.Tests.{le-leb, lt-leb, le-ltb}
use Rattle.base_limits.specs.declared.Width.TheVariants.{Bits32}
use Rattle.prog_tables.specs.Tests.{both, one_of, given, all, all_of, all_below}
use Rattle.prog_tables.specs.Statement.{row_at}
use Rattle.prog_tables.specs.Label.{Tables, label_at}
use Rattle.prog_tables.specs.Program.{Program, program_from, lent_program}
use Rattle.prog_tables.specs.Nesting.{stands, all_closed}
use Rattle.prog_tables.specs.WellFormed.{labelled, shallow, operand_good, operands_good, address_good, sets_local, framed, few_locals, row_good, label_good, counts_good, well_formed}
use Rattle.prog_tables.specs.Faults.{address_listed}
use Rattle.prog_tables.specs.declared.Operand.{Operand}
use Rattle.prog_tables.specs.declared.Operand.TheVariants.{Constant, Local, Address, AtConstant, AtLocal, AtAddress, Unlisted}
use Rattle.prog_tables.proofs.Each.{both_left, both_right, both_false}
use Rattle.prog_rules.specs.Rules.{rule_tests, ruled}
use Rattle.prog_rules.proofs.Seen.{all_seen}
use Rattle.prog_labels.specs.Labels.{tabled}
use Rattle.prog_chains.specs.FrameTests.{frame_tests, frame_good}
use Rattle.prog_verdict.proofs.Parts.{nested, rows-parts}

module _ (f : Bool) (g : Bool) where
  pub stand-yes : (a b : Bool) → a ≡ f → a ≡ true → b ≡ g → b ≡ both f g
  stand-yes a b d h e = rw (← d, h) e

  pub stand-no : (a : Bool) → a ≡ f → a ≡ false → false ≡ both f g
  stand-no a d h = rw (← d, h)

pub ruleset stand-ways = (stand-yes, stand-no)

module _ (t : List ℕ) (c : ℕ) (l : List ℕ) (k : ℕ) (names : List ℕ) (d : ℕ) where
  abbrev tables : Tables
  tables = record { statements = t; count = c; labels = l; label_count = k; names = names; data_length = d }

  abbrev stood : Bool
  stood = both (both (all_closed (row_at t) c) (all_below (stands (row_at t)) c)) (all_below (shallow (row_at t)) c)

  operand-seen : (n : ℕ) (o : Operand) → operand_good (lent_program t c l k d) n o ≡ operand_good (tabled t c l k names d) n o
  unfolding labelled label_at operand_good
  operand-seen n (Constant v) = refl
  operand-seen n (Local v) = refl
  operand-seen n (Address v) = refl
  operand-seen n (AtConstant v) = refl
  operand-seen n (AtLocal v) = refl
  operand-seen n (AtAddress v) = refl
  operand-seen n Unlisted = refl

  -- the tests of frames look at no name of a label
  frame-seen : (n : ℕ) → frame_good (lent_program t c l k d) n ≡ frame_good (tabled t c l k names d) n
  unfolding frame_tests operands_good address_good
  frame-seen n =
      ap
      (λ (g : Operand → Bool).
      all
      (all_of g (row_at t n).operands
      ∷ given (eqb (row_at t n).kind 7) (both (address_listed (row_at t n).address) (g (row_at t n).address))
      ∷ sets_local (row_at t) n
      ∷ framed (row_at t) c n
      ∷ few_locals (row_at t) n
      ∷ []))
      (fun_ext (operand-seen n))

  frames-seen : all_below (frame_good (lent_program t c l k d)) c ≡ all_below (frame_good (tabled t c l k names d)) c
  frames-seen = ap (λ (g : ℕ → Bool). all_below g c) (fun_ext frame-seen)

  module _ (s : Bool) (e : s ≡ stood) where
    pub rows-unnested : s ≡ false → false ≡ both (all_closed (row_at t) c) (all_below (row_good (tabled t c l k names d)) c)
    rows-unnested h = rw (← rows-parts (tabled t c l k names d) c, ← e, h)

    module _ (h : s ≡ true) (v : Bool) (q : v ≡ all_below (ruled (lent_program t c l k d)) c) where
      pub rows-unruled : v ≡ false → false ≡ both (all_closed (row_at t) c) (all_below (row_good (tabled t c l k names d)) c)
      rows-unruled p = rw (← rows-parts (tabled t c l k names d) c, ← e, h, ← all_seen Bits32 tables c, ← q, p)

      pub rows-framed : (r : Bool) → v ≡ true → r ≡ all_below (frame_good (lent_program t c l k d)) c → r ≡ both (all_closed (row_at t) c) (all_below (row_good (tabled t c l k names d)) c)
      rows-framed r p z = rw (← rows-parts (tabled t c l k names d) c, ← e, h, ← all_seen Bits32 tables c, ← q, p) (z ∙ frames-seen)

    pub all-standing : s ≡ true → all_below (stands (row_at t)) c ≡ true
    all-standing h = both_right (all_closed (row_at t) c) (all_below (stands (row_at t)) c) (both_left (both (all_closed (row_at t) c) (all_below (stands (row_at t)) c)) (all_below (shallow (row_at t)) c) (sym e ∙ h))

    pub all-shallow : s ≡ true → all_below (shallow (row_at t)) c ≡ true
    all-shallow h = both_right (both (all_closed (row_at t) c) (all_below (stands (row_at t)) c)) (all_below (shallow (row_at t)) c) (sym e ∙ h)

  module _ (fc : c ≤ 1024) (fk : k ≤ 256) (st : c * 27 ≤ length t) (sl : k * 4 ≤ length l) (sn : k * 64 ≤ length names) where
    counts-are : counts_good (tabled t c l k names d) ≡ leb d 32768
    unfolding counts_good all
    counts-are =
        rw (le-leb c 1024 fc, le-leb k 256 fk, le-ltb (length t) (c * 27) st, le-ltb (length l) (k * 4) sl, le-ltb (length names) (k * 64) sn) (last (leb d 32768))
      where
        last : (b : Bool) → both b true ≡ b
        last true = refl
        last false = refl

    pub formed-data : 32768 < d → false ≡ well_formed (tabled t c l k names d)
    unfolding well_formed all
    formed-data h = rw (counts-are, lt-leb _ _ h)

    module _ (h : d ≤ 32768) (s : Bool) (e : s ≡ both (all_closed (row_at t) c) (all_below (row_good (tabled t c l k names d)) c)) where
      pub formed-rows : s ≡ false → false ≡ well_formed (tabled t c l k names d)
      unfolding well_formed all
      formed-rows p = rw (counts-are, le-leb _ _ h) (part (all_closed (row_at t) c) (all_below (row_good (tabled t c l k names d)) c) (sym e ∙ p))
        where
          part : (a b : Bool) → both a b ≡ false → false ≡ both a (both b (both (all_below (label_good (tabled t c l k names d)) k) true))
          part true b q = rw q
          part false b q = refl

      pub formed-labels : (r : Bool) → s ≡ true → r ≡ all_below (label_good (tabled t c l k names d)) k → r ≡ well_formed (tabled t c l k names d)
      unfolding well_formed all
      formed-labels r p q =
          let z : both (all_closed (row_at t) c) (all_below (row_good (tabled t c l k names d)) c) ≡ true = sym e ∙ p in
          rw (counts-are, le-leb _ _ h, both_left (all_closed (row_at t) c) (all_below (row_good (tabled t c l k names d)) c) z, both_right (all_closed (row_at t) c) (all_below (row_good (tabled t c l k names d)) c) z) (q ∙ last (all_below (label_good (tabled t c l k names d)) k))
        where
          last : (b : Bool) → b ≡ both b true
          last true = refl
          last false = refl

pub ruleset row-ways = (rows-unnested, rows-unruled, rows-framed)

pub ruleset formed-ways = (formed-data, formed-rows, formed-labels)
