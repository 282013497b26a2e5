-- Tables of a file, and the same tables with zeros behind them in longer buffers.
-- Assumes nothing.
use mathlib.Core.Path.{◌≡◌, refl, sym, ◌∙◌, ap, ap₂, subst}
use mathlib.Core.Bool.{Bool, true, false, not}
use mathlib.Core.List.{List, [], ◌∷◌, ◌++◌}
use Prim.Native.Nat.{ℕ, zero, suc, ◌+◌, ◌-◌, ◌*◌, ◌<◌, ◌≤◌}
use native.Mathlib.Omega.{arith}
use lib.Dec.{ltb, leb}
use lib.ListN.{length, get_or}
use borrow.Author.Tests.{le-ltb, leb-true, leb-false}
use Rattle.base_prelude.specs.Lists.{zeros, overlay}
use Rattle.base_prelude.proofs.Choice.{true-false}
use Rattle.base_limits.specs.declared.Width.{Width}
use Rattle.prog_tables.specs.Tests.{both, one_of, all, all_below}
use Rattle.prog_tables.specs.Statement.{Row, row_at}
use Rattle.prog_tables.specs.Label.{Label, Tables, label_at, labels_of, rows}
use Rattle.prog_tables.specs.Program.{Program, program_from}
use Rattle.prog_tables.specs.WellFormed.{name_good, well_formed, WellFormed}
use Rattle.prog_tables.specs.Hosts.{Hosts, hosted}
use Rattle.prog_tables.proofs.Each.{both_left, both_right, below_at, name-good-at}
use Rattle.file_codec.specs.Good.{good_for}
use Rattle.file_views.proofs.Zeros.{over-at, over-length}
use Rattle.file_views.proofs.Views.{rows_same, labels-same, names_same}

-- tables t in buffers of so many words, words and bytes
abbrev pub in_buffers : Tables → ℕ → ℕ → ℕ → Tables
in_buffers t a b c =
    record {
      statements = overlay t.statements (zeros a);
      count = t.count;
      labels = overlay t.labels (zeros b);
      label_count = t.label_count;
      names = overlay t.names (zeros c);
      data_length = t.data_length;
    }

-- as many words as the counts say, and room for them
pub record Exact (t : Tables) (a b c : ℕ) : Type 0 where
  pub statements-long : length t.statements ≡ t.count * 27
  pub labels-long : length t.labels ≡ t.label_count * 4
  pub names-long : length t.names ≡ t.label_count * 64
  pub statements-room : t.count * 27 ≤ a
  pub labels-room : t.label_count * 4 ≤ b
  pub names-room : t.label_count * 64 ≤ c

program_by : Width → ℕ → ℕ → ℕ → (ℕ → Row) → (ℕ → Label) → Bool → Bool → Program
program_by w c l d f g s k =
    record { width = w; rows = f; count = c; labels = g; label_count = l; data_length = d; statements_past = s; labels_past = k }

program-by : (w : Width) (t : Tables) → program_from w t ≡ program_by w t.count t.label_count t.data_length (row_at t.statements) (label_at t.labels t.names) (ltb (length t.statements) (t.count * 27)) (one_of (ltb (length t.labels) (t.label_count * 4)) (ltb (length t.names) (t.label_count * 64)))
unfolding program_by
program-by w t = refl

module _ (w : Width) (t : Tables) (a b c : ℕ) (x : Exact t a b c) where
  statements-fit : length t.statements ≤ a
  statements-fit = omega (arith, x.statements-long, x.statements-room)

  labels-fit : length t.labels ≤ b
  labels-fit = omega (arith, x.labels-long, x.labels-room)

  names-fit : length t.names ≤ c
  names-fit = omega (arith, x.names-long, x.names-room)

  -- the size of a name is the same
  pub size_same : (j : ℕ) → (labels_of (in_buffers t a b c) j).size ≡ (labels_of t j).size
  unfolding label_at
  size_same j = over-at t.labels b labels-fit (j * 4 + 3)

  module _ (small : (j : ℕ) → j < t.label_count → get_or t.labels (j * 4 + 3) 0 ≤ 64) where
    pub program-same : program_from w (in_buffers t a b c) ≡ program_from w t
    program-same =
        program-by w (in_buffers t a b c)
        ∙ ap (λ (f : ℕ → Row). program_by w t.count t.label_count t.data_length f (label_at (overlay t.labels (zeros b)) (overlay t.names (zeros c))) (ltb (length (overlay t.statements (zeros a))) (t.count * 27)) (one_of (ltb (length (overlay t.labels (zeros b))) (t.label_count * 4)) (ltb (length (overlay t.names (zeros c))) (t.label_count * 64)))) (rows_same (overlay t.statements (zeros a)) t.statements (over-at t.statements a statements-fit))
        ∙ ap (λ (g : ℕ → Label). program_by w t.count t.label_count t.data_length (row_at t.statements) g (ltb (length (overlay t.statements (zeros a))) (t.count * 27)) (one_of (ltb (length (overlay t.labels (zeros b))) (t.label_count * 4)) (ltb (length (overlay t.names (zeros c))) (t.label_count * 64)))) (labels-same (overlay t.labels (zeros b)) t.labels (overlay t.names (zeros c)) t.names (over-at t.labels b labels-fit) (names_same t.labels t.names t.label_count c x.labels-long x.names-long names-fit small))
        ∙ ap₂ (program_by w t.count t.label_count t.data_length (row_at t.statements) (label_at t.labels t.names)) past-statements past-labels
        ∙ sym (program-by w t)
      where
        past-statements : ltb (length (overlay t.statements (zeros a))) (t.count * 27) ≡ ltb (length t.statements) (t.count * 27)
        past-statements =
            rw (over-length t.statements a statements-fit, le-ltb a (t.count * 27) x.statements-room, le-ltb (length t.statements) (t.count * 27) (omega (arith, x.statements-long)))

        past-labels : one_of (ltb (length (overlay t.labels (zeros b))) (t.label_count * 4)) (ltb (length (overlay t.names (zeros c))) (t.label_count * 64)) ≡ one_of (ltb (length t.labels) (t.label_count * 4)) (ltb (length t.names) (t.label_count * 64))
        past-labels =
            rw (over-length t.labels b labels-fit, over-length t.names c names-fit, le-ltb b (t.label_count * 4) x.labels-room, le-ltb c (t.label_count * 64) x.names-room, le-ltb (length t.labels) (t.label_count * 4) (omega (arith, x.labels-long)), le-ltb (length t.names) (t.label_count * 64) (omega (arith, x.names-long)))

-- ---- well-formed tables have short names

pub good-small : (w : Width) (t : Tables) → WellFormed (program_from w t) → (j : ℕ) → j < t.label_count → (labels_of t j).size ≤ 64
unfolding name_good all
good-small w t h j l =
    leb-true (labels_of t j).size 64 (both_left (leb (labels_of t j).size 64) _ (both_right (leb 1 (labels_of t j).size) _ (name-good-at w t h j l)))

-- so whether tables are good is the same in any buffers
pub good-same : (h : Hosts) (w : Width) (t : Tables) (a b c : ℕ) → Exact t a b c → good_for h (program_from w (in_buffers t a b c)) ≡ good_for h (program_from w t)
unfolding good_for label_at
good-same h w t a b c x = split (well_formed (program_from w t)) refl (well_formed (program_from w (in_buffers t a b c))) refl
  where
    same : WellFormed (program_from w t) → good_for h (program_from w (in_buffers t a b c)) ≡ good_for h (program_from w t)
    same g = ap (good_for h) (program-same w t a b c x (λ j l. good-small w t g j l))

    same-too : WellFormed (program_from w (in_buffers t a b c)) → good_for h (program_from w (in_buffers t a b c)) ≡ good_for h (program_from w t)
    same-too g =
        ap (good_for h) (program-same w t a b c x (λ j l. subst (λ (n : ℕ). n ≤ 64) (size_same w t a b c x j) (good-small w (in_buffers t a b c) g j l)))

    split : (p : Bool) → well_formed (program_from w t) ≡ p → (q : Bool) → well_formed (program_from w (in_buffers t a b c)) ≡ q
        → good_for h (program_from w (in_buffers t a b c)) ≡ good_for h (program_from w t)
    split true e q d = same e
    split false e true d = same-too d
    split false e false d = rw (e, d)
