-- The tables of an accepted outline, put together.
-- Assumes nothing.
use mathlib.Core.Path.{◌≡◌, refl, sym, ◌∙◌, ap, ap₂, subst}
use mathlib.Core.Bool.{Bool, true, false, not}
use mathlib.Core.List.{List, [], ◌∷◌}
use Prim.Native.Nat.{ℕ, zero, suc, ◌+◌, ◌*◌, ◌-◌, ◌≤◌, ◌<◌}
use native.Mathlib.Omega.{arith}
use lib.Dec.{eqb, ltb, leb}
use lib.ListN.{length, get_or, length-replicate}
use borrow.Author.Tests.{le-leb, le-ltb}
use Rattle.base_prelude.specs.Lists.{zeros}
use Rattle.base_limits.specs.declared.Width.{Width}
use Rattle.prog_tables.proofs.Each.{both_true}
use Rattle.prog_tables.specs.Tests.{both, one_of, all, all_below}
use Rattle.prog_tables.specs.Statement.{Row, row_at}
use Rattle.prog_tables.specs.Nesting.{all_closed}
use Rattle.prog_tables.specs.Label.{Label, Tables, label_at}
use Rattle.prog_tables.specs.Program.{program_from}
use Rattle.prog_tables.specs.WellFormed.{shallow, few_locals, row_tests, label_tests, counts_good, well_formed, WellFormed}
use Rattle.parse_outline.specs.Outline.{Outlined, outline_of}
use Rattle.parse_outline.specs.Outline as outline
use Rattle.parse_outline.specs.Parsed as answer
use Rattle.res_skeleton.specs.Skeleton.{skeleton_of}
use Rattle.res_frame_words.specs.Framing.{words_of}
use Rattle.res_rows.specs.Rows.{statement_table}
use Rattle.res_labels.specs.Labelling.{label_table, name_table}
use Rattle.res_labels.proofs.Laws.{labels-long, names-long}
use Rattle.parse_verdict.specs.Verdict.{Clean}
use Rattle.parse_verdict.proofs.Counts.{accepted-counts}
use Rattle.thm_acceptance.specs.Faults.{all_name_faults}
use Rattle.thm_outline.proofs.Nested.{rows-closed, rows-shallow, rows_few}
use Rattle.thm_statement_rows.proofs.Views.{closed_same}
use Rattle.thm_statement_rows.proofs.Readback.{table-long}
use Rattle.thm_statement_rows.proofs.Zeros.{below_all}
use Rattle.thm_soundness.proofs.Rows.{few-statements, alike}
use Rattle.thm_soundness.proofs.Tests.{Labels, Forward, row-passes}

module _ (w : Width) (t : List ℕ) (n c l : ℕ) (x y : List ℕ) (long : length t ≡ 32768) (oh : outline_of w t n ≡ outline.parsed (answer.accepted c l) x y)
    (same : ℕ → ℕ → Bool) (s flags : List ℕ) (m i j d : ℕ) (rows-room : c * 27 ≤ m) (labels-room : l * 4 ≤ i) (names-room : l * 64 ≤ j)
    (lb : Labels (skeleton_of x c) y l (label_table w t y flags l (zeros i)) c (label_at (label_table w t y flags l (zeros i)) (name_table s t y l (zeros j))))
    (clean : Clean (all_name_faults same t n (skeleton_of x c) y l c)) (small : d ≤ 32768)
    (forward : Forward same t (skeleton_of x c) y l c (label_at (label_table w t y flags l (zeros i)) (name_table s t y l (zeros j))))
    (good : (e : ℕ) → e < l → all (label_tests (program_from w (record { statements = statement_table same t (skeleton_of x c) y l (words_of (row_at (skeleton_of x c)) c) (label_table w t y flags l (zeros i)) c (zeros m); count = c; labels = label_table w t y flags l (zeros i); label_count = l; names = name_table s t y l (zeros j); data_length = d })) e) ≡ true) where
  -- the tables that the check leaves
  abbrev pub left : Tables
  left =
      record {
        statements = statement_table same t (skeleton_of x c) y l (words_of (row_at (skeleton_of x c)) c) (label_table w t y flags l (zeros i)) c (zeros m);
        count = c;
        labels = label_table w t y flags l (zeros i);
        label_count = l;
        names = name_table s t y l (zeros j);
        data_length = d;
      }

  rows_are : (outline_of w t n).rows ≡ x
  rows_are = ap (λ (o : Outlined). o.rows) oh

  accepted : (outline_of w t n).answer ≡ answer.accepted c l
  accepted = ap (λ (o : Outlined). o.answer) oh

  deep : (r : ℕ) → r < c → shallow (row_at (skeleton_of x c)) r ≡ true
  deep r g = subst (λ (v : List ℕ). shallow (row_at (skeleton_of v c)) r ≡ true) rows_are (rows-shallow w t n c l long accepted r g)

  few : (r : ℕ) → r < c → few_locals (row_at (skeleton_of x c)) r ≡ true
  few r g = subst (λ (v : List ℕ). few_locals (row_at (skeleton_of v c)) r ≡ true) rows_are (rows_few w t n c l long accepted r g)

  closed : all_closed (row_at (skeleton_of x c)) c ≡ true
  closed = subst (λ (v : List ℕ). all_closed (row_at (skeleton_of v c)) c ≡ true) rows_are (rows-closed w t n c l long accepted)

  size-rows : length (statement_table same t (skeleton_of x c) y l (words_of (row_at (skeleton_of x c)) c) (label_table w t y flags l (zeros i)) c (zeros m)) ≡ m
  size-rows =
      let e = length-replicate {A = ℕ} m 0 in
      table-long same t (skeleton_of x c) y l (words_of (row_at (skeleton_of x c)) c) (label_table w t y flags l (zeros i)) c (zeros m) (omega (arith, e)) ∙ e

  size-labels : length (label_table w t y flags l (zeros i)) ≡ i
  size-labels = let e = length-replicate {A = ℕ} i 0 in labels-long w t y flags l (zeros i) (omega (arith, e)) ∙ e

  size-names : length (name_table s t y l (zeros j)) ≡ j
  size-names = let e = length-replicate {A = ℕ} j 0 in names-long s t y l (zeros j) (omega (arith, e)) ∙ e

  counts : counts_good (program_from w left) ≡ true
  unfolding counts_good all
  counts =
      let a = accepted-counts w t n c l long accepted in
      both_true _ _ (le-leb c 1024 a.0)
      (both_true _ _ (le-leb l 256 a.1)
      (both_true _ _ (le-leb d 32768 small)
      (both_true _ _ (ap not (le-ltb (length left.statements) (c * 27) (omega (arith, size-rows))))
      (both_true _ _
      (ap not
      (ap₂ (λ (p q : Bool). one_of p q) (le-ltb (length left.labels) (l * 4) (omega (arith, size-labels))) (le-ltb (length left.names) (l * 64) (omega (arith, size-names)))))
      refl))))

  -- every rule of well-formed tables
  pub outline-wellformed : WellFormed (program_from w left)
  unfolding well_formed all
  outline-wellformed =
      both_true _ _ counts
      (both_true _ _ (closed_same _ (row_at (skeleton_of x c)) (alike w t n c l x y long oh same (label_table w t y flags l (zeros i)) m rows-room) c ∙ closed)
      (both_true _ _ (below_all _ c (λ r g. row-passes w t n c l x y long oh same (label_table w t y flags l (zeros i)) m rows-room (label_at (label_table w t y flags l (zeros i)) (name_table s t y l (zeros j))) lb clean deep few forward (program_from w left) r g))
      (both_true _ _ (below_all _ l good) refl)))
