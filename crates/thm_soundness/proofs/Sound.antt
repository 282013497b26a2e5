-- Accepted tables are well formed: what demand 3 stands on, and what a reader of ready checked files decides. "Take any source you accepted and
-- any list of starts, steps and runs on its tables and data [..] It never meets a jump, name, call or frame it cannot make sense of".
-- Assumes nothing.
use mathlib.Core.Path.{◌≡◌, refl, sym, ◌∙◌, ap, ap₂, subst}
use mathlib.Core.Bool.{Bool, true, false}
use mathlib.Core.List.{List, [], ◌∷◌}
use Prim.Native.Nat.{ℕ, ◌+◌, ◌*◌, ◌≤◌, ◌<◌}
use native.Mathlib.Omega.{arith}
use lib.ListN.{length}
use Rattle.base_prelude.specs.Choice.{pick, if_eq}
use Rattle.base_prelude.specs.Lists.{zeros}
use Rattle.base_limits.specs.Width.{data_limit}
use Rattle.base_limits.specs.declared.Width.{Width}
use Rattle.base_limits.specs.declared.Width.TheVariants.{Bits32, Bits16}
use Rattle.lex_source.specs.Lex.{Outcome}
use Rattle.prog_tables.specs.Statement.{row_at}
use Rattle.prog_tables.specs.Label.{Tables, label_at}
use Rattle.prog_tables.specs.WellFormed.{WellFormed}
use Rattle.prog_tables.specs.Canonical.{Canonical}
use Rattle.prog_tables.specs.Program.{program_from}
use Rattle.prog_tables.specs.Hosts.{Hosts, hosted}
use Rattle.parse_outline.specs.Outline.{Outlined, outline_of}
use Rattle.parse_outline.specs.Outline as outline
use Rattle.parse_outline.specs.Parsed.{Parsed}
use Rattle.parse_outline.specs.Parsed as answer
use Rattle.res_skeleton.specs.Skeleton.{skeleton_of}
use Rattle.res_frame_words.specs.Framing.{words_of}
use Rattle.res_rows.specs.Rows.{statement_table}
use Rattle.res_labels.specs.Labelling.{flag_at, final_kind, label_table, name_table}
use Rattle.res_data.specs.Sizes.{length_of}
use Rattle.res_data.proofs.Laws.{measure-low}
use Rattle.res_text.specs.Same.{same_text}
use Rattle.check_judge.proofs.Hosted.{table-long}
use Rattle.parse_verdict.proofs.Counts.{accepted-counts}
use Rattle.res_names.specs.Naming.{Naming, names_of}
use Rattle.res_exports.specs.Exports.{is_exported}
use Rattle.res_exports.proofs.Flags.{flags-say}
use Rattle.thm_acceptance.specs.Accepts.{tokens_in, tokens_of, statements_in, is_accepted}
use Rattle.thm_acceptance.specs.Accepts as accepts
use Rattle.thm_acceptance.specs.Unbroken.{NamesUnbroken, Unbroken}
use Rattle.thm_acceptance.proofs.Accepts.{accepts-exactly}
use Rattle.check_judge.specs.Judge.{known, names_with, names_judged, hosted_table}
use Rattle.check_fill.specs.Fill.{labels_in, fill_of}
use Rattle.check_source.specs.Check.{Lent, accept, check_of}
use Rattle.check_source.proofs.Cases.{room-statements, room-labels, room-names}
use Rattle.thm_statement_rows.proofs.Zeros.{below_all}
use Rattle.thm_statement_rows.proofs.Whole.{outline-canonical}
use Rattle.thm_soundness.specs.Program.{program_by, program_of}
use Rattle.thm_soundness.proofs.Accepted.{Checks, checks, names-clean}
use Rattle.thm_soundness.proofs.Rows.{alike}
use Rattle.thm_soundness.proofs.Labels.{kind-of, labels-are}
use Rattle.thm_soundness.proofs.NewNames.{names-new}
use Rattle.thm_soundness.proofs.Forward.{forward-free}
use Rattle.thm_soundness.proofs.Tests.{Forward}
use Rattle.thm_soundness.proofs.LabelTests.{size_of, name-bytes, label-passes, label-hosted, label-tokens}
use Rattle.thm_soundness.proofs.Whole.{left, outline-wellformed}

limit-low : (w : Width) → data_limit w ≤ 32768
limit-low Bits32 = omega arith
limit-low Bits16 = omega arith

plain-function : final_kind 3 0 ≡ 3
unfolding final_kind if_eq
plain-function = refl

module _ (w : Width) (h : Hosts) (s : List ℕ) (b : Lent) (q : Checks w h s b) (page : Unbroken w h s) where
  abbrev t : List ℕ
  t = hosted_table h s q.tokens

  abbrev x : List ℕ
  x = (outline_of w (hosted_table h s q.tokens) (length s)).rows

  abbrev y : List ℕ
  y = (outline_of w (hosted_table h s q.tokens) (length s)).labels

  abbrev same : ℕ → ℕ → Bool
  same = same_text s (hosted_table h s q.tokens)

  abbrev flags : List ℕ
  flags = (names_judged same t (length s) (skeleton_of x q.c) y q.l q.c).flags

  long : length t ≡ 32768
  long = table-long h s q.tokens w q.lexes

  oh : outline_of w t (length s) ≡ outline.parsed (answer.accepted q.c q.l) x y
  oh = ap (λ (a : Parsed). outline.parsed a x y) q.outlines

  rows-room : q.c * 27 ≤ b.statements
  rows-room = room-statements b.tokens b.statements b.labels b.names b.bytes (length q.tokens) q.c q.l q.size q.held

  labels-room : q.l * 4 ≤ b.labels
  labels-room = room-labels b.tokens b.statements b.labels b.names b.bytes (length q.tokens) q.c q.l q.size q.held

  names-room : q.l * 64 ≤ b.names
  names-room = room-names b.tokens b.statements b.labels b.names b.bytes (length q.tokens) q.c q.l q.size q.held

  abbrev program : Tables
  program =
      record {
        statements = statement_table same t (skeleton_of x q.c) y q.l (words_of (row_at (skeleton_of x q.c)) q.c) (label_table w t y flags q.l (zeros b.labels)) q.c (zeros b.statements);
        count = q.c;
        labels = label_table w t y flags q.l (zeros b.labels);
        label_count = q.l;
        names = name_table s t y q.l (zeros b.names);
        data_length = q.size;
      }

  -- the page of rules, of these tokens
  names-hold : NamesUnbroken same t (length s) (skeleton_of x q.c) y q.l q.c
  unfolding tokens_of tokens_in statements_in accepts.labels_in
  names-hold =
      subst (λ (a : Parsed). NamesUnbroken same t (length s) (skeleton_of x (statements_in a)) y (accepts.labels_in a) (statements_in a)) q.outlines
      (subst (λ (o : Outcome). NamesUnbroken (same_text s (hosted_table h s (tokens_in o))) (hosted_table h s (tokens_in o)) (length s)
      (skeleton_of (outline_of w (hosted_table h s (tokens_in o)) (length s)).rows (statements_in (outline_of w (hosted_table h s (tokens_in o)) (length s)).answer))
      (outline_of w (hosted_table h s (tokens_in o)) (length s)).labels (accepts.labels_in (outline_of w (hosted_table h s (tokens_in o)) (length s)).answer) (statements_in (outline_of w (hosted_table h s (tokens_in o)) (length s)).answer))
      q.lexes page.names)

  few-labels : q.l ≤ 256
  few-labels = (accepted-counts w t (length s) q.c q.l long q.outlines).1

  -- a label that is not exported keeps its kind
  flag-none : (j : ℕ) → j < q.l → is_exported same t y q.l j ≡ false → flag_at flags j ≡ 0
  unfolding flag_at names_judged names_with
  flag-none j g e =
      flags-say same t (length s) y q.l (names_of same t (length s) (skeleton_of x q.c) y q.l q.c).uses j g (omega (arith, few-labels))
      ∙ ap (λ (v : Bool). pick v 1 0) e

  forward : Forward same t (skeleton_of x q.c) y q.l q.c (label_at (label_table w t y flags q.l (zeros b.labels)) (name_table s t y q.l (zeros b.names)))
  forward r j g a call e o ahead =
      let f = forward-free w t (length s) q.c q.l x y long oh same names-hold.exports_first r j g a call e o ahead in
      kind-of w s t y flags q.l b.labels b.names labels-room j a ∙ ap₂ final_kind o (flag-none j a f) ∙ plain-function

  program-formed : WellFormed (program_from w program)
  program-formed =
      let like = alike w t (length s) q.c q.l x y long oh same (label_table w t y flags q.l (zeros b.labels)) b.statements rows-room in
      let clean = names-clean same t (length s) (skeleton_of x q.c) y q.l q.c q.names in
      let tokens = label-tokens w h s q.tokens q.lexes (length s) q.c q.l x y flags long oh b.labels b.names q.size labels-room names-room q.sized _ like (program_from w program) in
      let bytes = name-bytes w h s q.tokens q.lexes (length s) q.c q.l x y flags long oh b.labels b.names q.size labels-room names-room q.sized _ like (program_from w program) in
      let new = names-new s t (length s) y q.l (label_at (label_table w t y flags q.l (zeros b.labels)) (name_table s t y q.l (zeros b.names))) tokens bytes (skeleton_of x q.c) q.c clean in
      let low : q.size ≤ 32768 = let a = measure-low w t 4098 q.size q.sized in let c = limit-low w in omega (arith, a, c) in
      outline-wellformed w t (length s) q.c q.l x y long oh same s flags b.statements b.labels b.names q.size rows-room labels-room names-room
      (labels-are w s t y flags q.l b.labels b.names labels-room (length s) q.c x long oh) clean low forward
      (label-passes w h s q.tokens q.lexes (length s) q.c q.l x y flags long oh b.labels b.names q.size labels-room names-room q.sized _ like (program_from w program) new)

  program-canonical : Canonical program
  program-canonical =
      let like = alike w t (length s) q.c q.l x y long oh same (label_table w t y flags q.l (zeros b.labels)) b.statements rows-room in
      outline-canonical w t (length s) q.c q.l x y long oh same s flags (label_table w t y flags q.l (zeros b.labels)) b.statements b.labels b.names q.size rows-room labels-room names-room
      (size_of w h s q.tokens q.lexes (length s) q.c q.l x y flags long oh b.labels b.names q.size labels-room names-room q.sized _ like (program_from w program))

  -- imports have what the host's list gives them
  program-hosted : hosted h (program_from w program) ≡ true
  unfolding hosted
  program-hosted =
      let like = alike w t (length s) q.c q.l x y long oh same (label_table w t y flags q.l (zeros b.labels)) b.statements rows-room in
      below_all _ q.l
      (label-hosted w h s q.tokens q.lexes (length s) q.c q.l x y flags long oh b.labels b.names q.size labels-room names-room q.sized _ like (program_from w program))

  accept-is : program_of (accept w s (known (length q.tokens) t q.c (skeleton_of x q.c) q.l y flags) q.size b) ≡ program
  unfolding accept fill_of labels_in program_by
  accept-is = refl

  program-is : program_of (check_of w h s b) ≡ program
  program-is = ap program_of q.leaves ∙ accept-is

abbrev Good : Width → Hosts → Tables → Type 0
Good w h t = WellFormed (program_from w t) × Canonical t × (hosted h (program_from w t) ≡ true)

-- "Take any source you accepted": the tables, names, counts and data that an accepted check leaves in the lent buffers, of any lengths; its imports
-- have what the list lent by the host gives them
pub accepted-sound : (w : Width) (h : Hosts) (s : List ℕ) (b : Lent) → is_accepted (check_of w h s b).answer ≡ true
    → WellFormed (program_from w (program_of (check_of w h s b))) × Canonical (program_of (check_of w h s b)) × (hosted h (program_from w (program_of (check_of w h s b))) ≡ true)
accepted-sound w h s b e =
    let q = checks w s b h e in
    let page = ((accepts-exactly w h s b).0 e).0 in
    subst (Good w h) (sym (program-is w h s b q page)) (program-formed w h s b q page, program-canonical w h s b q page, program-hosted w h s b q page)
