-- The check's answer is the least fault of the first group that has one; a source is accepted exactly when no group has one.
-- Assumes nothing.
use mathlib.Core.Path.{◌≡◌, refl, sym, ◌∙◌, ap, subst}
use mathlib.Core.Bool.{Bool, true, false}
use mathlib.Core.List.{List, [], ◌∷◌, ◌++◌}
use mathlib.Core.Logic.{◌↔◌}
use Prim.Native.Nat.{ℕ, zero, suc, ◌+◌, ◌*◌, ◌/◌, ◌%◌, ◌-◌, ◌≤◌, ◌<◌, min}
use native.Mathlib.Nat.{min-eq_left}
use native.Mathlib.Decide.{dec_lt}
use native.Mathlib.Omega.{arith}
use lib.ListN.{length, length-replicate}
use Rattle.base_prelude.specs.Choice.{if_lt, if_true}
use Rattle.base_prelude.specs.Fault.{none, key, key_number, key_place, least_of}
use Rattle.base_prelude.proofs.Choice.{either, either_true, if_lt-yes, if_lt-no, if_true-yes, if_true-no, true-false}
use Rattle.base_prelude.proofs.Keys.{key-is, key-fault, key-place, key-number}
use Rattle.base_limits.specs.declared.Width.{Width}
use Rattle.prog_tables.specs.Hosts.{Hosts}
use Rattle.parse_lines.specs.Tokens.{place_at, key_at}
use Rattle.lex_source.specs.Token.{Token}
use Rattle.lex_source.specs.Lex.{Outcome, accepted, refused, lex_of}
use Rattle.lex_source.specs.Rows.{token_table}
use Rattle.lex_source.specs.Rows as rows
use Rattle.parse_units.specs.Parse.{Result, parse_of}
use Rattle.parse_units.specs.Verdict.{Verdict}
use Rattle.parse_outline.specs.Labels.{label_rows}
use Rattle.parse_outline.specs.Outline.{Outlined, outline_of}
use Rattle.parse_outline.specs.Outline as outline
use Rattle.parse_outline.specs.Parsed.{Parsed}
use Rattle.res_skeleton.specs.Skeleton.{skeleton_of}
use Rattle.res_names.specs.Naming.{Naming, names_of}
use Rattle.res_exports.specs.Exports.{Exported, exports_of}
use Rattle.res_data.specs.Sizes.{length_of, length_in, big_in, big_rule}
use Rattle.std.specs.Prelude as prelude
use Rattle.std.specs.Prelude.{Ok, Err}
use Rattle.res_text.specs.Same.{same_text}
use Rattle.parse_verdict.specs.Verdict.{Clean, all_faults, verdict_of, key_of, Rising}
use Rattle.parse_verdict.specs.Lexing.{lex_faults, lex_key}
use Rattle.parse_verdict.proofs.Decided.{least-none, all_none, none-all, decided, RealV, parse-real}
use Rattle.parse_verdict.proofs.Counts as counts
use Rattle.parse_verdict.proofs.Lexed.{lexed-long}
use Rattle.parse_verdict.proofs.Lexing.{lexed-fine, fine-lexed, long-refused, lex-least, lex-real}
use Rattle.check_judge.specs.Judge.{Known, known, Judged, refusal, fine, size_group, names_with, names_judged, fault_group, name_group, outline_group, line_group, hosted_table, token_group, judge_of}
use Rattle.check_judge.proofs.Hosted.{table-long, hosted-rising}
use Rattle.res_hosts.proofs.Laws.{hosted-long}
use Rattle.check_source.specs.Check.{Lent, Filled, refuse, has_room, accept, answer_to, check_of}
use Rattle.check_source.specs.Checked.{Checked}
use Rattle.check_source.specs.Checked as checked
use Rattle.thm_acceptance.specs.Faults.{all_name_faults, export_faults}
use Rattle.thm_acceptance.specs.Accepts.{tokens_in, tokens_of, table_of, outlined, statements_in, labels_in, long_rule, names_in, name_faults, room_rule, later_groups, groups_of, judge, counts_in, counts_of, Holds, AllClean, is_accepted}
use Rattle.thm_acceptance.specs.Unbroken.{NamesUnbroken, Listed, Unbroken}
use Rattle.thm_acceptance.specs.Lines.{EachLine}
use Rattle.thm_acceptance.proofs.Least.{append-least, names-least, exports-least}
use Rattle.thm_acceptance.proofs.Paged.{LineFine, lines-fine}
use Rattle.thm_acceptance.proofs.Listed.{marks-lists, lists-marks}
use Rattle.thm_acceptance.proofs.Rising.{InOrder, outline-order}
use Rattle.thm_acceptance.proofs.Page.{ReadsUnbroken, clean-reads, reads-clean, LinesUnbroken, fine-lines, lines_join}
use Rattle.thm_acceptance.proofs.PageNames.{clean-names, names-clean}

-- ---- one group after the other

judge-fault : (ks : List ℕ) (gs : List (List ℕ)) (a : Checked) (k : ℕ) → least_of ks ≡ k → k < none → judge (ks ∷ gs) a ≡ checked.refused (key_number k) (key_place k)
unfolding judge
judge-fault ks gs a k e h =
    if_lt-yes _ _ (let z : least_of ks < none = omega arith in z) ∙ ap (λ (v : ℕ). checked.refused (key_number v) (key_place v)) e

judge-clean : (ks : List ℕ) (gs : List (List ℕ)) (a : Checked) → none ≤ least_of ks → judge (ks ∷ gs) a ≡ judge gs a
unfolding judge
judge-clean ks gs a h = if_lt-no _ _ h

judge-end : (a : Checked) → judge [] a ≡ a
unfolding judge
judge-end a = refl

one-least : (k : ℕ) → k ≤ none → least_of (k ∷ []) ≡ k
unfolding least_of
one-least k h = min-eq_left h

-- a group of one rule
one-fault : (k p m : ℕ) (gs : List (List ℕ)) (a : Checked) → k ≡ key p m → p < 4294967296 → m < 64 → judge ((k ∷ []) ∷ gs) a ≡ checked.refused m p
one-fault k p m gs a e hp hm =
    let f : key p m < none = key-fault p m hm in
    judge-fault (k ∷ []) gs a (key p m) (one-least k (omega arith) ∙ e) f
    ∙ ap (λ (v : ℕ). checked.refused v (key_place (key p m))) (key-number p m hm) ∙ ap (λ (v : ℕ). checked.refused m v) (key-place p m hp hm)

one-clean : (k : ℕ) (gs : List (List ℕ)) (a : Checked) → k ≡ none → judge ((k ∷ []) ∷ gs) a ≡ judge gs a
one-clean k gs a e = judge-clean (k ∷ []) gs a (omega (arith, one-least k (omega arith)))

-- what the check answers to a judgement
abbrev said : Width → List ℕ → Lent → Judged → Checked
said w s b j = (answer_to w s j b).answer

module _ (w : Width) (s : List ℕ) (b : Lent) where
  -- 16
  room-is : (p : Known) (size : ℕ) → said w s b (fine p size) ≡ judge ((room_rule b p.n p.c p.l size ∷ []) ∷ []) (checked.accepted p.n p.c p.l size)
  unfolding answer_to accept refuse room_rule
  room-is p size = by (has_room b p.n p.c p.l size) refl
    where
      by : (h : Bool) → has_room b p.n p.c p.l size ≡ h
          → (if_true (has_room b p.n p.c p.l size) (accept w s p size b) (refuse 16 0 b)).answer
          ≡ judge ((if_true (has_room b p.n p.c p.l size) none (key 0 16) ∷ []) ∷ []) (checked.accepted p.n p.c p.l size)
      by true e =
          ap (λ (x : Filled). x.answer) (if_true-yes (accept w s p size b) (refuse 16 0 b) e)
          ∙ sym (one-clean _ [] (checked.accepted p.n p.c p.l size) (if_true-yes none (key 0 16) e) ∙ judge-end (checked.accepted p.n p.c p.l size))
      by false e =
          ap (λ (x : Filled). x.answer) (if_true-no (accept w s p size b) (refuse 16 0 b) e)
          ∙ sym (one-fault _ 0 16 [] (checked.accepted p.n p.c p.l size) (if_true-no none (key 0 16) e) (omega arith) (omega arith))

  refusal_is : (number place : ℕ) → said w s b (refusal number place) ≡ checked.refused number place
  unfolding answer_to refuse
  refusal_is number place = refl

  -- 15
  size_is : (p : Known) (m : prelude.Result ℕ ℕ) → ((i : ℕ) → place_at p.t (length s) i < 4294967296)
      → said w s b (size_group (length s) p m)
      ≡ judge ((big_in p.t (length s) m ∷ []) ∷ (room_rule b p.n p.c p.l (length_in m) ∷ []) ∷ []) (checked.accepted p.n p.c p.l (length_in m))
  unfolding size_group big_in length_in key_at
  size_is p (Ok size) low = room-is p size ∙ sym (one-clean none _ (checked.accepted p.n p.c p.l size) refl)
  size_is p (Err i) low =
      refusal_is 15 (place_at p.t (length s) i)
      ∙ sym (one-fault (key (place_at p.t (length s) i) 15) (place_at p.t (length s) i) 15 _ _ refl (low i) (omega arith))

  module _ (same : ℕ → ℕ → Bool) (n : ℕ) (t : List ℕ) (r : Rising t (length s)) where
    abbrev last_groups : ℕ → ℕ → List (List ℕ)
    last_groups c l = (big_rule w t (length s) ∷ []) ∷ (room_rule b n c l (length_in (length_of w t)) ∷ []) ∷ []

    data_is : (c : ℕ) (k : List ℕ) (l : ℕ) (y flags : List ℕ)
        → said w s b (size_group (length s) (known n t c k l y flags) (length_of w t)) ≡ judge (last_groups c l) (checked.accepted n c l (length_in (length_of w t)))
    unfolding big_rule
    data_is c k l y flags = size_is (known n t c k l y flags) (length_of w t) r.low

    -- 10 to 13 and 17
    row_is : (c : ℕ) (k : List ℕ) (l : ℕ) (y : List ℕ)
        → said w s b (name_group w same (length s) n t c k l y)
        ≡ judge (names_in same t (length s) k y l c ∷ last_groups c l) (checked.accepted n c l (length_in (length_of w t)))
    unfolding name_group fault_group names_judged names_with names_in
    row_is c k l y =
        let a = names_of same t (length s) k y l c in
        let e = names_judged same t (length s) k y l c in
        let g : least_of (all_name_faults same t (length s) k y l c ++ export_faults same t (length s) y l a.uses) ≡ e.fault =
        append-least (all_name_faults same t (length s) k y l c) (export_faults same t (length s) y l a.uses)
        ∙ ap (λ (v : ℕ). min v (least_of (export_faults same t (length s) y l a.uses))) (sym (names-least same t (length s) y l k c))
        ∙ ap (min a.fault) (sym (exports-least same t (length s) y l a.uses)) in
        elim (dec_lt e.fault none) [
          | yes h ↦ ap (said w s b) (if_lt-yes _ _ h) ∙ refusal_is _ _ ∙ sym (judge-fault _ (last_groups c l) _ e.fault g h)
          | no h ↦ ap (said w s b) (if_lt-no _ _ (let z : none ≤ e.fault = omega arith in z)) ∙ data_is c k l y e.flags
              ∙ sym (judge-clean _ (last_groups c l) _ (omega (arith, g)))
        ]

-- 7, 8, 9 and other 14
module _ (w : Width) (s : List ℕ) (b : Lent) (n : ℕ) (t : List ℕ) (long : length t ≡ 32768) (r : Rising t (length s)) where
  outline-is : (v : Verdict) (x y : List ℕ) → key_of v ≡ least_of (all_faults w t (length s)) → RealV v
      → said w s b (outline_group w (same_text s t) (length s) n t (outline.answer_of v) x y)
      ≡ judge (later_groups w s b n t (outline.parsed (outline.answer_of v) x y)) (counts_in w n t (outline.answer_of v))
  unfolding outline_group outline.answer_of later_groups name_faults counts_in statements_in labels_in
  outline-is (Ok v) x y e h =
      row_is w s b (same_text s t) n t r (v.count - 1) (skeleton_of x (v.count - 1)) v.labels y ∙ sym (judge-clean (all_faults w t (length s)) _ _ (omega arith))
  outline-is (Err k) x y e h = refusal_is w s b _ _ ∙ sym (judge-fault (all_faults w t (length s)) _ _ k (sym e) h)

  line-is : said w s b (line_group w (same_text s t) (length s) n t)
      ≡ judge (later_groups w s b n t (outline_of w t (length s))) (counts_in w n t (outline_of w t (length s)).answer)
  unfolding line_group outline_of verdict_of
  line-is = outline-is (parse_of w t (length s)).verdict (parse_of w t (length s)).outline (label_rows t) (decided t (length s) r w) (parse-real w t (length s) long)

-- 1; 2 to 6 with 14 for tokens
module _ (w : Width) (h : Hosts) (s : List ℕ) (b : Lent) where
  abbrev later_of : List Token → List (List ℕ)
  later_of ts = later_groups w s b (length ts) (hosted_table h s ts) (outline_of w (hosted_table h s ts) (length s))

  abbrev counts_for : List Token → Checked
  counts_for ts = counts_in w (length ts) (hosted_table h s ts) (outline_of w (hosted_table h s ts) (length s)).answer

  long-clean : length s ≤ 16384 → (gs : List (List ℕ)) (a : Checked) → judge ((long_rule s ∷ []) ∷ gs) a ≡ judge gs a
  unfolding long_rule
  long-clean l gs a = one-clean _ gs a (if_lt-no (key 16384 1) none l)

  long-is : 16384 < length s
      → said w s b (token_group w h s (lex_of w s)) ≡ judge ((long_rule s ∷ []) ∷ lex_faults w s ∷ later_of (tokens_in (lex_of w s))) (counts_for (tokens_in (lex_of w s)))
  unfolding token_group long_rule
  long-is l =
      ap (λ (o : Outcome). said w s b (token_group w h s o)) (long-refused w s l)
      ∙ refusal_is w s b _ _
      ∙ ap (λ (v : ℕ). checked.refused v (key_place (key 16384 1))) (key-number 16384 1 (omega arith))
      ∙ ap (λ (v : ℕ). checked.refused 1 v) (key-place 16384 1 (omega arith) (omega arith))
      ∙ sym (one-fault _ 16384 1 _ (counts_for (tokens_in (lex_of w s))) (if_lt-yes (key 16384 1) none l) (omega arith) (omega arith))

  lex-is : length s ≤ 16384 → (o : Outcome) → lex_of w s ≡ o → said w s b (token_group w h s o) ≡ judge (lex_faults w s ∷ later_of (tokens_in o)) (counts_for (tokens_in o))
  unfolding token_group tokens_in
  lex-is l (accepted ts) e =
      line-is w s b (length ts) (hosted_table h s ts) (table-long h s ts w e) (hosted-rising h s ts w e)
      ∙ sym (judge-clean (lex_faults w s) (later_of ts) (counts_for ts) (all_none (lex_faults w s) (lexed-fine w s ts e).1))
  lex-is l (refused k) e =
      refusal_is w s b _ _
      ∙ sym (judge-fault (lex_faults w s) (later_of []) (counts_for []) k (sym (lex-least w s l) ∙ ap lex_key e) (lex-real w s l k e))

  -- the check's answer: the least fault of the first group that has one, or the counts
  pub check-is : (check_of w h s b).answer ≡ judge (groups_of w h s b) (counts_of w h s)
  unfolding check_of judge_of groups_of counts_of tokens_of
  check-is =
      elim (dec_lt 16384 (length s)) [
        | yes g ↦ long-is g
        | no g ↦ let l : length s ≤ 16384 = omega arith in lex-is l (lex_of w s) refl ∙ sym (long-clean l _ _)
      ]

-- ---- accepted exactly when no group has a fault

judge-passed : (gs : List (List ℕ)) (a : Checked) → is_accepted (judge gs a) ≡ true → AllClean gs
judge-passed [] a h = tt
judge-passed (ks ∷ gs) a h =
    elim (dec_lt (least_of ks) none) [
      | yes l ↦ true-false (sym h ∙ ap is_accepted (judge-fault ks gs a (least_of ks) refl l))
      | no l ↦ let c : least_of ks ≡ none = omega (arith, least-none ks) in
          (none-all ks c, judge-passed gs a (ap is_accepted (sym (judge-clean ks gs a (omega arith))) ∙ h))
    ]

passed-judge : (gs : List (List ℕ)) (a : Checked) → AllClean gs → judge gs a ≡ a
passed-judge [] a h = judge-end a
passed-judge (ks ∷ gs) a h = judge-clean ks gs a (all_none ks h.0) ∙ passed-judge gs a h.1

judge-first : (before : List (List ℕ)) (ks : List ℕ) (behind : List (List ℕ)) (a : Checked) → AllClean before → least_of ks < none
    → judge (before ++ (ks ∷ behind)) a ≡ checked.refused (key_number (least_of ks)) (key_place (least_of ks))
judge-first [] ks behind a h l = judge-fault ks behind a (least_of ks) refl l
judge-first (js ∷ before) ks behind a h l =
    judge-clean js (before ++ (ks ∷ behind)) a (all_none js h.0) ∙ judge-first before ks behind a h.1 l

long-short : (s : List ℕ) → none ≤ long_rule s → length s ≤ 16384
unfolding long_rule
long-short s =
    either (λ (k : ℕ). none ≤ k → length s ≤ 16384) 16384 (length s) _ _ (λ _ h. let z : ⊥ = omega (arith, key-fault 16384 1 (omega arith)) in absurd z) (λ h _. h)

short-long : (s : List ℕ) → length s ≤ 16384 → none ≤ long_rule s
unfolding long_rule
short-long s h = subst (λ (k : ℕ). none ≤ k) (sym (if_lt-no (key 16384 1) none h)) (omega arith)

room-clean : (b : Lent) (n c l size : ℕ) → none ≤ room_rule b n c l size → has_room b n c l size ≡ true
unfolding room_rule
room-clean b n c l size =
    either_true (λ (k : ℕ). none ≤ k → has_room b n c l size ≡ true) (has_room b n c l size) _ _ (λ e _. e) (λ _ h. let z : ⊥ = omega (arith, key-fault 0 16 (omega arith)) in absurd z)

clean-room : (b : Lent) (n c l size : ℕ) → has_room b n c l size ≡ true → none ≤ room_rule b n c l size
unfolding room_rule
clean-room b n c l size h = subst (λ (k : ℕ). none ≤ k) (sym (if_true-yes none (key 0 16) h)) (omega arith)

-- ---- the page of rules

table_empty : length (token_table []) ≡ 32768
unfolding token_table rows.rows_of
table_empty = length-replicate {A = ℕ} 32768 0

-- the token table has its length, whatever the source
lexed-size : (w : Width) (s : List ℕ) → length (token_table (tokens_of w s)) ≡ 32768
unfolding tokens_of tokens_in
lexed-size w s = by (lex_of w s) refl
  where
    by : (o : Outcome) → lex_of w s ≡ o → length (token_table (tokens_in o)) ≡ 32768
    by (accepted ts) e = lexed-long w s ts e
    by (refused k) e = table_empty

table-size : (w : Width) (h : Hosts) (s : List ℕ) → length (table_of w h s) ≡ 32768
table-size w h s = hosted-long h s (length (tokens_of w s)) (token_table (tokens_of w s)) ∙ lexed-size w s

few-labels : (w : Width) (t : List ℕ) (n : ℕ) → length t ≡ 32768 → labels_in (outline_of w t n).answer ≤ 256
unfolding labels_in
few-labels w t n e = by (outline_of w t n).answer refl
  where
    by : (a : Parsed) → (outline_of w t n).answer ≡ a → labels_in a ≤ 256
    by (Ok x) q = (counts.accepted-counts w t n x.statements x.labels e q).1
    by (Err r) q = omega arith

rows-in-order : (w : Width) (t : List ℕ) (n : ℕ) → length t ≡ 32768
    → InOrder t (skeleton_of (outline_of w t n).rows (statements_in (outline_of w t n).answer)) (statements_in (outline_of w t n).answer)
unfolding statements_in
rows-in-order w t n e = by (outline_of w t n).answer refl
  where
    by : (a : Parsed) → (outline_of w t n).answer ≡ a → InOrder t (skeleton_of (outline_of w t n).rows (statements_in a)) (statements_in a)
    by (Ok x) q =
        outline-order w t n x.statements x.labels (outline_of w t n).rows (outline_of w t n).labels e (ap (λ (v : Parsed). outline.parsed v (outline_of w t n).rows (outline_of w t n).labels) q)
    by (Err r) q =
        record {
          runs = λ r g. let z : ⊥ = omega arith in absurd z;
          rows = λ r g. let z : ⊥ = omega arith in absurd z;
          steps = λ r g. let z : ⊥ = omega arith in absurd z;
        }

module _ (w : Width) (h : Hosts) (s : List ℕ) where
  -- no fault in any group
  record Faultless : Type 0 where
    pub short : length s ≤ 16384
    pub tokens : Clean (lex_faults w s)
    pub lines : Clean (all_faults w (table_of w h s) (length s))
    pub names : Clean (name_faults s (table_of w h s) (outlined w h s))
    pub size : Clean (big_rule w (table_of w h s) (length s) ∷ [])

  abbrev few : labels_in (outlined w h s).answer ≤ 256
  few = few-labels w (table_of w h s) (length s) (table-size w h s)

  abbrev Named : Type 0
  Named = NamesUnbroken (same_text s (table_of w h s)) (table_of w h s) (length s) (skeleton_of (outlined w h s).rows (statements_in (outlined w h s).answer)) (outlined w h s).labels (labels_in (outlined w h s).answer) (statements_in (outlined w h s).answer)

  abbrev AllListed : Type 0
  AllListed = EachLine (table_of w h s) (λ before x. x.kind ≡ 36 → Listed h s (table_of w h s) (x.unit.word + 1))

  abbrev AllFine : Type 0
  AllFine = EachLine (table_of w h s) (LineFine w (table_of w h s))

  page-names : AllFine → Clean (name_faults s (table_of w h s) (outlined w h s)) → Named × AllListed
  unfolding name_faults
  page-names f c =
      let g = clean-names _ _ _ _ _ _ _ few (rows-in-order w (table_of w h s) (length s) (table-size w h s)) c in
      (g.0, marks-lists h s (tokens_of w s) (lexed-size w s) w f g.1)

  names-page : AllFine → Named → AllListed → Clean (name_faults s (table_of w h s) (outlined w h s))
  unfolding name_faults
  names-page f u m = names-clean _ _ _ _ _ _ _ few u (lists-marks h s (tokens_of w s) (lexed-size w s) w f m)

  faultless-unbroken : Faultless → Unbroken w h s
  faultless-unbroken f =
      let r = clean-reads w s f.tokens in
      let g : AllFine = (lines-fine w (table_of w h s) (length s)).0 f.lines in
      let x = fine-lines w (table_of w h s) g in
      let n = page-names g f.names in
      record {
        short = f.short;
        readable = r.readable;
        separated = r.separated;
        escapes = r.escapes;
        strings = r.strings;
        integers = r.integers;
        lengths = r.lengths;
        few_tokens = r.few_tokens;
        shaped = x.shaped;
        substitutes_known = x.substitutes_known;
        names_free = x.names_free;
        placed = x.placed;
        labelled = x.labelled;
        labels_free = x.labels_free;
        not_left_out = x.not_left_out;
        imports_between = x.imports_between;
        no_frame_size = x.no_frame_size;
        few_statements = x.few_statements;
        few_labels = x.few_labels;
        few_imports = x.few_imports;
        few_locals = x.few_locals;
        few_blocks = x.few_blocks;
        few_arguments = x.few_arguments;
        listed = n.1;
        names = n.0;
        size = f.size.0;
      }

  unbroken-fine : Unbroken w h s → AllFine
  unbroken-fine u =
      lines_join w (table_of w h s) (record {
        shaped = u.shaped;
        substitutes_known = u.substitutes_known;
        names_free = u.names_free;
        placed = u.placed;
        labelled = u.labelled;
        labels_free = u.labels_free;
        not_left_out = u.not_left_out;
        imports_between = u.imports_between;
        no_frame_size = u.no_frame_size;
        few_statements = u.few_statements;
        few_labels = u.few_labels;
        few_imports = u.few_imports;
        few_locals = u.few_locals;
        few_blocks = u.few_blocks;
        few_arguments = u.few_arguments;
      })

  unbroken-faultless : Unbroken w h s → Faultless
  unbroken-faultless u =
      record {
        short = u.short;
        tokens = reads-clean w s (record {
          readable = u.readable;
          separated = u.separated;
          escapes = u.escapes;
          strings = u.strings;
          integers = u.integers;
          lengths = u.lengths;
          few_tokens = u.few_tokens;
        });
        lines = (lines-fine w (table_of w h s) (length s)).1 (unbroken-fine u);
        names = names-page (unbroken-fine u) u.names u.listed;
        size = (u.size, tt);
      }

module _ (w : Width) (h : Hosts) (s : List ℕ) (b : Lent) where
  groups-faultless : AllClean (groups_of w h s b) → Faultless w h s × Holds w h s b
  unfolding groups_of later_groups
  groups-faultless g = (
    record {
      short = long-short s g.0.0;
      tokens = g.1.0;
      lines = g.1.1.0;
      names = g.1.1.1.0;
      size = g.1.1.1.1.0;
    },
    room-clean b _ _ _ _ g.1.1.1.1.1.0.0,
  )

  faultless-groups : Faultless w h s → Holds w h s b → AllClean (groups_of w h s b)
  unfolding groups_of later_groups
  faultless-groups u g =
      ((short-long s u.short, tt), (u.tokens, (u.lines, (u.names, (u.size, ((clean-room b _ _ _ _ g, tt), tt))))))

  groups-unbroken : AllClean (groups_of w h s b) → Unbroken w h s × Holds w h s b
  groups-unbroken c = let g = groups-faultless c in (faultless-unbroken w h s g.0, g.1)

  unbroken-groups : Unbroken w h s → Holds w h s b → AllClean (groups_of w h s b)
  unbroken-groups u g = faultless-groups (unbroken-faultless w h s u) g

  -- "You accept a source exactly when it breaks none of the listed rules and the tables lent can hold it."
  pub accepts-exactly : (is_accepted (check_of w h s b).answer ≡ true) ↔ (Unbroken w h s × Holds w h s b)
  unfolding counts_of counts_in
  accepts-exactly = (
    λ g. groups-unbroken (judge-passed (groups_of w h s b) (counts_of w h s) (ap is_accepted (sym (check-is w h s b)) ∙ g)),
    λ g. ap is_accepted (check-is w h s b ∙ passed-judge (groups_of w h s b) (counts_of w h s) (unbroken-groups g.0 g.1)),
  )

  -- and then the answer is its counts
  pub accepted-counts : Unbroken w h s → Holds w h s b → (check_of w h s b).answer ≡ counts_of w h s
  accepted-counts u g = check-is w h s b ∙ passed-judge (groups_of w h s b) (counts_of w h s) (unbroken-groups u g)

  -- a refusal is the least fault of the first group that has one
  pub refuses-first : (before : List (List ℕ)) (ks : List ℕ) (behind : List (List ℕ)) → groups_of w h s b ≡ before ++ (ks ∷ behind) → AllClean before → least_of ks < none
      → (check_of w h s b).answer ≡ checked.refused (key_number (least_of ks)) (key_place (least_of ks))
  refuses-first before ks behind e c l =
      check-is w h s b ∙ ap (λ (gs : List (List ℕ)). judge gs (counts_of w h s)) e ∙ judge-first before ks behind (counts_of w h s) c l
