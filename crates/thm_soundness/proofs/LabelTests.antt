-- Every label row of an accepted source passes its tests.
-- Assumes nothing.
use mathlib.Core.Path.{◌≡◌, refl, sym, ◌∙◌, ap, ap₂, subst}
use mathlib.Core.Bool.{Bool, true, false, not}
use mathlib.Core.List.{List, [], ◌∷◌, ◌++◌}
use mathlib.Core.Logic.{◌⊎◌, inl, inr, ⊎_elim}
use Prim.Native.Nat.{ℕ, zero, suc, ◌+◌, ◌*◌, ◌-◌, ◌≤◌, ◌<◌, min}
use native.Mathlib.Decide.{ℕ_discrete}
use native.Mathlib.Omega.{arith}
use lib.Dec.{eqb, ltb, leb}
use lib.ListN.{length, get_or, take, drop, length-replicate, length-take, length-drop}
use lib.Seq.{take-append-le, take_at}
use borrow.Author.Tests.{eq-eqb, ne_eqb, lt-ltb, le-leb}
use Rattle.base_prelude.specs.Choice.{if_lt, if_eq, if_true}
use Rattle.base_prelude.specs.Lists.{zeros, overlay}
use Rattle.base_prelude.proofs.Choice.{either-eq, if_lt-yes, if_eq-yes, if_eq-no, if_true-yes, if_true-no}
use Rattle.base_limits.specs.declared.Width.{Width}
use Rattle.lex_spelling.specs.Text.{name_at}
use Rattle.lex_lexeme.specs.Reading.{name_start}
use Rattle.lang_words.specs.Words.{number_of}
use Rattle.parse_lines.specs.Tokens.{token_word, kind_at, value_at, word_at, host_at}
use Rattle.parse_lines.specs.Units.{unit_at}
use Rattle.lex_source.specs.Token.{Token}
use Rattle.lex_source.specs.Rows.{token_table}
use Rattle.lex_source.specs.Lex.{accepted, lex_of}
use Rattle.prog_tables.proofs.Each.{both_true}
use Rattle.prog_tables.specs.Tests.{both, all}
use Rattle.prog_tables.specs.Statement.{Row, row_at}
use Rattle.prog_tables.specs.Nesting.{follows_jump}
use Rattle.prog_tables.specs.Label.{Label, label_at, is_data, is_function_label}
use Rattle.prog_tables.specs.WellFormed.{names, name_good, name_new, label_tests}
use Rattle.prog_tables.specs.Program.{Program}
use Rattle.prog_tables.specs.Hosts.{Hosts, entries_of, host_arguments, host_of, mark_number, mark_arguments, host_mark, label_hosted}
use Rattle.parse_outline.specs.Outline.{Outlined, outline_of}
use Rattle.parse_outline.specs.Outline as outline
use Rattle.parse_outline.specs.Parsed as answer
use Rattle.res_skeleton.specs.Skeleton.{skeleton_of}
use Rattle.res_scope.specs.Lines.{label_token, label_kind, label_statement}
use Rattle.res_data.specs.Sizes.{address_of, length_of}
use Rattle.std.specs.Prelude.{Ok}
use Rattle.res_labels.specs.Labelling.{outline_word, flag_at, exported_kind, final_kind, final_number, label_words, label_name, label_table, name_table}
use Rattle.res_labels.proofs.Laws.{name-row}
use Rattle.res_rows.specs.Rows.{label_number}
use Rattle.res_text.specs.Same.{name_of}
use Rattle.thm_outline.proofs.LabelRows.{LabelRow, label-rows, label-name}
use Rattle.thm_outline.proofs.Addresses.{address-within}
use Rattle.thm_outline.proofs.Tokens.{Plain, LabelToken, label-token, plain-start}
use Rattle.thm_acceptance.proofs.Listed.{mark-is}
use Rattle.check_judge.specs.Judge.{hosted_table}
use Rattle.check_judge.proofs.Hosted.{kind-hosted, word-hosted}
use Rattle.parse_verdict.proofs.Lexed.{lexed-long}
use Rattle.res_hosts.proofs.Laws.{marked-listed, listed-number, listed-arguments, listed-few}
use Rattle.thm_statement_rows.proofs.Labels.{import-final}
use Rattle.thm_statement_rows.proofs.Statements.{given_yes}
use Rattle.thm_statement_rows.proofs.Views.{viewing, Alike}
use Rattle.thm_soundness.proofs.Labels.{kind-of, number-of, number_same, statement-of, import-of, arguments-of, word_of, final-data, final-function, final-place}

-- ---- the name over 64 zeros

take-take : (n m : ℕ) (l : List ℕ) → n ≤ m → take n (take m l) ≡ take n l
take-take zero m l h = refl
take-take (suc n) zero l h = let z : ⊥ = omega arith in absurd z
take-take (suc n) (suc m) [] h = refl
take-take (suc n) (suc m) (x ∷ l) h = ap (λ (v : List ℕ). x ∷ v) (take-take n m l (omega arith))

overlay-front : (a b : List ℕ) → length a ≤ length b → take (length a) (overlay a b) ≡ a
unfolding overlay
overlay-front a b h =
    take-take (length a) (length b) (a ++ drop (length a) b) h ∙ take_at a (drop (length a) b) (length a) refl

-- ---- kinds

function-data : (flag : ℕ) → is_data (final_kind 3 flag) ≡ false
unfolding final_kind exported_kind is_data if_eq
function-data flag = either-eq (λ (v : ℕ). is_data v ≡ false) flag 1 _ _ (λ _. refl) (λ _. refl)

function-import : (flag : ℕ) → final_kind 3 flag ≡ 6 → ⊥
unfolding final_kind exported_kind if_eq
function-import flag = either-eq (λ (v : ℕ). v ≡ 6 → ⊥) flag 1 _ _ (λ _ e. let z : ⊥ = omega arith in z) (λ _ e. let z : ⊥ = omega arith in z)

data-import : (flag : ℕ) → final_kind 1 flag ≡ 6 → ⊥
unfolding final_kind exported_kind if_eq
data-import flag = either-eq (λ (v : ℕ). v ≡ 6 → ⊥) flag 1 _ _ (λ _ e. let z : ⊥ = omega arith in z) (λ _ e. let z : ⊥ = omega arith in z)

import-data : is_data 6 ≡ false
unfolding is_data if_eq
import-data = refl

-- a token that names a label, with or without the host's marks
token-hosted : (h : Hosts) (s : List ℕ) (ts : List Token) (i : ℕ) → LabelToken s (token_table ts) i → LabelToken s (hosted_table h s ts) i
token-hosted h s ts i x =
    let v : value_at (hosted_table h s ts) i ≡ value_at (token_table ts) i = word-hosted h s ts i 3 (omega arith) in
    let f : token_word (hosted_table h s ts) i 1 ≡ token_word (token_table ts) i 1 = word-hosted h s ts i 1 (omega arith) in
    let w : word_at (hosted_table h s ts) i ≡ word_at (token_table ts) i = word-hosted h s ts i 5 (omega arith) in
    record {
      some = omega (arith, x.some, v);
      short = omega (arith, x.short, v);
      size = ap (λ (j : ℕ). length (name_at s j)) f ∙ x.size ∙ sym v;
      free = λ g. ap (λ (j : ℕ). number_of (name_at s j)) f ∙ x.free (λ a. omega (arith, w, g (omega (arith, w, a))));
    }

place-data : is_data 5 ≡ false
unfolding is_data if_eq
place-data = refl

place-function : is_function_label 5 ≡ false
unfolding is_function_label if_eq
place-function = refl

not_eqb : (a b : ℕ) → (a ≡ b → ⊥) → not (eqb a b) ≡ true
not_eqb a b d = ap not (ne_eqb a b d)

jumps-same : (f g : ℕ → Row) → Alike f g → (n : ℕ) → follows_jump f n ≡ follows_jump g n
unfolding follows_jump
jumps-same f g h zero = refl
jumps-same f g h (suc n) = ap (λ (v : ℕ). eqb v 21) (h.kinds n)

module _ (w : Width) (hosts : Hosts) (s : List ℕ) (ts : List Token) (lx : lex_of w s ≡ accepted ts) (n c l : ℕ) (x y flags : List ℕ) (long : length (hosted_table hosts s ts) ≡ 32768)
    (oh : outline_of w (hosted_table hosts s ts) n ≡ outline.parsed (answer.accepted c l) x y) (i j d : ℕ) (labels-room : l * 4 ≤ i) (names-room : l * 64 ≤ j)
    (sized : length_of w (hosted_table hosts s ts) ≡ Ok d) (f : ℕ → Row) (al : Alike f (row_at (skeleton_of x c))) (prog : Program) where
  abbrev t : List ℕ
  t = hosted_table hosts s ts

  abbrev h : ℕ → Label
  h = label_at (label_table w (hosted_table hosts s ts) y flags l (zeros i)) (name_table s (hosted_table hosts s ts) y l (zeros j))

  row : (e : ℕ) → e < l → LabelRow (hosted_table hosts s ts) y (row_at (skeleton_of x c)) c e
  row e g = label-rows w (hosted_table hosts s ts) n c l x y long oh e g

  pub label-tokens : (e : ℕ) → e < l → (kind_at (hosted_table hosts s ts) (label_token y e) ≡ 2) ⊎ (kind_at (hosted_table hosts s ts) (label_token y e) ≡ 3)
  label-tokens e g = label-name (hosted_table hosts s ts) y (row_at (skeleton_of x c)) c e (row e g)

  token : (e : ℕ) → e < l → LabelToken s (hosted_table hosts s ts) (label_token y e)
  token e g = token-hosted hosts s ts (label_token y e) (label-token w s ts lx (label_token y e) (subst Plain (kind-hosted hosts s ts (label_token y e)) (label-tokens e g)))

  first_word : (e : ℕ) → outline_word y e 0 ≡ label_token y e
  unfolding outline_word label_token
  first_word e = let q : e * 4 + 0 ≡ e * 4 = omega arith in ap (λ (v : ℕ). get_or y v 0) q

  name-is : (e : ℕ) → label_name s (hosted_table hosts s ts) y e ≡ name_at s (token_word (hosted_table hosts s ts) (label_token y e) 1)
  unfolding label_name
  name-is e = ap (λ (v : ℕ). name_at s (token_word (hosted_table hosts s ts) v 1)) (first_word e)

  -- the size of a label's name
  pub size_of : (e : ℕ) → e < l → value_at (hosted_table hosts s ts) (outline_word y e 0) ≡ length (label_name s (hosted_table hosts s ts) y e)
  size_of e g = ap (value_at (hosted_table hosts s ts)) (first_word e) ∙ sym (token e g).size ∙ ap length (sym (name-is e))

  size_word : (e : ℕ) → e < l → (h e).size ≡ value_at (hosted_table hosts s ts) (label_token y e)
  unfolding label_at label_words
  size_word e g = word_of w s (hosted_table hosts s ts) y flags l i j labels-room e 3 g (omega arith) ∙ ap (value_at (hosted_table hosts s ts)) (first_word e)

  row-long : (e : ℕ) → e < l → length (take 64 (drop (e * 64) (zeros j))) ≡ 64
  row-long e g =
      let a = length-replicate {A = ℕ} j 0 in
      length-take 64 (drop (e * 64) (zeros j)) ∙ omega (arith, a, length-drop (e * 64) (zeros j))

  -- the name in the name table
  name-read : (e : ℕ) → e < l → (h e).name ≡ name_at s (token_word (hosted_table hosts s ts) (label_token y e) 1)
  unfolding label_at
  name-read e g =
      let a = length-replicate {A = ℕ} j 0 in
      let b : (h e).size ≡ length (label_name s (hosted_table hosts s ts) y e) = size_word e g ∙ sym (token e g).size ∙ ap length (sym (name-is e)) in
      let o : length (label_name s (hosted_table hosts s ts) y e) ≤ 64 = let v = (token e g).short in omega (arith, b, size_word e g, v) in
      ap (λ (v : ℕ). take v (drop (e * 64) (name_table s (hosted_table hosts s ts) y l (zeros j)))) b
      ∙ sym (take-take (length (label_name s (hosted_table hosts s ts) y e)) 64 (drop (e * 64) (name_table s (hosted_table hosts s ts) y l (zeros j))) o)
      ∙ ap (take (length (label_name s (hosted_table hosts s ts) y e))) (name-row s (hosted_table hosts s ts) y l (zeros j) (omega (arith, a)) e g)
      ∙ overlay-front (label_name s (hosted_table hosts s ts) y e) (take 64 (drop (e * 64) (zeros j))) (omega (arith, o, row-long e g))
      ∙ name-is e

  -- by its decoded bytes
  pub name-bytes : (e : ℕ) → e < l → (h e).name ≡ name_of s (hosted_table hosts s ts) (label_token y e)
  unfolding name_of
  name-bytes e g = name-read e g ∙ ap (name_at s) (sym (plain-start s (kind_at (hosted_table hosts s ts) (label_token y e)) (token_word (hosted_table hosts s ts) (label_token y e) 1) (label-tokens e g)))

  -- "a name 64 decoded bytes", "none empty or reserved"
  good : (e : ℕ) → e < l → name_good (h e) ≡ true
  unfolding name_good all
  good e g =
      let v = token e g in
      let q = size_word e g in
      both_true _ _ (le-leb 1 (h e).size (omega (arith, q, v.some)))
      (both_true _ _ (le-leb (h e).size 64 (omega (arith, q, v.short)))
      (both_true _ _ (eq-eqb (number_of (h e).name) 0 (ap number_of (name-read e g) ∙ v.free (row e g).free)) refl))

  kind-here : (e : ℕ) → e < l → (h e).kind ≡ final_kind (label_kind y e) (flag_at flags e)
  kind-here e g = kind-of w s (hosted_table hosts s ts) y flags l i j labels-room e g

  number-here : (e : ℕ) → e < l → (label_kind y e ≡ 1 → ⊥) → (label_kind y e ≡ 6 → ⊥) → (h e).number ≡ label_statement y e
  number-here e g q o = number_same w s (hosted_table hosts s ts) y flags l i j labels-room e ∙ statement-of w s (hosted_table hosts s ts) y flags l i j labels-room e g q o

  address-here : (e : ℕ) → e < l → label_kind y e ≡ 1 → (h e).number ≤ d
  unfolding final_number
  address-here e g q =
      let a : (h e).number ≡ address_of w (hosted_table hosts s ts) (get_or y (e * 4 + 2) 0) = number_same w s (hosted_table hosts s ts) y flags l i j labels-room e ∙ number-of w s (hosted_table hosts s ts) y flags l i j labels-room e g ∙ if_eq-yes _ _ q in
      let b = address-within w (hosted_table hosts s ts) long (get_or y (e * 4 + 2) 0) d sized in
      omega (arith, a, b)

  -- what a label names
  names-data : (e : ℕ) → e < l → label_kind y e ≡ 1 → names (viewing prog f c h l d) (h e) ≡ true
  unfolding names
  names-data e g q =
      if_true-yes _ _ (ap is_data (kind-here e g ∙ ap (λ (v : ℕ). final_kind v (flag_at flags e)) q) ∙ final-data (flag_at flags e))
      ∙ le-leb (h e).number d (address-here e g q)

  names-function : (e : ℕ) → e < l → label_kind y e ≡ 3 → names (viewing prog f c h l d) (h e) ≡ true
  unfolding names
  names-function e g q =
      let v = row e g in
      let p : label_kind y e ≡ 1 → ⊥ = λ o. absurd (omega arith) in
      let p₆ : label_kind y e ≡ 6 → ⊥ = λ o. absurd (omega arith) in
      let a : (h e).number ≡ label_statement y e = number-here e g p p₆ in
      let k : (h e).kind ≡ final_kind 3 (flag_at flags e) = kind-here e g ∙ ap (λ (o : ℕ). final_kind o (flag_at flags e)) q in
      if_true-no _ _ (ap is_data k ∙ function-data (flag_at flags e))
      ∙ if_eq-no _ _ (λ o. function-import (flag_at flags e) (sym k ∙ o))
      ∙ both_true _ _ (lt-ltb (h e).number c (let b = v.below p p₆ in omega (arith, a, b)))
      (if_true-yes _ _ (ap is_function_label k ∙ final-function (flag_at flags e))
      ∙ eq-eqb (f (h e).number).kind 1 (al.kinds (h e).number ∙ ap (λ (o : ℕ). (row_at (skeleton_of x c) o).kind) a ∙ v.function q))

  names-place : (e : ℕ) → e < l → label_kind y e ≡ 5 → names (viewing prog f c h l d) (h e) ≡ true
  unfolding names all
  names-place e g q =
      let v = row e g in
      let p : label_kind y e ≡ 1 → ⊥ = λ o. absurd (omega arith) in
      let p₆ : label_kind y e ≡ 6 → ⊥ = λ o. absurd (omega arith) in
      let a : (h e).number ≡ label_statement y e = number-here e g p p₆ in
      let k : (h e).kind ≡ 5 = kind-here e g ∙ ap (λ (o : ℕ). final_kind o (flag_at flags e)) q ∙ final-place (flag_at flags e) in
      if_true-no _ _ (ap is_data k ∙ place-data)
      ∙ if_eq-no _ _ (λ o. let z : ⊥ = omega (arith, k, o) in z)
      ∙ both_true _ _ (lt-ltb (h e).number c (let b = v.below p p₆ in omega (arith, a, b)))
      (if_true-no _ _ (ap is_function_label k ∙ place-function)
      ∙ both_true _ _ (eq-eqb (h e).kind 5 k)
      (both_true _ _ (not_eqb (f (h e).number).kind 1 (λ o. v.place q (ap (λ (u : ℕ). (row_at (skeleton_of x c) u).kind) (sym a) ∙ sym (al.kinds (h e).number) ∙ o)))
      (both_true _ _ (ap not (jumps-same f (row_at (skeleton_of x c)) al (h e).number ∙ ap (follows_jump (row_at (skeleton_of x c))) a ∙ v.first p p₆)) refl)))

  -- an import: the host lists its name, with the number and the argument count of its row
  import-mark : (e : ℕ) → e < l → label_kind y e ≡ 6 → get_or y (e * 4 + 2) 0 ≡ host_mark hosts (h e).name
  import-mark e g q =
      let v = (row e g).imported q in
      let k : kind_at (hosted_table hosts s ts) ((unit_at (hosted_table hosts s ts) v.at).word + 1) ≡ 3 = ap (kind_at (hosted_table hosts s ts)) (sym v.is) ∙ v.name in
      v.mark ∙ ap (host_at (hosted_table hosts s ts)) v.is ∙ mark-is hosts s ts (lexed-long w s ts lx) (unit_at (hosted_table hosts s ts) v.at).word v.line k
      ∙ ap (λ (i : ℕ). host_mark hosts (name_of s (hosted_table hosts s ts) i)) (sym v.is) ∙ ap (host_mark hosts) (sym (name-bytes e g))

  import-listed : (e : ℕ) → e < l → label_kind y e ≡ 6 → host_of hosts (h e).name < entries_of hosts
  import-listed e g q =
      let v = (row e g).imported q in
      let m = import-mark e g q in
      marked-listed hosts (h e).name (some (host_mark hosts (h e).name) (λ z. v.listed (sym v.mark ∙ m ∙ z)))
    where
      some : (a : ℕ) → (a ≡ 0 → ⊥) → 1 ≤ a
      some a d = omega (arith, d)

  import-number : (e : ℕ) → e < l → label_kind y e ≡ 6 → (h e).number ≡ host_of hosts (h e).name
  import-number e g q =
      number_same w s (hosted_table hosts s ts) y flags l i j labels-room e ∙ import-of w s (hosted_table hosts s ts) y flags l i j labels-room e g q
      ∙ ap mark_number (import-mark e g q) ∙ listed-number hosts (h e).name (import-listed e g q)

  import-arguments : (e : ℕ) → e < l → label_kind y e ≡ 6 → (h e).arguments ≡ mark_arguments (host_mark hosts (h e).name)
  import-arguments e g q = arguments-of w s (hosted_table hosts s ts) y flags l i j labels-room e g q ∙ ap mark_arguments (import-mark e g q)

  import-kind : (e : ℕ) → e < l → label_kind y e ≡ 6 → (h e).kind ≡ 6
  import-kind e g q = kind-here e g ∙ import-final (label_kind y e) (flag_at flags e) q

  names-import : (e : ℕ) → e < l → label_kind y e ≡ 6 → names (viewing prog f c h l d) (h e) ≡ true
  unfolding names
  names-import e g q =
      let k = import-kind e g q in
      if_true-no _ _ (ap is_data k ∙ import-data) ∙ if_eq-yes _ _ k
      ∙ le-leb (h e).arguments 8 (omega (arith, import-arguments e g q, listed-few hosts (h e).name (import-listed e g q)))

  names-pass : (e : ℕ) → e < l → names (viewing prog f c h l d) (h e) ≡ true
  names-pass e g =
      ⊎_elim (λ q. names-data e g q) (λ o.
      ⊎_elim (λ q. names-function e g q) (λ p.
      ⊎_elim (λ q. names-place e g q) (λ q. names-import e g q) p) o) (row e g).kinds

  -- "(imports against the host's list)"
  pub label-hosted : (e : ℕ) → e < l → label_hosted hosts (h e) ≡ true
  unfolding label_hosted all
  label-hosted e g =
      given_yes (h e).kind 6 _ (λ k.
      let q : label_kind y e ≡ 6 = six (row e g).kinds k in
      let n = import-number e g q in
      both_true _ _ (lt-ltb (host_of hosts (h e).name) (entries_of hosts) (import-listed e g q))
      (both_true _ _ (eq-eqb (h e).number (host_of hosts (h e).name) n)
      (both_true _ _ (eq-eqb (h e).arguments (host_arguments hosts (h e).number)
      (import-arguments e g q ∙ listed-arguments hosts (h e).name (import-listed e g q) ∙ ap (host_arguments hosts) (sym n))) refl)))
    where
      six : (label_kind y e ≡ 1) ⊎ ((label_kind y e ≡ 3) ⊎ ((label_kind y e ≡ 5) ⊎ (label_kind y e ≡ 6))) → (h e).kind ≡ 6 → label_kind y e ≡ 6
      six (inl q) k = absurd (data-import (flag_at flags e) (sym (kind-here e g ∙ ap (λ (v : ℕ). final_kind v (flag_at flags e)) q) ∙ k))
      six (inr (inl q)) k = absurd (function-import (flag_at flags e) (sym (kind-here e g ∙ ap (λ (v : ℕ). final_kind v (flag_at flags e)) q) ∙ k))
      six (inr (inr (inl q))) k =
          let z : ⊥ = omega (arith, k, kind-here e g ∙ ap (λ (v : ℕ). final_kind v (flag_at flags e)) q ∙ final-place (flag_at flags e)) in absurd z
      six (inr (inr (inr q))) k = q

  -- the three tests
  pub label-passes : ((e : ℕ) → e < l → name_new h e ≡ true) → (e : ℕ) → e < l → all (label_tests (viewing prog f c h l d) e) ≡ true
  unfolding label_tests all
  label-passes new e g = both_true _ _ (names-pass e g) (both_true _ _ (good e g) (both_true _ _ (new e g) refl))
