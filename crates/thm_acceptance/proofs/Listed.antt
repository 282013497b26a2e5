-- The name of an import that breaks no rule of lines has a mark exactly where the host lists it.
-- Assumes nothing.
use mathlib.Core.Path.{◌≡◌, refl, sym, ◌∙◌, ap, subst}
use mathlib.Core.Bool.{Bool, true, false}
use mathlib.Core.List.{List, [], ◌∷◌}
use mathlib.Core.Logic.{inr}
use Prim.Native.Nat.{ℕ, zero, suc, ◌+◌, ◌≤◌, ◌<◌}
use native.Mathlib.Decide.{dec_lt, ℕ_discrete}
use native.Mathlib.Omega.{arith}
use lib.ListN.{length}
use borrow.Author.Tests.{eq-eqb}
use Rattle.base_prelude.specs.Choice.{if_eq, if_true}
use Rattle.base_prelude.specs.Lists.{is_among}
use Rattle.base_prelude.proofs.Choice.{either-eq, either_true, if_eq-yes, if_eq-no, true-false}
use Rattle.base_limits.specs.declared.Width.{Width}
use Rattle.prog_tables.specs.Hosts.{Hosts, entries_of, host_of, host_mark}
use Rattle.lex_spelling.specs.Text.{name_at}
use Rattle.lex_lexeme.specs.Reading.{name_start}
use Rattle.lex_source.specs.Token.{Token}
use Rattle.lex_source.specs.Rows.{token_table}
use Rattle.lex_source.proofs.Laws.{token-behind}
use Rattle.parse_lines.specs.Tokens.{token_word, kind_at, word_at, host_at}
use Rattle.parse_lines.specs.Units.{unit_at}
use Rattle.parse_lines.specs.Lines.{line_kind}
use Rattle.parse_lines.specs.declared.Span.{Span}
use Rattle.parse_shapes.specs.Shapes.{is_name, shapes, shape_in, shape_of, is_shaped, form_fits, count_fits, range_fits, shape_fits}
use Rattle.parse_units.specs.Places.{line_on}
use Rattle.res_text.specs.Same.{name_of}
use Rattle.res_hosts.specs.Marks.{is_import, mark_at, hosted_tokens}
use Rattle.res_hosts.proofs.Laws.{import-marked, import-stays, word-stays, listed-marked, marked-listed}
use Rattle.check_judge.specs.Judge.{hosted_table}
use Rattle.thm_outline.proofs.Tokens.{plain-start}
use Rattle.thm_outline.proofs.Unit.{line-import}
use Rattle.thm_acceptance.specs.Lines.{Line, lines_from, lines_of, EachFrom, EachLine, ground_before, kind_on}
use Rattle.thm_acceptance.specs.Unbroken.{Listed}
use Rattle.thm_acceptance.proofs.Paged.{LineFine, lines_more, on-is}
use Rattle.thm_acceptance.proofs.Page.{each_map, each_both}

-- ---- each line has the kind of its word

abbrev Kinded : List ℕ → List Line → Line → Type 0
Kinded t before x = x.kind ≡ line_kind t x.unit.word

kinded-from : (left : ℕ) (t : List ℕ) (before : List Line) (at : ℕ) → EachFrom (Kinded t) before (lines_from left t at)
unfolding lines_from
kinded-from zero t before at = tt
kinded-from (suc left) t before at =
    let x : Line = record { unit = unit_at t at; kind = line_kind t (unit_at t at).word } in
    subst (EachFrom (Kinded t) before) (sym (lines_more left t at)) (
      refl,
      either-eq (EachFrom (Kinded t) (x ∷ before)) (line_kind t (unit_at t at).word) 0 _ _ (λ _. tt) (λ _. kinded-from left t (x ∷ before) (unit_at t at).next),
    )

kinded : (t : List ℕ) → EachLine t (Kinded t)
unfolding lines_of
kinded t = kinded-from (suc (length t)) t [] 0

-- ---- the name behind an import

is_name_lem : (t : List ℕ) (i : ℕ) → is_name t i ≡ true → kind_at t i ≡ 3
unfolding is_name
is_name_lem t i = either-eq (λ (b : Bool). b ≡ true → kind_at t i ≡ 3) (kind_at t i) 3 _ _ (λ e _. e) (λ _ z. true-false (sym z))

fits-form : (w : Width) (t : List ℕ) (u : Span) (k : ℕ) → shape_fits w t u k ≡ true → form_fits t u k ≡ true
unfolding shape_fits
fits-form w t u k =
    either_true (λ (b : Bool). b ≡ true → form_fits t u k ≡ true) (count_fits t u k) _ _
    (λ _. either_true (λ (b : Bool). b ≡ true → form_fits t u k ≡ true) (form_fits t u k) _ _ (λ q _. q) (λ _ z. true-false (sym z))) (λ _ z. true-false (sym z))

form-import : (t : List ℕ) (u : Span) → form_fits t u 36 ≡ is_name t (u.word + 1)
unfolding form_fits is_shaped shape_of shape_in shapes if_eq
form-import t u = refl

not-edge : is_among 36 (0 ∷ 34 ∷ []) ≡ false
unfolding is_among
not-edge = refl

fine-name : (w : Width) (t : List ℕ) (before : List Line) (x : Line) → LineFine w t before x → x.kind ≡ 36 → kind_at t (x.unit.word + 1) ≡ 3
fine-name w t before x f e =
    let q : kind_on t before x ≡ 36 = on-is (ground_before t before) x.kind f.between ∙ e in
    let a : is_among (kind_on t before x) (0 ∷ 34 ∷ []) ≡ false = ap (λ (v : ℕ). is_among v (0 ∷ 34 ∷ [])) q ∙ not-edge in
    let b : form_fits t x.unit 36 ≡ true = fits-form w t x.unit 36 (subst (λ (v : ℕ). shape_fits w t x.unit v ≡ true) q (f.shaped a)) in
    is_name_lem t (x.unit.word + 1) (sym (form-import t x.unit) ∙ b)

-- ---- its mark

module _ (h : Hosts) (s : List ℕ) (ts : List Token) (long : length (token_table ts) ≡ 32768) where
  abbrev t : List ℕ
  t = hosted_table h s ts

  within : (i : ℕ) → kind_at t i ≡ 3 → i < length ts
  unfolding token_word
  within i e =
      elim (dec_lt i (length ts)) [
        | yes l ↦ l
        | no l ↦
            let a : kind_at t i ≡ kind_at (token_table ts) i = word-stays h s (length ts) (token_table ts) i 0 (omega arith) in
            let b = token-behind ts i 0 (omega arith) in
            let z : ⊥ = omega (arith, e, a, b) in
            absurd z
      ]

  import-here : (i : ℕ) → line_kind t i ≡ 36 → kind_at t (i + 1) ≡ 3 → is_import t i ≡ true
  unfolding is_import
  import-here i e k =
      let l = line-import t i e in if_eq-yes _ _ l.0 ∙ if_eq-yes _ _ l.1 ∙ eq-eqb _ _ k

  pub mark-is : (i : ℕ) → line_kind t i ≡ 36 → kind_at t (i + 1) ≡ 3 → host_at t (i + 1) ≡ host_mark h (name_of s t (i + 1))
  unfolding name_of mark_at
  mark-is i e k =
      import-marked h s (token_table ts) long (length ts) i (within i (line-import t i e).0) (sym (import-stays h s (length ts) (token_table ts) i) ∙ import-here i e k)
      ∙ ap (λ (v : ℕ). host_mark h (name_at s v)) (sym (word-stays h s (length ts) (token_table ts) (i + 1) 1 (omega arith)))
      ∙ ap (λ (v : ℕ). host_mark h (name_at s v)) (sym (plain-start s (kind_at t (i + 1)) (token_word t (i + 1) 1) (inr k)))

  module _ (w : Width) where
    abbrev Marks : List Line → Line → Type 0
    Marks before x = x.kind ≡ 36 → 1 ≤ host_at t (x.unit.word + 1)

    abbrev Lists : List Line → Line → Type 0
    Lists before x = x.kind ≡ 36 → Listed h s t (x.unit.word + 1)

    abbrev Sound : List Line → Line → Type 0
    Sound before x = LineFine w t before x × Kinded t before x

    sound : EachLine t (LineFine w t) → EachLine t Sound
    sound f = each_both (LineFine w t) (Kinded t) [] (lines_of t) f (kinded t)

    line-mark : (before : List Line) (x : Line) → Sound before x → x.kind ≡ 36
        → host_at t (x.unit.word + 1) ≡ host_mark h (name_of s t (x.unit.word + 1))
    line-mark before x a e = mark-is x.unit.word (sym a.1 ∙ e) (fine-name w t before x a.0 e)

    pub marks-lists : EachLine t (LineFine w t) → EachLine t Marks → EachLine t Lists
    marks-lists f m =
        each_map (λ b x. Sound b x × Marks b x) Lists
        (λ b x z e. marked-listed h (name_of s t (x.unit.word + 1)) (omega (arith, z.1 e, line-mark b x z.0 e))) [] (lines_of t)
        (each_both Sound Marks [] (lines_of t) (sound f) m)

    pub lists-marks : EachLine t (LineFine w t) → EachLine t Lists → EachLine t Marks
    lists-marks f m =
        each_map (λ b x. Sound b x × Lists b x) Marks
        (λ b x z e. omega (arith, listed-marked h (name_of s t (x.unit.word + 1)) (z.1 e), line-mark b x z.0 e)) [] (lines_of t)
        (each_both Sound Lists [] (lines_of t) (sound f) m)
