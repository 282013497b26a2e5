-- The name of an import without a fault.
-- Assumes nothing.
use mathlib.Core.Path.{◌≡◌, refl, sym, ◌∙◌, ap, subst}
use mathlib.Core.Bool.{Bool, true, false}
use mathlib.Core.List.{List}
use Prim.Native.Nat.{ℕ, zero, suc, ◌+◌, ◌-◌, ◌≤◌, ◌<◌}
use native.Mathlib.Decide.{ℕ_discrete}
use native.Mathlib.Omega.{arith}
use Rattle.base_prelude.specs.Choice.{if_lt, if_eq, if_true}
use Rattle.base_prelude.specs.Fault.{none, least_of}
use Rattle.base_prelude.proofs.Choice.{either, either-eq, either_true, true-false, if_eq-yes, if_eq-no, if_true-yes}
use Rattle.base_limits.specs.declared.Width.{Width}
use Rattle.parse_lines.specs.Tokens.{kind_at, word_at, host_at, key_at}
use Rattle.parse_lines.specs.Units.{unit_at}
use Rattle.parse_lines.specs.Lines.{line_kind}
use Rattle.parse_lines.specs.declared.Span.{Span}
use Rattle.parse_lines.proofs.Keys.{no_key}
use Rattle.parse_shapes.specs.Shapes.{is_name, shapes, shape_in, shape_of, is_shaped, form_fits, range_fits, count_fits, shape_fits}
use Rattle.parse_rules.specs.Rules.{shape_rule, own_in, own_word, name_key, token_key, tokens_least, tokens_rule}
use Rattle.parse_units.specs.Places.{ground_in, import_labels, line_faults, limit_faults, unit_fault}
use Rattle.parse_units.specs.Parse.{World, open_row, fault_in}
use Rattle.parse_units.specs.declared.State.{State}
use Rattle.parse_units.proofs.Bounds.{unit-clean, import-ground}
use Rattle.parse_verdict.proofs.Scans.{name-inside}
use Rattle.thm_outline.proofs.Unit.{Free}

is_name_lem : (t : List ℕ) (i : ℕ) → is_name t i ≡ true → kind_at t i ≡ 3
unfolding is_name
is_name_lem t i = either-eq (λ (b : Bool). b ≡ true → kind_at t i ≡ 3) (kind_at t i) 3 _ _ (λ e _. e) (λ _ z. true-false (sym z))

-- what an import that is a label has
pub record Listed (t : List ℕ) (u : Span) (k : ℕ) : Type 0 where
  pub kind : k ≡ 36
  pub name : kind_at t (u.word + 1) ≡ 3
  pub mark : host_at t (u.word + 1) ≡ 0 → ⊥

pub listed : (t : List ℕ) (u : Span) (k : ℕ) → (import_labels t u k ≡ 0 → ⊥) → Listed t u k
unfolding import_labels
listed t u k =
    either-eq (λ (x : ℕ). (x ≡ 0 → ⊥) → Listed t u k) k 36 _ _
    (λ e. either_true (λ (x : ℕ). (x ≡ 0 → ⊥) → Listed t u k) (is_name t (u.word + 1)) _ _
    (λ b. either-eq (λ (x : ℕ). (x ≡ 0 → ⊥) → Listed t u k) (host_at t (u.word + 1)) 0 _ _ (λ _ d. absurd (d refl))
    (λ m _. record { kind = e; name = is_name_lem t (u.word + 1) b; mark = m }))
    (λ _ d. absurd (d refl)))
    (λ _ d. absurd (d refl))

-- an import whose name has a mark is a label
pub listed-label : (t : List ℕ) (u : Span) (k : ℕ) → Listed t u k → import_labels t u k ≡ 1
unfolding import_labels is_name
listed-label t u k h = if_eq-yes _ _ h.kind ∙ if_true-yes _ _ (if_eq-yes _ _ h.name) ∙ if_eq-no _ _ h.mark

-- ---- an import in right shape

shape-fits : (w : Width) (t : List ℕ) (n : ℕ) (u : Span) (k : ℕ) → k ≡ 36 → none ≤ shape_rule w t n u k → shape_fits w t u k ≡ true
unfolding shape_rule
shape-fits w t n u k e =
    either-eq (λ (x : ℕ). none ≤ x → shape_fits w t u k ≡ true) k 0 _ _ (λ q. let z : ⊥ = omega arith in absurd z) (λ _.
    either-eq (λ (x : ℕ). none ≤ x → shape_fits w t u k ≡ true) k 34 _ _ (λ q. let z : ⊥ = omega arith in absurd z) (λ _.
    either-eq (λ (x : ℕ). none ≤ x → shape_fits w t u k ≡ true) k 35 _ _ (λ q. let z : ⊥ = omega arith in absurd z) (λ _.
    either_true (λ (x : ℕ). none ≤ x → shape_fits w t u k ≡ true) (shape_fits w t u k) _ _ (λ q _. q) (λ _ h. no_key t n u.word 7 (omega arith) h))))

fits-form : (w : Width) (t : List ℕ) (u : Span) (k : ℕ) → shape_fits w t u k ≡ true → form_fits t u k ≡ true
unfolding shape_fits
fits-form w t u k =
    either_true (λ (b : Bool). b ≡ true → form_fits t u k ≡ true) (count_fits t u k) _ _
    (λ _. either_true (λ (b : Bool). b ≡ true → form_fits t u k ≡ true) (form_fits t u k) _ _ (λ q _. q) (λ _ z. true-false (sym z))) (λ _ z. true-false (sym z))

form-import : (t : List ℕ) (u : Span) → form_fits t u 36 ≡ is_name t (u.word + 1)
unfolding form_fits is_shaped shape_of shape_in shapes if_eq
form-import t u = refl

own-import : (t : List ℕ) (u : Span) → own_word t u 36 ≡ 0
unfolding own_word own_in shape_of shape_in shapes if_eq
own-import t u = refl

-- ---- its name is not reserved

name_free : (t : List ℕ) (n own i : ℕ) → (i ≡ own → ⊥) → none ≤ name_key t n own i → Free t i
unfolding name_key
name_free t n own i d =
    either-eq (λ (x : ℕ). none ≤ x → Free t i) i own _ _ (λ e. absurd (d e)) (λ _.
    either (λ (x : ℕ). none ≤ x → Free t i) (word_at t i) 1 _ _ (λ a _ b. let z : ⊥ = omega arith in absurd z) (λ _.
    either (λ (x : ℕ). none ≤ x → Free t i) (word_at t i) 52 _ _ (λ _ h. no_key t n i 8 (omega arith) h) (λ a _ _. a)))

token-free : (t : List ℕ) (n own i : ℕ) → (i ≡ own → ⊥) → kind_at t i ≡ 3 → none ≤ token_key t n own i → Free t i
unfolding token_key
token-free t n own i d e =
    either-eq (λ (x : ℕ). none ≤ x → Free t i) (kind_at t i) 3 _ _ (λ _ h. name_free t n own i d h) (λ f. absurd (f e))

least-free : (left : ℕ) (t : List ℕ) (n own i : ℕ) → 1 ≤ left → (i ≡ own → ⊥) → kind_at t i ≡ 3 → none ≤ tokens_least left t n own i → Free t i
unfolding tokens_least
least-free zero t n own i l d e h = let z : ⊥ = omega arith in absurd z
least-free (suc left) t n own i l d e h = token-free t n own i d e (omega arith)

rule-free : (t : List ℕ) (n : ℕ) (u : Span) (k : ℕ) → k ≡ 36 → u.word + 1 < u.next → kind_at t (u.word + 1) ≡ 3 → none ≤ tokens_rule t n u k → Free t (u.word + 1)
unfolding tokens_rule
rule-free t n u k q l e h =
    least-free (u.next - (u.word + 1)) t n (own_word t u k) (u.word + 1) (omega arith)
    (λ z. let y : ⊥ = omega (arith, ap (own_word t u) q ∙ own-import t u) in y) e h

module _ (w : Width) (t : List ℕ) (n : ℕ) (u : Span) (k g : ℕ) (s : State) (c : none ≤ unit_fault w t n u k g s) where
  lines-clean : none ≤ least_of (line_faults w t n u k g s)
  unfolding unit_fault
  lines-clean = omega arith

  limits-clean : none ≤ least_of (limit_faults t n u k s)
  unfolding unit_fault
  limits-clean = omega arith

  shape-clean : none ≤ shape_rule w t n u k
  unfolding line_faults least_of
  shape-clean = omega (arith, lines-clean)

  tokens-clean : none ≤ tokens_rule t n u k
  unfolding limit_faults least_of
  tokens-clean = omega (arith, limits-clean)

-- an import of an accepted source stands between functions, and a name that is not reserved stands behind it
module _ (w : Width) (t : List ℕ) (n : ℕ) (x : World) (c : none ≤ fault_in w t n (unit_at t x.state.at) x)
    (e : line_kind t (unit_at t x.state.at).word ≡ 36) where
  abbrev u : Span
  u = unit_at t x.state.at

  clean : none ≤ unit_fault w t n u (line_kind t u.word) (ground_in x.state (open_row x)) x.state
  clean = unit-clean w t n u x c

  pub import-between : ground_in x.state (open_row x) ≡ 1
  import-between = import-ground w t n u x c e

  pub import-name : kind_at t ((unit_at t x.state.at).word + 1) ≡ 3
  import-name =
      is_name_lem t (u.word + 1)
      (sym (ap (form_fits t u) e ∙ form-import t u)
      ∙ fits-form w t u (line_kind t u.word) (shape-fits w t n u (line_kind t u.word) e (shape-clean w t n u (line_kind t u.word) (ground_in x.state (open_row x)) x.state clean)))

  pub import-free : Free t ((unit_at t x.state.at).word + 1)
  import-free =
      rule-free t n u (line_kind t u.word) e (name-inside t x.state.at import-name) import-name
      (tokens-clean w t n u (line_kind t u.word) (ground_in x.state (open_row x)) x.state clean)
