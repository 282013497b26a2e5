-- The rows of the outline, as a unit adds rows to it.
-- Assumes nothing.
use mathlib.Core.Path.{◌≡◌, refl, sym, ◌∙◌, ap, subst}
use mathlib.Core.Bool.{Bool, true, false, not}
use mathlib.Core.List.{List, [], ◌∷◌, ◌++◌}
use Prim.Native.Nat.{ℕ, zero, suc, ◌+◌, ◌*◌, ◌-◌, ◌≤◌, ◌<◌}
use native.Mathlib.Decide.{dec_lt, ℕ_discrete}
use native.Mathlib.Omega.{arith}
use lib.Dec.{T, eqb, eqb_refl, T_not}
use lib.ListN.{length, get_or}
use Rattle.base_prelude.specs.Choice.{if_lt, if_eq, if_true}
use Rattle.base_prelude.proofs.Choice.{either, either-eq}
use Rattle.base_prelude.proofs.Table.{every, at}
use Rattle.lang_kinds.specs.Nesting.{rows_of, word_kinds, kind_of_word}
use Rattle.lang_kinds.proofs.Cases.{kind-none, kind-known}
use Rattle.lang_kinds.proofs.RowCounts.{rows_few, rows-one}
use Rattle.parse_lines.specs.Tokens.{word_at}
use Rattle.parse_lines.specs.declared.Span.{Span}
use Rattle.parse_shapes.specs.Shapes.{operand_count}
use Rattle.parse_units.specs.Outline.{row_at, row_in}
use Rattle.parse_units.specs.Parse.{World, world, put_state, put_kind, grow_two, grow_by}
use Rattle.parse_units.specs.declared.Row.{Row}
use Rattle.parse_units.specs.declared.State.{State}
use Rattle.thm_outline.proofs.Puts.{put-before, put_same, length-put}

-- ---- what rows a unit adds

-- no word is that of an else-if jump
no_jump : (w : ℕ) → kind_of_word w ≡ 21 → ⊥
no_jump w e =
    elim (dec_lt w 33) [
      | yes h ↦ T_not (eqb (get_or word_kinds w 0) 21) (at 0 (λ (i k : ℕ). not (eqb k 21)) word_kinds tt w h) (subst (λ (k : ℕ). T (eqb k 21)) (sym (kind-known w h ∙ e)) (eqb_refl 21))
      | no h ↦ let z : ⊥ = omega (arith, kind-none w (omega arith)) in absurd z
    ]

-- one row more: of kind k, from token `from` to before token `to`
record Put (x y : World) (k from to : ℕ) : Type 0 where
  long : length y.table ≡ 8200
  count : y.state.count ≡ x.state.count + 1
  stays : (i : ℕ) → i < x.state.count → row_at y.table i ≡ row_at x.table i
  kind : (row_at y.table x.state.count).kind ≡ k
  token : (row_at y.table x.state.count).token ≡ from
  next : (row_at y.table x.state.count).next ≡ to

kind-put : (k from to operands : ℕ) (x : World) → x.state.count ≤ 1024 → length x.table ≡ 8200 → Put x (put_kind k from to operands x) k from to
unfolding put_kind put_state row_in
kind-put k from to operands x h l =
    let b : x.state.count * 8 + 8 ≤ length x.table = omega arith in
    record {
      long = length-put x.table x.state.count _ b ∙ l;
      count = refl;
      stays = λ i g. put-before x.table x.state.count _ b i g;
      kind = ap (λ (r : Row). r.kind) (put_same x.table x.state.count _ b);
      token = ap (λ (r : Row). r.token) (put_same x.table x.state.count _ b);
      next = ap (λ (r : Row). r.next) (put_same x.table x.state.count _ b);
    }

-- m rows more, of the line of the unit u, the first of kind k: those before are as they were, and the last is no else-if jump
pub record Grown (x y : World) (u : Span) (k m : ℕ) : Type 0 where
  pub long : length y.table ≡ 8200
  pub count : y.state.count ≡ x.state.count + m
  pub stays : (i : ℕ) → i < x.state.count → row_at y.table i ≡ row_at x.table i
  pub first : 1 ≤ m → (row_at y.table x.state.count).kind ≡ k
  pub last : 1 ≤ m → (row_at y.table (y.state.count - 1)).kind ≡ 21 → ⊥
  pub within : (i : ℕ) → x.state.count ≤ i → i < y.state.count → (u.word ≤ (row_at y.table i).token) × ((row_at y.table i).next ≤ u.next)

none-grown : (x : World) (u : Span) (k m : ℕ) → m ≡ 0 → length x.table ≡ 8200 → Grown x x u k m
none-grown x u k m e l =
    record {
      long = l;
      count = omega arith;
      stays = λ i g. refl;
      first = λ h. let z : ⊥ = omega arith in absurd z;
      last = λ h _. let z : ⊥ = omega arith in z;
      within = λ i a b. let z : ⊥ = omega arith in absurd z;
    }

-- a row that was put stands in its unit
put-within : (x y z : World) (u : Span) (k from to i : ℕ) → Put x y k from to → u.word ≤ from → to ≤ u.next → i ≡ x.state.count → row_at z.table i ≡ row_at y.table i
    → (u.word ≤ (row_at z.table i).token) × ((row_at z.table i).next ≤ u.next)
put-within x y z u k from to i p a b e s =
    let f : row_at z.table i ≡ row_at y.table x.state.count = s ∙ ap (row_at y.table) e in
    (omega (arith, ap (λ (r : Row). r.token) f, p.token), omega (arith, ap (λ (r : Row). r.next) f, p.next))

one-grown : (x y : World) (u : Span) (k m : ℕ) → m ≡ 1 → (k ≡ 21 → ⊥) → Put x y k u.word u.next → Grown x y u k m
one-grown x y u k m e d p =
    let z : y.state.count - 1 ≡ x.state.count = omega (arith, p.count) in
    record {
      long = p.long;
      count = omega (arith, p.count);
      stays = p.stays;
      first = λ _. p.kind;
      last = λ _ q. d (sym p.kind ∙ ap (λ (i : ℕ). (row_at y.table i).kind) (sym z) ∙ q);
      within = λ i a b. put-within x y y u k u.word u.next i p (omega arith) (omega arith) (omega (arith, p.count)) refl;
    }

two-grown : (x y z : World) (u : Span) (k j m : ℕ) → u.word < u.next → m ≡ 2 → (j ≡ 21 → ⊥) → Put x y k u.word (u.word + 1) → Put y z j (u.word + 1) u.next → Grown x z u k m
two-grown x y z u k j m o e d p q =
    let a : z.state.count - 1 ≡ y.state.count = omega (arith, q.count) in
    record {
      long = q.long;
      count = omega (arith, p.count, q.count);
      stays = λ i g. q.stays i (omega (arith, p.count)) ∙ p.stays i g;
      first = λ _. ap (λ (r : Row). r.kind) (q.stays x.state.count (omega (arith, p.count))) ∙ p.kind;
      last = λ _ r. d (sym q.kind ∙ ap (λ (i : ℕ). (row_at z.table i).kind) (sym a) ∙ r);
      within = λ i b c. elim (dec_lt i y.state.count) [
        | yes f ↦ put-within x y z u k u.word (u.word + 1) i p (omega arith) (omega arith) (omega (arith, p.count)) (q.stays i f)
        | no f ↦ put-within y z z u j (u.word + 1) u.next i q (omega arith) (omega arith) (omega (arith, q.count)) refl
      ];
    }

-- the rows of a line
pub grow-grown : (t : List ℕ) (u : Span) (k : ℕ) (x : World) → u.word < u.next → x.state.count + rows_of k ≤ 1025 → length x.table ≡ 8200
    → Grown x (grow_by (rows_of k) t u k x) u k (rows_of k)
unfolding grow_by grow_two
grow-grown t u k x o h l =
    either-eq (λ (y : World). Grown x y u k (rows_of k)) (rows_of k) 0 _ _ (λ e. none-grown x u k (rows_of k) e l) (λ a.
    either-eq (λ (y : World). Grown x y u k (rows_of k)) (rows_of k) 1 _ _
    (λ e. one-grown x _ u k (rows_of k) e (rows-one k e) (kind-put k u.word u.next (operand_count u) x (omega arith) l))
    (λ b.
    let e : rows_of k ≡ 2 = omega (arith, rows_few k) in
    let p : Put x (put_kind k u.word (u.word + 1) 0 x) k u.word (u.word + 1) = kind-put k u.word (u.word + 1) 0 x (omega arith) l in
    two-grown x (put_kind k u.word (u.word + 1) 0 x) _ u k (kind_of_word (word_at t (u.word + 1))) (rows_of k) o e (no_jump (word_at t (u.word + 1))) p
    (kind-put (kind_of_word (word_at t (u.word + 1))) (u.word + 1) u.next 2 (put_kind k u.word (u.word + 1) 0 x) (omega (arith, p.count)) p.long)))
