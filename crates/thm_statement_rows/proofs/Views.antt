-- Two views of rows that agree in kind, function, frame, nesting and parameters have the same targets, frames and scopes: the skeleton and the
-- finished table.
-- Assumes nothing.
use mathlib.Core.Path.{◌≡◌, refl, sym, ◌∙◌, ap, ap₂, fun_ext}
use mathlib.Core.Bool.{Bool, true, false}
use mathlib.Core.List.{List, [], ◌∷◌}
use Prim.Native.Nat.{ℕ, zero, suc, ◌+◌, ◌-◌, ◌*◌, max}
use native.Mathlib.Decide.{ℕ_discrete}
use lib.Dec.{eqb, ltb, leb}
use borrow.Author.Tests.{ne_eqb}
use Rattle.base_prelude.specs.Choice.{pick, if_eq, if_true}
use Rattle.base_prelude.proofs.Choice.{if_eq-yes, if_eq-no}
use Rattle.prog_tables.specs.Tests.{both, one_of, given, first_from, count_below, greatest_below, some_below}
use Rattle.prog_tables.specs.Statement.{Row, is_test}
use Rattle.prog_tables.specs.Nesting.{is_arm, is_end_if, next_arm, end_if_of, past_arm, target_of, encloses, depth_of, behind, open_before, ground_in, func_in, scope_in, up_in, follows_jump, stands_tests, stands, all_closed}
use Rattle.prog_tables.specs.Frames.{frame_depth, is_in, lets_before, block_need, need_of, frame_size, first_let, block_word, let_word, let_seen, locals_at}
use Rattle.prog_tables.specs.WellFormed.{shallow, few_locals}
use Rattle.prog_tables.specs.declared.Operand.TheVariants.{Unlisted}
use Rattle.prog_tables.specs.Label.{Label}
use Rattle.prog_tables.specs.Program.{Program}

-- a program with other rows, labels and data
abbrev pub viewing : Program → (ℕ → Row) → ℕ → (ℕ → Label) → ℕ → ℕ → Program
viewing prog f c h l d =
    record {
      width = prog.width;
      rows = f;
      count = c;
      labels = h;
      label_count = l;
      data_length = d;
      statements_past = prog.statements_past;
      labels_past = prog.labels_past;
    }

-- what frames and nesting look at; a block's own lets are not
abbrev core : ℕ → ℕ → ℕ → ℕ → ℕ → Row
core kind func scope up b =
    record {
      kind = kind;
      func = func;
      scope = scope;
      up = up;
      a = 0;
      b = b;
      expr = 0;
      callee = 0;
      count = 0;
      address = Unlisted;
      operands = [];
    }

core-same : (a b c d e a' b' c' d' e' : ℕ) → a ≡ a' → b ≡ b' → c ≡ c' → d ≡ d' → e ≡ e' → core a b c d e ≡ core a' b' c' d' e'
core-same a b c d e a' b' c' d' e' p q r s t = rw (p, q, r, s, t)

abbrev shorn : Row → Row
shorn r = core r.kind r.func r.scope r.up (if_eq r.kind 3 0 r.b)

abbrev bare : (ℕ → Row) → ℕ → Row
bare f = λ i. shorn (f i)

pub record Alike (f g : ℕ → Row) : Type 0 where
  pub kinds : (i : ℕ) → (f i).kind ≡ (g i).kind
  pub funcs : (i : ℕ) → (f i).func ≡ (g i).func
  pub scopes : (i : ℕ) → (f i).scope ≡ (g i).scope
  pub ups : (i : ℕ) → (f i).up ≡ (g i).up
  pub counts : (i : ℕ) → ((f i).kind ≡ 3 → ⊥) → (f i).b ≡ (g i).b

module _ (f g : ℕ → Row) (h : Alike f g) where
  count_same : (i : ℕ) → if_eq (f i).kind 3 0 (f i).b ≡ if_eq (g i).kind 3 0 (g i).b
  count_same i =
      elim (ℕ_discrete (f i).kind 3) [
        | yes e ↦ if_eq-yes _ _ e ∙ sym (if_eq-yes _ _ (sym (h.kinds i) ∙ e))
        | no d ↦ if_eq-no _ _ d ∙ h.counts i d ∙ sym (if_eq-no _ _ (λ e. d (h.kinds i ∙ e)))
      ]

  bare-same : bare f ≡ bare g
  bare-same = fun_ext (λ i. core-same _ _ _ _ _ _ _ _ _ _ (h.kinds i) (h.funcs i) (h.scopes i) (h.ups i) (count_same i))

-- each definition sees of a view what `bare` keeps

in-bare : (f : ℕ → Row) (k s i : ℕ) → is_in (bare f) k s i ≡ is_in f k s i
unfolding is_in
in-bare f k s i = refl

lets-bare : (f : ℕ → Row) (s n : ℕ) → lets_before (bare f) s n ≡ lets_before f s n
unfolding lets_before is_in
lets-bare f s n = refl

target-bare : (f : ℕ → Row) (c n : ℕ) → target_of (bare f) c n ≡ target_of f c n
unfolding target_of past_arm next_arm end_if_of is_arm is_end_if
target-bare f c n = refl

encloses-bare : (f : ℕ → Row) (fuel e s : ℕ) → encloses (bare f) fuel e s ≡ encloses f fuel e s
unfolding encloses
encloses-bare f zero e s = refl
encloses-bare f (suc fuel) e s =
    ap (λ (b : Bool). if_eq s e true (if_eq (f s).kind 3 b false)) (encloses-bare f fuel e (f s).scope)

depth-bare : (f : ℕ → Row) (fuel s : ℕ) → depth_of (bare f) fuel s ≡ depth_of f fuel s
unfolding depth_of
depth-bare f zero s = refl
depth-bare f (suc fuel) s = ap (λ (d : ℕ). if_eq (f s).kind 3 (suc d) 0) (depth-bare f fuel (f s).scope)

first-bare : (f : ℕ → Row) (c fuel s : ℕ) → first_let (bare f) c fuel s ≡ first_let f c fuel s
unfolding first_let lets_before is_in
first-bare f c zero s = refl
first-bare f c (suc fuel) s =
    elim (ℕ_discrete (f s).kind 3) [
      | yes e ↦ if_eq-yes _ _ e ∙ ap (λ (w : ℕ). suc (w + count_below (λ i. both (eqb (f i).kind 5) (eqb (f i).scope (f s).scope)) c)) (first-bare f c fuel (f s).scope) ∙ sym (if_eq-yes _ _ e)
      | no d ↦ if_eq-no _ _ d ∙ ap (λ (b : ℕ). 3 + b) (if_eq-no _ _ d) ∙ sym (if_eq-no _ _ d)
    ]

need-bare : (f : ℕ → Row) (c depth s : ℕ) → need_of (bare f) c depth s ≡ need_of f c depth s
unfolding need_of lets_before is_in block_need
need-bare f c zero s = refl
need-bare f c (suc depth) s =
    ap (λ (need : ℕ → ℕ). count_below (λ i. both (eqb (f i).kind 5) (eqb (f i).scope s)) c + greatest_below (λ i. if_true (both (eqb (f i).kind 3) (eqb (f i).scope s)) (suc (need i)) 0) c)
    (fun_ext (λ i. need-bare f c depth i))

seen-bare : (f : ℕ → Row) (s i : ℕ) → let_seen (bare f) s i ≡ let_seen f s i
unfolding let_seen
seen-bare f s i = ap (λ (b : Bool). both (eqb (f i).kind 5) b) (encloses-bare f frame_depth (f i).scope s)

module _ (f g : ℕ → Row) (h : Alike f g) where
  via : {X : Type 0} (q : (ℕ → Row) → X) → q (bare f) ≡ q (bare g)
  via q = ap q (bare-same f g h)

  pub lets-same : (s n : ℕ) → lets_before f s n ≡ lets_before g s n
  lets-same s n = sym (lets-bare f s n) ∙ via (λ v. lets_before v s n) ∙ lets-bare g s n

  pub target-same : (c n : ℕ) → target_of f c n ≡ target_of g c n
  target-same c n = sym (target-bare f c n) ∙ via (λ v. target_of v c n) ∙ target-bare g c n

  pub encloses-same : (fuel e s : ℕ) → encloses f fuel e s ≡ encloses g fuel e s
  encloses-same fuel e s = sym (encloses-bare f fuel e s) ∙ via (λ v. encloses v fuel e s) ∙ encloses-bare g fuel e s

  pub depth_same : (fuel s : ℕ) → depth_of f fuel s ≡ depth_of g fuel s
  depth_same fuel s = sym (depth-bare f fuel s) ∙ via (λ v. depth_of v fuel s) ∙ depth-bare g fuel s

  pub first-same : (c fuel s : ℕ) → first_let f c fuel s ≡ first_let g c fuel s
  first-same c fuel s = sym (first-bare f c fuel s) ∙ via (λ v. first_let v c fuel s) ∙ first-bare g c fuel s

  pub need-same : (c depth s : ℕ) → need_of f c depth s ≡ need_of g c depth s
  need-same c depth s = sym (need-bare f c depth s) ∙ via (λ v. need_of v c depth s) ∙ need-bare g c depth s

  pub seen_same : (s i : ℕ) → let_seen f s i ≡ let_seen g s i
  seen_same s i = sym (seen-bare f s i) ∙ via (λ v. let_seen v s i) ∙ seen-bare g s i

  pub block_same : (c s : ℕ) → block_word f c s ≡ block_word g c s
  unfolding block_word
  block_same c s =
      ap₂ ◌+◌ (first-same c frame_depth (f s).scope) (lets-same (f s).scope c)
      ∙ ap (λ (e : ℕ). first_let g c frame_depth e + lets_before g e c) (h.scopes s)

  pub let-same : (c n : ℕ) → let_word f c n ≡ let_word g c n
  unfolding let_word
  let-same c n =
      ap₂ ◌+◌ (first-same c frame_depth (f n).scope) (lets-same (f n).scope n)
      ∙ ap (λ (e : ℕ). first_let g c frame_depth e + lets_before g e n) (h.scopes n)

  pub size_same : (c s : ℕ) → ((f s).kind ≡ 3 → ⊥) → frame_size f c s ≡ frame_size g c s
  unfolding frame_size
  size_same c s d = ap₂ (λ (b n : ℕ). 3 + b + n) (h.counts s d) (need-same c frame_depth s)

-- ---- the tests of rows that look at nothing else

stands-bare : (f : ℕ → Row) (n : ℕ) → stands (bare f) n ≡ stands f n
unfolding stands follows_jump ground_in open_before behind func_in scope_in up_in
stands-bare f zero = refl
stands-bare f (suc n) = refl

closed-bare : (f : ℕ → Row) (c : ℕ) → all_closed (bare f) c ≡ all_closed f c
unfolding all_closed open_before behind
closed-bare f zero = refl
closed-bare f (suc c) = refl

module _ (f g : ℕ → Row) (h : Alike f g) where
  pub stands_same : (n : ℕ) → stands f n ≡ stands g n
  stands_same n = sym (stands-bare f n) ∙ ap (λ v. stands v n) (bare-same f g h) ∙ stands-bare g n

  pub closed_same : (c : ℕ) → all_closed f c ≡ all_closed g c
  closed_same c = sym (closed-bare f c) ∙ ap (λ v. all_closed v c) (bare-same f g h) ∙ closed-bare g c

  pub shallow-same : (n : ℕ) → shallow f n ≡ shallow g n
  unfolding shallow
  shallow-same n = ap₂ (λ (k d : ℕ). given (eqb k 3) (leb d 16)) (h.kinds n) (depth_same f g h frame_depth n)

  pub locals_same : (n : ℕ) → ((f (f n).func).kind ≡ 3 → ⊥) → locals_at f n ≡ locals_at g n
  unfolding locals_at
  locals_same n d =
      ap₂ ◌+◌ (h.counts (f n).func d ∙ ap (λ (i : ℕ). (g i).b) (h.funcs n))
      (ap (λ (p : ℕ → Bool). count_below p n) (fun_ext (λ i. seen_same f g h (f n).scope i)) ∙ ap (λ (s : ℕ). count_below (let_seen g s) n) (h.scopes n))

  pub few-same : (n : ℕ) → ((f (f n).func).kind ≡ 3 → ⊥) → ((f n).kind ≡ 1 → (f n).b ≡ (g n).b) → few_locals f n ≡ few_locals g n
  unfolding few_locals
  few-same n d e =
      ap₂ both (by_kind (ℕ_discrete (f n).kind 1)) (ap₂ (λ (k l : ℕ). given (eqb k 5) (ltb l 64)) (h.kinds n) (locals_same n d))
    where
      by_kind : Dec ((f n).kind ≡ 1) → given (eqb (f n).kind 1) (leb (f n).b 8) ≡ given (eqb (g n).kind 1) (leb (g n).b 8)
      by_kind (yes q) = ap₂ (λ (k b : ℕ). given (eqb k 1) (leb b 8)) (h.kinds n) (e q)
      by_kind (no q) =
          ap (λ (t : Bool). given t (leb (f n).b 8)) (ne_eqb _ _ q)
          ∙ sym (ap (λ (t : Bool). given t (leb (g n).b 8)) (ne_eqb _ _ (λ z. q (h.kinds n ∙ z))))
