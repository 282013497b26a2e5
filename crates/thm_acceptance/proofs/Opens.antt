-- The rows of the outline that are open, and the locals and blocks that the parser counts, are those of specs/Lines.
-- Assumes nothing.
use mathlib.Core.Path.{◌≡◌, refl, sym, ◌∙◌, ap, subst}
use mathlib.Core.Bool.{Bool, true, false, not}
use mathlib.Core.List.{List, [], ◌∷◌}
use Prim.Native.Nat.{ℕ, zero, suc, ◌+◌, ◌*◌, ◌-◌, ◌≤◌, ◌<◌}
use native.Mathlib.Decide.{ℕ_discrete}
use native.Mathlib.Omega.{arith}
use lib.Dec.{T, eqb, leb, ltb}
use borrow.Author.Tests.{eqb-true, leb-true, eq-eqb}
use lib.ListN.{length}
use Rattle.base_prelude.specs.Choice.{pick, if_lt, if_eq, if_true}
use Rattle.base_prelude.proofs.Choice.{either_true, if_eq-yes, if_eq-no, if_true-yes, if_true-no, true-false}
use Rattle.base_prelude.proofs.Table.{Each, each_at, under, under_at}
use Rattle.lang_kinds.specs.Nesting.{statement_in, refused_in, stands_in, enters, leaves, ground_of, rows_of}
use Rattle.parse_units.specs.Outline.{row_at, put_row, row_in, behind}
use Rattle.parse_units.specs.Parse.{World, world, put_state, put_kind, locals_behind, depth_behind}
use Rattle.parse_units.specs.declared.Row.{Row}
use Rattle.parse_units.specs.declared.State.{State}
use Rattle.thm_outline.proofs.Puts.{put-before, put_same, length-put}
use Rattle.thm_acceptance.specs.Lines.{Level, level, outer, with_local, closed_by, opened_by, locals_in, blocks_in}

-- ---- facts of kinds, computed

abbrev pub implies : Bool → Bool → Bool
implies true b = b
implies false b = true

pub true-is : (b : Bool) → T b → b ≡ true
true-is true t = refl
true-is false t = absurd t

pub imply : (a b : Bool) → T (implies a b) → a ≡ true → b ≡ true
imply true b t e = true-is b t
imply false b t e = true-false (sym e)

leaves_high : ℕ → Bool
leaves_high k = implies (leaves k) (leb 4 (stands_in k).start)

leaves_all : T (under leaves_high 37)
unfolding leaves_high stands_in statement_in refused_in leaves if_lt if_eq
leaves_all = tt

pub leaves-high : (k : ℕ) → k < 37 → leaves k ≡ true → 4 ≤ (stands_in k).start
unfolding leaves_high
leaves-high k h e = leb-true 4 _ (imply (leaves k) (leb 4 (stands_in k).start) (under_at leaves_high 37 k leaves_all h) e)

enters_high : ℕ → Bool
enters_high k = implies (enters k) (leb 4 (ground_of k))

enters-all : T (under enters_high 37)
unfolding enters_high enters ground_of if_lt if_eq
enters-all = tt

enters-high : (k : ℕ) → k < 37 → enters k ≡ true → 4 ≤ ground_of k
unfolding enters_high
enters-high k h e = leb-true 4 _ (imply (enters k) (leb 4 (ground_of k)) (under_at enters_high 37 k enters-all h) e)

five_block : ℕ → Bool
five_block k = implies (eqb (ground_of k) 5) (eqb k 3)

five-all : T (under five_block 37)
unfolding five_block ground_of if_lt if_eq
five-all = tt

five-block : (k : ℕ) → k < 37 → ground_of k ≡ 5 → k ≡ 3
unfolding five_block
five-block k h e = eqb-true k 3 (imply (eqb (ground_of k) 5) (eqb k 3) (under_at five_block 37 k five-all h) (eq-eqb _ _ e))

four_function : ℕ → Bool
four_function k = implies (eqb (ground_of k) 4) (eqb k 1)

four-all : T (under four_function 37)
unfolding four_function ground_of if_lt if_eq
four-all = tt

four-function : (k : ℕ) → k < 37 → ground_of k ≡ 4 → k ≡ 1
unfolding four_function
four-function k h e = eqb-true k 1 (imply (eqb (ground_of k) 4) (eqb k 1) (under_at four_function 37 k four-all h) (eq-eqb _ _ e))

-- one kind
at_1 : (enters 1 ≡ true) × (leaves 1 ≡ false) × (ground_of 1 ≡ 4)
unfolding enters leaves ground_of if_lt if_eq
at_1 = (refl, refl, refl)

at-3 : (enters 3 ≡ true) × (leaves 3 ≡ false) × (ground_of 3 ≡ 5)
unfolding enters leaves ground_of if_lt if_eq
at-3 = (refl, refl, refl)

at_5 : (enters 5 ≡ false) × (leaves 5 ≡ false)
unfolding enters leaves if_lt if_eq
at_5 = (refl, refl)

-- ---- what is open

-- a row m of the outline that is o, open within os
pub record Link (r : Row) (m : ℕ) (o : Level) (os : List Level) : Type 0 where
  pub ground : ground_of r.kind ≡ o.ground
  pub high : 4 ≤ o.ground
  pub before : o.ground ≡ 5 → r.before ≡ locals_in os
  pub first : o.ground ≡ 4 → os ≡ []
  pub bare : 6 ≤ o.ground → o.locals ≡ 0
  pub some : 1 ≤ m
  pub up : r.up < m

pub data Chain (rows : List ℕ) : ℕ → List Level → Type 0 where
  closed : Chain rows 0 []
  within : (m : ℕ) (o : Level) (os : List Level) (r : Row) → row_at rows m ≡ r → Link r m o os → Chain rows r.up os → Chain rows m (o ∷ os)

-- a row put behind them changes nothing
chain-put : (rows : List ℕ) (c : ℕ) (r : Row) → c * 8 + 8 ≤ length rows → (m : ℕ) (os : List Level) → m < c → Chain rows m os → Chain (put_row rows c r) m os
chain-put rows c r h m os l closed = closed
chain-put rows c r h m os l (within a o bs q e k ch) =
    within a o bs q (put-before rows c r h a l ∙ e) k (chain-put rows c r h q.up bs (omega (arith, k.up)) ch)

-- ---- what the ground of a line says: nothing is open, or something

pub data Somewhere (rows : List ℕ) (m : ℕ) : List Level → Type 0 where
  nowhere : m ≡ 0 → Somewhere rows m []
  somewhere : (o : Level) (os : List Level) (r : Row) → row_at rows m ≡ r → Link r m o os → Chain rows r.up os → Somewhere rows m (o ∷ os)

pub where-is : (rows : List ℕ) (m : ℕ) (os : List Level) → Chain rows m os → Somewhere rows m os
where-is rows m os closed = nowhere refl
where-is rows m os (within a o bs q e k ch) = somewhere o bs q e k ch

tail-is : (o : Level) (os : List Level) → outer (o ∷ os) ≡ os
unfolding outer
tail-is o os = refl

-- ---- one row more

-- the innermost is a function or a block
abbrev pub Frame : List Level → Type 0
Frame [] = ⊥
Frame (o ∷ os) = o.ground < 6

-- the parser's count is that of what is open; with nothing open it counts nothing
abbrev pub LocalsAre : List Level → ℕ → Type 0
LocalsAre [] v = Unit {0}
LocalsAre (o ∷ os) v = v ≡ locals_in (o ∷ os)

-- one local more
chain-local : (rows : List ℕ) (m : ℕ) (os : List Level) → Frame os → Chain rows m os → Chain rows m (with_local os)
unfolding with_local
chain-local rows m os f closed = absurd f
chain-local rows m os f (within a o bs q e k ch) =
    within a (level o.ground (suc o.locals)) bs q e (record {
      ground = k.ground;
      high = k.high;
      before = k.before;
      first = k.first;
      bare = λ z. let y : ⊥ = omega arith in absurd y;
      some = k.some;
      up = k.up;
    }) ch

closed-stay : (k : ℕ) (os : List Level) → leaves k ≡ false → closed_by k os ≡ os
unfolding closed_by
closed-stay k os e = if_true-no (outer os) os e

-- what a statement of kind k needs of what is open
pub record Needs (k : ℕ) (os : List Level) : Type 0 where
  pub low : k < 37
  -- what closes something has something to close
  pub leaving : leaves k ≡ true → os ≡ [] → ⊥
  pub alone : k ≡ 1 → os ≡ []

module _ (rows : List ℕ) (c top : ℕ) (h : c * 8 + 8 ≤ length rows) (l : top < c) (k token next before operands n : ℕ) where
  abbrev made : Row
  made = row_in k c top (row_at rows top) token next before operands

  abbrev after : List ℕ
  after = put_row rows c made

  made-kind : made.kind ≡ k
  unfolding row_in
  made-kind = refl

  made-before : made.before ≡ before
  unfolding row_in
  made-before = refl

  made_up : made.up ≡ if_true (leaves k) (row_at rows top).up top
  unfolding row_in
  made_up = refl

  -- around the row: what is open behind what it closes
  around : (os : List Level) → Needs k os → Chain rows top os → Chain after made.up (closed_by k os) × (made.up < c)
  unfolding closed_by
  around os d ch = by (leaves k) refl (where-is rows top os ch)
    where
      stay : leaves k ≡ false → Chain after made.up (if_true (leaves k) (outer os) os) × (made.up < c)
      stay e =
          let u : made.up ≡ top = made_up ∙ if_true-no _ _ e in (
            subst (λ (z : ℕ). Chain after z (if_true (leaves k) (outer os) os)) (sym u) (subst (Chain after top) (sym (if_true-no (outer os) os e)) (chain-put rows c made h top os l ch)),
            omega (arith, u),
          )

      leave : (bs : List Level) → os ≡ bs → leaves k ≡ true → Somewhere rows top bs → Chain after made.up (if_true (leaves k) (outer os) os) × (made.up < c)
      leave bs p e (nowhere z) = absurd (d.leaving e p)
      leave bs p e (somewhere o cs r q g y) =
          let u : made.up ≡ r.up = made_up ∙ if_true-yes _ _ e ∙ ap (λ (x : Row). x.up) q in
          let i : outer os ≡ cs = ap outer p ∙ tail-is o cs in (
            subst (λ (z : ℕ). Chain after z (if_true (leaves k) (outer os) os)) (sym u)
                (subst (Chain after r.up) (sym (if_true-yes (outer os) os e ∙ i)) (chain-put rows c made h r.up cs (omega (arith, g.up)) y)),
            omega (arith, u, g.up),
          )

      by : (b : Bool) → leaves k ≡ b → Somewhere rows top os → Chain after made.up (if_true (leaves k) (outer os) os) × (made.up < c)
      by true e y = leave os refl e y
      by false e y = stay e

  -- the row itself, where it opens something
  opening : (os : List Level) → Needs k os → (k ≡ 3 → before ≡ locals_in os) → enters k ≡ true → made.up < c → Link made c (level (ground_of k) (if_eq k 1 n 0)) (closed_by k os)
  unfolding closed_by
  opening os d b e u =
      record {
        ground = ap ground_of made-kind;
        high = enters-high k d.low e;
        before = λ q.
            let z : k ≡ 3 = five-block k d.low q in
            made-before ∙ b z ∙ sym (ap locals_in (if_true-no (outer os) os (ap leaves z ∙ at-3.1)));
        first = λ q. let z : k ≡ 1 = four-function k d.low q in if_true-no (outer os) os (ap leaves z ∙ at_1.1) ∙ d.alone z;
        bare = λ q. if_eq-no n 0 (λ z. let y : ground_of k ≡ 4 = ap ground_of z ∙ at_1.2 in omega arith);
        some = omega arith;
        up = u;
      }

  abbrev list : List Level → List Level
  list os = if_true (enters k) (level (ground_of k) (if_eq k 1 n 0) ∷ closed_by k os) (if_eq k 5 (with_local os) (closed_by k os))

  -- behind the row
  pub chain_more : (os : List Level) → Needs k os → (k ≡ 5 → Frame os) → (k ≡ 3 → before ≡ locals_in os) → Chain rows top os
      → Chain after (behind c made) (opened_by k n os) × (behind c made < c + 1)
  unfolding opened_by behind
  chain_more os d f b ch = by (enters k) refl (around os d ch)
    where
      enter : enters k ≡ true → Chain after made.up (closed_by k os) × (made.up < c) → Chain after (if_true (enters made.kind) c made.up) (list os) × (if_true (enters made.kind) c made.up < c + 1)
      enter e a =
          let i : if_true (enters made.kind) c made.up ≡ c = if_true-yes c made.up (ap enters made-kind ∙ e) in (
            subst (λ (z : ℕ). Chain after z (list os)) (sym i)
                (subst (Chain after c) (sym (if_true-yes (level (ground_of k) (if_eq k 1 n 0) ∷ closed_by k os) (if_eq k 5 (with_local os) (closed_by k os)) e))
                (within c (level (ground_of k) (if_eq k 1 n 0)) (closed_by k os) made (put_same rows c made h) (opening os d b e a.1) a.0)),
            omega (arith, i),
          )

      passed : Chain after made.up (closed_by k os) → Chain after made.up (if_eq k 5 (with_local os) (closed_by k os))
      passed a =
          elim (ℕ_discrete k 5) [
            | yes z ↦ subst (Chain after made.up) (sym (if_eq-yes (with_local os) (closed_by k os) z))
                (chain-local after made.up os (f z) (subst (Chain after made.up) (closed-stay k os (ap leaves z ∙ at_5.1)) a))
            | no z ↦ subst (Chain after made.up) (sym (if_eq-no (with_local os) (closed_by k os) z)) a
          ]

      pass : enters k ≡ false → Chain after made.up (closed_by k os) × (made.up < c) → Chain after (if_true (enters made.kind) c made.up) (list os) × (if_true (enters made.kind) c made.up < c + 1)
      pass e a =
          let i : if_true (enters made.kind) c made.up ≡ made.up = if_true-no c made.up (ap enters made-kind ∙ e) in (
            subst (λ (z : ℕ). Chain after z (list os)) (sym i)
                (subst (Chain after made.up) (sym (if_true-no (level (ground_of k) (if_eq k 1 n 0) ∷ closed_by k os) (if_eq k 5 (with_local os) (closed_by k os)) e)) (passed a.0)),
            omega (arith, i, a.1),
          )

      by : (z : Bool) → enters k ≡ z → Chain after made.up (closed_by k os) × (made.up < c) → Chain after (if_true (enters made.kind) c made.up) (list os) × (if_true (enters made.kind) c made.up < c + 1)
      by true e a = enter e a
      by false e a = pass e a

-- ---- locals and blocks

pub record Counted (os : List Level) (v d : ℕ) : Type 0 where
  pub locals : LocalsAre os v
  pub depth : d ≡ blocks_in os

abbrev pub Head : (Level → List Level → Type 0) → List Level → Type 0
Head P [] = ⊥
Head P (o ∷ os) = P o os

-- what the ground of a statement of kind k says of what is open; b is the locals before the innermost
pub record Fit (k b : ℕ) (os : List Level) : Type 0 where
  pub alone : k ≡ 1 → os ≡ []
  pub frame : k ≡ 5 → Frame os
  pub some : (k ≡ 1 → ⊥) → Head (λ o bs. Unit {0}) os
  pub function : k ≡ 2 → Head (λ o bs. (o.ground ≡ 4) × (bs ≡ [])) os
  pub block : k ≡ 4 → Head (λ o bs. (o.ground ≡ 5) × (b ≡ locals_in bs)) os
  pub arm : 20 ≤ k → Head (λ o bs. (6 ≤ o.ground) × (o.locals ≡ 0)) os

blocks-skip : (o : Level) (os : List Level) → (o.ground ≡ 5 → ⊥) → blocks_in (o ∷ os) ≡ blocks_in os
unfolding blocks_in
blocks-skip o os d = if_eq-no _ _ d

blocks_more : (o : Level) (os : List Level) → o.ground ≡ 5 → blocks_in (o ∷ os) ≡ suc (blocks_in os)
unfolding blocks_in
blocks_more o os d = if_eq-yes _ _ d

locals-cons : (o : Level) (os : List Level) → locals_in (o ∷ os) ≡ o.locals + locals_in os
unfolding locals_in
locals-cons o os = refl

module _ (n b locals depth : ℕ) where
  -- a test, a block
  arm_more : (g : ℕ) (os : List Level) → (g ≡ 5 → ⊥) → Head (λ o bs. Unit {0}) os → Counted os locals depth → Counted (level g 0 ∷ os) locals depth
  arm_more g [] d s c = absurd s
  arm_more g (o ∷ os) d s c =
      record {
        locals = omega (arith, c.locals, locals-cons (level g 0) (o ∷ os));
        depth = c.depth ∙ sym (blocks-skip (level g 0) (o ∷ os) d);
      }

  block_more : (os : List Level) → Head (λ o bs. Unit {0}) os → Counted os locals depth → Counted (level 5 0 ∷ os) locals (depth + 1)
  block_more [] s c = absurd s
  block_more (o ∷ os) s c =
      record {
        locals = omega (arith, c.locals, locals-cons (level 5 0) (o ∷ os));
        depth = omega (arith, c.depth, blocks_more (level 5 0) (o ∷ os) refl);
      }

  function-more : (os : List Level) → os ≡ [] → Counted (level 4 n ∷ os) n 0
  unfolding locals_in blocks_in if_eq
  function-more os e = subst (λ (x : List Level). Counted (level 4 n ∷ x) n 0) (sym e) (record { locals = omega arith; depth = refl })

  local-more : (os : List Level) → Frame os → Counted os locals depth → Counted (with_local os) (locals + 1) depth
  unfolding with_local
  local-more [] f c = absurd f
  local-more (o ∷ os) f c =
      record {
        locals = omega (arith, c.locals, locals-cons o os, locals-cons (level o.ground (suc o.locals)) os);
        depth = c.depth ∙ same os;
      }
    where
      same : (os : List Level) → blocks_in (o ∷ os) ≡ blocks_in (level o.ground (suc o.locals) ∷ os)
      same os =
          elim (ℕ_discrete o.ground 5) [
            | yes e ↦ blocks_more o os e ∙ sym (blocks_more (level o.ground (suc o.locals)) os e)
            | no e ↦ blocks-skip o os e ∙ sym (blocks-skip (level o.ground (suc o.locals)) os e)
          ]

  locals_of : (os : List Level) → (v : ℕ) → v ≡ locals_in os → LocalsAre os v
  locals_of [] v e = tt
  locals_of (o ∷ os) v e = e

  block-less : (os : List Level) → Head (λ o bs. (o.ground ≡ 5) × (b ≡ locals_in bs)) os → Counted os locals depth → Counted (outer os) b (depth - 1)
  unfolding outer
  block-less [] f c = absurd f
  block-less (o ∷ os) f c = record { locals = locals_of os b f.1; depth = omega (arith, c.depth, blocks_more o os f.0) }

  function-less : (os : List Level) → Head (λ o bs. (o.ground ≡ 4) × (bs ≡ [])) os → Counted os locals depth → Counted (outer os) locals depth
  unfolding outer
  function-less [] f c = absurd f
  function-less (o ∷ os) f c =
      record {
        locals = subst (λ (x : List Level). LocalsAre x locals) (sym f.1) tt;
        depth = c.depth ∙ blocks-skip o os (λ e. let z : ⊥ = omega (arith, f.0) in z);
      }

  arm-less : (os : List Level) → Head (λ o bs. (6 ≤ o.ground) × (o.locals ≡ 0)) os → Counted os locals depth → Counted (outer os) locals depth
  unfolding outer
  arm-less [] f c = absurd f
  arm-less (o ∷ os) f c =
      record {
        locals = locals_of os locals (omega (arith, c.locals, locals-cons o os, f.1));
        depth = c.depth ∙ blocks-skip o os (λ e. let z : ⊥ = omega (arith, f.0) in z);
      }

  -- an arm in place of an arm
  arm-other : (g : ℕ) (os : List Level) → (g ≡ 5 → ⊥) → Head (λ o bs. (6 ≤ o.ground) × (o.locals ≡ 0)) os → Counted os locals depth → Counted (level g 0 ∷ outer os) locals depth
  unfolding outer
  arm-other g [] d f c = absurd f
  arm-other g (o ∷ os) d f c =
      record {
        locals = omega (arith, c.locals, locals-cons o os, locals-cons (level g 0) os, f.1);
        depth = c.depth ∙ blocks-skip o os (λ e. let z : ⊥ = omega (arith, f.0) in z) ∙ sym (blocks-skip (level g 0) os d);
      }

  abbrev Next : ℕ → Type 0
  Next k = (os : List Level) → Fit k b os → Counted os locals depth → Counted (opened_by k n os) (locals_behind k n b locals) (depth_behind k depth)

  -- kind by kind, computed; 0 and 21 make no row of their own
  nexts : Each (λ (k : ℕ). (k ≡ 0 → ⊥) → Next k) 23
  unfolding opened_by closed_by enters leaves ground_of locals_behind depth_behind if_eq if_lt if_true
  nexts = (((((((((((((((((((((((tt, λ d. absurd (d refl)), λ _ os f c. function-more os (f.alone refl)), λ _ os f c. function-less os (f.function refl) c), λ _ os f c. block_more os (f.some (λ e. let z : ⊥ = omega arith in z)) c), λ _ os f c. block-less os (f.block refl) c), λ _ os f c. local-more os (f.frame refl) c), λ _ os f c. c), λ _ os f c. c), λ _ os f c. c), λ _ os f c. c), λ _ os f c. c), λ _ os f c. c), λ _ os f c. c), λ _ os f c. c), λ _ os f c. arm_more 6 os (λ e. let z : ⊥ = omega arith in z) (f.some (λ e. let z : ⊥ = omega arith in z)) c), λ _ os f c. arm_more 6 os (λ e. let z : ⊥ = omega arith in z) (f.some (λ e. let z : ⊥ = omega arith in z)) c), λ _ os f c. arm_more 6 os (λ e. let z : ⊥ = omega arith in z) (f.some (λ e. let z : ⊥ = omega arith in z)) c), λ _ os f c. arm_more 6 os (λ e. let z : ⊥ = omega arith in z) (f.some (λ e. let z : ⊥ = omega arith in z)) c), λ _ os f c. arm_more 6 os (λ e. let z : ⊥ = omega arith in z) (f.some (λ e. let z : ⊥ = omega arith in z)) c), λ _ os f c. arm_more 6 os (λ e. let z : ⊥ = omega arith in z) (f.some (λ e. let z : ⊥ = omega arith in z)) c), λ _ os f c. arm-other 7 os (λ e. let z : ⊥ = omega arith in z) (f.arm (omega arith)) c), λ _ os f c. arm-less os (f.arm (omega arith)) c), λ _ os f c. arm-less os (f.arm (omega arith)) c)

  pub next-counted : (k : ℕ) → 1 ≤ k → k < 23 → Next k
  next-counted k l h = each_at (λ (k : ℕ). (k ≡ 0 → ⊥) → Next k) 23 k nexts h (λ e. let z : ⊥ = omega arith in z)

  abbrev Second : ℕ → Type 0
  Second k = 14 ≤ k → (os : List Level) → Fit 21 b os → Counted os locals depth
      → Counted (opened_by k n (opened_by 21 n os)) (locals_behind 21 n b locals) (depth_behind 21 depth)

  seconds : Each Second 20
  unfolding opened_by closed_by enters leaves ground_of locals_behind depth_behind if_eq if_lt if_true
  seconds = ((((((((((((((((((((tt, λ l. let z : ⊥ = omega arith in absurd z), λ l. let z : ⊥ = omega arith in absurd z), λ l. let z : ⊥ = omega arith in absurd z), λ l. let z : ⊥ = omega arith in absurd z), λ l. let z : ⊥ = omega arith in absurd z), λ l. let z : ⊥ = omega arith in absurd z), λ l. let z : ⊥ = omega arith in absurd z), λ l. let z : ⊥ = omega arith in absurd z), λ l. let z : ⊥ = omega arith in absurd z), λ l. let z : ⊥ = omega arith in absurd z), λ l. let z : ⊥ = omega arith in absurd z), λ l. let z : ⊥ = omega arith in absurd z), λ l. let z : ⊥ = omega arith in absurd z), λ l. let z : ⊥ = omega arith in absurd z), λ l os f c. arm-other 6 os (λ e. let z : ⊥ = omega arith in z) (f.arm (omega arith)) c), λ l os f c. arm-other 6 os (λ e. let z : ⊥ = omega arith in z) (f.arm (omega arith)) c), λ l os f c. arm-other 6 os (λ e. let z : ⊥ = omega arith in z) (f.arm (omega arith)) c), λ l os f c. arm-other 6 os (λ e. let z : ⊥ = omega arith in z) (f.arm (omega arith)) c), λ l os f c. arm-other 6 os (λ e. let z : ⊥ = omega arith in z) (f.arm (omega arith)) c), λ l os f c. arm-other 6 os (λ e. let z : ⊥ = omega arith in z) (f.arm (omega arith)) c)

  -- an `else if..` line: its jump closes the arm, its test opens one
  pub else-if-counted : (k : ℕ) (os : List Level) → 14 ≤ k → k < 20 → Fit 21 b os → Counted os locals depth
      → Counted (opened_by k n (opened_by 21 n os)) (locals_behind 21 n b locals) (depth_behind 21 depth)
  else-if-counted k os l h f c = each_at Second 20 k seconds h l os f c
