-- The ways through the functions of the guard.
-- Assumes nothing.
use mathlib.Core.Path.{◌≡◌, refl, sym, ◌∙◌, ap}
use mathlib.Core.Bool.{Bool, true, false}
use mathlib.Core.List.{List, [], ◌∷◌, ◌++◌}
use Prim.Native.Nat.{ℕ, suc, ◌+◌, ◌-◌, ◌<◌, ◌≤◌, min}
use native.Mathlib.Numerals.{add-one}
use native.Mathlib.Omega.{arith}
use lib.ListN.{length, get_or}
use lib.Dec.{eqb, ltb, leb}
use borrow.Author.Tests.{eq-eqb, ne_eqb, lt-ltb, le-ltb, le-leb, lt-leb}
use Rattle.base_prelude.specs.Choice.{if_lt, if_true}
use Rattle.base_prelude.proofs.Choice.{either_true}
use Rattle.base_limits.specs.Width.{memory_limit}
use Rattle.base_limits.specs.declared.Machine.{Machine}
use Rattle.base_limits.specs.declared.Width.TheVariants.{Bits32}
use Rattle.base_limits.specs.Record.{mark}
use Rattle.prog_tables.specs.Tests.{both, one_of, given, all}
use Rattle.prog_tables.specs.Statement.{Row, has_expression, is_call, is_import, is_call_expression}
use Rattle.prog_tables.specs.Program.{Program}
use Rattle.prog_tables.specs.Faults.{in_function, size_at, row_fault}
use Rattle.vm_definitions.specs.Frames.{is_first, is_return_call, is_return, is_calling, importing, returns_import, leaves_frame, called_from, head_good, passes_on, leaves_good, rows_left, resumption_of}
use Rattle.vm_definitions.specs.Broken.{lower, lowest, or_else, next_bad, frame_ends, rows_used, not_import}
use Rattle.vm_definitions.specs.declared.Resumption.TheVariants.{Ends, Caller}
use Rattle.vm_definitions.specs.declared.Broken.{Broken}
use Rattle.vm_definitions.specs.declared.Broken.TheVariants.{No, At, Somewhere}
use Rattle.vm_guard.specs.Guard.{row_bad, record_good, with_record, within_broken, within_resume, marked, call_marked, left_broken, callee_marked, function_marked, shape_good, kept_good}

both-no : (p : Bool) → both p false ≡ false
both-no true = refl
both-no false = refl

both_yes : (p : Bool) → both p true ≡ p
both_yes true = refl
both_yes false = refl

-- ---- rows

module _ (r : Row) (k : ℕ) (e : k ≡ r.kind) where
  pub through-no : (k ≡ 13 → ⊥) → false ≡ is_return_call r
  unfolding is_return_call
  through-no h = rw (← e, ne_eqb _ _ h)

  pub through-expression : (x : ℕ) (v : Bool) → k ≡ 13 → x ≡ r.expr → v ≡ is_call_expression x → v ≡ is_return_call r
  unfolding is_return_call
  through-expression x v h d q = rw (← e, eq-eqb _ _ h, ← d) q

  pub return-end : k ≡ 2 → true ≡ is_return r
  unfolding is_return
  return-end h = rw (← e, eq-eqb _ _ h)

  module _ (g : k ≡ 2 → ⊥) where
    pub return-other : (k ≡ 13 → ⊥) → false ≡ is_return r
    unfolding is_return
    return-other h = rw (← e, ne_eqb _ _ g, ne_eqb _ _ h)

    pub return-call : (x : ℕ) (v : Bool) → k ≡ 13 → x ≡ r.expr → v ≡ is_call_expression x → v ≡ true → false ≡ is_return r
    unfolding is_return if_true
    return-call x v h d q o = rw (← e, ne_eqb _ _ g, eq-eqb _ _ h, ← d, ← q, o)

    pub return-plain : (x : ℕ) (v : Bool) → k ≡ 13 → x ≡ r.expr → v ≡ is_call_expression x → v ≡ false → true ≡ is_return r
    unfolding is_return if_true
    return-plain x v h d q o = rw (← e, ne_eqb _ _ g, eq-eqb _ _ h, ← d, ← q, o)

  pub calling-bare : k ≡ 11 → true ≡ is_calling r
  unfolding is_calling
  calling-bare h = rw (← e, eq-eqb _ _ h)

  module _ (b : Bool) (h : k ≡ 11 → ⊥) (d : b ≡ has_expression k) where
    pub calling-expression : (x : ℕ) (v : Bool) → b ≡ true → x ≡ r.expr → v ≡ is_call_expression x → v ≡ is_calling r
    unfolding is_calling
    calling-expression x v q o p = rw (← e, ne_eqb _ _ h, ← d, q, ← o) p

    pub calling-none : b ≡ false → false ≡ is_calling r
    unfolding is_calling
    calling-none q = rw (← e, ne_eqb _ _ h, ← d, q)

-- ---- calls to imported functions

module _ (r : Row) (v : Bool) (e : v ≡ importing r) where
  pub import-none : v ≡ false → false ≡ returns_import r
  unfolding returns_import
  import-none h = rw (← e, h)

  module _ (k : ℕ) (h : v ≡ true) (d : k ≡ r.kind) where
    pub import-tail : k ≡ 12 → true ≡ returns_import r
    unfolding returns_import
    import-tail q = rw (← e, h, ← d, eq-eqb _ _ q)

    pub import-return : (k ≡ 12 → ⊥) → eqb k 13 ≡ returns_import r
    unfolding returns_import
    import-return q = rw (← e, h, ← d, ne_eqb _ _ q)

module _ (r : Row) (v : Bool) (e : v ≡ is_return r) where
  pub leaves-return : v ≡ true → true ≡ leaves_frame r
  unfolding leaves_frame
  leaves-return h = rw (← e, h)

  pub leaves-import : (x : Bool) → v ≡ false → x ≡ returns_import r → x ≡ leaves_frame r
  unfolding leaves_frame
  leaves-import x h q = rw (← e, h) q

pub ruleset import-ways = (import-none, import-tail, import-return, leaves-return, leaves-import)

module _ (prog : Program) (r : Machine) (b : Broken) where
  pub asks-past : prog.count ≤ r.next → b ≡ not_import prog r b
  unfolding not_import if_lt
  asks-past h = rw (le-ltb _ _ h)

  module _ (v : Bool) (h : r.next < prog.count) (e : v ≡ importing (prog.rows r.next)) where
    pub asks-import : v ≡ true → b ≡ not_import prog r b
    unfolding not_import if_lt if_true
    asks-import q = rw (lt-ltb _ _ h, ← e, q)

    pub asks-other : (x : Broken) → v ≡ false → x ≡ lower r.next b → x ≡ not_import prog r b
    unfolding not_import if_lt if_true
    asks-other x q o = rw (lt-ltb _ _ h, ← e, q) o

pub ruleset asks-ways = (asks-past, asks-import, asks-other)

pub ruleset through-ways = (through-no, through-expression)

pub ruleset return-ways = (return-end, return-other, return-call, return-plain)

pub ruleset calling-ways = (calling-bare, calling-expression, calling-none)

-- ---- heads

module _ (st : List ℕ) (s : ℕ) where
  pub first-other : (s ≡ 0 → ⊥) → false ≡ is_first Bits32 st s
  unfolding is_first
  first-other h = rw (ne_eqb _ _ h)

  module _ (p : ℕ) (h : s ≡ 0) (e : p ≡ get_or st s 0) where
    pub first-place : (p ≡ 4294967295 → ⊥) → false ≡ is_first Bits32 st s
    unfolding is_first mark
    first-place o = rw (eq-eqb _ _ h, ← e, ne_eqb _ _ o)

    pub first-caller : (q : ℕ) → p ≡ 4294967295 → q ≡ get_or st (s + 1) 0 → eqb q 4294967295 ≡ is_first Bits32 st s
    unfolding is_first mark
    first-caller q o d = rw (eq-eqb _ _ h, ← e, eq-eqb _ _ o, ← d)

pub ruleset first-ways = (first-other, first-place, first-caller)

pub behind : (f : ℕ → Row) (c : ℕ) (st : List ℕ) (p s v n : ℕ) → v ≡ get_or st (s + 1) 0 → n ≡ size_at f c p → eqb (v + n) s ≡ eqb (get_or st (s + 1) 0 + size_at f c p) s
behind f c st p s v n e d = rw (← e, ← d)

module _ (f : ℕ → Row) (c : ℕ) (st : List ℕ) (s p : ℕ) (e : p ≡ get_or st s 0) where
  pub called-far : c ≤ p → false ≡ called_from f c st s
  unfolding called_from
  called-far h = rw (← e, le-ltb _ _ h)

  module _ (v : Bool) (h : p < c) (d : v ≡ in_function f c p) where
    pub called-outside : v ≡ false → false ≡ called_from f c st s
    unfolding called_from
    called-outside q = rw (← e, lt-ltb _ _ h, ← d, q)

    module _ (x : Bool) (q : v ≡ true) (g : x ≡ is_calling (f p)) where
      pub called-plain : x ≡ false → false ≡ called_from f c st s
      unfolding called_from
      called-plain o = rw (← e, lt-ltb _ _ h, ← d, q, ← g, o)

      pub called-behind : (b : Bool) → x ≡ true → b ≡ eqb (get_or st (s + 1) 0 + size_at f c p) s → b ≡ called_from f c st s
      unfolding called_from
      called-behind b o l = rw (← e, lt-ltb _ _ h, ← d, q, ← g, o) l

pub ruleset called-ways = (called-far, called-outside, called-plain, called-behind)

module _ (f : ℕ → Row) (c : ℕ) (st : List ℕ) (s : ℕ) (b : Bool) (e : b ≡ is_first Bits32 st s) where
  pub head_first : b ≡ true → true ≡ head_good Bits32 f c st s
  unfolding head_good
  head_first h = rw (← e, h)

  pub head-called : (v : Bool) → b ≡ false → v ≡ called_from f c st s → v ≡ head_good Bits32 f c st s
  unfolding head_good
  head-called v h d = rw (← e, h) d

  pub passes-first : b ≡ true → false ≡ passes_on Bits32 f c st s
  unfolding passes_on if_true
  passes-first h = rw (← e, h)

  module _ (v : Bool) (h : b ≡ false) (d : v ≡ called_from f c st s) where
    pub passes-stray : v ≡ false → false ≡ passes_on Bits32 f c st s
    unfolding passes_on if_true
    passes-stray q = rw (← e, h, ← d, q)

    pub passes-row : (p : ℕ) (x : Bool) → v ≡ true → p ≡ get_or st s 0 → x ≡ is_return_call (f p) → x ≡ passes_on Bits32 f c st s
    unfolding passes_on if_true
    passes-row p x q g o = rw (← e, h, ← d, q, ← g) o

pub ruleset head-ways = (head_first, head-called)

pub ruleset passes-ways = (passes-first, passes-stray, passes-row)

-- ---- whether the frames that a return leaves are good

-- so many steps from the frame `at` give the answer
pub record Leaving (f : ℕ → Row) (c m : ℕ) (st : List ℕ) (s at i : ℕ) : Type 0 where
  pub rest : leaves_good Bits32 f c m st (suc s - i) at ≡ leaves_good Bits32 f c m st (suc s) s

pub leaving-start : (f : ℕ → Row) (c m : ℕ) (st : List ℕ) (s : ℕ) → Leaving f c m st s s 0
leaving-start f c m st s = let z : suc s - 0 ≡ suc s = omega arith in record { rest = ap (λ (n : ℕ). leaves_good Bits32 f c m st n s) z }

module _ (f : ℕ → Row) (c m : ℕ) (st : List ℕ) (s at i : ℕ) (h : Leaving f c m st s at i) where
  pub leaving-out : s + 1 ≤ i → false ≡ leaves_good Bits32 f c m st (suc s) s
  unfolding leaves_good
  leaving-out l = let e : suc s - i ≡ 0 = omega arith in rw e at h.rest

  module _ (l : i < s + 1) (top : ℕ) (o : top ≡ get_or st (at + 2) 0) where
    some_left : suc s - i ≡ suc (suc s - (i + 1))
    some_left = omega arith

    now : leaves_good Bits32 f c m st (suc (suc s - (i + 1))) at ≡ leaves_good Bits32 f c m st (suc s) s
    now = rw some_left at h.rest

    pub leaving-top : m < top → false ≡ leaves_good Bits32 f c m st (suc s) s
    unfolding leaves_good
    leaving-top q = rw (← o, lt-leb _ _ q, both-no) at now

    module _ (b : Bool) (k : top ≤ m) (e : b ≡ is_first Bits32 st at) where
      pub leaving-first : b ≡ true → true ≡ leaves_good Bits32 f c m st (suc s) s
      unfolding leaves_good head_good passes_on if_true
      leaving-first q = rw (← e, q, ← o, le-leb _ _ k) at now

      module _ (v : Bool) (q : b ≡ false) (d : v ≡ called_from f c st at) where
        pub leaving-stray : v ≡ false → false ≡ leaves_good Bits32 f c m st (suc s) s
        unfolding leaves_good head_good passes_on if_true
        leaving-stray w = rw (← e, q, ← d, w) at now

        module _ (p : ℕ) (x : Bool) (w : v ≡ true) (g : p ≡ get_or st at 0) (n : x ≡ is_return_call (f p)) where
          pub leaving-caller : x ≡ false → true ≡ leaves_good Bits32 f c m st (suc s) s
          unfolding leaves_good head_good passes_on if_true
          leaving-caller j = rw (← e, q, ← d, w, ← o, le-leb _ _ k, ← g, ← n, j) at now

          pub leaving-on : (u : ℕ) → x ≡ true → u ≡ get_or st (at + 1) 0 → Leaving f c m st s u (i + 1)
          unfolding leaves_good head_good passes_on if_true
          leaving-on u j y = record { rest = rw (← e, q, ← d, w, ← o, le-leb _ _ k, ← g, ← n, j, ← y) at now }

pub ruleset leaving = (leaving-start, leaving-out, leaving-top, leaving-first, leaving-stray, leaving-caller, leaving-on)

-- ---- where a return comes out

-- so many steps from the frame `at` give the answer
pub record Resumption-to (f : ℕ → Row) (c : ℕ) (st : List ℕ) (s at i : ℕ) : Type 0 where
  pub rest : resumption_of Bits32 f c st (suc s - i) at ≡ resumption_of Bits32 f c st (suc s) s

pub resumption-start : (f : ℕ → Row) (c : ℕ) (st : List ℕ) (s : ℕ) → Resumption-to f c st s s 0
resumption-start f c st s = let z : suc s - 0 ≡ suc s = omega arith in record { rest = ap (λ (n : ℕ). resumption_of Bits32 f c st n s) z }

module _ (f : ℕ → Row) (c : ℕ) (st : List ℕ) (s at i top : ℕ) (h : Resumption-to f c st s at i) (o : top ≡ get_or st (at + 2) 0) where
  pub resumption-out : s + 1 ≤ i → Ends top ≡ resumption_of Bits32 f c st (suc s) s
  unfolding resumption_of
  resumption-out l = let e : suc s - i ≡ 0 = omega arith in rw (e, ← o) at h.rest

  module _ (l : i < s + 1) (b : Bool) (e : b ≡ is_first Bits32 st at) where
    resumption-left : suc s - i ≡ suc (suc s - (i + 1))
    resumption-left = omega arith

    here : resumption_of Bits32 f c st (suc (suc s - (i + 1))) at ≡ resumption_of Bits32 f c st (suc s) s
    here = rw resumption-left at h.rest

    pub resumption-first : b ≡ true → Ends top ≡ resumption_of Bits32 f c st (suc s) s
    unfolding resumption_of if_true
    resumption-first q = rw (← e, q, ← o) at here

    module _ (v : Bool) (q : b ≡ false) (d : v ≡ passes_on Bits32 f c st at) where
      pub resumption-on : (u : ℕ) → v ≡ true → u ≡ get_or st (at + 1) 0 → Resumption-to f c st s u (i + 1)
      unfolding resumption_of if_true
      resumption-on u w y = record { rest = rw (← e, q, ← d, w, ← y) at here }

      pub resumption-caller : (p u : ℕ) → v ≡ false → p ≡ get_or st at 0 → u ≡ get_or st (at + 1) 0 → Caller p u at top ≡ resumption_of Bits32 f c st (suc s) s
      unfolding resumption_of if_true
      resumption-caller p u w g y = rw (← e, q, ← d, w, ← g, ← y, ← o) at here

pub ruleset resumptions = (resumption-start, resumption-out, resumption-first, resumption-on, resumption-caller)

-- ---- bad rows

module _ (f : ℕ → Row) (c n k : ℕ) (e : k ≡ (f n).kind) where
  pub next-function : k ≡ 1 → true ≡ next_bad f c n
  unfolding next_bad
  next-function h = rw (← e, eq-eqb _ _ h)

  module _ (v : Bool) (h : k ≡ 1 → ⊥) (d : v ≡ in_function f c n) where
    pub next-inside : v ≡ true → false ≡ next_bad f c n
    unfolding next_bad
    next-inside q = rw (← e, ne_eqb _ _ h, ← d, q)

    pub next-outside : v ≡ false → true ≡ next_bad f c n
    unfolding next_bad
    next-outside q = rw (← e, ne_eqb _ _ h, ← d, q)

pub ruleset next-ways = (next-function, next-inside, next-outside)

module _ (prog : Program) (next i : ℕ) (b : Bool) (e : b ≡ row_fault prog i) where
  pub bad-fault : b ≡ true → true ≡ row_bad prog next i
  unfolding row_bad
  bad-fault h = rw (← e, h)

  pub bad-next : (v : Bool) → b ≡ false → i ≡ next → v ≡ next_bad prog.rows prog.count i → v ≡ row_bad prog next i
  unfolding row_bad
  bad-next v h q g = rw (← e, h, eq-eqb _ _ q) g

  pub bad-other : b ≡ false → (i ≡ next → ⊥) → false ≡ row_bad prog next i
  unfolding row_bad
  bad-other h q = rw (← e, h, ne_eqb _ _ q)

pub ruleset bad-ways = (bad-fault, bad-next, bad-other)

-- ---- the place

module _ (i : ℕ) (b : Broken) where
  pub lower-no : b ≡ No → At i ≡ lower i b
  unfolding lower
  lower-no h = rw h

  pub lower-at : (j k : ℕ) → b ≡ At j → k ≡ min i j → At k ≡ lower i b
  unfolding lower
  lower-at j k h e = rw (h, ← e)

  pub lower-some : b ≡ Somewhere → At i ≡ lower i b
  unfolding lower
  lower-some h = rw h

pub ruleset lower-ways = (lower-no, lower-at, lower-some)

module _ (prog : Program) (next i : ℕ) (b : Broken) (v : Bool) (e : v ≡ row_bad prog next i) where
  pub mark-bad : (x : Broken) → v ≡ true → x ≡ lower i b → x ≡ marked (row_bad prog next) i b
  unfolding marked if_true
  mark-bad x h q = rw (← e, h) q

  pub mark-good : v ≡ false → b ≡ marked (row_bad prog next) i b
  unfolding marked if_true
  mark-good h = rw (← e, h)

pub ruleset mark-ways = (mark-bad, mark-good)

module _ (prog : Program) (next : ℕ) (b : Broken) where
  pub call-marked : (i g : ℕ) (x y : Broken) → x ≡ marked (row_bad prog next) i b → g ≡ (prog.rows i).func → y ≡ marked (row_bad prog next) g x
      → y ≡ call_marked prog next i b
  unfolding call_marked
  call-marked i g x y e q h = rw (← e, ← q) h

  module _ (k x : ℕ) (v : Bool) (e : k ≡ (prog.rows next).kind) (q : x ≡ (prog.rows next).expr) (h : v ≡ is_call k x) where
    pub callee-none : v ≡ false → b ≡ callee_marked prog next b
    unfolding callee_marked if_true
    callee-none o = rw (← e, ← q, ← h, o)

    module _ (g : ℕ) (o : v ≡ true) (l : g ≡ (prog.rows next).callee) where
      pub callee-row : (y : Broken) → g < prog.count → y ≡ marked (row_bad prog next) g b → y ≡ callee_marked prog next b
      unfolding callee_marked if_true
      callee-row y i j = rw (← e, ← q, ← h, o, ← l, lt-ltb _ _ i) j

      pub callee-far : prog.count ≤ g → b ≡ callee_marked prog next b
      unfolding callee_marked if_true
      callee-far i = rw (← e, ← q, ← h, o, ← l, le-ltb _ _ i)

  module _ (v : Bool) (e : v ≡ in_function prog.rows prog.count next) where
    pub function-row : (g : ℕ) (y : Broken) → v ≡ true → g ≡ (prog.rows next).func → y ≡ marked (row_bad prog next) g b → y ≡ function_marked prog next b
    unfolding function_marked if_true
    function-row g y h q j = rw (← e, h, ← q) j

    pub function-none : v ≡ false → b ≡ function_marked prog next b
    unfolding function_marked if_true
    function-none h = rw (← e, h)

pub ruleset callee-ways = (callee-none, callee-row, callee-far)

pub ruleset function-ways = (function-row, function-none)

-- ---- the rows of the frames that a return leaves

-- what is found so far with what the rest gives
unfoldable pub joined : Broken → Broken → Broken
joined b No = b
joined b (At j) = lower j b
joined b Somewhere = b

lower-twice : (i j : ℕ) (b : Broken) → lower j (lower i b) ≡ lower (min i j) b
unfolding lower
lower-twice i j No = let e : min j i ≡ min i j = omega arith in ap At e
lower-twice i j (At k) = let e : min j (min i k) ≡ min (min i j) k = omega arith in ap At e
lower-twice i j Somewhere = let e : min j i ≡ min i j = omega arith in ap At e

joined-lower : (i : ℕ) (b x : Broken) → joined (lower i b) x ≡ joined b (lower i x)
unfolding joined lower
joined-lower i b No = refl
joined-lower i b (At j) = lower-twice i j b
joined-lower i b Somewhere = refl

joined-marked : (p : ℕ → Bool) (i : ℕ) (b x : Broken) → joined (marked p i b) x ≡ joined b (marked p i x)
unfolding marked if_true
joined-marked p i b x = by (p i)
  where
    by : (q : Bool) → joined (if_true q (lower i b) b) x ≡ joined b (if_true q (lower i x) x)
    by true = joined-lower i b x
    by false = refl

lowest-cons : (p : ℕ → Bool) (i : ℕ) (is : List ℕ) → lowest p (i ∷ is) ≡ marked p i (lowest p is)
unfolding lowest marked
lowest-cons p i is = refl

joined-first : (i : ℕ) (x : Broken) → joined No (lower i x) ≡ lower i x
unfolding joined lower
joined-first i No = refl
joined-first i (At j) = refl
joined-first i Somewhere = refl

joined-none : (p : ℕ → Bool) (is : List ℕ) → joined No (lowest p is) ≡ lowest p is
unfolding lowest joined
joined-none p [] = refl
joined-none p (i ∷ is) =
    either_true (λ (x : Broken). joined No x ≡ x) (p i) (lower i (lowest p is)) (lowest p is) (λ e. joined-first i (lowest p is)) (λ e. joined-none p is)

-- what is found so far, with what so many steps from the frame `at` find, is the answer
pub record Finding (prog : Program) (next : ℕ) (st : List ℕ) (s : ℕ) (b : Broken) (at k : ℕ) : Type 0 where
  pub rest : joined b (lowest (row_bad prog next) (rows_left Bits32 prog.rows prog.count st (suc s - k) at)) ≡ lowest (row_bad prog next) (rows_left Bits32 prog.rows prog.count st (suc s) s)

pub finding-start : (prog : Program) (next : ℕ) (st : List ℕ) (s : ℕ) → Finding prog next st s No s 0
finding-start prog next st s = let z : suc s - 0 ≡ suc s = omega arith in record { rest = rw z (joined-none (row_bad prog next) (rows_left Bits32 prog.rows prog.count st (suc s) s)) }

module _ (prog : Program) (next : ℕ) (st : List ℕ) (s : ℕ) (b : Broken) (at k : ℕ) (h : Finding prog next st s b at k) where
  pub finding-out : s + 1 ≤ k → b ≡ lowest (row_bad prog next) (rows_left Bits32 prog.rows prog.count st (suc s) s)
  unfolding rows_left lowest joined
  finding-out l = let e : suc s - k ≡ 0 = omega arith in rw e at h.rest

  module _ (l : k < s + 1) (v : Bool) (e : v ≡ is_first Bits32 st at) where
    finding-left : suc s - k ≡ suc (suc s - (k + 1))
    finding-left = omega arith

    found : joined b (lowest (row_bad prog next) (rows_left Bits32 prog.rows prog.count st (suc (suc s - (k + 1))) at)) ≡ lowest (row_bad prog next) (rows_left Bits32 prog.rows prog.count st (suc s) s)
    found = rw finding-left at h.rest

    pub finding-first : v ≡ true → b ≡ lowest (row_bad prog next) (rows_left Bits32 prog.rows prog.count st (suc s) s)
    unfolding rows_left lowest joined if_true
    finding-first q = rw (← e, q) at found

    module _ (x : Bool) (q : v ≡ false) (o : x ≡ called_from prog.rows prog.count st at) where
      pub finding-stray : x ≡ false → b ≡ lowest (row_bad prog next) (rows_left Bits32 prog.rows prog.count st (suc s) s)
      unfolding rows_left lowest joined if_true
      finding-stray w = rw (← e, q, ← o, w) at found

      module _ (p : ℕ) (a : Broken) (y : Bool) (w : x ≡ true) (g : p ≡ get_or st at 0)
          (n : a ≡ call_marked prog next p b) (i : y ≡ is_return_call (prog.rows p)) where
        -- with the two rows of this frame
        on : (is : List ℕ) → rows_left Bits32 prog.rows prog.count st (suc (suc s - (k + 1))) at ≡ p ∷ (prog.rows p).func ∷ is
            → joined a (lowest (row_bad prog next) is) ≡ lowest (row_bad prog next) (rows_left Bits32 prog.rows prog.count st (suc s) s)
        unfolding call_marked
        on is r =
            ap (λ (z : Broken). joined z (lowest (row_bad prog next) is)) n
            ∙ joined-marked (row_bad prog next) (prog.rows p).func (marked (row_bad prog next) p b) (lowest (row_bad prog next) is)
            ∙ joined-marked (row_bad prog next) p b (marked (row_bad prog next) (prog.rows p).func (lowest (row_bad prog next) is))
            ∙ ap (λ (z : Broken). joined b (marked (row_bad prog next) p z)) (sym (lowest-cons (row_bad prog next) (prog.rows p).func is))
            ∙ ap (joined b) (sym (lowest-cons (row_bad prog next) p ((prog.rows p).func ∷ is)))
            ∙ ap (λ (z : List ℕ). joined b (lowest (row_bad prog next) z)) (sym r)
            ∙ found

        pub finding-caller : y ≡ false → a ≡ lowest (row_bad prog next) (rows_left Bits32 prog.rows prog.count st (suc s) s)
        unfolding rows_left lowest joined if_true
        finding-caller j = on [] (rw (← e, q, ← o, w, ← g, ← i, j))

        pub finding-on : (u : ℕ) → y ≡ true → u ≡ get_or st (at + 1) 0 → Finding prog next st s a u (k + 1)
        unfolding rows_left if_true
        finding-on u j z = record { rest = on (rows_left Bits32 prog.rows prog.count st (suc s - (k + 1)) u) (rw (← e, q, ← o, w, ← g, ← i, j, ← z)) }

pub ruleset finding = (finding-start, finding-out, finding-first, finding-stray, finding-caller, finding-on)

-- ---- the rows that a step uses

module _ (f : ℕ → Row) (c : ℕ) (r : Machine) (s n : ℕ) (e : n ≡ size_at f c r.next) where
  pub ends_at : r.frame + n ≡ r.used → leb r.used s ≡ frame_ends f c r s
  unfolding frame_ends
  ends_at h = rw (← e, eq-eqb _ _ h)

  pub ends-else : (r.frame + n ≡ r.used → ⊥) → false ≡ frame_ends f c r s
  unfolding frame_ends
  ends-else h = rw (← e, ne_eqb _ _ h)

pub ruleset ends-ways = (ends_at, ends-else)

module _ (prog : Program) (r : Machine) (st : List ℕ) (v : Bool) (e : v ≡ leaves_frame (prog.rows r.next)) where
  pub frames-none : v ≡ false → No ≡ left_broken prog r st
  unfolding left_broken if_true lowest
  frames-none h = rw (← e, h)

  module _ (x : Bool) (h : v ≡ true) (q : x ≡ frame_ends prog.rows prog.count r (length st)) where
    pub frames-open : x ≡ false → No ≡ left_broken prog r st
    unfolding left_broken if_true lowest
    frames-open o = rw (← e, h, ← q, o)

    pub frames-left : (b : Broken) → x ≡ true → b ≡ lowest (row_bad prog r.next) (rows_left prog.width prog.rows prog.count st (suc r.frame) r.frame)
        → b ≡ left_broken prog r st
    unfolding left_broken if_true
    frames-left b o g = rw (← e, h, ← q, o) g

pub ruleset frames-ways = (frames-none, frames-open, frames-left)

-- the place of a row that may be used, and some more
maybe-row : (p : ℕ → Bool) (q : Bool) (i : ℕ) (is : List ℕ) → lowest p (if_true q (i ∷ []) [] ++ is) ≡ if_true q (marked p i (lowest p is)) (lowest p is)
unfolding if_true
maybe-row p true i is = lowest-cons p i is
maybe-row p false i is = refl

module _ (prog : Program) (r : Machine) (st : List ℕ) where
  pub used-past : prog.count ≤ r.next → No ≡ lowest (row_bad prog r.next) (rows_used prog r st)
  unfolding rows_used lowest if_lt
  used-past h = rw (le-ltb _ _ h)

  pub used-within : (a b x y : Broken) → r.next < prog.count → a ≡ left_broken prog r st → b ≡ callee_marked prog r.next a
      → x ≡ function_marked prog r.next b → y ≡ marked (row_bad prog r.next) r.next x
      → y ≡ lowest (row_bad prog r.next) (rows_used prog r st)
  unfolding rows_used left_broken callee_marked function_marked if_lt
  used-within a b x y h e q g o =
      rw (lt-ltb _ _ h, lowest-cons, maybe-row, maybe-row, ← e, ← q, ← g) o

pub ruleset used-ways = (used-past, used-within)

-- ---- the record

module _ (f : ℕ → Row) (c m : ℕ) (r : Machine) (st : List ℕ) where
  pub shape-next : c ≤ r.next → false ≡ shape_good Bits32 f c m r st
  unfolding shape_good all
  shape-next h = rw (le-ltb _ _ h)

  module _ (h : r.next < c) where
    pub shape-top : m < r.top → false ≡ shape_good Bits32 f c m r st
    unfolding shape_good all
    shape-top q = rw (lt-ltb _ _ h, lt-leb _ _ q, both-no)

    module _ (q : r.top ≤ m) where
      pub shape-memory : 65536 < m → false ≡ shape_good Bits32 f c m r st
      unfolding shape_good all
      shape-memory o = rw (lt-ltb _ _ h, le-leb _ _ q, lt-leb _ _ o, both-no)

      module _ (o : m ≤ 65536) where
        pub shape-stack : 16384 < length st → false ≡ shape_good Bits32 f c m r st
        unfolding shape_good all
        shape-stack g = rw (lt-ltb _ _ h, le-leb _ _ q, le-leb _ _ o, lt-leb _ _ g, both-no)

        pub shape-ends : (b : Bool) → length st ≤ 16384 → b ≡ frame_ends f c r (length st) → b ≡ shape_good Bits32 f c m r st
        unfolding shape_good all
        shape-ends b g e = rw (lt-ltb _ _ h, le-leb _ _ q, le-leb _ _ o, le-leb _ _ g, both_yes) e

pub ruleset shape-ways = (shape-next, shape-top, shape-memory, shape-stack, shape-ends)

-- a good way out restores a good auto top
leaves-top : (f : ℕ → Row) (c m : ℕ) (st : List ℕ) (s : ℕ) (b : Bool) → b ≡ leaves_good Bits32 f c m st (suc s) s → (q : Bool)
    → both (given q (leb (get_or st (s + 2) 0) m)) b ≡ b
unfolding leaves_good
leaves-top f c m st s b e q = by (head_good Bits32 f c st s) (leb (get_or st (s + 2) 0) m) _ b e q
  where
    by : (x y z b : Bool) → b ≡ both x (both y z) → (q : Bool) → both (given q y) b ≡ b
    by x true z b e true = refl
    by x true z b e false = refl
    by true false z b e true = sym e
    by false false z b e true = sym e
    by x false z b e false = refl

module _ (f : ℕ → Row) (c m next : ℕ) (st : List ℕ) (s k : ℕ) (e : k ≡ (f next).kind) where
  pub kept_block : (a x : ℕ) → k ≡ 4 → a ≡ (f next).a → x ≡ get_or st (s + a) 0 → leb x m ≡ kept_good Bits32 f c m next st s
  unfolding kept_good all leaves_frame is_return returns_import
  kept_block a x h q o = rw (← e, h, ← q, ← o, both-no) (sym (both_yes (leb x m)))

  module _ (h : k ≡ 4 → ⊥) (v : Bool) (g : v ≡ leaves_frame (f next)) where
    pub kept-return : (b : Bool) → v ≡ true → b ≡ leaves_good Bits32 f c m st (suc s) s → b ≡ kept_good Bits32 f c m next st s
    unfolding kept_good all
    kept-return b o i = rw (← g, o, ← e, ne_eqb _ _ h, both_yes, ← i, leaves-top f c m st s b i)

    pub kept-tail : (x : ℕ) → v ≡ false → k ≡ 12 → x ≡ get_or st (s + 2) 0 → leb x m ≡ kept_good Bits32 f c m next st s
    unfolding kept_good all
    kept-tail x o q i = rw (← g, o, ← e, ne_eqb _ _ h, eq-eqb _ _ q, ← i) (sym (both_yes (leb x m)))

    pub kept-other : v ≡ false → (k ≡ 12 → ⊥) → true ≡ kept_good Bits32 f c m next st s
    unfolding kept_good all
    kept-other o q = rw (← g, o, ← e, ne_eqb _ _ h, ne_eqb _ _ q)

pub ruleset kept-ways = (kept_block, kept-tail, kept-return, kept-other)

-- the tests of the record in three parts
record-parts : (prog : Program) (m : ℕ) (r : Machine) (st : List ℕ)
    → record_good prog m r st ≡ both (shape_good prog.width prog.rows prog.count m r st) (both (head_good prog.width prog.rows prog.count st r.frame) (kept_good prog.width prog.rows prog.count m r.next st r.frame))
unfolding record_good shape_good kept_good all
record-parts prog m r st =
    by (ltb r.next prog.count) (frame_ends prog.rows prog.count r (length st)) (leb r.top m) (leb m (memory_limit prog.width)) (leb (length st) 16384) (both (head_good prog.width prog.rows prog.count st r.frame) (kept_good prog.width prog.rows prog.count m r.next st r.frame))
  where
    by : (a b x y z n : Bool) → both a (both b (both x (both y (both z n)))) ≡ both (both a (both b (both x (both y (both z true))))) n
    by true true true true true n = refl
    by true true true true false n = refl
    by true true true false z n = refl
    by true true false y z n = refl
    by true false x y z n = refl
    by false b x y z n = refl

module _ (prog : Program) (m : ℕ) (r : Machine) (st : List ℕ) (v : Bool) (e : v ≡ shape_good prog.width prog.rows prog.count m r st) where
  pub record-shape : v ≡ false → false ≡ record_good prog m r st
  record-shape h = rw (record-parts, ← e, h)

  module _ (x : Bool) (h : v ≡ true) (q : x ≡ head_good prog.width prog.rows prog.count st r.frame) where
    pub record-head : x ≡ false → false ≡ record_good prog m r st
    record-head o = rw (record-parts, ← e, h, ← q, o)

    pub record-kept : (y : Bool) → x ≡ true → y ≡ kept_good prog.width prog.rows prog.count m r.next st r.frame → y ≡ record_good prog m r st
    record-kept y o g = rw (record-parts, ← e, h, ← q, o) g

pub ruleset record-ways = (record-shape, record-head, record-kept)

module _ (prog : Program) (r : Machine) (st : List ℕ) (m : ℕ) (b : Broken) where
  pub broken-at : (i : ℕ) → b ≡ At i → At i ≡ with_record prog r st m b
  unfolding with_record or_else
  broken-at i h = rw h

  pub broken-some : b ≡ Somewhere → Somewhere ≡ with_record prog r st m b
  unfolding with_record or_else
  broken-some h = rw h

  module _ (v : Bool) (h : b ≡ No) (q : v ≡ record_good prog m r st) where
    pub broken-none : v ≡ true → No ≡ with_record prog r st m b
    unfolding with_record or_else if_true
    broken-none o = rw (h, ← q, o)

    pub broken-record : v ≡ false → Somewhere ≡ with_record prog r st m b
    unfolding with_record or_else if_true
    broken-record o = rw (h, ← q, o)

pub ruleset broken-ways = (broken-at, broken-some, broken-none, broken-record)

pub within-row : (prog : Program) (r : Machine) (st : List ℕ) (m : ℕ) (b x : Broken) → b ≡ lowest (row_bad prog r.next) (rows_used prog r st)
    → x ≡ with_record prog r st m b → x ≡ within_broken prog r st m
unfolding within_broken
within-row prog r st m b x e q = rw (← e) q

pub within-resume : (prog : Program) (r : Machine) (st : List ℕ) (m : ℕ) (b y x : Broken) → b ≡ lowest (row_bad prog r.next) (rows_used prog r st)
    → y ≡ not_import prog r b → x ≡ with_record prog r st m y → x ≡ within_resume prog r st m
unfolding within_resume
within-resume prog r st m b y x e d q = rw (← e, ← d) q
