-- The ways through a start.
-- Assumes nothing.
use Rattle.std.proofs.Common.{Ok, Err}
use mathlib.Core.Path.{◌≡◌, refl, sym, ◌∙◌, ap, subst}
use mathlib.Core.Bool.{Bool, true, false, not}
use mathlib.Core.List.{List}
use Prim.Native.Nat.{ℕ, zero, suc, ◌+◌, ◌-◌, ◌*◌, ◌<◌, ◌≤◌, min}
use native.Mathlib.Nat.{not-suc-le-zero}
use native.Mathlib.Numerals.{add-one}
use native.Mathlib.Decide.{ℕ_discrete, dec_lt}
use native.Mathlib.Omega.{arith}
use lib.Dec.{eqb, ltb, leb}
use lib.ListN.{length, get_or, take, drop, length-drop, drop_of_length-le}
use lib.Seq.{take_all, take-nil}
use borrow.Author.Tests.{eq-eqb, ne_eqb, lt-ltb, le-ltb, le-leb, ltb-true, ltb-false, eqb-true}
use Rattle.base_prelude.specs.Choice.{pick, if_eq, if_true}
use Rattle.base_prelude.specs.Lists.{same_list}
use Rattle.base_prelude.proofs.Choice.{true-false, if_lt-yes, if_lt-no, if_true-no}
use Rattle.base_limits.specs.declared.Machine.{Machine}
use Rattle.base_limits.specs.declared.Width.TheVariants.{Bits32}
use Rattle.base_limits.specs.Record.{fresh_of, mark}
use Rattle.prog_tables.specs.Tests.{both, one_of, some, some_below, first_from}
use Rattle.prog_tables.specs.Statement.{Row, row_at}
use Rattle.prog_tables.specs.Label.{label_at, is_data, is_function_label}
use Rattle.prog_tables.specs.Program.{Program, program_from, lent_program}
use Rattle.prog_tables.specs.Faults.{row_fault, label_fault}
use Rattle.vm_definitions.proofs.Seen.{lowest-seen}
use Rattle.vm_definitions.specs.Access.{store_from}
use Rattle.vm_definitions.specs.Frames.{frame_words}
use Rattle.vm_definitions.specs.Broken.{lower, lowest, or_else, numbers_below, start_broken}
use Rattle.vm_definitions.specs.Step.{World}
use Rattle.vm_definitions.specs.Start.{exports_as, export_of, start_answer, start_world, start_by, begun_by, start_of, start_leaves}
use Rattle.vm_definitions.specs.Lent.{tables_of, world}
use Rattle.vm_definitions.specs.declared.Broken.{Broken}
use Rattle.vm_definitions.specs.declared.Broken.TheVariants.{No, At, Somewhere}
use Rattle.vm_definitions.specs.Start.{Started}
use Rattle.vm_definitions.specs.declared.StartError.TheVariants.{Refused, Unsound}
use Rattle.vm_start.specs.Opening.{Opened, opened, opening_of, labels_alone, no_function, aim_fault, rest_fault, rows_broken, refused_with, begun_at, fitted_of, entered_of}
use Rattle.prog_tables.proofs.Each.{some_at, one-no, one-false}

-- ---- the lowest broken row, counting up

lowest-at : (p : ℕ → Bool) (n i : ℕ) → i < n → lowest p (numbers_below i) ≡ No → p i ≡ true → lowest p (numbers_below n) ≡ At i
unfolding lowest numbers_below if_true lower
lowest-at p zero i h o e = absurd (not-suc-le-zero h)
lowest-at p (suc n) i h o e =
    elim (ℕ_discrete i n) [
      | yes q ↦ here n (sym q)
      | no q ↦ below (p n) (lowest-at p n i (omega arith) o e)
    ]
  where
    here : (m : ℕ) → m ≡ i → if_true (p m) (lower m (lowest p (numbers_below m))) (lowest p (numbers_below m)) ≡ At i
    here m q = rw (q, e, o)

    below : (b : Bool) → lowest p (numbers_below n) ≡ At i → if_true b (lower n (lowest p (numbers_below n))) (lowest p (numbers_below n)) ≡ At i
    below true q = let z : min n i ≡ i = omega arith in ap (lower n) q ∙ ap At z
    below false q = q

pub record Scanning (p : ℕ → Bool) (c i : ℕ) : Type 0 where
  pub within : i ≤ c
  pub none : lowest p (numbers_below i) ≡ No

pub scanning-start : (p : ℕ → Bool) (c : ℕ) → Scanning p c 0
unfolding lowest numbers_below
scanning-start p c = record { within = omega arith; none = refl }

module _ (p : ℕ → Bool) (c i : ℕ) (h : Scanning p c i) where
  pub scanning-more : (b : Bool) → i < c → b ≡ p i → b ≡ false → Scanning p c (i + 1)
  unfolding lowest numbers_below if_true
  scanning-more b l e q = record { within = omega arith; none = rw (add-one i, ← e, q) h.none }

  pub scanning-found : (b : Bool) → i < c → b ≡ p i → b ≡ true → At i ≡ lowest p (numbers_below c)
  scanning-found b l e q = sym (lowest-at p c i l h.none (sym e ∙ q))

  pub scanning-done : c ≤ i → No ≡ lowest p (numbers_below c)
  scanning-done l = let o : i ≡ c = omega (arith, h.within) in sym (rw o at h.none)

pub ruleset scanning = (scanning-start, scanning-more, scanning-found, scanning-done)

-- ---- labels

module _ (f : ℕ → Row) (c n : ℕ) where
  pub aim-kind : (k : ℕ) → n < c → k ≡ (f n).kind → not (eqb k 1) ≡ no_function f c n
  aim-kind k h e = rw (lt-ltb _ _ h, e)

  pub aim-past : c ≤ n → leb c n ≡ no_function f c n
  aim-past h = rw (le-ltb _ _ h, le-leb _ _ h)

pub ruleset function-ways = (aim-kind, aim-past)

module _ (f : ℕ → Row) (c d k n : ℕ) (u : Bool) (e : u ≡ is_data k) where
  pub aim-data : u ≡ true → ltb d n ≡ aim_fault f c d k n
  unfolding aim_fault if_true
  aim-data h = rw (← e, h)

  module _ (v : Bool) (h : u ≡ false) (q : v ≡ is_function_label k) where
    pub aim-function : (b : Bool) → v ≡ true → b ≡ no_function f c n → b ≡ aim_fault f c d k n
    unfolding aim_fault if_true
    aim-function b g r = rw (← e, h, ← q, g) r

    pub aim-place : v ≡ false → k ≡ 5 → leb c n ≡ aim_fault f c d k n
    unfolding aim_fault if_true if_eq
    aim-place g r = rw (← e, h, ← q, g, eq-eqb _ _ r)

    pub aim-other : v ≡ false → (k ≡ 5 → ⊥) → not (eqb k 6) ≡ aim_fault f c d k n
    unfolding aim_fault if_true if_eq
    aim-other g r = rw (← e, h, ← q, g, ne_eqb _ _ r)

pub ruleset aim-ways = (aim-data, aim-function, aim-place, aim-other)

module _ (t : List ℕ) (c : ℕ) (l : List ℕ) (lc : ℕ) (names : List ℕ) (d i s : ℕ) (e : s ≡ get_or l (i * 4 + 3) 0) where
  pub label-long : 64 < s → true ≡ label_fault (program_from Bits32 (tables_of t c l lc names d)) (label_at l names i)
  unfolding label_fault label_at
  label-long h = rw (← e, lt-ltb _ _ h)

  pub label-aim : (k n : ℕ) (b : Bool) → s ≤ 64 → k ≡ get_or l (i * 4) 0 → n ≡ get_or l (i * 4 + 1) 0 → b ≡ aim_fault (row_at t) c d k n → b ≡ label_fault (program_from Bits32 (tables_of t c l lc names d)) (label_at l names i)
  unfolding label_fault label_at aim_fault
  label-aim k n b h q r g = rw (← e, le-ltb _ _ h, ← q, ← r) g

pub ruleset label-ways = (label-long, label-aim)

-- ---- some broken label

pub record Trying (p : ℕ → Bool) (n i : ℕ) : Type 0 where
  pub within : i ≤ n
  pub none : some_below p i ≡ false

pub trying_start : (p : ℕ → Bool) (n : ℕ) → Trying p n 0
unfolding some_below
trying_start p n = record { within = omega arith; none = refl }

module _ (p : ℕ → Bool) (n i : ℕ) (h : Trying p n i) where
  pub trying-more : (b : Bool) → i < n → b ≡ p i → b ≡ false → Trying p n (i + 1)
  unfolding some_below
  trying-more b l e q = record { within = omega arith; none = rw (add-one i, ← e, q) h.none }

  pub trying-found : (b : Bool) → i < n → b ≡ p i → b ≡ true → true ≡ some_below p n
  trying-found b l e q = sym (some_at p n i l (sym e ∙ q))

  pub trying-done : n ≤ i → false ≡ some_below p n
  trying-done l = let o : i ≡ n = omega (arith, h.within) in sym (rw o at h.none)

pub ruleset trying = (trying_start, trying-more, trying-found, trying-done)

-- ---- 35

module _ (t : List ℕ) (c : ℕ) (l : List ℕ) (k : ℕ) (names : List ℕ) (d n : ℕ) where
  module _ (v : Bool) (e : v ≡ one_of (ltb (length l) (k * 4)) (ltb (length names) (k * 64))) where
    pub rest-past : v ≡ true → true ≡ rest_fault (program_from Bits32 (tables_of t c l k names d)) n
    unfolding rest_fault some
    rest-past h = rw (← e, h)

    pub rest-short : v ≡ false → n < d → true ≡ rest_fault (program_from Bits32 (tables_of t c l k names d)) n
    unfolding rest_fault some
    rest-short h g = rw (← e, h, lt-ltb _ _ g)

    pub rest-labels : (b : Bool) → v ≡ false → d ≤ n → b ≡ some_below (λ i. label_fault (program_from Bits32 (tables_of t c l k names d)) (label_at l names i)) k → b ≡ rest_fault (program_from Bits32 (tables_of t c l k names d)) n
    unfolding rest_fault some
    rest-labels b h g q =
        q
        ∙ sym
        (ap (λ (a : Bool). one_of a (one_of (ltb n d) (one_of (some_below (λ i. label_fault (program_from Bits32 (tables_of t c l k names d)) (label_at l names i)) k) false))) (sym e ∙ h)
        ∙ ap (λ (a : Bool). one_of a (one_of (some_below (λ i. label_fault (program_from Bits32 (tables_of t c l k names d)) (label_at l names i)) k) false)) (le-ltb n d g)
        ∙ one-false (some_below (λ i. label_fault (program_from Bits32 (tables_of t c l k names d)) (label_at l names i)) k))

  module _ (b : Broken) (o : b ≡ lowest (row_fault (lent_program t c l k d)) (numbers_below c)) where
    e : b ≡ lowest (row_fault (program_from Bits32 (tables_of t c l k names d))) (numbers_below c)
    e = o ∙ sym (lowest-seen t c l k names d (numbers_below c))

    pub rows_at : (i : ℕ) → b ≡ At i → At i ≡ rows_broken (program_from Bits32 (tables_of t c l k names d)) n
    unfolding rows_broken or_else
    rows_at i q = rw (← e, q)

    pub rows-somewhere : b ≡ Somewhere → Somewhere ≡ rows_broken (program_from Bits32 (tables_of t c l k names d)) n
    unfolding rows_broken or_else
    rows-somewhere q = rw (← e, q)

    module _ (v : Bool) (q : b ≡ No) (r : v ≡ rest_fault (program_from Bits32 (tables_of t c l k names d)) n) where
      pub rows-rest : v ≡ true → Somewhere ≡ rows_broken (program_from Bits32 (tables_of t c l k names d)) n
      unfolding rows_broken or_else if_true
      rows-rest h = rw (← e, q, ← r, h)

      pub rows-good : v ≡ false → No ≡ rows_broken (program_from Bits32 (tables_of t c l k names d)) n
      unfolding rows_broken or_else if_true
      rows-good h = rw (← e, q, ← r, h)

  module _ (v : Bool) (e : v ≡ ltb (length t) (c * 27)) where
    pub judge-count : v ≡ true → Somewhere ≡ start_broken (program_from Bits32 (tables_of t c l k names d)) n
    unfolding start_broken if_true
    judge-count h = rw (← e, h)

    pub judge-rest : (b : Broken) → v ≡ false → b ≡ rows_broken (program_from Bits32 (tables_of t c l k names d)) n → b ≡ start_broken (program_from Bits32 (tables_of t c l k names d)) n
    unfolding start_broken rows_broken rest_fault
    judge-rest b h q = q ∙ sym (if_true-no Somewhere (rows_broken (program_from Bits32 (tables_of t c l k names d)) n) (sym e ∙ h))

pub ruleset rest-ways = (rest-past, rest-short, rest-labels)

pub ruleset row-ways = (rows_at, rows-somewhere, rows-rest, rows-good)

pub ruleset judge-ways = (judge-count, judge-rest)

-- ---- the label of that name

-- bytes of a name, with the ends cut to the table
part-is : (names : List ℕ) (at n from to : ℕ) → from ≡ min at (length names) → to ≡ min (at + n) (length names) → take (to - from) (drop from names) ≡ take n (drop at names)
part-is names at n from to e q =
    elim (dec_lt (length names) at) [
      | yes h ↦
          (let z : to - from ≡ 0 = omega (arith, e, q) in
          rw z (sym (ap (take n) (drop_of_length-le names {i = at} (omega (arith, h))) ∙ take-nil n)))
      | no h ↦
          (let y : from ≡ at = omega (arith, e, h) in
          rw y
          (elim (dec_lt (length names) (at + n)) [
            | yes g ↦ take_all (to - at) (drop at names) (omega (arith, length-drop at names, e, q, g)) ∙ sym (take_all n (drop at names) (omega (arith, length-drop at names, g)))
            | no g ↦ (let z : to - at ≡ n = omega (arith, q, g) in ap (λ (j : ℕ). take j (drop at names)) z)
          ]))
    ]

pub named-part : (names name : List ℕ) (at n from to : ℕ) (b : Bool) → from ≡ min at (length names) → to ≡ min (at + n) (length names)
    → b ≡ same_list (take (to - from) (drop from names)) name → b ≡ same_list (take n (drop at names)) name
named-part names name at n from to b e q r = r ∙ ap (λ (x : List ℕ). same_list x name) (part-is names at n from to e q)

module _ (l : List ℕ) (names name : List ℕ) (i k : ℕ) (e : k ≡ get_or l (i * 4) 0) where
  pub exported-named : (s : ℕ) (b : Bool) → k ≡ 4 → s ≡ get_or l (i * 4 + 3) 0 → b ≡ same_list (take s (drop (i * 64) names)) name
      → b ≡ exports_as (labels_alone l 0 names) name i
  unfolding exports_as label_at
  exported-named s b h q r = rw (← e, eq-eqb _ _ h, ← q) r

  pub exported-other : (k ≡ 4 → ⊥) → false ≡ exports_as (labels_alone l 0 names) name i
  unfolding exports_as label_at
  exported-other h = rw (← e, ne_eqb _ _ h)

pub ruleset exported-ways = (exported-named, exported-other)

pub record Finding (l names name : List ℕ) (k i : ℕ) : Type 0 where
  pub within : i ≤ k
  pub rest : first_from (exports_as (labels_alone l 0 names) name) (k - i) i ≡ first_from (exports_as (labels_alone l 0 names) name) k 0

pub finding-start : (l names name : List ℕ) (k : ℕ) → Finding l names name k 0
finding-start l names name k =
    let z : k - 0 ≡ k = omega arith in
    record { within = omega arith; rest = ap (λ (n : ℕ). first_from (exports_as (labels_alone l 0 names) name) n 0) z }

module _ (l names name : List ℕ) (k i : ℕ) (h : Finding l names name k i) where
  whole : first_from (exports_as (labels_alone l 0 names) name) k 0 ≡ export_of (labels_alone l k names) name
  unfolding export_of exports_as
  whole = refl

  pub finding-done : k ≤ i → k ≡ export_of (labels_alone l k names) name
  unfolding first_from
  finding-done g = let z : k - i ≡ 0 = omega arith in let o : k ≡ i = omega (arith, h.within) in o ∙ (rw z at h.rest) ∙ whole

  module _ (b : Bool) (g : i < k) (e : b ≡ exports_as (labels_alone l 0 names) name i) where
    pub finding-more : b ≡ false → Finding l names name k (i + 1)
    unfolding first_from
    finding-more q =
        let z : k - i ≡ suc (k - (i + 1)) = omega arith in
        record { within = omega arith; rest = rw (add-one i) (rw (z, ← e, q, add-one i) at h.rest) }

    pub finding-found : b ≡ true → i ≡ export_of (labels_alone l k names) name
    unfolding first_from
    finding-found q = let z : k - i ≡ suc (k - (i + 1)) = omega arith in (rw (z, ← e, q) at h.rest) ∙ whole

pub ruleset finding = (finding-start, finding-more, finding-found, finding-done)

-- ---- the first frame

module _ (g size d : ℕ) (bytes args st m : List ℕ) where
  pub begun-made : (st' m' : List ℕ) (r : Machine) → st' ≡ store_from st 0 (frame_words Bits32 4294967295 4294967295 d args size)
      → m' ≡ store_from m 0 (take d bytes) → r ≡ fresh_of (g + 1) size d → world r st' m' ≡ begun_at Bits32 g size d bytes args st m
  unfolding begun_at mark
  begun-made st' m' r e q h = rw (e, q, h, add-one g)

  module _ (r : Machine) where
    pub fit-short : length m < d → opened (record { machine = r; answer = Err (Refused 22) }) st m ≡ fitted_of Bits32 g size d bytes args (world r st m)
    unfolding fitted_of if_true
    fit-short h = rw (lt-ltb _ _ h)

    module _ (h : d ≤ length m) where
      pub fit-long : 65536 < length m → opened (record { machine = r; answer = Err (Refused 22) }) st m ≡ fitted_of Bits32 g size d bytes args (world r st m)
      unfolding fitted_of if_true
      fit-long q = rw (le-ltb _ _ h, lt-ltb _ _ q)

      module _ (q : length m ≤ 65536) where
        pub fit_small : length st < size → opened (record { machine = r; answer = Err (Refused 23) }) st m ≡ fitted_of Bits32 g size d bytes args (world r st m)
        unfolding fitted_of if_true
        fit_small e = rw (le-ltb _ _ h, le-ltb _ _ q, lt-ltb _ _ e)

        module _ (e : size ≤ length st) where
          pub fit-large : 16384 < length st → opened (record { machine = r; answer = Err (Refused 23) }) st m ≡ fitted_of Bits32 g size d bytes args (world r st m)
          unfolding fitted_of if_true
          fit-large o = rw (le-ltb _ _ h, le-ltb _ _ q, le-ltb _ _ e, lt-ltb _ _ o)

          pub fit-begun : (r' : Machine) (st' m' : List ℕ) → length st ≤ 16384 → world r' st' m' ≡ begun_at Bits32 g size d bytes args st m
              → opened (record { machine = r'; answer = Ok tt }) st' m' ≡ fitted_of Bits32 g size d bytes args (world r st m)
          unfolding fitted_of if_true
          fit-begun r' st' m' o p =
              rw (le-ltb _ _ h, le-ltb _ _ q, le-ltb _ _ e, le-ltb _ _ o) (ap (λ (x : World). record { answer = Ok tt; world = x }) p)

pub ruleset fit-ways = (fit-short, fit-long, fit_small, fit-large, fit-begun)

module _ (f : ℕ → Row) (g d : ℕ) (bytes args st m : List ℕ) (r : Machine) (p : ℕ) (e : p ≡ (f g).b) where
  pub enter-count : (length args ≡ p → ⊥) → opened (record { machine = r; answer = Err (Refused 21) }) st m ≡ entered_of Bits32 f g d bytes args (world r st m)
  unfolding entered_of if_eq
  enter-count h = rw (← e, ne_eqb _ _ h)

  pub enter-fits : (size : ℕ) (o : Opened) → length args ≡ p → size ≡ (f g).a → o ≡ fitted_of Bits32 g size d bytes args (world r st m)
      → o ≡ entered_of Bits32 f g d bytes args (world r st m)
  unfolding entered_of if_eq
  enter-fits size o h q s = rw (← e, eq-eqb _ _ h, ← q) s

pub ruleset enter-ways = (enter-count, enter-fits)

-- ---- what sound tables say

somewhere : {P : Type 0} → Somewhere ≡ No → P
somewhere e = absurd (let z : ◌≡◌ {A = ℕ} 0 1 = cc in omega arith)

placed : {P : Type 0} (i : ℕ) → At i ≡ No → P
placed i e = absurd (let z : ◌≡◌ {A = ℕ} 0 1 = cc in omega arith)

sound-rest : (a b : Bool) (x : Broken) → if_true a Somewhere (or_else x (if_true b Somewhere No)) ≡ No → b ≡ false
unfolding if_true or_else
sound-rest true b x e = somewhere e
sound-rest false true No e = somewhere e
sound-rest false false No e = refl
sound-rest false b (At i) e = placed i e
sound-rest false b Somewhere e = somewhere e

neither_right : (a b : Bool) → one_of a b ≡ false → b ≡ false
neither_right true b e = true-false e
neither_right false b e = e

both_left : (a b : Bool) → both a b ≡ true → a ≡ true
both_left true b e = refl
both_left false b e = e

not-false : (b : Bool) → not b ≡ false → b ≡ true
not-false true e = refl
not-false false e = sym e

none-at : (p : ℕ → Bool) (n i : ℕ) → some_below p n ≡ false → i < n → p i ≡ false
none-at p n i e h = by (p i) refl
  where
    by : (b : Bool) → p i ≡ b → b ≡ false
    by true q = true-false (sym (some_at p n i h q) ∙ e)
    by false q = refl

first_found : (p : ℕ → Bool) (left i : ℕ) → first_from p left i < i + left → p (first_from p left i) ≡ true
unfolding first_from
first_found p zero i h = absurd (omega arith)
first_found p (suc left) i h = split (p i) refl (first_found p left (suc i)) h
  where
    split : (b : Bool) → p i ≡ b → (first_from p left (suc i) < suc i + left → p (first_from p left (suc i)) ≡ true)
        → pick b i (first_from p left (suc i)) < i + suc left → p (pick b i (first_from p left (suc i))) ≡ true
    split true e on h = e
    split false e on h = on (omega arith)

-- a sound label of an exported function is at a row
aimed : (prog : Program) (l names name : List ℕ) (k i : ℕ) → label_fault prog (label_at l names i) ≡ false
    → exports_as (labels_alone l k names) name i ≡ true → (label_at l names i).number < prog.count
unfolding label_fault exports_as if_true is_data is_function_label if_eq
aimed prog l names name k i e h =
    let q : (label_at l names i).kind ≡ 4 = eqb-true _ _ (both_left (eqb (label_at l names i).kind 4) (same_list (label_at l names i).name name) h) in
    ltb-true _ _
    (both_left (ltb (label_at l names i).number prog.count) (eqb (prog.rows (label_at l names i).number).kind 1)
    (not-false _ (rw q at (neither_right (ltb 64 (label_at l names i).size) _ e))))

module _ (t : List ℕ) (c : ℕ) (l : List ℕ) (k : ℕ) (names : List ℕ) (d : ℕ) (n : ℕ) (s : start_broken (program_from Bits32 (tables_of t c l k names d)) n ≡ No) where
  past : Bool
  past = one_of (ltb (length l) (k * 4)) (ltb (length names) (k * 64))

  labels : Bool
  labels = some_below (λ i. label_fault (program_from Bits32 (tables_of t c l k names d)) (label_at l names i)) k

  rest : one_of past (one_of (ltb n d) (one_of labels false)) ≡ false
  unfolding start_broken some past labels
  rest = sound-rest _ _ _ s

  pub sound-data : d ≤ n
  sound-data = ltb-false n d (one-no (ltb n d) _ (neither_right past _ rest))

  labels-sound : some_below (λ i. label_fault (program_from Bits32 (tables_of t c l k names d)) (label_at l names i)) k ≡ false
  unfolding labels
  labels-sound = one-no labels _ (neither_right (ltb n d) _ (neither_right past _ rest))

  pub sound-function : (name : List ℕ) (e g : ℕ) → e ≡ export_of (labels_alone l k names) name → e < k → g ≡ get_or l (e * 4 + 1) 0 → g < c
  unfolding export_of label_at
  sound-function name e g q h r =
      rw r
      (aimed (program_from Bits32 (tables_of t c l k names d)) l names name k e
      (none-at (λ i. label_fault (program_from Bits32 (tables_of t c l k names d)) (label_at l names i)) k e labels-sound h)
      (ap (exports_as (labels_alone l k names) name) q
      ∙ first_found (exports_as (labels_alone l k names) name) k 0 (subst (λ (j : ℕ). j < 0 + k) q (omega (arith, h)))))

  pub sound-few : (name : List ℕ) (e g : ℕ) → e ≡ export_of (labels_alone l k names) name → e < k → g ≡ get_or l (e * 4 + 1) 0 → c < 4294967296 → g < 4294967295
  sound-few name e g q h r o = omega (arith, sound-function name e g q h r)

-- ---- the answer

push-eq : (g : Started → Opened) (a b : ℕ) (x y : Started) → g (if_eq a b x y) ≡ if_eq a b (g x) (g y)
unfolding if_eq
push-eq g a b x y = by (eqb a b)
  where
    by : (v : Bool) → g (pick v x y) ≡ pick v (g x) (g y)
    by true = refl
    by false = refl

push-true : (g : Started → Opened) (v : Bool) (x y : Started) → g (if_true v x y) ≡ if_true v (g x) (g y)
unfolding if_true
push-true g true x y = refl
push-true g false x y = refl

module _ (t : List ℕ) (c : ℕ) (l : List ℕ) (k : ℕ) (names : List ℕ) (d : ℕ) (bytes name args st m : List ℕ) (r : Machine) where
  abbrev T : Program
  T = program_from Bits32 (tables_of t c l k names d)

  abbrev X : World
  X = world r st m

  -- the world beside an answer
  abbrev beside : Started → Opened
  beside a = record { answer = a; world = begun_by T bytes name args X a }

  export_is : export_of (labels_alone l k names) name ≡ export_of T name
  unfolding export_of exports_as
  export_is = refl

  answered : start_broken T (length bytes) ≡ No → beside (start_answer T bytes name args X) ≡ opening_of T bytes name args X
  unfolding start_of start_leaves start_by
  answered s = ap (λ (b : Broken). beside (start_by T bytes name args X b)) (sym s)

  -- the function row of the label
  abbrev G : ℕ
  G = (T.labels (export_of T name)).number

  abbrev short : Bool
  short = one_of (ltb (length m) d) (ltb 65536 (length m))

  abbrev small : Bool
  small = one_of (ltb (length st) (row_at t G).a) (ltb 16384 (length st))

  entered-is : beside (if_eq (length args) (row_at t G).b (if_true short (Err (Refused 22)) (if_true small (Err (Refused 23)) (Ok tt))) (Err (Refused 21)))
      ≡ entered_of Bits32 (row_at t) G d bytes args X
  unfolding entered_of fitted_of begun_by start_world begun_at
  entered-is =
      push-eq beside (length args) (row_at t G).b (if_true short (Err (Refused 22)) (if_true small (Err (Refused 23)) (Ok tt))) (Err (Refused 21))
      ∙ ap (λ (z : Opened). if_eq (length args) (row_at t G).b z (refused_with 21 X))
      (push-true beside short (Err (Refused 22)) (if_true small (Err (Refused 23)) (Ok tt))
      ∙ ap (λ (z : Opened). if_true short (refused_with 22 X) z) (push-true beside small (Err (Refused 23)) (Ok tt)))

  module _ (s : start_broken T (length bytes) ≡ No) (e : ℕ) (q : e ≡ export_of (labels_alone l k names) name) where
    pub begin-none : k ≤ e → opened (record { machine = r; answer = Err (Refused 20) }) st m ≡ opening_of T bytes name args X
    unfolding begun_by start_answer
    begin-none h = ap beside (sym (if_lt-no _ _ (subst (λ (j : ℕ). k ≤ j) (q ∙ export_is) h))) ∙ answered s

    pub begin-found : (g : ℕ) (o : Opened) → e < k → g ≡ get_or l (e * 4 + 1) 0 → o ≡ entered_of Bits32 (row_at t) g d bytes args X → o ≡ opening_of T bytes name args X
    unfolding start_answer label_at
    begin-found g o h p z =
        let y : g ≡ G = p ∙ ap (λ (j : ℕ). get_or l (j * 4 + 1) 0) (q ∙ export_is) in
        z ∙ ap (λ (j : ℕ). entered_of Bits32 (row_at t) j d bytes args X) y ∙ sym entered-is
        ∙ ap beside (sym (if_lt-yes _ _ (subst (λ (j : ℕ). j < k) (q ∙ export_is) h)))
        ∙ answered s

  module _ (b : Broken) (e : b ≡ start_broken T (length bytes)) where
    pub start-at : (i : ℕ) → b ≡ At i → opened (record { machine = r; answer = Err (Unsound (At i)) }) st m ≡ opening_of T bytes name args X
    unfolding start_of start_leaves start_by begun_by
    start-at i h = rw (← e, h)

    pub start-somewhere : b ≡ Somewhere → opened (record { machine = r; answer = Err (Unsound Somewhere) }) st m ≡ opening_of T bytes name args X
    unfolding start_of start_leaves start_by begun_by
    start-somewhere h = rw (← e, h)

pub start-sound : (t : Program) (n : ℕ) (b : Broken) → b ≡ start_broken t n → b ≡ No → start_broken t n ≡ No
start-sound t n b e h = sym e ∙ h

pub ruleset begin-ways = (begin-none, begin-found)

pub ruleset start-ways = (start-at, start-somewhere)
