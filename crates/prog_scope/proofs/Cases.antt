-- The ways through the functions that have no loop.
-- Assumes nothing.
use mathlib.Core.Path.{◌≡◌, refl}
use mathlib.Core.Bool.{Bool, true, false}
use mathlib.Core.List.{List, []}
use Prim.Native.Nat.{ℕ, ◌+◌, ◌-◌, ◌<◌, ◌≤◌}
use borrow.Author.Tests.{eq-eqb, ne_eqb, le-leb, lt-leb}
use lib.Dec.{eqb, ltb}
use lib.ListN.{length, get_or, set}
use Rattle.base_prelude.specs.Choice.{if_eq}
use Rattle.prog_tables.specs.Tests.{both, all}
use Rattle.prog_tables.specs.Statement.{Row}
use Rattle.prog_tables.specs.Label.{Label, label_at, is_data}
use Rattle.prog_tables.specs.Frames.{need_of, frame_size, is_parameter}
use Rattle.prog_tables.specs.Faults.{address_listed}
use Rattle.prog_tables.specs.WellFormed.{labelled}
use Rattle.prog_tables.specs.declared.Operand.{Operand}
use Rattle.prog_tables.specs.declared.Operand.TheVariants.{Constant, Local, Address, AtConstant, AtLocal, AtAddress, Unlisted}
use Rattle.prog_chains.specs.Counted.{noted, first_word, next_word, holds, chain_holds, chain_lets, scope_holds, scope_size, is_data_at, operand_held, operands_held, address_held, set_held, block_held, let_held, function_held, word_held, row_held}

-- ---- counts

module _ (f : ℕ → Row) (n k : ℕ) (x : List ℕ) (e : k ≡ (f n).kind) where
  pub noted_other : (k ≡ 5 → ⊥) → x ≡ noted f n x
  unfolding noted if_eq
  noted_other h = rw (← e, ne_eqb _ _ h)

  pub noted-let : (s : ℕ) (z : List ℕ) → k ≡ 5 → s ≡ (f n).scope → z ≡ set x s (get_or x s 0 + 1) → z ≡ noted f n x
  unfolding noted if_eq
  noted-let s z h d q = rw (← e, eq-eqb _ _ h, ← d) q

module _ (f : ℕ → Row) (n s : ℕ) (x : List ℕ) (e : s ≡ (f n).scope) where
  pub raise-within : (f n).scope < length x → s < length x
  raise-within h = rw e h

  pub raise-fits : get_or x (f n).scope 0 < 4294967295 → get_or x s 0 < 4294967295
  raise-fits h = rw e h

pub ruleset noting = (noted_other, noted-let, raise-within, raise-fits)

-- ---- words

module _ (f : ℕ → Row) (s k : ℕ) (e : k ≡ (f s).kind) where
  pub first_block : (a : ℕ) → k ≡ 3 → a ≡ (f s).a → a + 1 ≡ first_word f s
  unfolding first_word if_eq
  first_block a h d = rw (← e, eq-eqb _ _ h, ← d)

  pub first_function : (b : ℕ) → (k ≡ 3 → ⊥) → b ≡ (f s).b → 3 + b ≡ first_word f s
  unfolding first_word if_eq
  first_function b h d = rw (← e, ne_eqb _ _ h, ← d)

pub ruleset firsts = (first_block, first_function)

module _ (f : ℕ → Row) (x : List ℕ) (s a : ℕ) (e : a ≡ first_word f s) where
  pub next-sum : (m : ℕ) → m ≡ get_or x s 0 → a + m ≡ next_word f x s
  unfolding next_word
  next-sum m d = rw (← e, ← d)

  pub held_low : (w : ℕ) → w < a → false ≡ holds f x w s
  unfolding holds
  held_low w h = rw (← e, lt-leb _ _ h)

  pub held_in_lem : (w v : ℕ) → a ≤ w → v ≡ next_word f x s → ltb w v ≡ holds f x w s
  unfolding holds
  held_in_lem w v h d = rw (← e, ← d, le-leb _ _ h)

pub ruleset helds = (next-sum, held_low, held_in_lem)

-- ---- scope

module _ (p w : ℕ) where
  pub parameter-in : 3 ≤ w → ltb (w - 3) p ≡ is_parameter p w
  unfolding is_parameter
  parameter-in h = rw (le-leb _ _ h)

  pub parameter-low : w < 3 → false ≡ is_parameter p w
  unfolding is_parameter
  parameter-low h = rw (lt-leb _ _ h)

pub ruleset parameter-ways = (parameter-in, parameter-low)

module _ (f : ℕ → Row) (x : List ℕ) (n w g p : ℕ) (e : g ≡ (f n).func) (d : p ≡ (f g).b) (b : Bool) (q : b ≡ is_parameter p w) where
  pub scope-parameter : b ≡ true → true ≡ scope_holds f x n w
  unfolding scope_holds
  scope-parameter h = rw (← e, ← d, ← q, h)

  pub scope-chain : (s : ℕ) (v : Bool) → b ≡ false → s ≡ (f n).scope → v ≡ chain_holds f x w 17 s → v ≡ scope_holds f x n w
  unfolding scope_holds
  scope-chain s v h r o = rw (← e, ← d, ← q, h, ← r) o

pub scope-sum : (f : ℕ → Row) (x : List ℕ) (n g p s m : ℕ) → g ≡ (f n).func → p ≡ (f g).b → s ≡ (f n).scope → m ≡ chain_lets f x 17 s → p + m ≡ scope_size f x n
unfolding scope_size
scope-sum f x n g p s m e d q r = rw (← e, ← d, ← q, ← r)

pub ruleset scope-ways = (scope-parameter, scope-chain, scope-sum)

-- ---- labels

module _ (l : List ℕ) (i v k : ℕ) (e : k ≡ (label_at l [] i).kind) (b : Bool) (d : b ≡ is_data k) where
  pub data-not : b ≡ false → false ≡ is_data_at (label_at l []) v i
  unfolding is_data_at
  data-not h = rw (← e, ← d, h)

  pub data-number : (m : ℕ) → b ≡ true → m ≡ (label_at l [] i).number → eqb m v ≡ is_data_at (label_at l []) v i
  unfolding is_data_at
  data-number m h q = rw (← e, ← d, h, ← q)

pub ruleset data-ways = (data-not, data-number)

-- ---- operands

module _ (f : ℕ → Row) (g : ℕ → Label) (k : ℕ) (x : List ℕ) (n : ℕ) (o : Operand) where
  pub operand-constant : (v : ℕ) → o ≡ Constant v → true ≡ operand_held f g k x n o
  unfolding operand_held
  operand-constant v e = rw e

  pub operand-at-constant : (v : ℕ) → o ≡ AtConstant v → true ≡ operand_held f g k x n o
  unfolding operand_held
  operand-at-constant v e = rw e

  pub operand-unlisted : o ≡ Unlisted → false ≡ operand_held f g k x n o
  unfolding operand_held
  operand-unlisted e = rw e

  module _ (w : ℕ) (b : Bool) where
    pub operand-local : o ≡ Local w → b ≡ scope_holds f x n w → b ≡ operand_held f g k x n o
    unfolding operand_held
    operand-local e d = rw e d

    pub operand-at-local : o ≡ AtLocal w → b ≡ scope_holds f x n w → b ≡ operand_held f g k x n o
    unfolding operand_held
    operand-at-local e d = rw e d

    pub operand-address : o ≡ Address w → b ≡ labelled g k is_data w → b ≡ operand_held f g k x n o
    unfolding operand_held
    operand-address e d = rw e d

    pub operand-at-address : o ≡ AtAddress w → b ≡ labelled g k is_data w → b ≡ operand_held f g k x n o
    unfolding operand_held
    operand-at-address e d = rw e d

pub ruleset operand-ways = (operand-constant, operand-at-constant, operand-unlisted, operand-local, operand-at-local, operand-address, operand-at-address)

-- ---- the tests of a row

module _ (f : ℕ → Row) (g : ℕ → Label) (k : ℕ) (x : List ℕ) (n j : ℕ) (e : j ≡ (f n).kind) where
  pub address-other : (j ≡ 7 → ⊥) → true ≡ address_held f g k x n
  unfolding address_held if_eq
  address-other h = rw (← e, ne_eqb _ _ h)

  module _ (h : j ≡ 7) (o : Operand) (d : o ≡ (f n).address) (b : Bool) (q : b ≡ address_listed o) where
    pub address-unlisted : b ≡ false → false ≡ address_held f g k x n
    unfolding address_held if_eq
    address-unlisted r = rw (← e, eq-eqb _ _ h, ← d, ← q, r)

    pub address-operand : (v : Bool) → b ≡ true → v ≡ operand_held f g k x n o → v ≡ address_held f g k x n
    unfolding address_held if_eq
    address-operand v r s = rw (← e, eq-eqb _ _ h, ← d, ← q, r) s

pub ruleset address-ways = (address-other, address-unlisted, address-operand)

module _ (f : ℕ → Row) (x : List ℕ) (n j : ℕ) (e : j ≡ (f n).kind) where
  pub set_other : (j ≡ 6 → ⊥) → true ≡ set_held f x n
  unfolding set_held if_eq
  set_other h = rw (← e, ne_eqb _ _ h)

  pub set_local : (w : ℕ) (v : Bool) → j ≡ 6 → w ≡ (f n).a → v ≡ scope_holds f x n w → v ≡ set_held f x n
  unfolding set_held if_eq
  set_local w v h d q = rw (← e, eq-eqb _ _ h, ← d) q

pub ruleset set-ways = (set_other, set_local)

module _ (f : ℕ → Row) (x : List ℕ) (n s a w : ℕ) (e : s ≡ (f n).scope) (d : a ≡ (f n).a) where
  module _ (q : w ≡ next_word f x s) where
    pub let-word : (a ≡ w → ⊥) → false ≡ let_held f x n
    unfolding let_held
    let-word h = rw (← e, ← d, ← q, ne_eqb _ _ h)

    pub let-count : (m : ℕ) → a ≡ w → m ≡ scope_size f x n → ltb m 64 ≡ let_held f x n
    unfolding let_held
    let-count m h r = rw (← r, ← e, ← d, ← q, eq-eqb _ _ h)

  module _ (y : List ℕ) (q : w ≡ next_word f y s) where
    pub block-word : (a ≡ w → ⊥) → false ≡ block_held f x y n
    unfolding block_held
    block-word h = rw (← e, ← d, ← q, ne_eqb _ _ h)

    module _ (h : a ≡ w) (b m : ℕ) (r : b ≡ (f n).b) (u : m ≡ get_or y n 0) where
      pub block-lets : (b ≡ m → ⊥) → false ≡ block_held f x y n
      unfolding block_held
      block-lets o = rw (← e, ← d, ← q, eq-eqb _ _ h, ← r, ← u, ne_eqb _ _ o)

      pub block_size : (v z : ℕ) → b ≡ m → v ≡ (f n).callee → z ≡ scope_size f x n → eqb v z ≡ block_held f x y n
      unfolding block_held
      block_size v z o i l = rw (← l, ← i, ← e, ← d, ← q, eq-eqb _ _ h, ← r, ← u, eq-eqb _ _ o)

pub ruleset let-ways = (let-word, let-count)

pub ruleset block-ways = (block-word, block-lets, block_size)

module _ (f : ℕ → Row) (c n p : ℕ) (e : p ≡ (f n).b) where
  pub size-sum : (m : ℕ) → m ≡ need_of f c 17 n → 3 + p + m ≡ frame_size f c n
  unfolding frame_size
  size-sum m d = rw (← e, ← d)

  pub function-many : 8 < p → false ≡ function_held f c n
  unfolding function_held
  function-many h = rw (← e, lt-leb _ _ h)

  pub function-size : (a w : ℕ) → p ≤ 8 → a ≡ (f n).a → w ≡ frame_size f c n → eqb a w ≡ function_held f c n
  unfolding function_held
  function-size a w h d q = rw (← q, ← e, ← d, le-leb _ _ h)

pub ruleset function-ways = (size-sum, function-many, function-size)

module _ (f : ℕ → Row) (c : ℕ) (x y : List ℕ) (n j : ℕ) (e : j ≡ (f n).kind) where
  pub word-let : (v : Bool) → j ≡ 5 → v ≡ let_held f x n → v ≡ word_held f c x y n
  unfolding word_held if_eq
  word-let v h d = rw (← e, h) d

  pub word-block : (v : Bool) → j ≡ 3 → v ≡ block_held f x y n → v ≡ word_held f c x y n
  unfolding word_held if_eq
  word-block v h d = rw (← e, h) d

  pub word_end_lem : (v : Bool) → j ≡ 4 → v ≡ eqb (f n).a (f (f n).scope).a → v ≡ word_held f c x y n
  unfolding word_held if_eq
  word_end_lem v h d = rw (← e, h) d

  pub word-function : (v : Bool) → j ≡ 1 → v ≡ function_held f c n → v ≡ word_held f c x y n
  unfolding word_held if_eq
  word-function v h d = rw (← e, h) d

  pub word_none : (j ≡ 5 → ⊥) → (j ≡ 3 → ⊥) → (j ≡ 4 → ⊥) → (j ≡ 1 → ⊥) → true ≡ word_held f c x y n
  unfolding word_held if_eq
  word_none a b d q = rw (← e, ne_eqb _ _ a, ne_eqb _ _ b, ne_eqb _ _ d, ne_eqb _ _ q)

pub ruleset word-ways = (word-let, word-block, word_end_lem, word-function, word_none)

whole : (z : Bool) → z ≡ both z true
whole true = refl
whole false = refl

module _ (f : ℕ → Row) (c : ℕ) (g : ℕ → Label) (k : ℕ) (x y : List ℕ) (n : ℕ) (b : Bool) (d : b ≡ word_held f c x y n) where
  pub row_word : b ≡ false → false ≡ row_held f c g k x y n
  unfolding row_held all
  row_word h = rw (← d, h)

  module _ (h : b ≡ true) (v : Bool) (q : v ≡ operands_held f g k x n) where
    pub row_operands : v ≡ false → false ≡ row_held f c g k x y n
    unfolding row_held all
    row_operands r = rw (← d, h, ← q, r)

    module _ (r : v ≡ true) (w : Bool) (o : w ≡ set_held f x n) where
      pub row-set : w ≡ false → false ≡ row_held f c g k x y n
      unfolding row_held all
      row-set s = rw (← d, h, ← q, r, ← o, s)

      pub row-address : (z : Bool) → w ≡ true → z ≡ address_held f g k x n → z ≡ row_held f c g k x y n
      unfolding row_held all
      row-address z s u = rw (← d, h, ← q, r, ← o, s, ← u) (whole z)

pub ruleset row-ways = (row_word, row_operands, row-set, row-address)
