-- The ways through the functions on broken rows.
-- Assumes nothing.
use mathlib.Core.Path.{◌≡◌, refl, sym, ◌∙◌, ap}
use mathlib.Core.Bool.{Bool, true, false}
use mathlib.Core.List.{List, [], ◌∷◌}
use Prim.Native.Nat.{ℕ, zero, suc, ◌+◌, ◌*◌, ◌<◌, ◌≤◌, min}
use native.Mathlib.Nat.{not-suc-le-zero, le_of_suc-le-suc, zero-lt-suc}
use native.Mathlib.Omega.{arith}
use lib.ListN.{length, get_or, take}
use borrow.Author.Tests.{eq-eqb, ne_eqb, lt-ltb, le-ltb, le-leb, lt-leb}
use lib.Dec.{eqb, ltb, leb}
use Rattle.base_prelude.specs.Choice.{if_true, if_eq}
use Rattle.prog_tables.specs.Tests.{one_of, some_of, some_below}
use Rattle.prog_tables.specs.Statement.{Row, has_expression, is_test, is_operator, is_call_row, is_call, is_import, is_call_expression, used_by, operand_at, slots, row_from, row_at}
use Rattle.prog_tables.specs.Nesting.{is_listed, has_target}
use Rattle.prog_tables.specs.Program.{Program, lent_program}
use Rattle.prog_tables.specs.Faults.{expression_listed, expression_fault, in_function, size_at, operand_fault, address_listed, kind_fault, target_fault, function_fault, import_fault, callee_fault, size_fault, own_word, has_word, word_fault, operands_fault, address_fault}
use Rattle.prog_tables.specs.declared.Operand.{Operand}
use Rattle.prog_tables.specs.declared.Operand.TheVariants.{Unlisted}
use Rattle.prog_tables.proofs.Each.{one-true}
use Rattle.prog_tables.proofs.Scans.{passes-below, none-below}
use Rattle.prog_tables.proofs.CallRows.{call-bare}

module _ (k : ℕ) (b : Bool) (d : b ≡ is_test k) where
  pub has-test : b ≡ true → true ≡ has_target k
  unfolding has_target if_true
  has-test h = rw (← d, h)

  pub has-else : b ≡ false → k ≡ 20 → true ≡ has_target k
  unfolding has_target if_true if_eq
  has-else h p = rw (← d, h, eq-eqb _ _ p)

  pub has-jump : b ≡ false → (k ≡ 20 → ⊥) → eqb k 21 ≡ has_target k
  unfolding has_target if_true if_eq
  has-jump h p = rw (← d, h, ne_eqb _ _ p)

pub has-call : (k e : ℕ) (b : Bool) → (e ≡ 0 → ⊥) → (e ≡ 1 → ⊥) → b ≡ is_call_expression e → b ≡ true → true ≡ expression_listed k e
unfolding expression_listed if_eq if_true
has-call k e b p q r h = rw (ne_eqb _ _ p, ne_eqb _ _ q, ← r, h)

pub has-operator : (k e : ℕ) (b v : Bool) → (e ≡ 0 → ⊥) → (e ≡ 1 → ⊥) → v ≡ is_call_expression e → v ≡ false → b ≡ is_operator e → b ≡ expression_listed k e
unfolding expression_listed if_eq if_true
has-operator k e b v p q r h d = rw (ne_eqb _ _ p, ne_eqb _ _ q, ← r, h) d

pub ruleset has = (has-test, has-else, has-jump, has-call, has-operator)

-- ---- the function of a row

module _ (f : ℕ → Row) (c n g : ℕ) (e : g ≡ (f n).func) where
  pub within-kind : (k : ℕ) → g < c → k ≡ (f g).kind → eqb k 1 ≡ in_function f c n
  unfolding in_function
  within-kind k h d = rw (← e, lt-ltb _ _ h, ← d)

  pub within-not : c ≤ g → false ≡ in_function f c n
  unfolding in_function
  within-not h = rw (← e, le-ltb _ _ h)

module _ (f : ℕ → Row) (c n : ℕ) (b : Bool) (d : b ≡ in_function f c n) where
  pub size_in : (g a : ℕ) → b ≡ true → g ≡ (f n).func → a ≡ (f g).a → a ≡ size_at f c n
  unfolding size_at if_true
  size_in g a h e q = rw (← d, h, ← e) q

  pub size-out : b ≡ false → 0 ≡ size_at f c n
  unfolding size_at if_true
  size-out h = rw (← d, h)

pub ruleset sizes = (within-kind, within-not, size_in, size-out)

-- ---- causes

module _ (k e : ℕ) (b : Bool) (d : b ≡ is_call_row k) where
  pub call-good : (v : Bool) → b ≡ true → v ≡ is_call_expression e → v ≡ true → false ≡ expression_fault k e
  call-good v h q r = rw (← d, h, call-bare k (sym d ∙ h), ← q, r)

  pub call-bad : (v : Bool) → b ≡ true → v ≡ is_call_expression e → v ≡ false → true ≡ expression_fault k e
  call-bad v h q r = rw (← d, h, ← q, r)

  module _ (h : b ≡ false) (v : Bool) (r : v ≡ has_expression k) where
    pub no-expression : v ≡ false → false ≡ expression_fault k e
    no-expression q = rw (← d, h, ← r, q)

    pub expression-good : (w : Bool) → v ≡ true → w ≡ expression_listed k e → w ≡ true → false ≡ expression_fault k e
    expression-good w q s l = rw (← d, h, ← r, q, ← s, l)

    pub expression-bad : (w : Bool) → v ≡ true → w ≡ expression_listed k e → w ≡ false → true ≡ expression_fault k e
    expression-bad w q s l = rw (← d, h, ← r, q, ← s, l)

pub ruleset expression-ways = (call-good, call-bad, no-expression, expression-good, expression-bad)

module _ (prog : Program) (n k : ℕ) (b : Bool) (e : k ≡ (prog.rows n).kind) (d : b ≡ is_listed k) where
  pub kind-unlisted : b ≡ false → true ≡ kind_fault prog n
  unfolding kind_fault if_true
  kind-unlisted h = rw (← e, ← d, h)

  pub kind-listed : (x : ℕ) (v : Bool) → b ≡ true → x ≡ (prog.rows n).expr → v ≡ expression_fault k x → v ≡ kind_fault prog n
  unfolding kind_fault if_true
  kind-listed x v h g s = rw (← e, ← d, h, ← g) s

pub ruleset kind-ways = (kind-unlisted, kind-listed)

module _ (k : ℕ) (b : Bool) (d : b ≡ has_target k) where
  pub jump-yes : b ≡ true → true ≡ one_of (has_target k) (eqb k 10)
  jump-yes h = rw (← d, h)

  pub jump-goto : b ≡ false → eqb k 10 ≡ one_of (has_target k) (eqb k 10)
  jump-goto h = rw (← d, h)

pub ruleset jump-ways = (jump-yes, jump-goto)

module _ (prog : Program) (n k : ℕ) (b : Bool) (e : k ≡ (prog.rows n).kind) (d : b ≡ one_of (has_target k) (eqb k 10)) where
  pub target_none : b ≡ false → false ≡ target_fault prog n
  unfolding target_fault
  target_none h = rw (← e, ← d, h)

  module _ (h : b ≡ true) (v : Bool) (r : v ≡ in_function prog.rows prog.count n) where
    pub target-outside : v ≡ false → true ≡ target_fault prog n
    unfolding target_fault
    target-outside q = rw (← e, ← d, h, ← r, q)

    module _ (a : ℕ) (q : v ≡ true) (g : a ≡ (prog.rows n).a) where
      pub target-far : prog.count ≤ a → true ≡ target_fault prog n
      unfolding target_fault
      target-far l = rw (← e, ← d, h, ← r, q, ← g, le-ltb _ _ l)

      pub target-same : (x y : ℕ) → a < prog.count → x ≡ (prog.rows a).func → y ≡ (prog.rows n).func → x ≡ y → false ≡ target_fault prog n
      unfolding target_fault
      target-same x y l s u m = rw (← e, ← d, h, ← r, q, ← g, lt-ltb _ _ l, ← s, ← u, eq-eqb _ _ m)

      pub target-other : (x y : ℕ) → a < prog.count → x ≡ (prog.rows a).func → y ≡ (prog.rows n).func → (x ≡ y → ⊥) → true ≡ target_fault prog n
      unfolding target_fault
      target-other x y l s u m = rw (← e, ← d, h, ← r, q, ← g, lt-ltb _ _ l, ← s, ← u, ne_eqb _ _ m)

pub ruleset target-ways = (target_none, target-outside, target-far, target-same, target-other)

module _ (prog : Program) (n k x : ℕ) (b : Bool) (e : k ≡ (prog.rows n).kind) (w : x ≡ (prog.rows n).expr) (d : b ≡ is_call k x) where
  pub function-none : b ≡ false → false ≡ function_fault prog n
  unfolding function_fault
  function-none h = rw (← e, ← w, ← d, h)

  module _ (g : ℕ) (h : b ≡ true) (r : g ≡ (prog.rows n).callee) where
    pub function-far : prog.count ≤ g → true ≡ function_fault prog n
    unfolding function_fault
    function-far l = rw (← e, ← w, ← d, h, ← r, le-ltb _ _ l)

    module _ (j : ℕ) (l : g < prog.count) (s : j ≡ (prog.rows g).kind) where
      pub function-kind : (j ≡ 1 → ⊥) → true ≡ function_fault prog n
      unfolding function_fault
      function-kind q = rw (← e, ← w, ← d, h, ← r, lt-ltb _ _ l, ← s, ne_eqb _ _ q)

      module _ (p m : ℕ) (q : j ≡ 1) (u : p ≡ (prog.rows g).b) (v : m ≡ (prog.rows n).count) where
        pub function-count : (p ≡ m → ⊥) → true ≡ function_fault prog n
        unfolding function_fault
        function-count o = rw (← e, ← w, ← d, h, ← r, lt-ltb _ _ l, ← s, eq-eqb _ _ q, ← u, ← v, ne_eqb _ _ o)

        pub function-good : p ≡ m → m ≤ 8 → false ≡ function_fault prog n
        unfolding function_fault
        function-good o i = rw (← e, ← w, ← d, h, ← r, lt-ltb _ _ l, ← s, eq-eqb _ _ q, ← u, ← v, eq-eqb _ _ o, le-leb _ _ i)

        pub function-many : p ≡ m → 8 < m → true ≡ function_fault prog n
        unfolding function_fault
        function-many o i = rw (← e, ← w, ← d, h, ← r, lt-ltb _ _ l, ← s, eq-eqb _ _ q, ← u, ← v, eq-eqb _ _ o, lt-leb _ _ i)

pub ruleset function-ways = (function-none, function-far, function-kind, function-count, function-good, function-many)

module _ (prog : Program) (n k x : ℕ) (b : Bool) (e : k ≡ (prog.rows n).kind) (w : x ≡ (prog.rows n).expr) (d : b ≡ is_import k x) where
  pub import-none : b ≡ false → false ≡ import_fault prog n
  unfolding import_fault
  import-none h = rw (← e, ← w, ← d, h)

  module _ (g : ℕ) (h : b ≡ true) (r : g ≡ (prog.rows n).callee) where
    pub import-far : prog.label_count ≤ g → true ≡ import_fault prog n
    unfolding import_fault
    import-far l = rw (← e, ← w, ← d, h, ← r, le-ltb _ _ l)

    module _ (j : ℕ) (l : g < prog.label_count) (s : j ≡ (prog.labels g).kind) where
      pub import-kind : (j ≡ 6 → ⊥) → true ≡ import_fault prog n
      unfolding import_fault
      import-kind q = rw (← e, ← w, ← d, h, ← r, lt-ltb _ _ l, ← s, ne_eqb _ _ q)

      module _ (p m : ℕ) (q : j ≡ 6) (u : p ≡ (prog.labels g).arguments) (v : m ≡ (prog.rows n).count) where
        pub import-count : (p ≡ m → ⊥) → true ≡ import_fault prog n
        unfolding import_fault
        import-count o = rw (← e, ← w, ← d, h, ← r, lt-ltb _ _ l, ← s, eq-eqb _ _ q, ← u, ← v, ne_eqb _ _ o)

        pub import-good : p ≡ m → m ≤ 8 → false ≡ import_fault prog n
        unfolding import_fault
        import-good o i = rw (← e, ← w, ← d, h, ← r, lt-ltb _ _ l, ← s, eq-eqb _ _ q, ← u, ← v, eq-eqb _ _ o, le-leb _ _ i)

        pub import-many : p ≡ m → 8 < m → true ≡ import_fault prog n
        unfolding import_fault
        import-many o i = rw (← e, ← w, ← d, h, ← r, lt-ltb _ _ l, ← s, eq-eqb _ _ q, ← u, ← v, eq-eqb _ _ o, lt-leb _ _ i)

pub ruleset import-ways = (import-none, import-far, import-kind, import-count, import-good, import-many)

module _ (prog : Program) (n : ℕ) (b : Bool) (d : b ≡ function_fault prog n) where
  pub callee-function : b ≡ true → true ≡ callee_fault prog n
  unfolding callee_fault
  callee-function h = rw (← d, h)

  pub callee-import : (v : Bool) → b ≡ false → v ≡ import_fault prog n → v ≡ callee_fault prog n
  unfolding callee_fault
  callee-import v h q = rw (← d, h) q

pub ruleset callee-ways = (callee-function, callee-import)

module _ (r : Row) (k a : ℕ) (e : k ≡ r.kind) (q : a ≡ r.a) where
  pub word-block : (b : ℕ) → k ≡ 3 → b ≡ r.b → a + b ≡ own_word r
  unfolding own_word if_eq
  word-block b h d = rw (← e, eq-eqb _ _ h, ← q, ← d)

  pub word-other : (k ≡ 3 → ⊥) → a ≡ own_word r
  unfolding own_word if_eq
  word-other h = rw (← e, ne_eqb _ _ h) q

module _ (prog : Program) (n k : ℕ) (e : k ≡ (prog.rows n).kind) where
  pub size-function : (a p : ℕ) → k ≡ 1 → a ≡ (prog.rows n).a → p ≡ (prog.rows n).b → ltb a (3 + p) ≡ size_fault prog n
  unfolding size_fault
  size-function a p h q r = rw (← e, eq-eqb _ _ h, ← q, ← r)

  pub size-other : (k ≡ 1 → ⊥) → false ≡ size_fault prog n
  unfolding size_fault
  size-other h = rw (← e, ne_eqb _ _ h)

  module _ (b : Bool) (d : b ≡ has_word k) where
    pub word-past : (s w : ℕ) → b ≡ true → s ≡ size_at prog.rows prog.count n → w ≡ own_word (prog.rows n) → leb s w ≡ word_fault prog n
    unfolding word_fault
    word-past s w h q r = rw (← r, ← e, ← d, h, ← q)

    pub word_none : b ≡ false → false ≡ word_fault prog n
    unfolding word_fault
    word_none h = rw (← e, ← d, h)

  pub address-operand : (o : Operand) (v x : Bool) (s : ℕ) → k ≡ 7 → o ≡ (prog.rows n).address → v ≡ address_listed o → v ≡ true → s ≡ size_at prog.rows prog.count n
      → x ≡ operand_fault s prog.data_length o → x ≡ address_fault prog n
  unfolding address_fault
  address-operand o v x s h q r l m w = rw (← e, eq-eqb _ _ h, ← q, ← r, l, ← m) w

  pub address-unlisted : (o : Operand) (v : Bool) → k ≡ 7 → o ≡ (prog.rows n).address → v ≡ address_listed o → v ≡ false → true ≡ address_fault prog n
  unfolding address_fault
  address-unlisted o v h q r l = rw (← e, eq-eqb _ _ h, ← q, ← r, l)

  pub address-other : (k ≡ 7 → ⊥) → false ≡ address_fault prog n
  unfolding address_fault
  address-other h = rw (← e, ne_eqb _ _ h)

pub ruleset word-ways = (size-function, size-other, word-block, word-other, word-past, word_none)

pub ruleset address-ways = (address-operand, address-unlisted, address-other)

-- ---- the operands of a row, by a loop over its slots

pub slot_at : (t : List ℕ) (at i : ℕ) → i < 8 → get_or (slots t at) i Unlisted ≡ operand_at t (at + 11 + i * 2)
unfolding slots
slot_at t at zero h = let e : at + 11 ≡ at + 11 + 0 = omega arith in ap (operand_at t) e
slot_at t at (suc zero) h = let e : at + 13 ≡ at + 11 + 2 = omega arith in ap (operand_at t) e
slot_at t at (suc (suc zero)) h = let e : at + 15 ≡ at + 11 + 4 = omega arith in ap (operand_at t) e
slot_at t at (suc (suc (suc zero))) h = let e : at + 17 ≡ at + 11 + 6 = omega arith in ap (operand_at t) e
slot_at t at (suc (suc (suc (suc zero)))) h = let e : at + 19 ≡ at + 11 + 8 = omega arith in ap (operand_at t) e
slot_at t at (suc (suc (suc (suc (suc zero))))) h = let e : at + 21 ≡ at + 11 + 10 = omega arith in ap (operand_at t) e
slot_at t at (suc (suc (suc (suc (suc (suc zero)))))) h = let e : at + 23 ≡ at + 11 + 12 = omega arith in ap (operand_at t) e
slot_at t at (suc (suc (suc (suc (suc (suc (suc zero))))))) h = let e : at + 25 ≡ at + 11 + 14 = omega arith in ap (operand_at t) e
slot_at t at (suc (suc (suc (suc (suc (suc (suc (suc i)))))))) h = absurd (omega arith)

pub slots-long : (t : List ℕ) (at : ℕ) → length (slots t at) ≡ 8
unfolding slots
slots-long t at = refl

-- some of the first m elements
some_of_lem : (p : Operand → Bool) (xs : List Operand) (m i : ℕ) → i < m → i < length xs → p (get_or xs i Unlisted) ≡ true → some_of p (take m xs) ≡ true
unfolding some_of
some_of_lem p [] m i h l e = absurd (not-suc-le-zero l)
some_of_lem p (x ∷ xs) zero i h l e = absurd (not-suc-le-zero h)
some_of_lem p (x ∷ xs) (suc m) zero h l e = ap (λ (b : Bool). one_of b (some_of p (take m xs))) e
some_of_lem p (x ∷ xs) (suc m) (suc i) h l e =
    ap (λ (b : Bool). one_of (p x) b) (some_of_lem p xs m i (le_of_suc-le-suc h) (le_of_suc-le-suc l) e) ∙ one-true (p x)

-- none of the first m elements
none_of : (p : Operand → Bool) (xs : List Operand) (m : ℕ) → ((i : ℕ) → i < m → i < length xs → p (get_or xs i Unlisted) ≡ false) → some_of p (take m xs) ≡ false
unfolding some_of
none_of p [] zero h = refl
none_of p [] (suc m) h = refl
none_of p (x ∷ xs) zero h = refl
none_of p (x ∷ xs) (suc m) h =
    ap (λ (b : Bool). one_of b (some_of p (take m xs))) (h 0 (zero-lt-suc _) (zero-lt-suc _))
    ∙ none_of p xs m (λ i g l. h (suc i) (omega arith) (omega arith))

abbrev operand_at_row : List ℕ → ℕ → ℕ → Operand
operand_at_row t n i = operand_at t (n * 27 + 11 + i * 2)

abbrev used_at : List ℕ → ℕ → ℕ
used_at t n = used_by (row_at t n).kind (row_at t n).expr (row_at t n).count

module _ (t : List ℕ) (c : ℕ) (l : List ℕ) (lc s d n m : ℕ) (e : m ≡ min (used_at t n) 8) (r : s ≡ size_at (row_at t) c n) where
  pub slots-broken : (b : Bool) → b ≡ some_below (λ i. operand_fault s d (operand_at_row t n i)) m → b ≡ operands_fault (lent_program t c l lc d) n
  unfolding operands_fault row_at row_from
  slots-broken true q =
      let w = passes-below (λ i. operand_fault s d (operand_at_row t n i)) m (sym q) in
      rw (← r)
      (sym
      (some_of_lem (operand_fault s d) (slots t (n * 27)) (used_at t n) w.0 (omega (arith, e, w.1)) (omega (arith, e, w.1, slots-long t (n * 27)))
      (ap (operand_fault s d) (slot_at t (n * 27) w.0 (omega (arith, e, w.1))) ∙ w.2)))
  slots-broken false q =
      rw (← r)
      (sym
      (none_of (operand_fault s d) (slots t (n * 27)) (used_at t n)
      (λ j g k. ap (operand_fault s d) (slot_at t (n * 27) j (omega (arith, k, slots-long t (n * 27)))) ∙ none-below (λ i. operand_fault s d (operand_at_row t n i)) m j (sym q) (omega (arith, e, g, k, slots-long t (n * 27))))))
