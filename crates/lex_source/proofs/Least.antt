-- The least fault of a reading, as the code finds it.
-- Assumes nothing.
use mathlib.Core.Path.{◌≡◌, refl, sym, ◌∙◌, ap, ap₂, subst}
use mathlib.Core.Bool.{true}
use mathlib.Core.List.{List, [], ◌∷◌}
use Prim.Native.Nat.{ℕ, ◌≤◌, ◌<◌, min}
use native.Mathlib.Nat.{min-eq_left, min-eq_right, min-le_right, le_trans}
use native.Mathlib.Omega.{arith}
use Rattle.base_prelude.specs.Fault.{none, key, least_of}
use Rattle.base_prelude.specs.Choice.{if_lt}
use Rattle.base_prelude.proofs.Choice.{either, either_true, if_true-yes}
use Rattle.base_prelude.proofs.Keys.{key-fault}
use Rattle.lex_lexeme.specs.Reading.{Reading, is_named}
use Rattle.lex_lexeme.specs.declared.Lexeme.{Lexeme}
use Rattle.lex_lexeme.specs.declared.TokenError.TheVariants.{Lone, Broken, Open}
use Rattle.lex_source.specs.Faults.{lone_rule, escape_rule, open_rule, range_rule, length_rule, limit_rule, follow_rule, range_fault, length_fault, limit_fault, follow_fault, faults_of, fault_of}
use Rattle.std.proofs.Common.{Some, None, Ok, Err}

-- no list of faults has a least above none
pub least-none : (ks : List ℕ) → least_of ks ≤ none
unfolding least_of
least-none [] = omega arith
least-none (k ∷ ks) = le_trans (min-le_right k (least_of ks)) (least-none ks)

-- what finds nothing can be left out
skip-none : (ks : List ℕ) → least_of (none ∷ ks) ≡ least_of ks
unfolding least_of
skip-none ks = min-eq_right (least-none ks)

last_one : (k : ℕ) → k ≤ none → least_of (k ∷ []) ≡ k
unfolding least_of
last_one k h = min-eq_left h

cons-least : (k : ℕ) (ks : List ℕ) → least_of (k ∷ ks) ≡ min k (least_of ks)
unfolding least_of
cons-least k ks = refl

key-low : (p n : ℕ) → n < 64 → key p n ≤ none
key-low p n h = omega (arith, key-fault p n h)

limit-low : (n p : ℕ) → limit_fault n p ≤ none
unfolding limit_fault
limit-low n p = either (λ (k : ℕ). k ≤ none) n 4096 _ _ (λ _. omega arith) (λ _. key-low p 14 (omega arith))

follow-low : (s : List ℕ) (x : Lexeme) → follow_fault s x ≤ none
unfolding follow_fault
follow-low s x =
    either (λ (k : ℕ). k ≤ none) x.kind 3 _ _ (λ _. omega arith) (λ _.
    either_true (λ (k : ℕ). k ≤ none) _ _ _ (λ _. omega arith) (λ _. key-low x.next 2 (omega arith)))

module _ (s : List ℕ) (n : ℕ) where
  end_is : none ≡ fault_of s n (Ok None)
  unfolding fault_of faults_of lone_rule escape_rule open_rule range_rule length_rule limit_rule follow_rule least_of
  end_is = refl

  lone_is : (p : ℕ) → key p 2 ≡ fault_of s n (Err (Lone p))
  unfolding fault_of faults_of lone_rule escape_rule open_rule range_rule length_rule limit_rule follow_rule least_of
  lone_is p = sym (min-eq_left (key-low p 2 (omega arith)))

  broken-is : (p : ℕ) → key p 3 ≡ fault_of s n (Err (Broken p))
  unfolding fault_of faults_of lone_rule escape_rule open_rule range_rule length_rule limit_rule follow_rule
  broken-is p =
      sym (skip-none _ ∙ cons-least (key p 3) _ ∙ ap (min (key p 3)) (skip-none _ ∙ skip-none _ ∙ skip-none _ ∙ skip-none _ ∙ last_one none (omega arith)) ∙ min-eq_left (key-low p 3 (omega arith)))

  open_is : (p : ℕ) → min (key p 4) (limit_fault n p) ≡ fault_of s n (Err (Open p))
  unfolding fault_of faults_of lone_rule escape_rule open_rule range_rule length_rule limit_rule follow_rule
  open_is p =
      sym (skip-none _ ∙ skip-none _ ∙ cons-least (key p 4) _ ∙ ap (min (key p 4)) (skip-none _ ∙ skip-none _ ∙ cons-least (limit_fault n p) _ ∙ ap (min (limit_fault n p)) (last_one none (omega arith)) ∙ min-eq_left (limit-low n p)))

  whole_is : (x : Lexeme) → min (range_fault x) (min (length_fault x) (min (limit_fault n x.first) (follow_fault s x))) ≡ fault_of s n (Ok (Some x))
  unfolding fault_of faults_of lone_rule escape_rule open_rule range_rule length_rule limit_rule follow_rule
  whole_is x =
      sym (skip-none _ ∙ skip-none _ ∙ skip-none _ ∙ cons-least (range_fault x) _ ∙ ap (min (range_fault x)) (cons-least (length_fault x) _ ∙ ap (min (length_fault x)) (cons-least (limit_fault n x.first) _ ∙ ap (min (limit_fault n x.first)) (last_one (follow_fault s x) (follow-low s x)))))

  module _ (r : Reading) (k : ℕ) where
    pub fault-lone : (p : ℕ) → r ≡ Err (Lone p) → k ≡ key p 2 → k ≡ fault_of s n r
    fault-lone p e q = q ∙ lone_is p ∙ ap (fault_of s n) (sym e)

    pub fault-broken : (p : ℕ) → r ≡ Err (Broken p) → k ≡ key p 3 → k ≡ fault_of s n r
    fault-broken p e q = q ∙ broken-is p ∙ ap (fault_of s n) (sym e)

    pub fault-open : (p a b : ℕ) → r ≡ Err (Open p) → a ≡ key p 4 → b ≡ limit_fault n p → k ≡ min a b → k ≡ fault_of s n r
    fault-open p a b e f g q = q ∙ ap₂ min f g ∙ open_is p ∙ ap (fault_of s n) (sym e)

    pub fault-whole : (x : Lexeme) → r ≡ Ok (Some x) → k ≡ min (range_fault x) (min (length_fault x) (min (limit_fault n x.first) (follow_fault s x))) → k ≡ fault_of s n r
    fault-whole x e q = q ∙ whole_is x ∙ ap (fault_of s n) (sym e)

  pub fault-end : (r : Reading) → r ≡ Ok None → none ≡ fault_of s n r
  fault-end r e = end_is ∙ ap (fault_of s n) (sym e)

  -- a reading that is no token has a fault
  pub lone-fault : (p : ℕ) → fault_of s n (Err (Lone p)) < none
  lone-fault p = subst (λ (k : ℕ). k < none) (lone_is p) (key-fault p 2 (omega arith))

  pub broken-fault : (p : ℕ) → fault_of s n (Err (Broken p)) < none
  broken-fault p = subst (λ (k : ℕ). k < none) (broken-is p) (key-fault p 3 (omega arith))

  pub open-fault : (p : ℕ) → fault_of s n (Err (Open p)) < none
  open-fault p = subst (λ (k : ℕ). k < none) (open_is p) (omega (arith, key-fault p 4 (omega arith)))

  -- a token without a fault: in range, not too long, among the first 4,096, well followed
  pub whole-clean : (x : Lexeme) → none ≤ fault_of s n (Ok (Some x))
      → (none ≤ range_fault x) × (none ≤ length_fault x) × (none ≤ limit_fault n x.first) × (none ≤ follow_fault s x)
  whole-clean x h =
      let e : min (range_fault x) (min (length_fault x) (min (limit_fault n x.first) (follow_fault s x))) ≡ fault_of s n (Ok (Some x)) = whole_is x in
      (omega arith, omega arith, omega arith, omega arith)

pub ruleset faults = (fault-end, fault-lone, fault-broken, fault-open, fault-whole)

-- what the absence of each fault says
pub clean-limit : (n p : ℕ) → none ≤ limit_fault n p → n < 4096
unfolding limit_fault
clean-limit n p =
    either (λ (k : ℕ). none ≤ k → n < 4096) n 4096 _ _ (λ h _. h) (λ _ g. let z : ⊥ = omega (arith, key-fault p 14 (omega arith)) in absurd z)

pub clean-length : (x : Lexeme) → is_named x.kind ≡ true → none ≤ length_fault x → x.size ≤ 64
unfolding length_fault
clean-length x e h = long (subst (λ (k : ℕ). none ≤ k) (if_true-yes _ _ e) h)
  where
    long : none ≤ if_lt 64 x.size (key x.first 6) none → x.size ≤ 64
    long =
        either (λ (k : ℕ). none ≤ k → x.size ≤ 64) 64 x.size _ _ (λ _ g. let z : ⊥ = omega (arith, key-fault x.first 6 (omega arith)) in absurd z) (λ l _. l)
