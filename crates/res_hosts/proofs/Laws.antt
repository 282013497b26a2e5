-- What later stages use: the marks change word 7 of a row alone, an import's name holds the mark of its entry, and a mark tells the entry.
-- Assumes nothing.
use mathlib.Core.Path.{◌≡◌, refl, sym, ◌∙◌, ap, subst}
use mathlib.Core.Bool.{Bool, true, false}
use mathlib.Core.List.{List}
use mathlib.Core.Logic.{◌⊎◌, inl, inr}
use Prim.Native.Nat.{ℕ, zero, suc, ◌+◌, ◌*◌, ◌≤◌, ◌<◌}
use native.Mathlib.Nat.{not-suc-le-zero}
use native.Mathlib.Decide.{ℕ_discrete}
use native.Mathlib.Omega.{arith}
use lib.ListN.{length, get_or}
use lib.Seq.{get_or-set_same, get_or-set_other}
use Rattle.base_prelude.proofs.Choice.{either_true, if_lt-yes, if_lt-no, either, if_true-yes, if_true-no}
use Rattle.parse_lines.specs.Tokens.{token_word, host_at, place_at}
use Rattle.prog_tables.specs.Hosts.{Hosts, entries_of, host_arguments, host_of, mark_of, mark_number, mark_arguments, host_mark}
use Rattle.res_hosts.specs.Marks.{is_import, mark_at, name_marked, hosted_tokens}
use Rattle.res_hosts.proofs.First.{found-named, named-few}
use Rattle.res_hosts.proofs.Cases.{length_marked, import-within}

-- ---- the table

module _ (h : Hosts) (s : List ℕ) where
  one-stays : (i : ℕ) (t : List ℕ) (j f : ℕ) → f < 7 → token_word (name_marked h s i t) j f ≡ token_word t j f
  unfolding name_marked token_word
  one-stays i t j f g =
      either_true (λ (x : List ℕ). get_or x (j * 8 + f) 0 ≡ get_or t (j * 8 + f) 0) (is_import t i) _ _
      (λ _. get_or-set_other t ((i + 1) * 8 + 7) (j * 8 + f) _ 0 (λ e. omega (arith, e)))
      (λ _. refl)

  -- words 0 to 6 of every row stay
  pub word-stays : (n : ℕ) (t : List ℕ) (j f : ℕ) → f < 7 → token_word (hosted_tokens h s n t) j f ≡ token_word t j f
  unfolding hosted_tokens
  word-stays zero t j f g = refl
  word-stays (suc n) t j f g = one-stays n (hosted_tokens h s n t) j f g ∙ word-stays n t j f g

  pub hosted-long : (n : ℕ) (t : List ℕ) → length (hosted_tokens h s n t) ≡ length t
  unfolding hosted_tokens
  hosted-long zero t = refl
  hosted-long (suc n) t = length_marked h s n (hosted_tokens h s n t) ∙ hosted-long n t

  pub place-stays : (n : ℕ) (t : List ℕ) (m j : ℕ) → place_at (hosted_tokens h s n t) m j ≡ place_at t m j
  unfolding place_at
  place-stays n t m j = rw (word-stays n t j 0 (omega arith), word-stays n t j 1 (omega arith))

  pub import-stays : (n : ℕ) (t : List ℕ) (i : ℕ) → is_import (hosted_tokens h s n t) i ≡ is_import t i
  unfolding is_import
  import-stays n t i =
      rw (word-stays n t i 0 (omega arith), word-stays n t i 5 (omega arith), word-stays n t (i + 1) 0 (omega arith))

  mark-stays : (n : ℕ) (t : List ℕ) (i : ℕ) → mark_at h s (hosted_tokens h s n t) i ≡ mark_at h s t i
  unfolding mark_at
  mark-stays n t i = rw (word-stays n t i 1 (omega arith))

  -- ---- word 7

  module _ (t : List ℕ) (long : length t ≡ 32768) where
    behind-room : (n i : ℕ) → is_import t i ≡ true → (i + 1) * 8 + 7 < length (hosted_tokens h s n t)
    behind-room n i e = omega (arith, import-within t i e long, hosted-long n t, long)

    one-here : (i : ℕ) → is_import t i ≡ true → host_at (name_marked h s i (hosted_tokens h s i t)) (i + 1) ≡ mark_at h s t (i + 1)
    unfolding name_marked token_word
    one-here i e =
        ap (λ (x : List ℕ). get_or x ((i + 1) * 8 + 7) 0) (if_true-yes _ _ (import-stays i t i ∙ e))
        ∙ get_or-set_same (hosted_tokens h s i t) ((i + 1) * 8 + 7) _ 0 (behind-room i i e) ∙ mark-stays i t (i + 1)

    one-other : (i j : ℕ) (x : List ℕ) → (j ≡ i + 1 → ⊥) → host_at (name_marked h s i x) j ≡ host_at x j
    unfolding name_marked token_word
    one-other i j x g =
        either_true (λ (y : List ℕ). get_or y (j * 8 + 7) 0 ≡ get_or x (j * 8 + 7) 0) (is_import x i) _ _
        (λ _. get_or-set_other x ((i + 1) * 8 + 7) (j * 8 + 7) _ 0 (λ e. g (omega (arith, e))))
        (λ _. refl)

    one_none : (i : ℕ) → is_import t i ≡ false → name_marked h s i (hosted_tokens h s i t) ≡ hosted_tokens h s i t
    unfolding name_marked
    one_none i e = if_true-no _ _ (import-stays i t i ∙ e)

    -- the name behind an import has its mark
    pub import-marked : (n i : ℕ) → i < n → is_import t i ≡ true → host_at (hosted_tokens h s n t) (i + 1) ≡ mark_at h s t (i + 1)
    unfolding hosted_tokens
    import-marked zero i g e = absurd (not-suc-le-zero g)
    import-marked (suc n) i g e =
        elim (ℕ_discrete i n) [
          | yes q ↦ subst (λ (j : ℕ). host_at (name_marked h s n (hosted_tokens h s n t)) (j + 1) ≡ mark_at h s t (j + 1)) (sym q)
              (one-here n (subst (λ (j : ℕ). is_import t j ≡ true) q e))
          | no q ↦ one-other n (i + 1) (hosted_tokens h s n t) (λ d. q (omega (arith, d))) ∙ import-marked n i (omega arith) e
        ]

    -- each word 7 is as it was, or the mark of the token's name
    pub host-is : (n i : ℕ) → (host_at (hosted_tokens h s n t) i ≡ host_at t i) ⊎ (host_at (hosted_tokens h s n t) i ≡ mark_at h s t i)
    unfolding hosted_tokens
    host-is zero i = inl refl
    host-is (suc n) i =
        elim (ℕ_discrete i (n + 1)) [
          | yes q ↦ here (is_import t n) refl q (host-is n i)
          | no q ↦ other q (host-is n i)
        ]
      where
        Holds : ℕ → Type 0
        Holds v = (v ≡ host_at t i) ⊎ (v ≡ mark_at h s t i)

        other : (i ≡ n + 1 → ⊥) → Holds (host_at (hosted_tokens h s n t) i) → Holds (host_at (name_marked h s n (hosted_tokens h s n t)) i)
        other q d = subst Holds (sym (one-other n i (hosted_tokens h s n t) q)) d

        here : (b : Bool) → is_import t n ≡ b → i ≡ n + 1 → Holds (host_at (hosted_tokens h s n t) i) → Holds (host_at (name_marked h s n (hosted_tokens h s n t)) i)
        here true e q d = inr (ap (host_at (name_marked h s n (hosted_tokens h s n t))) q ∙ one-here n e ∙ ap (mark_at h s t) (sym q))
        here false e q d = subst (λ (x : List ℕ). Holds (host_at x i)) (sym (one_none n e)) d

-- ---- a mark

module _ (h : Hosts) (name : List ℕ) where
  module _ (g : host_of h name < entries_of h) where
    few : host_arguments h (host_of h name) ≤ 8
    few = named-few h (host_of h name) name (found-named h name g)

    listed-is : host_mark h name ≡ mark_of (host_of h name) (host_arguments h (host_of h name))
    unfolding host_mark
    listed-is = if_lt-yes _ _ g

    -- the mark of a listed name is above 0, and tells its number and its argument count
    pub listed-marked : 1 ≤ host_mark h name
    listed-marked = omega (arith, listed-is)

    pub listed-number : mark_number (host_mark h name) ≡ host_of h name
    listed-number = omega (arith, listed-is, few)

    pub listed-arguments : mark_arguments (host_mark h name) ≡ host_arguments h (host_of h name)
    listed-arguments = omega (arith, listed-is, few)

    pub listed-few : mark_arguments (host_mark h name) ≤ 8
    listed-few = omega (arith, listed-arguments, few)

  -- a name that is not listed has 0
  pub unlisted-mark : entries_of h ≤ host_of h name → host_mark h name ≡ 0
  unfolding host_mark
  unlisted-mark g = if_lt-no _ _ g

  pub marked-listed : 1 ≤ host_mark h name → host_of h name < entries_of h
  unfolding host_mark
  marked-listed =
      either (λ (v : ℕ). 1 ≤ v → host_of h name < entries_of h) (host_of h name) (entries_of h) _ _ (λ g _. g)
      (λ g e. let z : ⊥ = omega (arith, e) in absurd z)
