-- Laws of `walk`, in the form of a loop's invariant: `Runs f d r a m` says that the walk from the state a gives r, with at least m
-- steps left. A loop of measure μ keeps `Runs f d r a (suc μ)`, r being the answer of the whole.
-- Assumes nothing.
use mathlib.Core.Path.{◌≡◌, refl, sym, ◌∙◌, ap}
use Prim.Native.Nat.{ℕ, zero, suc, ◌≤◌, ◌<◌}
use native.Mathlib.Omega.{arith}
use native.Mathlib.Nat.{le_trans, le_of_suc-le-suc, not-suc-le-zero}
use Rattle.base_prelude.specs.Walk.{Step, go, stop, after, walk}

module _ {A R : Type 0} where
  pub walk-go : (f : A → Step A R) (d : R) (k : ℕ) (a b : A) → f a ≡ go b → walk f d (suc k) a ≡ walk f d k b
  unfolding walk
  walk-go f d k a b e = ap (λ (s : Step A R). after s (λ b. walk f d k b)) e

  pub walk-stop : (f : A → Step A R) (d : R) (k : ℕ) (a : A) (r : R) → f a ≡ stop r → walk f d (suc k) a ≡ r
  unfolding walk
  walk-stop f d k a r e = ap (λ (s : Step A R). after s (λ b. walk f d k b)) e

  pub record Runs (f : A → Step A R) (d r : R) (a : A) (m : ℕ) : Type 0 where
    pub count : ℕ
    pub enough : m ≤ count
    pub gives : walk f d count a ≡ r

  pub runs-start : (f : A → Step A R) (d : R) (k : ℕ) (a : A) (m : ℕ) → m ≤ k → Runs f d (walk f d k a) a m
  runs-start f d k a m h = record { count = k; enough = h; gives = refl }

  pub runs-go : (f : A → Step A R) (d r : R) (a b : A) (m n : ℕ) → Runs f d r a (suc m) → f a ≡ go b → n ≤ m → Runs f d r b n
  runs-go f d r a b m n h e l = more h.count h.enough h.gives
    where
      more : (k : ℕ) → suc m ≤ k → walk f d k a ≡ r → Runs f d r b n
      more zero g q = absurd (not-suc-le-zero g)
      more (suc k) g q =
          record { count = k; enough = le_trans l (le_of_suc-le-suc g); gives = sym (walk-go f d k a b e) ∙ q }

  pub runs-stop : (f : A → Step A R) (d r : R) (a : A) (m : ℕ) (x : R) → Runs f d r a (suc m) → f a ≡ stop x → x ≡ r
  runs-stop f d r a m x h e = last h.count h.enough h.gives
    where
      last : (k : ℕ) → suc m ≤ k → walk f d k a ≡ r → x ≡ r
      last zero g q = absurd (not-suc-le-zero g)
      last (suc k) g q = sym (walk-stop f d k a x e) ∙ q

  -- what each step keeps the answer has
  abbrev pub Kept : (A → Type 0) → (R → Type 0) → Step A R → Type 0
  Kept P Q (go b) = P b
  Kept P Q (stop r) = Q r

  after_kept : (P : A → Type 0) (Q : R → Type 0) (x : Step A R) (g : A → R) → Kept P Q x → ((b : A) → P b → Q (g b)) → Q (after x g)
  after_kept P Q (go b) g h k = k b h
  after_kept P Q (stop r) g h k = h

  pub walk_kept : (P : A → Type 0) (Q : R → Type 0) (f : A → Step A R) (d : R) → Q d → ((a : A) → P a → Kept P Q (f a)) → (k : ℕ) (a : A) → P a → Q (walk f d k a)
  unfolding walk
  walk_kept P Q f d z h zero a p = z
  walk_kept P Q f d z h (suc k) a p = after_kept P Q (f a) (λ b. walk f d k b) (h a p) (λ b q. walk_kept P Q f d z h k b q)

  -- where a number falls with each step and the count is above it, the answer is that of a step that stops
  abbrev pub Ends : (A → Type 0) → (R → Type 0) → (A → ℕ) → A → Step A R → Type 0
  Ends P Q m a (go b) = P b × (m b < m a)
  Ends P Q m a (stop r) = Q r

  after-ends : (P : A → Type 0) (Q : R → Type 0) (m : A → ℕ) (a : A) (x : Step A R) (g : A → R) → Ends P Q m a x
      → ((b : A) → P b → m b < m a → Q (g b)) → Q (after x g)
  after-ends P Q m a (go b) g h k = k b h.0 h.1
  after-ends P Q m a (stop r) g h k = h

  pub walk_ends : (P : A → Type 0) (Q : R → Type 0) (m : A → ℕ) (f : A → Step A R) (d : R) → ((a : A) → P a → Ends P Q m a (f a))
      → (k : ℕ) (a : A) → m a < k → P a → Q (walk f d k a)
  unfolding walk
  walk_ends P Q m f d h zero a l p = absurd (not-suc-le-zero l)
  walk_ends P Q m f d h (suc k) a l p =
      after-ends P Q m a (f a) (λ b. walk f d k b) (h a p) (λ b q g. walk_ends P Q m f d h k b (omega arith) q)
