-- One law for each way through a function of this crate.
-- Assumes nothing.
use mathlib.Core.Path.{◌≡◌, sym, ◌∙◌, ap}
use mathlib.Core.Bool.{Bool, true, false}
use mathlib.Core.List.{List}
use Prim.Native.Nat.{ℕ, ◌*◌, ◌<◌, ◌≤◌}
use native.Mathlib.Decide.{dec_lt}
use native.Mathlib.Omega.{arith}
use Rattle.base_prelude.proofs.Choice.{if_lt-yes, if_lt-no, if_true-yes, if_true-no, true-false}
use Rattle.base_limits.specs.declared.Width.{Width}
use Rattle.prog_tables.specs.Hosts.{Hosts}
use Rattle.res_scope.specs.Names.{same_number}
use Rattle.check_judge.specs.Judge.{Judged, fine, judge_of}
use Rattle.check_judge.specs.Judged.{known_by, Judgement, judged}
use Rattle.check_judge.specs.declared.Counts.{Counts}
use Rattle.std.proofs.Common.{Ok, Err}
use Rattle.check_judge.proofs.Fine.{fine-few, fine-same}
use Rattle.check_fill.specs.Fill.{Lent, lent, buffers, zeroed, fill_of}
use Rattle.check_fill.specs.Fits.{Room}
use Rattle.check_source.specs.Check.{Filled, filled, filled_by, refuse, accept, has_room, answer_to, check_of}
use Rattle.check_source.specs.Checked.{Refusal}

pub refuse-is : (r : Refusal) (b : Lent) (x y z u v : List ℕ) → buffers x y z u v ≡ zeroed b → filled (Err r) x y z u v ≡ refuse r.number r.place b
unfolding refuse
refuse-is r b x y z u v h = ap (filled_by (Err r)) h

-- ---- 16

module _ (a b c d e n m l size : ℕ) where
  pub short-tokens : a < n * 8 → false ≡ has_room (lent a b c d e) n m l size
  unfolding has_room
  short-tokens h = sym (if_lt-yes _ _ h)

  module _ (p : n * 8 ≤ a) where
    pub short-statements : b < m * 27 → false ≡ has_room (lent a b c d e) n m l size
    unfolding has_room
    short-statements h = sym (if_lt-no _ _ p ∙ if_lt-yes _ _ h)

    module _ (q : m * 27 ≤ b) where
      pub short-labels : c < l * 4 → false ≡ has_room (lent a b c d e) n m l size
      unfolding has_room
      short-labels h = sym (if_lt-no _ _ p ∙ if_lt-no _ _ q ∙ if_lt-yes _ _ h)

      module _ (r : l * 4 ≤ c) where
        pub short-names : d < l * 64 → false ≡ has_room (lent a b c d e) n m l size
        unfolding has_room
        short-names h = sym (if_lt-no _ _ p ∙ if_lt-no _ _ q ∙ if_lt-no _ _ r ∙ if_lt-yes _ _ h)

        module _ (s : l * 64 ≤ d) where
          pub short-bytes : e < size → false ≡ has_room (lent a b c d e) n m l size
          unfolding has_room
          short-bytes h = sym (if_lt-no _ _ p ∙ if_lt-no _ _ q ∙ if_lt-no _ _ r ∙ if_lt-no _ _ s ∙ if_lt-yes _ _ h)

          pub long-enough : size ≤ e → true ≡ has_room (lent a b c d e) n m l size
          unfolding has_room
          long-enough h = sym (if_lt-no _ _ p ∙ if_lt-no _ _ q ∙ if_lt-no _ _ r ∙ if_lt-no _ _ s ∙ if_lt-no _ _ h)

  -- what it says
  module _ (h : has_room (lent a b c d e) n m l size ≡ true) where
    pub room-tokens : n * 8 ≤ a
    room-tokens = elim (dec_lt a (n * 8)) [ yes g ↦ true-false (sym h ∙ sym (short-tokens g)) | no g ↦ omega arith ]

    pub room-statements : m * 27 ≤ b
    room-statements =
        elim (dec_lt b (m * 27)) [ yes g ↦ true-false (sym h ∙ sym (short-statements room-tokens g)) | no g ↦ omega arith ]

    pub room-labels : l * 4 ≤ c
    room-labels =
        elim (dec_lt c (l * 4)) [ yes g ↦ true-false (sym h ∙ sym (short-labels room-tokens room-statements g)) | no g ↦ omega arith ]

    pub room-names : l * 64 ≤ d
    room-names =
        elim (dec_lt d (l * 64)) [ yes g ↦ true-false (sym h ∙ sym (short-names room-tokens room-statements room-labels g)) | no g ↦ omega arith ]

    pub room-bytes : size ≤ e
    room-bytes =
        elim (dec_lt e size) [ yes g ↦ true-false (sym h ∙ sym (short-bytes room-tokens room-statements room-labels room-names g)) | no g ↦ omega arith ]

pub ruleset room-ways = (short-tokens, short-statements, short-labels, short-names, short-bytes, long-enough)

-- ---- `check`

module _ (w : Width) (hosts : Hosts) (s t k y flags : List ℕ) (r : Judgement) (h : judged r t k y flags ≡ judge_of w hosts s) where
  module _ (p : Counts) (e : r ≡ Ok p) where
    is-fine : judge_of w hosts s ≡ fine (known_by p t k y flags) p.size
    is-fine = sym h ∙ ap (λ (j : Judgement). judged j t k y flags) e

    answer-is : (b : Lent) → check_of w hosts s b ≡ answer_to w s (fine (known_by p t k y flags) p.size) b
    unfolding check_of
    answer-is b = ap (λ (j : Judged). answer_to w s j b) is-fine

    module _ (b : Lent) (v : Bool) (q : v ≡ has_room b p.tokens p.statements p.labels p.size) where
      pub check-accepts : (x y' z u f : List ℕ) → v ≡ true → buffers x y' z u f ≡ fill_of w s (same_number t) (known_by p t k y flags) b
          → filled (Ok p) x y' z u f ≡ check_of w hosts s b
      unfolding answer_to accept
      check-accepts x y' z u f g d =
          ap (filled_by (Ok p))
          (d ∙ ap (λ (same : ℕ → ℕ → Bool). fill_of w s same (known_by p t k y flags) b) (fine-same w hosts s (known_by p t k y flags) p.size is-fine))
          ∙ sym (answer-is b ∙ if_true-yes _ _ (sym q ∙ g))

      pub check-short : (x : Filled) → v ≡ false → x ≡ refuse 16 0 b → x ≡ check_of w hosts s b
      unfolding answer_to
      check-short x g d = d ∙ sym (answer-is b ∙ if_true-no _ _ (sym q ∙ g))

  pub check-refuses : (f : Refusal) (b : Lent) (x : Filled) → r ≡ Err f → x ≡ refuse f.number f.place b → x ≡ check_of w hosts s b
  unfolding check_of answer_to
  check-refuses f b x e d =
      d ∙ ap (λ (j : Judged). answer_to w s j b) (ap (λ (j : Judgement). judged j t k y flags) (sym e) ∙ h)

-- what filling asks
pub check-room : (p : Counts) (a b c d f : ℕ) (r : Judgement) (v : Bool) (w : Width) (hosts : Hosts) (s t k y flags : List ℕ) → r ≡ Ok p
    → v ≡ has_room (lent a b c d f) p.tokens p.statements p.labels p.size → v ≡ true → judged r t k y flags ≡ judge_of w hosts s
    → Room a b c d p.tokens p.statements p.labels
check-room p a b c d f r v w hosts s t k y flags e q g h =
    let o : has_room (lent a b c d f) p.tokens p.statements p.labels p.size ≡ true = sym q ∙ g in
    let few = fine-few w hosts s (known_by p t k y flags) p.size (is-fine w hosts s t k y flags r h p e) in
    record {
      few-tokens = few.0;
      few-statements = few.1;
      for-tokens = room-tokens a b c d f _ _ _ _ o;
      for-statements = room-statements a b c d f _ _ _ _ o;
      for-labels = room-labels a b c d f _ _ _ _ o;
      for-names = room-names a b c d f _ _ _ _ o;
    }

pub ruleset check-ways = (check-accepts, check-short, check-refuses)
