-- A statement stops exactly with the number of the first cause it meets: operands and operators.
-- Assumes nothing.
use Rattle.std.proofs.Common.{Err, None, Ok, Option, Some}
use Rattle.vm_definitions.specs.Operands.{Worked, valued}
use mathlib.Core.Path.{◌≡◌, refl, sym, ◌∙◌, ap, subst}
use mathlib.Core.Bool.{Bool, true, false}
use mathlib.Core.List.{List, [], ◌∷◌, ◌++◌, map}
use Prim.Native.Nat.{ℕ, suc, ◌+◌, ◌-◌, ◌*◌, ◌^◌, ◌<◌, ◌≤◌}
use native.Mathlib.Decide.{ℕ_discrete, dec_lt}
use native.Mathlib.Omega.{arith}
use lib.Dec.{ltb, eqb}
use lib.ListN.{length, take}
use borrow.Author.Tests.{eqb-true, ne_eqb, lt-ltb, ltb-true}
use Rattle.base_prelude.specs.Choice.{pick, if_lt, if_eq, if_true}
use Rattle.base_prelude.proofs.Choice.{true-false, if_eq-yes, if_eq-no, if_lt-yes, if_lt-no, if_true-yes, if_true-no}
use Rattle.base_limits.specs.Width.{bits_of, bytes_of}
use Rattle.base_limits.specs.declared.Width.{Width}
use Rattle.lang_words.specs.Words as word_list
use Rattle.lang_words.specs.Words.{least_operands}
use Rattle.base_word.specs.Word as word
use Rattle.base_word.specs.Word.{Answer}
use Rattle.base_word.specs.declared.WordError.TheVariants.{Division, Shift}
use Rattle.prog_tables.specs.Tests.{both, one_of, all_below}
use Rattle.prog_tables.specs.Statement.{is_operator, is_call_expression, expression_uses}
use Rattle.prog_tables.specs.Faults.{expression_listed}
use Rattle.prog_tables.specs.declared.Operand.{Operand}
use Rattle.prog_tables.specs.declared.Operand.TheVariants.{Unlisted}
use Rattle.prog_tables.proofs.Each.{below_at}
use Rattle.vm_definitions.specs.Access.{byte_address, word_address, byte_good, word_good, load_of}
use Rattle.vm_definitions.specs.Operands.{Words, words, bad, is_at, number_in, fetch_of, read_of, with_word, on_read, read_all}
use Rattle.vm_definitions.specs.Expressions.{operand_no, eval_of}
use Rattle.vm_definitions.specs.Causes.{cause_of, first_of, touched, word_of}
use Rattle.vm_definitions.proofs.OperatorTable.{Every, each-operator}
use Rattle.vm_definitions.specs.Operators.{Operator, operators, line_in, operator_of, round_up, reserved, answered, fetched, byte_of, applied, Meeting, word_at, byte_at, divides, leaves_over, shifts_by, reserves_to, operator_meets}

-- the number of a stop, 0 without one
unfoldable pub stop_in : Worked → ℕ
stop_in (Ok got) = 0
stop_in (Err k) = k

-- one number, or a greater one
pub next : (P : ℕ → Type 0) (a e : ℕ) → a ≤ e → P a → (suc a ≤ e → P e) → P e
next P a e h p f = elim (ℕ_discrete a e) [ yes q ↦ subst P q p | no q ↦ f (omega arith) ]

-- ---- the first cause

module _ (w : Width) (m s : ℕ) where
  pub first-here : (e : Meeting) (es : List Meeting) (k : ℕ) → cause_of w m s e ≡ suc k → first_of w m s (e ∷ es) ≡ suc k
  unfolding first_of
  first-here e es k h = if_eq-no (first_of w m s es) (cause_of w m s e) (λ q. omega (arith, q, h)) ∙ h

  pub first-later : (e : Meeting) (es : List Meeting) → cause_of w m s e ≡ 0 → first_of w m s (e ∷ es) ≡ first_of w m s es
  unfolding first_of
  first-later e es h = if_eq-yes (first_of w m s es) (cause_of w m s e) h

  -- one meeting alone
  pub first_one : (e : Meeting) → first_of w m s (e ∷ []) ≡ cause_of w m s e
  unfolding first_of
  first_one e =
      elim (ℕ_discrete (cause_of w m s e) 0) [
        | yes h ↦ if_eq-yes 0 (cause_of w m s e) h ∙ sym h
        | no h ↦ if_eq-no 0 (cause_of w m s e) h
      ]

  -- of two lists
  pub first-both : (us vs : List Meeting) → first_of w m s (us ++ vs) ≡ if_eq (first_of w m s us) 0 (first_of w m s vs) (first_of w m s us)
  unfolding first_of
  first-both [] vs = sym (if_eq-yes (first_of w m s vs) 0 refl)
  first-both (u ∷ us) vs =
      elim (ℕ_discrete (cause_of w m s u) 0) [
        | yes h ↦ first-later u (us ++ vs) h ∙ first-both us vs ∙ sym (ap (λ (k : ℕ). if_eq k 0 (first_of w m s vs) k) (first-later u us h))
        | no h ↦ if_eq-no (first_of w m s (us ++ vs)) (cause_of w m s u) h
            ∙ sym (ap (λ (k : ℕ). if_eq k 0 (first_of w m s vs) k) (if_eq-no (first_of w m s us) (cause_of w m s u) h) ∙ if_eq-no (first_of w m s vs) (cause_of w m s u) h)
      ]

  pub word_good_lem : (a : ℕ) → word_good w m a ≡ true → cause_of w m s (word_at a) ≡ 0
  unfolding cause_of word_good
  word_good_lem a h = if_true-yes 0 32 h

  pub word-bad : (a : ℕ) → word_good w m a ≡ false → cause_of w m s (word_at a) ≡ 32
  unfolding cause_of word_good
  word-bad a h = if_true-no 0 32 h

-- ---- operands

module _ (w : Width) (st : List ℕ) (s : ℕ) (m : List ℕ) where
  module _ {X : Type 0} (number : X → ℕ) (stop : X) (go : ℕ → X) (o : Operand) (os : List Operand) (more : List Meeting) (l : ℕ) where
    -- an operand is read, the rest follows
    pub read-cause : number stop ≡ 32 → number (go (word_of w st s m o)) ≡ first_of w (length m) l (touched w st s os ++ more)
        → number (on_read (read_of w st s m o) stop go) ≡ first_of w (length m) l (touched w st s (o ∷ os) ++ more)
    unfolding touched word_of read_of on_read fetch_of
    read-cause e d = by (is_at o) refl (word_good w (length m) (number_in w st s o)) refl
      where
        at : ℕ
        at = number_in w st s o

        by : (p : Bool) → is_at o ≡ p → (q : Bool) → word_good w (length m) at ≡ q
            → number (on_read (read_of w st s m o) stop go) ≡ first_of w (length m) l (touched w st s (o ∷ os) ++ more)
        by false a q b =
            ap (λ (x : Option ℕ). number (on_read x stop go)) (if_true-no (fetch_of w m at) (Some at) a)
            ∙ ap (λ (v : ℕ). number (go v)) (sym (if_true-no (load_of w m at) at a))
            ∙ d
            ∙ ap (λ (x : List Meeting). first_of w (length m) l (x ++ more)) (sym (if_true-no (word_at at ∷ touched w st s os) (touched w st s os) a))
        by true a true b =
            ap (λ (x : Option ℕ). number (on_read x stop go)) (if_true-yes (fetch_of w m at) (Some at) a ∙ if_true-yes (Some (load_of w m at)) None b)
            ∙ ap (λ (v : ℕ). number (go v)) (sym (if_true-yes (load_of w m at) at a))
            ∙ d
            ∙ sym (first-later w (length m) l (word_at at) (touched w st s os ++ more) (word_good_lem w (length m) l at b))
            ∙ ap (λ (x : List Meeting). first_of w (length m) l (x ++ more)) (sym (if_true-yes (word_at at ∷ touched w st s os) (touched w st s os) a))
        by true a false b =
            ap (λ (x : Option ℕ). number (on_read x stop go)) (if_true-yes (fetch_of w m at) (Some at) a ∙ if_true-no (Some (load_of w m at)) None b)
            ∙ e
            ∙ sym (first-here w (length m) l (word_at at) (touched w st s os ++ more) 31 (word-bad w (length m) l at b))
            ∙ ap (λ (x : List Meeting). first_of w (length m) l (x ++ more)) (sym (if_true-yes (word_at at ∷ touched w st s os) (touched w st s os) a))

  -- all operands are read, the rest follows
  pub all-cause : {X : Type 0} (number : X → ℕ) (go : Words → X) (os : List Operand) (more : List Meeting) (l : ℕ)
      → number (go bad) ≡ 32 → number (go (words (map (word_of w st s m) os))) ≡ first_of w (length m) l more
      → number (go (read_all w st s m os)) ≡ first_of w (length m) l (touched w st s os ++ more)
  unfolding read_all with_word touched
  all-cause number go [] more l e d = d
  all-cause number go (o ∷ os) more l e d =
      read-cause (λ x. number (go x)) bad (λ v. with_word v (read_all w st s m os)) o os more l e
      (all-cause number (λ x. go (with_word (word_of w st s m o) x)) os more l e d)

-- ---- operators

shift-cause : (top v : ℕ) (b : Bool) → stop_in (answered top (pick b (Err Shift) (Ok v))) ≡ if_true b 31 0
unfolding stop_in answered if_true
shift-cause top v true = refl
shift-cause top v false = refl

div-cause : (top v : ℕ) (a b c : Bool) → stop_in (answered top (pick a (Err Division) (pick (pick b c false) (Err Division) (Ok v)))) ≡ if_true (one_of a (both b c)) 30 0
unfolding stop_in answered if_true
div-cause top v true b c = refl
div-cause top v false true true = refl
div-cause top v false true false = refl
div-cause top v false false c = refl

mod-cause : (top v : ℕ) (b : Bool) → stop_in (answered top (pick b (Err Division) (Ok v))) ≡ pick b 30 0
unfolding stop_in answered
mod-cause top v true = refl
mod-cause top v false = refl

reserve-cause : (x y : ℕ) (b : Bool) → stop_in (pick b (Err 34) (valued x y)) ≡ pick b 34 0
unfolding stop_in
reserve-cause x y true = refl
reserve-cause x y false = refl

good-cause : (x y : ℕ) (b : Bool) → stop_in (if_true b (valued x y) (Err 32)) ≡ if_true b 0 32
unfolding stop_in if_true
good-cause x y true = refl
good-cause x y false = refl

fetched-cause : (top v : ℕ) (b : Bool) → stop_in (fetched top (if_true b (Some v) None)) ≡ if_true b 0 32
unfolding stop_in fetched if_true
fetched-cause top v true = refl
fetched-cause top v false = refl

module _ (w : Width) (m : List ℕ) (l top x y : ℕ) where
  -- an operator stops with what it meets
  Agrees : Operator → Type 0
  Agrees o = stop_in (o.result w m top x y) ≡ first_of w (length m) l (o.meets w top x y)

  -- a word alone; a shift or rotate by a count
  word-agrees : (v : ℕ) → stop_in (valued v top) ≡ first_of w (length m) l []
  unfolding stop_in first_of
  word-agrees v = refl

  shift-agrees : (v : ℕ) → stop_in (answered top (word.shift_answer (bits_of w) y v)) ≡ first_of w (length m) l (shifts_by y ∷ [])
  unfolding cause_of
  shift-agrees v = shift-cause top _ _ ∙ sym (first_one w (length m) l (shifts_by y))

  reserve-agrees : (n : ℕ) → stop_in (reserved w (length m) top n) ≡ first_of w (length m) l (reserves_to (round_up w top + n) ∷ [])
  unfolding if_lt cause_of reserved
  reserve-agrees n = reserve-cause (round_up w top) (round_up w top + n) (ltb (length m) (round_up w top + n)) ∙ sym (first_one w (length m) l (reserves_to (round_up w top + n)))

  div_agrees : stop_in (answered top (word.div_of (bits_of w) x y)) ≡ first_of w (length m) l (divides x y ∷ [])
  unfolding if_eq if_lt cause_of word.div_of
  div_agrees = div-cause top (word.quotient (bits_of w) x y) (eqb y 0) (eqb x (2 ^ (bits_of w - 1))) (eqb y (2 ^ bits_of w - 1)) ∙ sym (first_one w (length m) l (divides x y))

  mod-agrees : stop_in (answered top (word.mod_of (bits_of w) x y)) ≡ first_of w (length m) l (leaves_over y ∷ [])
  unfolding if_eq if_lt cause_of word.mod_of
  mod-agrees = mod-cause top (word.remainder (bits_of w) x y) (eqb y 0) ∙ sym (first_one w (length m) l (leaves_over y))

  byte-agrees : stop_in (byte_of m top (byte_address w x y)) ≡ first_of w (length m) l (byte_at (byte_address w x y) ∷ [])
  unfolding if_eq if_lt cause_of byte_of byte_good
  byte-agrees = good-cause _ _ _ ∙ sym (first_one w (length m) l (byte_at (byte_address w x y)))

  fetch-agrees : stop_in (fetched top (fetch_of w m (word_address w x y))) ≡ first_of w (length m) l (word_at (word_address w x y) ∷ [])
  unfolding if_eq if_lt cause_of fetch_of word_good
  fetch-agrees = fetched-cause top _ _ ∙ sym (first_one w (length m) l (word_at (word_address w x y)))

  pub applied-cause : (e : ℕ) → stop_in (applied w m top e x y) ≡ first_of w (length m) l (operator_meets w top e x y)
  unfolding applied operator_meets operators Every Agrees word.asr_of word.bsr_of word.rol_of word.ror_of word.shl_of
  applied-cause e =
      each-operator Agrees e (
        word-agrees _,
        (
          word-agrees _,
          (
            shift-agrees _,
            (
              reserve-agrees x,
              (
                reserve-agrees (bytes_of w * x),
                (
                  shift-agrees _,
                  (
                    div_agrees,
                    (
                      byte-agrees,
                      (
                        fetch-agrees,
                        (
                          mod-agrees,
                          (
                            word-agrees _,
                            (
                              word-agrees _,
                              (
                                word-agrees _,
                                (
                                  shift-agrees _,
                                  (
                                    shift-agrees _,
                                    (
                                      shift-agrees _,
                                      (
                                        shift-agrees _,
                                        (
                                          word-agrees _,
                                          (
                                            word-agrees _,
                                            tt,
                                          ),
                                        ),
                                      ),
                                    ),
                                  ),
                                ),
                              ),
                            ),
                          ),
                        ),
                      ),
                    ),
                  ),
                ),
              ),
            ),
          ),
        ),
      )
      (word-agrees 0)

-- ---- expressions

least_good : ℕ → Bool
least_good d = one_of (eqb (least_operands (33 + d)) 1) (eqb (least_operands (33 + d)) 2)

least-good : all_below least_good 19 ≡ true
unfolding least_good all_below least_operands word_list.entry_of word_list.first_of word_list.is_number word_list.words
least-good = refl

one-of : {P : Type 0} (a b : Bool) → one_of a b ≡ true → (a ≡ true → P) → (b ≡ true → P) → P
one-of true b e f g = f refl
one-of false b e f g = g e

-- an operator takes one operand or two
pub least-either : {P : Type 0} (e : ℕ) → 33 ≤ e → e < 52 → (least_operands e ≡ 1 → P) → (least_operands e ≡ 2 → P) → P
unfolding least_good
least-either {P} e a b f g =
    let q : 33 + (e - 33) ≡ e = omega arith in
    one-of (eqb (least_operands (33 + (e - 33))) 1) (eqb (least_operands (33 + (e - 33))) 2) (below_at least_good 19 (e - 33) least-good (omega arith))
    (λ h. f (ap least_operands (sym q) ∙ eqb-true _ _ h)) (λ h. g (ap least_operands (sym q) ∙ eqb-true _ _ h))

fetched-is : (top : ℕ) (r : Option ℕ) → fetched top r ≡ on_read r (Err 32) (λ v. valued v top)
unfolding fetched on_read
fetched-is top (Some v) = refl
fetched-is top None = refl

uses-plain : (n e : ℕ) → e ≡ 1 → expression_uses e n ≡ 1
unfolding expression_uses
uses-plain n e h = if_eq-yes 1 (if_eq e 2 n (if_eq e 3 n (if_true (is_operator e) (least_operands e) 0))) h

module _ (e : ℕ) (h0 : e ≡ 0 → ⊥) (h1 : e ≡ 1 → ⊥) (h2 : e ≡ 2 → ⊥) (h3 : e ≡ 3 → ⊥) (g : expression_listed 13 e ≡ true) where
  no_call : is_call_expression e ≡ false
  unfolding is_call_expression
  no_call = if_eq-no true (eqb e 3) h2 ∙ ne_eqb e 3 h3

  operator-is : is_operator e ≡ true
  unfolding expression_listed
  operator-is =
      sym (if_eq-no (eqb 13 13) (if_eq e 1 true (if_true (is_call_expression e) true (is_operator e))) h0 ∙ if_eq-no true (if_true (is_call_expression e) true (is_operator e)) h1 ∙ if_true-no true (is_operator e) no_call) ∙ g

  operator-low : 33 ≤ e
  unfolding is_operator
  operator-low = elim (dec_lt e 33) [ yes q ↦ true-false (sym operator-is ∙ if_lt-yes false (ltb e 52) q) | no q ↦ omega arith ]

  operator-high : e < 52
  unfolding is_operator
  operator-high = ltb-true e 52 (sym (if_lt-no false (ltb e 52) operator-low) ∙ operator-is)

module _ (w : Width) (st : List ℕ) (s : ℕ) (m : List ℕ) (l top : ℕ) where
  EvalAgrees : ℕ → List Operand → Type 0
  EvalAgrees e os =
      stop_in (eval_of w st s m top e os)
      ≡ first_of w (length m) l (touched w st s os ++ operator_meets w top e (word_of w st s m (operand_no os 0)) (word_of w st s m (operand_no os 1)))

  eval-plain : (o : Operand) → EvalAgrees 1 (o ∷ [])
  unfolding EvalAgrees eval_of if_eq operator_meets operator_of line_in operators stop_in first_of touched
  eval-plain o = ap stop_in (fetched-is top (read_of w st s m o)) ∙ read-cause w st s m stop_in (Err 32) (λ v. valued v top) o [] [] l refl refl

  module _ (e : ℕ) (a : 33 ≤ e) (b : e < 52) where
    -- behind the first operand
    second : List Operand → ℕ → Worked
    second os x =
        if_eq (least_operands e) 1 (applied w m top e x 0)
        (on_read (read_of w st s m (operand_no os 1)) (Err 32) (applied w m top e x))

    eval-operator : (os : List Operand) → eval_of w st s m top e os ≡ on_read (read_of w st s m (operand_no os 0)) (Err 32) (second os)
    unfolding eval_of second
    eval-operator os = if_eq-no (fetched top (read_of w st s m (operand_no os 0))) (on_read (read_of w st s m (operand_no os 0)) (Err 32) (second os)) (λ q. omega (arith, q))

    eval-one : (o : Operand) → least_operands e ≡ 1 → EvalAgrees e (o ∷ [])
    unfolding EvalAgrees second stop_in touched word_of is_at number_in if_true
    eval-one o h =
        ap stop_in (eval-operator (o ∷ []))
        ∙ read-cause w st s m stop_in (Err 32) (second (o ∷ [])) o [] (operator_meets w top e (word_of w st s m o) 0) l refl
        (ap stop_in (if_eq-yes (applied w m top e (word_of w st s m o) 0) (on_read (read_of w st s m Unlisted) (Err 32) (applied w m top e (word_of w st s m o))) h)
        ∙ applied-cause w m l top (word_of w st s m o) 0 e)

    eval-two : (o p : Operand) → least_operands e ≡ 2 → EvalAgrees e (o ∷ p ∷ [])
    unfolding EvalAgrees second stop_in touched
    eval-two o p h =
        ap stop_in (eval-operator (o ∷ p ∷ []))
        ∙ read-cause w st s m stop_in (Err 32) (second (o ∷ p ∷ [])) o (p ∷ []) (operator_meets w top e (word_of w st s m o) (word_of w st s m p)) l refl
        (ap stop_in (if_eq-no (applied w m top e (word_of w st s m o) 0) (on_read (read_of w st s m p) (Err 32) (applied w m top e (word_of w st s m o))) (λ q. omega (arith, q, h)))
        ∙ read-cause w st s m stop_in (Err 32) (applied w m top e (word_of w st s m o)) p [] (operator_meets w top e (word_of w st s m o) (word_of w st s m p)) l refl
        (applied-cause w m l top (word_of w st s m o) (word_of w st s m p) e))

    uses-operator : (n : ℕ) → expression_uses e n ≡ least_operands e
    unfolding expression_uses is_operator
    uses-operator n =
        if_eq-no 1 (if_eq e 2 n (if_eq e 3 n (if_true (is_operator e) (least_operands e) 0))) (λ q. omega (arith, q))
        ∙ if_eq-no n (if_eq e 3 n (if_true (is_operator e) (least_operands e) 0)) (λ q. omega (arith, q))
        ∙ if_eq-no n (if_true (is_operator e) (least_operands e) 0) (λ q. omega (arith, q))
        ∙ if_true-yes (least_operands e) 0 (if_lt-no false (ltb e 52) a ∙ lt-ltb e 52 b)

  -- an operand, or an operator with as many operands as it takes
  pub eval-cause : (e n : ℕ) (o p : Operand) (rest os : List Operand) → os ≡ take (expression_uses e n) (o ∷ p ∷ rest)
      → (e ≡ 0 → ⊥) → (e ≡ 2 → ⊥) → (e ≡ 3 → ⊥) → expression_listed 13 e ≡ true
      → stop_in (eval_of w st s m top e os)
      ≡ first_of w (length m) l (touched w st s os ++ operator_meets w top e (word_of w st s m (operand_no os 0)) (word_of w st s m (operand_no os 1)))
  unfolding EvalAgrees
  eval-cause e n o p rest os q h0 h2 h3 g =
      elim (ℕ_discrete e 1) [
        | yes h ↦ subst (λ (k : ℕ). EvalAgrees k os) (sym h) (subst (EvalAgrees 1) (sym (q ∙ ap (λ (k : ℕ). take k (o ∷ p ∷ rest)) (uses-plain n e h))) (eval-plain o))
        | no h1 ↦ let a : 33 ≤ e = operator-low e h0 h1 h2 h3 g in let b : e < 52 = operator-high e h0 h1 h2 h3 g in
            least-either e a b
            (λ h. subst (EvalAgrees e) (sym (q ∙ ap (λ (k : ℕ). take k (o ∷ p ∷ rest)) (uses-operator e a b n ∙ h))) (eval-one e a b o h))
            (λ h. subst (EvalAgrees e) (sym (q ∙ ap (λ (k : ℕ). take k (o ∷ p ∷ rest)) (uses-operator e a b n ∙ h))) (eval-two e a b o p h))
      ]
