-- What later stages need of the tokens of an accepted source: each lies within it, their places rise, a name has 1 to 64 bytes,
-- and two names have one number exactly when all their bytes agree.
-- Assumes nothing.
use mathlib.Core.Path.{◌≡◌, refl, sym, ◌∙◌, ap, subst}
use mathlib.Core.Bool.{Bool, true, false}
use mathlib.Core.List.{List, [], ◌∷◌, ◌++◌}
use mathlib.Core.Logic.{◌⊎◌, inl, inr}
use Prim.Native.Nat.{ℕ, zero, suc, ◌+◌, ◌*◌, ◌-◌, ◌≤◌, ◌<◌}
use native.Mathlib.Nat.{le_of_suc-le-suc, not-suc-le-zero}
use native.Mathlib.Decide.{dec_lt}
use native.Mathlib.Omega.{arith}
use lib.Dec.{T}
use lib.ListN.{length, get_or, length-append, get_or-append}
use lib.Seq.{get_or_at, get_or-append-add}
use Rattle.base_prelude.specs.Choice.{if_true}
use Rattle.base_prelude.specs.Fault.{none}
use Rattle.base_prelude.specs.Lists.{zeros}
use Rattle.base_prelude.proofs.Choice.{either, either_true, if_true-yes, if_true-no, true-false}
use Rattle.base_prelude.proofs.Lists.{same-is, same_refl}
use Rattle.base_prelude.proofs.Walk.{Kept, walk_kept}
use Rattle.base_limits.specs.Limits.{token_words}
use Rattle.base_limits.specs.declared.Width.{Width}
use Rattle.lex_spelling.specs.Text.{name_at}
use Rattle.lex_lexeme.specs.Gap.{gap_end}
use Rattle.lex_lexeme.specs.Reading.{Reading, is_named, name_start, next_read}
use Rattle.lex_lexeme.specs.declared.Lexeme.{Lexeme}
use Rattle.lex_lexeme.specs.declared.TokenError.TheVariants.{Lone, Broken, Open}
use Rattle.lex_lexeme.proofs.Gaps.{gap-in}
use Rattle.lex_lexeme.proofs.Within.{LexemeIn, ReadingIn, next-in, text-named}
use Rattle.lex_source.specs.Token.{Token, has_name, first_from, name_number, token_of}
use Rattle.lex_source.specs.Faults.{range_fault, length_fault, limit_fault, follow_fault, fault_of}
use Rattle.lex_source.specs.Lex.{State, state, Outcome, accepted, refused, token_step, read_step, lex_step, tokens_from, lex_of}
use Rattle.lex_source.specs.Rows.{row_of, rows_of, token_table}
use Rattle.lex_source.proofs.Rows.{length-rows, row_read}
use Rattle.lex_source.proofs.Least.{whole-clean, clean-limit, clean-length}
use Rattle.lex_source.proofs.Tokens.{no_token, Every, every_more}
use Rattle.std.proofs.Common.{Some, None, Ok, Err}

-- the first token with a name
module _ (text : List ℕ) where
  pub first-low : (k : ℕ) (ts : List Token) → k ≤ first_from k ts text
  unfolding first_from
  first-low k [] = omega arith
  first-low k (t ∷ ts) = either_true (λ (j : ℕ). k ≤ j) (has_name t text) _ _ (λ _. omega arith) (λ _. omega (arith, first-low (k + 1) ts))

  -- one token more changes nothing where the name was there, or where that token has it
  first_more : (k : ℕ) (ts : List Token) (x : Token) → (first_from k ts text < k + length ts) ⊎ (has_name x text ≡ true)
      → first_from k (ts ++ (x ∷ [])) text ≡ first_from k ts text
  unfolding first_from
  first_more k [] x (inl h) = let z : ⊥ = omega arith in absurd z
  first_more k [] x (inr e) = if_true-yes _ _ e
  first_more k (t ∷ ts) x h = by (has_name t text) refl (λ g. first_more (k + 1) ts x g) h
    where
      by : (b : Bool) → has_name t text ≡ b
          → ((first_from (k + 1) ts text < k + 1 + length ts) ⊎ (has_name x text ≡ true) → first_from (k + 1) (ts ++ (x ∷ [])) text ≡ first_from (k + 1) ts text)
          → (if_true (has_name t text) k (first_from (k + 1) ts text) < k + suc (length ts)) ⊎ (has_name x text ≡ true)
          → if_true (has_name t text) k (first_from (k + 1) (ts ++ (x ∷ [])) text) ≡ if_true (has_name t text) k (first_from (k + 1) ts text)
      by true e f h = if_true-yes _ _ e ∙ sym (if_true-yes _ _ e)
      by false e f (inl h) =
          let g : first_from (k + 1) ts text < k + suc (length ts) = subst (λ (j : ℕ). j < k + suc (length ts)) (if_true-no _ _ e) h in
          if_true-no _ _ e ∙ f (inl (omega arith)) ∙ sym (if_true-no _ _ e)
      by false e f (inr h) = if_true-no _ _ e ∙ f (inr h) ∙ sym (if_true-no _ _ e)

  -- a token with the name: the number is at most its own
  first-upto : (k : ℕ) (ts : List Token) (i : ℕ) → i < length ts → has_name (get_or ts i no_token) text ≡ true → first_from k ts text ≤ k + i
  unfolding first_from
  first-upto k [] i h e = absurd (not-suc-le-zero h)
  first-upto k (t ∷ ts) zero h e = subst (λ (j : ℕ). j ≤ k + 0) (sym (if_true-yes _ _ e)) (omega arith)
  first-upto k (t ∷ ts) (suc i) h e =
      let r : first_from (k + 1) ts text ≤ k + 1 + i = first-upto (k + 1) ts i (le_of_suc-le-suc h) e in
      either_true (λ (j : ℕ). j ≤ k + suc i) (has_name t text) _ _ (λ _. omega arith) (λ _. omega arith)

  -- a number that is a token's: that token has the name
  first-has : (k : ℕ) (ts : List Token) (i : ℕ) → first_from k ts text ≡ k + i → i < length ts → has_name (get_or ts i no_token) text ≡ true
  unfolding first_from
  first-has k [] i e h = absurd (not-suc-le-zero h)
  first-has k (t ∷ ts) i e h = by (has_name t text) refl i e h (λ j p q. first-has (k + 1) ts j p q)
    where
      by : (b : Bool) → has_name t text ≡ b → (i : ℕ) → if_true (has_name t text) k (first_from (k + 1) ts text) ≡ k + i → i < suc (length ts)
          → ((j : ℕ) → first_from (k + 1) ts text ≡ k + 1 + j → j < length ts → has_name (get_or ts j no_token) text ≡ true)
          → has_name (get_or (t ∷ ts) i no_token) text ≡ true
      by true q zero e h f = q
      by true q (suc i) e h f = let z : ⊥ = omega (arith, sym (if_true-yes k (first_from (k + 1) ts text) q) ∙ e) in absurd z
      by false q zero e h f = let z : ⊥ = omega (arith, first-low (k + 1) ts, sym (if_true-no k (first_from (k + 1) ts text) q) ∙ e) in absurd z
      by false q (suc i) e h f = f i (let g : first_from (k + 1) ts text ≡ k + suc i = sym (if_true-no k (first_from (k + 1) ts text) q) ∙ e in omega arith) (le_of_suc-le-suc h)

-- having a name is having its bytes
pub has-is : (t : Token) (text : List ℕ) → has_name t text ≡ true → t.text ≡ text
unfolding has_name
has-is t text =
    either_true (λ (b : Bool). b ≡ true → t.text ≡ text) (is_named t.kind) _ _
    (λ _ e. same-is t.text text (subst T (sym e) tt))
    (λ _ e. true-false (sym e))

pub has-own : (t : Token) → is_named t.kind ≡ true → has_name t t.text ≡ true
unfolding has_name
has-own t e = if_true-yes _ _ e ∙ same_refl t.text

-- every named token has the number of its name
abbrev pub Numbered : List Token → Type 0
Numbered ts = (k : ℕ) → k < length ts → is_named (get_or ts k no_token).kind ≡ true → (get_or ts k no_token).name ≡ name_number ts (get_or ts k no_token).text

module _ (ts : List Token) (h : Numbered ts) where
  number-low : (k : ℕ) → k < length ts → is_named (get_or ts k no_token).kind ≡ true → name_number ts (get_or ts k no_token).text ≤ k
  unfolding name_number
  number-low k l e = let z : 0 + k ≡ k = omega arith in subst (λ (j : ℕ). name_number ts (get_or ts k no_token).text ≤ j) z (first-upto (get_or ts k no_token).text 0 ts k l (has-own (get_or ts k no_token) e))

  number-has : (k i : ℕ) → i < length ts → name_number ts (get_or ts k no_token).text ≡ i → (get_or ts i no_token).text ≡ (get_or ts k no_token).text
  unfolding name_number
  number-has k i l e =
      let z : i ≡ 0 + i = omega arith in
      has-is (get_or ts i no_token) (get_or ts k no_token).text (first-has (get_or ts k no_token).text 0 ts i (e ∙ z) l)

  -- one number exactly when all bytes agree
  pub same_number_lem : (i j : ℕ) → i < length ts → j < length ts → is_named (get_or ts i no_token).kind ≡ true → is_named (get_or ts j no_token).kind ≡ true
      → (get_or ts i no_token).name ≡ (get_or ts j no_token).name → (get_or ts i no_token).text ≡ (get_or ts j no_token).text
  same_number_lem i j li lj ei ej q =
      let m : name_number ts (get_or ts i no_token).text ≤ i = number-low i li ei in
      let n : name_number ts (get_or ts i no_token).text < length ts = omega arith in
      sym (number-has i (name_number ts (get_or ts i no_token).text) n refl)
      ∙ number-has j (name_number ts (get_or ts i no_token).text) n (sym (h j lj ej) ∙ sym q ∙ h i li ei)

  pub same_text_lem : (i j : ℕ) → i < length ts → j < length ts → is_named (get_or ts i no_token).kind ≡ true → is_named (get_or ts j no_token).kind ≡ true
      → (get_or ts i no_token).text ≡ (get_or ts j no_token).text → (get_or ts i no_token).name ≡ (get_or ts j no_token).name
  same_text_lem i j li lj ei ej q = h i li ei ∙ ap (name_number ts) q ∙ sym (h j lj ej)

-- what holds of each token
pub record TokenGood (s : List ℕ) (t : Token) : Type 0 where
  pub ahead : t.first < t.next
  pub within : t.next ≤ length s
  pub kind-low : 1 ≤ t.kind
  pub kind-high : t.kind ≤ 9
  pub spelt : is_named t.kind ≡ true → t.text ≡ name_at s (name_start s t.kind t.first)
  pub some : is_named t.kind ≡ true → 1 ≤ length t.text
  pub short : is_named t.kind ≡ true → length t.text ≤ 64

-- tokens stand one behind the other, before a place
abbrev pub Rising : List Token → ℕ → Type 0
Rising ts at =
    ((k : ℕ) → k + 1 < length ts → (get_or ts k no_token).next ≤ (get_or ts (k + 1) no_token).first) × ((k : ℕ) → k < length ts → (get_or ts k no_token).next ≤ at)

pub record Good (s : List ℕ) (ts : List Token) (at : ℕ) : Type 0 where
  pub within : at ≤ length s
  pub few : length ts ≤ 4096
  pub each : Every (TokenGood s) ts
  pub rising : Rising ts at
  pub numbered : Numbered ts

get_d-old : (ts : List Token) (x : Token) (k : ℕ) → k < length ts → get_or (ts ++ (x ∷ [])) k no_token ≡ get_or ts k no_token
get_d-old ts x k h = get_or-append ts (x ∷ []) no_token k h

get_d-new : (ts : List Token) (x : Token) (k : ℕ) → k ≡ length ts → get_or (ts ++ (x ∷ [])) k no_token ≡ x
get_d-new ts x k e = get_or_at ts x [] no_token k (sym e)

length_more : (ts : List Token) (x : Token) → length (ts ++ (x ∷ [])) ≡ length ts + 1
length_more ts x = length-append ts (x ∷ [])

-- a place in a list with one token more
old-or-new : (ts : List Token) (x : Token) (k : ℕ) → k < length (ts ++ (x ∷ [])) → (k < length ts) ⊎ (k ≡ length ts)
old-or-new ts x k h = elim (dec_lt k (length ts)) [ yes l ↦ inl l | no l ↦ inr (omega (arith, length_more ts x)) ]

more-numbered : (ts : List Token) (x : Token) → Numbered ts → (is_named x.kind ≡ true → x.name ≡ name_number ts x.text) → Numbered (ts ++ (x ∷ []))
unfolding name_number
more-numbered ts x h f k l e = by (old-or-new ts x k l)
  where
    by : (k < length ts) ⊎ (k ≡ length ts) → (get_or (ts ++ (x ∷ [])) k no_token).name ≡ first_from 0 (ts ++ (x ∷ [])) (get_or (ts ++ (x ∷ [])) k no_token).text
    by (inl g) =
        let p : get_or (ts ++ (x ∷ [])) k no_token ≡ get_or ts k no_token = get_d-old ts x k g in
        let q : is_named (get_or ts k no_token).kind ≡ true = subst (λ (t : Token). is_named t.kind ≡ true) p e in
        let m : name_number ts (get_or ts k no_token).text ≤ k = number-low ts h k g q in
        ap (λ (t : Token). t.name) p ∙ h k g q ∙ sym (first_more (get_or ts k no_token).text 0 ts x (inl (omega arith))) ∙ ap (λ (t : Token). first_from 0 (ts ++ (x ∷ [])) t.text) (sym p)
    by (inr g) =
        let p : get_or (ts ++ (x ∷ [])) k no_token ≡ x = get_d-new ts x k g in
        let q : is_named x.kind ≡ true = subst (λ (t : Token). is_named t.kind ≡ true) p e in
        ap (λ (t : Token). t.name) p ∙ f q ∙ sym (first_more x.text 0 ts x (inr (has-own x q))) ∙ ap (λ (t : Token). first_from 0 (ts ++ (x ∷ [])) t.text) (sym p)

more-rising : (ts : List Token) (x : Token) (at : ℕ) → Rising ts at → at ≤ x.first → x.first ≤ x.next → Rising (ts ++ (x ∷ [])) x.next
more-rising ts x at h a b = (λ k l. step k l (old-or-new ts x (k + 1) l), λ k l. last k (old-or-new ts x k l))
  where
    step : (k : ℕ) → k + 1 < length (ts ++ (x ∷ [])) → (k + 1 < length ts) ⊎ (k + 1 ≡ length ts)
        → (get_or (ts ++ (x ∷ [])) k no_token).next ≤ (get_or (ts ++ (x ∷ [])) (k + 1) no_token).first
    step k l (inl g) =
        let z : (get_or ts k no_token).next ≤ (get_or ts (k + 1) no_token).first = h.0 k g in
        omega (arith, ap (λ (t : Token). t.next) (get_d-old ts x k (omega arith)), ap (λ (t : Token). t.first) (get_d-old ts x (k + 1) g))
    step k l (inr g) =
        let z : (get_or ts k no_token).next ≤ at = h.1 k (omega arith) in
        omega (arith, ap (λ (t : Token). t.next) (get_d-old ts x k (omega arith)), ap (λ (t : Token). t.first) (get_d-new ts x (k + 1) g))

    last : (k : ℕ) → (k < length ts) ⊎ (k ≡ length ts) → (get_or (ts ++ (x ∷ [])) k no_token).next ≤ x.next
    last k (inl g) = let z : (get_or ts k no_token).next ≤ at = h.1 k g in omega (arith, ap (λ (t : Token). t.next) (get_d-old ts x k g))
    last k (inr g) = omega (arith, ap (λ (t : Token). t.next) (get_d-new ts x k g))

module _ (w : Width) (s : List ℕ) (ts : List Token) (at : ℕ) (x : Lexeme) (h : Good s ts at) (i : LexemeIn s (gap_end s at) x) (c : none ≤ fault_of s (length ts) (Ok (Some x))) where
  clean : (none ≤ range_fault x) × (none ≤ length_fault x) × (none ≤ limit_fault (length ts) x.first) × (none ≤ follow_fault s x)
  clean = whole-clean s (length ts) x c

  token-good : TokenGood s (token_of w s ts x)
  unfolding token_of
  token-good =
      record {
        ahead = omega (arith, i.first-is, i.ahead);
        within = i.within;
        kind-low = i.kind-low;
        kind-high = i.kind-high;
        spelt = λ e. text-named s x.kind x.start e ∙ ap (name_at s) (i.started e ∙ ap (name_start s x.kind) (sym i.first-is));
        some = λ e. subst (λ (n : ℕ). 1 ≤ n) i.sized (i.some e);
        short = λ e. subst (λ (n : ℕ). n ≤ 64) i.sized (clean-length x e clean.1);
      }

  token-numbered : is_named (token_of w s ts x).kind ≡ true → (token_of w s ts x).name ≡ name_number ts (token_of w s ts x).text
  unfolding token_of
  token-numbered e = if_true-yes _ _ e

  token-places : (at ≤ (token_of w s ts x).first) × ((token_of w s ts x).first ≤ (token_of w s ts x).next) × ((token_of w s ts x).next ≡ x.next)
  unfolding token_of
  token-places = let o : at ≤ gap_end s at = (gap-in s at).0.0 in (omega (arith, i.first-is), omega (arith, i.first-is, i.ahead), refl)

  good_more : Good s (ts ++ (token_of w s ts x ∷ [])) x.next
  good_more =
      let n : length ts < 4096 = clean-limit (length ts) x.first clean.2 in
      record {
        within = i.within;
        few = omega (arith, length_more ts (token_of w s ts x));
        each = every_more (TokenGood s) ts (token_of w s ts x) h.each token-good;
        rising = subst (λ (n : ℕ). Rising (ts ++ (token_of w s ts x ∷ [])) n) token-places.2 (more-rising ts (token_of w s ts x) at h.rising token-places.0 token-places.1);
        numbered = more-numbered ts (token_of w s ts x) h.numbered token-numbered;
      }

-- the invariant of every step
abbrev GoodState : List ℕ → State → Type 0
GoodState s q = Good s q.tokens q.at

abbrev pub GoodOutcome : List ℕ → Outcome → Type 0
GoodOutcome s (accepted ts) = Good s ts (length s)
GoodOutcome s (refused k) = Unit {0}

weaken : (s : List ℕ) (ts : List Token) (at : ℕ) → Good s ts at → Good s ts (length s)
weaken s ts at h =
    record {
      within = omega arith;
      few = h.few;
      each = h.each;
      rising = (h.rising.0, λ k l. let z : (get_or ts k no_token).next ≤ at = h.rising.1 k l in omega (arith, h.within));
      numbered = h.numbered;
    }

token-kept : (w : Width) (s : List ℕ) (q : State) (r : Reading) → GoodState s q → ReadingIn s (gap_end s q.at) r → none ≤ fault_of s (length q.tokens) r
    → Kept (GoodState s) (GoodOutcome s) (token_step w s q r)
unfolding token_step
token-kept w s q (Ok None) h i c = weaken s q.tokens q.at h
token-kept w s q (Err (Lone p)) h i c = tt
token-kept w s q (Err (Broken p)) h i c = tt
token-kept w s q (Err (Open p)) h i c = tt
token-kept w s q (Ok (Some x)) h i c = good_more w s q.tokens q.at x h i c

step_kept : (w : Width) (s : List ℕ) (q : State) → GoodState s q → Kept (GoodState s) (GoodOutcome s) (lex_step w s q)
unfolding lex_step read_step
step_kept w s q h =
    either (Kept (GoodState s) (GoodOutcome s)) (fault_of s (length q.tokens) (next_read w s q.at)) none _ _
    (λ _. tt)
    (λ c. token-kept w s q (next_read w s q.at) h (next-in w s q.at) c)

empty-good : (s : List ℕ) → Good s [] 0
empty-good s =
    record {
      within = omega arith;
      few = omega arith;
      each = tt;
      rising = (λ k l. absurd (not-suc-le-zero l), λ k l. absurd (not-suc-le-zero l));
      numbered = λ k l. absurd (not-suc-le-zero l);
    }

from-good : (w : Width) (s : List ℕ) → GoodOutcome s (tokens_from w s (state 0 []))
unfolding tokens_from
from-good w s = walk_kept (GoodState s) (GoodOutcome s) (lex_step w s) (refused none) tt (step_kept w s) (suc (length s)) (state 0 []) (empty-good s)

pub lex-good : (w : Width) (s : List ℕ) → GoodOutcome s (lex_of w s)
unfolding lex_of
lex-good w s = either (GoodOutcome s) 16384 (length s) _ _ (λ _. tt) (λ _. from-good w s)

-- the tokens of an accepted source
pub accepted-good : (w : Width) (s : List ℕ) (ts : List Token) → lex_of w s ≡ accepted ts → Good s ts (length s)
accepted-good w s ts e = subst (GoodOutcome s) e (lex-good w s)

-- the table read back: word j of row k is that of token k, and behind the rows no token stands
pub token-read : (ts : List Token) (k j : ℕ) → k < length ts → j < 8 → get_or (token_table ts) (k * 8 + j) 0 ≡ get_or (row_of (get_or ts k no_token)) j 0
unfolding token_table
token-read ts k j h g =
    get_or-append (rows_of ts) (zeros (token_words - length (rows_of ts))) 0 (k * 8 + j) (omega (arith, length-rows ts)) ∙ row_read no_token ts k j h g

zeros-read : (n i : ℕ) → get_or (zeros n) i 0 ≡ 0
zeros-read zero i = refl
zeros-read (suc n) zero = refl
zeros-read (suc n) (suc i) = zeros-read n i

pub token-behind : (ts : List Token) (k j : ℕ) → length ts ≤ k → get_or (token_table ts) (k * 8 + j) 0 ≡ 0
unfolding token_table
token-behind ts k j h =
    let e : k * 8 + j ≡ length (rows_of ts) + (k * 8 + j - length (rows_of ts)) = omega (arith, length-rows ts) in
    ap (λ (i : ℕ). get_or (rows_of ts ++ zeros (token_words - length (rows_of ts))) i 0) e
    ∙ get_or-append-add (rows_of ts) (zeros (token_words - length (rows_of ts))) (k * 8 + j - length (rows_of ts)) 0
    ∙ zeros-read (token_words - length (rows_of ts)) (k * 8 + j - length (rows_of ts))
