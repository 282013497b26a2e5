-- The code's steps are the definition's: the rows written so far are those of the tokens read so far.
-- Assumes nothing.
use mathlib.Core.Path.{◌≡◌, refl, sym, ◌∙◌, ap, ap₂, subst}
use mathlib.Core.Bool.{Bool, true, false}
use mathlib.Core.List.{List, [], ◌∷◌, ◌++◌}
use Prim.Native.Nat.{ℕ, suc, ◌+◌, ◌*◌, ◌-◌, ◌%◌, ◌/◌, ◌≤◌, ◌<◌}
use native.Mathlib.Omega.{arith}
use lib.ListN.{length, take, length-append}
use Rattle.base_prelude.specs.Choice.{if_lt}
use Rattle.base_prelude.specs.Fault.{none, key}
use Rattle.base_prelude.specs.Lists.{zeros, cleared_from}
use Rattle.base_prelude.specs.Walk.{go, stop}
use Rattle.base_prelude.proofs.Choice.{tests, either, if_true-yes, if_true-no, if_lt-yes, if_lt-no}
use Rattle.base_prelude.proofs.Walk.{Runs, runs-start, runs-go, runs-stop}
use Rattle.base_limits.specs.declared.Width.{Width}
use Rattle.lex_spelling.specs.Text.{name_at, hash_of}
use Rattle.lex_lexeme.specs.Gap.{gap_end}
use Rattle.lex_lexeme.specs.Reading.{Reading, is_named, name_start, text_of, next_read}
use Rattle.lex_lexeme.specs.declared.Lexeme.{Lexeme}
use Rattle.lex_lexeme.specs.declared.TokenError.{TokenError}
use Rattle.lex_lexeme.specs.declared.TokenError.TheVariants.{Lone, Broken, Open}
use Rattle.lex_lexeme.proofs.Gaps.{gap-in}
use Rattle.lex_lexeme.proofs.Within.{LexemeIn, ReadingIn, next-in, text-named}
use Rattle.lex_source.specs.Token.{Token, token_value, word_of, name_number, token_of}
use Rattle.lex_source.specs.Faults.{range_fault, length_fault, limit_fault, follow_fault, fault_of}
use Rattle.lex_source.specs.Rows.{row_of, rows_of, token_table}
use Rattle.lex_source.specs.Fits.{LexemeFits, ReadingFits}
use Rattle.lex_source.specs.Filling.{FillStep, find_name, word_named, row_from, words_of, put_row, Filled, filled, fill_by, fill_reading, fill_at}
use Rattle.lex_source.specs.Lex.{Lexed, state, accepted, refused, token_step, read_step, lex_step, tokens_from, lex_of, answer_of, table_of}
use Rattle.lex_source.specs.declared.Row.{Row}
use Rattle.lex_source.proofs.Least.{lone-fault, broken-fault, open-fault, whole-clean, clean-limit, clean-length}
use Rattle.lex_source.proofs.Finding.{find-most}
use Rattle.lex_source.proofs.Rows.{length-put, taken-put, length-rows, rows_more}
use Rattle.lex_source.proofs.Tokens.{Every, every_more, Spelt, number_is}
use Rattle.std.proofs.Common.{Some, None, Ok, Err}
use Rattle.std.specs.Prelude.{unwrap_or}

-- `row_from`
module _ (s t : List ℕ) (n : ℕ) (x : Lexeme) (b : Bool) (h : LexemeFits s t n x) (p : b ≡ is_named x.kind) (e : b ≡ true) where
  pub named-size : x.size ≡ length (name_at s x.start)
  named-size = (h.named (sym p ∙ e)).0

  pub named-short : x.size ≤ 64
  named-short = (h.named (sym p ∙ e)).1

module _ (w : Width) (s t : List ℕ) (n : ℕ) (x : Lexeme) (b : Bool) (p : b ≡ is_named x.kind) where
  pub row_named_lem : (word v value name : ℕ) → b ≡ true → word ≡ word_named x.kind (name_at s x.start) → v ≡ unwrap_or x.value 0
      → value ≡ token_value w x.kind v x.size word → name ≡ find_name s t n x.hash x.start
      → record { kind = x.kind; first = x.first; next = x.next; value = value; name = name; word = word; hash = x.hash } ≡ row_from w s t n x
  unfolding row_from
  row_named_lem word v value name e f q g i =
      let k : value ≡ token_value w x.kind (unwrap_or x.value 0) x.size word = g ∙ ap (λ (z : ℕ). token_value w x.kind z x.size word) q in
      rw (← p, ← f, ← k, ← i) (search tests)

  pub row_plain : (v value : ℕ) → b ≡ false → v ≡ unwrap_or x.value 0 → value ≡ token_value w x.kind v x.size 0
      → record { kind = x.kind; first = x.first; next = x.next; value = value; name = 0; word = 0; hash = x.hash } ≡ row_from w s t n x
  unfolding row_from
  row_plain v value e q g =
      let k : value ≡ token_value w x.kind (unwrap_or x.value 0) x.size 0 = g ∙ ap (λ (z : ℕ). token_value w x.kind z x.size 0) q in
      rw (← p, ← k) (search tests)

pub ruleset rowing = (row_named_lem, row_plain)

pub name-fits : (s t : List ℕ) (n name : ℕ) (x : Lexeme) → LexemeFits s t n x → name ≡ find_name s t n x.hash x.start → name < 4294967296
name-fits s t n name x h e = omega (arith, h.few, find-most s t n x.hash x.start)

-- `fill`
module _ (w : Width) (s t : List ℕ) (n : ℕ) (r : Reading) where
  pub reading-fits : (x : Lexeme) → ReadingFits s t n r → r ≡ Ok (Some x) → LexemeFits s t n x
  reading-fits x h e = subst (ReadingFits s t n) e h

  pub fill_end : r ≡ Ok None → filled (Ok None) t ≡ fill_by w s t n r
  unfolding fill_by
  fill_end e = rw e

  pub fill-error : (p : TokenError) → r ≡ Err p → filled (Err none) t ≡ fill_by w s t n r
  unfolding fill_by
  fill-error (Lone p) e = rw e
  fill-error (Broken p) e = rw e
  fill-error (Open p) e = rw e

  pub fill-whole : (x : Lexeme) (t' : List ℕ) → r ≡ Ok (Some x) → t' ≡ put_row t n (row_from w s t n x) → filled (Ok (Some x.next)) t' ≡ fill_by w s t n r
  unfolding fill_by
  fill-whole x t' e q = rw e (ap (filled (Ok (Some x.next))) q)

pub ruleset filling = (fill_end, fill-error, fill-whole)

-- `fill_at`
clean-fits : (s t : List ℕ) (n at : ℕ) (x : Lexeme) → length s ≤ 16384 → length t ≡ 32768 → at ≤ length s → LexemeIn s at x → none ≤ fault_of s n (Ok (Some x)) → LexemeFits s t n x
clean-fits s t n at x ls lt la h c =
    let d : (none ≤ range_fault x) × (none ≤ length_fault x) × (none ≤ limit_fault n x.first) × (none ≤ follow_fault s x) = whole-clean s n x c in
    let f : n < 4096 = clean-limit n x.first d.2 in
    record {
      room = omega arith;
      few = f;
      first = omega (arith, h.first-is);
      next = omega (arith, h.within);
      size = omega (arith, h.small);
      named = λ e. (h.sized ∙ ap length (text-named s x.kind x.start e), clean-length x e d.1);
    }

fits_by : (s t : List ℕ) (n at : ℕ) (r : Reading) → length s ≤ 16384 → length t ≡ 32768 → at ≤ length s → ReadingIn s at r → none ≤ fault_of s n r → ReadingFits s t n r
fits_by s t n at (Ok None) ls lt la h c = tt
fits_by s t n at (Err (Lone p)) ls lt la h c = tt
fits_by s t n at (Err (Broken p)) ls lt la h c = tt
fits_by s t n at (Err (Open p)) ls lt la h c = tt
fits_by s t n at (Ok (Some x)) ls lt la h c = clean-fits s t n at x ls lt la h c

module _ (w : Width) (s t : List ℕ) (n at : ℕ) (r : Reading) (k : ℕ) (p : r ≡ next_read w s at) (q : k ≡ fault_of s n r) where
  pub fill-at-fits : length s ≤ 16384 → length t ≡ 32768 → at ≤ length s → none ≤ k → ReadingFits s t n r
  fill-at-fits ls lt la c =
      fits_by s t n (gap_end s at) r ls lt ((gap-in s at).0.1 la) (subst (ReadingIn s (gap_end s at)) (sym p) (next-in w s at)) (subst (λ (i : ℕ). none ≤ i) q c)

  pub fill-at-fault : k < none → filled (Err k) t ≡ fill_at w s t n at
  unfolding fill_at fill_reading
  fill-at-fault h = rw (← p, ← q) (search tests)

  pub fill-at-fill : (x : FillStep) (t' : List ℕ) → none ≤ k → filled x t' ≡ fill_by w s t n r → filled x t' ≡ fill_at w s t n at
  unfolding fill_at fill_reading
  fill-at-fill x t' h e = rw (← p, ← q, ← e) (search tests)

pub ruleset fill-steps = (fill-at-fault, fill-at-fill)

-- a row that was made is that of the token
word-is : (kind : ℕ) (text : List ℕ) → is_named kind ≡ true → word_of kind text ≡ word_named kind text
unfolding word_of word_named
word-is kind text e = if_true-yes _ _ e

no_word : (kind : ℕ) (text : List ℕ) → is_named kind ≡ false → word_of kind text ≡ 0
unfolding word_of
no_word kind text e = if_true-no _ _ e

module _ (w : Width) (s t : List ℕ) (n at : ℕ) (ts : List Token) (x : Lexeme) (h : LexemeIn s at x) (r : take (n * 8) t ≡ rows_of ts) (c : n ≡ length ts)
    (v : Every (Spelt s) ts) where
  row-is-named : is_named x.kind ≡ true → words_of (row_from w s t n x) ≡ row_of (token_of w s ts x)
  unfolding row_of token_of row_from
  row-is-named e =
      let m : text_of s x.kind x.start ≡ name_at s x.start = text-named s x.kind x.start e in
      let sz : x.size ≡ length (text_of s x.kind x.start) = h.sized in
      let hs : x.hash ≡ hash_of (text_of s x.kind x.start) = h.hashed in
      let wd : word_named x.kind (name_at s x.start) ≡ word_of x.kind (text_of s x.kind x.start) = ap (word_named x.kind) (sym m) ∙ sym (word-is x.kind (text_of s x.kind x.start) e) in
      let nm : find_name s t n x.hash x.start ≡ name_number ts (text_of s x.kind x.start) = ap (λ (i : ℕ). find_name s t n i x.start) (hs ∙ ap hash_of m) ∙ number_is s t ts n x.start r c v ∙ ap (name_number ts) (sym m) in
      ap (λ (y : Row). words_of y) (if_true-yes _ _ e)
      ∙ ap (λ (i : ℕ). x.kind ∷ x.first ∷ x.next ∷ token_value w x.kind (unwrap_or x.value 0) i (word_named x.kind (name_at s x.start)) ∷ find_name s t n x.hash x.start ∷ word_named x.kind (name_at s x.start) ∷ x.hash ∷ 0 ∷ []) sz
      ∙ ap (λ (i : ℕ). x.kind ∷ x.first ∷ x.next ∷ token_value w x.kind (unwrap_or x.value 0) (length (text_of s x.kind x.start)) i ∷ find_name s t n x.hash x.start ∷ i ∷ x.hash ∷ 0 ∷ []) wd
      ∙ ap₂ (λ (i j : ℕ). x.kind ∷ x.first ∷ x.next ∷ token_value w x.kind (unwrap_or x.value 0) (length (text_of s x.kind x.start)) (word_of x.kind (text_of s x.kind x.start)) ∷ i ∷ word_of x.kind (text_of s x.kind x.start) ∷ j ∷ 0 ∷ []) (nm ∙ sym (if_true-yes _ _ e)) hs

  row-is-plain : is_named x.kind ≡ false → words_of (row_from w s t n x) ≡ row_of (token_of w s ts x)
  unfolding row_of token_of row_from
  row-is-plain e =
      let wd : 0 ≡ word_of x.kind (text_of s x.kind x.start) = sym (no_word x.kind (text_of s x.kind x.start) e) in
      ap (λ (y : Row). words_of y) (if_true-no _ _ e)
      ∙ ap (λ (i : ℕ). x.kind ∷ x.first ∷ x.next ∷ token_value w x.kind (unwrap_or x.value 0) i 0 ∷ 0 ∷ 0 ∷ x.hash ∷ 0 ∷ []) h.sized
      ∙ ap (λ (i : ℕ). x.kind ∷ x.first ∷ x.next ∷ token_value w x.kind (unwrap_or x.value 0) (length (text_of s x.kind x.start)) i ∷ 0 ∷ i ∷ x.hash ∷ 0 ∷ []) wd
      ∙ ap₂ (λ (i j : ℕ). x.kind ∷ x.first ∷ x.next ∷ token_value w x.kind (unwrap_or x.value 0) (length (text_of s x.kind x.start)) (word_of x.kind (text_of s x.kind x.start)) ∷ i ∷ word_of x.kind (text_of s x.kind x.start) ∷ j ∷ 0 ∷ []) (sym (if_true-no _ _ e)) h.hashed

  row_is : words_of (row_from w s t n x) ≡ row_of (token_of w s ts x)
  row_is = by (is_named x.kind) refl
    where
      by : (b : Bool) → is_named x.kind ≡ b → words_of (row_from w s t n x) ≡ row_of (token_of w s ts x)
      by true e = row-is-named e
      by false e = row-is-plain e

  spelt_is : Spelt s (token_of w s ts x)
  unfolding token_of
  spelt_is e = text-named s x.kind x.start e ∙ ap (name_at s) (h.started e ∙ ap (name_start s x.kind) (sym h.first-is))

-- the loop of `lex_from`
pub record Lexing (w : Width) (s t : List ℕ) (at n : ℕ) : Type 0 where
  pub tokens : List Token
  pub long : length t ≡ 32768
  pub few : n ≤ 4096
  pub count : n ≡ length tokens
  pub within : at ≤ length s
  pub rows : take (n * 8) t ≡ rows_of tokens
  pub spelt : Every (Spelt s) tokens
  pub runs : Runs (lex_step w s) (refused none) (tokens_from w s (state 0 [])) (state at tokens) (suc (length s - at))

pub lexing-start : (w : Width) (s t : List ℕ) → length t ≡ 32768 → Lexing w s t 0 0
unfolding tokens_from rows_of
lexing-start w s t h =
    record {
      tokens = [];
      long = h;
      few = omega arith;
      count = refl;
      within = omega arith;
      rows = refl;
      spelt = tt;
      runs = runs-start _ _ _ _ _ (omega arith);
    }

-- one step of the definition, by what is read
step-fault : (w : Width) (s : List ℕ) (at n : ℕ) (ts : List Token) (r : Reading) → r ≡ next_read w s at → n ≡ length ts → fault_of s n r < none
    → lex_step w s (state at ts) ≡ stop (refused (fault_of s n r))
unfolding lex_step read_step
step-fault w s at n ts r e c h =
    ap (read_step w s (state at ts)) (sym e)
    ∙ ap (λ (m : ℕ). if_lt (fault_of s m r) none (stop (refused (fault_of s m r))) (token_step w s (state at ts) r)) (sym c) ∙ if_lt-yes _ _ h

step-good : (w : Width) (s : List ℕ) (at n : ℕ) (ts : List Token) (r : Reading) → r ≡ next_read w s at → n ≡ length ts → none ≤ fault_of s n r
    → lex_step w s (state at ts) ≡ token_step w s (state at ts) r
unfolding lex_step read_step
step-good w s at n ts r e c h =
    ap (read_step w s (state at ts)) (sym e)
    ∙ ap (λ (m : ℕ). if_lt (fault_of s m r) none (stop (refused (fault_of s m r))) (token_step w s (state at ts) r)) (sym c) ∙ if_lt-no _ _ h

-- what one step of the code leaves, by what was read
pub record Grown (w : Width) (s t : List ℕ) (at n next : ℕ) (t' : List ℕ) : Type 0 where
  pub lexeme : Lexeme
  pub next-is : next ≡ lexeme.next
  pub reads : Ok (Some lexeme) ≡ next_read w s at
  pub clean : none ≤ fault_of s n (Ok (Some lexeme))
  pub table : t' ≡ put_row t n (row_from w s t n lexeme)

pub record Ended (w : Width) (s t : List ℕ) (at n : ℕ) (t' : List ℕ) : Type 0 where
  pub reads : (Ok None) ≡ next_read w s at
  pub clean : none ≤ fault_of s n (Ok None)
  pub table : t' ≡ t

pub record Failed (w : Width) (s t : List ℕ) (at n k : ℕ) (t' : List ℕ) : Type 0 where
  pub reading : Reading
  pub reads : reading ≡ next_read w s at
  pub key-is : k ≡ fault_of s n reading
  pub fault : k < none
  pub table : t' ≡ t

abbrev FillFactsBy : Width → List ℕ → List ℕ → ℕ → ℕ → List ℕ → FillStep → Type 0
FillFactsBy w s t at n t' (Ok (Some next)) = Grown w s t at n next t'
FillFactsBy w s t at n t' (Ok None) = Ended w s t at n t'
FillFactsBy w s t at n t' (Err k) = Failed w s t at n k t'

abbrev FillFacts : Width → List ℕ → List ℕ → ℕ → ℕ → Filled → Type 0
FillFacts w s t at n y = FillFactsBy w s t at n y.table y.fill_step

clean-fill-at : (w : Width) (s t : List ℕ) (at n : ℕ) (r : Reading) → r ≡ next_read w s at → none ≤ fault_of s n r → FillFacts w s t at n (fill_by w s t n r)
unfolding fill_by
clean-fill-at w s t at n (Ok None) e c = record { reads = e; clean = c; table = refl }
clean-fill-at w s t at n (Err (Lone p)) e c = let z : ⊥ = omega (arith, lone-fault s n p) in absurd z
clean-fill-at w s t at n (Err (Broken p)) e c = let z : ⊥ = omega (arith, broken-fault s n p) in absurd z
clean-fill-at w s t at n (Err (Open p)) e c = let z : ⊥ = omega (arith, open-fault s n p) in absurd z
clean-fill-at w s t at n (Ok (Some x)) e c = record { lexeme = x; next-is = refl; reads = e; clean = c; table = refl }

any-fill-at : (w : Width) (s t : List ℕ) (at n : ℕ) (r : Reading) → r ≡ next_read w s at → FillFacts w s t at n (fill_reading w s t n r)
unfolding fill_reading
any-fill-at w s t at n r e =
    either (FillFacts w s t at n) (fault_of s n r) none _ _
    (λ h. record { reading = r; reads = e; key-is = refl; fault = h; table = refl })
    (λ h. clean-fill-at w s t at n r e h)

fill-at-facts : (w : Width) (s t : List ℕ) (at n : ℕ) (x : FillStep) (t' : List ℕ) → filled x t' ≡ fill_at w s t n at → FillFactsBy w s t at n t' x
unfolding fill_at
fill-at-facts w s t at n x t' e = subst (FillFacts w s t at n) (sym e) (any-fill-at w s t at n (next_read w s at) refl)

module _ (w : Width) (s t : List ℕ) (at n : ℕ) (x : FillStep) (t' : List ℕ) (h : Lexing w s t at n) (e : filled x t' ≡ fill_at w s t n at) where
  more-facts : (next : ℕ) → x ≡ Ok (Some next) → Grown w s t at n next t'
  more-facts next q = subst (FillFactsBy w s t at n t') q (fill-at-facts w s t at n x t' e)

  grown-in : (next : ℕ) (g : Grown w s t at n next t') → LexemeIn s (gap_end s at) g.lexeme
  grown-in next g = subst (ReadingIn s (gap_end s at)) (sym g.reads) (next-in w s at)

  grown-few : (next : ℕ) → Grown w s t at n next t' → n < 4096
  grown-few next g = clean-limit n g.lexeme.first (whole-clean s n g.lexeme g.clean).2

  grown-ahead : (next : ℕ) (g : Grown w s t at n next t') → (at < next) × (next ≤ length s)
  grown-ahead next g =
      let i : LexemeIn s (gap_end s at) g.lexeme = grown-in next g in
      let o : at ≤ gap_end s at = (gap-in s at).0.0 in
      (omega (arith, g.next-is, i.ahead), omega (arith, g.next-is, i.within))

  pub lexing-less : (next : ℕ) → x ≡ Ok (Some next) → length s - next < length s - at
  lexing-less next q = let a : (at < next) × (next ≤ length s) = grown-ahead next (more-facts next q) in omega (arith, a.0, a.1)

  grow : (next : ℕ) → Grown w s t at n next t' → Lexing w s t' next (n + 1)
  unfolding token_step
  grow next g =
      let i : LexemeIn s (gap_end s at) g.lexeme = grown-in next g in
      let a : (at < next) × (next ≤ length s) = grown-ahead next g in
      let f : n < 4096 = grown-few next g in
      let l : length t ≡ 32768 = h.long in
      let m : n * 8 + 8 ≤ length t = omega arith in
      record {
        tokens = h.tokens ++ (token_of w s h.tokens g.lexeme ∷ []);
        long = ap length g.table ∙ length-put t n (row_from w s t n g.lexeme) m ∙ l;
        few = omega arith;
        count = ap (λ (j : ℕ). j + 1) h.count ∙ sym (length-append h.tokens (token_of w s h.tokens g.lexeme ∷ []));
        within = a.1;
        rows = ap (take ((n + 1) * 8)) g.table ∙ taken-put t n (row_from w s t n g.lexeme) m ∙ ap₂ ◌++◌ h.rows (row_is w s t n (gap_end s at) h.tokens g.lexeme i h.rows h.count h.spelt) ∙ sym (rows_more h.tokens (token_of w s h.tokens g.lexeme));
        spelt = every_more (Spelt s) h.tokens (token_of w s h.tokens g.lexeme) h.spelt (spelt_is w s t n (gap_end s at) h.tokens g.lexeme i h.rows h.count h.spelt);
        runs = runs-go _ _ _ _ _ (length s - at) _ h.runs (step-good w s at n h.tokens (Ok (Some g.lexeme)) g.reads h.count g.clean ∙ ap (λ (j : ℕ). go (state j (h.tokens ++ (token_of w s h.tokens g.lexeme ∷ [])))) (sym g.next-is)) (omega (arith, a.0, a.1));
      }

  pub lexing-more : (next : ℕ) → x ≡ Ok (Some next) → Lexing w s t' next (n + 1)
  lexing-more next q = grow next (more-facts next q)

  -- the end: accepted
  end-facts : x ≡ Ok None → Ended w s t at n t'
  end-facts q = subst (FillFactsBy w s t at n t') q (fill-at-facts w s t at n x t' e)

  end_is : Ended w s t at n t' → accepted h.tokens ≡ tokens_from w s (state 0 [])
  unfolding token_step
  end_is d = runs-stop _ _ _ _ _ _ h.runs (step-good w s at n h.tokens (Ok None) d.reads h.count d.clean)

  pub done-answer : x ≡ Ok None → Ok n ≡ answer_of (tokens_from w s (state 0 []))
  unfolding answer_of
  done-answer q = ap (λ (m : ℕ). Ok m) h.count ∙ ap answer_of (end_is (end-facts q))

  table_is : Ended w s t at n t' → cleared_from t' (n * 8) ≡ token_table h.tokens
  unfolding cleared_from token_table
  table_is d =
      ap (λ (l : List ℕ). take (n * 8) l ++ zeros (length l - n * 8)) d.table
      ∙ ap₂ (λ (l : List ℕ) (j : ℕ). l ++ zeros j) h.rows
      (ap₂ ◌-◌ h.long (ap (λ (j : ℕ). j * 8) h.count ∙ sym (length-rows h.tokens)))

  pub done-table : (t'' : List ℕ) → x ≡ Ok None → t'' ≡ cleared_from t' (n * 8) → t'' ≡ table_of (tokens_from w s (state 0 []))
  unfolding table_of
  done-table t'' q f = f ∙ table_is (end-facts q) ∙ ap table_of (end_is (end-facts q))

  -- a fault: refused
  fault-facts : (k : ℕ) → x ≡ Err k → Failed w s t at n k t'
  fault-facts k q = subst (FillFactsBy w s t at n t') q (fill-at-facts w s t at n x t' e)

  fault-is : (k : ℕ) → Failed w s t at n k t' → refused k ≡ tokens_from w s (state 0 [])
  fault-is k d =
      ap refused d.key-is
      ∙ runs-stop _ _ _ _ _ _ h.runs (step-fault w s at n h.tokens d.reading d.reads h.count (subst (λ (i : ℕ). i < none) d.key-is d.fault))

  pub fault-answer : (k : ℕ) → x ≡ Err k → Err (record { number = k % 64; place = k / 64 }) ≡ answer_of (tokens_from w s (state 0 []))
  unfolding answer_of
  fault-answer k q = ap answer_of (fault-is k (fault-facts k q))

  empty-is : (k : ℕ) → Failed w s t at n k t' → cleared_from t' 0 ≡ zeros 32768
  unfolding cleared_from
  empty-is k d =
      let z : length t' - 0 ≡ 32768 = omega (arith, ap length d.table, h.long) in ap zeros z

  pub fault-table : (k : ℕ) (t'' : List ℕ) → x ≡ Err k → t'' ≡ cleared_from t' 0 → t'' ≡ table_of (tokens_from w s (state 0 []))
  unfolding table_of
  fault-table k t'' q f = f ∙ empty-is k (fault-facts k q) ∙ ap table_of (fault-is k (fault-facts k q))

pub ruleset lexing = (lexing-start, lexing-more, done-answer, done-table, fault-answer, fault-table)

-- `lex`
pub clear-all : (t t' : List ℕ) → t' ≡ cleared_from t 0 → t' ≡ zeros (length t)
unfolding cleared_from
clear-all t t' e = let z : length t - 0 ≡ length t = omega arith in e ∙ ap zeros z

module _ (w : Width) (s : List ℕ) where
  long-is : 16384 < length s → lex_of w s ≡ refused (key 16384 1)
  unfolding lex_of
  long-is h = if_lt-yes _ _ h

  short-is : length s ≤ 16384 → lex_of w s ≡ tokens_from w s (state 0 [])
  unfolding lex_of
  short-is h = if_lt-no _ _ h

  pub long-answer : (r : Lexed) → 16384 < length s → r ≡ Err (record { number = 1; place = 16384 }) → r ≡ answer_of (lex_of w s)
  unfolding answer_of key
  long-answer r h e = e ∙ ap answer_of (sym (long-is h))

  pub long-table : (t t' : List ℕ) → 16384 < length s → length t ≡ 32768 → t' ≡ zeros (length t) → t' ≡ table_of (lex_of w s)
  unfolding table_of
  long-table t t' h l e = e ∙ ap zeros l ∙ ap table_of (sym (long-is h))

  pub short-answer : (r : Lexed) → length s ≤ 16384 → r ≡ answer_of (tokens_from w s (state 0 [])) → r ≡ answer_of (lex_of w s)
  short-answer r h e = e ∙ ap answer_of (sym (short-is h))

  pub short-table : (t' : List ℕ) → length s ≤ 16384 → t' ≡ table_of (tokens_from w s (state 0 [])) → t' ≡ table_of (lex_of w s)
  short-table t' h e = e ∙ ap table_of (sym (short-is h))

pub ruleset wholes = (long-answer, long-table, short-answer, short-table)
