-- One law for each way through a function of this crate.
-- Assumes nothing.
use mathlib.Core.Path.{◌≡◌, ◌∙◌, ap, subst}
use mathlib.Core.Bool.{Bool, true, false}
use mathlib.Core.List.{List}
use Prim.Native.Nat.{ℕ, ◌+◌, ◌*◌, ◌≤◌, ◌<◌}
use lib.ListN.{length, get_or, take}
use Rattle.base_prelude.specs.Bytes.{byte_at}
use Rattle.base_prelude.specs.Fault.{none, key}
use Rattle.base_prelude.specs.Lists.{same_list, overlay}
use Rattle.base_prelude.proofs.Choice.{tests}
use Rattle.base_limits.specs.Width.{bits_of, bytes_of}
use Rattle.base_limits.specs.declared.Width.{Width}
use Rattle.lang_words.specs.Sections.{known_of}
use Rattle.lang_words.specs.Substitutes.{substitute_of}
use Rattle.lex_spelling.specs.Classes.{is_separator}
use Rattle.lex_spelling.specs.Text.{name_at, spelled_at}
use Rattle.lex_spelling.proofs.Loops.{overlay-front}
use Rattle.lex_lexeme.specs.declared.Lexeme.{Lexeme}
use Rattle.lex_lexeme.specs.Reading.{is_named, name_start}
use Rattle.lex_source.specs.Token.{is_substitute, substitute_value, token_value}
use Rattle.lex_source.specs.Faults.{range_fault, length_fault, limit_fault, follow_fault}
use Rattle.lex_source.specs.Filling.{row_named, word_named}
use Rattle.std.specs.Prelude.{is_some}

module _ (w : Width) (k : ℕ) where
  pub stands-bits : (v : ℕ) → k ≡ 1 → v ≡ bits_of w → v ≡ substitute_value w k
  unfolding substitute_value
  stands-bits v e p = rw (← p) (search tests)

  pub stands-bytes : (v : ℕ) → (k ≡ 1 → ⊥) → k ≡ 2 → v ≡ bytes_of w → v ≡ substitute_value w k
  unfolding substitute_value
  stands-bytes v e f p = rw (← p) (search tests)

  pub stands-none : (k ≡ 1 → ⊥) → (k ≡ 2 → ⊥) → 0 ≡ substitute_value w k
  unfolding substitute_value
  stands-none e f = search tests

pub ruleset standing = (stands-bits, stands-bytes, stands-none)

module _ (w : Width) (kind value size word : ℕ) (b : Bool) (p : b ≡ is_substitute kind) where
  pub value-substitute : (v : ℕ) → b ≡ true → v ≡ substitute_value w word → v ≡ token_value w kind value size word
  unfolding token_value
  value-substitute v e q = rw (← p, ← q) (search tests)

  pub value-integer : b ≡ false → kind ≡ 7 → value ≡ token_value w kind value size word
  unfolding token_value
  value-integer e f = rw (← p) (search tests)

  pub value-at : b ≡ false → (kind ≡ 7 → ⊥) → kind ≡ 8 → value ≡ token_value w kind value size word
  unfolding token_value
  value-at e f g = rw (← p) (search tests)

  pub value-text : b ≡ false → (kind ≡ 7 → ⊥) → (kind ≡ 8 → ⊥) → size ≡ token_value w kind value size word
  unfolding token_value
  value-text e f g = rw (← p) (search tests)

pub ruleset valuing = (value-substitute, value-integer, value-at, value-text)

module _ (x : Lexeme) where
  pub range-good : (b : Bool) → b ≡ is_some x.value → b ≡ true → none ≡ range_fault x
  unfolding range_fault
  range-good b p e = rw (← p) (search tests)

  pub range-bad : (b : Bool) (k : ℕ) → b ≡ is_some x.value → b ≡ false → k ≡ key x.first 5 → k ≡ range_fault x
  unfolding range_fault
  range-bad b k q e p = rw (← q, ← p) (search tests)

  pub length-long : (b : Bool) (k : ℕ) → b ≡ is_named x.kind → b ≡ true → 64 < x.size → k ≡ key x.first 6 → k ≡ length_fault x
  unfolding length_fault
  length-long b k p e h q = rw (← p, ← q) (search tests)

  pub length-good : (b : Bool) → b ≡ is_named x.kind → b ≡ true → x.size ≤ 64 → none ≡ length_fault x
  unfolding length_fault
  length-good b p e h = rw (← p) (search tests)

  pub length_none : (b : Bool) → b ≡ is_named x.kind → b ≡ false → none ≡ length_fault x
  unfolding length_fault
  length_none b p e = rw (← p) (search tests)

module _ (n place : ℕ) where
  pub limit-good : n < 4096 → none ≡ limit_fault n place
  unfolding limit_fault
  limit-good h = search tests

  pub limit-passed : (k : ℕ) → 4096 ≤ n → k ≡ key place 14 → k ≡ limit_fault n place
  unfolding limit_fault
  limit-passed k h p = rw (← p) (search tests)

module _ (s : List ℕ) (x : Lexeme) where
  pub follow-any : x.kind < 3 → none ≡ follow_fault s x
  unfolding follow_fault
  follow-any h = search tests

  module _ (c : ℕ) (b : Bool) (h : 3 ≤ x.kind) (p : c ≡ byte_at s x.next) (q : b ≡ is_separator c) where
    pub follow-good : b ≡ true → none ≡ follow_fault s x
    unfolding follow_fault
    follow-good e = rw (← p, ← q) (search tests)

    pub follow-bad : (k : ℕ) → b ≡ false → k ≡ key x.next 2 → k ≡ follow_fault s x
    unfolding follow_fault
    follow-bad k e g = rw (← p, ← q, ← g) (search tests)

pub ruleset faulting = (range-good, range-bad, length-long, length-good, length_none, limit-good, limit-passed, follow-any, follow-good, follow-bad)

module _ (kind : ℕ) (name : List ℕ) (b : Bool) (v : ℕ) (p : b ≡ is_substitute kind) where
  pub word-substitute : b ≡ true → v ≡ substitute_of name → v ≡ word_named kind name
  unfolding word_named
  word-substitute e q = rw (← p, ← q) (search tests)

  pub word-reserved : b ≡ false → v ≡ known_of name → v ≡ word_named kind name
  unfolding word_named
  word-reserved e q = rw (← p, ← q) (search tests)

pub word-front : (s old out : List ℕ) (kind start size r : ℕ) → size ≡ length (name_at s start) → size ≤ length old
    → out ≡ overlay (spelled_at false s start).bytes old → r ≡ word_named kind (take size out) → r ≡ word_named kind (name_at s start)
unfolding name_at
word-front s old out kind start size r p h q e =
    e ∙ ap (λ (l : List ℕ). word_named kind (take size l)) q ∙ ap (λ (n : ℕ). word_named kind (take n (overlay (spelled_at false s start).bytes old))) p
    ∙ ap (word_named kind) (overlay-front (spelled_at false s start).bytes old (subst (λ (n : ℕ). n ≤ length old) p h))

pub ruleset wording = (word-substitute, word-reserved)

module _ (s t : List ℕ) (k hash start : ℕ) where
  pub row_other : (get_or t (k * 8 + 6) 0 ≡ hash → ⊥) → false ≡ row_named s t k hash start
  unfolding row_named
  row_other e = search tests

  module _ (h kind : ℕ) (b : Bool) (p : h ≡ get_or t (k * 8 + 6) 0) (e : h ≡ hash) (q : kind ≡ get_or t (k * 8) 0) (f : b ≡ is_named kind) where
    pub row-nameless : b ≡ false → false ≡ row_named s t k hash start
    unfolding row_named
    row-nameless g = rw (← p, ← q, ← f) (search tests)

    pub row-compared : (first at : ℕ) (r : Bool) → b ≡ true → first ≡ get_or t (k * 8 + 1) 0 → at ≡ name_start s kind first
        → r ≡ same_list (name_at s at) (name_at s start) → r ≡ row_named s t k hash start
    unfolding row_named
    row-compared first at r g i j l = rw (← p, ← q, ← f, ← i, ← j, ← l) (search tests)

pub ruleset comparing = (row_other, row-nameless, row-compared)
