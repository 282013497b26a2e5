-- The rules that a token may break, each as the fault it finds: a key of place and number, or none.
-- Assumes nothing.
use Rattle.std.specs.Prelude.{Some, None, Ok, Err, ℕ, List, [], ◌∷◌, is_some}
use Rattle.base_prelude.specs.Choice.{if_lt, if_true}
use Rattle.base_prelude.specs.Bytes.{byte_at}
use Rattle.base_prelude.specs.Fault.{none, key, least_of}
use Rattle.base_limits.specs.Limits.{tokens, name_bytes}
use Rattle.lang_kinds.specs.Tokens as token
use Rattle.lex_spelling.specs.Classes.{is_separator}
use Rattle.lex_lexeme.specs.declared.Lexeme.{Lexeme}
use Rattle.lex_lexeme.specs.declared.TokenError.TheVariants.{Lone, Broken, Open}
use Rattle.lex_lexeme.specs.Reading.{Reading, is_named}

-- 2: "no token can be read here: the byte; a lone sign, `%` or `@` itself"
unfoldable pub lone_rule : Reading → ℕ
lone_rule (Ok None) = none
lone_rule (Err (Lone p)) = key p 2
lone_rule (Err (Broken p)) = none
lone_rule (Err (Open p)) = none
lone_rule (Ok (Some x)) = none

-- 3: "bad escape", at "the first byte that breaks the escape"; "a bad escape is its token's only refusal"
unfoldable pub escape_rule : Reading → ℕ
escape_rule (Ok None) = none
escape_rule (Err (Lone p)) = none
escape_rule (Err (Broken p)) = key p 3
escape_rule (Err (Open p)) = none
escape_rule (Ok (Some x)) = none

-- 4: "string open at line or source end: token start"
unfoldable pub open_rule : Reading → ℕ
open_rule (Ok None) = none
open_rule (Err (Lone p)) = none
open_rule (Err (Broken p)) = none
open_rule (Err (Open p)) = key p 4
open_rule (Ok (Some x)) = none

-- 5: "integer out of range: token start"
unfoldable pub range_fault : Lexeme → ℕ
range_fault x = if_true (is_some x.value) none (key x.first 5)

-- 6: "name too long: token start"
unfoldable pub length_fault : Lexeme → ℕ
length_fault x = if_true (is_named x.kind) (if_lt name_bytes x.size (key x.first 6) none) none

-- 14: "a limit passed: token", behind n tokens
unfoldable pub limit_fault : ℕ → ℕ → ℕ
limit_fault n place = if_lt n tokens none (key place 14)

-- 2: "After an integer, string, symbol or substitute comes a blank, byte 10, `#` or the end .., else refusal 2 there; anything
-- may follow a label"
unfoldable pub follow_fault : List ℕ → Lexeme → ℕ
follow_fault s x = if_lt x.kind token.symbol none (if_true (is_separator (byte_at s x.next)) none (key x.next 2))

unfoldable pub range_rule : Reading → ℕ
range_rule (Ok None) = none
range_rule (Err (Lone p)) = none
range_rule (Err (Broken p)) = none
range_rule (Err (Open p)) = none
range_rule (Ok (Some x)) = range_fault x

unfoldable pub length_rule : Reading → ℕ
length_rule (Ok None) = none
length_rule (Err (Lone p)) = none
length_rule (Err (Broken p)) = none
length_rule (Err (Open p)) = none
length_rule (Ok (Some x)) = length_fault x

unfoldable pub limit_rule : ℕ → Reading → ℕ
limit_rule n (Ok None) = none
limit_rule n (Err (Lone p)) = none
limit_rule n (Err (Broken p)) = none
limit_rule n (Err (Open p)) = limit_fault n p
limit_rule n (Ok (Some x)) = limit_fault n x.first

unfoldable pub follow_rule : List ℕ → Reading → ℕ
follow_rule s (Ok None) = none
follow_rule s (Err (Lone p)) = none
follow_rule s (Err (Broken p)) = none
follow_rule s (Err (Open p)) = none
follow_rule s (Ok (Some x)) = follow_fault s x

-- the faults of what is read behind n tokens
unfoldable pub faults_of : List ℕ → ℕ → Reading → List ℕ
faults_of s n r =
    lone_rule r ∷ escape_rule r ∷ open_rule r ∷ range_rule r ∷ length_rule r ∷ limit_rule n r ∷ follow_rule s r ∷ []

-- the least by place, then number
unfoldable pub fault_of : List ℕ → ℕ → Reading → ℕ
fault_of s n r = least_of (faults_of s n r)
