-- Small sources: the least fault of each group, and the verdict.
-- Assumes nothing.
use mathlib.Core.Path.{◌≡◌, refl}
use mathlib.Core.List.{List, [], ◌∷◌, ◌++◌}
use Prim.Native.Nat.{ℕ}
use Rattle.base_prelude.specs.Fault.{none, key, least_of}
use Rattle.base_limits.specs.declared.Width.TheVariants.{Bits32}
use Rattle.lex_source.specs.Rows.{rows_of}
use Rattle.prog_tables.specs.Hosts.{Hosts}
use Rattle.check_source.specs.Check.{Lent, lent}
use Rattle.check_source.specs.Checked.{Checked, accepted, refused}
use Rattle.lang_kinds.specs.Grounds as ground
use Rattle.thm_acceptance.specs.Lines.{Line, lines_of, statements_before, labels_before, open_before, locals_in, blocks_in, ground_before}
use Rattle.thm_acceptance.specs.Accepts.{tokens_of, groups_of, judge, counts_of}
use Rattle.thm_acceptance.proofs.Opened.{opened}

-- the least fault of each group: 1; tokens; lines; names; 15; 16
abbrev leasts : List (List ℕ) → List ℕ
leasts [] = []
leasts (ks ∷ gs) = least_of ks ∷ leasts gs

-- `section functions` and a new line
abbrev section-line : List ℕ
section-line = 115 ∷ 101 ∷ 99 ∷ 116 ∷ 105 ∷ 111 ∷ 110 ∷ 32 ∷ 102 ∷ 117 ∷ 110 ∷ 99 ∷ 116 ∷ 105 ∷ 111 ∷ 110 ∷ 115 ∷ 10 ∷ []

-- `f: function` and a new line
abbrev function-line : List ℕ
function-line = 102 ∷ 58 ∷ 32 ∷ 102 ∷ 117 ∷ 110 ∷ 99 ∷ 116 ∷ 105 ∷ 111 ∷ 110 ∷ 10 ∷ []

-- `end function`
abbrev end_line : List ℕ
end_line = 101 ∷ 110 ∷ 100 ∷ 32 ∷ 102 ∷ 117 ∷ 110 ∷ 99 ∷ 116 ∷ 105 ∷ 111 ∷ 110 ∷ []

-- a function with no statement: 8 tokens, 2 statements, 1 label; and buffers that just hold it
abbrev plain : List ℕ
plain = section-line ++ function-line ++ end_line

-- `goto x` in it, and no `x`
abbrev astray : List ℕ
astray = section-line ++ function-line ++ (103 ∷ 111 ∷ 116 ∷ 111 ∷ 32 ∷ 120 ∷ 10 ∷ []) ++ end_line

-- `export x`, and no `x`
abbrev unexported : List ℕ
unexported = section-line ++ (101 ∷ 120 ∷ 112 ∷ 111 ∷ 114 ∷ 116 ∷ 32 ∷ 120 ∷ [])

-- the host lists `x` with one argument
abbrev hosts : Hosts
hosts = record { words = 1 ∷ 1 ∷ []; names = 120 ∷ [] }

no-fault : leasts (groups_of Bits32 hosts plain (lent 64 54 4 64 0)) ≡ none ∷ none ∷ none ∷ none ∷ none ∷ none ∷ []
unfolding opened
no-fault = refl

counts : counts_of Bits32 hosts plain ≡ accepted 8 2 1 0
unfolding opened
counts = refl

-- one word less for the tokens
short-table : leasts (groups_of Bits32 hosts plain (lent 63 54 4 64 0)) ≡ none ∷ none ∷ none ∷ none ∷ none ∷ key 0 16 ∷ []
unfolding opened
short-table = refl

unknown-target : leasts (groups_of Bits32 hosts astray (lent 96 81 4 64 0)) ≡ none ∷ none ∷ none ∷ key 35 10 ∷ none ∷ none ∷ []
unfolding opened
unknown-target = refl

unknown-export : leasts (groups_of Bits32 hosts unexported (lent 40 0 0 0 0)) ≡ none ∷ none ∷ none ∷ key 25 10 ∷ none ∷ none ∷ []
unfolding opened
unknown-export = refl

-- `import x` between functions: a label; `import y`: 10 at the name, no label
abbrev import-line : ℕ → List ℕ
import-line c = 105 ∷ 109 ∷ 112 ∷ 111 ∷ 114 ∷ 116 ∷ 32 ∷ c ∷ 10 ∷ []

listed-import : (leasts (groups_of Bits32 hosts (section-line ++ import-line 120) (lent 48 0 4 64 0)) ≡ none ∷ none ∷ none ∷ none ∷ none ∷ none ∷ [])
    × (counts_of Bits32 hosts (section-line ++ import-line 120) ≡ accepted 6 0 1 0)
unfolding opened
listed-import = (refl, refl)

unlisted-import : (leasts (groups_of Bits32 hosts (section-line ++ import-line 121) (lent 48 0 4 64 0)) ≡ none ∷ none ∷ none ∷ key 25 10 ∷ none ∷ none ∷ [])
    × (counts_of Bits32 hosts (section-line ++ import-line 121) ≡ accepted 6 0 0 0)
unfolding opened
unlisted-import = (refl, refl)

-- before the first section it is left out: 9
import-elsewhere : leasts (groups_of Bits32 hosts (import-line 120) (lent 24 0 0 0 0)) ≡ none ∷ none ∷ key 0 9 ∷ none ∷ none ∷ none ∷ []
unfolding opened
import-elsewhere = refl

-- `call x` and more in a function, before or behind the import
abbrev caller : List ℕ → List ℕ
caller more = function-line ++ (99 ∷ 97 ∷ 108 ∷ 108 ∷ 32 ∷ 120 ∷ []) ++ more ++ (10 ∷ []) ++ end_line ++ (10 ∷ [])

-- one argument: no fault; none: 13 at the name; a call before the import: 17 at the import's name
import-called : leasts (groups_of Bits32 hosts (section-line ++ import-line 120 ++ caller (32 ∷ 49 ∷ [])) (lent 128 81 8 128 0)) ≡ none ∷ none ∷ none ∷ none ∷ none ∷ none ∷ []
unfolding opened
import-called = refl

import-arguments : leasts (groups_of Bits32 hosts (section-line ++ import-line 120 ++ caller []) (lent 120 81 8 128 0)) ≡ none ∷ none ∷ none ∷ key 44 13 ∷ none ∷ none ∷ []
unfolding opened
import-arguments = refl

import-used : leasts (groups_of Bits32 hosts (section-line ++ caller (32 ∷ 49 ∷ []) ++ import-line 120) (lent 128 81 8 128 0)) ≡ none ∷ none ∷ none ∷ key 59 17 ∷ none ∷ none ∷ []
unfolding opened
import-used = refl

-- the first group with a fault decides, with its least
first_group : judge ((none ∷ []) ∷ (key 9 7 ∷ key 3 8 ∷ []) ∷ (key 1 10 ∷ []) ∷ []) (accepted 8 2 1 0) ≡ refused 8 3
unfolding opened
first_group = refl

-- ---- what stands before each line

-- `f: function a`, `block`, `let b a`, `end block`, `end function`, a line each
abbrev nested : List ℕ
nested =
    section-line
    ++ (102 ∷ 58 ∷ 32 ∷ 102 ∷ 117 ∷ 110 ∷ 99 ∷ 116 ∷ 105 ∷ 111 ∷ 110 ∷ 32 ∷ 97 ∷ 10 ∷ [])
    ++ (98 ∷ 108 ∷ 111 ∷ 99 ∷ 107 ∷ 10 ∷ 108 ∷ 101 ∷ 116 ∷ 32 ∷ 98 ∷ 32 ∷ 97 ∷ 10 ∷ 101 ∷ 110 ∷ 100 ∷ 32 ∷ 98 ∷ 108 ∷ 111 ∷ 99 ∷ 107 ∷ 10 ∷ [])
    ++ end_line

-- of each line, where f says something of the lines before it
abbrev along : (List Line → ℕ) → List Line → List Line → List ℕ
along f before [] = []
along f before (x ∷ xs) = f before ∷ along f (x ∷ before) xs

-- the rows of its tokens alone
abbrev nested_table : List ℕ
nested_table = rows_of (tokens_of Bits32 nested)

-- section, function, block, let, end block, end function, the source's end
grounds : along (ground_before nested_table) [] (lines_of nested_table)
    ≡ ground.before_sections ∷ ground.functions_section ∷ ground.in_function ∷ ground.in_block ∷ ground.in_block ∷ ground.in_function ∷ ground.functions_section ∷ []
unfolding opened
grounds = refl

-- the parameter; with the let; the block's let is gone behind its end
locals : along (λ before. locals_in (open_before nested_table before)) [] (lines_of nested_table) ≡ 0 ∷ 0 ∷ 1 ∷ 1 ∷ 2 ∷ 1 ∷ 0 ∷ []
unfolding opened
locals = refl

blocks : along (λ before. blocks_in (open_before nested_table before)) [] (lines_of nested_table) ≡ 0 ∷ 0 ∷ 0 ∷ 1 ∷ 1 ∷ 0 ∷ 0 ∷ []
unfolding opened
blocks = refl

statements-before : along statements_before [] (lines_of nested_table) ≡ 0 ∷ 0 ∷ 1 ∷ 2 ∷ 3 ∷ 4 ∷ 5 ∷ []
unfolding opened
statements-before = refl

labels-before : along (labels_before nested_table) [] (lines_of nested_table) ≡ 0 ∷ 0 ∷ 1 ∷ 1 ∷ 1 ∷ 1 ∷ 1 ∷ []
unfolding opened
labels-before = refl
