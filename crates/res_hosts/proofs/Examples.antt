-- The lister's list, and which names get a mark, computed.
-- Assumes nothing.
use mathlib.Core.Path.{◌≡◌, refl}
use mathlib.Core.Bool.{true, false}
use mathlib.Core.List.{List, [], ◌∷◌, ◌++◌}
use Prim.Native.Nat.{ℕ}
use Rattle.lang_words.specs.Numbers as word
use Rattle.lang_kinds.specs.Tokens as token
use Rattle.parse_lines.specs.Tokens.{token_word}
use Rattle.prog_tables.specs.Hosts.{mark_of, host_mark}
use Rattle.prog_tables.proofs.Opened as tables
use Rattle.res_hosts.specs.Marks.{is_import}
use Rattle.res_hosts.specs.Lister.{bath, order, lister_hosts}

-- "`bath` with 1 argument and `order` with 2"; `bat` is not listed
listed : (host_mark lister_hosts bath ≡ mark_of 0 1) × (host_mark lister_hosts order ≡ mark_of 1 2) × (host_mark lister_hosts (98 ∷ 97 ∷ 116 ∷ []) ≡ 0)
unfolding tables.opened
listed = (refl, refl, refl)

-- a token's row: kind and word
abbrev row : ℕ → ℕ → List ℕ
row kind w = kind ∷ 0 ∷ 0 ∷ 0 ∷ 0 ∷ w ∷ 0 ∷ 0 ∷ []

-- `import x`, `import "x"`, `export x`, `import` with nothing behind it
imports : (is_import (row token.symbol word.import ++ row token.symbol 0) 0 ≡ true) × (is_import (row token.symbol word.import ++ row token.string 0) 0 ≡ false)
    × (is_import (row token.symbol word.export ++ row token.symbol 0) 0 ≡ false) × (is_import (row token.symbol word.import) 0 ≡ false)
unfolding tables.opened is_import token_word
imports = (refl, refl, refl, refl)
