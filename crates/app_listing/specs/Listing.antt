-- The lister: "It reads standard input. Accepted: [..] Refused: [..]": the page of a source, as a check with full tables answers.
-- Assumes nothing.
use Rattle.std.specs.Prelude.{ℕ, ◌%◌, List, Ok, Err}
use Rattle.base_limits.specs.Limits.{token_words, data_bytes, word_values}
use Rattle.base_limits.specs.declared.Width.TheVariants.{Bits32}
use Rattle.prog_tables.specs.Layout.{statement_words, label_words, name_table}
use Rattle.res_hosts.specs.Lister.{lister_hosts}
use Rattle.check_source.specs.Check.{Lent, lent, Filled, check_of}
use Rattle.check_source.specs.Checked.{Checked}
use Rattle.app_page.specs.Page.{accepted_page, refused_page}

-- tables that can hold every source, so that 16 cannot come
abbrev pub full_tables : Lent
full_tables = lent token_words statement_words label_words name_table data_bytes

-- the page of an answer; a place has 32 bits
unfoldable pub page_by : List ℕ → Checked → List ℕ → List ℕ → List ℕ → List ℕ
page_by s (Ok p) table names rows = accepted_page p.statements p.labels p.size table names rows
page_by s (Err r) table names rows = refused_page s r.number (r.place % word_values)

unfoldable pub page_of : List ℕ → Filled → List ℕ
page_of s x = page_by s x.answer x.labels x.names x.statements

-- the page of a source: "lister and case runner lend `bath` with 1 argument and `order` with 2" (02, 3)
unfoldable pub list_of : List ℕ → List ℕ
list_of s = page_of s (check_of Bits32 lister_hosts s full_tables)

-- room for every page: a line of counts, and 256 lines of labels with names of 64 bytes
abbrev pub page_room : ℕ
page_room = 98304
