-- The worked pages, computed from the bytes of their sources.
-- Assumes nothing.
use mathlib.Core.Path.{◌≡◌, refl}
use mathlib.Core.List.{[]}
use Rattle.base_limits.specs.declared.Width.TheVariants.{Bits32}
use Rattle.prog_tables.specs.Hosts.{Hosts}
use Rattle.check_source.specs.Check.{lent, refuse, check_of}
use Rattle.check_source.specs.Checked.{accepted}
use Rattle.app_listing.specs.Cases.{case1, case1-page, empty-page, one_byte}
use Rattle.app_listing.specs.Listing.{list_of}
use Rattle.app_listing.proofs.Opened.{opened}

-- "(1) the page above"
pub case1-listed : list_of case1 ≡ case1-page
unfolding opened
case1-listed = refl

-- "(3) empty source: `accepted 0 0 0`"
pub empty-listed : list_of [] ≡ empty-page
unfolding opened
empty-listed = refl

-- a host without a list
abbrev no_hosts : Hosts
no_hosts = record { words = []; names = [] }

-- buffers that are just long enough
pub exact-accepted : (check_of Bits32 no_hosts one_byte (lent 56 0 4 64 1)).answer ≡ accepted 7 0 1 1
unfolding opened
exact-accepted = refl

-- 16 and zeros: a token table one word short, a data buffer one byte short
pub short-tokens : check_of Bits32 no_hosts one_byte (lent 55 0 4 64 1) ≡ refuse 16 0 (lent 55 0 4 64 1)
unfolding opened
short-tokens = refl

pub short-data : check_of Bits32 no_hosts one_byte (lent 56 0 4 64 0) ≡ refuse 16 0 (lent 56 0 4 64 0)
unfolding opened
short-data = refl
