-- One law for each way through a function of this crate.
-- Assumes nothing.
use mathlib.Core.Path.{◌≡◌, ◌∙◌, ap, ap₂}
use mathlib.Core.List.{List}
use Prim.Native.Nat.{ℕ, ◌%◌}
use Rattle.base_limits.specs.declared.Width.TheVariants.{Bits32}
use Rattle.res_hosts.specs.Marks.{host_list}
use Rattle.res_hosts.specs.Lister.{lister_hosts}
use Rattle.check_source.specs.Check.{lent, Filled, filled, check_of}
use Rattle.std.proofs.Common.{Ok, Err}
use Rattle.check_source.specs.Checked.{Checked, Counts, Refusal}
use Rattle.app_page.specs.Page.{Shown, shown_on, accepted_page, refused_page}
use Rattle.app_listing.specs.Listing.{full_tables, page_by, page_of, list_of}

module _ (s : List ℕ) (x : Checked) (table names rows out : List ℕ) (z : Shown) where
  pub page-accepted : (p : Counts) → x ≡ Ok p → z ≡ shown_on (accepted_page p.statements p.labels p.size table names rows) out
      → z ≡ shown_on (page_by s x table names rows) out
  unfolding page_by
  page-accepted p e q = rw e q

  pub page-refused : (r : Refusal) → x ≡ Err r → z ≡ shown_on (refused_page s r.number (r.place % 4294967296)) out → z ≡ shown_on (page_by s x table names rows) out
  unfolding page_by
  page-refused r e q = rw e q

pub ruleset paging = (page-accepted, page-refused)

lent_is : (l m n o p : ℕ) → l ≡ 32768 → m ≡ 27648 → n ≡ 1024 → o ≡ 16384 → p ≡ 32768 → lent l m n o p ≡ full_tables
lent_is l m n o p hl hm hn ho hp = rw (hl, hm, hn, ho, hp)

pub list-is : (s : List ℕ) (x : Checked) (hosts host_names a b c d e out : List ℕ) (l m n o p : ℕ) (z : Shown) → hosts ≡ lister_hosts.words → host_names ≡ lister_hosts.names
    → l ≡ 32768 → m ≡ 27648 → n ≡ 1024 → o ≡ 16384 → p ≡ 32768 → filled x a b c d e ≡ check_of Bits32 (host_list hosts host_names) s (lent l m n o p)
    → z ≡ shown_on (page_by s x c d b) out → z ≡ shown_on (list_of s) out
unfolding list_of page_of
list-is s x hosts host_names a b c d e out l m n o p z g f hl hm hn ho hp h q =
    let k : filled x a b c d e ≡ check_of Bits32 lister_hosts s full_tables
    = h ∙ ap₂ (λ (i j : List ℕ). check_of Bits32 (host_list i j) s (lent l m n o p)) g f ∙ ap (check_of Bits32 lister_hosts s) (lent_is l m n o p hl hm hn ho hp) in
    q ∙ ap (λ (v : Filled). shown_on (page_by s v.answer v.labels v.names v.statements) out) k
