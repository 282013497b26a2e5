use Prim.Native.Nat.{ℕ}
use lib.ListN.{length-replicate}
use Rattle.app_listing.proofs.Cases.{list-is}
use Rattle.app_listing.proofs.list.Goals as goal

pub returns : goal.returns
returns c =
    list-is _ _ _ _ _ _ _ _ _ _ _ _ _ _ _ _ c.lister_words-hosts.ensures c.lister_names-host_names.ensures (length-replicate {A = ℕ} 32768 0) (length-replicate {A = ℕ} 27648 0) (length-replicate {A = ℕ} 1024 0) (length-replicate {A = ℕ} 16384 0) (length-replicate {A = ℕ} 32768 0) c.check-x.ensures c.page_of.ensures
