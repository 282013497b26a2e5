use Rattle.test_cases.proofs.Cases.{check-source-is}
use Prim.Native.Nat.{ℕ}
use lib.ListN.{length-replicate}
use Rattle.test_cases.proofs.check_source.Goals as goal

pub returns : goal.returns
returns c =
    check-source-is _ _ _ _ _ _ _ _ _ _ _ _ _ _ _ _ _ _ _ _ (length-replicate {A = ℕ} 32768 0) (length-replicate {A = ℕ} 27648 0) (length-replicate {A = ℕ} 1024 0) (length-replicate {A = ℕ} 16384 0) (length-replicate {A = ℕ} 32768 0)
    c.lister_words-hosts.ensures
    c.lister_names-host_names.ensures
    c.check-x.ensures
    c.put_words.ensures
    c.put_words-2.ensures
    c.copy_bytes.ensures
    c.copy_bytes-2.ensures
