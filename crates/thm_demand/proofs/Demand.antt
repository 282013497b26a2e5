-- Demand 3: "Take any source you accepted and any list of starts, steps and runs on its tables and data, the first an accepted start".
-- The claim itself is `Demand` of crate vm_definitions; here it is said of the tables and data that an accepting check leaves in the lent
-- buffers, at either width and whatever list the host lends.
-- Assumes nothing.
use mathlib.Core.Path.{◌≡◌, sym, subst}
use mathlib.Core.Bool.{true}
use mathlib.Core.List.{List}
use Prim.Native.Nat.{ℕ, ◌≤◌}
use native.Mathlib.Omega.{arith}
use lib.ListN.{length, length-replicate}
use Rattle.base_prelude.specs.Lists.{zeros}
use Rattle.base_limits.specs.declared.Width.{Width}
use Rattle.prog_tables.specs.Program.{program_from}
use Rattle.prog_tables.specs.Hosts.{Hosts}
use Rattle.thm_acceptance.specs.Accepts.{is_accepted}
use Rattle.check_fill.specs.Fill.{fill_of}
use Rattle.check_source.specs.Check.{Lent, Filled, accept, check_of}
use Rattle.check_source.proofs.Cases.{room-bytes}
use Rattle.lex_source.specs.Rows.{token_table}
use Rattle.res_hosts.specs.Marks.{hosted_tokens}
use Rattle.res_data.proofs.Laws.{image-long}
use Rattle.thm_soundness.specs.Program.{program_by, program_of}
use Rattle.thm_soundness.proofs.Accepted.{checks}
use Rattle.thm_soundness.proofs.Sound.{accepted-sound}
use Rattle.vm_definitions.specs.Claim.{Demand}
use Rattle.vm_definitions.proofs.Demanded.{demanded}

module _ (w : Width) (g : Hosts) (s : List ℕ) (b : Lent) (h : is_accepted (check_of w g s b).answer ≡ true) where
  data-lent : (program_of (check_of w g s b)).data_length ≤ length (check_of w g s b).bytes
  unfolding accept fill_of program_by
  data-lent =
      let q = checks w s b g h in
      subst (λ (y : Filled). (program_of y).data_length ≤ length y.bytes) (sym q.leaves)
      (omega (arith, room-bytes b.tokens b.statements b.labels b.names b.bytes (length q.tokens) q.c q.l q.size q.held, image-long w s (hosted_tokens g s (length q.tokens) (token_table q.tokens)) (zeros b.bytes), length-replicate {A = ℕ} b.bytes 0))

  pub demand-three : Demand (program_from w (program_of (check_of w g s b))) (check_of w g s b).bytes
  demand-three = demanded w (program_of (check_of w g s b)) (accepted-sound w g s b h).0 (check_of w g s b).bytes data-lent
