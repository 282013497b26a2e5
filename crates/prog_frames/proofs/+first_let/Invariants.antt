use Rattle.prog_frames.proofs.+first_let.Given as goal

abbrev pub decreases-first_let : goal.decreases-first_let
decreases-first_let l = l.fuel
