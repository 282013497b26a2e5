use Rattle.base_word.proofs.with_sign.Goals as goal

pub returns-then-s : goal.returns-then-s
returns-then-s c =
    simp c.if-s.true (cc)
