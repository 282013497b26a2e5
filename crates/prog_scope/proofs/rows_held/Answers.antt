use borrow.Author.Rules.{rules}
use Rattle.prog_scope.proofs.Loops.{holding, holding-more, holding-long}
use Rattle.prog_scope.proofs.rows_held.Goals as goal

pub loop-n-init : goal.loop-n-init
loop-n-init c =
    search (holding, rules)

pub note_let-requires : goal.note_let-requires
note_let-requires c =
    search (holding, rules)

pub loop-n-preserved : goal.loop-n-preserved
loop-n-preserved c =
    holding-more c.args.t.now c.args.c c.args.l.now c.args.k c.args.d c.loop-n.x c.args.y.now c.loop-n.n c.loop-n.invariant c.loop-n-test.true
    c.row_held.result c.row_held.ensures _ c.if-not-row_held.false c.note_let.ensures

pub returns-then-not-row_held : goal.returns-then-not-row_held
returns-then-not-row_held c =
    search (holding, rules)

pub shape_of-x : goal.shape_of-x
shape_of-x c =
    search holding-long

pub returns : goal.returns
returns c =
    search (holding, rules)
