use Rattle.std.proofs.Common.{◌≡◌, ◌+◌, get_or, rules}
use Rattle.std.proofs.lemmas.Option.{gets}
use Rattle.file_tables.proofs.Cases.{naming}
use Rattle.file_tables.proofs.unpack_name.Goals as goal

pub loop-j-init : goal.loop-j-init
loop-j-init c =
    search naming

pub loop-j-preserved : goal.loop-j-preserved
loop-j-preserved c =
    let e : c.unwrap_or.result ≡ get_or c.args.x.now (c.label_head-head.result + c.loop-j.j) 0 = search (rules, gets) in
    search naming

pub returns : goal.returns
returns c =
    search naming
