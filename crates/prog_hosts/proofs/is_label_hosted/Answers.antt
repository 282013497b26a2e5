use Rattle.prog_hosts.proofs.Labels.{label-ways, host-low}
use borrow.Author.Rules.{rules}
use Rattle.prog_hosts.proofs.is_label_hosted.Goals as goal

pub returns-then-x-ne-IMPORT : goal.returns-then-x-ne-IMPORT
returns-then-x-ne-IMPORT c =
    search label-ways

pub returns-then-n-h : goal.returns-then-n-h
returns-then-n-h c =
    search label-ways

pub returns-then-v-h : goal.returns-then-v-h
returns-then-v-h c =
    search label-ways

pub arguments_at-requires : goal.arguments_at-requires
arguments_at-requires c =
    search (host-low, rules)

pub returns : goal.returns
returns c =
    search label-ways
