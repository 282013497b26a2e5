use mathlib.Core.Path.{refl}
use mathlib.Core.List.{[]}
use Prim.Native.Nat.{◌<◌}
use borrow.Author.Rules.{rules}
use Rattle.std.proofs.lemmas.Result.{err_from_is_err_and}
use Rattle.check_judge.proofs.Lexed.{judge-tokens, judge-refused, token-count}
use Rattle.check_judge.proofs.judge.Goals as goal

pub returns-in_err-n : goal.returns-in_err-n
returns-in_err-n c =
    let p = err_from_is_err_and c.from_residual.result c.from_residual.ensures.1 in
    rw (p.1, p.2) (judge-refused _ _ _ _ _ _ c.in_err-n.ensures.value c.in_err-n.ensures.t_after _ refl)

pub overflow_cast-n : goal.overflow_cast-n
overflow_cast-n c =
    let small : c.in_ok-n.field-0 < 4294967296 = token-count [] [] _ _ _ _ c.in_ok-n.ensures.value c.in_ok-n.ensures.t_after _ refl in
    search rules

pub returns : goal.returns
returns c =
    judge-tokens _ _ _ _ _ _ c.in_ok-n.ensures.value c.in_ok-n.ensures.t_after _ refl _ _ c.mark_hosts.ensures c.judge_tokens.ensures
