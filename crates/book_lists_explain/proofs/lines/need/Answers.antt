use Rattle.book_lists_explain.proofs.Common.{◌∷◌, Err, codes, UnknownPrivilege, FaultOfWords, AreLeaves}
use Rattle.book_lists_explain.proofs.LineFaults.{texts, passed_on, from_none, if_some, some_texts, need_told, need_unknown}
use Rattle.book_lists_explain.proofs.lines.need.Goals as goal

pub returns-in_err-set-clause-faulty : goal.returns-in_err-set-clause-faulty
returns-in_err-set-clause-faulty c =
    let names = texts c.args.names.now in
    let some = some_texts c.args.names.now c.is_empty.result c.is_empty.ensures c.if-is_empty.false in
    let P = FaultOfWords (codes "need" ∷ names) in
    passed_on c.from_residual.result P c.in_err-set.field-0.0 c.from_residual.ensures.1
    (from_none (Err c.in_err-set.field-0.0) c.leaves.result UnknownPrivilege _ P c.in_err-set.ensures.value c.leaves.ensures.unknown (λ unknown. need_unknown names some unknown))

pub returns-clause-told : goal.returns-clause-told
returns-clause-told c =
    let names = texts c.args.names.now in
    let some = some_texts c.args.names.now c.is_empty.result c.is_empty.ensures c.if-is_empty.false in
    need_told names c.in_ok-set.set some (if_some c.leaves.result (AreLeaves names) c.in_ok-set.set c.in_ok-set.ensures.ok_part c.leaves.ensures.known)
