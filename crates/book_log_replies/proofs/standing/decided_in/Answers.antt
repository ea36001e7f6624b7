use Rattle.book_log_replies.proofs.Common.{◌≡◌, ◌-◌, ◌++◌, [], List, ap, sym, subst, ◌∙◌, append-nil, Some, None, true, false, option_map, slice_get, flat_map, Placed, decided, placed}
use Rattle.book_log_replies.specs.Standing.{Finds}
use Rattle.book_log_replies.proofs.Places.{decided_there}
use Rattle.book_log_replies.proofs.standing.decided_in.Goals as goal

pub returns-in-Here : goal.returns-in-Here
returns-in-Here c =
    let ls = c.args.levels.now in
    let n = c.args.number in
    let own : List Placed = flat_map (placed false) ls in
    let wanted = slice_get (flat_map (placed true) ls ++ own) (n - 1) in
    sym (decided_there ls n (Some c.in-Here.decided) c.if-number-eq0.false (subst (Finds n wanted own) c.in-Here.is (c.in_ok-decided.ensures own)))

pub returns-in-Here-2 : goal.returns-in-Here-2
returns-in-Here-2 c =
    let ls = c.args.levels.now in
    let n = c.args.number in
    let own : List Placed = flat_map (placed false) ls in
    let wanted = slice_get (flat_map (placed true) ls ++ own) (n - 1) in
    let first : wanted ≡ slice_get own c.in-Behind.rest = subst (Finds n wanted own) c.in-Behind.is (c.in_ok-decided.ensures own) in
    let second : option_map (decided n) (slice_get (own ++ []) c.in-Behind.rest) ≡ Some c.in-Here-2.decided =
    subst (Finds n (slice_get (own ++ []) c.in-Behind.rest) []) c.in-Here-2.is (c.in_ok-decided-in-Behind.ensures []) in
    sym (decided_there ls n (Some c.in-Here-2.decided) c.if-number-eq0.false
    (ap (option_map (decided n)) (first ∙ ap (λ l. slice_get l c.in-Behind.rest) (sym (append-nil own))) ∙ second))

pub returns-in-Behind-2 : goal.returns-in-Behind-2
returns-in-Behind-2 c =
    let ls = c.args.levels.now in
    let n = c.args.number in
    let own : List Placed = flat_map (placed false) ls in
    let wanted = slice_get (flat_map (placed true) ls ++ own) (n - 1) in
    let first : wanted ≡ slice_get own c.in-Behind.rest = subst (Finds n wanted own) c.in-Behind.is (c.in_ok-decided.ensures own) in
    let second : slice_get (own ++ []) c.in-Behind.rest ≡ None =
    subst (Finds n (slice_get (own ++ []) c.in-Behind.rest) []) c.in-Behind-2.is (c.in_ok-decided-in-Behind.ensures []) in
    sym (decided_there ls n None c.if-number-eq0.false
    (ap (option_map (decided n)) (first ∙ ap (λ l. slice_get l c.in-Behind.rest) (sym (append-nil own)) ∙ second)))
