use Rattle.std.proofs.Common.{◌≡◌, ◌≤◌, ◌∙◌, true, rules, sym}
use Rattle.clap.specs.Words.{found_of, rows_of}
use Rattle.book_desk_words.proofs.Missing.{for_none, no_count}
use Rattle.book_desk_words.proofs.commands.count_in.Goals as goal

pub returns-in_err-number-clause-none : goal.returns-in_err-number-clause-none
returns-in_err-number-clause-none c =
    let is : c.is_given.result ≡ true = search rules in
    let small : c.args.most ≤ 65535 = search rules in
    for_none c.from_residual.result _
    (no_count (rows_of (found_of c.args.found.now)) c.args.id.now c.args.most (sym c.is_given.ensures ∙ is) small c.in_err-number.ensures.none)
