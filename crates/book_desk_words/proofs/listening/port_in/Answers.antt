use Rattle.std.proofs.Common.{◌≡◌, ◌∙◌, true, rules, sym}
use Rattle.clap.specs.Words.{found_of, rows_of}
use Rattle.book_desk_words.proofs.Missing.{for_none}
use Rattle.book_desk_words.proofs.Modes.{no_port}
use Rattle.book_desk_words.proofs.listening.port_in.Goals as goal

pub returns-in_err-port-clause-none : goal.returns-in_err-port-clause-none
returns-in_err-port-clause-none c =
    let is : c.is_given.result ≡ true = search rules in
    for_none c.from_residual.result _
    (no_port (rows_of (found_of c.args.found.now)) (sym c.is_given.ensures ∙ is) c.in_err-port.ensures.none)
