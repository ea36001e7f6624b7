use Rattle.book_office_sync.proofs.Common.{option_copied}
use Rattle.std.proofs.lemmas.Result.{IfOk-weaker}
use Rattle.book_office_sync.proofs.BringingCopies.{brings}
use Rattle.book_office_sync.proofs.reports.sync_report.Goals as goal

pub returns-clause-copies : goal.returns-clause-copies
returns-clause-copies g c =
    let read = c.read_report.ensures in
    record {
      was_honest = read.was_honest;
      falls = read.falls;
      value = λ h. IfOk-weaker c.read_report.result _ _ (λ report told o stands.
          brings o c.args.circle.now c.args.book.now ((g.K.Keeper.standing c.args.keeper.now).sound o stands) (option_copied c.args.token) c.args.limit report (told o stands)) (read.value h);
      kept = read.kept;
      left = read.left;
      counted = read.counted;
    }
