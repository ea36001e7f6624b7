use Rattle.book_office_members.proofs.Common.{empty, patch}
use Rattle.book_office_sync.specs.Views.{viewed}
use Rattle.book_office_sync.proofs.ViewCopies.{view_copied}
use Rattle.book_office_members.proofs.reporting.group_members.Goals as goal

pub returns : goal.returns
returns g c =
    let read = c.in_ok-cards.ensures in
    record {
      was_honest = read.was_honest;
      falls = read.falls;
      value = λ h o stands. (
        patch empty (viewed o c.args.circle.now c.args.book.now 0),
        view_copied o c.args.circle.now c.args.book.now ((g.K.Keeper.standing c.args.keeper.now).sound o stands),
        (c.in_ok-cards.cards, read.value h o stands, c.in_ok-members_told.ensures),
      );
      kept = read.kept;
      left = read.left;
      counted = read.counted;
    }
