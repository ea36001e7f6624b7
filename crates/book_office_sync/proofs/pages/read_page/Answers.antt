use Rattle.book_office_sync.proofs.Common.{rules, ◌≡◌, option_copied, subst, sym}
use Rattle.book_office_sync.specs.Pages.{IsPage, last_of_page}
use Rattle.book_office_sync.proofs.PagedChanges.{is_page}
use Rattle.book_office_sync.proofs.pages.read_page.Goals as goal

pub returns : goal.returns
returns g c =
    let read = c.in_ok-changes.ensures in
    let changes = c.in_ok-changes.changes in
    let next : c.last_of_page-next.result ≡ last_of_page c.args.size c.args.after changes = search rules in
    record {
      was_honest = read.was_honest;
      falls = read.falls;
      value = λ h o stands.
          subst (IsPage o c.args.book.now (option_copied c.args.token) c.args.after changes) (sym next)
          (is_page o c.args.book.now ((g.K.Keeper.standing c.args.keeper.now).sound o stands) (option_copied c.args.token) c.args.size c.args.after c.requires changes (read.value h o stands));
      kept = read.kept;
      left = read.left;
      counted = read.counted;
    }
