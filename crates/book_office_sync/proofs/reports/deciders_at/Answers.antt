use Rattle.book_office_sync.proofs.Common.{◌≡◌, ◌∙◌, ◌++◌, [], ap, sym, subst}
use Rattle.std.proofs.Common.{append_assoc}
use Rattle.book_lists.specs.Deciders.{IsDeciders}
use Rattle.book_lists.specs.Readings.{read_by}
use Rattle.book_lists.proofs.OneReader.{read_append}
use Rattle.book_office_sync.specs.Reading.{entries_under}
use Rattle.book_office_sync.proofs.reports.deciders_at.Goals as goal

pub returns : goal.returns
returns c =
    let circle = c.args.circle.now in
    let here = c.args.here.now in
    let set = c.args.set in
    let a = c.args.above.now in
    let own = c.args.own.now in
    let one = c.over.ensures.scanned set [] c.start-deciders.ensures in
    let two = c.over-2.ensures.scanned set _ one in
    let three = c.over-3.ensures.scanned set _ two in
    let read : (read_by circle here c.as_slice.result.now ++ read_by circle here c.as_slice-2.result.now) ++ read_by circle here c.as_slice-3.result.now
    ≡ read_by circle here (entries_under a own) =
    (λ k. (read_by circle here (c.as_slice.ensures k) ++ read_by circle here (c.as_slice-2.ensures k)) ++ read_by circle here (c.as_slice-3.ensures k))
    ∙ append_assoc (read_by circle here a.protected) (read_by circle here own) (read_by circle here a.own)
    ∙ ap (λ rs. read_by circle here a.protected ++ rs) (sym (read_append circle here own a.own))
    ∙ sym (read_append circle here a.protected (own ++ a.own)) in
    subst (λ rs. IsDeciders set rs c.over-3.new.self) read three
