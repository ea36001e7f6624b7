use Rattle.book_office_listings.proofs.Common.{◌++◌, read_by, effective_of, bare_entries}
use Rattle.book_lists.proofs.OneReader.{allowed_one, denial_one}
use Rattle.book_lists.proofs.JudgedNeeds.{judged}
use Rattle.book_office_listings.proofs.denials.verdict.Goals as goal

pub returns-in-Allowed : goal.returns-in-Allowed
returns-in-Allowed c =
    let list = effective_of (c.args.own.now ++ c.args.above.now) in
    (allowed_one c.args.circle.now c.args.here.now (bare_entries list) c.args.set).0
    ((c.outcome.ensures.allowed c.args.set _ (judged c.args.set _ c.walk-deciders.result c.walk-deciders.ensures)).0 c.in-Allowed.is)

pub returns-in_ok-deciding_entry-in-Denied : goal.returns-in_ok-deciding_entry-in-Denied
returns-in_ok-deciding_entry-in-Denied c =
    let list = effective_of (c.args.own.now ++ c.args.above.now) in
    let circle = c.args.circle.now in
    let here = c.args.here.now in
    let set = c.args.set in
    let readings = read_by circle here (bare_entries list) in
    let fits = c.are_counted.ensures set readings c.walk-deciders.ensures c.if-not-are_counted.false in
    record {
      leaf = c.in-Denied.leaf;
      index = c.in-Denied.entry;
      privilege = c.denied_name.ensures;
      resource = c.in_ok-copy_of-in-Denied.ensures;
      entry = c.in_ok-deciding_entry-in-Denied.ensures;
      decided = denial_one circle here (bare_entries list) set c.in-Denied.leaf c.in-Denied.entry (c.in-Denied.ensures.denied set readings (judged set readings c.walk-deciders.result c.walk-deciders.ensures) fits);
    }
