use Rattle.book_tables.proofs.Common.{sym}
use Rattle.book_tables.proofs.listing_rows.listed_of.Goals as goal

pub returns : goal.returns
returns c = sym (c.in_ok-head.ensures c.args.protected c.args.own)
