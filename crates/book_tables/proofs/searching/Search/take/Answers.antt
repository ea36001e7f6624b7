use Rattle.std.proofs.Common.{◌≡◌, ap, ◌∙◌}
use Rattle.std.specs.FinSet as set
use Rattle.book_lists.specs.Memberships.{set_of}
use Rattle.book_tables.proofs.SearchedPairs.{adds_set}
use Rattle.book_tables.proofs.searching.Search.take.Goals as goal

pub returns : goal.returns
returns c =
    let here = c.args.here.now in
    let is : set_of c.as_slice.result.now ≡ here = ap set_of c.as_slice.ensures.value ∙ c.in_ok-list.ensures.pairs in
    record {
      all = c.in_ok-push.ensures.items;
      met = c.in_ok-insert.ensures ∙ ap (set.insert c.args.self.now.met) c.in_ok-clone.ensures.cases;
      adds = adds_set c.args.way c.as_slice.result.now here is c.args.self.now.pairs c.add_pairs.new.pairs c.args.self.now.work.items c.add_pairs.new.work.items c.in_ok-add_pairs.ensures;
    }
