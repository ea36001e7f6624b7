use Rattle.book_office_listings.proofs.Common.{Some, None, refl, sym, ◌∙◌, effective_of}
use Rattle.book_office_listings.proofs.Looking.{ruled_by, ruled_by_none}
use Rattle.book_office_listings.proofs.ruling.rule.Goals as goal

pub returns-in_ok-deciding_entry-in-Some : goal.returns-in_ok-deciding_entry-in-Some
returns-in_ok-deciding_entry-in-Some c = record {
  rules = λ circle here walked.
      let list = effective_of c.args.levels.now in
      let fits = c.are_counted.ensures _ _ walked c.if-not-are_counted.false in
      let told = c.decider.ensures _ _ walked refl fits in
      record {
        index = Some c.in-Some.field-0.index;
        leaf_is = refl;
        entry = c.in_ok-deciding_entry-in-Some.ensures;
        decided = ruled_by list circle here c.args.leaf c.in-Some.field-0.index c.in-Some.field-0.deny (sym c.in-Some.is ∙ told);
      };
}

pub returns-in-None : goal.returns-in-None
returns-in-None c = record {
  rules = λ circle here walked.
      let list = effective_of c.args.levels.now in
      let fits = c.are_counted.ensures _ _ walked c.if-not-are_counted.false in
      let told = c.decider.ensures _ _ walked refl fits in
      record {
        index = None;
        leaf_is = refl;
        entry = refl;
        decided = ruled_by_none list circle here c.args.leaf (sym c.in-None.is ∙ told);
      };
}
