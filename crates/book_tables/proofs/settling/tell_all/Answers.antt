use Rattle.book_tables.proofs.Common.{◌∙◌, ap, sym, subst, Membership}
use Rattle.std.proofs.Common.{IfSome, Vec}
use Rattle.std.specs.declared.alloc.Global.{Global}
use Rattle.book_lists.specs.Memberships.{set_of}
use Rattle.book_tables.proofs.RowsOfPairs.{AreListed, told_in}
use Rattle.book_tables.proofs.settling.tell_all.Goals as goal

pub returns : goal.returns
returns c = λ same m.
    let rows = c.args.rows.now in
    let told : AreListed c.in-Some.told.items rows = subst (λ t. IfSome t (λ (p : Vec Membership Global). AreListed p.items rows)) c.in-Some.is c.in_ok-told.ensures in
    told_in c.args.wanted.now c.in-Some.told.items rows (ap set_of (sym c.as_slice.ensures.value) ∙ c.in_ok-are_those_of.ensures.0 same) told m
