-- A denial names an entry of the list.
use Rattle.book_lists_explain.proofs.Common.{◌+◌, ◌<◌, Bool, List, Some, None, length, arith, Leaf, Entry, Here, Allowed, IsDenial, IfDenied}
use Rattle.std.proofs.Common.{◌^◌, IfSome}
use Rattle.std.proofs.lemmas.Option.{slice_get_within}
use Rattle.book_lists.specs.declared.decisions.Outcome.{Outcome}
use Rattle.book_lists.specs.declared.decisions.Outcome.TheVariants.{Denied}
use Rattle.book_lists.specs.Circles.{CircleOf}

pub index_fits : (entries : List Entry) (circle : CircleOf) (here : Here) (need : Leaf → Bool) (o : Outcome) → length entries < 2 ^ 64
    → IfDenied o (IsDenial entries circle here need) → IfDenied o (λ leaf entry. IfSome entry (λ index. index + 1 < 2 ^ 64))
index_fits entries circle here need Allowed small d = tt
index_fits entries circle here need (Denied leaf None) small d = tt
index_fits entries circle here need (Denied leaf (Some i)) small d =
    let within = slice_get_within entries i d.1.0 d.1.1.there in
    omega (arith, within)
