use Rattle.book_office_listings.proofs.Common.{◌≡◌, ◌++◌, slice_get, [], None, Some, sym, ap, ◌∙◌, subst, paths_of}
use Rattle.std.proofs.Common.{MatchOption}
use Rattle.book_office_listings.proofs.InTurn.{protected_of, own_of, parts_after}
use Rattle.book_office_listings.proofs.denials.place.Goals as goal

pub returns-in-Some-place_among : goal.returns-in-Some-place_among
returns-in-Some-place_among c =
    let own = c.args.own.now in
    let above = c.args.above.now in
    ap (λ list. slice_get (paths_of list) c.args.index) (sym (parts_after own above))
    ∙ c.in_default.ensures (protected_of above ++ (own_of own ++ (own_of above ++ [])))
    ∙ c.in-Some-place_among.ensures (own_of own ++ (own_of above ++ []))

pub returns-in-Some-place_among-2 : goal.returns-in-Some-place_among-2
returns-in-Some-place_among-2 c =
    let own = c.args.own.now in
    let above = c.args.above.now in
    ap (λ list. slice_get (paths_of list) c.args.index) (sym (parts_after own above))
    ∙ c.in_default.ensures (protected_of above ++ (own_of own ++ (own_of above ++ [])))
    ∙ c.in_default-place_among.ensures (own_of own ++ (own_of above ++ []))
    ∙ c.in-Some-place_among-2.ensures (own_of above ++ [])

pub returns : goal.returns
returns c =
    let own = c.args.own.now in
    let above = c.args.above.now in
    subst (λ found. MatchOption c.place_among-4.result (found ≡ None) (λ path. found ≡ Some path.now))
    (sym (ap (λ list. slice_get (paths_of list) c.args.index) (sym (parts_after own above))
    ∙ c.in_default.ensures (protected_of above ++ (own_of own ++ (own_of above ++ [])))
    ∙ c.in_default-place_among.ensures (own_of own ++ (own_of above ++ []))
    ∙ c.in_default-place_among-2.ensures (own_of above ++ [])))
    (c.place_among-4.ensures [])
