use Rattle.book_tables.proofs.Common.{◌≡◌, ℕ, ◌∷◌, [], List, codes, sym, ap, ◌∙◌, Listed, Properties, place_told}
use Rattle.std.proofs.lemmas.List.{same_from_push}
use Rattle.book_office.specs.Resources.{listed_home}
use Rattle.book_tables.proofs.places.homes_of.Goals as goal

abbrev place_in : List ℕ × Properties → Properties
place_in told = told.1

pub returns : goal.returns
returns c = λ o e.
    let books = listed_home (codes "books") o.books_home in
    let groups = listed_home (codes "groups") o.groups_home in
    let people = listed_home (codes "people") o.people in
    let items : c.into_vec-homes.result.items ≡ books ∷ groups ∷ people ∷ [] = c.into_vec-homes.ensures ∙ e in
    let first = same_from_push (books ∷ groups ∷ []) c.pop.new.self.items people c.in_ok-people.people (sym items ∙ c.in_ok-people.ensures.items) in
    let second = same_from_push (books ∷ []) c.pop-2.new.self.items groups c.in_ok-groups.groups (first.0 ∙ c.in_ok-groups.ensures.items) in
    let third = same_from_push [] c.pop-3.new.self.items books c.in_ok-books.books (second.0 ∙ c.in_ok-books.ensures.items) in
    let people_is : c.home_of.result ≡ o.people = c.home_of.ensures ∙ ap (λ (l : Listed). place_in (place_told l)) (sym first.1) in
    let groups_is : c.home_of-2.result ≡ o.groups_home = c.home_of-2.ensures ∙ ap (λ (l : Listed). place_in (place_told l)) (sym second.1) in
    let books_is : c.home_of-3.result ≡ o.books_home = c.home_of-3.ensures ∙ ap (λ (l : Listed). place_in (place_told l)) (sym third.1) in
    λ i. record { people = people_is i; groups = groups_is i; books = books_is i }
