use Rattle.book_office_adopting.proofs.Common.{◌≡◌, List, [], ◌∷◌, Some, option_map, rules, refl, sym, subst, ℕ, false≢true, get, entries, AllByRecursion, Book}
use Rattle.book_office_adopting.proofs.comparing.books_stand.Goals as goal

pub returns : goal.returns
returns c =
    let All : List (List ℕ × Book) → Type 0 = AllByRecursion (λ e. option_map (λ (book : Book). book.properties) (get c.args.other.now e.0) ≡ Some e.1.properties) in
    let start : c.into_iter-name-iterator.result ≡ entries c.args.books.now = search rules in
    let rest : c.loop-name.name-iterator ≡ [] = search rules in
    (λ _. subst All start (c.loop-name.invariant.there (subst All (sym rest) tt)), λ _. refl)

pub returns-then-not-book_stands : goal.returns-then-not-book_stands
returns-then-not-book_stands c =
    let All : List (List ℕ × Book) → Type 0 = AllByRecursion (λ e. option_map (λ (book : Book). book.properties) (get c.args.other.now e.0) ≡ Some e.1.properties) in
    let start : c.into_iter-name-iterator.result ≡ entries c.args.books.now = search rules in
    let step : c.loop-name.name-iterator ≡ (c.in-Some.name.now, c.in-Some.book.now) ∷ c.next.new.self = search rules in
    let other : option_map (λ (book : Book). book.properties) (get c.args.other.now c.in-Some.name.now) ≡ Some c.in-Some.book.now.properties → ⊥ = search rules in
    (λ e. absurd (false≢true e), λ all. absurd (other (subst All step (c.loop-name.invariant.all (subst All (sym start) all))).0))
