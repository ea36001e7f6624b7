use Rattle.book_office_members.proofs.Common.{◌≡◌, true, subst, List, ℕ, uid_in, IsReached, CardRef}
use Rattle.book_office_members.specs.Reaching.{IsReachable}
use Rattle.book_office_members.proofs.Steps.{reached_found, found_reached, same_names}
use Rattle.book_office_members.proofs.members.reached.Goals as goal

pub returns : goal.returns
returns c =
    let cards = c.args.cards.now in
    let start = c.args.card.now in
    let links = c.in_ok-links.links in
    let found = c.in_ok-found.found in
    let R : List (List ℕ) → Type 0 = λ ms. IsReachable links ms found in
    let reach : IsReachable links start.members found = subst R c.as_slice.ensures c.in_ok-found.ensures in
    let F : CardRef → Type 0 = λ q. uid_in found q.uid ≡ true in
    rw c.from_vec.ensures (same_names F (IsReached cards start)
    (λ q. found_reached cards links c.in_ok-links.ensures start found reach q)
    (λ q. reached_found cards links c.in_ok-links.ensures start found reach q)
    cards c.in_ok-names.names.items c.in_ok-names.ensures)
