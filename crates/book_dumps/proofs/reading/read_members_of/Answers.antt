use Rattle.book_dumps.proofs.Common.{◌≡◌, List, ℕ, ap, ◌∙◌, Office}
use Rattle.book_lists.specs.Memberships.{Memberships, members_of}
use Rattle.book_lists.specs.Principals.{group_path}
use Rattle.book_office_audit.proofs.ReadsInTurn.{reads_weaker}
use Rattle.book_dumps.specs.Told.{members_in, members_told}
use Rattle.book_dumps.proofs.reading.read_members_of.Goals as goal

pub returns : goal.returns
returns g c =
    let group : c.in_ok-group.group ≡ group_path c.args.name.now = c.in_ok-group.ensures in
    reads_weaker (g.K.Keeper.standing c.args.keeper.now) (g.K.Keeper.standing c.members.new.self) c.in_ok-pairs.pairs c.in_ok-members.members
    (λ (o : Office) (pairs : Memberships). pairs ≡ members_of o.pairs c.in_ok-group.group) (λ (o : Office) (members : List (List ℕ)). members ≡ members_in o (group_path c.args.name.now))
    c.in_ok-pairs.ensures (λ o stands told. c.in_ok-members.ensures o.pairs c.in_ok-group.group told ∙ ap members_told (told ∙ ap (members_of o.pairs) group))
