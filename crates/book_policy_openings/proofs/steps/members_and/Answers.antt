use Rattle.std.proofs.Common.{subst}
use Rattle.book_lists.specs.Memberships.{Memberships}
use Rattle.book_policy_openings.specs.Steps.{AreListedAnd}
use Rattle.book_policy_openings.proofs.steps.members_and.Goals as goal

pub returns-clause-members : goal.returns-clause-members
returns-clause-members c = λ sound.
    subst (λ (pairs : Memberships). AreListedAnd pairs c.args.person.now c.in_ok-listed_and.field-0) (c.in_ok-pairs.ensures.pairs sound) c.in_ok-listed_and.ensures
