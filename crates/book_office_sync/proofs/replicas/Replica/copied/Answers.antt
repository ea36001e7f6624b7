use Rattle.book_office_sync.proofs.Common.{rules, ◌∙◌}
use Rattle.book_office_sync.proofs.ReplicaCopies.{same_copy}
use Rattle.book_office_sync.proofs.replicas.Replica.copied.Goals as goal

pub returns : goal.returns
returns c = same_copy _ (λ v w copy. search (rules, copy)) c.self.inside.cards c.in_ok-cards.cards c.in_ok-cards.ensures.cases ∙ c.self.view_is
