use Rattle.std.proofs.lemmas.Bool.Decides.{same_from_decides}
use Rattle.book_questions_changes.proofs.Same.{owners_decide}
use Rattle.book_questions_changes.proofs.facts.owners_alike.Goals as goal

pub returns : goal.returns
returns c = same_from_decides _ _ c.same_owner.ensures (owners_decide c.args.before.now.node.owner c.args.after.now.node.owner)
