use Rattle.book_policy_openings.proofs.Reading.{same_reply}
use Rattle.book_machine.specs.declared.messages.Content.TheVariants as content
use Rattle.book_policy_openings.proofs.trials.is_card.Goals as goal

pub returns-in-Card : goal.returns-in-Card
returns-in-Card c = λ agreed. (c.in-Card.field-0, same_reply c.args.reply.now 200 (content.Card c.in-Card.field-0) c.if-reply-ne200.false c.in-Card.is)
