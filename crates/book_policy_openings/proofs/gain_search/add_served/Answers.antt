use Rattle.book_policy_openings.proofs.AddedGains.{adds_none, adds_one}
use Rattle.book_policy_openings.proofs.gain_search.add_served.Goals as goal

pub returns-in-Ok-false-clause-added : goal.returns-in-Ok-false-clause-added
returns-in-Ok-false-clause-added c = λ sound. adds_none c.args.start.now c.args.told.now

pub returns-in_ok-push-in-Ok-true-clause-added : goal.returns-in_ok-push-in-Ok-true-clause-added
returns-in_ok-push-in-Ok-true-clause-added c = λ sound.
    adds_one c.args.start.now c.args.told.now c.push.new.self c.args.gain (c.in-Ok-true.ensures.gains c.in-Ok-true.field-0-test sound) c.in_ok-push-in-Ok-true.ensures.ok
