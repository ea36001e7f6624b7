use Rattle.book_lists.proofs.Common.{refl, ap}
use Rattle.std.proofs.Common.{slice_index_or}
use Rattle.book_lists.proofs.KeptDeciders.{outcome_undecided, outcome_allowed, left_unallowed}
use Rattle.book_lists.proofs.JudgedNeeds.{all_seen, judged_denied, judged_denies}
use Rattle.book_lists.proofs.deciders.Deciders.outcome.Goals as goal

pub returns-in-Some-clause-allowed : goal.returns-in-Some-clause-allowed
returns-in-Some-clause-allowed c need readings j = (λ e. cc, λ allowed. absurd (judged_denies need readings c.args.self.now j c.in-Some.leaf c.in-Some.is allowed))

pub returns-in-Some-clause-denied : goal.returns-in-Some-clause-denied
returns-in-Some-clause-denied c need readings j few =
    judged_denied need readings c.args.self.now j c.in-Some.leaf _ c.in-Some.is (ap (λ i. slice_index_or c.args.self.now.indexes i 0) c.place.ensures) few

pub returns-in-Some-least-clause-allowed : goal.returns-in-Some-least-clause-allowed
returns-in-Some-least-clause-allowed c need readings j =
    (λ e. cc, λ allowed. absurd (left_unallowed need readings c.args.self.now (all_seen need readings c.args.self.now j c.in_default.is) c.in-Some-least.leaf c.in-Some-least.ensures.0 allowed))

pub returns-in-Some-least-clause-denied : goal.returns-in-Some-least-clause-denied
returns-in-Some-least-clause-denied c need readings j few =
    outcome_undecided need readings c.args.self.now (all_seen need readings c.args.self.now j c.in_default.is) c.in_default.is c.in-Some-least.leaf c.in-Some-least.ensures

pub returns-in-None-clause-allowed : goal.returns-in-None-clause-allowed
returns-in-None-clause-allowed c need readings j =
    (λ e. outcome_allowed need readings c.args.self.now (all_seen need readings c.args.self.now j c.in_default.is) c.in_default.is c.in-None.ensures, λ allowed. refl)
