use Rattle.book_machine.proofs.UnreadExample.{may_differ, may_differ_where_named}
use Rattle.book_machine.proofs.UnseenRuns.{agreement, steps_alike, epochs_never_fall, run_epoch, runs_alike}
use Rattle.book_machine.proofs.laws.unread_contents_stay_unseen.Goals as goal

pub returns : goal.returns
returns c = record { agreement = agreement; steps = steps_alike; differ = may_differ; differ_named = may_differ_where_named; epochs = epochs_never_fall; run_epochs = run_epoch; runs = runs_alike }
