use Rattle.std.proofs.Common.{List, string_bytes, subst}
use Rattle.book_policy_checks.specs.Reports.{AddsFaults}
use Rattle.book_policy_faults.specs.declared.places.PlacedFault.{PlacedFault}
use Rattle.book_policy_checks.proofs.Reported.{all_text}
use Rattle.book_policy_checks.proofs.reports.faults_text.Goals as goal

pub returns : goal.returns
returns c =
    all_text (string_bytes c.push_faults.new.text) (string_bytes c.push_more.new.text) (string_bytes c.new-text.result) c.args.faults.now.told
    c.args.faults.now.more c.new-text.ensures.bytes
    (subst (λ (fs : List PlacedFault). AddsFaults (string_bytes c.new-text.result) (string_bytes c.push_faults.new.text) fs) c.as_slice.ensures
    c.in_ok-push_faults.ensures)
    c.in_ok-push_more.ensures
