use Rattle.std.proofs.Common.{rules, sym}
use Rattle.book_lists.specs.Names.{IsName}
use Rattle.book_policy_faults.proofs.Tests.{is_named, not_named}
use Rattle.book_policy_faults.proofs.known.is_name.Goals as goal

pub returns-in_default : goal.returns-in_default
returns-in_default c = let none : IsName c.args.text.now → ⊥ = search rules in sym (not_named c.args.text.now none)

pub returns : goal.returns
returns c = let yes : IsName c.args.text.now = search rules in sym (is_named c.args.text.now yes)
