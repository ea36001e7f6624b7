use Rattle.book_policy_values.proofs.reading.read_entry.Goals as goal

pub returns-in_default-clause-none : goal.returns-in_default-clause-none
returns-in_default-clause-none c =
    let none = rw (c.in_default.is, c.as_str.ensures) at c.in_ok-at.ensures.none in λ fits. none fits.2
