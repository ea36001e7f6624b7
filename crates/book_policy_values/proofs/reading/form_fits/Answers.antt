use Rattle.book_policy_values.proofs.reading.form_fits.Goals as goal

pub returns-in-Href : goal.returns-in-Href
returns-in-Href c = rw c.in-Href.is c.is_known.ensures
