use Rattle.book_office.proofs.Common.{refl, sym, ◌∙◌}
use Rattle.book_office.proofs.granting.is_granted.Goals as goal

pub returns-in-Allowed : goal.returns-in-Allowed
returns-in-Allowed c = λ need readings scanned. (λ is. (c.outcome.ensures.allowed need readings scanned).0 c.in-Allowed.is, λ all. refl)

pub returns-in-Denied : goal.returns-in-Denied
returns-in-Denied c = λ need readings scanned. (λ is. absurd (let e = is in cc), λ all. absurd (let e = sym c.in-Denied.is ∙ (c.outcome.ensures.allowed need readings scanned).1 all in cc))
