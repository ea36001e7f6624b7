-- Who is granted a set of leaves is a reading of the rulings.
use Rattle.book_office_listings.proofs.Common.{◌≡◌, Option, Some, None, option_map, refl, sym, subst, CircleOf, effective_at, here_of, bare_entries, is_some}
use Rattle.std.proofs.Common.{◌↔◌, false}
use Rattle.std.proofs.lemmas.Bool.{false≢true}
use Rattle.book_rights.specs.Privileges.{denied_name}
use Rattle.book_lists.proofs.OneOutcome.{one_circle}
use Rattle.book_office_listings.specs.Scanning.{IsVerdict}
use Rattle.book_office_listings.specs.Verdicts.{IsGrantedAt}
use Rattle.book_office_listings.specs.declared.messages.Ruling.{Ruling}
use Rattle.book_office_listings.proofs.OneListing.{allowed_not_denied}
use Rattle.book_questions.specs.RulingVerdicts.{denial_of, earliest, ungranted}
use Rattle.book_questions.specs.Who.{WhoIsExact}
use Rattle.book_questions.proofs.RuledVerdicts.{rulings_tell}

pub who_is_exact : WhoIsExact
who_is_exact o p set caller holder asked circle is_circle =
    let same = one_circle o.pairs caller asked.circle circle asked.is_circle is_circle in
    go (earliest None (ungranted set holder.rulings)) (subst (λ c. IsVerdict (effective_at o p) c (here_of o p) p set (denial_of p set holder.rulings)) same
    (rulings_tell (effective_at o p) asked.circle (here_of o p) p set holder.rulings asked.rulings))
  where
    go : (found : Option Ruling)
        → IsVerdict (effective_at o p) circle (here_of o p) p set (option_map (λ (r : Ruling). record { resource = p; privilege = denied_name r.leaf set; entry = r.entry }) found)
        → (is_some found ≡ false) ↔ IsGrantedAt o circle p set
    go None granted = (λ e. granted, λ g. refl)
    go (Some r) denied = (λ e. absurd (false≢true (sym e)), λ g. absurd (allowed_not_denied (bare_entries (effective_at o p)) circle (here_of o p) set denied.leaf denied.index g denied.decided))
