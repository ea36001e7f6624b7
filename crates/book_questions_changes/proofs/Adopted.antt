-- `unchanged` is told of an adoption exactly where it changes nothing.
use Rattle.book_questions_changes.proofs.Common.{◌≡◌, ◌∙◌, ◌+◌, true, false, Option, Some, None, ap, refl, sym, Office}
use Rattle.std.proofs.Common.{cond}
use Rattle.std.specs.FinMap.{get}
use Rattle.std.proofs.lemmas.Option.{same_Some}
use Rattle.book_office_adopting.proofs.Adoptions.{adopting_nothing, book_after, book_there}
use Rattle.book_office_adopting.specs.Adopting.{adopt, taken_over}
use Rattle.book_office_adopting.specs.Sameness.{same_office}
use Rattle.book_office_values.specs.Names.{NamesTo}
use Rattle.book_office_values.specs.Paths.{book_path}
use Rattle.book_office_values.specs.declared.offices.Book.{Book}
use Rattle.book_policy_values.specs.declared.parts.PolicyBook.{PolicyBook}
use Rattle.book_policy_values.specs.declared.parts.PolicyTables.{PolicyTables}
use Rattle.book_questions_changes.specs.Laws.{HaveSameCards, IsSameButEpoch, UnchangedIsNoAdoption}
use Rattle.book_questions_changes.proofs.Unchanged.{unchanged_is_equal}

module _ (t : PolicyTables) (o : Office) where
  abbrev risen : Office
  risen = record (taken_over t o) { epoch = (taken_over t o).epoch + 1 }

  books_adopted : (adopt t o).books ≡ (taken_over t o).books
  books_adopted = elim (same_office o (taken_over t o)) as (λ b. (cond b (taken_over t o) risen).books ≡ (taken_over t o).books) [ true ↦ refl | false ↦ refl ]

  -- an adoption leaves the cards of a book as they are
  same_cards : HaveSameCards o (adopt t o)
  same_cards b before after was is = go (get t.books b)
      (sym is ∙ ap (λ (books : NamesTo Book). get books b) books_adopted ∙ book_there t o b ∙ ap (book_after t (book_path b) (get t.books b)) was)
    where
      go : (named : Option PolicyBook) → Some after ≡ book_after t (book_path b) named (Some before) → (before.cards ≡ after.cards) × (before.changes ≡ after.changes)
      go None e = let same = same_Some _ _ e in (ap (λ (x : Book). x.cards) (sym same), ap (λ (x : Book). x.changes) (sym same))
      go (Some named) e = let same = same_Some _ _ e in (ap (λ (x : Book). x.cards) (sym same), ap (λ (x : Book). x.changes) (sym same))

  -- but for the epoch, an adoption is the six steps before it
  all_but_epoch : record (adopt t o) { epoch = o.epoch } ≡ taken_over t o
  all_but_epoch = elim (same_office o (taken_over t o)) as (λ b. record (cond b (taken_over t o) risen) { epoch = o.epoch } ≡ taken_over t o) [ true ↦ refl | false ↦ refl ]

  changes_nothing : IsSameButEpoch o (adopt t o) → adopt t o ≡ o
  changes_nothing e = adopting_nothing t o (sym (e ∙ all_but_epoch))

  as_before : adopt t o ≡ o → IsSameButEpoch o (adopt t o)
  as_before e = ap (λ (x : Office). record x { epoch = o.epoch }) (sym e)

pub unchanged_is_no_adoption : UnchangedIsNoAdoption
unchanged_is_no_adoption t o text sound_o sound_p told =
    let k = unchanged_is_equal o (adopt t o) text sound_o sound_p (same_cards t o) told in (
      λ e. changes_nothing t o (k.0 e),
      λ e. k.1 (as_before t o e),
    )
