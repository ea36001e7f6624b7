-- Why nothing is restored, at the exits of `restore`.
use Rattle.std.proofs.Common.{◌≡◌, ◌⊎◌, inl, inr, List, true, false, Result, sym, subst}
use Rattle.std.specs.Prelude.{◌≤◌, IfErr, IsErrAnd}
use Rattle.std.proofs.lemmas.Result.{err_from_is_err_and}
use Rattle.book_limits.specs.declared.TheConstants.{LAST_NUMBER}
use Rattle.book_dumps_changes.specs.declared.changed.Changed.{Changed}
use Rattle.book_dumps_reading.specs.declared.dumped.Dumped.{Dumped}
use Rattle.book_office_values.specs.declared.paths.Path.{Path}
use Rattle.book_dumps_restoring.specs.Knowing.{have_parents, knows_each}
use Rattle.book_dumps_restoring.specs.Naming.{are_found, wanted}
use Rattle.book_dumps_restoring.specs.Restoring.{IsRefused, is_full, restored_standing, rises, store_standing}
use Rattle.book_dumps_restoring.specs.Standing.{lines_of}
use Rattle.book_dumps_restoring.specs.declared.faults.RestoreFault.{RestoreFault}
use Rattle.book_dumps_restoring.specs.declared.faults.RestoreFault.TheVariants.{NoParent, UnknownPrincipal, Full, LastNumber, Memory}

module _ (store backup : Dumped) (paths : List Path) where
  abbrev Refused : RestoreFault → Type 0
  Refused fault = IsRefused store backup paths fault

  -- the fault of a call is what is returned
  pub passed : (fault : RestoreFault) (r : Result Changed RestoreFault) → IsErrAnd r (λ e. e ≡ fault) → Refused fault → IfErr r Refused
  passed fault r is refused =
      let p = err_from_is_err_and r is in
      subst (λ (s : Result Changed RestoreFault). IfErr s Refused) (sym p.1) (subst Refused (sym p.2) refused)

  abbrev Found : Type 0
  Found = are_found backup.lines paths ≡ true

  abbrev Parents : Type 0
  Parents = have_parents (store_standing store) paths ≡ true

  abbrev Known : Type 0
  Known = knows_each (store_standing store) (wanted backup.lines paths) ≡ true

  pub no_parent : (fault : RestoreFault) → Found → ((fault ≡ NoParent) × (have_parents (store_standing store) paths ≡ false)) ⊎ (fault ≡ Memory) → Refused fault
  no_parent fault found (inl h) = subst Refused (sym h.0) (found, h.1)
  no_parent fault found (inr h) = subst Refused (sym h) tt

  pub unknown : (fault : RestoreFault) → Found → Parents
      → ((fault ≡ UnknownPrincipal) × (knows_each (store_standing store) (wanted backup.lines paths) ≡ false)) ⊎ (fault ≡ Memory) → Refused fault
  unknown fault found parents (inl h) = subst Refused (sym h.0) (found, parents, h.1)
  unknown fault found parents (inr h) = subst Refused (sym h) tt

  pub full : (fault : RestoreFault) → Found → Parents → Known → fault ≡ Full → is_full (lines_of (restored_standing store backup paths)) paths ≡ true → Refused fault
  full fault found parents known is room = subst Refused (sym is) (found, parents, known, room)

  pub last : (fault : RestoreFault) → Found → Parents → Known → is_full (lines_of (restored_standing store backup paths)) paths ≡ false
      → fault ≡ LastNumber → rises store backup paths ≡ true → LAST_NUMBER ≤ store.epoch → Refused fault
  last fault found parents known room is rise epoch = subst Refused (sym is) (found, parents, known, room, rise, epoch)
