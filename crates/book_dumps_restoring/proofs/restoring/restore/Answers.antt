use Rattle.std.proofs.Common.{◌≡◌, ◌⊎◌, List, true, false, rules, subst}
use Rattle.std.specs.Prelude.{◌≤◌}
use Rattle.book_limits.specs.declared.TheConstants.{LAST_NUMBER}
use Rattle.book_dumps.specs.declared.lines.Line.{Line}
use Rattle.book_dumps_restoring.proofs.Refusals.{full, last, no_parent, passed, unknown}
use Rattle.book_dumps_restoring.specs.Knowing.{have_parents, knows_each}
use Rattle.book_dumps_restoring.specs.Naming.{are_found, wanted}
use Rattle.book_dumps_restoring.specs.Restoring.{is_full, restored_standing, rises, store_standing}
use Rattle.book_dumps_restoring.specs.Standing.{Standing, lines_of}
use Rattle.book_dumps_restoring.specs.declared.faults.RestoreFault.TheVariants.{NoParent, UnknownPrincipal, Memory}
use Rattle.book_dumps_restoring.proofs.restoring.restore.Goals as goal

pub returns-in_err-check_parents-clause-refused : goal.returns-in_err-check_parents-clause-refused
returns-in_err-check_parents-clause-refused c =
    let store = c.args.store in
    let backup = c.args.backup.now in
    let paths = c.args.paths.now in
    let fault = c.in_err-check_parents.field-0.0 in
    let found : are_found backup.lines paths ≡ true = search rules in
    let why = subst (λ (s : Standing). ((fault ≡ NoParent) × (have_parents s paths ≡ false)) ⊎ (fault ≡ Memory)) c.in_ok-standing.ensures c.in_err-check_parents.ensures.err in
    passed store backup paths fault c.from_residual-in_err-check_parents.result c.from_residual-in_err-check_parents.ensures.1
    (no_parent store backup paths fault found why)

pub returns-in_err-check_known-clause-refused : goal.returns-in_err-check_known-clause-refused
returns-in_err-check_known-clause-refused c =
    let store = c.args.store in
    let backup = c.args.backup.now in
    let paths = c.args.paths.now in
    let fault = c.in_err-check_known.field-0.0 in
    let found : are_found backup.lines paths ≡ true = search rules in
    let parents : have_parents (store_standing store) paths ≡ true = search rules in
    let why = subst (λ (s : Standing). ((fault ≡ UnknownPrincipal) × (knows_each s (wanted backup.lines paths) ≡ false)) ⊎ (fault ≡ Memory)) c.in_ok-standing.ensures
    (subst (λ (ls : List Line). ((fault ≡ UnknownPrincipal) × (knows_each c.in_ok-standing.standing (wanted ls paths) ≡ false)) ⊎ (fault ≡ Memory)) c.as_slice-wanted.ensures
    c.in_err-check_known.ensures.err) in
    passed store backup paths fault c.from_residual-in_err-check_known.result c.from_residual-in_err-check_known.ensures.1
    (unknown store backup paths fault found parents why)

pub returns-in_err-check_room-clause-refused : goal.returns-in_err-check_room-clause-refused
returns-in_err-check_room-clause-refused c =
    let store = c.args.store in
    let backup = c.args.backup.now in
    let paths = c.args.paths.now in
    let fault = c.in_err-check_room.field-0.0 in
    let found : are_found backup.lines paths ≡ true = search rules in
    let parents : have_parents (store_standing store) paths ≡ true = search rules in
    let known : knows_each (store_standing store) (wanted backup.lines paths) ≡ true = search rules in
    let room : is_full (lines_of (restored_standing store backup paths)) paths ≡ true = search rules in
    passed store backup paths fault c.from_residual-in_err-check_room.result c.from_residual-in_err-check_room.ensures.1
    (full store backup paths fault found parents known c.in_err-check_room.ensures.err.0 room)

pub returns-in_err-after-clause-refused : goal.returns-in_err-after-clause-refused
returns-in_err-after-clause-refused c =
    let store = c.args.store in
    let backup = c.args.backup.now in
    let paths = c.args.paths.now in
    let fault = c.in_err-after.field-0.0 in
    let found : are_found backup.lines paths ≡ true = search rules in
    let parents : have_parents (store_standing store) paths ≡ true = search rules in
    let known : knows_each (store_standing store) (wanted backup.lines paths) ≡ true = search rules in
    let room : is_full (lines_of (restored_standing store backup paths)) paths ≡ false = search rules in
    let rise : rises store backup paths ≡ true = search rules in
    let epoch : LAST_NUMBER ≤ store.epoch = search rules in
    passed store backup paths fault c.from_residual-in_err-after.result c.from_residual-in_err-after.ensures.1
    (last store backup paths fault found parents known room c.in_err-after.ensures.last.0 rise epoch)
