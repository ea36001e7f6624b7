use Rattle.std.proofs.Common.{◌∙◌, Bool, List, subst}
use Rattle.book_lists.specs.declared.entries.Here.{Here}
use Rattle.book_office_values.specs.Paths.{is_kind, kind_of}
use Rattle.book_office_values.specs.declared.paths.Kind.TheVariants as kind
use Rattle.book_policy_idle.specs.Idle.{placed_in_force}
use Rattle.book_policy_idle.specs.Marks.{MarksLeft, SparesEach}
use Rattle.book_policy_idle.specs.declared.in_force.Placed.{Placed}
use Rattle.book_policy_idle.proofs.marks.clear_at.Goals as goal

pub returns : goal.returns
returns c =
    let askers = c.args.askers.now in
    let old = c.args.marks.now.items in
    let new = c.clear_each.new.marks.items in
    subst (λ (here : Here). MarksLeft (SparesEach here (is_kind kind.Book (kind_of c.args.path.now)) (placed_in_force c.args.entries.now c.args.path.now) askers) old new) c.in_ok-here.ensures
    (subst (λ (b : Bool). MarksLeft (SparesEach c.in_ok-here.here b (placed_in_force c.args.entries.now c.args.path.now) askers) old new) c.is_book.ensures
    (subst (λ (l : List Placed). MarksLeft (SparesEach c.in_ok-here.here c.is_book.result l askers) old new) (c.as_slice.ensures ∙ c.in_ok-list.ensures) c.clear_each.ensures))
