use Rattle.book_office_members.proofs.Common.{◌≡◌, ◌+◌, ◌++◌, ◌∷◌, [], take, unwrap_or, sym, ap, ◌∙◌, arith, Some, take_more, names_at}
use Rattle.std.specs.FinMap.{get-empty}
use Rattle.std.specs.Option.{option_copied}
use Rattle.book_lists.specs.Names.{name_cmp}
use Rattle.book_office_members.specs.Reaching.{pushed_at}
use Rattle.book_office_members.proofs.Linking.{index_same, index_more, unwanted, wanted_is}
use Rattle.book_office_members.proofs.members.names_by_uid.Goals as goal
use Rattle.book_office_members.proofs.members.names_by_uid.Goals.{in-Some+in_ok-clone+in_ok-push_name, in_default}

pub loop-card-init : goal.loop-card-init
loop-card-init c = λ uid is.
    ap (λ m. names_at m uid) c.new-index.ensures ∙ ap (λ r. unwrap_or r []) (get-empty name_cmp uid)

pub loop-card-preserved : goal.loop-card-preserved
loop-card-preserved c =
    let i = c.loop-card.card-index in
    let cards = c.args.cards.now in
    let card = c.card-item.result in
    let wanted = c.args.wanted.now in
    let old = c.loop-card.index in
    let more : take (i + 1) cards ≡ take i cards ++ card ∷ [] = take_more cards i card (omega arith) ∙ ap (λ x. take i cards ++ x ∷ []) (sym c.card-item.is) in
    elim c.match-wanted_uid.branch [
      | in-Some+in_ok-clone+in_ok-push_name w ↦
          let uid = w.in-Some.uid.now in
          let name : w.in_ok-clone.field-0 ≡ card.name = w.in_ok-clone.ensures.cases in
          let new : c.match-wanted_uid.index ≡ pushed_at old uid card.name = w.index-is ∙ w.in_ok-push_name.ensures ∙ ap (pushed_at old uid) name in
          rw more (λ q is. index_more old c.match-wanted_uid.index (take i cards) card uid q (wanted_is wanted card.uid uid (sym c.wanted_uid.ensures ∙ ap option_copied w.in-Some.is)) new (c.loop-card.invariant q is))
      | in_default w ↦
          rw (more, w.index-is) (λ q is. index_same old (take i cards) card q (unwanted wanted card.uid q (sym c.wanted_uid.ensures ∙ ap option_copied w.in_default.is) is) (c.loop-card.invariant q is))
    ]
