use Rattle.std.proofs.Common.{refl, ◌∙◌, sym, subst}
use Rattle.book_log_service.proofs.Spelled.{not_asked, owes_at_once, owes_settled, unread}
use Rattle.book_log_service.specs.Kept.{IsSpared}
use Rattle.book_wire_serving.proofs.Servings.{still}
use Rattle.book_log_service.proofs.noting.Notes.serve.Goals as goal

pub returns-in_default-clause-owes : goal.returns-in_default-clause-owes
returns-in_default-clause-owes g c = λ held.
    owes_at_once _ _ c.begin.new.self.made c.begin.new.self.spare _ _ c.unavailable.result c.unavailable.ensures c.begin.ensures.made
    (not_asked _ _ _ _ (still (g.K.Keeper.standing c.args.machine.now.keeper))) c.known.ensures c.begin.ensures.was_sound
    refl c.begin.ensures.spared

pub returns-in_default-clause-survives : goal.returns-in_default-clause-survives
returns-in_default-clause-survives g c = record {
  sound = λ some telling. (c.begin.ensures.survives some).0;
  spared = λ some. (c.begin.ensures.survives some).1;
}

pub returns-in_default-drafts_of-clause-owes : goal.returns-in_default-drafts_of-clause-owes
returns-in_default-drafts_of-clause-owes g c = λ held.
    owes_at_once _ _ c.begin.new.self.made c.begin.new.self.spare _ _ c.unavailable-in_default-drafts_of.result c.unavailable-in_default-drafts_of.ensures c.begin.ensures.made
    (unread _ _ _ _ _ _ c.in_default-drafts_of.ensures.foreseen)
    c.known.ensures c.begin.ensures.was_sound
    refl c.begin.ensures.spared

pub returns-in_default-drafts_of-clause-survives : goal.returns-in_default-drafts_of-clause-survives
returns-in_default-drafts_of-clause-survives g c = record {
  sound = λ some telling. (c.begin.ensures.survives some).0;
  spared = λ some. (c.begin.ensures.survives some).1;
}

pub returns-clause-owes : goal.returns-clause-owes
returns-clause-owes g c = λ held.
    owes_settled c.refusals_change_nothing.ensures.telling _ _ _ _ c.settle.new.self.made c.settle.new.self.spare _ _ _ c.serve-reply.result c.settle.result
    c.in-Ok-drafts_of.ensures.foreseen c.in-Ok-drafts_of.ensures.drafts
    c.serve-reply.ensures.served c.known.ensures
    (λ sound. c.begin.ensures.was_sound (c.settle.ensures.was_sound sound)) refl
    (λ sound. subst IsSpared (sym c.settle.ensures.spare) (c.begin.ensures.spared (c.settle.ensures.was_sound sound))) c.settle.ensures.settles

pub returns-clause-survives : goal.returns-clause-survives
returns-clause-survives g c = record {
  sound = λ some telling. c.settle.ensures.survives telling ∙ (c.begin.ensures.survives some).0;
  spared = λ some none. (c.begin.ensures.survives some).1 (sym c.settle.ensures.spare ∙ none);
}
