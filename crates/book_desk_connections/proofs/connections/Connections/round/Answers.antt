use Rattle.std.proofs.Common.{rules, ◌≡◌, ◌∙◌, List, Option, refl, sym, subst}
use Rattle.std.specs.List.{All}
use Rattle.book_desk_connections.specs.Rounds.{AreFed, IsHeldIn, OthersAreSame}
use Rattle.book_desk_connections.specs.declared.connections.Accepted.{Accepted}
use Rattle.book_desk_connections.specs.declared.feeding.Lost.{Lost}
use Rattle.book_desk_connections.specs.declared.rounds.Held.{Held}
use Rattle.book_desk_connections.specs.declared.rounds.Round.TheVariants.{Kept}
use Rattle.book_desk_connections.proofs.Fed.{fed_kept, fed_others, fed_tried, tries_none}
use Rattle.book_desk_connections.proofs.connections.Connections.round.Goals as goal

kept_one : (a b : Option Lost) → Kept a ≡ Kept b → a ≡ b
kept_one a b e = cc

pub returns-then-joined-lt2-clause-undone : goal.returns-then-joined-lt2-clause-undone
returns-then-joined-lt2-clause-undone g c e = tries_none g.M.Service.serving c.args.self.now

pub returns-in_default-clause-undone : goal.returns-in_default-clause-undone
returns-in_default-clause-undone g c e = tries_none g.M.Service.serving c.args.self.now

pub returns-then-len-lt2-clause-undone : goal.returns-then-len-lt2-clause-undone
returns-then-len-lt2-clause-undone g c e = tries_none g.M.Service.serving c.args.self.now

pub returns-in-Ok-round_over-clause-kept : goal.returns-in-Ok-round_over-clause-kept
returns-in-Ok-round_over-clause-kept g c lost e =
    let old = c.args.self.now in
    let new = c.round_over.new in
    let same : new.feeds.lost.now ≡ c.lost-2-1.given.0 = search rules in
    let fed = fed_kept g.M.RoundService.inside (g.M.Service.serving old.service) (g.M.Service.serving new.service) _ new.feeds c.in-Ok-round_over.ensures.round in
    let P : Option Lost → Type 0 = λ t. AreFed (g.M.Service.serving old.service) (g.M.Service.serving new.service) old.places.items new.feeds.places.now.items t in
    record { opened = refl; fed = subst P (same ∙ kept_one _ lost e) fed }

pub returns-in-Err-clause-undone : goal.returns-in-Err-clause-undone
returns-in-Err-clause-undone g c e =
    let old = c.args.self.now in
    let new = c.round_over.new in
    let places = old.places.items in
    let r = c.in-Err.ensures.round in
    let others = fed_others g.M.RoundService.inside (g.M.Service.serving old.service) (g.M.Service.serving new.service) _ new.feeds c.in-Err.field-0 r in
    let A : List (Option Accepted) → Type 0 = λ t. All (λ (h : Held). IsHeldIn t h) c.in-Ok.held.items in
    let O : List Held → Type 0 = λ t. OthersAreSame t places new.feeds.places.now.items in
    record {
      opened = refl;
      back = c.put_back.ensures places (sym others.0) (subst A c.as_slice.ensures.value c.in-Ok.ensures) (subst O c.as_slice-2.ensures.value others.1);
      tried = λ histories log x.
          fed_tried g.M.RoundService.inside (g.M.Service.serving old.service) (g.M.Service.serving new.service) _ new.feeds c.in-Err.field-0 r histories log old.opened x;
    }
