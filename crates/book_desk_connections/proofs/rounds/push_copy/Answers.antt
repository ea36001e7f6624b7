use Rattle.std.proofs.Common.{rules, ◌≡◌, ◌∷◌, ◌++◌, [], List, Option, subst, sym}
use Rattle.std.specs.Prelude.{IfSome}
use Rattle.std.specs.List.{All}
use Rattle.std.proofs.lemmas.List.Elements.{All-push}
use Rattle.book_desk_connections.specs.Rounds.{IsHeldIn}
use Rattle.book_desk_connections.specs.declared.rounds.Held.{Held}
use Rattle.book_desk_connections.proofs.rounds.push_copy.Goals as goal

pub returns-in_ok-push-in-Some : goal.returns-in_ok-push-in-Some
returns-in_ok-push-in-Some c all =
    let copy = c.in-Some.copy in
    let held = c.args.held.now.items in
    let pushed : c.push.new.self.items ≡ held ++ copy ∷ [] = search rules in
    let P : List Held → Type 0 = λ t. All (λ (h : Held). IsHeldIn c.args.places.now h) t in
    let F : Option Held → Type 0 = λ t. IfSome t (λ h. IsHeldIn c.args.places.now h) in
    subst P (sym pushed) (All-push (λ (h : Held). IsHeldIn c.args.places.now h) held copy all (subst F c.in-Some.is c.in_ok-copy.ensures))
