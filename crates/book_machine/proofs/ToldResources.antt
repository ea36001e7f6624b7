-- The first response to a PROPFIND tells the resource that was asked for.
use Rattle.book_machine.proofs.Common.{◌≡◌, ℕ, Bool, List, Option, Some, None, Result, Ok, Err, inl, inr, refl, sym, ap, ◌∙◌, subst, CircleOf, IsGrantedAt, Find, Node, Leaf, Office, Path, destination_in, method_of, ready_of, IsListed, IsSuccessOf, IsPlan, IsPlannedFrom, settled, AreGranted, needs_at, Asked, Reply, Request, Plan, Ready, Refusal}
use Rattle.book_office_listings.proofs.ToldResources.{granted_told}
use Rattle.book_office_listings.specs.Laws.{TellsFirst}
use Rattle.book_office_listings.specs.declared.messages.Response.{Response}
use Rattle.book_rights.specs.declared.methods.Method.TheVariants as method
use Rattle.book_machine.proofs.FittingPlans.{IsShaped, asked_by_request, ready_path, ready_shaped, same_Ok}
use Rattle.book_machine.proofs.StepLaws.{plan_of_success}
use Rattle.book_machine.specs.Finding.{needed_for}
use Rattle.book_machine.specs.Laws.{ListingsTellTheResource}
use Rattle.book_machine.specs.declared.asked.Asked.TheVariants as asked
use Rattle.book_machine.specs.declared.messages.Content.TheVariants as content

-- what a PROPFIND asks
record IsFind (what : Asked) : Type 0 where
  find : Find
  is : what ≡ asked.Propfind find
  needed : find.needed ≡ needed_for find.properties

is_find : (what : Asked) → method_of what ≡ method.Propfind → IsShaped what → IsFind what
is_find asked.Get m shaped = absurd (cc (m))
is_find asked.Head m shaped = absurd (cc (m))
is_find asked.Options m shaped = absurd (cc (m))
is_find (asked.Put text) m shaped = absurd (cc (m))
is_find (asked.Propfind find) m shaped = record { find = find; is = refl; needed = shaped }
is_find (asked.Proppatch patched) m shaped = absurd (cc (m))
is_find (asked.Acl list) m shaped = absurd (cc (m))
is_find (asked.Copy to) m shaped = absurd (cc (m))
is_find (asked.Move to) m shaped = absurd (cc (m))
is_find asked.Delete m shaped = absurd (cc (m))
is_find asked.Mkcol m shaped = absurd (cc (m))
is_find (asked.Report which) m shaped = absurd (cc (m))

module _ (o : Office) (request : Request) (responses : List Response) (plan : Plan) (told : plan.reply.content ≡ content.Listing responses) where
  listed_told : (circle : CircleOf) (find : Find) (q : Path) (node : Option Node) → IsGrantedAt o circle q find.needed
      → IsListed o circle find q node (Ok plan) → TellsFirst q responses
  listed_told circle find q None granted is = absurd (cc (is))
  listed_told circle find q (Some node) granted is =
      let listed : content.Listing is.0 ≡ content.Listing responses = ap (λ (p : Plan). p.reply.content) (same_Ok _ plan is.2) ∙ told in
      let same : is.0 ≡ responses = cc (listed) in
      subst (TellsFirst q) same (granted_told o circle find q is.0 granted is.1)

  -- a PROPFIND whose needs are granted
  granted_listed : (circle : CircleOf) (ready : Ready) → IsFind ready.asked → AreGranted o circle (destination_in ready.asked) ready.target.path (needs_at ready)
      → IsSuccessOf o circle ready.asked ready.caller ready.target (Ok plan) → TellsFirst ready.target.path responses
  granted_listed circle ready what granted is =
      let find = what.find in
      let q = ready.target.path in
      let ready_is : ready ≡ record ready { asked = asked.Propfind find } = λ i. record ready { asked = what.is i } in
      let first : IsGrantedAt o circle q (needed_for find.properties) = (subst (λ (x : Ready). AreGranted o circle (destination_in x.asked) x.target.path (needs_at x)) ready_is granted).0 in
      listed_told circle find q ready.target.node (subst (λ (set : Leaf → Bool). IsGrantedAt o circle q set) (sym what.needed) first)
      (subst (λ a. IsSuccessOf o circle a ready.caller ready.target (Ok plan)) what.is is)

  planned_told : (name : Option (List ℕ)) (r : Result Ready Refusal) → request.method ≡ method.Propfind → ready_of o name request ≡ r
      → IsPlannedFrom o r (Ok plan) → (p : Path) → request.path ≡ Some p → TellsFirst p responses
  planned_told name (Err e) by is planned p at = absurd (cc (planned))
  planned_told name (Ok ready) by is (inr denied) p at = let h = denied.2 in absurd (cc (h))
  planned_told name (Ok ready) by is (inl granted) p at =
      let what = is_find ready.asked (asked_by_request o request name ready is ∙ by) (ready_shaped o request name ready is) in
      let paths : Some ready.target.path ≡ Some p = sym (ready_path o request name ready is) ∙ at in
      let same : ready.target.path ≡ p = cc (paths) in
      subst (λ q. TellsFirst q responses) same
      (granted_listed granted.0.circle ready what granted.0.granted (plan_of_success o granted.0.circle ready plan granted.1))

pub listings_tell : ListingsTellTheResource
listings_tell o name request p reply responses after by at step told = go step.0 step.1 step.2
  where
    go : (result : Result Plan Refusal) → IsPlan o name request result → (reply, after) ≡ settled o result → TellsFirst p responses
    go (Ok plan) planned settles =
        planned_told o request responses plan (sym (ap (λ (x : Reply × Office). x.0.content) settles) ∙ told) name (ready_of o name request) by refl planned p at
    go (Err e) planned settles =
        let both : content.Refusal e ≡ content.Listing responses = sym (ap (λ (x : Reply × Office). x.0.content) settles) ∙ told in
        absurd (cc (both))
