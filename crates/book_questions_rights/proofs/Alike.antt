-- Two cards are alike exactly where their owners and own lists are equal.
use Rattle.book_questions_rights.proofs.Common.{◌≡◌, ◌∷◌, ◌∙◌, [], ℕ, Bool, true, false, List, Option, Some, None, refl, ap, sym}
use Rattle.std.proofs.Common.{◌↔◌, ◌&&◌, zero, suc}
use Rattle.std.proofs.lemmas.Bool.{false≢true}
use Rattle.std.proofs.lemmas.Slice.Eq.{bytes_eq-Decides}
use Rattle.std.proofs.lemmas.Bool.Decides.{Decides-eqb}
use Rattle.std.proofs.lemmas.Option.{same_Some}
use Rattle.std.specs.Bool.{Decides}
use Rattle.std.specs.Cmp.{booleans_Decides}
use Rattle.book_rights.specs.Leaves.{same_leaves-decides}
use Rattle.book_lists.specs.declared.entries.Entry.{Entry}
use Rattle.book_lists.specs.declared.entries.Who.{Who}
use Rattle.book_lists.specs.declared.entries.Who.TheVariants.{Href, Everyone, Authenticated, Unauthenticated, Owner, Own}
use Rattle.book_office.specs.declared.nodes.Listed.{Listed}
use Rattle.book_questions_rights.specs.EqualCards.{IsAlike, form_number, form_path, is_alike, same_entry, same_form, same_list, same_owner}

both : (a b : Bool) → (a && b) ≡ true → (a ≡ true) × (b ≡ true)
both true b h = (refl, h)
both false b h = absurd (false≢true h)

each : (a b : Bool) → a ≡ true → b ≡ true → (a && b) ≡ true
each a b p q = ap (λ x. x && b) p ∙ q

-- a form by its number and its path
form_of : ℕ → List ℕ → Who
form_of zero p = Href p
form_of (suc zero) p = Everyone
form_of (suc (suc zero)) p = Authenticated
form_of (suc (suc (suc zero))) p = Unauthenticated
form_of (suc (suc (suc (suc zero)))) p = Owner
form_of (suc (suc (suc (suc (suc n))))) p = Own

form_is : (who : Who) → form_of (form_number who) (form_path who) ≡ who
unfolding form_of
form_is (Href p) = refl
form_is Everyone = refl
form_is Authenticated = refl
form_is Unauthenticated = refl
form_is Owner = refl
form_is Own = refl

forms_decide : (a b : Who) → Decides (same_form a b) (a ≡ b)
forms_decide a b = (
  λ h.
      let t = both _ _ h in
      let number : form_number a ≡ form_number b = (Decides-eqb (form_number a) (form_number b)).0 t.0 in
      let path : form_path a ≡ form_path b = (bytes_eq-Decides (form_path a) (form_path b)).0 t.1 in
      sym (form_is a) ∙ (λ i. form_of (number i) (path i)) ∙ form_is b,
  λ e. each _ _ ((Decides-eqb (form_number a) (form_number b)).1 (ap form_number e)) ((bytes_eq-Decides (form_path a) (form_path b)).1 (ap form_path e)),
)

entries_decide : (a b : Entry) → Decides (same_entry a b) (a ≡ b)
entries_decide a b = (
  λ h.
      let t = both _ _ h in
      let s = both _ _ t.1 in
      let r = both _ _ s.1 in
      let who : a.who ≡ b.who = (forms_decide a.who b.who).0 t.0 in
      let invert : a.invert ≡ b.invert = (booleans_Decides a.invert b.invert).0 s.0 in
      let deny : a.deny ≡ b.deny = (booleans_Decides a.deny b.deny).0 r.0 in
      let set : a.set ≡ b.set = (same_leaves-decides a.set b.set).0 r.1 in
      λ i. record { who = who i; invert = invert i; deny = deny i; set = set i },
  λ e. each _ _ ((forms_decide a.who b.who).1 (ap (λ (x : Entry). x.who) e))
      (each _ _ ((booleans_Decides a.invert b.invert).1 (ap (λ (x : Entry). x.invert) e))
      (each _ _ ((booleans_Decides a.deny b.deny).1 (ap (λ (x : Entry). x.deny) e)) ((same_leaves-decides a.set b.set).1 (ap (λ (x : Entry). x.set) e)))),
)

lists_decide : (ds es : List Entry) → Decides (same_list ds es) (ds ≡ es)
lists_decide [] [] = (λ h. refl, λ e. refl)
lists_decide [] (e ∷ es) = (λ h. absurd (false≢true h), λ h. absurd cc)
lists_decide (d ∷ ds) [] = (λ h. absurd (false≢true h), λ h. absurd cc)
lists_decide (d ∷ ds) (e ∷ es) = (
  λ h.
      let t = both _ _ h in
      let first : d ≡ e = (entries_decide d e).0 t.0 in
      let rest : ds ≡ es = (lists_decide ds es).0 t.1 in
      λ i. first i ∷ rest i,
  λ h.
      let first : d ≡ e = cc in
      let rest : ds ≡ es = cc in
      each _ _ ((entries_decide d e).1 first) ((lists_decide ds es).1 rest),
)

owners_decide : (a b : Option (List ℕ)) → Decides (same_owner a b) (a ≡ b)
owners_decide None None = (λ h. refl, λ e. refl)
owners_decide None (Some b) = (λ h. absurd (false≢true h), λ h. absurd cc)
owners_decide (Some a) None = (λ h. absurd (false≢true h), λ h. absurd cc)
owners_decide (Some a) (Some b) = (
  λ h. ap (λ x. Some x) ((bytes_eq-Decides a b).0 h),
  λ e. (bytes_eq-Decides a b).1 (same_Some a b e),
)

pub alike_decides : (card other : Listed) → Decides (is_alike card other) (IsAlike card other)
alike_decides card other = (
  λ h.
      let t = both _ _ h in
      record { owner = (owners_decide card.owner other.owner).0 t.0; own = (lists_decide card.own other.own).0 t.1 },
  λ same. each _ _ ((owners_decide card.owner other.owner).1 same.owner) ((lists_decide card.own other.own).1 same.own),
)

-- a test that holds exactly where the owners and the lists are equal
pub alike_is : (card other : Listed) (owner own : Bool) → (owner ≡ true) ↔ (card.owner ≡ other.owner) → (own ≡ true) ↔ (card.own ≡ other.own)
    → (owner && own) ≡ is_alike card other
alike_is card other owner own first second = (λ i. same owner (same_owner card.owner other.owner) (card.owner ≡ other.owner) first (owners_decide card.owner other.owner) i && same own (same_list card.own other.own) (card.own ≡ other.own) second (lists_decide card.own other.own) i)
  where
    same : (a b : Bool) (P : Type 0) → (a ≡ true) ↔ P → Decides b P → a ≡ b
    same true true P f g = refl
    same false false P f g = refl
    same true false P f g = sym (g.1 (f.0 refl))
    same false true P f g = f.1 (g.0 refl)
