-- The Office of a new keeper is sound.
use Rattle.book_office.proofs.Common.{◌≡◌, Bool, true, ◌&&◌, None, sym, ap, ◌∙◌, arith, memberships_total, memberships_exact, membership_cmp, name_cmp, Membership, IsSound, AreSoundProperties, Book, Office}
use Rattle.std.specs.FinMap.{empty, len-empty}
use Rattle.std.specs.FinSet as set
use Rattle.book_office_values.proofs.Labels.{empty_label}
use Rattle.book_office_values.proofs.OneName.{nothing_in}
use Rattle.book_office.specs.Edits.{empty_office, empty_properties}

-- no pair is kept of none
none_kept : (p : Membership → Bool) → set.retain (set.empty {R = membership_cmp}) p ≡ set.empty
none_kept p = set.same_set memberships_total memberships_exact _ _ (λ q.
    set.contains-retain set.empty p q (λ x e. ap p (sym (memberships_exact q x e)))
    ∙ ap (λ b. b && p q) (set.contains-empty membership_cmp q) ∙ sym (set.contains-empty membership_cmp q))

no_pair : {P : Type 0} (pair : Membership) → set.contains (set.empty {R = membership_cmp}) pair ≡ true → P
no_pair pair e = absurd (let none = set.contains-empty membership_cmp pair in cc)

empty_properties_sound : (o : Office) → AreSoundProperties o (empty_properties None)
empty_properties_sound o = record {
  owner = tt;
  label = empty_label;
  protected = record { few = omega arith; known = λ k d l. absurd (omega arith) };
  own = record { few = omega arith; known = λ k d l. absurd (omega arith) };
}

pub empty_sound : IsSound empty_office
empty_sound = record {
  root = empty_properties_sound empty_office;
  people = empty_properties_sound empty_office;
  groups_home = empty_properties_sound empty_office;
  books_home = empty_properties_sound empty_office;
  persons = λ q k e. nothing_in q k e;
  groups = λ q k e. nothing_in q k e;
  books = λ q k e. nothing_in q k e;
  few = rw (len-empty name_cmp Book) (omega arith);
  pairs = λ pair e. no_pair pair e;
  members = λ group. rw (none_kept _, set.len-empty membership_cmp) (omega arith);
  epoch = omega arith;
}
