-- What `unchanged` says of two Offices.
use Rattle.book_questions_changes.proofs.Common.{◌≡◌, ◌++◌, ◌∙◌, [], sym}
use Rattle.book_questions_changes.specs.Changes.{with_last}
use Rattle.book_questions_changes.specs.Laws.{UnchangedIsEqual, UnchangedIsTold}
use Rattle.book_questions_changes.proofs.Equal.{all_equal, are_unchanged}
use Rattle.book_questions_changes.proofs.FactsTold.{equal_at, no_facts}
use Rattle.book_questions_changes.proofs.MembersTold.{members_same, same_members}
use Rattle.book_questions_changes.proofs.RightsTold.{no_rights, rights_alike}
use Rattle.book_questions_changes.proofs.Texts.{nothing_before, parts_nothing}

pub unchanged_is_told : UnchangedIsTold
unchanged_is_told o p text sound_o sound_p (members, facts, rights, parts, told) = (
  λ e.
      let nothing = nothing_before (members ++ (facts ++ rights)) (sym told ∙ e) in
      let first = parts_nothing members (facts ++ rights) nothing in
      let second = parts_nothing facts rights first.1 in
      record {
        members = members_same o.pairs p.pairs members parts.are_members first.0;
        resources = equal_at o p sound_o sound_p (sym parts.are_facts ∙ second.0);
        rights = rights_alike o p rights sound_o sound_p parts.are_rights second.1;
      },
  λ same.
      let none : members ≡ [] = same_members o.pairs p.pairs members parts.are_members same.members in
      let no_fact : facts ≡ [] = parts.are_facts ∙ no_facts o p same.resources in
      let no_right : rights ≡ [] = no_rights o p same.rights rights parts.are_rights in
      told ∙ (λ i. with_last (none i ++ (no_fact i ++ no_right i))),
)

pub unchanged_is_equal : UnchangedIsEqual
unchanged_is_equal o p text sound_o sound_p cards told =
    let k = unchanged_is_told o p text sound_o sound_p told in (
      λ e. let same = k.0 e in all_equal o p cards same.members same.resources,
      λ same. k.1 (are_unchanged o p same),
    )
