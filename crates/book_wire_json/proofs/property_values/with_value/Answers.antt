use Rattle.book_wire_json.proofs.Common.{[], ◌∷◌, ap, sym, ◌∙◌, refl, List}
use Rattle.std.proofs.Common.{codes}
use Rattle.serde_json.specs.Data.{put}
use Rattle.book_wire_json.specs.PropertyValues.{Slot, present, property_data, property_name, slots}
use Rattle.book_wire_json.specs.Writing.{members_of}
use Rattle.book_wire_json.proofs.Ordered.{put_slot}
use Rattle.book_wire_json.proofs.property_values.with_value.Goals as goal

pub returns-in-Acl : goal.returns-in-Acl
returns-in-Acl c =
    let front : List Slot = [] in
    let after : List Slot = (codes "current-user-privilege-set", c.args.last.privileges) ∷ (codes "displayname", c.args.last.label) ∷
    (codes "group-member-set", c.args.last.members) ∷ (codes "owner", c.args.last.owner) ∷
    (codes "resourcetype", c.args.last.kind) ∷ (codes "sync-token", c.args.last.token) ∷ [] in
    put_slot front (codes "acl") c.args.last.acl c.args.value after tt refl (refl, (refl, (refl, (refl, (refl, (refl, tt))))))
    ∙ ap (λ n. put n (property_data c.args.value.now) (members_of (present (slots c.args.last)))) (sym (ap property_name c.in-Acl.is))

pub returns-in-CurrentUserPrivilegeSet : goal.returns-in-CurrentUserPrivilegeSet
returns-in-CurrentUserPrivilegeSet c =
    let front : List Slot = (codes "acl", c.args.last.acl) ∷ [] in
    let after : List Slot = (codes "displayname", c.args.last.label) ∷
    (codes "group-member-set", c.args.last.members) ∷ (codes "owner", c.args.last.owner) ∷
    (codes "resourcetype", c.args.last.kind) ∷ (codes "sync-token", c.args.last.token) ∷ [] in
    put_slot front (codes "current-user-privilege-set") c.args.last.privileges c.args.value after (refl, tt) refl (refl, (refl, (refl, (refl, (refl, tt)))))
    ∙ ap (λ n. put n (property_data c.args.value.now) (members_of (present (slots c.args.last)))) (sym (ap property_name c.in-CurrentUserPrivilegeSet.is))

pub returns-in-DisplayName : goal.returns-in-DisplayName
returns-in-DisplayName c =
    let front : List Slot = (codes "acl", c.args.last.acl) ∷ (codes "current-user-privilege-set", c.args.last.privileges) ∷ [] in
    let after : List Slot = (codes "group-member-set", c.args.last.members) ∷ (codes "owner", c.args.last.owner) ∷
    (codes "resourcetype", c.args.last.kind) ∷ (codes "sync-token", c.args.last.token) ∷ [] in
    put_slot front (codes "displayname") c.args.last.label c.args.value after (refl, (refl, tt)) refl (refl, (refl, (refl, (refl, tt))))
    ∙ ap (λ n. put n (property_data c.args.value.now) (members_of (present (slots c.args.last)))) (sym (ap property_name c.in-DisplayName.is))

pub returns-in-GroupMemberSet : goal.returns-in-GroupMemberSet
returns-in-GroupMemberSet c =
    let front : List Slot = (codes "acl", c.args.last.acl) ∷ (codes "current-user-privilege-set", c.args.last.privileges) ∷ (codes "displayname", c.args.last.label) ∷ [] in
    let after : List Slot = (codes "owner", c.args.last.owner) ∷
    (codes "resourcetype", c.args.last.kind) ∷ (codes "sync-token", c.args.last.token) ∷ [] in
    put_slot front (codes "group-member-set") c.args.last.members c.args.value after (refl, (refl, (refl, tt))) refl (refl, (refl, (refl, tt)))
    ∙ ap (λ n. put n (property_data c.args.value.now) (members_of (present (slots c.args.last)))) (sym (ap property_name c.in-GroupMemberSet.is))

pub returns-in-Owner : goal.returns-in-Owner
returns-in-Owner c =
    let front : List Slot = (codes "acl", c.args.last.acl) ∷ (codes "current-user-privilege-set", c.args.last.privileges) ∷ (codes "displayname", c.args.last.label) ∷
    (codes "group-member-set", c.args.last.members) ∷ [] in
    let after : List Slot = (codes "resourcetype", c.args.last.kind) ∷ (codes "sync-token", c.args.last.token) ∷ [] in
    put_slot front (codes "owner") c.args.last.owner c.args.value after (refl, (refl, (refl, (refl, tt)))) refl (refl, (refl, tt))
    ∙ ap (λ n. put n (property_data c.args.value.now) (members_of (present (slots c.args.last)))) (sym (ap property_name c.in-Owner.is))

pub returns-in-ResourceType : goal.returns-in-ResourceType
returns-in-ResourceType c =
    let front : List Slot = (codes "acl", c.args.last.acl) ∷ (codes "current-user-privilege-set", c.args.last.privileges) ∷ (codes "displayname", c.args.last.label) ∷
    (codes "group-member-set", c.args.last.members) ∷ (codes "owner", c.args.last.owner) ∷ [] in
    let after : List Slot = (codes "sync-token", c.args.last.token) ∷ [] in
    put_slot front (codes "resourcetype") c.args.last.kind c.args.value after (refl, (refl, (refl, (refl, (refl, tt))))) refl (refl, tt)
    ∙ ap (λ n. put n (property_data c.args.value.now) (members_of (present (slots c.args.last)))) (sym (ap property_name c.in-ResourceType.is))

pub returns-in-SyncToken : goal.returns-in-SyncToken
returns-in-SyncToken c =
    let front : List Slot = (codes "acl", c.args.last.acl) ∷ (codes "current-user-privilege-set", c.args.last.privileges) ∷ (codes "displayname", c.args.last.label) ∷
    (codes "group-member-set", c.args.last.members) ∷ (codes "owner", c.args.last.owner) ∷
    (codes "resourcetype", c.args.last.kind) ∷ [] in
    let after : List Slot = [] in
    put_slot front (codes "sync-token") c.args.last.token c.args.value after (refl, (refl, (refl, (refl, (refl, (refl, tt)))))) refl tt
    ∙ ap (λ n. put n (property_data c.args.value.now) (members_of (present (slots c.args.last)))) (sym (ap property_name c.in-SyncToken.is))
