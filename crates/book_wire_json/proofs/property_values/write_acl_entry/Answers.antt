use Rattle.book_wire_json.proofs.Common.{ℕ, [], ◌∷◌, ◌++◌, List, ap, ◌∙◌, Data}
use Rattle.std.proofs.lemmas.Result.{on_ok_weaker}
use Rattle.json.specs.Token.{Token, begin_object, end_object, key, string}
use Rattle.serde_json.specs.Data.{string as text}
use Rattle.book_wire_json.specs.PropertyValues.{action_key, entry_members, form_key, form_text, inherited_member, privileges_data, protected_member}
use Rattle.book_wire_json.specs.Writing.{added, data_tokens, told_members}
use Rattle.book_wire_json.proofs.Written.{members_append, object_told}
use Rattle.book_wire_json.proofs.property_values.write_acl_entry.Goals as goal

pub returns : goal.returns
returns c =
    let e = c.args.entry.now in
    let privileges : List Token = data_tokens (privileges_data e.privileges) in
    let action : List Token = added ((c.args.out.now ++ begin_object ∷ []) ++ key (action_key e.deny) ∷ []) privileges in
    let inherited : List (List ℕ × Data) = inherited_member e.inherited in
    let protected : List (List ℕ × Data) = protected_member e.protected in
    let form : List Token = key (form_key e.invert) ∷ string (form_text e.who) ∷ [] in
    on_ok_weaker c.end_object.result (λ last. last
    ∙ ap (λ s. s ++ end_object ∷ [])
    (c.in_ok-write_protected.ensures ∙ ap (λ s. told_members s protected)
    (c.in_ok-string_member.ensures
    ∙ ap (λ k. added c.write_inherited.new.out (key k ∷ string c.form_text.result.now ∷ [])) c.form_key.ensures
    ∙ ap (λ t. added c.write_inherited.new.out (key (form_key e.invert) ∷ string t ∷ [])) c.form_text.ensures
    ∙ ap (λ s. added s form)
    (c.in_ok-write_inherited.ensures ∙ ap (λ s. told_members s inherited)
    (c.in_ok-write_privileges.ensures
    ∙ ap (λ ps. added c.key.new.self (data_tokens (privileges_data ps))) c.as_slice.ensures
    ∙ ap (λ s. added s privileges)
    (c.in_ok-key.ensures ∙ ap (λ k. c.begin_object.new.self ++ key k ∷ []) c.action_key.ensures
    ∙ ap (λ s. s ++ key (action_key e.deny) ∷ []) c.in_ok-begin_object.ensures))))
    ∙ members_append action inherited ((form_key e.invert, text (form_text e.who)) ∷ protected))
    ∙ object_told c.args.out.now (entry_members e)) c.end_object.ensures
