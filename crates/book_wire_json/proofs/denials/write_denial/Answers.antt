use Rattle.book_wire_json.proofs.Common.{[], ◌∷◌, ◌++◌, List, ap, ◌∙◌}
use Rattle.std.proofs.Common.{codes}
use Rattle.std.proofs.lemmas.Result.{on_ok_weaker}
use Rattle.json.specs.Token.{Token, begin_object, end_object, key, string}
use Rattle.book_rights.specs.Privileges.{name_of}
use Rattle.book_office_values.specs.Paths.{path_text}
use Rattle.book_wire_json.specs.Denials.{entry_data}
use Rattle.book_wire_json.specs.Writing.{added, data_tokens}
use Rattle.book_wire_json.proofs.Written.{added_append}
use Rattle.book_wire_json.proofs.denials.write_denial.Goals as goal

pub returns : goal.returns
returns c =
    let start : List Token = (c.args.out.now ++ begin_object ∷ []) ++ key (codes "entry") ∷ [] in
    let entry : List Token = data_tokens (entry_data c.args.denial.now.entry) in
    let privilege = name_of c.args.denial.now.privilege in
    let resource = path_text c.args.denial.now.resource in
    let rest : List Token = key (codes "privilege") ∷ string privilege ∷ key (codes "resource") ∷ string resource ∷ end_object ∷ [] in
    on_ok_weaker c.end_object.result (λ last. last
    ∙ ap (λ s. s ++ end_object ∷ [])
    (c.in_ok-path_member.ensures
    ∙ ap (λ s. added s (key (codes "resource") ∷ string resource ∷ []))
    (c.in_ok-string_member.ensures
    ∙ ap (λ t. added c.write_entry.new.out (key (codes "privilege") ∷ string t ∷ [])) c.name.ensures
    ∙ ap (λ s. added s (key (codes "privilege") ∷ string privilege ∷ []))
    (c.in_ok-write_entry.ensures ∙ ap (λ s. added s entry) (c.in_ok-key.ensures ∙ ap (λ s. s ++ key (codes "entry") ∷ []) c.in_ok-begin_object.ensures))))
    ∙ added_append start entry rest) c.end_object.ensures
