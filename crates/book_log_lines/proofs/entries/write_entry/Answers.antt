use Rattle.book_log_lines.proofs.Common.{[], ◌∷◌, ◌++◌, ap, ◌∙◌, on_ok_weaker, object_told}
use Rattle.json.specs.Json.{string}
use Rattle.json.specs.Token.{begin_object, end_object, key}
use Rattle.json.specs.Tree.{json_tokens}
use Rattle.book_json_lines.specs.Objects.{added, told_members}
use Rattle.book_lists_explain.specs.ShortNames.{short_list}
use Rattle.book_log_lines.specs.Lines.{entry_members, privileges_json}
use Rattle.book_log_lines.specs.Words.{action_key, form_key, form_text}
use Rattle.book_log_lines.proofs.entries.write_entry.Goals as goal

pub returns : goal.returns
returns c =
    let e = c.args.entry.now in
    on_ok_weaker c.end_object.result (λ last. last
    ∙ ap (λ s. s ++ end_object ∷ [])
    (c.in_ok-string_member.ensures
    ∙ ap (λ k. told_members c.write_privileges.new.out ((k, string c.form_text.result.now) ∷ [])) c.form_key.ensures
    ∙ ap (λ t. told_members c.write_privileges.new.out ((form_key e.invert, string t) ∷ [])) c.form_text.ensures
    ∙ ap (λ s. told_members s ((form_key e.invert, string (form_text e.who)) ∷ []))
    (c.in_ok-write_privileges.ensures
    ∙ ap (λ ns. added c.key.new.self (json_tokens (privileges_json ns))) (c.as_slice.ensures.value ∙ c.in_ok-names.ensures)
    ∙ ap (λ s. added s (json_tokens (privileges_json (short_list e.set))))
    (c.in_ok-key.ensures ∙ ap (λ k. c.begin_object.new.self ++ key k ∷ []) c.action_key.ensures
    ∙ ap (λ s. s ++ key (action_key e.deny) ∷ []) c.in_ok-begin_object.ensures)))
    ∙ object_told c.args.out.now (entry_members e)) c.end_object.ensures
