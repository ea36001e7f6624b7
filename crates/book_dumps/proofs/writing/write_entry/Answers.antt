use Rattle.book_dumps.proofs.Common.{ℕ, [], ◌∷◌, ◌++◌, List, ap, ◌∙◌, codes}
use Rattle.std.proofs.lemmas.Result.{on_ok_weaker}
use Rattle.json.specs.Json.{Json}
use Rattle.json.specs.Token.{Token, begin_object, end_object, key, string}
use Rattle.json.specs.Tree.{json_tokens}
use Rattle.book_office_audit.specs.EntryLines.{who_text}
use Rattle.book_dumps.specs.Lines.{action_key, entry_members, mark, set_json}
use Rattle.book_dumps.specs.Objects.{added, if_some, told_members}
use Rattle.book_dumps.proofs.Written.{members_append, object_told}
use Rattle.book_dumps.proofs.writing.write_entry.Goals as goal

pub returns : goal.returns
returns c =
    let e = c.args.entry.now in
    let set : List Token = json_tokens (set_json e.set) in
    let start : List Token = c.args.out.now ++ begin_object ∷ [] in
    let who : List Token = key (codes "who") ∷ string (who_text e.who) ∷ [] in
    let marks : List (List ℕ × Json) = if_some (codes "invert") (mark e.invert) in
    let action : List (List ℕ × Json) = (action_key e.deny, set_json e.set) ∷ [] in
    on_ok_weaker c.end_object.result (λ last. last
    ∙ ap (λ s. s ++ end_object ∷ [])
    (c.in_ok-write_set.ensures ∙ ap (λ s. added s set)
    (c.in_ok-key.ensures ∙ ap (λ k. c.write_mark.new.out ++ key k ∷ []) c.action_key.ensures
    ∙ ap (λ s. s ++ key (action_key e.deny) ∷ [])
    (c.in_ok-write_mark.ensures ∙ ap (λ s. told_members s marks)
    (c.in_ok-string_member.ensures ∙ ap (λ t. added c.begin_object.new.self (key (codes "who") ∷ string t ∷ [])) c.who_text.ensures
    ∙ ap (λ s. added s who) c.in_ok-begin_object.ensures)))
    ∙ members_append (added start who) marks action)
    ∙ object_told c.args.out.now (entry_members e)) c.end_object.ensures
