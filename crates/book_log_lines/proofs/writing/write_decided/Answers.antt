use Rattle.book_log_lines.proofs.Common.{[], ◌∷◌, ◌++◌, ap, ◌∙◌, codes, on_ok_weaker}
use Rattle.json.specs.Json.{boolean}
use Rattle.json.specs.Token.{key}
use Rattle.json.specs.Tree.{json_tokens}
use Rattle.book_json_lines.specs.Objects.{added, number_json, told_members}
use Rattle.book_log_lines.specs.Lines.{entry_json}
use Rattle.book_log_lines.proofs.writing.write_decided.Goals as goal

pub returns : goal.returns
returns c =
    let d = c.args.by.now in
    on_ok_weaker c.write_entry.result (λ last. last
    ∙ ap (λ s. added s (json_tokens (entry_json d.entry))) (c.in_ok-key.ensures
    ∙ ap (λ s. s ++ key (codes "entry") ∷ []) (c.in_ok-number_member-2.ensures
    ∙ ap (λ s. told_members s ((codes "number", number_json d.number) ∷ [])) (c.in_ok-number_member.ensures
    ∙ ap (λ s. told_members s ((codes "place", number_json d.place) ∷ [])) (c.in_ok-boolean_member.ensures
    ∙ ap (λ s. told_members s ((codes "protected", boolean d.protected) ∷ [])) c.in_ok-write_path.ensures))))) c.write_entry.ensures
