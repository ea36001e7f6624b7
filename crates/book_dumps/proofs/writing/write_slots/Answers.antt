use Rattle.book_dumps.proofs.Common.{ℕ, [], ◌∷◌, List, ap, ◌∙◌, codes, option_map}
use Rattle.std.proofs.lemmas.Result.{on_ok_weaker}
use Rattle.json.specs.Json.{Json, string as text}
use Rattle.json.specs.Token.{key, string}
use Rattle.book_office_values.specs.Paths.{path_text}
use Rattle.book_dumps.specs.Lines.{entries_json, paths_json, removed_json}
use Rattle.book_dumps.specs.Objects.{added, if_some, number_json, told_members, unless_empty}
use Rattle.book_dumps.proofs.Written.{nine_told}
use Rattle.book_dumps.proofs.writing.write_slots.Goals as goal

pub returns : goal.returns
returns c =
    let l = c.args.line.now in
    let m1 : List (List ℕ × Json) = (codes "path", text (path_text l.path)) ∷ [] in
    let m2 : List (List ℕ × Json) = if_some (codes "owner") (option_map text l.owner) in
    let m3 : List (List ℕ × Json) = if_some (codes "label") (unless_empty text l.label) in
    let m4 : List (List ℕ × Json) = if_some (codes "protected") (unless_empty entries_json l.protected) in
    let m5 : List (List ℕ × Json) = if_some (codes "own") (unless_empty entries_json l.own) in
    let m6 : List (List ℕ × Json) = if_some (codes "members") (unless_empty paths_json l.members) in
    let m7 : List (List ℕ × Json) = if_some (codes "number") (option_map number_json l.number) in
    let m8 : List (List ℕ × Json) = if_some (codes "removed") (unless_empty removed_json l.removed) in
    let m9 : List (List ℕ × Json) = if_some (codes "text") (option_map text l.text) in
    on_ok_weaker c.write_text.result (λ last. last
    ∙ ap (λ s. told_members s m9)
    (c.in_ok-write_removed.ensures
    ∙ ap (λ x. told_members c.write_number.new.out (if_some (codes "removed") (unless_empty removed_json x))) c.as_slice-4.ensures
    ∙ ap (λ s. told_members s m8) (c.in_ok-write_number.ensures
    ∙ ap (λ s. told_members s m7) (c.in_ok-write_members.ensures
    ∙ ap (λ x. told_members c.write_list-2.new.out (if_some (codes "members") (unless_empty paths_json x))) c.as_slice-3.ensures
    ∙ ap (λ s. told_members s m6) (c.in_ok-write_list-2.ensures
    ∙ ap (λ x. told_members c.write_list.new.out (if_some (codes "own") (unless_empty entries_json x))) c.as_slice-2.ensures
    ∙ ap (λ s. told_members s m5) (c.in_ok-write_list.ensures
    ∙ ap (λ x. told_members c.write_label.new.out (if_some (codes "protected") (unless_empty entries_json x))) c.as_slice.ensures
    ∙ ap (λ s. told_members s m4) (c.in_ok-write_label.ensures
    ∙ ap (λ s. told_members s m3) (c.in_ok-write_owner.ensures
    ∙ ap (λ s. told_members s m2) (c.in_ok-string_member.ensures
    ∙ ap (λ t. added c.args.out.now (key (codes "path") ∷ string t ∷ [])) (c.as_str.ensures.value ∙ c.in_ok-path.ensures)))))))))
    ∙ nine_told c.args.out.now m1 m2 m3 m4 m5 m6 m7 m8 m9) c.write_text.ensures
