use Rattle.book_log_lines.proofs.Common.{ℕ, List, Json, ap, ◌∙◌, codes, option_map, on_ok_weaker, four_told}
use Rattle.json.specs.Json.{string}
use Rattle.book_json_lines.specs.Objects.{if_some, told_members}
use Rattle.book_log_lines.specs.Lines.{method_json, path_json}
use Rattle.book_log_lines.proofs.writing.write_asked.Goals as goal

pub returns : goal.returns
returns c =
    let l = c.args.line.now in
    let m1 : List (List ℕ × Json) = if_some (codes "caller") (option_map string l.caller) in
    let m2 : List (List ℕ × Json) = if_some (codes "method") (option_map method_json l.method) in
    let m3 : List (List ℕ × Json) = if_some (codes "path") (option_map path_json l.path) in
    let m4 : List (List ℕ × Json) = if_some (codes "destination") (option_map path_json l.destination) in
    on_ok_weaker c.write_path_if-2.result (λ last. last
    ∙ ap (λ s. told_members s m4) (c.in_ok-write_path_if.ensures
    ∙ ap (λ s. told_members s m3) (c.in_ok-write_method.ensures
    ∙ ap (λ s. told_members s m2) c.in_ok-write_text_if.ensures))
    ∙ four_told c.args.out.now m1 m2 m3 m4) c.write_path_if-2.ensures
