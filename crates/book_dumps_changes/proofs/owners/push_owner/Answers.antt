use Rattle.std.proofs.Common.{◌≡◌, ◌++◌, ap, ◌∙◌, codes, string_bytes}
use Rattle.book_office_values.specs.Paths.{path_text}
use Rattle.book_dumps_changes.proofs.Told.{pushed, seven}
use Rattle.book_dumps_changes.proofs.owners.push_owner.Goals as goal

pub returns : goal.returns
returns c =
    let s = string_bytes c.args.told.now in
    let path = path_text c.args.path.now in
    let from = c.args.from.now in
    let to = c.args.to.now in
    let told : string_bytes c.push_str-5.new.self ≡ (((((s ++ codes "owner ") ++ path) ++ codes " ") ++ from) ++ codes " -> ") ++ to =
    c.in_ok-push_str-5.ensures.bytes ∙ ap (λ t. string_bytes c.push_str-4.new.self ++ t) c.text-2.ensures
    ∙ ap (λ t. t ++ to) (c.in_ok-push_str-4.ensures.bytes ∙ ap (λ t. t ++ codes " -> ")
    (c.in_ok-push_str-3.ensures.bytes ∙ ap (λ t. string_bytes c.push_str-2.new.self ++ t) c.text.ensures
    ∙ ap (λ t. t ++ from) (c.in_ok-push_str-2.ensures.bytes ∙ ap (λ t. t ++ codes " ")
    (c.in_ok-push_text.ensures ∙ ap (λ t. t ++ path) c.in_ok-push_str.ensures.bytes)))) in
    pushed c.push_str-6.result _ (string_bytes c.push_str-5.new.self) (codes "\n") _ c.push_str-6.ensures.bytes
    (ap (λ t. t ++ codes "\n") told ∙ seven s (codes "owner ") path (codes " ") from (codes " -> ") to (codes "\n"))
