use Rattle.book_log_denials.proofs.Common.{◌≡◌, List, ℕ, [], ◌∷◌, ◌++◌, ap, sym, ◌∙◌, append_assoc, string_bytes}
use Rattle.std.proofs.Common.{codes}
use Rattle.json.specs.Print.{print}
use Rattle.json.specs.Token.{key}
use Rattle.book_json_lines.specs.Objects.{told_members}
use Rattle.book_log_lines.specs.Lines.{entry_json, entry_text}
use Rattle.book_log_denials.specs.Denials.{standing_members}
use Rattle.book_log_denials.proofs.MembersToEnd.{value_to_end}
use Rattle.book_log_denials.proofs.objects.with_entry.Goals as goal

pub returns : goal.returns
returns c =
    let d = c.args.by.now in
    let old = told_members c.args.out (standing_members d) in
    let front = old ++ key (codes "entry") ∷ [] in
    let tokens : c.key.new.self ≡ front = c.in_ok-key.ensures ∙ ap (λ s. s ++ key (codes "entry") ∷ []) c.in_ok-write_standing.ensures in
    let text : string_bytes c.into_string-text.result ≡ print front = c.into_string-text.ensures ∙ ap print tokens in
    let entry : c.as_str.result.now ≡ entry_text d.entry = c.as_str.ensures.value ∙ c.in_ok-entry.ensures in
    c.in_ok-push_str-2.ensures.bytes
    ∙ ap (λ t. t ++ codes "}") (c.in_ok-push_str.ensures.bytes ∙ ap (λ t. string_bytes c.into_string-text.result ++ t) entry ∙ ap (λ t. t ++ entry_text d.entry) text)
    ∙ append_assoc (print front) (entry_text d.entry) (codes "}")
    ∙ value_to_end old (codes "entry") (entry_json d.entry)
