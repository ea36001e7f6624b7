use Rattle.std.proofs.Common.{◌≡◌, ◌++◌, ◌∙◌, ap, append_assoc, rules}
use Rattle.book_desk_control.specs.Replies.{status_line, allow_line, ending_lines, type_line, length_lines}
use Rattle.book_desk_control.proofs.replies.head_of.Goals as goal

pub returns : goal.returns
returns c =
    let a = status_line c.args.outcome in
    let b = allow_line c.args.outcome in
    let d = ending_lines c.args.ending in
    let e = type_line c.args.kind in
    let f = length_lines c.args.length in
    let first : c.push.new.self ≡ a = search rules in
    let second : c.push_allow.new.text ≡ a ++ b = c.in_ok-push_allow.ensures ∙ ap (λ t. t ++ b) first in
    let third : c.push_ending.new.text ≡ (a ++ b) ++ d = c.in_ok-push_ending.ensures ∙ ap (λ t. t ++ d) second in
    let fourth : c.push-2.new.self ≡ ((a ++ b) ++ d) ++ e = search rules in
    let fifth : c.push_length.new.text ≡ (((a ++ b) ++ d) ++ e) ++ f = c.in_ok-push_length.ensures ∙ ap (λ t. t ++ f) fourth in
    fifth ∙ append_assoc ((a ++ b) ++ d) e f ∙ append_assoc (a ++ b) d (e ++ f) ∙ append_assoc a b (d ++ (e ++ f))
