use Rattle.book_log_denials.proofs.Common.{◌≡◌, [], ◌∷◌, ◌++◌, ap, sym, ◌∙◌, Option, Some, List, ℕ}
use Rattle.std.proofs.lemmas.Result.{IfOk-weaker}
use Rattle.json.specs.Json.{Json}
use Rattle.json.specs.Print.{print}
use Rattle.json.specs.Token.{Token, end_object}
use Rattle.book_json_lines.specs.Objects.{told_members}
use Rattle.book_log_lines.specs.declared.lines.Decided.{Decided}
use Rattle.book_log_denials.specs.Denials.{by_members, caller_members, denial_members, group_members, members_text}
use Rattle.book_log_denials.proofs.MembersToEnd.{members_append, told_to_end}
use Rattle.book_log_denials.proofs.objects.members_of.Goals as goal

pub returns-in-Some : goal.returns-in-Some
returns-in-Some c =
    let l = c.args.line.now in
    let d = c.args.denied.now in
    let asked = caller_members l in
    let denial = denial_members d in
    let by = by_members (Some c.in-Some.by) in
    let out : c.write_denial.new.out ≡ told_members (told_members [] asked) denial =
    c.in_ok-write_denial.ensures ∙ ap (λ s. told_members s denial) (c.in_ok-write_asked.ensures ∙ ap (λ s. told_members s asked) c.new-out.ensures) in
    let whole : told_members (told_members (told_members [] asked) denial) by ≡ told_members [] (asked ++ (denial ++ by)) =
    members_append (told_members [] asked) denial by ∙ members_append [] asked (denial ++ by) in
    let same : asked ++ (denial ++ by) ≡ group_members l d = ap (λ (b : Option Decided). asked ++ (denial ++ by_members b)) (sym c.in-Some.is) in
    IfOk-weaker c.with_entry.result _ _ (λ text is. is
    ∙ ap (λ s. print (told_members s by ++ end_object ∷ [])) out
    ∙ ap (λ s. print (s ++ end_object ∷ [])) whole
    ∙ ap print (told_to_end [] (asked ++ (denial ++ by)))
    ∙ ap members_text same) c.with_entry.ensures
