use Rattle.std.proofs.Common.{◌≡◌, ◌∷◌, [], ◌++◌, ◌∙◌, ap, codes}
use Rattle.std.proofs.lemmas.Result.{IfOk-weaker}
use Rattle.json.specs.Json.{object}
use Rattle.json.specs.Print.{print}
use Rattle.json.specs.Token.{begin_object, end_object}
use Rattle.json.specs.Tree.{json_tokens}
use Rattle.book_json_lines.proofs.Written.{object_told, text_written}
use Rattle.book_json_lines.specs.Objects.{added, members_of, told_members}
use Rattle.book_desk_asking.specs.Questions.{words_of}
use Rattle.book_desk_asking.proofs.bodies.words_line.Goals as goal

pub returns : goal.returns
returns c =
    let ms = words_of c.args.question.now in
    let begun : c.begin_object.new.self ≡ [] ++ begin_object ∷ [] =
    c.in_ok-begin_object.ensures ∙ ap (λ s. s ++ begin_object ∷ []) c.new-out.ensures in
    let put : c.put_words.new.out ≡ told_members c.begin_object.new.self ms = c.in_ok-put_words.ensures in
    let ended : c.end_object.new.self ≡ c.put_words.new.out ++ end_object ∷ [] = c.in_ok-end_object.ensures in
    let whole : c.end_object.new.self ≡ added [] (json_tokens (object (members_of ms))) =
    ended ∙ ap (λ s. s ++ end_object ∷ []) (put ∙ ap (λ s. told_members s ms) begun) ∙ object_told [] ms in
    IfOk-weaker c.into_line.result _ _ (λ line is. is ∙ ap (λ s. print s ++ codes "\n") whole ∙ text_written (object (members_of ms)))
    c.into_line.ensures
