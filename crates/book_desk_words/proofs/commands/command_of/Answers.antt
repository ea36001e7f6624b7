use Rattle.std.proofs.Common.{◌≡◌, ◌∙◌, ap, subst, map, string_bytes, Option, List, [], inl, inr}
use Rattle.std.proofs.lemmas.Result.{IfErr-weaker, IfOk-weaker}
use Rattle.clap.specs.Faults.{fault_of, is_simple_and_free}
use Rattle.clap.specs.Kinds.{HasKind}
use Rattle.clap.specs.Words.{App, Row, Text, is_simple, subcommand_of}
use Rattle.book_desk_words.specs.CommandLine.{IsMatched, MatchesNone}
use Rattle.book_desk_words.proofs.Found.{asks_for_help, refuses}
use Rattle.book_desk_words.proofs.Missing.{none_told}
use Rattle.book_desk_words.proofs.SimpleProgram.{program_is_free, program_is_simple}
use Rattle.book_desk_words.proofs.commands.command_of.Goals as goal

pub returns-in-Some-clause-read : goal.returns-in-Some-clause-read
returns-in-Some-clause-read c =
    let app_is = c.in_ok-program.ensures in
    let found = (c.in-Ok.ensures.matches (ap is_simple app_is ∙ program_is_simple)).1 in
    let read = rw c.in-Some.is at c.in_ok-command.ensures.read in
    inl (
      subst (λ (a : App). fault_of a (map string_bytes c.args.words.now) ≡ []) app_is (c.in-Ok.ensures.kinds (ap is_simple_and_free app_is ∙ program_is_free)),
      subst (λ (o : Option (Text × List Row)). IsMatched o c.in-Some.command)
          (found ∙ ap (λ (a : App). subcommand_of a (map string_bytes c.args.words.now)) app_is) read,
    )

pub returns-in-Err-clause-read : goal.returns-in-Err-clause-read
returns-in-Err-clause-read c =
    let app_is = c.in_ok-program.ensures in
    let kinds = subst (λ (a : App). HasKind (fault_of a (map string_bytes c.args.words.now)) c.in-Err.error) app_is
    (c.in-Err.ensures.kinds (ap is_simple_and_free app_is ∙ program_is_free)) in
    IfOk-weaker c.answer_of.result _ _ (λ command h. inr (asks_for_help _ c.in-Err.error kinds command h)) c.answer_of.ensures.asked

pub returns-in-Err-clause-wrong : goal.returns-in-Err-clause-wrong
returns-in-Err-clause-wrong c =
    let app_is = c.in_ok-program.ensures in
    let kinds = subst (λ (a : App). HasKind (fault_of a (map string_bytes c.args.words.now)) c.in-Err.error) app_is
    (c.in-Err.ensures.kinds (ap is_simple_and_free app_is ∙ program_is_free)) in
    IfErr-weaker c.answer_of.result _ _ (λ fault h. refuses _ _ c.in-Err.error kinds fault h) c.answer_of.ensures.wrong

pub returns-clause-wrong : goal.returns-clause-wrong
returns-clause-wrong c =
    let app_is = c.in_ok-program.ensures in
    let found = (c.in-Ok.ensures.matches (ap is_simple app_is ∙ program_is_simple)).1 in
    let none = rw c.in-None.is at c.in_ok-command.ensures.none in
    none_told _ _ c.usage.result
    (subst (λ (a : App). fault_of a (map string_bytes c.args.words.now) ≡ []) app_is (c.in-Ok.ensures.kinds (ap is_simple_and_free app_is ∙ program_is_free)))
    (subst MatchesNone (found ∙ ap (λ (a : App). subcommand_of a (map string_bytes c.args.words.now)) app_is) none)
    c.usage.ensures
