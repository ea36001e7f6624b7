use Rattle.std.proofs.Common.{◌≡◌, ◌∙◌, ℕ, Some, None, IfNone, IfSome, codes, refl, subst}
use Rattle.clap.specs.Words.{first_of, found_of, rows_of}
use Rattle.clap.proofs.WalkLemmas.{first_value-rows}
use Rattle.book_desk_words.specs.CommandLine.{IsMode}
use Rattle.book_desk_words.proofs.listening.mode_in.Goals as goal

pub returns-in-Some-clause-read : goal.returns-in-Some-clause-read
returns-in-Some-clause-read c =
    let got = rw c.in-Some.is at c.get_str.ensures in
    let is : Some c.in-Some.text.now ≡ first_of (codes "mode") (rows_of (found_of c.args.found.now)) = got ∙ first_value-rows (found_of c.args.found.now) (codes "mode") in
    subst (λ o. IfSome c.mode_of.result (IsMode o)) is c.mode_of.ensures.read

pub returns-in-Some-clause-none : goal.returns-in-Some-clause-none
returns-in-Some-clause-none c =
    let got = rw c.in-Some.is at c.get_str.ensures in
    let is : Some c.in-Some.text.now ≡ first_of (codes "mode") (rows_of (found_of c.args.found.now)) = got ∙ first_value-rows (found_of c.args.found.now) (codes "mode") in
    subst (λ o. IfNone c.mode_of.result ((mode : ℕ) → IsMode o mode → ⊥)) is c.mode_of.ensures.none

pub returns-in-None-clause-read : goal.returns-in-None-clause-read
returns-in-None-clause-read c =
    let got = rw c.in-None.is at c.get_str.ensures in
    let is : None ≡ first_of (codes "mode") (rows_of (found_of c.args.found.now)) = got ∙ first_value-rows (found_of c.args.found.now) (codes "mode") in
    subst (λ o. IsMode o 384) is refl
