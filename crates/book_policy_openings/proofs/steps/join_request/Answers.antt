use Rattle.std.proofs.Common.{◌∙◌, List, ℕ, ap, subst}
use Rattle.book_rights.specs.declared.methods.Method.TheVariants as method
use Rattle.book_lists.specs.Principals.{person_path}
use Rattle.book_office_values.specs.declared.paths.Path.TheVariants as path
use Rattle.book_machine.specs.declared.messages.Body.TheVariants as body
use Rattle.book_machine.specs.declared.messages.Patch.TheVariants.{GroupMembers}
use Rattle.book_policy_openings.specs.Steps.{AreMembersAnd, plain}
use Rattle.book_policy_openings.proofs.steps.join_request.Goals as goal

pub returns-clause-request : goal.returns-clause-request
returns-clause-request c = λ sound.
    let o = c.args.keeper.now in
    let members = c.in_ok-members.members in (
      members,
      subst (λ (g : List ℕ). AreMembersAnd o g (person_path c.args.person.now) members) c.in_ok-to.ensures
          (subst (λ (p : List ℕ). AreMembersAnd o c.in_ok-to.to p members) c.in_ok-who.ensures (c.in_ok-members.ensures.members sound)),
      c.plain.ensures ∙ ap (λ (g : List ℕ). plain method.Proppatch (path.Group g) (body.Patch (GroupMembers members))) c.in_ok-clone.ensures.cases,
    )
