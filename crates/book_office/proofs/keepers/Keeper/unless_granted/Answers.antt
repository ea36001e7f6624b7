use Rattle.book_office.proofs.Common.{false, sym, subst, ap, ◌∙◌, IsAllowed, in_force}
use Rattle.book_office.specs.declared.nodes.Lists.{Lists}
use Rattle.book_office.proofs.keepers.Keeper.unless_granted.Goals as goal

pub returns : goal.returns
returns g c =
    let told = c.in_ok-lists.ensures in record {
      was_honest = told.was_honest;
      falls = told.falls;
      value = λ honest o stands.
          let is = told.value honest o stands in (
            λ granted. absurd (
                let allowed = subst (λ levels. IsAllowed (in_force levels) c.args.circle.now c.args.here.now c.args.set) (sym (c.as_slice.ensures ∙ ap (λ (l : Lists). l.levels) is)) granted in
                let e = sym c.if-grant.false ∙ c.grant.ensures.1 allowed in
                cc
                ),
            is,
          );
      kept = told.kept;
      left = told.left;
      counted = told.counted;
    }
