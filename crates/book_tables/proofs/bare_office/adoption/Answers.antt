use Rattle.book_tables.proofs.Common.{◌≡◌, Err, refl, ap, ◌∙◌, state, Inside, ReadsInside, Office, inside_of, adoption_of, bare}
use Rattle.book_office.specs.declared.keepers.StoreFault.TheVariants.{Memory}
use Rattle.book_office_adopting.specs.declared.adopting.Adoption.{Adoption}
use Rattle.book_office_adopting.proofs.BareAdoption.{adoption_told}
use Rattle.book_tables.proofs.Readings.{then_tells, then_gives_up, passed_on}
use Rattle.book_tables.proofs.bare_office.adoption.Goals as goal

pub returns-clause-reads : goal.returns-clause-reads
returns-clause-reads g c =
    let old : Inside = inside_of (state g.S.Store c.args.transaction.now.conn.now) c.args.failures.now in
    let new : Inside = inside_of (state g.S.Store c.bare_office.new.transaction.conn.now) c.bare_office.new.failures in
    let t = c.args.policy.now in
    then_tells old new c.in_ok-office.office (λ (o : Office) (office : Office). office ≡ bare o) c.in_ok-office.ensures.reads
    c.in_ok-adoption_of.field-0 (λ (o : Office) (told : Adoption). told ≡ adoption_of t o)
    (λ o e. c.in_ok-adoption_of.ensures ∙ ap (adoption_of t) e ∙ adoption_told t o)

pub returns-in_err-adoption_of-clause-reads : goal.returns-in_err-adoption_of-clause-reads
returns-in_err-adoption_of-clause-reads g c =
    let old : Inside = inside_of (state g.S.Store c.args.transaction.now.conn.now) c.args.failures.now in
    let new : Inside = inside_of (state g.S.Store c.bare_office.new.transaction.conn.now) c.bare_office.new.failures in
    let t = c.args.policy.now in
    let V : Office → Adoption → Type 0 = λ o told. told ≡ adoption_of t o in
    let fails : ReadsInside {A = Adoption} old new (Err Memory) V =
    then_gives_up old new c.in_ok-office.office (λ (o : Office) (office : Office). office ≡ bare o) c.in_ok-office.ensures.reads V Memory new.failures refl in
    passed_on old new Memory c.from_residual-in_err-adoption_of.result V V c.from_residual-in_err-adoption_of.ensures.1 fails
