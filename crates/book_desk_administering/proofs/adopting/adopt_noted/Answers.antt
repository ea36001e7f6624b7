use Rattle.book_office.specs.Keeping.{Standing}
use Rattle.book_desk_administering.proofs.Adoptions.{keeps_still, line_noted}
use Rattle.book_desk_administering.proofs.adopting.adopt_noted.Goals as goal

pub returns : goal.returns
returns g c =
    let between : Standing = g.K.Keeper.standing c.adopt-outcome.new.self.keeper in
    let told : Standing = g.K.Keeper.standing c.epoch_told-epoch.new.machine.keeper in
    let last : Standing = g.K.Keeper.standing c.note_adoption-noted.new.self.machine.keeper in
    let noted = c.note_adoption-noted.ensures.noted in
    record {
      between = record c.args.logged.now { machine = c.adopt-outcome.new.self };
      promise = c.adopt-outcome.ensures;
      keeps = keeps_still between told last c.epoch_told-epoch.ensures.keeps noted.still;
      noted = line_noted between told last c.adopt-outcome.result c.told_as.result c.epoch_told-epoch.result _ _ c.told_as.ensures c.epoch_told-epoch.ensures.told noted.still noted.noted;
    }
