use Rattle.std.proofs.Common.{[], ◌∷◌}
use Rattle.book_wire_serving.proofs.LentServings.{owes_by}
use Rattle.book_wire_serving.proofs.lent_services.RefMutService.serve.Goals as goal

pub returns : goal.returns
returns g c =
    owes_by (c.args.self.now.ghost_name ∷ []) (g.M.Service.serving c.args.self.now.now) (g.M.Service.serving c.serve.new.self) _ _ _ _ c.serve.ensures
