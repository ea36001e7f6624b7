use Rattle.std.proofs.Common.{◌≡◌, ap, ◌∙◌}
use Rattle.book_office_audit.proofs.ReadsInTurn.{reads_then}
use Rattle.book_office_values.specs.declared.offices.Office.{Office}
use Rattle.book_office_copies.specs.Copies.{maps_told, office_with}
use Rattle.book_office_copies.specs.declared.copying.Maps.{Maps}
use Rattle.book_office_copies.proofs.Copied.{office_back}
use Rattle.book_office_copies.proofs.copying.copy.Goals as goal

pub returns : goal.returns
returns g c =
    reads_then (g.K.Keeper.standing c.args.keeper.now) (g.K.Keeper.standing c.read_maps.new.keeper) (g.K.Keeper.standing c.read_rest.new.keeper)
    c.in_ok-maps.maps c.read_rest.result (λ (o : Office) (maps : Maps). maps ≡ maps_told o) (λ (o : Office) (copied : Office). copied ≡ office_with o c.in_ok-maps.maps)
    (λ (o : Office) (copied : Office). copied ≡ o) c.in_ok-maps.ensures c.read_rest.ensures
    (λ o stands maps copied is. is ∙ ap (office_with o) maps ∙ office_back o ((g.K.Keeper.standing c.args.keeper.now).sound o stands))
