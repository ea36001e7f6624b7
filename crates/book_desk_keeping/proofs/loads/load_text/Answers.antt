use Rattle.sqlite.specs.Held.{state}
use Rattle.book_desk_keeping.proofs.LoadedTexts.{loads_made}
use Rattle.book_desk_keeping.proofs.loads.load_text.Goals as goal

pub returns-in-Ok-clause-made : goal.returns-in-Ok-clause-made
returns-in-Ok-clause-made g c =
    let told = c.in-Ok.ensures.told in
    loads_made (state g.S.Store) c.args.text.items c.args.changes.now c.args.fresh (g.W.Write.contents c.args.writer.now) (g.W.Write.contents c.make.new.writer)
    c.make.result told.0 c.in-Ok.changed told.1 told.2 c.make.ensures.made c.make.ensures.empty c.make.ensures.written
