use Rattle.book_tables.proofs.Common.{◌≡◌, rules, false, state}
use Rattle.std.specs.Prelude.{is_err}
use Rattle.book_tables.proofs.Spoiled.{read_within}
use Rattle.book_tables.proofs.within.WithinKeeper.find.Goals as goal

pub returns : goal.returns
returns g c =
    let fresh : c.args.self.now.spoiled ≡ false = search rules in
    let is : c.is_err-self.result ≡ is_err c.find-told.result = search rules in
    rw (fresh, is) (read_within c.args.self.now.transaction.ghost_name c.args.self.now.transaction.now.conn.ghost_name c.find-told.new.transaction.conn.ghost_name c.find-told.ensures.same_reference (state g.S.Store c.args.self.now.transaction.now.conn.now) (state g.S.Store c.find-told.new.transaction.conn.now) c.args.self.now.failures c.find-told.new.failures c.args.self.now.written _ c.find-told.result c.find-told.ensures.reads)
