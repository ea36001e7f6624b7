use Rattle.std.proofs.Common.{◌≡◌, ◌∙◌, ℕ, Option, ap, option_map, unwrap_or}
use Rattle.book_office.specs.Resources.{node_at}
use Rattle.book_office.specs.declared.nodes.Node.{Node}
use Rattle.book_office_audit.proofs.ReadsInTurn.{reads_weaker}
use Rattle.book_office_values.specs.declared.offices.Office.{Office}
use Rattle.book_office_values.specs.declared.paths.Path.TheVariants as path
use Rattle.book_log_service.proofs.ReadTurns.{failed_first, refused_first}
use Rattle.book_log_service.specs.Foreseeing.{book_number}
use Rattle.book_log_service.proofs.foreseeing.book_number.Goals as goal

pub returns-in_err-name : goal.returns-in_err-name
returns-in_err-name g c = refused_first (g.K.Keeper.standing c.args.keeper.now) c.from_residual.result _ c.from_residual.ensures.1

pub returns-in_err-node : goal.returns-in_err-node
returns-in_err-node g c =
    failed_first (g.K.Keeper.standing c.args.keeper.now) (g.K.Keeper.standing c.find.new.self) c.in_err-node.field-0.0 c.from_residual-in_err-node.result
    (λ (o : Office) (node : Option Node). node ≡ node_at o (path.Book c.in_ok-name.name)) (λ (o : Office) (number : ℕ). number ≡ book_number o c.args.book.now)
    c.from_residual-in_err-node.ensures.1 c.in_err-node.ensures

pub returns : goal.returns
returns g c =
    let T : Office → Option Node → Type 0 = λ o node. node ≡ node_at o (path.Book c.in_ok-name.name) in
    let W : Office → ℕ → Type 0 = λ o number. number ≡ book_number o c.args.book.now in
    reads_weaker (g.K.Keeper.standing c.args.keeper.now) (g.K.Keeper.standing c.find.new.self) c.in_ok-node.node c.number_in.result T W c.in_ok-node.ensures
    (λ o stands t. c.number_in.ensures
    ∙ ap (λ (r : Option Node). unwrap_or (option_map (λ (node : Node). node.number) r) 0) (t ∙ ap (λ b. node_at o (path.Book b)) c.in_ok-name.ensures.cases))
