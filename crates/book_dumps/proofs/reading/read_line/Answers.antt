use Rattle.book_dumps.proofs.Common.{◌≡◌, List, ℕ, Option, Ok, ◌∙◌, option_map, Office, Reads}
use Rattle.book_office.specs.Keeping.{Standing}
use Rattle.book_office.specs.Levels.{level_at}
use Rattle.book_office.specs.Resources.{node_at}
use Rattle.book_office.specs.declared.nodes.Level.{Level}
use Rattle.book_office.specs.declared.nodes.Node.{Node}
use Rattle.book_office_audit.proofs.ReadsInTurn.{reads_then, reads_weaker}
use Rattle.book_dumps.specs.Told.{line_at, line_with, members_at, removed_in}
use Rattle.book_dumps.specs.declared.lines.Line.{Line}
use Rattle.book_dumps.specs.declared.lines.Removed.{Removed}
use Rattle.book_dumps.proofs.ToldLines.{line_told}
use Rattle.book_dumps.proofs.Turns.{read_failed_given, read_refused_given}
use Rattle.book_dumps.proofs.reading.read_line.Goals as goal

pub returns-in_err-members : goal.returns-in_err-members
returns-in_err-members g c =
    let S0 : Standing = g.K.Keeper.standing c.args.keeper.now in
    let S1 : Standing = g.K.Keeper.standing c.find.new.self in
    let S2 : Standing = g.K.Keeper.standing c.level.new.self in
    let S3 : Standing = g.K.Keeper.standing c.read_members.new.keeper in
    let p = c.args.path.now in
    let T : Office → Option Node → Type 0 = λ o node. node ≡ node_at o p in
    let U2 : Office → Level → Type 0 = λ o level. level ≡ level_at o p in
    let U3 : Office → List (List ℕ) → Type 0 = λ o members. members ≡ members_at o p in
    let W : Office → Option Line → Type 0 = λ o line. line ≡ line_at o p in
    let two : Reads S0 S2 (Ok c.in_ok-level.level) U2 = reads_then S0 S1 S2 c.in_ok-node.node (Ok c.in_ok-level.level) T U2 U2 c.in_ok-node.ensures c.in_ok-level.ensures (λ o stands t y u. u) in
    read_failed_given S0 S2 S3 c.in_ok-level.level c.in_err-members.field-0.0 c.from_residual-in_err-members.result U2 U3 W c.from_residual-in_err-members.ensures.1 two c.in_err-members.ensures

pub returns-in_err-removed : goal.returns-in_err-removed
returns-in_err-removed g c =
    let S0 : Standing = g.K.Keeper.standing c.args.keeper.now in
    let S1 : Standing = g.K.Keeper.standing c.find.new.self in
    let S2 : Standing = g.K.Keeper.standing c.level.new.self in
    let S3 : Standing = g.K.Keeper.standing c.read_members.new.keeper in
    let S4 : Standing = g.K.Keeper.standing c.read_removed.new.keeper in
    let p = c.args.path.now in
    let T : Office → Option Node → Type 0 = λ o node. node ≡ node_at o p in
    let U2 : Office → Level → Type 0 = λ o level. level ≡ level_at o p in
    let U3 : Office → List (List ℕ) → Type 0 = λ o members. members ≡ members_at o p in
    let U4 : Office → List Removed → Type 0 = λ o removed. removed ≡ removed_in o p in
    let W : Office → Option Line → Type 0 = λ o line. line ≡ line_at o p in
    let two : Reads S0 S2 (Ok c.in_ok-level.level) U2 = reads_then S0 S1 S2 c.in_ok-node.node (Ok c.in_ok-level.level) T U2 U2 c.in_ok-node.ensures c.in_ok-level.ensures (λ o stands t y u. u) in
    let three : Reads S0 S3 (Ok c.in_ok-members.members) U3 = reads_then S0 S2 S3 c.in_ok-level.level (Ok c.in_ok-members.members) U2 U3 U3 two c.in_ok-members.ensures (λ o stands t y u. u) in
    read_failed_given S0 S3 S4 c.in_ok-members.members c.in_err-removed.field-0.0 c.from_residual-in_err-removed.result U3 U4 W c.from_residual-in_err-removed.ensures.1 three c.in_err-removed.ensures

pub returns-in_err-path : goal.returns-in_err-path
returns-in_err-path g c =
    let S0 : Standing = g.K.Keeper.standing c.args.keeper.now in
    let S1 : Standing = g.K.Keeper.standing c.find.new.self in
    let S2 : Standing = g.K.Keeper.standing c.level.new.self in
    let S3 : Standing = g.K.Keeper.standing c.read_members.new.keeper in
    let S4 : Standing = g.K.Keeper.standing c.read_removed.new.keeper in
    let p = c.args.path.now in
    let T : Office → Option Node → Type 0 = λ o node. node ≡ node_at o p in
    let U2 : Office → Level → Type 0 = λ o level. level ≡ level_at o p in
    let U3 : Office → List (List ℕ) → Type 0 = λ o members. members ≡ members_at o p in
    let U4 : Office → List Removed → Type 0 = λ o removed. removed ≡ removed_in o p in
    let W : Office → Option Line → Type 0 = λ o line. line ≡ line_at o p in
    let two : Reads S0 S2 (Ok c.in_ok-level.level) U2 = reads_then S0 S1 S2 c.in_ok-node.node (Ok c.in_ok-level.level) T U2 U2 c.in_ok-node.ensures c.in_ok-level.ensures (λ o stands t y u. u) in
    let three : Reads S0 S3 (Ok c.in_ok-members.members) U3 = reads_then S0 S2 S3 c.in_ok-level.level (Ok c.in_ok-members.members) U2 U3 U3 two c.in_ok-members.ensures (λ o stands t y u. u) in
    let four : Reads S0 S4 (Ok c.in_ok-removed.removed) U4 = reads_then S0 S3 S4 c.in_ok-members.members (Ok c.in_ok-removed.removed) U3 U4 U4 three c.in_ok-removed.ensures (λ o stands t y u. u) in
    read_refused_given S0 S4 c.in_ok-removed.removed c.from_residual-in_err-path.result U4 W c.from_residual-in_err-path.ensures.1 four

pub returns : goal.returns
returns g c =
    let S0 : Standing = g.K.Keeper.standing c.args.keeper.now in
    let S1 : Standing = g.K.Keeper.standing c.find.new.self in
    let S2 : Standing = g.K.Keeper.standing c.level.new.self in
    let S3 : Standing = g.K.Keeper.standing c.read_members.new.keeper in
    let S4 : Standing = g.K.Keeper.standing c.read_removed.new.keeper in
    let p = c.args.path.now in
    let node = c.in_ok-node.node in
    let level = c.in_ok-level.level in
    let members = c.in_ok-members.members in
    let removed = c.in_ok-removed.removed in
    let T : Office → Option Node → Type 0 = λ o x. x ≡ node_at o p in
    let U2 : Office → Level → Type 0 = λ o x. x ≡ level_at o p in
    let U3 : Office → List (List ℕ) → Type 0 = λ o x. x ≡ members_at o p in
    let U4 : Office → List Removed → Type 0 = λ o x. x ≡ removed_in o p in
    let V2 : Office → Level → Type 0 = λ o x. T o node × U2 o x in
    let V3 : Office → List (List ℕ) → Type 0 = λ o x. V2 o level × U3 o x in
    let V4 : Office → List Removed → Type 0 = λ o x. V3 o members × U4 o x in
    let W : Office → Option Line → Type 0 = λ o line. line ≡ line_at o p in
    let two : Reads S0 S2 (Ok level) V2 = reads_then S0 S1 S2 node (Ok level) T U2 V2 c.in_ok-node.ensures c.in_ok-level.ensures (λ o stands t y u. (t, u)) in
    let three : Reads S0 S3 (Ok members) V3 = reads_then S0 S2 S3 level (Ok members) V2 U3 V3 two c.in_ok-members.ensures (λ o stands t y u. (t, u)) in
    let four : Reads S0 S4 (Ok removed) V4 = reads_then S0 S3 S4 members (Ok removed) V3 U4 V4 three c.in_ok-removed.ensures (λ o stands t y u. (t, u)) in
    let path : c.in_ok-path.path ≡ p = c.in_ok-path.ensures in
    reads_weaker S0 S4 removed c.line_if.result V4 W four (λ o stands v. c.line_if.ensures
    ∙ (λ i. option_map (line_with (path i) (v.0.0.1 i) (v.0.1 i) (v.1 i)) (v.0.0.0 i)) ∙ line_told o p)
