use Rattle.std.proofs.Common.{◌≡◌, ◌∙◌, List, Ok, Option, option_map}
use Rattle.book_office.specs.Keeping.{Reads, Standing}
use Rattle.book_office_audit.proofs.ReadsInTurn.{reads_then, reads_weaker}
use Rattle.book_office_values.specs.declared.offices.Office.{Office}
use Rattle.book_log_lines.specs.declared.lines.Touched.{Touched}
use Rattle.book_log_replies.specs.Effects.{both, card_if, touches_destination, touches_path}
use Rattle.book_log_service.proofs.ReadTurns.{failed_first, failed_then, refused_then}
use Rattle.book_log_service.specs.Foreseeing.{next_cards, next_of}
use Rattle.book_log_service.proofs.foreseeing.next_cards.Goals as goal

pub returns-in_err-first : goal.returns-in_err-first
returns-in_err-first g c =
    let r = c.args.request.now in
    failed_first (g.K.Keeper.standing c.args.keeper.now) (g.K.Keeper.standing c.next_at.new.keeper) c.in_err-first.field-0.0 c.from_residual.result
    (λ (o : Office) (next : Option Touched). next ≡ option_map (next_of o 1) (card_if c.touches_path-of_path.result r.path))
    (λ (o : Office) (touched : List Touched). touched ≡ next_cards o (card_if (touches_path r.method) r.path) (card_if (touches_destination r.method) r.destination))
    c.from_residual.ensures.1 c.in_err-first.ensures

pub returns-in_err-second : goal.returns-in_err-second
returns-in_err-second g c =
    let r = c.args.request.now in
    failed_then (g.K.Keeper.standing c.args.keeper.now) (g.K.Keeper.standing c.next_at.new.keeper) (g.K.Keeper.standing c.next_at-2.new.keeper)
    c.in_ok-first.first c.in_err-second.field-0.0 c.from_residual-in_err-second.result
    (λ (o : Office) (next : Option Touched). next ≡ option_map (next_of o 1) (card_if c.touches_path-of_path.result r.path))
    (λ (o : Office) (next : Option Touched). next ≡ option_map (next_of o c.second_ahead-ahead.result) (card_if c.touches_destination-of_destination.result r.destination))
    (λ (o : Office) (touched : List Touched). touched ≡ next_cards o (card_if (touches_path r.method) r.path) (card_if (touches_destination r.method) r.destination))
    c.from_residual-in_err-second.ensures.1 c.in_ok-first.ensures c.in_err-second.ensures

pub returns-in_err-touched : goal.returns-in_err-touched
returns-in_err-touched g c =
    let r = c.args.request.now in
    let S0 : Standing = g.K.Keeper.standing c.args.keeper.now in
    let S1 : Standing = g.K.Keeper.standing c.next_at.new.keeper in
    let S2 : Standing = g.K.Keeper.standing c.next_at-2.new.keeper in
    let T : Office → Option Touched → Type 0 = λ o next. next ≡ option_map (next_of o 1) (card_if c.touches_path-of_path.result r.path) in
    let U : Office → Option Touched → Type 0 = λ o next. next ≡ option_map (next_of o c.second_ahead-ahead.result) (card_if c.touches_destination-of_destination.result r.destination) in
    let two : Reads S0 S2 (Ok c.in_ok-second.second) U =
    reads_then S0 S1 S2 c.in_ok-first.first (Ok c.in_ok-second.second) T U U c.in_ok-first.ensures c.in_ok-second.ensures (λ o stands t y u. u) in
    refused_then S0 S2 c.in_ok-second.second c.from_residual-in_err-touched.result U
    (λ (o : Office) (touched : List Touched). touched ≡ next_cards o (card_if (touches_path r.method) r.path) (card_if (touches_destination r.method) r.destination))
    c.from_residual-in_err-touched.ensures.1 two

pub returns : goal.returns
returns g c =
    let r = c.args.request.now in
    let S0 : Standing = g.K.Keeper.standing c.args.keeper.now in
    let S1 : Standing = g.K.Keeper.standing c.next_at.new.keeper in
    let S2 : Standing = g.K.Keeper.standing c.next_at-2.new.keeper in
    let T : Office → Option Touched → Type 0 = λ o next. next ≡ option_map (next_of o 1) (card_if c.touches_path-of_path.result r.path) in
    let U : Office → Option Touched → Type 0 = λ o next. next ≡ option_map (next_of o c.second_ahead-ahead.result) (card_if c.touches_destination-of_destination.result r.destination) in
    let V : Office → Option Touched → Type 0 = λ o next. T o c.in_ok-first.first × U o next in
    let W : Office → List Touched → Type 0 =
    λ o touched. touched ≡ next_cards o (card_if (touches_path r.method) r.path) (card_if (touches_destination r.method) r.destination) in
    let two : Reads S0 S2 (Ok c.in_ok-second.second) V =
    reads_then S0 S1 S2 c.in_ok-first.first (Ok c.in_ok-second.second) T U V c.in_ok-first.ensures c.in_ok-second.ensures (λ o stands t y u. (t, u)) in
    reads_weaker S0 S2 c.in_ok-second.second c.in_ok-touched.touched V W two
    (λ o stands v. c.in_ok-touched.ensures ∙ (λ i. both (v.0 i) (v.1 i))
    ∙ (λ i. both (option_map (next_of o 1) (card_if (c.touches_path-of_path.ensures i) r.path))
    (option_map (next_of o (c.second_ahead-ahead.ensures i)) (card_if (c.touches_destination-of_destination.ensures i) r.destination))))
