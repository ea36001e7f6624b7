use Rattle.std.proofs.Common.{◌≡◌, ◌++◌, ◌∷◌, ◌∙◌, ◌+◌, [], List, map, take, Ok, sym, ap, true, arith, Vec, Global}
use Rattle.std.specs.Prelude.{if◌then◌else◌}
use Rattle.std.specs.Result.{is_ok}
use Rattle.std.proofs.lemmas.List.{take_more, take_all}
use Rattle.book_office.specs.Keeping.{Reads, Standing}
use Rattle.book_office_audit.proofs.ReadsInTurn.{reads_nothing, reads_then, reads_weaker, reads_refused, reads_failed}
use Rattle.book_office_values.specs.declared.offices.Office.{Office}
use Rattle.book_office_copies.specs.Copies.{named_book}
use Rattle.book_office_copies.specs.declared.books.NamedBook.{NamedBook}
use Rattle.book_office_copies.proofs.InTurn.{map_more}
use Rattle.book_office_copies.proofs.books.read_each.Goals as goal

pub loop-one-init : goal.loop-one-init
loop-one-init g c = reads_nothing (g.K.Keeper.standing c.args.keeper.now) c.new-books.result.items (λ (o : Office) (told : List NamedBook). told ≡ [])
    (λ h o s. c.new-books.ensures.items)

pub loop-one-preserved : goal.loop-one-preserved
loop-one-preserved g c =
    let S0 : Standing = g.K.Keeper.standing c.args.keeper.now in
    let S1 : Standing = g.K.Keeper.standing c.loop-one.keeper in
    let S2 : Standing = g.K.Keeper.standing c.read_book.new.keeper in
    let i = c.loop-one.one-index in
    let xs = c.args.listed.now in
    let one = c.one-item.result in
    let old = c.loop-one.books.items in
    let more : take (i + 1) xs ≡ take i xs ++ one ∷ [] = take_more xs i one (omega arith) ∙ ap (λ x. take i xs ++ x ∷ []) (sym c.one-item.is) in
    let T : Office → List NamedBook → Type 0 = λ o told. told ≡ map (named_book o) (take i xs) in
    let U : Office → NamedBook → Type 0 = λ o book. book ≡ named_book o one in
    let V : Office → NamedBook → Type 0 = λ o book. old ++ book ∷ [] ≡ map (named_book o) (take (i + 1) xs) in
    let W : Office → List NamedBook → Type 0 = λ o told. told ≡ map (named_book o) (take (i + 1) xs) in
    let both : Reads S0 S2 (Ok c.in-Ok.book) V = reads_then S0 S1 S2 old (Ok c.in-Ok.book) T U V c.loop-one.invariant c.in-Ok.ensures
    (λ o stands t y u. map_more (named_book o) (take i xs) (take (i + 1) xs) old one y more t u) in
    let ok : is_ok c.push.result ≡ true = c.if-is_err.ensures.negation in
    let pushed : c.push.new.self.items ≡ old ++ c.in-Ok.book ∷ [] = c.push.ensures.items ∙ ap (λ b. if b then old ++ c.in-Ok.book ∷ [] else old) ok in
    reads_weaker S0 S2 c.in-Ok.book c.push.new.self.items V W both (λ o stands v. pushed ∙ v)

pub returns-in-Err : goal.returns-in-Err
returns-in-Err g c =
    reads_failed (g.K.Keeper.standing c.args.keeper.now) (g.K.Keeper.standing c.loop-one.keeper) (g.K.Keeper.standing c.read_book.new.keeper)
    c.loop-one.books.items c.in-Err.fault _ _ _ c.loop-one.invariant c.in-Err.ensures

pub returns-then-is_err : goal.returns-then-is_err
returns-then-is_err g c =
    let S0 : Standing = g.K.Keeper.standing c.args.keeper.now in
    let S1 : Standing = g.K.Keeper.standing c.loop-one.keeper in
    let S2 : Standing = g.K.Keeper.standing c.read_book.new.keeper in
    let V : Office → NamedBook → Type 0 = λ o book. Unit {0} in
    let both : Reads S0 S2 (Ok c.in-Ok.book) V = reads_then S0 S1 S2 c.loop-one.books.items (Ok c.in-Ok.book) _ _ V c.loop-one.invariant c.in-Ok.ensures (λ o stands t y u. tt) in
    reads_refused S0 S2 c.in-Ok.book V _ both

pub returns : goal.returns
returns g c =
    let n = c.loop-one.one-index in
    let xs = c.args.listed.now in
    let whole : take n xs ≡ xs = take_all n xs c.loop-one-test.false in
    reads_weaker (g.K.Keeper.standing c.args.keeper.now) (g.K.Keeper.standing c.loop-one.keeper) c.loop-one.books.items c.loop-one.books
    (λ (o : Office) (told : List NamedBook). told ≡ map (named_book o) (take n xs)) (λ (o : Office) (told : Vec NamedBook Global). told.items ≡ map (named_book o) xs)
    c.loop-one.invariant (λ o stands t. t ∙ ap (map (named_book o)) whole)
