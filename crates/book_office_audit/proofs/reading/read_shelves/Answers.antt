use Rattle.book_office_audit.proofs.Common.{◌≡◌, ◌++◌, ◌∷◌, [], List, take, map, Ok, sym, ap, ◌∙◌, Reads, Office, shelf_of, Shelf}
use Rattle.std.proofs.Common.{◌+◌, true, arith, Vec, Global}
use Rattle.std.specs.Prelude.{if◌then◌else◌}
use Rattle.std.specs.Result.{is_ok}
use Rattle.std.proofs.lemmas.List.{take_more, take_all, map-append}
use Rattle.book_office.specs.Keeping.{Standing}
use Rattle.book_office_audit.proofs.ReadsInTurn.{reads_nothing, reads_then, reads_weaker, reads_refused, reads_failed}
use Rattle.book_office_audit.proofs.reading.read_shelves.Goals as goal

pub loop-book-init : goal.loop-book-init
loop-book-init g c = reads_nothing (g.K.Keeper.standing c.args.keeper.now) c.new-shelves.result.items (λ (o : Office) (shelves : List Shelf). shelves ≡ map (shelf_of o) []) (λ h o s. c.new-shelves.ensures.items)

pub loop-book-preserved : goal.loop-book-preserved
loop-book-preserved g c =
    let S0 : Standing = g.K.Keeper.standing c.args.keeper.now in
    let S1 : Standing = g.K.Keeper.standing c.loop-book.keeper in
    let S2 : Standing = g.K.Keeper.standing c.read_shelf.new.keeper in
    let i = c.loop-book.book-index in
    let xs = c.args.books.now in
    let book = c.book-item.result in
    let old = c.loop-book.shelves.items in
    let more : take (i + 1) xs ≡ take i xs ++ book ∷ [] = take_more xs i book (omega arith) ∙ ap (λ x. take i xs ++ x ∷ []) (sym c.book-item.is) in
    let T : Office → List Shelf → Type 0 = λ o shelves. shelves ≡ map (shelf_of o) (take i xs) in
    let U : Office → Shelf → Type 0 = λ o shelf. shelf ≡ shelf_of o book in
    let V : Office → Shelf → Type 0 = λ o shelf. old ++ shelf ∷ [] ≡ map (shelf_of o) (take (i + 1) xs) in
    let W : Office → List Shelf → Type 0 = λ o shelves. shelves ≡ map (shelf_of o) (take (i + 1) xs) in
    let both : Reads S0 S2 (Ok c.in-Ok.shelf) V = reads_then S0 S1 S2 old (Ok c.in-Ok.shelf) T U V c.loop-book.invariant c.in-Ok.ensures
    (λ o stands t y u. (λ k. t k ++ u k ∷ []) ∙ sym (ap (map (shelf_of o)) more ∙ map-append (shelf_of o) (take i xs) (book ∷ []))) in
    let ok : is_ok c.push.result ≡ true = c.if-is_err.ensures.negation in
    let pushed : c.push.new.self.items ≡ old ++ c.in-Ok.shelf ∷ [] = c.push.ensures.items ∙ ap (λ b. if b then old ++ c.in-Ok.shelf ∷ [] else old) ok in
    reads_weaker S0 S2 c.in-Ok.shelf c.push.new.self.items V W both (λ o stands v. pushed ∙ v)

pub returns-in-Err : goal.returns-in-Err
returns-in-Err g c =
    reads_failed (g.K.Keeper.standing c.args.keeper.now) (g.K.Keeper.standing c.loop-book.keeper) (g.K.Keeper.standing c.read_shelf.new.keeper)
    c.loop-book.shelves.items c.in-Err.fault _ _ _ c.loop-book.invariant c.in-Err.ensures

pub returns-then-is_err : goal.returns-then-is_err
returns-then-is_err g c =
    let S0 : Standing = g.K.Keeper.standing c.args.keeper.now in
    let S1 : Standing = g.K.Keeper.standing c.loop-book.keeper in
    let S2 : Standing = g.K.Keeper.standing c.read_shelf.new.keeper in
    let V : Office → Shelf → Type 0 = λ o shelf. Unit {0} in
    let both : Reads S0 S2 (Ok c.in-Ok.shelf) V = reads_then S0 S1 S2 c.loop-book.shelves.items (Ok c.in-Ok.shelf) _ _ V c.loop-book.invariant c.in-Ok.ensures (λ o stands t y u. tt) in
    reads_refused S0 S2 c.in-Ok.shelf V _ both

pub returns : goal.returns
returns g c =
    let n = c.loop-book.book-index in
    let xs = c.args.books.now in
    let whole : take n xs ≡ xs = take_all n xs c.loop-book-test.false in
    reads_weaker (g.K.Keeper.standing c.args.keeper.now) (g.K.Keeper.standing c.loop-book.keeper) c.loop-book.shelves.items c.loop-book.shelves
    (λ (o : Office) (shelves : List Shelf). shelves ≡ map (shelf_of o) (take n xs)) (λ (o : Office) (shelves : Vec Shelf Global). shelves.items ≡ map (shelf_of o) xs)
    c.loop-book.invariant (λ o stands t. t ∙ ap (map (shelf_of o)) whole)
