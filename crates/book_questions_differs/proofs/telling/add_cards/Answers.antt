use Rattle.book_questions_differs.proofs.Common.{◌≡◌, ◌++◌, ◌∷◌, ◌+◌, [], ℕ, List, take, drop, sym, ap, arith, ◌∙◌, gathered, map, Block, NamesTo}
use Rattle.std.proofs.Common.{◌<◌, length}
use Rattle.std.proofs.lemmas.List.{drop_all, drop_more, map-append, take_more}
use Rattle.book_questions_differs.specs.Lines.{class_block}
use Rattle.book_questions_differs.specs.Pairs.{PairClass, class_at, classes_after}
use Rattle.book_questions_differs.specs.declared.pairs.CardPair.{CardPair}
use Rattle.book_office_audit.proofs.Gathering.{gathered_both}
use Rattle.book_questions_differs.proofs.telling.add_cards.Goals as goal

-- one card more
one_more : (f : PairClass → Block) (m : NamesTo (List ℕ)) (all before : List CardPair) (pair : CardPair) (after : List CardPair)
    → gathered (gathered m (map f (class_at all before pair))) (map f (classes_after all (before ++ pair ∷ []) after))
    ≡ gathered m (map f (classes_after all before (pair ∷ after)))
one_more f m all before pair after =
    gathered_both m (map f (class_at all before pair)) (map f (classes_after all (before ++ pair ∷ []) after))
    ∙ ap (gathered m) (sym (map-append f (class_at all before pair) (classes_after all (before ++ pair ∷ []) after)))

pub loop-i-preserved : goal.loop-i-preserved
loop-i-preserved c =
    let i = c.loop-i.i in
    let xs = c.args.pairs.now in
    let pair = c.index-pairs-i.result in
    let f = class_block c.args.parties.now c.args.spot.now in
    let m = c.loop-i.blocks in
    let within : i < length xs = omega arith in
    let more : take (i + 1) xs ≡ take i xs ++ pair ∷ [] = take_more xs i pair within ∙ ap (λ x. take i xs ++ x ∷ []) (sym c.index-pairs-i.is) in
    let rest : drop i xs ≡ pair ∷ drop (i + 1) xs = drop_more xs i pair within ∙ ap (λ x. x ∷ drop (i + 1) xs) (sym c.index-pairs-i.is) in
    let first : c.add_first.new.blocks ≡ gathered m (map f (class_at xs (take i xs) pair)) = c.in_ok-add_first.ensures in
    ap (λ b. gathered b (map f (classes_after xs (take (i + 1) xs) (drop (i + 1) xs)))) first
    ∙ ap (λ (t : List CardPair). gathered (gathered m (map f (class_at xs (take i xs) pair))) (map f (classes_after xs t (drop (i + 1) xs)))) more
    ∙ one_more f m xs (take i xs) pair (drop (i + 1) xs)
    ∙ ap (λ (d : List CardPair). gathered m (map f (classes_after xs (take i xs) d))) (sym rest)
    ∙ c.loop-i.invariant

pub returns : goal.returns
returns c =
    let i = c.loop-i.i in
    let xs = c.args.pairs.now in
    let f = class_block c.args.parties.now c.args.spot.now in
    ap (λ (d : List CardPair). gathered c.loop-i.blocks (map f (classes_after xs (take i xs) d))) (sym (drop_all i xs (omega arith)))
    ∙ c.loop-i.invariant
