use Rattle.book_questions_json.proofs.Common.{◌≡◌, ◌++◌, ◌∷◌, ◌+◌, [], ℕ, List, take, drop, sym, ap, arith, ◌∙◌, flat_map, gathered, Block, NamesTo}
use Rattle.std.proofs.Common.{◌<◌, length}
use Rattle.std.proofs.lemmas.Grind.{flat_map-append}
use Rattle.std.proofs.lemmas.List.{drop_all, drop_more, take_more}
use Rattle.book_office.specs.declared.nodes.Listed.{Listed}
use Rattle.book_questions_rights.specs.EqualCards.{Class, class_at, classes_after}
use Rattle.book_questions_json.specs.HeldBlocks.{class_objects}
use Rattle.book_office_audit.proofs.Gathering.{gathered_both}
use Rattle.book_questions_json.proofs.holding.add_cards.Goals as goal

-- one card more
one_more : (f : Class → List Block) (m : NamesTo (List ℕ)) (all before : List Listed) (card : Listed) (after : List Listed)
    → gathered (gathered m (flat_map f (class_at all before card))) (flat_map f (classes_after all (before ++ card ∷ []) after))
    ≡ gathered m (flat_map f (classes_after all before (card ∷ after)))
one_more f m all before card after =
    gathered_both m (flat_map f (class_at all before card)) (flat_map f (classes_after all (before ++ card ∷ []) after))
    ∙ ap (gathered m) (sym (flat_map-append f (class_at all before card) (classes_after all (before ++ card ∷ []) after)))

pub loop-i-preserved : goal.loop-i-preserved
loop-i-preserved c =
    let i = c.loop-i.i in
    let xs = c.as_slice-cards.result.now in
    let card = c.index-cards-i.result in
    let f = class_objects c.args.shared c.args.askers.now c.args.place.now in
    let m = c.loop-i.blocks in
    let within : i < length xs = omega arith in
    let more : take (i + 1) xs ≡ take i xs ++ card ∷ [] = take_more xs i card within ∙ ap (λ x. take i xs ++ x ∷ []) (sym c.index-cards-i.is) in
    let rest : drop i xs ≡ card ∷ drop (i + 1) xs = drop_more xs i card within ∙ ap (λ x. x ∷ drop (i + 1) xs) (sym c.index-cards-i.is) in
    let first : c.add_first.new.blocks ≡ gathered m (flat_map f (class_at xs (take i xs) card)) =
    c.in_ok-add_first.ensures ∙ ap (λ (a : List Listed). gathered m (flat_map f (class_at a (take i xs) card))) (sym c.as_slice-cards.ensures) in
    ap (λ b. gathered b (flat_map f (classes_after xs (take (i + 1) xs) (drop (i + 1) xs)))) first
    ∙ ap (λ (t : List Listed). gathered (gathered m (flat_map f (class_at xs (take i xs) card))) (flat_map f (classes_after xs t (drop (i + 1) xs)))) more
    ∙ one_more f m xs (take i xs) card (drop (i + 1) xs)
    ∙ ap (λ (d : List Listed). gathered m (flat_map f (classes_after xs (take i xs) d))) (sym rest)
    ∙ c.loop-i.invariant

pub returns : goal.returns
returns c =
    let i = c.loop-i.i in
    let xs = c.as_slice-cards.result.now in
    let f = class_objects c.args.shared c.args.askers.now c.args.place.now in
    ap (λ (d : List Listed). gathered c.loop-i.blocks (flat_map f (classes_after xs (take i xs) d))) (sym (drop_all i xs (omega arith)))
    ∙ c.loop-i.invariant
