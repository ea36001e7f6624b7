use Rattle.book_questions_audit.proofs.Common.{◌≡◌, ◌++◌, ◌∷◌, [], List, take, map, Ok, sym, ap, ◌∙◌, Reads, Office, Standing}
use Rattle.std.proofs.Common.{◌+◌, true, arith, Vec, Global}
use Rattle.std.specs.Prelude.{if◌then◌else◌}
use Rattle.std.specs.Result.{is_ok}
use Rattle.std.proofs.lemmas.List.{take_more, take_all, map-append}
use Rattle.book_office_audit.proofs.ReadsInTurn.{reads_nothing, reads_then, reads_weaker, reads_refused, reads_failed}
use Rattle.book_questions_audit.specs.Parts.{part_of}
use Rattle.book_questions_audit.specs.declared.parts.Part.{Part}
use Rattle.book_questions_audit.proofs.parts.read_parts.Goals as goal

pub loop-path-init : goal.loop-path-init
loop-path-init g c = reads_nothing (g.K.Keeper.standing c.args.keeper.now) c.new-parts.result.items (λ (o : Office) (parts : List Part). parts ≡ map (part_of o) []) (λ h o s. c.new-parts.ensures.items)

pub loop-path-preserved : goal.loop-path-preserved
loop-path-preserved g c =
    let S0 : Standing = g.K.Keeper.standing c.args.keeper.now in
    let S1 : Standing = g.K.Keeper.standing c.loop-path.keeper in
    let S2 : Standing = g.K.Keeper.standing c.read_part.new.keeper in
    let i = c.loop-path.path-index in
    let xs = c.args.paths.now in
    let path = c.path-item.result in
    let old = c.loop-path.parts.items in
    let more : take (i + 1) xs ≡ take i xs ++ path ∷ [] = take_more xs i path (omega arith) ∙ ap (λ x. take i xs ++ x ∷ []) (sym c.path-item.is) in
    let T : Office → List Part → Type 0 = λ o parts. parts ≡ map (part_of o) (take i xs) in
    let U : Office → Part → Type 0 = λ o part. part ≡ part_of o path in
    let V : Office → Part → Type 0 = λ o part. old ++ part ∷ [] ≡ map (part_of o) (take (i + 1) xs) in
    let W : Office → List Part → Type 0 = λ o parts. parts ≡ map (part_of o) (take (i + 1) xs) in
    let both : Reads S0 S2 (Ok c.in-Ok.part) V = reads_then S0 S1 S2 old (Ok c.in-Ok.part) T U V c.loop-path.invariant c.in-Ok.ensures
    (λ o stands t y u. (λ k. t k ++ u k ∷ []) ∙ sym (ap (map (part_of o)) more ∙ map-append (part_of o) (take i xs) (path ∷ []))) in
    let ok : is_ok c.push.result ≡ true = c.if-is_err.ensures.negation in
    let pushed : c.push.new.self.items ≡ old ++ c.in-Ok.part ∷ [] = c.push.ensures.items ∙ ap (λ b. if b then old ++ c.in-Ok.part ∷ [] else old) ok in
    reads_weaker S0 S2 c.in-Ok.part c.push.new.self.items V W both (λ o stands v. pushed ∙ v)

pub returns-in-Err : goal.returns-in-Err
returns-in-Err g c =
    reads_failed (g.K.Keeper.standing c.args.keeper.now) (g.K.Keeper.standing c.loop-path.keeper) (g.K.Keeper.standing c.read_part.new.keeper)
    c.loop-path.parts.items c.in-Err.fault _ _ _ c.loop-path.invariant c.in-Err.ensures

pub returns-then-is_err : goal.returns-then-is_err
returns-then-is_err g c =
    let S0 : Standing = g.K.Keeper.standing c.args.keeper.now in
    let S1 : Standing = g.K.Keeper.standing c.loop-path.keeper in
    let S2 : Standing = g.K.Keeper.standing c.read_part.new.keeper in
    let V : Office → Part → Type 0 = λ o part. Unit {0} in
    let both : Reads S0 S2 (Ok c.in-Ok.part) V = reads_then S0 S1 S2 c.loop-path.parts.items (Ok c.in-Ok.part) _ _ V c.loop-path.invariant c.in-Ok.ensures (λ o stands t y u. tt) in
    reads_refused S0 S2 c.in-Ok.part V _ both

pub returns : goal.returns
returns g c =
    let n = c.loop-path.path-index in
    let xs = c.args.paths.now in
    let whole : take n xs ≡ xs = take_all n xs c.loop-path-test.false in
    reads_weaker (g.K.Keeper.standing c.args.keeper.now) (g.K.Keeper.standing c.loop-path.keeper) c.loop-path.parts.items c.loop-path.parts
    (λ (o : Office) (parts : List Part). parts ≡ map (part_of o) (take n xs)) (λ (o : Office) (parts : Vec Part Global). parts.items ≡ map (part_of o) xs)
    c.loop-path.invariant (λ o stands t. t ∙ ap (map (part_of o)) whole)
