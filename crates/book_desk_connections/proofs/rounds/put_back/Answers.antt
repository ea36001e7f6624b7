use Rattle.std.proofs.Common.{rules, ◌≡◌, [], ◌∷◌, ◌∙◌, ℕ, List, length, refl, subst, sym, arith}
use Rattle.std.specs.List.{All}
use Rattle.std.specs.Vec.Iter.{into_iter_items}
use Rattle.std.proofs.lemmas.List.Elements.{All-head, All-tail}
use Rattle.book_desk_connections.specs.Rounds.{IsHeldIn, OthersAreSame}
use Rattle.book_desk_connections.specs.declared.rounds.Held.{Held}
use Rattle.book_desk_connections.proofs.Fed.{PutAt, put_first, put_more, put_all}
use Rattle.book_desk_connections.proofs.rounds.put_back.Goals as goal

none_left : (held : List Held) → length held ≡ 0 → held ≡ []
none_left [] e = refl
none_left (h ∷ held) e = absurd (omega (arith, e))

pub loop-copy-init : goal.loop-copy-init
loop-copy-init c = record { back = λ before count held others. (count, held, put_first before _ _ others); count = search rules }

pub loop-copy-preserved : goal.loop-copy-preserved
loop-copy-preserved c =
    let rest = into_iter_items c.next.new.self in
    let copy = c.in-Some.copy in
    let next : into_iter_items c.loop-copy.copy-iterator ≡ copy ∷ rest = search rules in
    record {
      back = λ before count held others.
          let was = c.loop-copy.invariant.back before count held others in
          let A : List Held → Type 0 = λ t. All (λ (h : Held). IsHeldIn before h) t in
          let P : List Held → Type 0 = λ t. (j : ℕ) → PutAt before c.loop-copy.places.items t j in
          let all = subst A next was.1 in (
            was.0 ∙ sym c.put_one_back.ensures.count,
            All-tail (λ (h : Held). IsHeldIn before h) copy rest all,
            put_more before c.loop-copy.places.items c.put_one_back.new.places.items copy rest (All-head (λ (h : Held). IsHeldIn before h) copy rest all) was.0
                c.put_one_back.ensures.others c.put_one_back.ensures.back (subst P next was.2),
          );
      count = search rules;
    }

pub returns : goal.returns
returns c before count held others =
    let all = into_iter_items c.loop-copy.copy-iterator in
    let none : all ≡ [] = none_left all (sym c.loop-copy.invariant.count ∙ c.in-None.ensures.steps.0) in
    let gives : into_iter_items c.into_iter-copy-iterator.result ≡ c.args.held.items = search rules in
    let A : List Held → Type 0 = λ t. All (λ (h : Held). IsHeldIn before h) t in
    let O : List Held → Type 0 = λ t. OthersAreSame t before c.args.places.now.items in
    put_all before c.loop-copy.places.items all none
    (c.loop-copy.invariant.back before count (subst A (sym gives) held) (subst O (sym gives) others)).2
