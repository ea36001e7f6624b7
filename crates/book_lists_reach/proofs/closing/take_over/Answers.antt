use Rattle.std.proofs.Common.{◌≡◌, ◌<◌, ◌≤◌, ◌&&◌, ◌||◌, ◌∙◌, ℕ, List, [], length, get_or, rules, refl, sym}
use Rattle.book_lists_reach.specs.Bits.{bit}
use Rattle.book_lists_reach.proofs.RowPairs.{any_default}
use Rattle.book_lists_reach.proofs.Through.{taken_all, taken_bare, taken_more, taken_none}
use Rattle.book_lists_reach.proofs.closing.take_over.Goals as goal

pub loop-i-init : goal.loop-i-init
loop-i-init c = record {
  len = refl;
  taken = taken_none c.args.number c.args.rows.now.items;
}

pub loop-i-preserved : goal.loop-i-preserved
loop-i-preserved c =
    let old : List (List ℕ) = c.args.rows.now.items in
    let rows : List (List ℕ) = c.loop-i.rows.items in
    let i = c.loop-i.i in
    let k = c.args.number in
    let within : i < length rows = search rules in
    let there : k < length old = search rules in
    let row : c.index_mut.result.now ≡ get_or rows i [] = c.index_mut.ensures.value ∙ any_default rows i c.index_mut.result.now [] within in
    let taken : c.in_ok-taken.taken ≡ get_or old k [] = c.in_ok-taken.ensures.cases ∙ c.index.ensures ∙ any_default old k c.index.result.now [] there in
    record {
      len = search rules;
      taken = taken_more i k old rows c.take_row.new.row within
          (λ j. c.in_ok-take_row.ensures j ∙ (λ x. bit (row x) j || (bit (row x) k && bit (taken x) j))) c.loop-i.invariant.taken;
    }

pub returns-clause-ok : goal.returns-clause-ok
returns-clause-ok c =
    let all : length c.args.rows.now.items ≤ c.loop-i.i = search rules in
    taken_all c.loop-i.i c.args.number c.args.rows.now.items c.loop-i.rows.items all c.loop-i.invariant.taken

pub returns-then-is_bare-clause-ok : goal.returns-then-is_bare-clause-ok
returns-then-is_bare-clause-ok c =
    let old : List (List ℕ) = c.args.rows.now.items in
    let k = c.args.number in
    let there : k < length old = search rules in
    let taken : c.in_ok-taken.taken ≡ get_or old k [] = c.in_ok-taken.ensures.cases ∙ c.index.ensures ∙ any_default old k c.index.result.now [] there in
    let bare : c.in_ok-taken.taken ≡ [] = c.is_bare.ensures c.if-is_bare.true in
    taken_bare k old (sym taken ∙ bare)
