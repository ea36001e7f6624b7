use Rattle.std.proofs.Common.{rules, ◌≢◌, ◌≤◌, length, slice_index}
use Rattle.book_desk_words.proofs.Modes.{mode_none}
use Rattle.book_desk_words.proofs.listening.mode_of.Goals as goal

pub returns-in-Err-clause-none : goal.returns-in-Err-clause-none
returns-in-Err-clause-none c =
    let some : 3 ≤ length c.args.text.now = search rules in
    let few : length c.args.text.now ≤ 4 = search rules in
    let first : slice_index c.args.text.now 0 ≢ 43 = search rules in
    mode_none c.args.text.now some few first _ c.in-Err.field-0 c.in-Err.ensures.value
