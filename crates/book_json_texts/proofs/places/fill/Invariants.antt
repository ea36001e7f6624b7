use Rattle.std.proofs.Common.{◌≡◌, ◌+◌, ◌-◌, ◌≤◌, take, vec_len}
use Rattle.book_json_texts.proofs.places.fill.Given as goal

abbrev pub invariant-loop-bytes : goal.invariant-loop-bytes
invariant-loop-bytes l = (take l.at l.bytes.items ≡ take l.at l.fn.bytes.items) × (l.at ≤ vec_len l.bytes)

abbrev pub decreases-loop-bytes : goal.decreases-loop-bytes
decreases-loop-bytes l = (l.at + l.more) - vec_len l.bytes
