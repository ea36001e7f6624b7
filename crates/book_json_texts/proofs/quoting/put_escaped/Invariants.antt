use Rattle.std.proofs.Common.{◌≡◌, ◌-◌, ◌≤◌, ◌++◌, length, take, drop, vec_len}
use Rattle.json.specs.Print.{escape}
use Rattle.book_json_texts.proofs.quoting.put_escaped.Given as goal

abbrev pub invariant-loop-at : goal.invariant-loop-at
invariant-loop-at l = record {
  read : l.at ≤ length l.text;
  begun : l.from ≤ l.end;
  within : l.end ≤ vec_len l.bytes;
  text : take l.end l.bytes.items ++ escape (drop l.at l.text) ≡ take l.from l.fn.bytes.items ++ escape l.text;
  front : take l.from l.bytes.items ≡ take l.from l.fn.bytes.items;
}

abbrev pub decreases-loop-at : goal.decreases-loop-at
decreases-loop-at l = length l.text - l.at
