use Rattle.std.proofs.Common.{rules}
use Rattle.json.proofs.Printed.Decimals.{IsNumber-decimal}
use Rattle.book_json_texts.proofs.texts.CompactText.number.Goals as goal

pub put-requires : goal.put-requires
put-requires c = rw c.format.ensures.text (IsNumber-decimal c.args.count (search rules))
