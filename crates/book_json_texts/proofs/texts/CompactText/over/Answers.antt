use Rattle.std.proofs.Common.{[], rules, refl}
use Rattle.json.specs.Lex.{lex, punctuate}
use Rattle.json.specs.Print.{ArePrintable, print_from}
use Rattle.book_json_texts.proofs.texts.CompactText.over.Goals as goal

pub invariant_of-result : goal.invariant_of-result
unfolding print_from ArePrintable
invariant_of-result c = record { within = search rules; printed = []; printable = tt; text = refl; place = refl }

pub returns : goal.returns
unfolding lex punctuate
returns c = refl
