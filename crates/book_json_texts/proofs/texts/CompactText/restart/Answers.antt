use Rattle.std.proofs.Common.{[], rules, refl}
use Rattle.json.specs.Lex.{lex, punctuate}
use Rattle.json.specs.Print.{ArePrintable, print_from}
use Rattle.book_json_texts.proofs.texts.CompactText.restart.Goals as goal

pub invariant_of-self : goal.invariant_of-self
unfolding print_from ArePrintable
invariant_of-self c = record { within = search rules; printed = []; printable = tt; text = refl; place = refl }

pub returns : goal.returns
unfolding lex punctuate
returns c = refl
