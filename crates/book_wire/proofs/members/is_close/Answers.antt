use Rattle.book_wire.proofs.Common.{refl, ap, ◌∙◌}
use Rattle.std.proofs.Common.{codes}
use Rattle.std.proofs.lemmas.Str.Ascii.{trim_ascii_is}
use Rattle.book_wire.specs.Members.{same_name}
use Rattle.book_wire.proofs.members.is_close.Goals as goal

pub returns : goal.returns
returns c = c.has_name.ensures ∙ ap (λ t. same_name t (codes "close")) (trim_ascii_is c.args.text.now c.trim_ascii.result.now _ refl c.trim_ascii.ensures.value)
