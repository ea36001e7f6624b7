use Rattle.std.proofs.Common.{subst}
use Rattle.std.proofs.lemmas.Str.{IsUtf8-string_bytes}
use Rattle.std.specs.Str.{IsUtf8}
use Rattle.book_office_values.proofs.collections.texts.Text.known.Goals as goal

pub returns : goal.returns
returns c = subst IsUtf8 c.self.view_is (IsUtf8-string_bytes c.self.inside.text)
