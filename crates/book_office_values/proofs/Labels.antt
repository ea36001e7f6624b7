-- The empty label.
use Rattle.std.proofs.Common.{[], arith}
use Rattle.std.proofs.lemmas.Str.{IsUtf8-nil}
use Rattle.book_office_values.specs.Texts.{IsLabel}

pub empty_label : IsLabel []
empty_label = record { utf8 = IsUtf8-nil; short = omega arith }
