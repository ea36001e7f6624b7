-- The names that many proofs of this crate cite, passed on from one place. Declares nothing.
pub use Rattle.std.proofs.Common.{◌≡◌, length, sym, arith, ◌∙◌, ap, [], ◌++◌, ◌∷◌, List, ℕ, false, refl, true, ◌+◌, Bool, Some, cond, subst, ◌<◌, None, Option, append_assoc, drop, get_or, suc, ◌≢◌, take, length-append, lit<, ◌||◌, ◌≤◌, codes, unwrap_or, zero, ◌-◌}
pub use Rattle.std.proofs.lemmas.Str.{IsCharBoundary-after_ascii}
pub use Rattle.std.proofs.lemmas.Str.Pattern.{split_parts}
pub use Rattle.std.specs.List.{slice_get, AllByRecursion}
pub use Rattle.std.specs.Option.{option_map, option_and_then}
pub use Rattle.std.specs.Str.{str_eq_ignore_ascii_case}
pub use Rattle.std.specs.Str.Lines.{lines}
pub use Rattle.std.specs.String.{string_bytes}
pub use denote.Shadow.{shadow}
pub use denote.Text.{Utf8}
pub use lib.Dec.{eqb}
pub use Rattle.book_cards.specs.CardText.{lines_fault, after_end_fault, fields_in, is_end}
pub use Rattle.book_cards.specs.ContentLine.{Fields, is_name_byte}
pub use Rattle.book_cards.specs.Escaping.{unescaped}
pub use Rattle.book_cards.specs.Folding.{unfolded, is_blank}
pub use Rattle.book_cards.specs.Reading.{fields_of, colon_from, name_length}
pub use Rattle.book_cards.specs.declared.line.Position.TheVariants.{Start}
