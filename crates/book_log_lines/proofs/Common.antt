-- The names that many proofs of this crate cite, passed on from one place. Declares nothing.
pub use Rattle.std.proofs.Common.{◌≡◌, ◌≢◌, ap, sym, refl, subst, ◌∙◌, map, ◌++◌, ◌∷◌, List, [], ℕ, drop, Option, Some, None, option_map, codes, arith}
pub use Rattle.std.proofs.lemmas.Result.{IfOk-weaker, on_ok_weaker}
pub use Rattle.json.specs.Json.{Json}
pub use Rattle.json.specs.Token.{Token}
pub use Rattle.book_json_lines.proofs.Written.{array_told, five_told, four_told, members_append, object_told, text_written, value_written}
