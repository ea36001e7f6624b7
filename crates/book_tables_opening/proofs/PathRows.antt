-- The path whose text stands in a row of `node`.
use Rattle.book_tables_opening.proofs.Common.{◌≡◌, ◌≢◌, inl, List, ℕ, Some, sym, ap, subst, ◌∙◌, Value, Text, Row, Path, IsPath, path_text, kind_of, one_text, text_in, shown_path}
use Rattle.std.specs.Str.{IsUtf8}
use Rattle.book_office_values.specs.Paths.{SpellsPath}
use Rattle.book_office_values.proofs.Spelling.{one_path}
use Rattle.book_tables_opening.specs.Opening.{HasNoPath, StandsAt, HasContent, IsTextlessRow}
use Rattle.book_tables_opening.proofs.AsciiPaths.{path_is_utf8}

text_of : (v : Value) (t u : List ℕ) → text_in v ≡ Some t → v ≡ Text u → t ≡ u
text_of v t u has is = let both = sym has ∙ ap text_in is in cc

-- bytes that are no text of characters are no path's
pub not_utf8 : (v : Value) (t : List ℕ) → text_in v ≡ Some t → ¬ (IsUtf8 t) → HasNoPath v
not_utf8 v t has none p named is = none (subst IsUtf8 (sym (text_of v t (path_text p) has is)) (path_is_utf8 p named))

-- a text that spells a path with one slash more is no path's
pub slashed : (v : Value) (t : List ℕ) (q : Path) → text_in v ≡ Some t → IsPath q → SpellsPath t q → t ≢ path_text q → HasNoPath v
slashed v t q has named_q spells apart p named is =
    let here = text_of v t (path_text p) has is in
    let same : p ≡ q = one_path t p q named named_q (inl here) spells in
    apart (here ∙ ap path_text same)

module _ (nodes : List Row) (row : Row) (p : Path) (named : IsPath p) (is : shown_path row ≡ Text (path_text p)) where
  pub node_row : StandsAt nodes p row → HasContent nodes (kind_of p) row → IsTextlessRow nodes row
  node_row at content = record {
    at = p;
    named = named;
    path = is;
    parent = at.parent;
    kind = at.kind;
    owner = content.owner;
    label = content.label;
    natural = content.natural;
    number = content.number;
  }

  its_path : (n : IsTextlessRow nodes row) → n.at ≡ p
  its_path n = one_text n.at p n.named named (let both = sym n.path ∙ is in cc)

  pub stands : IsTextlessRow nodes row → StandsAt nodes p row
  stands n = subst (λ q. StandsAt nodes q row) (its_path n) (record { parent = n.parent; kind = n.kind })

  pub says : IsTextlessRow nodes row → HasContent nodes (kind_of p) row
  says n = subst (λ q. HasContent nodes (kind_of q) row) (its_path n) (record { owner = n.owner; label = n.label; natural = n.natural; number = n.number })
