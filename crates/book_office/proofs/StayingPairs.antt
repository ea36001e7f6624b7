-- Edits that leave the direct members of all groups.
use Rattle.book_office.proofs.Common.{◌≡◌, ◌∙◌, ℕ, false, List, refl, ap, Properties}
use Rattle.std.specs.Prelude.{Result, Ok, Err, OnOk, OnErr}
use Rattle.std.proofs.lemmas.Bool.{true≢false}
use Rattle.book_lists.specs.declared.entries.Entry.{Entry}
use Rattle.book_office_values.specs.declared.offices.Office.{Office}
use Rattle.book_office_values.specs.declared.paths.Path.{Path}
use Rattle.book_office_values.specs.declared.paths.Path.TheVariants as path
use Rattle.book_office.specs.Edits.{apply, changes_members, set_label, set_list, with_properties}
use Rattle.book_office.specs.declared.edits.Edit.{Edit}
use Rattle.book_office.specs.declared.edits.Edit.TheVariants as edit

pub label_pairs : (p : Path) (label : List ℕ) (o : Office) → (set_label p label o).pairs ≡ o.pairs
label_pairs path.Root label o = refl
label_pairs path.People label o = refl
label_pairs path.Groups label o = refl
label_pairs path.Books label o = refl
label_pairs (path.Person n) label o = refl
label_pairs (path.Group n) label o = refl
label_pairs (path.Book b) label o = refl
label_pairs (path.Card b c) label o = refl

pub list_pairs : (p : Path) (list : List Entry) (o : Office) → (set_list p list o).pairs ≡ o.pairs
list_pairs path.Root list o = refl
list_pairs path.People list o = refl
list_pairs path.Groups list o = refl
list_pairs path.Books list o = refl
list_pairs (path.Person n) list o = refl
list_pairs (path.Group n) list o = refl
list_pairs (path.Book b) list o = refl
list_pairs (path.Card b c) list o = refl

-- properties that change at a path that is no card's
pub properties_pairs : (change : Properties → Properties) (p : Path) (o : Office) → (with_properties change o p).pairs ≡ o.pairs
properties_pairs change path.Root o = refl
properties_pairs change path.People o = refl
properties_pairs change path.Groups o = refl
properties_pairs change path.Books o = refl
properties_pairs change (path.Person n) o = refl
properties_pairs change (path.Group n) o = refl
properties_pairs change (path.Book b) o = refl
properties_pairs change (path.Card b c) o = refl

-- whether an edit was made or not
pub pairs_either : {X E : Type 0} (r : Result X E) (old new after : Office) → OnOk r (new ≡ after) → OnErr r (new ≡ old) → after.pairs ≡ old.pairs → new.pairs ≡ old.pairs
pairs_either (Ok x) old new after made kept same = ap (λ (o : Office). o.pairs) made ∙ same
pairs_either (Err e) old new after made kept same = ap (λ (o : Office). o.pairs) kept

-- after an edit that may not change direct members they are as before
pub pairs_stay : (e : Edit) (o : Office) → changes_members e ≡ false → (apply o e).pairs ≡ o.pairs
pairs_stay (edit.PutCard b c owner text) o is = refl
pairs_stay (edit.RemoveCard b c) o is = refl
pairs_stay (edit.CopyCard from_book from_card to_book to_card owner) o is = refl
pairs_stay (edit.MoveCard from_book from_card to_book to_card) o is = refl
pairs_stay (edit.AddBook b owner) o is = refl
pairs_stay (edit.RemoveBook b) o is = refl
pairs_stay (edit.SetLabel p label) o is = label_pairs p label o
pairs_stay (edit.SetList p list) o is = list_pairs p list o
pairs_stay (edit.SetMembers group members) o is = absurd (true≢false is)
pairs_stay (edit.Adopt t) o is = absurd (true≢false is)
