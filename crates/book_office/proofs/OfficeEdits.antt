-- An edit of one book in place, against the Office with that book changed.
use Rattle.book_office.proofs.Common.{◌≡◌, ℕ, List, Some, sym, ap, ◌∙◌, get, insert, NamesTo, Book, Office, changed_if, with_book, insert_same}

pub edited : (o : Office) (b : List ℕ) (change : Book → Book) (old new : Book) (books : NamesTo Book)
    → Some old ≡ get o.books b → books ≡ insert o.books b new → new ≡ change old
    → record o { books = books } ≡ with_book change o b
edited o b change old new books there left changed =
    ap (λ bs. record o { books = bs }) (left ∙ ap (insert o.books b) changed ∙ ap (changed_if change o.books b) there)

pub kept : (o : Office) (b : List ℕ) (old new : Book) (books : NamesTo Book)
    → Some old ≡ get o.books b → books ≡ insert o.books b new → new ≡ old → record o { books = books } ≡ o
kept o b old new books there left same =
    ap (λ bs. record o { books = bs }) (left ∙ ap (insert o.books b) same ∙ insert_same o.books b old (sym there))
