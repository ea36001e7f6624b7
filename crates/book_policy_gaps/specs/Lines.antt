-- The sentence of each fact, one line (own profile).
use Rattle.std.specs.Prelude.{ℕ, List, ◌++◌, codes, Option, Some, None}
use Rattle.book_office_values.specs.Paths.{path_text}
use Rattle.book_office_values.specs.declared.paths.Path.{Path}
use Rattle.book_policy_gaps.specs.declared.gaps.Gap.{Gap}
use Rattle.book_policy_gaps.specs.declared.gaps.Gap.TheVariants.{EmptyGroup, NoRight, ClosedList, UnreadByOwner, OpenedAbove, KeptByOwners, KeptByProtected, ReadByListing}

abbrev pub unread_line : Path → List ℕ → List ℕ
unread_line book owner = path_text book ++ (codes ": its owner " ++ (owner ++ codes " may not read it\n"))

abbrev pub reader_text : Option (List ℕ) → List ℕ
reader_text None = codes "a caller who is not known"
reader_text (Some person) = person

abbrev pub opened_line : Path → Option (List ℕ) → Path → List ℕ
opened_line book reader from =
    path_text book ++ (codes ": " ++ (reader_text reader ++ (codes " reads it by an entry at "
    ++ (path_text from ++ codes ", and no entry of its lists closes it\n"))))

abbrev pub listing_line : List ℕ → Path → List ℕ
listing_line name book = codes "person " ++ (name ++ (codes ": lists /books, and so reads " ++ (path_text book ++ codes "\n")))

abbrev pub protected_line : Path → Path → List ℕ
protected_line book at =
    path_text book ++ (codes ": what a protected entry at " ++ (path_text at ++ codes " grants to owners stays with who leaves a group\n"))

abbrev pub gap_line : Gap → List ℕ
gap_line (EmptyGroup name) = codes "group " ++ (name ++ codes ": nobody is in it\n")
gap_line (NoRight name) = codes "person " ++ (name ++ codes ": has no right at any book\n")
gap_line (ClosedList p) = path_text p ++ codes ": nobody may change its list\n"
gap_line (UnreadByOwner book owner) = unread_line book owner
gap_line (OpenedAbove book reader from) = opened_line book reader from
gap_line (KeptByOwners book) = path_text book ++ codes ": what it grants to owners stays with who leaves a group\n"
gap_line (KeptByProtected book at) = protected_line book at
gap_line (ReadByListing name book) = listing_line name book
