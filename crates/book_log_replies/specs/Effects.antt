-- What a log tells of an edit (own profile): the cards that it touched, each with the number of that change, and the epoch after it.
use Rattle.std.specs.Prelude.{ℕ, Bool, true, false, List, [], ◌∷◌, map, Option, Some, None, is_some, option_map, option_and_then, unwrap_or}
use Rattle.std.specs.FinMap.{get}
use Rattle.book_rights.specs.declared.methods.Method.{Method}
use Rattle.book_rights.specs.declared.methods.Method.TheVariants as method
use Rattle.book_log_lines.specs.declared.lines.Touched.{Touched}
use Rattle.book_machine.specs.Named.{path_book, path_card}
use Rattle.book_machine.specs.declared.messages.Body.{Body}
use Rattle.book_machine.specs.declared.messages.Body.TheVariants as body
use Rattle.book_machine.specs.declared.messages.Patch.{Patch}
use Rattle.book_machine.specs.declared.messages.Patch.TheVariants as patch
use Rattle.book_machine.specs.declared.messages.Request.{Request}
use Rattle.book_office.specs.Resources.{number_of}
use Rattle.book_office_values.specs.declared.offices.Book.{Book}
use Rattle.book_office_values.specs.declared.offices.Office.{Office}
use Rattle.book_office_values.specs.declared.paths.Path.{Path}
use Rattle.book_office_values.specs.declared.paths.Path.TheVariants as path
use Rattle.book_log_replies.specs.declared.replies.Effect.{Effect}

-- whether an edit by the method touches the card that is asked for
abbrev pub touches_path : Method → Bool
touches_path method.Get = false
touches_path method.Head = false
touches_path method.Options = false
touches_path method.Put = true
touches_path method.Propfind = false
touches_path method.Proppatch = true
touches_path method.Acl = false
touches_path method.Copy = false
touches_path method.Move = true
touches_path method.Delete = true
touches_path method.Mkcol = false
touches_path method.Report = false

-- whether an edit by the method touches the card at its destination
abbrev pub touches_destination : Method → Bool
touches_destination method.Get = false
touches_destination method.Head = false
touches_destination method.Options = false
touches_destination method.Put = false
touches_destination method.Propfind = false
touches_destination method.Proppatch = false
touches_destination method.Acl = false
touches_destination method.Copy = true
touches_destination method.Move = true
touches_destination method.Delete = false
touches_destination method.Mkcol = false
touches_destination method.Report = false

-- the names of the card at a path and of its book, the book's first, where the path is that of a card and is touched
abbrev pub card_if : Bool → Option Path → Option (List ℕ × List ℕ)
card_if true p = option_and_then path_card p
card_if false p = None

-- the one and the other, of those that there are
abbrev pub both : {A : Type 0} → Option A → Option A → List A
both None None = []
both (Some x) None = x ∷ []
both None (Some y) = y ∷ []
both (Some x) (Some y) = x ∷ y ∷ []

-- the cards that an edit touches, by what was asked
abbrev pub cards_asked : Method → Option Path → Option Path → List (List ℕ × List ℕ)
cards_asked m p to = both (card_if (touches_path m) p) (card_if (touches_destination m) to)

-- whether members are set
abbrev pub sets_members_by : Patch → Bool
sets_members_by (patch.DisplayName label) = false
sets_members_by (patch.GroupMembers members) = true

abbrev pub sets_members : Body → Bool
sets_members body.Empty = false
sets_members (body.Text text) = false
sets_members (body.Find properties) = false
sets_members (body.Patch p) = sets_members_by p
sets_members (body.List list) = false
sets_members (body.Report report) = false
sets_members body.Unread = false

-- whether an edit raises the epoch, by what was asked: a new own list, new members, and the end of a book
abbrev pub raises_asked : Method → Option Path → Body → Bool
raises_asked method.Get p b = false
raises_asked method.Head p b = false
raises_asked method.Options p b = false
raises_asked method.Put p b = false
raises_asked method.Propfind p b = false
raises_asked method.Proppatch p b = sets_members b
raises_asked method.Acl p b = true
raises_asked method.Copy p b = false
raises_asked method.Move p b = false
raises_asked method.Delete p b = is_some (option_and_then path_book p)
raises_asked method.Mkcol p b = false
raises_asked method.Report p b = false

-- the number of the last change of a name of a book; 0 where it has none
abbrev pub last_change : Office → List ℕ → List ℕ → ℕ
last_change o b c = unwrap_or (option_map (λ (book : Book). number_of book c) (get o.books b)) 0

abbrev pub touched_at : Office → List ℕ × List ℕ → Touched
touched_at o card = record { path = path.Card card.0 card.1; number = last_change o card.0 card.1 }

-- what is told of an edit, by the request and the Office after it
abbrev pub effect_of : Office → Request → Effect
effect_of after request =
    record { touched = map (touched_at after) (cards_asked request.method request.path request.destination); epoch = Some after.epoch }

-- what is told where nothing was edited
abbrev pub no_effect : Effect
no_effect = record { touched = []; epoch = None }
