-- The rows of a store that give a sound Office are those of an Office.
use Rattle.book_tables_opening.proofs.Common.{Database, Office, IsSound, pairs_of, rows_of, IsBook, entries_shown, gone_shown, meta_shown, Gives, AreOfficeRows, whole_nodes}
use Rattle.book_tables_opening.proofs.GivenBooks as books
use Rattle.book_tables_opening.proofs.GivenEntries as entries
use Rattle.book_tables_opening.proofs.GivenGroups as groups
use Rattle.book_tables_opening.proofs.GivenLists as lists
use Rattle.book_tables_opening.proofs.GivenMembers as members
use Rattle.book_tables_opening.proofs.GivenNodes as nodes
use Rattle.book_tables_opening.proofs.GivenNumbers as numbers

pub given_rows : (db : Database) → IsBook db → (o : Office) → Gives (rows_of db.trees) o → IsSound o
    → AreOfficeRows (whole_nodes (rows_of db.trees)) (entries_shown (rows_of db.trees)) (pairs_of (rows_of db.trees)) (gone_shown (rows_of db.trees)) (meta_shown (rows_of db.trees))
given_rows db book o gives sound =
    let each_member = members.each_member db book o gives sound in
    record {
      each_node = nodes.each_node db book o gives sound;
      homes = nodes.homes db book o gives sound;
      each_entry = entries.each_entry db book o gives sound;
      lists = lists.lists db book o gives sound;
      each_member = each_member;
      groups = groups.groups db book o gives sound each_member;
      each_gone = members.each_gone db book o gives sound;
      within = numbers.within db book o gives sound;
      different = numbers.different db book o gives sound;
      cards = books.cards db book o gives sound;
      books = books.books db book o gives sound;
      meta_rows = members.meta_rows db book o gives sound;
    }
