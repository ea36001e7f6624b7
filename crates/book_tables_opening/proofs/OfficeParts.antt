-- Rows are those of an Office, but for the texts, where they have the form and keep the limits.
use Rattle.book_tables_opening.proofs.Common.{List, Row, IsMetaRows}
use Rattle.book_tables_opening.specs.Opening.{AreTextlessRows, HaveForm, KeepLimits}

module _ (nodes entries members gone meta : List Row) where
  pub whole : HaveForm nodes entries members gone → KeepLimits nodes entries members gone → IsMetaRows meta → AreTextlessRows nodes entries members gone meta
  whole f l m = record {
    each_node = f.each_node;
    homes = f.homes;
    each_entry = f.each_entry;
    lists = l.lists;
    each_member = f.each_member;
    groups = l.groups;
    each_gone = f.each_gone;
    within = l.changes.0;
    different = l.changes.1;
    cards = l.cards;
    books = l.books;
    meta_rows = m;
  }

  pub form : AreTextlessRows nodes entries members gone meta → HaveForm nodes entries members gone
  form a = record { each_node = a.each_node; homes = a.homes; each_entry = a.each_entry; each_member = a.each_member; each_gone = a.each_gone }

  pub limits : AreTextlessRows nodes entries members gone meta → KeepLimits nodes entries members gone
  limits a = record { lists = a.lists; groups = a.groups; changes = (a.within, a.different); cards = a.cards; books = a.books }
