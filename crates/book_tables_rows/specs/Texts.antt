-- The fixed texts.
use Rattle.std.specs.Prelude.{List, codes, ℕ}

-- ---- those that make the tables

abbrev pub create_node : List ℕ
create_node = codes "CREATE TABLE node (id INTEGER PRIMARY KEY, path TEXT NOT NULL UNIQUE, parent INTEGER REFERENCES node ON DELETE CASCADE, kind INTEGER NOT NULL, owner TEXT REFERENCES node (path), label TEXT NOT NULL, text TEXT, number INTEGER NOT NULL) STRICT"

abbrev pub create_ace : List ℕ
create_ace = codes "CREATE TABLE ace (node INTEGER NOT NULL REFERENCES node ON DELETE CASCADE, protected INTEGER NOT NULL, place INTEGER NOT NULL, form INTEGER NOT NULL, principal TEXT REFERENCES node (path), invert INTEGER NOT NULL, deny INTEGER NOT NULL, mask INTEGER NOT NULL, PRIMARY KEY (node, protected, place)) STRICT"

abbrev pub create_ace2 : List ℕ
create_ace2 = codes "CREATE TABLE ace2 (node INTEGER NOT NULL REFERENCES node ON DELETE CASCADE, protected INTEGER NOT NULL, place INTEGER NOT NULL, form INTEGER NOT NULL, principal TEXT REFERENCES node (path), invert INTEGER NOT NULL, deny INTEGER NOT NULL, mask INTEGER NOT NULL, PRIMARY KEY (node, protected, place)) STRICT"

abbrev pub create_member : List ℕ
create_member = codes "CREATE TABLE member (grp TEXT NOT NULL REFERENCES node (path), member TEXT NOT NULL REFERENCES node (path), PRIMARY KEY (grp, member)) STRICT"

abbrev pub create_gone : List ℕ
create_gone = codes "CREATE TABLE gone (book INTEGER NOT NULL REFERENCES node ON DELETE CASCADE, name TEXT NOT NULL, number INTEGER NOT NULL, PRIMARY KEY (book, name)) STRICT"

abbrev pub create_meta : List ℕ
create_meta = codes "CREATE TABLE meta (version INTEGER NOT NULL, epoch INTEGER NOT NULL) STRICT"

abbrev pub create_reach : List ℕ
create_reach = codes "CREATE TABLE reach (grp TEXT NOT NULL REFERENCES node (path), member TEXT NOT NULL REFERENCES node (path), PRIMARY KEY (member, grp)) STRICT"

abbrev pub index_parent : List ℕ
index_parent = codes "CREATE INDEX node_parent ON node (parent, number)"

abbrev pub index_owner : List ℕ
index_owner = codes "CREATE INDEX node_owner ON node (owner)"

abbrev pub index_principal : List ℕ
index_principal = codes "CREATE INDEX ace_principal ON ace (principal)"

abbrev pub index_member : List ℕ
index_member = codes "CREATE INDEX member_member ON member (member)"

abbrev pub index_entries : List ℕ
index_entries = codes "CREATE INDEX ace2_principal ON ace2 (principal)"

abbrev pub index_gone : List ℕ
index_gone = codes "CREATE INDEX gone_book ON gone (book, number)"

abbrev pub index_reach : List ℕ
index_reach = codes "CREATE INDEX reach_grp ON reach (grp)"

-- ---- those that read

abbrev pub find_node : List ℕ
find_node = codes "SELECT id, kind, owner, label, text, number FROM node WHERE path = ?1"

-- the entries of the node at a path
abbrev pub list_entries_at : List ℕ
list_entries_at = codes "SELECT ace2.node, protected, form, principal, invert, deny, mask FROM node, ace2 WHERE path = ?1 AND ace2.node = node.id ORDER BY ace2.node, protected, place"

-- ---- those that write

abbrev pub insert_node : List ℕ
insert_node = codes "INSERT INTO node (path, parent, kind, owner, label, text, number) VALUES (?1, ?2, ?3, ?4, ?5, ?6, ?7)"

abbrev pub set_text : List ℕ
set_text = codes "UPDATE node SET text = ?2, number = ?3 WHERE path = ?1"

abbrev pub set_number : List ℕ
set_number = codes "UPDATE node SET number = ?2 WHERE path = ?1"

abbrev pub delete_gone_name : List ℕ
delete_gone_name = codes "DELETE FROM gone WHERE book = ?1 AND name = ?2"

abbrev pub delete_gone : List ℕ
delete_gone = codes "DELETE FROM gone WHERE book = ?1"

abbrev pub delete_entries : List ℕ
delete_entries = codes "DELETE FROM ace2 WHERE node = ?1"

abbrev pub delete_children : List ℕ
delete_children = codes "DELETE FROM node WHERE parent = ?1"

abbrev pub delete_node : List ℕ
delete_node = codes "DELETE FROM node WHERE id = ?1"

abbrev pub set_epoch : List ℕ
set_epoch = codes "UPDATE meta SET epoch = ?1"

abbrev pub read_epoch : List ℕ
read_epoch = codes "SELECT version, epoch FROM meta"

abbrev pub read_members : List ℕ
read_members = codes "SELECT grp, member FROM member"

abbrev pub read_reach : List ℕ
read_reach = codes "SELECT grp, member FROM reach"

-- the groups that are kept of a member
abbrev pub read_reached : List ℕ
read_reached = codes "SELECT grp FROM reach WHERE member = ?1"

abbrev pub insert_gone : List ℕ
insert_gone = codes "INSERT INTO gone (book, name, number) VALUES (?1, ?2, ?3)"

abbrev pub insert_entry : List ℕ
insert_entry = codes "INSERT INTO ace2 (node, protected, place, form, principal, invert, deny, mask) VALUES (?1, ?2, ?3, ?4, ?5, ?6, ?7, ?8)"

abbrev pub insert_member : List ℕ
insert_member = codes "INSERT INTO member (grp, member) VALUES (?1, ?2)"

abbrev pub insert_reach : List ℕ
insert_reach = codes "INSERT INTO reach (grp, member) VALUES (?1, ?2)"

abbrev pub delete_reach : List ℕ
delete_reach = codes "DELETE FROM reach WHERE grp = ?1 AND member = ?2"

abbrev pub clear_reach : List ℕ
clear_reach = codes "DELETE FROM reach"

abbrev pub insert_meta : List ℕ
insert_meta = codes "INSERT INTO meta (version, epoch) VALUES (?1, ?2)"

abbrev pub delete_own : List ℕ
delete_own = codes "DELETE FROM ace2 WHERE node = ?1 AND protected = 0"

abbrev pub delete_members : List ℕ
delete_members = codes "DELETE FROM member WHERE grp = ?1"

abbrev pub set_label : List ℕ
set_label = codes "UPDATE node SET label = ?2, number = ?3 WHERE path = ?1"

abbrev pub set_place : List ℕ
set_place = codes "UPDATE node SET owner = ?2, label = ?3 WHERE path = ?1"

abbrev pub set_copy : List ℕ
set_copy = codes "UPDATE node SET label = ?2, text = ?3, number = ?4 WHERE path = ?1"

abbrev pub move_node : List ℕ
move_node = codes "UPDATE node SET path = ?2, parent = ?3, number = ?4 WHERE path = ?1"

abbrev pub list_changed : List ℕ
list_changed = codes "SELECT id, path, owner, label, text, number FROM node WHERE parent = ?1 AND number > ?2 ORDER BY number LIMIT ?3"

abbrev pub list_gone : List ℕ
list_gone = codes "SELECT name, number FROM gone WHERE book = ?1 AND number > ?2 ORDER BY number LIMIT ?3"

-- how many children the node at a path has
abbrev pub count_children : List ℕ
count_children = codes "SELECT (SELECT count(*) FROM node AS child WHERE child.parent = node.id) FROM node WHERE path = ?1"

-- the entries of all children of a node
abbrev pub list_child_entries : List ℕ
list_child_entries = codes "SELECT ace2.node, protected, form, principal, invert, deny, mask FROM node, ace2 WHERE parent = ?1 AND node.id = ace2.node ORDER BY ace2.node, protected, place"

-- those of the children of a node whose change numbers are above one and at most another
abbrev pub list_changed_entries : List ℕ
list_changed_entries = codes "SELECT ace2.node, protected, form, principal, invert, deny, mask FROM node, ace2 WHERE parent = ?1 AND number > ?2 AND number <= ?3 AND node.id = ace2.node ORDER BY ace2.node, protected, place"

abbrev pub list_children : List ℕ
list_children = codes "SELECT id, path, kind, owner, label, number FROM node WHERE parent = ?1 ORDER BY path"
