-- A schema without the indexes of a store that only make look-ups fast, and what takes these away.
use Rattle.std.specs.Prelude.{◌≡◌, ℕ, List, [], codes, Option, Some, None, option_and_then, slice_get, IsTrue}
use Rattle.sqlite.specs.Effect.{IsDatabase}
use Rattle.sqlite.specs.Schema.{Schema}
use Rattle.sqlite.specs.State.{State}
use Rattle.sqlite_catalog.specs.Change.{KeepsRows, without_index}
use Rattle.sqlite_schema.specs.Names.{index_named}
use Rattle.sqlite_schema.specs.declared.schema.Index.{Index}

abbrev pub without_found : Schema → Option Index → Schema
without_found schema None = schema
without_found schema (Some index) = without_index schema index.tree

-- without the index of this name, where there is one: names are equal but for the case of ASCII letters
abbrev pub without_named : List ℕ → Schema → Schema
without_named name schema = without_found schema (option_and_then (slice_get schema.indexes) (index_named schema name))

-- without those of `node`, and then without each other
abbrev pub without_node_indexes : Schema → Schema
without_node_indexes schema = without_named (codes "node_owner") (without_named (codes "node_parent") schema)

abbrev pub without_principal_indexes : Schema → Schema
without_principal_indexes schema = without_named (codes "member_member") (without_named (codes "ace_principal") schema)

abbrev pub without_last_indexes : Schema → Schema
without_last_indexes schema = without_named (codes "reach_grp") (without_named (codes "gone_book") (without_named (codes "ace2_principal") schema))

abbrev pub bared : Schema → Schema
bared schema = without_last_indexes (without_principal_indexes (without_node_indexes schema))

-- inside a transaction: indexes are gone, whatever the schema without views, and all rows stayed
pub record DropsIndexes (left : Schema → Schema) (old new : State) : Type 0 where
  pub inside : IsTrue new.in_transaction
  pub was_open : IsTrue old.is_open
  pub is_open : IsTrue new.is_open
  pub made : old.now.schema.views ≡ [] → IsDatabase old.now
      → (new.now.schema ≡ left old.now.schema) × IsDatabase new.now × KeepsRows old.now.schema.tables old.now.trees new.now.trees
