-- Parts of the schema, as they are compared.
use Rattle.std.specs.Prelude.{ℕ, false, List, [], ◌∷◌, codes}
use Rattle.sqlite.specs.Kind.TheVariants.{Text}
use Rattle.sqlite.specs.Table.{Table}
use Rattle.sqlite_schema.specs.declared.schema.Column.{Column}
use Rattle.sqlite_schema.specs.declared.schema.Index.{Index}
use Rattle.book_tables_rows.specs.Schema.{strict_column, number_column, text_column, unique_index, node_table, ace_table, member_table, gone_table, meta_table, ace2_table, node_key, ace_key, member_key, gone_key, ace2_key, reach_key, own_indexes}
use Rattle.book_tables_schema.specs.declared.layout.Generation.{Generation}
use Rattle.book_tables_schema.specs.declared.layout.Generation.TheVariants.{First, Former, Second}

-- ---- the last columns of `node` and of `ace`

abbrev pub node_texts : List Column
node_texts = text_column (codes "label") ∷ strict_column (codes "text") Text false ∷ number_column (codes "number") ∷ []

abbrev pub node_content : List Column
node_content = number_column (codes "kind") ∷ strict_column (codes "owner") Text false ∷ node_texts

abbrev pub ace_effect : List Column
ace_effect = number_column (codes "invert") ∷ number_column (codes "deny") ∷ number_column (codes "mask") ∷ []

abbrev pub ace_content : List Column
ace_content = number_column (codes "form") ∷ strict_column (codes "principal") Text false ∷ ace_effect

-- ---- the tables of each generation, and their keys: the last ones first

-- where `ace2` stood in the former order, behind the indexes of version 1
abbrev pub former_tree : ℕ
former_tree = 13

abbrev pub former_table : Table
former_table = record ace2_table { tree = former_tree }

abbrev pub former_key : Index
former_key = unique_index (codes "sqlite_autoindex_ace2_1") 14 former_tree (1 ∷ 2 ∷ 3 ∷ [])

abbrev pub more_tables : Generation → List Table
more_tables First = []
more_tables Former = former_table ∷ []
more_tables Second = ace2_table ∷ []

abbrev pub last_tables : Generation → List Table
last_tables generation = gone_table ∷ meta_table ∷ more_tables generation

abbrev pub tables_of : Generation → List Table
tables_of generation = node_table ∷ ace_table ∷ member_table ∷ last_tables generation

abbrev pub more_keys : Generation → List Index
more_keys First = []
more_keys Former = former_key ∷ []
more_keys Second = ace2_key ∷ []

abbrev pub last_keys : Generation → List Index
last_keys generation = member_key ∷ gone_key ∷ more_keys generation

abbrev pub keys_of : Generation → List Index
keys_of generation = node_key ∷ ace_key ∷ last_keys generation

-- behind the keys of version 2: that of `reach`, and the indexes that only make look-ups fast
abbrev pub rest_indexes : List Index
rest_indexes = reach_key ∷ own_indexes
