-- What holds of what is left of a connection.
use Rattle.sqlite.specs.Held.{Held}
use Rattle.book_tables_schema.specs.Reopening.{IfConnection, IfStore}
use Rattle.book_tables_schema.specs.declared.reopening.Unopened.{Unopened}
use Rattle.book_tables_schema.specs.declared.reopening.Unopened.TheVariants.{Connection, Store}

pub connection_weaker : {S : Type 0} (P Q : Held S → Type 0) (left : Unopened S) → ((c : Held S) → P c → Q c) → IfConnection left P → IfConnection left Q
connection_weaker P Q (Connection c) f h = f c h
connection_weaker P Q (Store s) f h = tt

pub store_weaker : {S : Type 0} (P Q : S → Type 0) (left : Unopened S) → ((s : S) → P s → Q s) → IfStore left P → IfStore left Q
store_weaker P Q (Connection c) f h = tt
store_weaker P Q (Store s) f h = f s h
