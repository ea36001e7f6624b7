use Rattle.book_wire_json.proofs.Common.{◌≡◌, view}
use Rattle.std.specs.List.{list_all}
use Rattle.serde_json.specs.View.{members_view}
use Rattle.book_wire_json.specs.Entries.{has_entry_keys, is_entry_key, keys_of}
use Rattle.book_wire_json.proofs.entries.has_entry_keys.Given as goal

-- the keys that are left decide for all
abbrev pub invariant-loop-key : goal.invariant-loop-key
invariant-loop-key l = has_entry_keys (view l.value) ≡ list_all is_entry_key (keys_of (members_view l.key-iterator))
