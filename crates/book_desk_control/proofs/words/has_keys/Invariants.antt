use Rattle.std.proofs.Common.{◌≡◌}
use Rattle.std.specs.List.{list_all}
use Rattle.serde_json.specs.View.{view, members_view}
use Rattle.book_desk_control.specs.Words.{has_keys, is_key, keys_of}
use Rattle.book_desk_control.proofs.words.has_keys.Given as goal

-- the keys that are left decide for all
abbrev pub invariant-loop-key : goal.invariant-loop-key
invariant-loop-key l = has_keys l.form (view l.value) ≡ list_all (is_key l.form) (keys_of (members_view l.key-iterator))
