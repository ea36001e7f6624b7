use Rattle.book_wire_json.proofs.Common.{◌≡◌, map, drop}
use Rattle.book_wire_json.specs.Members.{href_data}
use Rattle.book_wire_json.specs.Writing.{told}
use Rattle.book_wire_json.proofs.members.write_each_href.Given as goal

-- what is told so far, and then what follows
abbrev pub invariant-loop-name : goal.invariant-loop-name
invariant-loop-name l = told l.out (map (href_data l.book) (drop l.name-index l.names)) ≡ told l.fn.out (map (href_data l.book) l.names)
