-- How a finding is told, in one line (own profile).
use Rattle.std.specs.Prelude.{ℕ, List, ◌++◌, codes}
use Rattle.book_tables_findings.specs.declared.findings.NodeRule.{NodeRule}
use Rattle.book_tables_findings.specs.declared.findings.NodeRule.TheVariants as of_node
use Rattle.book_tables_findings.specs.declared.findings.Home.{Home}
use Rattle.book_tables_findings.specs.declared.findings.Home.TheVariants as of_home
use Rattle.book_tables_findings.specs.declared.findings.EntryRule.{EntryRule}
use Rattle.book_tables_findings.specs.declared.findings.EntryRule.TheVariants as of_entry
use Rattle.book_tables_findings.specs.declared.findings.MemberRule.{MemberRule}
use Rattle.book_tables_findings.specs.declared.findings.MemberRule.TheVariants as of_member
use Rattle.book_tables_findings.specs.declared.findings.GoneRule.{GoneRule}
use Rattle.book_tables_findings.specs.declared.findings.GoneRule.TheVariants as of_gone
use Rattle.book_tables_findings.specs.declared.findings.Limit.{Limit}
use Rattle.book_tables_findings.specs.declared.findings.Limit.TheVariants as of_limit
use Rattle.book_tables_findings.specs.declared.faults.Fault.{Fault}
use Rattle.book_tables_findings.specs.declared.faults.Fault.TheVariants.{Schema, Former, Found}
use Rattle.book_tables_findings.specs.declared.findings.Finding.{Finding}
use Rattle.book_tables_findings.specs.declared.findings.Finding.TheVariants as found

abbrev pub node_sentence : NodeRule → List ℕ
node_sentence of_node.Path = codes ": its path is no path"
node_sentence of_node.Parent = codes ": its parent is not the resource above it"
node_sentence of_node.Kind = codes ": its kind is not that of its path"
node_sentence of_node.Owner = codes ": its owner is no principal"
node_sentence of_node.Label = codes ": its label is too long or not UTF-8"
node_sentence of_node.Number = codes ": its change number is none of its kind"

abbrev pub home_text : Home → List ℕ
home_text of_home.Root = codes "node /: it is not there"
home_text of_home.People = codes "node /people: it is not there"
home_text of_home.Groups = codes "node /groups: it is not there"
home_text of_home.Books = codes "node /books: it is not there"

abbrev pub entry_sentence : EntryRule → List ℕ
entry_sentence of_entry.Form = codes ": it is no entry"
entry_sentence of_entry.Node = codes ": its node is not there"
entry_sentence of_entry.Protected = codes ": a card has no protected entries"
entry_sentence of_entry.Principal = codes ": its principal is not there"

abbrev pub member_sentence : MemberRule → List ℕ
member_sentence of_member.Group = codes ": its group is not there"
member_sentence of_member.Member = codes ": its member is not there"

abbrev pub gone_sentence : GoneRule → List ℕ
gone_sentence of_gone.Book = codes ": its book is not there"
gone_sentence of_gone.Name = codes ": its name is no name"
gone_sentence of_gone.Free = codes ": a card has its name"
gone_sentence of_gone.Number = codes ": its change number is no natural number"

abbrev pub limit_text : Limit → List ℕ
limit_text of_limit.Entries = codes "ace2: more entries than a list may have"
limit_text of_limit.Members = codes "member: more members than a group may have"
limit_text of_limit.Range = codes "node, gone: a change number is not from 1 to that of its book"
limit_text of_limit.Twice = codes "node, gone: a change number stands twice in a book"
limit_text of_limit.Cards = codes "node: more cards than a book may have"
limit_text of_limit.Books = codes "node: more books than there may be"

-- table, name of the row and rule
abbrev pub finding_text : Finding → List ℕ
finding_text found.Meta = codes "meta: it has not one row, with version 2 and an epoch"
finding_text (found.Node name rule) = codes "node " ++ name ++ node_sentence rule
finding_text (found.Missing which) = home_text which
finding_text (found.Entry name rule) = codes "ace2 " ++ name ++ entry_sentence rule
finding_text (found.Member name rule) = codes "member " ++ name ++ member_sentence rule
finding_text (found.Gone name rule) = codes "gone " ++ name ++ gone_sentence rule
finding_text (found.Limit which) = limit_text which
finding_text (found.Text name) = codes "node " ++ name ++ codes ": its text is none of its kind"

-- what is at fault in a store
abbrev pub fault_text : Fault → List ℕ
fault_text Schema = codes "schema: its tables, keys or indexes are not those of a store"
fault_text Former = codes "ace: it has rows, as in version 1"
fault_text (Found f) = finding_text f
