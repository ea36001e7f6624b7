-- What is found breaks a condition of the rows of a sound Office.
use Rattle.book_tables_findings.proofs.Common.{◌≡◌, ◌∙◌, ◌++◌, List, [], None, IsTrue, true≢false, subst, sym, Row}
use Rattle.std.specs.Prelude.{codes, unwrap_or}
use Rattle.std.proofs.lemmas.Option.{same_Some}
use Rattle.book_tables_rows.specs.Nodes.{text_in}
use Rattle.book_tables_opening.specs.Directories.{first_shown_at, is_of_kind}
use Rattle.book_tables_opening.specs.Opening.{AreTextlessRows, HasHomes, IsEntryRow, IsGoneRow, IsMemberRow, IsTextlessRow}
use Rattle.book_tables_opening.specs.Shown.{shown_path}
use Rattle.book_tables_findings.specs.Findings.{BreaksEntry, BreaksGone, BreaksLimit, BreaksMember, BreaksNode, BreaksRows, IsMissing}
use Rattle.book_tables_findings.specs.Names.{entry_name, gone_row_name, member_name, node_name}
use Rattle.book_tables_findings.specs.declared.findings.Home.{Home}
use Rattle.book_tables_findings.specs.declared.findings.Home.TheVariants as of_home
use Rattle.book_tables_findings.specs.declared.findings.EntryRule.{EntryRule}
use Rattle.book_tables_findings.specs.declared.findings.EntryRule.TheVariants as of_entry
use Rattle.book_tables_findings.specs.declared.findings.MemberRule.{MemberRule}
use Rattle.book_tables_findings.specs.declared.findings.MemberRule.TheVariants as of_member
use Rattle.book_tables_findings.specs.declared.findings.GoneRule.{GoneRule}
use Rattle.book_tables_findings.specs.declared.findings.GoneRule.TheVariants as of_gone
use Rattle.book_tables_findings.specs.declared.findings.Limit.{Limit}
use Rattle.book_tables_findings.specs.declared.findings.Limit.TheVariants as of_limit
use Rattle.book_tables_findings.specs.declared.findings.Finding.{Finding}
use Rattle.book_tables_findings.specs.declared.findings.Finding.TheVariants as found
use Rattle.book_tables_findings.proofs.FirstRows.{not_all}
use Rattle.book_tables_findings.proofs.NodeRules.{no_node}

no_homes : (nodes : List Row) (home : Home) → IsMissing nodes home → HasHomes nodes → ⊥
no_homes nodes of_home.Root none h = h.root none
no_homes nodes of_home.People none h = h.people none
no_homes nodes of_home.Groups none h = h.groups none
no_homes nodes of_home.Books none h = h.books none

no_entry : (nodes : List Row) (row : Row) (rule : EntryRule) → BreaksEntry nodes row rule → IsEntryRow nodes row → ⊥
no_entry nodes row of_entry.Form none e = none e.spelled
no_entry nodes row of_entry.Node none e = let both = sym none ∙ e.there in cc
no_entry nodes row of_entry.Protected b e =
    let same : b.node ≡ e.node = same_Some b.node e.node (sym b.there ∙ e.there) in
    true≢false (sym b.protected ∙ e.placed (subst (λ node. IsTrue (is_of_kind 5 node)) same b.card))
no_entry nodes row of_entry.Principal none e = none e.principal

no_member : (nodes : List Row) (row : Row) (rule : MemberRule) → BreaksMember nodes row rule → IsMemberRow nodes row → ⊥
no_member nodes row of_member.Group none m = none (m.group, m.group_is, m.group_there)
no_member nodes row of_member.Member none m = none (m.member, m.member_is, m.member_there)

no_gone : (nodes : List Row) (row : Row) (rule : GoneRule) → BreaksGone nodes row rule → IsGoneRow nodes row → ⊥
no_gone nodes row of_gone.Book none g = none (g.book, g.there, g.kind)
no_gone nodes row of_gone.Name none g = none (g.name, g.named, g.name_is)
no_gone nodes row of_gone.Free b g =
    let same : g.book ≡ b.book = same_Some g.book b.book (sym g.there ∙ b.there) in
    let name : g.name ≡ b.name = (let both = sym g.name_is ∙ b.name_is in cc) in
    let at : first_shown_at nodes (unwrap_or (text_in (shown_path b.book)) [] ++ codes "/" ++ b.name) ≡ None =
    subst (λ (row : Row). first_shown_at nodes (unwrap_or (text_in (shown_path row)) [] ++ codes "/" ++ b.name) ≡ None) same
    (subst (λ n. first_shown_at nodes (unwrap_or (text_in (shown_path g.book)) [] ++ codes "/" ++ n) ≡ None) name g.free) in
    b.taken at
no_gone nodes row of_gone.Number none g = none g.natural

module _ (nodes entries members gone meta : List Row) where
  kept_limits : (limit : Limit) → BreaksLimit nodes entries members gone limit → AreTextlessRows nodes entries members gone meta → ⊥
  kept_limits of_limit.Entries none a = none a.lists
  kept_limits of_limit.Members none a = none a.groups
  kept_limits of_limit.Range none a = none a.within
  kept_limits of_limit.Twice none a = none a.different
  kept_limits of_limit.Cards none a = none a.cards
  kept_limits of_limit.Books none a = none a.books

  pub broken_rows : (f : Finding) → BreaksRows nodes entries members gone meta f → AreTextlessRows nodes entries members gone meta → ⊥
  broken_rows found.Meta none a = none a.meta_rows
  broken_rows (found.Node name rule) b a = not_all node_name (IsTextlessRow nodes) (λ row. BreaksNode nodes row rule) nodes name (λ row. no_node nodes row rule) b a.each_node
  broken_rows (found.Missing which) none a = no_homes nodes which none a.homes
  broken_rows (found.Entry name rule) b a = not_all entry_name (IsEntryRow nodes) (λ row. BreaksEntry nodes row rule) entries name (λ row. no_entry nodes row rule) b a.each_entry
  broken_rows (found.Member name rule) b a = not_all member_name (IsMemberRow nodes) (λ row. BreaksMember nodes row rule) members name (λ row. no_member nodes row rule) b a.each_member
  broken_rows (found.Gone name rule) b a = not_all gone_row_name (IsGoneRow nodes) (λ row. BreaksGone nodes row rule) gone name (λ row. no_gone nodes row rule) b a.each_gone
  broken_rows (found.Limit which) none a = kept_limits which none a
  broken_rows (found.Text name) none a = absurd none
