-- Principals and privileges by their names.
use Rattle.book_wire_json.proofs.Common.{◌≡◌, ℕ, List, [], ◌∷◌, ◌++◌, refl, sym, subst, Data, null, string, AllName}
use Rattle.std.proofs.Common.{◌≢◌, Option, Some, None}
use Rattle.serde_json.specs.Data.{number, unsigned}
use Rattle.book_lists_explain.specs.Lines.{Names}
use Rattle.book_lists.specs.Principals.{IsPerson, IsGroup}
use Rattle.book_lists_explain.proofs.LineFaults.{no_group, one_path}
use Rattle.book_lists.specs.declared.circles.Caller.{Caller}
use Rattle.book_lists.specs.declared.circles.Caller.TheVariants as caller
use Rattle.book_machine.specs.declared.messages.ReportKind.{ReportKind}
use Rattle.book_machine.specs.declared.messages.ReportKind.TheVariants as report
use Rattle.book_wire_json.specs.Reports.{IsReport, IsCallerIn, limited_collection, sync_collection, effective, group_members, names}
use Rattle.book_lists.specs.declared.entries.Who.{Who}
use Rattle.book_lists.specs.declared.entries.Who.TheVariants as form

-- one more text that names a principal
pub names_more : (texts paths : List (List ℕ)) (text path : List ℕ) → AllName texts paths → Names text path → AllName (texts ++ text ∷ []) (paths ++ path ∷ [])
names_more [] [] text path all names = (names, tt)
names_more [] (p ∷ paths) text path all names = absurd all
names_more (t ∷ texts) [] text path all names = absurd all
names_more (t ∷ texts) (p ∷ paths) text path all names = (all.0, names_more texts paths text path all.1 names)

-- a text that names a group names no person
pub no_person : (text group : List ℕ) → Names text group → IsGroup group → (path : List ℕ) → IsPerson path → Names text path → ⊥
no_person text group named is path person names = no_group path person (subst IsGroup (one_path text group path named names) is)

-- a value that is none of the five asks no report
pub no_report : (d : Data) → ((text : List ℕ) → d ≢ sync_collection text None) → ((limit : Data) (text : List ℕ) → d ≢ limited_collection limit text) → ((who : Data) → d ≢ effective who) → d ≢ group_members → d ≢ names
    → (r : ReportKind) → IsReport d r → ⊥
no_report d a l b e f (report.SyncCollection asks) is = by_limit asks.limit is.1
  where
    by_limit : (limit : Option ℕ) → d ≡ sync_collection is.0 limit → ⊥
    by_limit None same = a is.0 same
    by_limit (Some n) same = l (number (unsigned n)) is.0 same
no_report d a l b e f report.GroupMembers is = e is
no_report d a l b e f (report.Effective caller) is = b is.0 is.1
no_report d a l b e f report.Names is = f is

string_same : (d : Data) (a b : List ℕ) → d ≡ string a → d ≡ string b → a ≡ b
string_same d a b x y = cc (x, y)

no_null : (a : List ℕ) → string a ≡ null → ⊥
no_null a e = cc e

-- a text that names no person names no caller
pub no_caller : (text : List ℕ) → ((path : List ℕ) → IsPerson path → Names text path → ⊥) → (c : Caller) → IsCallerIn (string text) c → ⊥
no_caller text none caller.Nobody is = no_null text is
no_caller text none (caller.Known person) is =
    none person is.2 (subst (λ t. Names t person) (sym (string_same (string text) text is.0 refl is.1)) is.3)
