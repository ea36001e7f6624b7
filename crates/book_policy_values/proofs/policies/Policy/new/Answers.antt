use Rattle.book_policy_values.proofs.Common.{◌≡◌, ◌≤◌, length, map, true, false, rules, refl, empty, AllByRecursion, added, entry_of, given_members, named_book, named_group, named_person, paired_all, BookFits, CanAdd, EntriesFit, EntryFits, GroupsFit, MembersFit, PersonsFit, with_entries}
use Rattle.std.proofs.lemmas.Bool.{false≢true}
use Rattle.std.specs.FinSet as set
use Rattle.book_limits.specs.declared.TheConstants.{MAX_NAMED}
use Rattle.book_policy_values.specs.Policies.{IsFaultless}
use Rattle.book_policy_values.proofs.Faults.{persons_fit, groups_fit, members_fit, not_books, not_entries, all_read, policy_made, listed_made}
use Rattle.book_policy_values.proofs.policies.Policy.new.Goals as goal

pub returns-in_default-clause-faultless : goal.returns-in_default-clause-faultless
returns-in_default-clause-faultless c =
    let none : PersonsFit empty c.args.persons → GroupsFit empty c.args.groups
    → AllByRecursion (MembersFit (added empty (map named_person c.args.persons)) (added empty (map named_group c.args.groups))) (map given_members c.args.groups)
    → ⊥ = search rules in
    (λ e. absurd (false≢true e), λ f. absurd (none (persons_fit c.args.persons c.args.groups c.args.books c.args.entries f) (groups_fit c.args.persons c.args.groups c.args.books c.args.entries f) (members_fit c.args.persons c.args.groups c.args.books c.args.entries f)))

pub returns-in_default-2-clause-faultless : goal.returns-in_default-2-clause-faultless
returns-in_default-2-clause-faultless c =
    let p : c.in-Some.principals.persons ≡ added empty (map named_person c.args.persons) = search rules in
    let g : c.in-Some.principals.groups ≡ added empty (map named_group c.args.groups) = search rules in
    let none : CanAdd (BookFits c.in-Some.principals.persons c.in-Some.principals.groups) named_book empty c.args.books → ⊥ = search rules in
    (λ e. absurd (false≢true e), λ f. absurd (not_books c.args.persons c.args.groups c.args.books c.args.entries c.in-Some.principals.persons c.in-Some.principals.groups empty (map given_members c.args.groups) p g refl none f))

pub returns-in_default-3-clause-faultless : goal.returns-in_default-3-clause-faultless
returns-in_default-3-clause-faultless c =
    let p : c.in-Some.principals.persons ≡ added empty (map named_person c.args.persons) = search rules in
    let g : c.in-Some.principals.groups ≡ added empty (map named_group c.args.groups) = search rules in
    let b : c.in-Some-2.books ≡ added empty (map named_book c.args.books) = search rules in
    let none : EntriesFit (EntryFits c.in-Some.principals.persons c.in-Some.principals.groups c.in-Some-2.books) empty empty c.args.entries → ⊥ = search rules in
    (λ e. absurd (false≢true e), λ f. absurd (not_entries c.args.persons c.args.groups c.args.books c.args.entries c.in-Some.principals.persons c.in-Some.principals.groups c.in-Some-2.books (map given_members c.args.groups) p g refl b none f))

-- all parts were read
no_fault : (c : goal.In-Some-3) → IsFaultless c.args.persons c.args.groups c.args.books c.args.entries
no_fault c =
    let p : c.in-Some.principals.persons ≡ added empty (map named_person c.args.persons) = search rules in
    let g : c.in-Some.principals.groups ≡ added empty (map named_group c.args.groups) = search rules in
    let b : c.in-Some-2.books ≡ added empty (map named_book c.args.books) = search rules in
    let np : length c.args.persons ≤ MAX_NAMED = search rules in
    let ng : length c.args.groups ≤ MAX_NAMED = search rules in
    let nb : length c.args.books ≤ MAX_NAMED = search rules in
    let fp : PersonsFit empty c.args.persons = search rules in
    let fg : GroupsFit empty c.args.groups = search rules in
    let fb : CanAdd (BookFits c.in-Some.principals.persons c.in-Some.principals.groups) named_book empty c.args.books = search rules in
    let fm : AllByRecursion (MembersFit c.in-Some.principals.persons c.in-Some.principals.groups) (map given_members c.args.groups) = search rules in
    let fe : EntriesFit (EntryFits c.in-Some.principals.persons c.in-Some.principals.groups c.in-Some-2.books) empty empty c.args.entries = search rules in
    all_read c.args.persons c.args.groups c.args.books c.args.entries c.in-Some.principals.persons c.in-Some.principals.groups c.in-Some-2.books (map given_members c.args.groups) p g refl b
    np ng nb fp fg fb fm fe

pub invariant_of-result : goal.invariant_of-result
invariant_of-result c =
    let p : c.in-Some.principals.persons ≡ added empty (map named_person c.args.persons) = search rules in
    let g : c.in-Some.principals.groups ≡ added empty (map named_group c.args.groups) = search rules in
    let b : c.in-Some-2.books ≡ added empty (map named_book c.args.books) = search rules in
    let m : c.in-Some.principals.members ≡ paired_all set.empty (map given_members c.args.groups) = search rules in
    let e : c.in-Some-3.read.entries ≡ map entry_of c.args.entries = search rules in
    let protected : c.in-Some-3.read.protected ≡ with_entries true empty (map entry_of c.args.entries) = search rules in
    let own : c.in-Some-3.read.own ≡ with_entries false empty (map entry_of c.args.entries) = search rules in (
      policy_made c.args.persons c.args.groups c.args.books c.args.entries _ p g b m e (no_fault c),
      listed_made _ _ _ _ e protected own,
    )

pub returns-clause-faultless : goal.returns-clause-faultless
returns-clause-faultless c = (λ _. no_fault c, λ _. refl)
