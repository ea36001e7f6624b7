-- Limits of sync reports as values of JSON.
use Rattle.book_wire_json.proofs.Common.{◌≡◌, ℕ, List, Some, None, sym, subst, ap, ◌∙◌, Data, string, null}
use Rattle.std.proofs.Common.{◌≢◌, Option, option_and_then}
use Rattle.std.specs.Option.{MatchOption}
use Rattle.serde_json.specs.Data.{Num, boolean, number, array, object, unsigned, negative, float}
use Rattle.serde_json.specs.Find.{as_number, as_u64}
use Rattle.book_office_sync.specs.Copies.{IsLimit}
use Rattle.book_machine.specs.declared.messages.ReportKind.{ReportKind}
use Rattle.book_machine.specs.declared.messages.ReportKind.TheVariants as report
use Rattle.book_wire_json.specs.Reports.{IsReport, limited_collection, sync_collection}

num_is : (m : Num) (n : ℕ) → as_u64 m ≡ Some n → m ≡ unsigned n
num_is (unsigned m) n e = let same : m ≡ n = cc in ap unsigned same
num_is (negative z) n e = absurd cc
num_is (float x) n e = absurd cc

count_is : (d : Data) (n : ℕ) → option_and_then as_u64 (as_number d) ≡ Some n → d ≡ number (unsigned n)
count_is null n e = absurd cc
count_is (boolean b) n e = absurd cc
count_is (number m) n e = ap number (num_is m n e)
count_is (string s) n e = absurd cc
count_is (array ds) n e = absurd cc
count_is (object ms) n e = absurd cc

-- a value that is no whole number is no limit
pub none_is : (d : Data) → option_and_then as_u64 (as_number d) ≡ None → (limit : ℕ) → IsLimit (Some limit) → d ≢ number (unsigned limit)
none_is d none limit is e =
    let apart : Some limit ≡ None = sym (ap (λ v. option_and_then as_u64 (as_number v)) e) ∙ none in absurd cc

-- a value that is a whole number is the limit that the number is
pub limit_told : (found : Option ℕ) (d : Data) (count : ℕ) → option_and_then as_u64 (as_number d) ≡ Some count → MatchOption found (IsLimit (Some count) → ⊥) (λ l. (l ≡ count) × IsLimit (Some count))
    → MatchOption found ((limit : ℕ) → IsLimit (Some limit) → d ≢ number (unsigned limit)) (λ l. IsLimit (Some l) × (d ≡ number (unsigned l)))
limit_told None d count at none = λ limit is e.
    let both : Some limit ≡ Some count = sym (ap (λ v. option_and_then as_u64 (as_number v)) e) ∙ at in
    let same : limit ≡ count = cc in
    none (subst (λ n. IsLimit (Some n)) same is)
limit_told (Some l) d count at some =
    (subst (λ n. IsLimit (Some n)) (sym some.0) some.1, count_is d count at ∙ ap (λ n. number (unsigned n)) (sym some.0))

-- a value that asks with what is no limit asks no report
pub no_limited : (v : Data) (text : List ℕ) → ((limit : ℕ) → IsLimit (Some limit) → v ≢ number (unsigned limit)) → (r : ReportKind) → IsReport (limited_collection v text) r → ⊥
no_limited v text none (report.SyncCollection asks) is = by_limit asks.limit is.1 is.2
  where
    by_limit : (limit : Option ℕ) → limited_collection v text ≡ sync_collection is.0 limit → IsLimit limit → ⊥
    by_limit None e within = absurd (cc e)
    by_limit (Some n) e within = let same : v ≡ number (unsigned n) = cc e in none n within same
no_limited v text none report.GroupMembers is = absurd (cc is)
no_limited v text none (report.Effective caller) is = let e = is.1 in absurd (cc e)
no_limited v text none report.Names is = absurd (cc is)
