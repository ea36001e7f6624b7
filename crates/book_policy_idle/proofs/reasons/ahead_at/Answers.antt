use Rattle.std.proofs.Common.{◌≡◌, ◌+◌, ◌∙◌, ℕ, Bool, List, length, slice_get, refl, sym, ap}
use Rattle.std.proofs.lemmas.Option.{slice_get_read}
use Rattle.book_policy_values.specs.declared.parts.PolicyEntry.{PolicyEntry}
use Rattle.book_policy_values.specs.declared.parts.PolicyTables.{PolicyTables}
use Rattle.book_policy_idle.specs.declared.reasons.Ahead.{Ahead}
use Rattle.book_policy_idle.proofs.reasons.ahead_at.Goals as goal

abbrev told : ℕ → List ℕ → Bool → Ahead
told k at is_protected = record { number = k + 1; at = at; protected = is_protected }

pub returns : goal.returns
returns c =
    let i = c.args.index in
    let x = c.index-entries-index.result in
    let xs = c.as_slice-entries.result.now in
    let all : xs ≡ c.args.policy.now.entries = c.as_slice-entries.ensures ∙ ap (λ (t : PolicyTables). t.entries) c.tables.ensures in (
      x,
      ap (λ (l : List PolicyEntry). slice_get l i) (sym all) ∙ slice_get_read xs (length xs) i x refl c.if-index-entries.false c.index-entries-index.is,
      c.in_ok-is_behind.ensures.0 c.if-not-branch.false,
      ap (λ (at : List ℕ). told i at x.protected) c.in_ok-clone.ensures.cases,
    )
