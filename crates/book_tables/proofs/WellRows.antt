-- Rows of nodes that are well: where a row stands, and rows that a write left well.
use Rattle.book_tables.proofs.Common.{◌≡◌, ℕ, Bool, true, false, List, [], ◌∷◌, map, Option, refl, sym, ap, subst, ◌∙◌, IsTrue, AllByRecursion, Row, value_cmp, rowid, update_where, IsShaped, IsAscending, Value, Resource, Rows, resource_in, removed_in, IsNode, IsEntry, IsRemoved, IsName}
use Rattle.sqlite_trees.specs.View.{is_int}
use Rattle.sqlite_trees.specs.declared.store.Shape.TheVariants.{Table as TableShape}
use Rattle.sqlite_trees.proofs.ListLemmas.{ascending-map, ascending_from_map}
use Rattle.std.specs.declared.cmp.Ordering.TheVariants.{Less}
use Rattle.book_tables.proofs.RowFacts.{all_updated, KeepsNumbers}

-- each row has its form, and those of `node` rise by their numbers
pub record AreWell (rows : Rows) : Type 0 where
  pub nodes : AllByRecursion (IsNode rows) rows.nodes
  pub entries : AllByRecursion (IsEntry rows) rows.entries
  pub removed : AllByRecursion (IsRemoved rows) rows.gone
  pub shaped : IsShaped TableShape rows.nodes

-- ---- rows that are written over keep their numbers

module _ (p : Row → Bool) (f : Row → Row) (keeps : (r : Row) → rowid (f r) ≡ rowid r) where
  same_numbers : (rows : List Row) → map rowid (update_where p f rows) ≡ map rowid rows
  same_numbers [] = refl
  same_numbers (r ∷ rows) = go (p r) refl (same_numbers rows)
    where
      go : (b : Bool) → p r ≡ b → map rowid (update_where p f rows) ≡ map rowid rows → map rowid (update_where p f (r ∷ rows)) ≡ map rowid (r ∷ rows)
      go true e more = rw e (λ i. keeps r i ∷ more i)
      go false e more = rw e (ap (λ vs. rowid r ∷ vs) more)

  abbrev Rise : List Value → Type 0
  Rise = IsAscending (λ a b. value_cmp a b ≡ Less)

  pub updated_shaped : (rows : List Row) → IsShaped TableShape rows → IsShaped TableShape (update_where p f rows)
  updated_shaped rows shaped = (
    ascending_from_map (λ a b. value_cmp a b ≡ Less) rowid (update_where p f rows) (subst Rise (sym (same_numbers rows)) (ascending-map (λ a b. value_cmp a b ≡ Less) rowid rows shaped.0)),
    all_updated (λ r. IsTrue (is_int (rowid r))) p f (λ r int. subst (λ v. IsTrue (is_int v)) (sym (keeps r)) int) rows shaped.1,
  )

-- ---- what a write makes of the resources

-- the rows are well afterwards, and at each text the resource is what the write makes of the one before; removed names, members and epoch stay
pub record Rewrites (rows after : Rows) (change : List ℕ → Option Resource → Option Resource) : Type 0 where
  pub well : AreWell after
  pub resources : (t : List ℕ) → resource_in after t ≡ change t (resource_in rows t)
  pub numbers : KeepsNumbers rows after
  pub removed : (b name : List ℕ) → IsName b → removed_in after b name ≡ removed_in rows b name
  pub members : after.members ≡ rows.members
  pub meta : after.meta ≡ rows.meta

pub rewrites_nothing : (rows : Rows) → AreWell rows → Rewrites rows rows (λ t r. r)
rewrites_nothing rows well = record {
  well = well;
  resources = λ t. refl;
  numbers = λ t r found. (r, found, refl);
  removed = λ b name named. refl;
  members = refl;
  meta = refl;
}

-- one write after another
pub rewrites_both : (rows between after : Rows) (f g : List ℕ → Option Resource → Option Resource) → Rewrites rows between f → Rewrites between after g → Rewrites rows after (λ t r. g t (f t r))
rewrites_both rows between after f g first second = record {
  well = second.well;
  resources = λ t. second.resources t ∙ ap (g t) (first.resources t);
  numbers = λ t r found. let one = first.numbers t r found in let two = second.numbers t one.0 one.1 in (two.0, two.1, two.2 ∙ one.2);
  removed = λ b name named. second.removed b name named ∙ first.removed b name named;
  members = second.members ∙ first.members;
  meta = second.meta ∙ first.meta;
}
