use Rattle.std.proofs.Common.{◌≡◌, ◌↔◌, ◌∙◌, List, ℕ, IsTrue, refl, sym, subst}
use Rattle.std.proofs.lemmas.Bool.{false≢true}
use Rattle.std.proofs.lemmas.Result.{IfOk-weaker}
use Rattle.book_lists.specs.Memberships.{Memberships, set_of}
use Rattle.book_lists_reach.specs.Pairs.{pairs_in_rows}
use Rattle.book_lists_reach.proofs.Listing.{marked_are, not_those}
use Rattle.book_lists_reach.proofs.reach.Reach.are_those_of.Goals as goal

pub returns-then-not-branch : goal.returns-then-not-branch
returns-then-not-branch c =
    let ps : List (List ℕ) = c.as_slice.result.now in
    let rows : List (List ℕ) = c.self.inside.rows.items in
    let is : pairs_in_rows ps rows ≡ c.args.self.now = (λ k. pairs_in_rows (c.as_slice.ensures.value k) rows) ∙ c.self.view_is in
    (λ no. absurd (false≢true no), λ same. absurd (not_those ps rows c.args.list.now (c.in_ok-mark_all.ensures.missing c.if-not-branch.true) (same ∙ sym is)))

pub returns-then-same_words : goal.returns-then-same_words
returns-then-same_words c =
    let ps : List (List ℕ) = c.as_slice.result.now in
    let rows : List (List ℕ) = c.mark_all.new.rows.items in
    let words : rows ≡ c.self.inside.rows.items = sym c.as_slice-2.ensures.value ∙ c.same_words.ensures c.if-same_words.true ∙ c.as_slice-3.ensures.value in (
      λ yes.
          sym (marked_are ps c.in_ok-rows.rows.items rows c.args.list.now (c.in_ok-mark_all.ensures.marked c.if-not-branch.false) c.in_ok-rows.ensures.none)
          ∙ (λ k. pairs_in_rows (c.as_slice.ensures.value k) (words k)) ∙ c.self.view_is,
      λ same. refl,
    )

pub returns : goal.returns
returns c =
    let ps : List (List ℕ) = c.as_slice.result.now in
    let rows : List (List ℕ) = c.mark_all.new.rows.items in
    let told : c.in_ok-told.told ≡ set_of c.args.list.now =
    c.in_ok-told.ensures ∙ (λ k. pairs_in_rows (sym c.as_slice.ensures.value k) rows)
    ∙ marked_are ps c.in_ok-rows.rows.items rows c.args.list.now (c.in_ok-mark_all.ensures.marked c.if-not-branch.false) c.in_ok-rows.ensures.none in
    IfOk-weaker c.are_same.result _ _ (λ b same. subst (λ (s : Memberships). IsTrue b ↔ (s ≡ c.args.self.now)) told same) c.are_same.ensures
