use Rattle.book_office_members.proofs.Common.{◌≡◌, ◌∙◌, ◌||◌, ap, has_path, path_cmp, refl, true}
use Rattle.std.proofs.Common.{Bool, false}
use Rattle.std.specs.FinSet as set
use Rattle.book_office_members.proofs.members.set_of.Goals as goal

pub returns : goal.returns
returns c = λ q.
    c.in_ok-insert_all.ensures q
    ∙ ap (λ b. has_path c.args.texts.now q || b) (ap (λ s. set.contains s q) c.new-set.ensures ∙ set.contains-empty path_cmp q)
    ∙ or_false (has_path c.args.texts.now q)
  where
    or_false : (b : Bool) → (b || false) ≡ b
    or_false true = refl
    or_false false = refl
