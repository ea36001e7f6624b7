use Rattle.std.proofs.Common.{ℕ, List, inl, refl, subst, ◌∙◌}
use Rattle.std.specs.Io.KnownBytes.{Appends}
use Rattle.book_desk_denials.proofs.denying.run_denials.Goals as goal

pub returns-then-is_written-clause-ends : goal.returns-then-is_written-clause-ends
returns-then-is_written-clause-ends g c =
    let P : List ℕ → Type 0 = λ t. Appends (g.W.Write.contents c.args.writer.now) (g.W.Write.contents c.is_written.new.writer) t in
    inl (refl, (c.in-Ok.groups, c.in-Ok.ensures.counted, subst P (c.as_str.ensures.value ∙ c.in-Ok-text_of.ensures) (c.if-is_written.ensures refl)))
