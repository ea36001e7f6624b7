-- A dump tells each resource and nothing else, in byte order of the paths.
use Rattle.book_dumps.proofs.Common.{◌≡◌, ◌≢◌, inl, inr, List, [], ◌∷◌, refl, sym, ap, ◌∙◌, subst, Option, Some, None, Path}
use Rattle.book_office.proofs.StandingResources.{from_map}
use Rattle.book_office.specs.Resources.{Resource, resource_at}
use Rattle.book_office_values.proofs.OneName.{some_apart}
use Rattle.book_dumps.specs.Dumps.{lines_of, paths_of}
use Rattle.book_dumps.specs.Laws.{DumpsTellEveryResource, IsAmong, LinesAreDumped}
use Rattle.book_dumps.specs.Lines.{line_text}
use Rattle.book_dumps.specs.Told.{line_of, texts_at, texts_of}
use Rattle.book_dumps.specs.declared.lines.Line.{Line}
use Rattle.book_dumps.proofs.Among.{Mem, mem_flat, mem_right}
use Rattle.book_dumps.proofs.Everything.{path_among}
use Rattle.book_dumps.proofs.InByteOrder.{path_there, paths_rise}

among_of : {A : Type 0} (x : A) (xs : List A) → Mem x xs → IsAmong x xs
among_of x [] m = absurd m
among_of x (y ∷ xs) (inl e) = ([], xs, λ i. sym e i ∷ xs)
among_of x (y ∷ xs) (inr m) = let h = among_of x xs m in (y ∷ h.0, h.1, ap (λ rest. y ∷ rest) h.2)

mem_of : {A : Type 0} (x : A) (xs : List A) → IsAmong x xs → Mem x xs
mem_of x xs h = subst (Mem x) (sym h.2) (mem_right x h.0 (x ∷ h.1) (inl refl))

pub dumps_tell : DumpsTellEveryResource
dumps_tell o sound = record {
  each = λ p some. each p (resource_at o p) refl some;
  only = λ p h none. let r = path_there o sound p (mem_of p (paths_of o) h) in some_apart (sym r.1 ∙ none);
  order = paths_rise o sound;
}
  where
    each : (p : Path) (found : Option Resource) → resource_at o p ≡ found → resource_at o p ≢ None → IsAmong p (paths_of o)
    each p None at some = absurd (some at)
    each p (Some r) at some = among_of p (paths_of o) (path_among o sound p r at)

pub lines_dumped : LinesAreDumped
lines_dumped o p line sound e =
    from_map (line_of o p) (resource_at o p) line e (λ r at _.
    among_of (line_text line) (lines_of o)
    (inr (mem_flat (texts_at o) (line_text line) p (paths_of o) (path_among o sound p r at) (subst (λ (found : Option Line). Mem (line_text line) (texts_of found)) (sym e) (inl refl)))))
