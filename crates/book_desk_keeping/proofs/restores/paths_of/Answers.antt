use Rattle.std.proofs.Common.{◌≡◌, ◌∷◌, ◌++◌, ◌+◌, ℕ, [], List, map, take, sym, ap, ◌∙◌, subst, arith}
use Rattle.std.proofs.lemmas.List.{map-append, take_more}
use Rattle.std.specs.List.{AllZip}
use Rattle.std.specs.String.{string_bytes}
use Rattle.book_office_values.specs.Paths.{SpellsPath}
use Rattle.book_office_values.specs.declared.paths.Path.{Path}
use Rattle.book_desk_keeping.proofs.restores.paths_of.Goals as goal

zip_more : {A B : Type 0} (R : A → B → Type 0) (xs : List A) (ys : List B) (x : A) (y : B) → AllZip R xs ys → R x y → AllZip R (xs ++ x ∷ []) (ys ++ y ∷ [])
zip_more R [] [] x y all one = (one, tt)
zip_more R [] (b ∷ ys) x y all one = absurd all
zip_more R (a ∷ xs) [] x y all one = absurd all
zip_more R (a ∷ xs) (b ∷ ys) x y all one = (all.0, zip_more R xs ys x y all.1 one)

pub loop-text-preserved : goal.loop-text-preserved
loop-text-preserved c =
    let i = c.loop-text.text-index in
    let ts = c.args.texts.now in
    let t = c.text-item.result in
    let path = c.in_ok-path.path in
    let next : take (i + 1) ts ≡ take i ts ++ t ∷ [] = take_more ts i t (omega arith) ∙ ap (λ x. take i ts ++ x ∷ []) (sym c.text-item.is) in
    let texts : map string_bytes (take (i + 1) ts) ≡ map string_bytes (take i ts) ++ string_bytes t ∷ [] = ap (map string_bytes) next ∙ map-append string_bytes (take i ts) (t ∷ []) in
    let spelled : SpellsPath (string_bytes t) path = subst (λ (x : List ℕ). SpellsPath x path) c.as_str.ensures.value c.in_ok-path.ensures.spelled in
    let more = zip_more SpellsPath (map string_bytes (take i ts)) c.loop-text.paths (string_bytes t) path c.loop-text.invariant spelled in
    subst (λ (xs : List (List ℕ)). AllZip SpellsPath xs c.in_ok-paths.paths) (sym texts)
    (subst (λ (ps : List Path). AllZip SpellsPath (map string_bytes (take i ts) ++ string_bytes t ∷ []) ps) (sym c.in_ok-paths.ensures.more) more)
