-- Lines of paths, one after the other.
use Rattle.book_dumps.proofs.Common.{◌≡◌, List, [], ◌∷◌, ◌++◌, sym, ap, ◌∙◌, append-nil, Office, Path}
use Rattle.std.specs.List.{flat_map}
use Rattle.std.proofs.lemmas.List.Concat.{flat_map-append}
use Rattle.book_dumps.specs.Dumps.{lines_at, paths_in}
use Rattle.book_dumps.specs.Told.{texts_at}
use Rattle.book_dumps.specs.declared.places.Place.{Place}

pub lines_both : (o : Office) (ps qs : List Path) → lines_at o ps ++ lines_at o qs ≡ lines_at o (ps ++ qs)
lines_both o ps qs = sym (flat_map-append (texts_at o) ps qs)

pub lines_more : (o : Office) (ps : List Path) (p : Path) → lines_at o ps ++ texts_at o p ≡ lines_at o (ps ++ p ∷ [])
lines_more o ps p = ap (λ l. lines_at o ps ++ l) (sym (append-nil (texts_at o p))) ∙ lines_both o ps (p ∷ [])

pub lines_more_all : (o : Office) (ps qs : List Path) → lines_at o ps ++ lines_at o qs ≡ lines_at o (ps ++ qs)
lines_more_all o ps qs = lines_both o ps qs

pub places_more_all : (o : Office) (ps qs : List Place) → lines_at o (flat_map (paths_in o) ps) ++ lines_at o (flat_map (paths_in o) qs) ≡ lines_at o (flat_map (paths_in o) (ps ++ qs))
places_more_all o ps qs = lines_both o (flat_map (paths_in o) ps) (flat_map (paths_in o) qs) ∙ ap (lines_at o) (sym (flat_map-append (paths_in o) ps qs))

pub places_more : (o : Office) (ps : List Place) (p : Place) → lines_at o (flat_map (paths_in o) ps) ++ lines_at o (paths_in o p) ≡ lines_at o (flat_map (paths_in o) (ps ++ p ∷ []))
places_more o ps p =
    ap (λ l. lines_at o (flat_map (paths_in o) ps) ++ lines_at o l) (sym (append-nil (paths_in o p))) ∙ places_more_all o ps (p ∷ [])
