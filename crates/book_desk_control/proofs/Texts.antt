-- Lists of texts that have one.
use Rattle.std.proofs.Common.{◌≡◌, ◌<◌, List, [], ◌∷◌, length, arith, refl}
use Rattle.serde_json.specs.View.{items_view}
use Rattle.serde_json.specs.declared.value.Value.{Value}
use Rattle.book_desk_control.specs.Words.{some_texts, texts_after}

pub some_texts_of : (items : List Value) → 0 < length items → texts_after [] (items_view items) ≡ some_texts (items_view items)
some_texts_of [] e = absurd (omega (arith, e))
some_texts_of (v ∷ vs) e = refl
