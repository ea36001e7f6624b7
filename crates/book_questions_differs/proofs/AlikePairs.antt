-- Cards are alike exactly where their owners and own lists are equal in both Offices.
use Rattle.book_questions_differs.proofs.Common.{◌≡◌, ◌∙◌, Bool, true, false, Option, Some, None, ap, refl, sym}
use Rattle.std.proofs.Common.{◌&&◌}
use Rattle.std.proofs.lemmas.Bool.{false≢true}
use Rattle.std.specs.Bool.{Decides}
use Rattle.book_office.specs.declared.nodes.Listed.{Listed}
use Rattle.book_questions_rights.proofs.Alike.{alike_decides}
use Rattle.book_questions_differs.specs.Pairs.{AreAlike, IsAlikeIn, are_alike, is_alike_in}
use Rattle.book_questions_differs.specs.declared.pairs.CardPair.{CardPair}

both : (a b : Bool) → (a && b) ≡ true → (a ≡ true) × (b ≡ true)
both true b h = (refl, h)
both false b h = absurd (false≢true h)

each : (a b : Bool) → a ≡ true → b ≡ true → (a && b) ≡ true
each a b p q = ap (λ x. x && b) p ∙ q

-- ---- in one Office
decides_in : (a b : Option Listed) → Decides (is_alike_in a b) (IsAlikeIn a b)
decides_in None None = (λ h. tt, λ h. refl)
decides_in None (Some y) = (λ h. absurd (false≢true h), λ h. absurd h)
decides_in (Some x) None = (λ h. absurd (false≢true h), λ h. absurd h)
decides_in (Some x) (Some y) = alike_decides x y

itself_in : (a : Option Listed) → IsAlikeIn a a
itself_in None = tt
itself_in (Some x) = record { owner = refl; own = refl }

turned_in : (a b : Option Listed) → IsAlikeIn a b → IsAlikeIn b a
turned_in None None h = tt
turned_in None (Some y) h = absurd h
turned_in (Some x) None h = absurd h
turned_in (Some x) (Some y) h = record { owner = sym h.owner; own = sym h.own }

through_in : (a b c : Option Listed) → IsAlikeIn a b → IsAlikeIn b c → IsAlikeIn a c
through_in None None None h k = tt
through_in None None (Some z) h k = absurd k
through_in None (Some y) c h k = absurd h
through_in (Some x) None c h k = absurd h
through_in (Some x) (Some y) None h k = absurd k
through_in (Some x) (Some y) (Some z) h k = record { owner = h.owner ∙ k.owner; own = h.own ∙ k.own }

-- ---- in both
pub pairs_decide : (pair other : CardPair) → Decides (are_alike pair other) (AreAlike pair other)
pairs_decide pair other = (
  λ h.
      let t = both _ _ h in
      record { before = (decides_in pair.before other.before).0 t.0; after = (decides_in pair.after other.after).0 t.1 },
  λ same. each _ _ ((decides_in pair.before other.before).1 same.before) ((decides_in pair.after other.after).1 same.after),
)

pub itself : (pair : CardPair) → AreAlike pair pair
itself pair = record { before = itself_in pair.before; after = itself_in pair.after }

pub turned : (a b : CardPair) → AreAlike a b → AreAlike b a
turned a b h = record { before = turned_in a.before b.before h.before; after = turned_in a.after b.after h.after }

pub through : (a b c : CardPair) → AreAlike a b → AreAlike b c → AreAlike a c
through a b c h k = record { before = through_in a.before b.before c.before h.before k.before; after = through_in a.after b.after c.after h.after k.after }
