-- The unfolded text is the one that the relation gives.
use Rattle.book_cards.proofs.Common.{◌≡◌, ℕ, Bool, true, false, ◌||◌, cond, List, [], ◌∷◌, ◌++◌, refl, ap, sym, ◌∙◌, eqb, is_blank, unfolded}
use Rattle.std.proofs.Common.{inl, inr}
use Rattle.std.proofs.lemmas.Bool.{and_parts, or_from}
use Rattle.book_cards.specs.Folding.{is_fold, is_crlf_fold, IsFold, BeginsNoFold, Unfolds, ended, left_out, kept}
use Rattle.book_cards.proofs.Folds.{begins_fold, keep, crlf_fold, feed_fold, eqb_is}

-- two bytes, or three, that are a fold
lf_is_fold : (a b : ℕ) → is_fold a b ≡ true → IsFold (a ∷ b ∷ [])
lf_is_fold a b e =
    let parts = and_parts (eqb a 10) (is_blank b) e in (b, parts.1, inr (ap (λ (x : ℕ). x ∷ b ∷ []) (eqb_is a 10 parts.0)))

crlf_is_fold : (a b c : ℕ) → is_crlf_fold a b c ≡ true → IsFold (a ∷ b ∷ c ∷ [])
crlf_is_fold a b c e =
    let parts = and_parts (eqb a 13) (is_fold b c) e in
    let more = and_parts (eqb b 10) (is_blank c) parts.1 in
    (c, more.1, inl (ap (λ (x : ℕ). x ∷ b ∷ c ∷ []) (eqb_is a 13 parts.0) ∙ ap (λ (x : ℕ). 13 ∷ x ∷ c ∷ []) (eqb_is b 10 more.0)))

-- a fold that stands at the front is seen there
seen : (text fold rest : List ℕ) → IsFold fold → text ≡ fold ++ rest → begins_fold text ≡ true
seen text fold rest (b, blank, inl is) e = ap begins_fold (e ∙ ap (λ f. f ++ rest) is) ∙ ap (λ t. t || is_fold 13 10) blank
seen text fold rest (b, blank, inr is) e = ap begins_fold (e ∙ ap (λ f. f ++ rest) is) ∙ front rest
  where
    front : (r : List ℕ) → begins_fold (10 ∷ b ∷ r) ≡ true
    front [] = blank
    front (c ∷ r) = blank

none_begins : (text : List ℕ) → begins_fold text ≡ false → BeginsNoFold text
none_begins text e fold rest is at = let yes = seen text fold rest is at in cc

pub relates : (text : List ℕ) → Unfolds text (unfolded text)
relates [] = ended
relates (a ∷ []) = kept a [] [] (none_begins (a ∷ []) refl) ended
relates (a ∷ b ∷ []) = here (is_fold a b) refl (relates (b ∷ []))
  where
    here : (t : Bool) → is_fold a b ≡ t → Unfolds (b ∷ []) (b ∷ []) → Unfolds (a ∷ b ∷ []) (cond t [] (a ∷ b ∷ []))
    here true e later = left_out (a ∷ b ∷ []) [] [] (lf_is_fold a b e) ended
    here false e later = kept a (b ∷ []) (b ∷ []) (none_begins (a ∷ b ∷ []) e) later
relates (a ∷ b ∷ c ∷ rest) = here (is_crlf_fold a b c) refl (is_fold a b) refl (relates rest) (relates (c ∷ rest)) (relates (b ∷ c ∷ rest))
  where
    here : (s : Bool) → is_crlf_fold a b c ≡ s → (t : Bool) → is_fold a b ≡ t → Unfolds rest (unfolded rest) → Unfolds (c ∷ rest) (unfolded (c ∷ rest)) → Unfolds (b ∷ c ∷ rest) (unfolded (b ∷ c ∷ rest))
        → Unfolds (a ∷ b ∷ c ∷ rest) (cond s (unfolded rest) (cond t (unfolded (c ∷ rest)) (a ∷ unfolded (b ∷ c ∷ rest))))
    here true e t h r1 r2 r3 = left_out (a ∷ b ∷ c ∷ []) rest (unfolded rest) (crlf_is_fold a b c e) r1
    here false e true h r1 r2 r3 = left_out (a ∷ b ∷ []) (c ∷ rest) (unfolded (c ∷ rest)) (lf_is_fold a b h) r2
    here false e false h r1 r2 r3 =
        kept a (b ∷ c ∷ rest) (unfolded (b ∷ c ∷ rest)) (none_begins (a ∷ b ∷ c ∷ rest) (or_from (is_crlf_fold a b c) (is_fold a b) e h)) r3

-- without a fold at the front, none is seen
unseen : (text : List ℕ) → BeginsNoFold text → begins_fold text ≡ false
unseen [] h = refl
unseen (a ∷ []) h = refl
unseen (a ∷ b ∷ []) h = here (is_fold a b) refl
  where
    here : (t : Bool) → is_fold a b ≡ t → is_fold a b ≡ false
    here true e = absurd (h (a ∷ b ∷ []) [] (lf_is_fold a b e) refl)
    here false e = e
unseen (a ∷ b ∷ c ∷ rest) h = here (is_crlf_fold a b c) refl (is_fold a b) refl
  where
    here : (s : Bool) → is_crlf_fold a b c ≡ s → (t : Bool) → is_fold a b ≡ t → (is_crlf_fold a b c || is_fold a b) ≡ false
    here true e t k = absurd (h (a ∷ b ∷ c ∷ []) rest (crlf_is_fold a b c e) refl)
    here false e true k = absurd (h (a ∷ b ∷ []) (c ∷ rest) (lf_is_fold a b k) refl)
    here false e false k = or_from (is_crlf_fold a b c) (is_fold a b) e k

skipped : (fold text : List ℕ) → IsFold fold → unfolded (fold ++ text) ≡ unfolded text
skipped fold text (b, blank, inl is) = ap (λ f. unfolded (f ++ text)) is ∙ crlf_fold [] text b tt blank
skipped fold text (b, blank, inr is) = ap (λ f. unfolded (f ++ text)) is ∙ feed_fold text b blank

pub related : (text whole : List ℕ) → Unfolds text whole → whole ≡ unfolded text
related _ _ ended = refl
related _ _ (left_out fold text whole is later) = related text whole later ∙ sym (skipped fold text is)
related _ _ (kept b text whole none later) = ap (λ t. b ∷ t) (related text whole later) ∙ sym (keep b text (unseen (b ∷ text) none))
