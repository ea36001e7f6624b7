-- What was read and written, piece after piece.
use Rattle.std.proofs.Common.{ℕ, List, [], ◌++◌, refl, sym, ap, ◌∙◌, append-nil, append_assoc}
use Rattle.std.specs.Prelude.{Option, Some, None}
use Rattle.std.specs.Io.KnownBytes.{Appends, Consumes, Keeps}
use Rattle.book_desk_asking.specs.Replies.{BeginsWith}

pub consumes_none : (a : Option (List ℕ)) → Consumes a a []
consumes_none None = tt
consumes_none (Some xs) = refl

pub consumes_both : (a b c : Option (List ℕ)) (xs ys : List ℕ) → Consumes a b xs → Consumes b c ys → Consumes a c (xs ++ ys)
consumes_both None b c xs ys p q = tt
consumes_both (Some s) None c xs ys p q = absurd p
consumes_both (Some s) (Some t) None xs ys p q = absurd q
consumes_both (Some s) (Some t) (Some u) xs ys p q = p ∙ ap (λ (z : List ℕ). xs ++ z) q ∙ sym (append_assoc xs ys u)

pub appends_none : (a : Option (List ℕ)) → Appends a a []
appends_none None = tt
appends_none (Some xs) = sym (append-nil xs)

pub appends_both : (a b c : Option (List ℕ)) (xs ys : List ℕ) → Appends a b xs → Appends b c ys → Appends a c (xs ++ ys)
appends_both None b c xs ys p q = tt
appends_both (Some s) None c xs ys p q = absurd p
appends_both (Some s) (Some t) None xs ys p q = absurd q
appends_both (Some s) (Some t) (Some u) xs ys p q = q ∙ ap (λ (z : List ℕ). z ++ ys) p ∙ append_assoc s xs ys

pub appends_kept : (a b c : Option (List ℕ)) (xs : List ℕ) → Appends a b xs → Keeps b c → Appends a c xs
appends_kept None b c xs p q = tt
appends_kept (Some s) None c xs p q = absurd p
appends_kept (Some s) (Some t) None xs p q = absurd q
appends_kept (Some s) (Some t) (Some u) xs p q = q ∙ p

pub begins_with : (a b : Option (List ℕ)) (xs : List ℕ) → Consumes a b xs → BeginsWith a xs
begins_with None b xs p = tt
begins_with (Some s) None xs p = absurd p
begins_with (Some s) (Some t) xs p = (t, p)

pub begins_both : (a b : Option (List ℕ)) (xs ys : List ℕ) → Consumes a b xs → BeginsWith b ys → BeginsWith a (xs ++ ys)
begins_both None b xs ys p q = tt
begins_both (Some s) None xs ys p q = absurd p
begins_both (Some s) (Some t) xs ys p q = (q.0, p ∙ ap (λ (z : List ℕ). xs ++ z) q.1 ∙ sym (append_assoc xs ys q.0))
