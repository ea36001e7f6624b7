-- Where direct memberships become others, chains change only to those below a principal whose direct groups become others; and of these, chains of
-- the pairs near them are all.
use Rattle.std.proofs.Common.{◌≡◌, inl, inr, ◌⊎◌, ℕ, Bool, true, false, not, ◌&&◌, ◌||◌, List, [], ◌∷◌, refl, sym, ap, subst, ◌∙◌, true≢false}
use Rattle.std.proofs.lemmas.Bool.{and_parts, or_cases}
use Rattle.std.specs.FinSet as set
use Rattle.std.specs.Str.{bytes_eq}
use Rattle.book_lists.proofs.Pairing.{same_path}
use Rattle.book_lists.specs.Circles.{has_path}
use Rattle.book_lists.specs.Memberships.{Memberships, Chain, Descends, IsDirect}
use Rattle.book_office.specs.Edits.{members_set}
use Rattle.book_tables_rows.specs.Writes.{Pair}
use Rattle.book_tables.specs.Nearby.{IsBelow, IsNear, HasNearby}
use Rattle.book_tables.specs.Reach.{Renews, RenewsNearby, is_among}
use Rattle.book_tables.specs.declared.searching.Search.{Search}
use Rattle.book_tables.proofs.NearbyPairs.{in_set}

-- ---- chains to the others are the same

module _ (old new : Memberships) (below : List ℕ → Bool) (is : IsBelow old new below) where
  ends_below : (a p : List ℕ) (xs : List (List ℕ)) → below a ≡ true → Descends old a xs p → below p ≡ true
  ends_below a p [] b same = subst (λ q. below q ≡ true) same b
  ends_below a p (x ∷ xs) b down = ends_below x p xs (is.closed a x down.0 b) down.1

  never : (x p : List ℕ) (xs : List (List ℕ)) → below p ≡ false → Descends old x xs p → below x ≡ true → ⊥
  never x p xs apart down b = true≢false (sym (ends_below x p xs b down) ∙ apart)

  to_new : (a p : List ℕ) (xs : List (List ℕ)) → below p ≡ false → Descends old a xs p → Descends new a xs p
  to_new a p [] apart same = same
  to_new a p (x ∷ xs) apart down = (
    elim (is.changed (record { group = a; member = x })) [
      | inl same ↦ sym same ∙ down.0
      | inr b ↦ absurd (never x p xs apart down.1 b)
    ],
    to_new x p xs apart down.1,
  )

  to_old : (a p : List ℕ) (xs : List (List ℕ)) → below p ≡ false → Descends new a xs p → Descends old a xs p
  to_old a p [] apart same = same
  to_old a p (x ∷ xs) apart down =
      let rest = to_old x p xs apart down.1 in (
        elim (is.changed (record { group = a; member = x })) [
          | inl same ↦ same ∙ down.0
          | inr b ↦ absurd (never x p xs apart rest b)
        ],
        rest,
      )

  pub same_new : (a p : List ℕ) → below p ≡ false → Chain old p a → Chain new p a
  same_new a p apart chain = (chain.0, chain.1, to_new a p (chain.0 ∷ chain.1) apart chain.2)

  pub same_old : (a p : List ℕ) → below p ≡ false → Chain new p a → Chain old p a
  same_old a p apart chain = (chain.0, chain.1, to_old a p (chain.0 ∷ chain.1) apart chain.2)

-- ---- chains of the pairs near some principals

module _ (pairs : Memberships) (met : List ℕ → Bool) (near : Memberships) (is : IsNear pairs met near) where
  met_above : (a p : List ℕ) (xs : List (List ℕ)) → Descends pairs a xs p → met p ≡ true → met a ≡ true
  met_above a p [] same m = subst (λ q. met q ≡ true) (sym same) m
  met_above a p (x ∷ xs) down m = is.closed a x down.0 (met_above x p xs down.1 m)

  to_near : (a p : List ℕ) (xs : List (List ℕ)) → met p ≡ true → Descends pairs a xs p → Descends near a xs p
  to_near a p [] m same = same
  to_near a p (x ∷ xs) m down = (
    is.are (record { group = a; member = x }) ∙ (λ i. down.0 i && met_above x p xs down.1 m i),
    to_near x p xs m down.1,
  )

  from_near : (a p : List ℕ) (xs : List (List ℕ)) → Descends near a xs p → Descends pairs a xs p
  from_near a p [] same = same
  from_near a p (x ∷ xs) down = (
    (and_parts _ _ (sym (is.are (record { group = a; member = x })) ∙ down.0)).0,
    from_near x p xs down.1,
  )

  pub near_chain : (a p : List ℕ) → met p ≡ true → Chain pairs p a → Chain near p a
  near_chain a p m chain = (chain.0, chain.1, to_near a p (chain.0 ∷ chain.1) m chain.2)

  pub all_chain : (a p : List ℕ) → Chain near p a → Chain pairs p a
  all_chain a p chain = (chain.0, chain.1, from_near a p (chain.0 ∷ chain.1) chain.2)

  ends_met : (a x p : List ℕ) (xs : List (List ℕ)) → IsDirect near a x → Descends near x xs p → met p ≡ true
  ends_met a x p [] one same = subst (λ q. met q ≡ true) same (and_parts _ _ (sym (is.are (record { group = a; member = x })) ∙ one)).1
  ends_met a x p (y ∷ ys) one down = ends_met x y p ys down.0 down.1

  pub chain_met : (a p : List ℕ) → Chain near p a → met p ≡ true
  chain_met a p chain = ends_met a chain.0 p chain.1 chain.2.0 chain.2.1

-- ---- what goes and comes

module _ (old new near_old near_new : Memberships) (below met : List ℕ → Bool) (is : IsBelow old new below) (before : IsNear old met near_old) (after : IsNear new met near_new)
    (are_met : (p : List ℕ) → below p ≡ true → met p ≡ true) where
  not_below : (p : List ℕ) → met p ≡ false → below p ≡ false
  not_below p apart = go (below p) refl
    where
      go : (b : Bool) → below p ≡ b → below p ≡ false
      go true e = absurd (true≢false (sym (are_met p e) ∙ apart))
      go false e = e

  pub renews_near : (gone come : List Pair) → Renews near_old near_new gone come → Renews old new gone come
  renews_near gone come renews = record {
    gone_are = λ m. by (met m.member) refl (λ _. (is_among gone m ≡ true → Chain old m.member m.group × (Chain new m.member m.group → ⊥)) × (Chain old m.member m.group × (Chain new m.member m.group → ⊥) → is_among gone m ≡ true))
        (λ here. (
          λ among. let both = (renews.gone_are m).0 among in (all_chain old met near_old before m.group m.member both.0, λ chain. both.1 (near_chain new met near_new after m.group m.member here chain)),
          λ both. (renews.gone_are m).1 (near_chain old met near_old before m.group m.member here both.0, λ chain. both.1 (all_chain new met near_new after m.group m.member chain)),
        ))
        (λ apart. (
          λ among. absurd (true≢false (sym (chain_met old met near_old before m.group m.member ((renews.gone_are m).0 among).0) ∙ apart)),
          λ both. absurd (both.1 (same_new old new below is m.group m.member (not_below m.member apart) both.0)),
        ));
    come_are = λ m. by (met m.member) refl (λ _. (is_among come m ≡ true → Chain new m.member m.group × (Chain old m.member m.group → ⊥)) × (Chain new m.member m.group × (Chain old m.member m.group → ⊥) → is_among come m ≡ true))
        (λ here. (
          λ among. let both = (renews.come_are m).0 among in (all_chain new met near_new after m.group m.member both.0, λ chain. both.1 (near_chain old met near_old before m.group m.member here chain)),
          λ both. (renews.come_are m).1 (near_chain new met near_new after m.group m.member here both.0, λ chain. both.1 (all_chain old met near_old before m.group m.member chain)),
        ))
        (λ apart. (
          λ among. absurd (true≢false (sym (chain_met new met near_new after m.group m.member ((renews.come_are m).0 among).0) ∙ apart)),
          λ both. absurd (both.1 (same_old old new below is m.group m.member (not_below m.member apart) both.0)),
        ));
    stays = λ m chain. by (met m.member) refl (λ _. (is_among gone m ≡ true) ⊎ Chain new m.member m.group)
        (λ here. elim (renews.stays m (near_chain old met near_old before m.group m.member here chain)) [
          | inl goes ↦ inl goes
          | inr still ↦ inr (all_chain new met near_new after m.group m.member still)
        ])
        (λ apart. inr (same_new old new below is m.group m.member (not_below m.member apart) chain));
  }
    where
      by : (b : Bool) {a : Bool} → a ≡ b → (P : Bool → Type 0) → (a ≡ true → P b) → (a ≡ false → P b) → P b
      by true e P t f = t e
      by false e P t f = f e

-- what goes and comes of those is all that goes and comes
module _ (pairs : Memberships) (group : List ℕ) (members : List (List ℕ)) (s : Search) (has : HasNearby pairs group members s) (gone come : List Pair) (near : RenewsNearby s group members gone come) where
  swapped : (p t e h : Bool) → (((p && t) && not e) || (e && (h && t))) ≡ (((p && not e) || (e && h)) && t)
  swapped true true e h = both e h
    where
      both : (e h : Bool) → (not e || (e && (h && true))) ≡ ((not e || (e && h)) && true)
      both true true = refl
      both true false = refl
      both false h = refl
  swapped true false true true = refl
  swapped true false true false = refl
  swapped true false false h = refl
  swapped false t true h = refl
  swapped false t false h = refl

  near_after : IsNear (members_set pairs group members) (λ p. set.contains s.met p) (members_set s.pairs group near.kept)
  near_after = record {
    are = λ m.
        in_set group s.pairs near.kept m
        ∙ (λ i. (has.near.are m i && not (bytes_eq m.group group)) || (bytes_eq m.group group && near.are m.member i))
        ∙ swapped (set.contains pairs m) (set.contains s.met m.member) (bytes_eq m.group group) (has_path members m.member)
        ∙ ap (λ b. b && set.contains s.met m.member) (sym (in_set group pairs members m));
    closed = λ g p direct there.
        let old = set.contains pairs (record { group = g; member = p }) in
        let other = not (bytes_eq g group) in
        let new = has_path members p in
        elim (or_cases (old && other) (bytes_eq g group && new) (sym (in_set group pairs members (record { group = g; member = p })) ∙ direct)) [
          | inl was ↦ has.near.closed g p (and_parts old other was).0 there
          | inr now ↦ subst (λ q. set.contains s.met q ≡ true) (sym (same_path g group (and_parts (bytes_eq g group) new now).0)) has.group_met
        ];
  }

  pub renews_all : Renews pairs (members_set pairs group members) gone come
  renews_all = renews_near pairs (members_set pairs group members) s.pairs (members_set s.pairs group near.kept) has.below (λ p. set.contains s.met p) has.is_below has.near near_after has.are_met gone come near.renews
