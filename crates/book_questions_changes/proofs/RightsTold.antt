-- No right is told exactly where both Offices grant the same.
use Rattle.book_questions_changes.proofs.Common.{◌≡◌, ◌++◌, ◌∷◌, ◌∙◌, [], ℕ, Bool, true, false, List, Option, Some, None, ap, codes, flat_map, map, refl, subst, sym, Block, Office}
use Rattle.std.proofs.Common.{◌↔◌, ◌⊎◌, ◌&&◌, inl, inr, not, option_map}
use Rattle.std.specs.Prelude.{if◌then◌else◌}
use Rattle.std.specs.FinMap.{entries}
use Rattle.std.proofs.lemmas.Bool.{false≢true}
use Rattle.book_rights.specs.Leaves.{no_leaf, same_leaves, same_leaves-decides}
use Rattle.book_rights.specs.declared.privileges.Leaf.{Leaf}
use Rattle.book_lists.specs.declared.circles.Caller.{Caller}
use Rattle.book_lists_explain.specs.Answers.{spaced}
use Rattle.book_lists_explain.specs.ShortNames.{short_list}
use Rattle.book_office.specs.Resources.{Resource, as_listed, resource_at}
use Rattle.book_office.specs.Sound.{IsSound}
use Rattle.book_office.specs.declared.nodes.Listed.{Listed}
use Rattle.book_office_audit.specs.Audits.{in_order}
use Rattle.book_office_values.specs.Paths.{path_text}
use Rattle.book_office_values.specs.declared.paths.Path.{Path}
use Rattle.book_office_values.specs.declared.paths.Path.TheVariants as path
use Rattle.book_questions.specs.Who.{caller_text}
use Rattle.book_questions_rights.proofs.Elements.{Mem, mem_of, mem_of_flat, mem_of_map}
use Rattle.book_questions_rights.specs.Lines.{line}
use Rattle.book_questions_rights.specs.Places.{cards_of, is_itself}
use Rattle.book_questions_differs.proofs.EachTold.{class_of, each_is_told, in_either}
use Rattle.book_questions_differs.proofs.Everybody.{everybody_is_asked}
use Rattle.book_questions_differs.proofs.Holding.{IsForceAt, card_force_at, classes_tell, force_at, held_tells}
use Rattle.book_questions_differs.proofs.Pairing.{none_paired, pair_at}
use Rattle.book_questions_differs.specs.Differences.{IsDifferences, blocks_at, blocks_of}
use Rattle.book_questions_differs.specs.Forces.{card_force_in, force_in}
use Rattle.book_questions_differs.specs.Laws.{Holds, IsInEither, IsSeen, classes_at}
use Rattle.book_questions_differs.specs.Lines.{class_block, class_head, gained, lines_at, lost, own_block, party_lines, spot_with}
use Rattle.book_questions_differs.specs.Pairs.{PairClass, classes_of, paired}
use Rattle.book_questions_differs.specs.Parties.{AreParties, IsParty, everybody}
use Rattle.book_questions_differs.specs.Places.{found_at, paths_of_either, side_at}
use Rattle.book_questions_differs.specs.declared.forces.Force.{Force}
use Rattle.book_questions_differs.specs.declared.pairs.CardPair.{CardPair}
use Rattle.book_questions_differs.specs.declared.parties.Party.{Party}
use Rattle.book_questions_differs.specs.declared.places.Spot.{Spot}
use Rattle.book_questions_changes.proofs.Texts.{parts_nothing, tells_nothing, told_nothing}

-- ---- a line
no_line : (head : List ℕ) (caller : Caller) (set : Leaf → Bool) → set ≡ no_leaf → line head caller set ≡ []
no_line head caller set e = go (same_leaves set no_leaf) ((same_leaves-decides set no_leaf).1 e) (head ++ (codes " " ++ (caller_text caller ++ (flat_map spaced (short_list set) ++ codes "\n"))))
  where
    go : (b : Bool) → b ≡ true → (told : List ℕ) → (if b then [] else told) ≡ []
    go true is told = refl
    go false is told = absurd (false≢true is)

line_of_none : (x : ℕ) (head : List ℕ) (caller : Caller) (set : Leaf → Bool) → line (x ∷ head) caller set ≡ [] → set ≡ no_leaf
line_of_none x head caller set e =
    (same_leaves-decides set no_leaf).0 (go (same_leaves set no_leaf) (head ++ (codes " " ++ (caller_text caller ++ (flat_map spaced (short_list set) ++ codes "\n")))) e)
  where
    go : (b : Bool) (rest : List ℕ) → (if b then [] else x ∷ rest) ≡ [] → b ≡ true
    go true rest e = refl
    go false rest e = absurd cc

-- ---- what is held before and not after
none_lost : (a b : Bool) (A B : Type 0) → (a ≡ true) ↔ A → (b ≡ true) ↔ B → (A → B) → (a && not b) ≡ false
none_lost false b A B f g h = refl
none_lost true true A B f g h = refl
none_lost true false A B f g h = absurd (false≢true (g.1 (h (f.0 refl))))

also_held : (a b : Bool) (A B : Type 0) → (a ≡ true) ↔ A → (b ≡ true) ↔ B → (a && not b) ≡ false → A → B
also_held false b A B f g none x = absurd (false≢true (f.1 x))
also_held true true A B f g none x = g.0 refl
also_held true false A B f g none x = absurd (false≢true (sym none))

itself_or_card : (at : Path) → (is_itself at ≡ true) ⊎ ((b : List ℕ) × (c : List ℕ) × (at ≡ path.Card b c))
itself_or_card path.Root = inl refl
itself_or_card path.People = inl refl
itself_or_card path.Groups = inl refl
itself_or_card path.Books = inl refl
itself_or_card (path.Person n) = inl refl
itself_or_card (path.Group n) = inl refl
itself_or_card (path.Book b) = inl refl
itself_or_card (path.Card b c) = inr (b, c, refl)

-- what an Office has is as it is listed
seen_itself : (c : List ℕ) (r : Option Resource) (card : Option Listed) → card ≡ option_map (as_listed c) r → IsSeen card r
seen_itself c None card e = subst (λ x. IsSeen x None) (sym e) tt
seen_itself c (Some r) card e = subst (λ x. IsSeen x (Some r)) (sym e) (refl, refl)

module _ (o p : Office) where
  abbrev spot : Path → Spot
  spot q = spot_with q (side_at o q) (side_at p q)

  -- ---- where both grant the same, no line is told
  module _ (alike : (name : Option (List ℕ)) (at : Path) (leaf : Leaf) → Holds o name at leaf ↔ Holds p name at leaf) where
    party_nothing : (head : List ℕ) (at : Path) (before after : Option Force) → IsForceAt o at before → IsForceAt p at after
        → (name : Option (List ℕ)) (party : Party) → IsParty o p name party → party_lines head before after party ≡ []
    party_nothing head at before after was is name party known =
        let first : lost before after party ≡ no_leaf = λ i leaf.
        none_lost _ _ _ _ (held_tells o name at leaf before party.before was known.before) (held_tells p name at leaf after party.after is known.after) (alike name at leaf).0 i in
        let last : gained before after party ≡ no_leaf = λ i leaf.
        none_lost _ _ _ _ (held_tells p name at leaf after party.after is known.after) (held_tells o name at leaf before party.before was known.before) (alike name at leaf).1 i in
        λ i. no_line (codes "lost " ++ head) party.caller (lost before after party) first i ++ no_line (codes "gained " ++ head) party.caller (gained before after party) last i

    lines_nothing : (head : List ℕ) (at : Path) (before after : Option Force) → IsForceAt o at before → IsForceAt p at after
        → (names : List (Option (List ℕ))) (parties : List Party) → AreParties o p names parties → lines_at head before after parties ≡ []
    lines_nothing head at before after was is names [] are = refl
    lines_nothing head at before after was is [] (party ∷ parties) are = absurd are
    lines_nothing head at before after was is (name ∷ names) (party ∷ parties) are =
        λ i. party_nothing head at before after was is name party are.0 i ++ lines_nothing head at before after was is names parties are.1 i

    module _ (parties : List Party) (are : AreParties o p (everybody o p) parties) where
      own_nothing : (q : Path) → (own_block parties (spot q)).1 ≡ []
      own_nothing q = lines_nothing (path_text q) q (force_in (found_at o q)) (force_in (found_at p q)) (force_at o q) (force_at p q) (everybody o p) parties are

      class_nothing : (b : List ℕ) (class : PairClass) → Mem class (classes_at o p b) → (class_block parties (spot (path.Book b)) class).1 ≡ []
      class_nothing b class m =
          let c : List ℕ = class.pair.name in
          let pair : class.pair ≡ pair_at o p b c = (class_of o p b class m).0 in
          let was : IsSeen class.pair.before (resource_at o (path.Card b c)) = seen_itself c (resource_at o (path.Card b c)) class.pair.before (ap (λ (x : CardPair). x.before) pair) in
          let is : IsSeen class.pair.after (resource_at p (path.Card b c)) = seen_itself c (resource_at p (path.Card b c)) class.pair.after (ap (λ (x : CardPair). x.after) pair) in
          lines_nothing (class_head parties (spot (path.Book b)) class) (path.Card b c)
          (card_force_in (found_at o (path.Book b)) class.pair.before) (card_force_in (found_at p (path.Book b)) class.pair.after)
          (card_force_at o b c class.pair.before was) (card_force_at p b c class.pair.after is) (everybody o p) parties are

      no_class : (y : Block) (q : Path) → cards_of o q ≡ [] → cards_of p q ≡ [] → Mem y (map (class_block parties (spot q)) (classes_of (paired (cards_of o q) (cards_of p q)))) → y.1 ≡ []
      no_class y q was is m =
          let none : classes_of (paired (cards_of o q) (cards_of p q)) ≡ [] = (λ i. classes_of (paired (was i) (is i))) ∙ ap classes_of none_paired in
          absurd (subst (λ (k : List PairClass). Mem y (map (class_block parties (spot q)) k)) none m)

      classes_nothing : (y : Block) (q : Path) → Mem y (map (class_block parties (spot q)) (classes_of (paired (cards_of o q) (cards_of p q)))) → is_itself q ≡ true → y.1 ≡ []
      classes_nothing y path.Root m is = no_class y path.Root refl refl m
      classes_nothing y path.People m is = no_class y path.People refl refl m
      classes_nothing y path.Groups m is = no_class y path.Groups refl refl m
      classes_nothing y path.Books m is = no_class y path.Books refl refl m
      classes_nothing y (path.Person n) m is = no_class y (path.Person n) refl refl m
      classes_nothing y (path.Group n) m is = no_class y (path.Group n) refl refl m
      classes_nothing y (path.Book b) m is =
          let k = mem_of_map (class_block parties (spot (path.Book b))) y (classes_at o p b) m in
          ap (λ (x : Block). x.1) k.2 ∙ class_nothing b k.0 k.1
      classes_nothing y (path.Card b c) m is = absurd (false≢true is)

      each_nothing : (y : Block) → Mem y (blocks_of o p parties (paths_of_either o p)) → y.1 ≡ []
      each_nothing y m =
          let k = mem_of_flat (blocks_at o p parties) y (paths_of_either o p) m in
          elim k.2 [
            | inl is ↦ ap (λ (x : Block). x.1) is ∙ own_nothing k.0
            | inr h ↦ classes_nothing y k.0 h (in_either o p k.0 k.1).0
          ]

    pub no_rights : (text : List ℕ) → IsDifferences o p text → text ≡ []
    no_rights text (blocks, (parties, are, is), told) =
        told ∙ ap (λ m. flat_map (λ (b : Block). b.1) (entries m)) is ∙ tells_nothing (blocks_of o p parties (paths_of_either o p)) (each_nothing parties are)

  -- ---- where no line is told, both grant the same
  -- the lines of a caller who is asked about
  in_lines : (head : List ℕ) (before after : Option Force) (names : List (Option (List ℕ))) (parties : List Party) (name : Option (List ℕ)) → AreParties o p names parties → Mem name names
      → lines_at head before after parties ≡ [] → (party : Party) × IsParty o p name party × (party_lines head before after party ≡ [])
  in_lines head before after [] parties name are m e = absurd m
  in_lines head before after (n ∷ names) [] name are m e = absurd are
  in_lines head before after (n ∷ names) (party ∷ parties) name are m e =
      let k = parts_nothing (party_lines head before after party) (lines_at head before after parties) e in
      elim m [
        | inl is ↦ (party, subst (λ x. IsParty o p x party) (sym is) are.0, k.0)
        | inr r ↦ in_lines head before after names parties name are.1 r k.1
      ]

  module _ (parties : List Party) (are : AreParties o p (everybody o p) parties) where
    module _ (head : List ℕ) (at : Path) (before after : Option Force) (was : IsForceAt o at before) (is : IsForceAt p at after) (none : lines_at head before after parties ≡ []) where
      after_too : (name : Option (List ℕ)) (leaf : Leaf) → Holds o name at leaf → Holds p name at leaf
      after_too name leaf h =
          let m : Mem name (everybody o p) = mem_of name (everybody o p) ((everybody_is_asked o p name).1 (inl h.asked)) in
          let k = in_lines head before after (everybody o p) parties name are m none in
          let lines = parts_nothing (line (codes "lost " ++ head) k.0.caller (lost before after k.0)) (line (codes "gained " ++ head) k.0.caller (gained before after k.0)) k.2 in
          let nobody : lost before after k.0 ≡ no_leaf = line_of_none 108 (codes "ost " ++ head) k.0.caller (lost before after k.0) lines.0 in
          also_held _ _ _ _ (held_tells o name at leaf before k.0.before was k.1.before) (held_tells p name at leaf after k.0.after is k.1.after) (λ i. nobody i leaf) h

      before_too : (name : Option (List ℕ)) (leaf : Leaf) → Holds p name at leaf → Holds o name at leaf
      before_too name leaf h =
          let m : Mem name (everybody o p) = mem_of name (everybody o p) ((everybody_is_asked o p name).1 (inr h.asked)) in
          let k = in_lines head before after (everybody o p) parties name are m none in
          let lines = parts_nothing (line (codes "lost " ++ head) k.0.caller (lost before after k.0)) (line (codes "gained " ++ head) k.0.caller (gained before after k.0)) k.2 in
          let nobody : gained before after k.0 ≡ no_leaf = line_of_none 103 (codes "ained " ++ head) k.0.caller (gained before after k.0) lines.1 in
          also_held _ _ _ _ (held_tells p name at leaf after k.0.after is k.1.after) (held_tells o name at leaf before k.0.before was k.1.before) (λ i. nobody i leaf) h

    module _ (sound_o : IsSound o) (sound_p : IsSound p) (nothing : in_order (blocks_of o p parties (paths_of_either o p)) ≡ []) where
      abbrev AreAlikeAt : Path → Type 0
      AreAlikeAt at = (name : Option (List ℕ)) (leaf : Leaf) → (Holds o name at leaf → Holds p name at leaf) × (Holds p name at leaf → Holds o name at leaf)

      own_alike : (at : Path) → is_itself at ≡ true → IsInEither o p at → AreAlikeAt at
      own_alike at is h name leaf =
          let none = told_nothing (blocks_of o p parties (paths_of_either o p)) _ _ nothing ((each_is_told o p parties sound_o sound_p).resources at is h) in (
            after_too (path_text at) at (force_in (found_at o at)) (force_in (found_at p at)) (force_at o at) (force_at p at) none name leaf,
            before_too (path_text at) at (force_in (found_at o at)) (force_in (found_at p at)) (force_at o at) (force_at p at) none name leaf,
          )

      card_alike : (b c : List ℕ) → IsInEither o p (path.Card b c) → AreAlikeAt (path.Card b c)
      card_alike b c h name leaf =
          let k = classes_tell o p b c h in
          let class : PairClass = k.0 in
          let none = told_nothing (blocks_of o p parties (paths_of_either o p)) _ _ nothing ((each_is_told o p parties sound_o sound_p).classes b class k.1.among) in
          let before : Option Force = card_force_in (found_at o (path.Book b)) class.pair.before in
          let after : Option Force = card_force_in (found_at p (path.Book b)) class.pair.after in (
            after_too (class_head parties (spot (path.Book b)) class) (path.Card b c) before after (card_force_at o b c class.pair.before k.1.before) (card_force_at p b c class.pair.after k.1.after) none name leaf,
            before_too (class_head parties (spot (path.Book b)) class) (path.Card b c) before after (card_force_at o b c class.pair.before k.1.before) (card_force_at p b c class.pair.after k.1.after) none name leaf,
          )

      alike_at : (at : Path) → IsInEither o p at → AreAlikeAt at
      alike_at at h = elim (itself_or_card at) [
        | inl is ↦ own_alike at is h
        | inr k ↦ subst AreAlikeAt (sym k.2) (card_alike k.0 k.1 (subst (IsInEither o p) k.2 h))
      ]

  pub rights_alike : (text : List ℕ) → IsSound o → IsSound p → IsDifferences o p text → text ≡ []
      → (name : Option (List ℕ)) (at : Path) (leaf : Leaf) → Holds o name at leaf ↔ Holds p name at leaf
  rights_alike text sound_o sound_p (blocks, (parties, are, is), told) e name at leaf =
      let nothing : in_order (blocks_of o p parties (paths_of_either o p)) ≡ [] = sym (told ∙ ap (λ m. flat_map (λ (b : Block). b.1) (entries m)) is) ∙ e in (
        λ h. (alike_at parties are sound_o sound_p nothing at (inl h.mapped) name leaf).0 h,
        λ h. (alike_at parties are sound_o sound_p nothing at (inr h.mapped) name leaf).1 h,
      )
