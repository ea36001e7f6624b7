-- A question with one line more.
use Rattle.book_lists_explain.proofs.Common.{◌≡◌, ℕ, ◌+◌, ◌<◌, Bool, false, List, [], ◌∷◌, ◌++◌, length, Option, Some, None, refl, sym, ap, ◌∙◌, arith, append-nil, false≢true, filter_map, Leaf, Caller, Entry, Line, Memberships, set_of, IsQuestion, Fits, member_in}
use Rattle.std.proofs.Common.{is_some, length-append, Vec, Global}
use Rattle.std.proofs.lemmas.List.Elements.{filter_map-append}
use Rattle.std.specs.FinSet.{insert}
use Rattle.book_lists_explain.specs.declared.questions.Question.{Question}
use Rattle.book_lists.specs.declared.memberships.Membership.{Membership}
use Rattle.book_lists_explain.specs.declared.lines.Line.TheVariants as lines
use Rattle.std.specs.Prelude.{option_to_list}
use Rattle.book_lists_explain.specs.Questions.{caller_in, need_in, owner_in, here_in, entry_in}
use Rattle.book_lists.proofs.Pairing.{push_is_insert}

pub kept : {A : Type 0} (f : Line → Option A) (said : List Line) (line : Line) → filter_map f (line ∷ []) ≡ [] → filter_map f said ≡ filter_map f (said ++ line ∷ [])
kept f said line e = sym (filter_map-append f said (line ∷ []) ∙ ap (λ xs. filter_map f said ++ xs) e ∙ append-nil _)

pub added : {A : Type 0} (f : Line → Option A) (said : List Line) (line : Line) (x : A) → filter_map f (line ∷ []) ≡ x ∷ [] → filter_map f said ++ x ∷ [] ≡ filter_map f (said ++ line ∷ [])
added f said line x e = sym (filter_map-append f said (line ∷ []) ∙ ap (λ xs. filter_map f said ++ xs) e)

none_listed : {A : Type 0} (o : Option A) (b : Bool) → b ≡ is_some o → b ≡ false → option_to_list o ≡ []
none_listed None b e f = refl
none_listed (Some x) b e f = absurd (false≢true (sym f ∙ e))

module _ (said : List Line) (q : Question) (is : IsQuestion said q) where
  pub blank_taken : Fits said lines.Blank × IsQuestion (said ++ lines.Blank ∷ []) q
  blank_taken = (
    tt,
    record {
      pairs = is.pairs ∙ ap set_of (kept member_in said lines.Blank refl);
      members = is.members ∙ ap length (kept member_in said lines.Blank refl);
      caller = is.caller ∙ kept caller_in said lines.Blank refl;
      need = is.need ∙ kept need_in said lines.Blank refl;
      owner = is.owner ∙ kept owner_in said lines.Blank refl;
      here = is.here ∙ kept here_in said lines.Blank refl;
      entries = is.entries ∙ kept entry_in said lines.Blank refl;
    },
  )

  pub member_taken : (group member : List ℕ) (pairs : Memberships) → pairs ≡ insert q.pairs (record { group = group; member = member }) → q.members < 1000
      → Fits said (lines.Member group member) × IsQuestion (said ++ lines.Member group member ∷ []) (record q { pairs = pairs; members = q.members + 1 })
  member_taken group member pairs e lt =
      let line : Line = lines.Member group member in
      let pair : Membership = record { group = group; member = member } in
      let more = added member_in said line pair refl in
      let count : length (filter_map member_in said) + 1 ≡ length (filter_map member_in (said ++ line ∷ [])) = sym (length-append (filter_map member_in said) (pair ∷ [])) ∙ ap length more in
      let fits : length (filter_map member_in said) < 1000 = omega (arith, lt, is.members) in (
        fits,
        record {
          pairs = e ∙ ap (λ s. insert s pair) is.pairs ∙ sym (push_is_insert (filter_map member_in said) pair) ∙ ap set_of more;
          members = ap (λ n. n + 1) is.members ∙ count;
          caller = is.caller ∙ kept caller_in said line refl;
          need = is.need ∙ kept need_in said line refl;
          owner = is.owner ∙ kept owner_in said line refl;
          here = is.here ∙ kept here_in said line refl;
          entries = is.entries ∙ kept entry_in said line refl;
        },
      )

  pub caller_taken : (x : Caller) (b : Bool) → b ≡ is_some q.caller → b ≡ false → Fits said (lines.Asks x) × IsQuestion (said ++ lines.Asks x ∷ []) (record q { caller = Some x })
  caller_taken x b e f =
      let fits = sym is.caller ∙ none_listed q.caller b e f in (
        fits,
        record {
          pairs = is.pairs ∙ ap set_of (kept member_in said (lines.Asks x) refl);
          members = is.members ∙ ap length (kept member_in said (lines.Asks x) refl);
          caller = ap (λ xs. xs ++ x ∷ []) (sym fits) ∙ added caller_in said (lines.Asks x) x refl;
          need = is.need ∙ kept need_in said (lines.Asks x) refl;
          owner = is.owner ∙ kept owner_in said (lines.Asks x) refl;
          here = is.here ∙ kept here_in said (lines.Asks x) refl;
          entries = is.entries ∙ kept entry_in said (lines.Asks x) refl;
        },
      )

  pub need_taken : (x : Leaf → Bool) (b : Bool) → b ≡ is_some q.need → b ≡ false → Fits said (lines.Need x) × IsQuestion (said ++ lines.Need x ∷ []) (record q { need = Some x })
  need_taken x b e f =
      let fits = sym is.need ∙ none_listed q.need b e f in (
        fits,
        record {
          pairs = is.pairs ∙ ap set_of (kept member_in said (lines.Need x) refl);
          members = is.members ∙ ap length (kept member_in said (lines.Need x) refl);
          caller = is.caller ∙ kept caller_in said (lines.Need x) refl;
          need = ap (λ xs. xs ++ x ∷ []) (sym fits) ∙ added need_in said (lines.Need x) x refl;
          owner = is.owner ∙ kept owner_in said (lines.Need x) refl;
          here = is.here ∙ kept here_in said (lines.Need x) refl;
          entries = is.entries ∙ kept entry_in said (lines.Need x) refl;
        },
      )

  pub owner_taken : (x : List ℕ) (b : Bool) → b ≡ is_some q.here.owner → b ≡ false → Fits said (lines.Owner x) × IsQuestion (said ++ lines.Owner x ∷ []) (record q { here = record q.here { owner = Some x } })
  owner_taken x b e f =
      let fits = sym is.owner ∙ none_listed q.here.owner b e f in (
        fits,
        record {
          pairs = is.pairs ∙ ap set_of (kept member_in said (lines.Owner x) refl);
          members = is.members ∙ ap length (kept member_in said (lines.Owner x) refl);
          caller = is.caller ∙ kept caller_in said (lines.Owner x) refl;
          need = is.need ∙ kept need_in said (lines.Owner x) refl;
          owner = ap (λ xs. xs ++ x ∷ []) (sym fits) ∙ added owner_in said (lines.Owner x) x refl;
          here = is.here ∙ kept here_in said (lines.Owner x) refl;
          entries = is.entries ∙ kept entry_in said (lines.Owner x) refl;
        },
      )

  pub here_taken : (x : List ℕ) (b : Bool) → b ≡ is_some q.here.principal → b ≡ false → Fits said (lines.Here x) × IsQuestion (said ++ lines.Here x ∷ []) (record q { here = record q.here { principal = Some x } })
  here_taken x b e f =
      let fits = sym is.here ∙ none_listed q.here.principal b e f in (
        fits,
        record {
          pairs = is.pairs ∙ ap set_of (kept member_in said (lines.Here x) refl);
          members = is.members ∙ ap length (kept member_in said (lines.Here x) refl);
          caller = is.caller ∙ kept caller_in said (lines.Here x) refl;
          need = is.need ∙ kept need_in said (lines.Here x) refl;
          owner = is.owner ∙ kept owner_in said (lines.Here x) refl;
          here = ap (λ xs. xs ++ x ∷ []) (sym fits) ∙ added here_in said (lines.Here x) x refl;
          entries = is.entries ∙ kept entry_in said (lines.Here x) refl;
        },
      )

  pub entry_taken : (x : Entry) (entries : Vec Entry Global) → entries.items ≡ q.entries.items ++ x ∷ [] → length q.entries.items < 64 → Fits said (lines.Listed x) × IsQuestion (said ++ lines.Listed x ∷ []) (record q { entries = entries })
  entry_taken x entries e lt =
      let same : length q.entries.items ≡ length (filter_map entry_in said) = ap length is.entries in
      let fits : length (filter_map entry_in said) < 64 = omega (arith, lt, same) in (
        fits,
        record {
          pairs = is.pairs ∙ ap set_of (kept member_in said (lines.Listed x) refl);
          members = is.members ∙ ap length (kept member_in said (lines.Listed x) refl);
          caller = is.caller ∙ kept caller_in said (lines.Listed x) refl;
          need = is.need ∙ kept need_in said (lines.Listed x) refl;
          owner = is.owner ∙ kept owner_in said (lines.Listed x) refl;
          here = is.here ∙ kept here_in said (lines.Listed x) refl;
          entries = e ∙ ap (λ xs. xs ++ x ∷ []) is.entries ∙ added entry_in said (lines.Listed x) x refl;
        },
      )
