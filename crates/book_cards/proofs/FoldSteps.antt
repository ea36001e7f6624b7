-- A step of unfolding, from what the calls on a text ensure.
use Rattle.book_cards.proofs.Common.{◌≡◌, ◌≢◌, ℕ, ◌<◌, true, false, Option, Some, None, unwrap_or, List, [], ◌∷◌, ◌++◌, length, get_or, refl, ap, sym, ◌∙◌, subst, arith, append_assoc, is_blank, unfolded}
use Rattle.std.proofs.Common.{MatchOption}
use denote.Ref.{Bor}
use Rattle.book_cards.proofs.Folds.{Lacks, Unblank, crlf_fold, lf_fold, no_fold, no_feed, lacks_from_reads, lacks_front}

-- bytes go out, and what is left gives the rest
pub joined_step : (old new kept all before after : List ℕ) → new ≡ old ++ kept → before ≡ kept ++ after → old ++ before ≡ all → new ++ after ≡ all
joined_step old new kept all before after out step so_far =
    ap (λ t. t ++ after) out ∙ (append_assoc old kept after ∙ (ap (λ t. old ++ t) (sym step) ∙ so_far))

pub Unblank-from_cases : (y : List ℕ) → ((b : ℕ) (rest : List ℕ) → y ≡ b ∷ rest → is_blank b ≡ false) → Unblank y
Unblank-from_cases [] h = tt
Unblank-from_cases (b ∷ y) h = h b y refl

-- the line l, its end and a blank: the line goes out without its carriage return
pub at_fold : (rest after continued : List ℕ) (l kept : Bor (List ℕ)) (r : Option (Bor (List ℕ)))
    → rest ≡ l.now ++ 10 ∷ after → ((i : ℕ) → i < length l.now → get_or l.now i 0 ≢ 10)
    → (b : ℕ) × (is_blank b ≡ true) × (after ≡ b ∷ continued)
    → MatchOption r ((front : List ℕ) → l.now ≢ front ++ (13 ∷ [])) (λ x. l.now ≡ x.now ++ (13 ∷ []))
    → kept ≡ unwrap_or r l
    → unfolded rest ≡ kept.now ++ unfolded continued
at_fold rest after continued l kept None split lacks blank cr is =
    ap unfolded (split ∙ ap (λ t. l.now ++ 10 ∷ t) blank.2)
    ∙ lf_fold l.now continued blank.0 (lacks_from_reads 10 l.now lacks) cr blank.1
    ∙ ap (λ (k : Bor (List ℕ)). k.now ++ unfolded continued) (sym is)
at_fold rest after continued l kept (Some x) split lacks blank cr is =
    let lacks_all : Lacks 10 (x.now ++ (13 ∷ [])) = subst (Lacks 10) cr (lacks_from_reads 10 l.now lacks) in
    ap unfolded (split ∙ ap (λ t. l.now ++ 10 ∷ t) blank.2 ∙ ap (λ t. t ++ (10 ∷ blank.0 ∷ continued)) cr ∙ append_assoc x.now (13 ∷ []) (10 ∷ blank.0 ∷ continued))
    ∙ crlf_fold x.now continued blank.0 (lacks_front 10 x.now (13 ∷ []) lacks_all) blank.1
    ∙ ap (λ (k : Bor (List ℕ)). k.now ++ unfolded continued) (sym is)

-- a line end that no blank follows stays
pub at_line_end : (rest line after : List ℕ) → rest ≡ line ++ 10 ∷ after → ((i : ℕ) → i < length line → get_or line i 0 ≢ 10)
    → ((b : ℕ) (more : List ℕ) → after ≡ b ∷ more → is_blank b ≡ false) → unfolded rest ≡ line ++ (10 ∷ unfolded after)
at_line_end rest line after split lacks unblank =
    ap unfolded split ∙ no_fold line after (lacks_from_reads 10 line lacks) (Unblank-from_cases after unblank)

pub at_end : (rest : List ℕ) → ((i : ℕ) → i < length rest → get_or rest i 0 ≢ 10) → unfolded rest ≡ rest
at_end rest lacks = no_feed rest (lacks_from_reads 10 rest lacks)

neither : (b : ℕ) → b ≢ 32 → b ≢ 9 → is_blank b ≡ false
neither b s t = grind arith

-- what remains after the blank, where a space was looked for first
pub tab_or_none : (text : List ℕ) (r : Option (Bor (List ℕ))) → ((rest : List ℕ) → text ≢ 32 ∷ rest)
    → MatchOption r ((rest : List ℕ) → text ≢ 9 ∷ rest) (λ x. text ≡ 9 ∷ x.now)
    → MatchOption r ((b : ℕ) (rest : List ℕ) → text ≡ b ∷ rest → is_blank b ≡ false) (λ rest. (b : ℕ) × (is_blank b ≡ true) × (text ≡ b ∷ rest.now))
tab_or_none text None space tab =
    λ b rest e. neither b (λ s. space rest (e ∙ ap (λ n. n ∷ rest) s)) (λ s. tab rest (e ∙ ap (λ n. n ∷ rest) s))
tab_or_none text (Some x) space tab = (9, refl, tab)
