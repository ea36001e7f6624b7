-- What stays as it was, and what becomes the backup's.
use Rattle.std.proofs.Common.{◌≡◌, ◌≢◌, inl, inr, ℕ, List, [], ◌∷◌, ◌++◌, cond, Option, Some, None, refl, sym, ap, ◌∙◌, subst}
use Rattle.std.specs.FinMap.{get, insert}
use Rattle.std.specs.List.{AllByRecursion}
use Rattle.book_dumps.specs.declared.lines.Line.{Line}
use Rattle.book_office_values.proofs.NameMapLaws.{by_names, put_at as put_name, same_itself}
use Rattle.book_office_values.proofs.Spelling.{one_text}
use Rattle.book_office_values.specs.Names.{changed_if}
use Rattle.book_office_values.specs.Paths.{IsPath, book_path, path_text}
use Rattle.book_office_values.specs.declared.paths.Path.{Path}
use Rattle.book_office_values.specs.declared.paths.Path.TheVariants as path
use Rattle.book_dumps_restoring.specs.Laws.{ArePaths, BooksOfCardsStay, IsRestorable, IsTextOf, OthersStay, Reaches, StaysButCounts, WantedAreTheBackups}
use Rattle.book_dumps_restoring.specs.Naming.{wanted}
use Rattle.book_dumps_restoring.specs.Putting.{book_over, card_with, counted, counted_in, next_number, put_at, put_line, put_lines}
use Rattle.book_dumps_restoring.specs.Restoring.{restored_standing, store_standing}
use Rattle.book_dumps_restoring.specs.Standing.{Standing, at}

-- ---- maps
at_other : (m : Standing) (k : List ℕ) (v : Line) (q : List ℕ) → (q ≡ k → ⊥) → get (insert m k v) q ≡ get m q
at_other m k v q ne = put_name m k v q ∙ by_names q k (λ b. cond b (Some v) (get m q) ≡ get m q) (λ e. absurd (ne e)) (λ _. refl)

at_same : (m : Standing) (k : List ℕ) (v : Line) → get (insert m k v) k ≡ Some v
at_same m k v = put_name m k v k ∙ ap (λ b. cond b (Some v) (get m k)) (same_itself k)

apart : (p q : Path) → IsPath p → IsPath q → (q ≡ p → ⊥) → path_text q ≡ path_text p → ⊥
apart p q is_p is_q ne e = ne (one_text q p is_q is_p e)

-- ---- lines that stay but for what is counted
same_stays : (o : Option Line) → StaysButCounts o o
same_stays None = refl
same_stays (Some old) = (old.number, old.removed, refl)

stays_on : (a b c : Option Line) → StaysButCounts a b → StaysButCounts b c → StaysButCounts a c
stays_on None b c h k = subst (λ (x : Option Line). StaysButCounts x c) h k
stays_on (Some old) b c h k = let r = subst (λ (x : Option Line). StaysButCounts x c) h.2 k in (r.0, r.1, r.2)

module _ (m : Standing) (b c : List ℕ) where
  abbrev Counted : Option Line → Standing
  Counted o = changed_if (counted c) m (book_path b) o

  counted_other : (q : List ℕ) → (q ≡ book_path b → ⊥) → get (counted_in m b c) q ≡ get m q
  counted_other q ne = go (get m (book_path b))
    where
      go : (o : Option Line) → get (Counted o) q ≡ get m q
      go None = refl
      go (Some old) = at_other m (book_path b) (counted c old) q ne

  counted_stays : (q : List ℕ) → StaysButCounts (get m q) (get (counted_in m b c) q)
  counted_stays q = go (get m (book_path b)) refl
    where
      go : (o : Option Line) → get m (book_path b) ≡ o → StaysButCounts (get m q) (get (Counted o) q)
      go None e = same_stays (get m q)
      go (Some old) e = by_names q (book_path b) (λ _. StaysButCounts (get m q) (get (insert m (book_path b) (counted c old)) q))
          (λ is. subst (λ (k : List ℕ). StaysButCounts (get m k) (get (insert m (book_path b) (counted c old)) k)) (sym is)
          (subst (λ (o : Option Line). StaysButCounts o (get (insert m (book_path b) (counted c old)) (book_path b))) (sym e)
          ((counted c old).number, (counted c old).removed, at_same m (book_path b) (counted c old))))
          (λ ne. subst (λ (o : Option Line). StaysButCounts (get m q) o) (sym (at_other m (book_path b) (counted c old) q ne)) (same_stays (get m q)))

-- ---- one line
module _ (q : Path) (is_q : IsPath q) where
  other_at : (p : Path) (m : Standing) (line : Line) → p ≡ line.path → IsPath p → (Reaches p q → ⊥) → at (put_at p m line) q ≡ at m q
  other_at path.Root m line is is_p ne = refl
  other_at path.People m line is is_p ne = refl
  other_at path.Groups m line is is_p ne = refl
  other_at path.Books m line is is_p ne = refl
  other_at (path.Person name) m line is is_p ne = refl
  other_at (path.Group name) m line is is_p ne = refl
  other_at (path.Book b) m line is is_p ne =
      at_other m (path_text line.path) (book_over (at m line.path) line) (path_text q) (λ e. apart (path.Book b) q is_p is_q ne (e ∙ ap path_text (sym is)))
  other_at (path.Card b c) m line is is_p ne =
      at_other (counted_in m b c) (path_text line.path) (card_with (next_number (get m (book_path b))) line) (path_text q)
      (λ e. apart (path.Card b c) q is_p is_q (λ same. ne (inl same)) (e ∙ ap path_text (sym is)))
      ∙ counted_other m b c (path_text q) (λ e. apart (path.Book b) q is_p.0 is_q (λ same. ne (inr same)) e)

  stays_at : (p : Path) (m : Standing) (line : Line) → p ≡ line.path → IsPath p → (q ≡ p → ⊥) → StaysButCounts (at m q) (at (put_at p m line) q)
  stays_at path.Root m line is is_p ne = same_stays (at m q)
  stays_at path.People m line is is_p ne = same_stays (at m q)
  stays_at path.Groups m line is is_p ne = same_stays (at m q)
  stays_at path.Books m line is is_p ne = same_stays (at m q)
  stays_at (path.Person name) m line is is_p ne = same_stays (at m q)
  stays_at (path.Group name) m line is is_p ne = same_stays (at m q)
  stays_at (path.Book b) m line is is_p ne =
      let same = at_other m (path_text line.path) (book_over (at m line.path) line) (path_text q) (λ e. apart (path.Book b) q is_p is_q ne (e ∙ ap path_text (sym is))) in
      subst (λ (o : Option Line). StaysButCounts (at m q) o) (sym same) (same_stays (at m q))
  stays_at (path.Card b c) m line is is_p ne =
      let same = at_other (counted_in m b c) (path_text line.path) (card_with (next_number (get m (book_path b))) line) (path_text q)
      (λ e. apart (path.Card b c) q is_p is_q ne (e ∙ ap path_text (sym is))) in
      subst (λ (o : Option Line). StaysButCounts (at m q) o) (sym same) (counted_stays m b c (path_text q))

  -- ---- lines
  others : (ws : List Line) (m : Standing) → ArePaths ws → AllByRecursion (λ (line : Line). Reaches line.path q → ⊥) ws → at (put_lines m ws) q ≡ at m q
  others [] m are ne = refl
  others (line ∷ ws) m are ne = others ws (put_line m line) are.1 ne.1 ∙ other_at line.path m line refl are.0 ne.0

  stay : (ws : List Line) (m : Standing) → ArePaths ws → AllByRecursion (λ (line : Line). q ≢ line.path) ws → StaysButCounts (at m q) (at (put_lines m ws) q)
  stay [] m are ne = same_stays (at m q)
  stay (line ∷ ws) m are ne =
      stays_on (at m q) (at (put_line m line) q) (at (put_lines (put_line m line) ws) q) (stays_at line.path m line refl are.0 ne.0) (stay ws (put_line m line) are.1 ne.1)

pub others_stay : OthersStay
others_stay store backup paths q are is ne = others q is (wanted backup.lines paths) (store_standing store) are ne

pub books_stay : BooksOfCardsStay
books_stay store backup paths q are is ne = stay q is (wanted backup.lines paths) (store_standing store) are ne

-- ---- what becomes the backup's
abbrev Has : Path → Line → Option Line → Type 0
Has p line found = (after : Line) × (found ≡ Some after) × (after.owner ≡ line.owner) × (after.label ≡ line.label) × (after.own ≡ line.own) × IsTextOf p line after

book_has : (b : List ℕ) (line : Line) (o found : Option Line) → found ≡ Some (book_over o line) → Has (path.Book b) line found
book_has b line None found is = (book_over None line, is, refl, refl, refl, tt)
book_has b line (Some old) found is = (book_over (Some old) line, is, refl, refl, refl, tt)

has_at : (p : Path) (m : Standing) (line : Line) → IsRestorable p → Has p line (at (put_at p m line) line.path)
has_at path.Root m line is = absurd is
has_at path.People m line is = absurd is
has_at path.Groups m line is = absurd is
has_at path.Books m line is = absurd is
has_at (path.Person name) m line is = absurd is
has_at (path.Group name) m line is = absurd is
has_at (path.Book b) m line is =
    book_has b line (at m line.path) (at (put_at (path.Book b) m line) line.path) (at_same m (path_text line.path) (book_over (at m line.path) line))
has_at (path.Card b c) m line is =
    let card = card_with (next_number (get m (book_path b))) line in
    (card, at_same (counted_in m b c) (path_text line.path) card, refl, refl, refl, refl)

text_stays : (p : Path) (line old : Line) (number : Option ℕ) (after : Line) → after.text ≡ old.text → IsTextOf p line old → IsTextOf p line after
text_stays path.Root line old number after same is = tt
text_stays path.People line old number after same is = tt
text_stays path.Groups line old number after same is = tt
text_stays path.Books line old number after same is = tt
text_stays (path.Person name) line old number after same is = tt
text_stays (path.Group name) line old number after same is = tt
text_stays (path.Book b) line old number after same is = tt
text_stays (path.Card b c) line old number after same is = same ∙ is

has_still : (p : Path) (line : Line) (before found : Option Line) → Has p line before → StaysButCounts before found → Has p line found
has_still p line before found has stays =
    let r = subst (λ (o : Option Line). StaysButCounts o found) has.1 stays in
    let after : Line = record has.0 { number = r.0; removed = r.1 } in
    (after, r.2, has.2, has.3, has.4, text_stays p line has.0 r.0 after refl has.5)

-- lines before others are put before them
put_more : (front back : List Line) (m : Standing) → put_lines m (front ++ back) ≡ put_lines (put_lines m front) back
put_more [] back m = refl
put_more (line ∷ front) back m = put_more front back (put_line m line)

pub wanted_are : WantedAreTheBackups
wanted_are store backup paths front back line parts are restorable later =
    let m = put_lines (store_standing store) front in
    let has = has_still line.path line (at (put_line m line) line.path) (at (put_lines (put_line m line) back) line.path) (has_at line.path m line restorable)
    (stay line.path are.0 back (put_line m line) are.1 later) in
    let whole : at (restored_standing store backup paths) line.path ≡ at (put_lines (put_line m line) back) line.path =
    ap (λ (ws : List Line). at (put_lines (store_standing store) ws) line.path) parts ∙ ap (λ (s : Standing). at s line.path) (put_more front (line ∷ back) (store_standing store)) in
    (has.0, whole ∙ has.1, record { owner = has.2; label = has.3; own = has.4; text = has.5 })
