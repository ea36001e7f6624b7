-- Each line stands at its own path, so the lines stand in byte order of their paths.
use Rattle.std.proofs.Common.{◌≡◌, inl, inr, ℕ, List, [], ◌∷◌, cond, Option, Some, None, map, refl, sym, ap, ◌∙◌, subst, T}
use Rattle.std.specs.Cmp.Lexicographic.{nat_list_cmp_total}
use Rattle.std.specs.FinMap.{empty, entries, entries_sorted, get, get-empty, insert, is_sorted}
use Rattle.std.specs.FinMap.Entries.{below_all}
use Rattle.std.specs.List.{AllByRecursion}
use Rattle.std.specs.List.Sorted.{IsStrictlySortedBy}
use Rattle.std.specs.declared.cmp.Ordering.TheVariants.{Less}
use Rattle.book_dumps.specs.declared.lines.Line.{Line}
use Rattle.book_lists.specs.Names.{name_cmp}
use Rattle.book_lists.specs.Principals.{path_cmp}
use Rattle.book_office_values.proofs.Members.{Mem, first, less, mem_get, second}
use Rattle.book_office_values.proofs.NameMapLaws.{by_names, names_apart, put_at as put_name}
use Rattle.book_office_values.specs.Names.{changed_if}
use Rattle.book_office_values.specs.Paths.{book_path, path_text}
use Rattle.book_office_values.specs.declared.paths.Path.{Path}
use Rattle.book_office_values.specs.declared.paths.Path.TheVariants as path
use Rattle.book_dumps_restoring.specs.Laws.{LinesStandInOrder}
use Rattle.book_dumps_restoring.specs.Naming.{wanted}
use Rattle.book_dumps_restoring.specs.Putting.{book_over, card_with, counted, counted_in, next_number, put_at, put_line, put_lines}
use Rattle.book_dumps_restoring.specs.Restoring.{restored_standing, store_standing}
use Rattle.book_dumps_restoring.specs.Standing.{Standing, at, lines_of, put, put_each}

-- ---- each line stands at its own path
abbrev Keyed : Standing → Type 0
Keyed m = (k : List ℕ) (v : Line) → get m k ≡ Some v → path_text v.path ≡ k

nothing : Keyed empty
nothing k v e = absurd (let none : None ≡ Some v = sym (get-empty name_cmp k) ∙ e in cc)

inserted : (m : Standing) (k : List ℕ) (v : Line) → Keyed m → path_text v.path ≡ k → Keyed (insert m k v)
inserted m k v keyed own q w e =
    by_names q k (λ b. cond b (Some v) (get m q) ≡ Some w → path_text w.path ≡ q)
    (λ is h. let same : v ≡ w = cc in ap (λ (l : Line). path_text l.path) (sym same) ∙ own ∙ sym is)
    (λ _ h. keyed q w h) (sym (put_name m k v q) ∙ e)

counted_keyed : (m : Standing) (b c : List ℕ) → Keyed m → Keyed (counted_in m b c)
counted_keyed m b c keyed = go (get m (book_path b)) refl
  where
    go : (o : Option Line) → get m (book_path b) ≡ o → Keyed (changed_if (counted c) m (book_path b) o)
    go None e = keyed
    go (Some old) e = inserted m (book_path b) (counted c old) keyed (keyed (book_path b) old e)

book_keyed : (m : Standing) (line : Line) → Keyed m → (o : Option Line) → at m line.path ≡ o → path_text (book_over o line).path ≡ path_text line.path
book_keyed m line keyed None e = refl
book_keyed m line keyed (Some old) e = keyed (path_text line.path) old e

put_keyed : (p : Path) (m : Standing) (line : Line) → Keyed m → Keyed (put_at p m line)
put_keyed path.Root m line keyed = keyed
put_keyed path.People m line keyed = keyed
put_keyed path.Groups m line keyed = keyed
put_keyed path.Books m line keyed = keyed
put_keyed (path.Person name) m line keyed = keyed
put_keyed (path.Group name) m line keyed = keyed
put_keyed (path.Book b) m line keyed =
    inserted m (path_text line.path) (book_over (at m line.path) line) keyed (book_keyed m line keyed (at m line.path) refl)
put_keyed (path.Card b c) m line keyed =
    inserted (counted_in m b c) (path_text line.path) (card_with (next_number (get m (book_path b))) line) (counted_keyed m b c keyed) refl

lines_keyed : (ws : List Line) (m : Standing) → Keyed m → Keyed (put_lines m ws)
lines_keyed [] m keyed = keyed
lines_keyed (line ∷ ws) m keyed = lines_keyed ws (put_line m line) (put_keyed line.path m line keyed)

each_keyed : (ls : List Line) (m : Standing) → Keyed m → Keyed (put_each m ls)
each_keyed [] m keyed = keyed
each_keyed (line ∷ ls) m keyed = each_keyed ls (put m line) (inserted m (path_text line.path) line keyed refl)

-- ---- in byte order
abbrev names_in : List (List ℕ × Line) → List (List ℕ)
names_in es = map (λ (e : List ℕ × Line). e.0) es

own_paths : (es : List (List ℕ × Line)) → ((k : List ℕ) (v : Line) → Mem (k, v) es → path_text v.path ≡ k)
    → map (λ (line : Line). path_text line.path) (map (λ (e : List ℕ × Line). e.1) es) ≡ names_in es
own_paths [] own = refl
own_paths (e ∷ es) own =
    let rest = own_paths es (λ k v m. own k v (inr m)) in
    let here = own e.0 e.1 (inl refl) in
    λ i. here i ∷ rest i

below : (k : List ℕ) (es : List (List ℕ × Line)) → T (below_all name_cmp k es) → AllByRecursion (λ (y : List ℕ). name_cmp k y ≡ Less) (names_in es)
below k [] h = tt
below k (e ∷ es) h = (less _ (first _ _ h), below k es (second _ _ h))

rising : (es : List (List ℕ × Line)) → T (is_sorted name_cmp es) → IsStrictlySortedBy path_cmp (names_in es)
unfolding IsStrictlySortedBy
rising [] h = tt
rising (e ∷ es) h = (below e.0 es (first _ _ h), rising es (second _ _ h))

keyed_rises : (m : Standing) → Keyed m → IsStrictlySortedBy path_cmp (map (λ (line : Line). path_text line.path) (lines_of m))
keyed_rises m keyed =
    subst (IsStrictlySortedBy path_cmp) (sym (own_paths (entries m) (λ k v at. keyed k v (mem_get nat_list_cmp_total names_apart m k v at)))) (rising (entries m) (entries_sorted m))

pub in_order : LinesStandInOrder
in_order store backup paths =
    keyed_rises (restored_standing store backup paths) (lines_keyed (wanted backup.lines paths) (store_standing store) (each_keyed store.lines empty nothing))
