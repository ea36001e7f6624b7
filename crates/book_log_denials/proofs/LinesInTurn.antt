-- The denials of lines, counted one after the other.
use Rattle.book_log_denials.proofs.Common.{◌≡◌, ◌≢◌, ℕ, ◌+◌, List, [], ◌∷◌, ◌++◌, length, Bool, true, false, refl, sym, ap, ◌∙◌, arith, append_assoc, append-nil, Option, Some, None, filter_map, name_cmp, NamesTo, Tally}
use Rattle.std.proofs.Common.{if◌then◌else◌}
use Rattle.std.proofs.lemmas.List.{length-append}
use Rattle.std.proofs.lemmas.Slice.Eq.{bytes_eq-Decides}
use Rattle.std.specs.FinMap.{get, insert, empty, get-empty}
use Rattle.std.specs.Option.{option_and_then}
use Rattle.std.specs.Str.{bytes_eq}
use Rattle.book_office_values.proofs.OneName.{by_put}
use Rattle.book_log_lines.specs.declared.lines.Line.{Line}
use Rattle.book_log_denials.specs.Denials.{if_of, time_in, times_of, told_in, with_lines}
use Rattle.book_log_denials.specs.declared.forms.Form.{Form}
use Rattle.book_log_denials.specs.Tallies.{counted, earlier, earliest, later, latest, more, tally_of, with_told}

-- ---- one more time
earliest_more : (u t : List ℕ) (ts : List (List ℕ)) → earliest t (ts ++ u ∷ []) ≡ earlier u (earliest t ts)
earliest_more u t [] = refl
earliest_more u t (x ∷ ts) = earliest_more u (earlier x t) ts

latest_more : (u t : List ℕ) (ts : List (List ℕ)) → latest t (ts ++ u ∷ []) ≡ later u (latest t ts)
latest_more u t [] = refl
latest_more u t (x ∷ ts) = latest_more u (later x t) ts

counted_more : (n : ℕ) → counted (n + 1) ≡ counted (counted n + 1)
counted_more n = omega arith

pub tally_more : (t : List ℕ) (ts : List (List ℕ)) → tally_of (ts ++ t ∷ []) ≡ Some (more t (tally_of ts))
tally_more t [] = let one : counted 1 ≡ 1 = omega arith in λ i. Some (record { count = one i; first = t; last = t })
tally_more t (u ∷ us) =
    let count : counted (length (u ∷ us ++ t ∷ [])) ≡ counted (counted (length (u ∷ us)) + 1) =
    ap counted (length-append (u ∷ us) (t ∷ [])) ∙ counted_more (length (u ∷ us)) in
    let first = earliest_more t u us in
    let last = latest_more t u us in
    λ i. Some (record { count = count i; first = first i; last = last i })

-- ---- one more line
abbrev listed : {A : Type 0} → Option A → List A
listed None = []
listed (Some x) = x ∷ []

filter_one : {A B : Type 0} (h : A → Option B) (x : A) (xs : List A) → filter_map h (x ∷ xs) ≡ listed (h x) ++ filter_map h xs
filter_one h x xs = by_gift (h x) refl
  where
    by_gift : (g : Option _) → h x ≡ g → filter_map h (x ∷ xs) ≡ listed g ++ filter_map h xs
    by_gift None e = rw e refl
    by_gift (Some y) e = rw e refl

of_it : (k : List ℕ) (d : List ℕ × List ℕ) → k ≡ d.0 → if_of k d ≡ Some d.1
of_it k d e = ap (λ b. if b then Some d.1 else None) ((bytes_eq-Decides k d.0).1 e)

of_others : (k : List ℕ) (d : List ℕ × List ℕ) → k ≢ d.0 → if_of k d ≡ None
of_others k d apart =
    elim (bytes_eq k d.0) as (λ b. bytes_eq k d.0 ≡ b → (if b then Some d.1 else None) ≡ None) [
      | true ↦ λ t. absurd (apart ((bytes_eq-Decides k d.0).0 t))
      | false ↦ λ _. refl
    ] refl

-- groups tell these times
abbrev Tell : NamesTo Tally → (List ℕ → List (List ℕ)) → Type 0
Tell m ts = (k : List ℕ) → get m k ≡ tally_of (ts k)

told_step : (m : NamesTo Tally) (d : Option (List ℕ × List ℕ)) (ts : List ℕ → List (List ℕ)) → Tell m ts → Tell (with_told m d) (λ k. ts k ++ listed (option_and_then (if_of k) d))
told_step m None ts h k = h k ∙ ap tally_of (sym (append-nil (ts k)))
told_step m (Some d) ts h k =
    by_put m d.0 (more d.1 (get m d.0)) k (λ r. r ≡ tally_of (ts k ++ listed (if_of k d)))
    (λ here. ap (λ y. Some (more d.1 y)) (ap (get m) (sym here) ∙ h k) ∙ sym (tally_more d.1 (ts k)) ∙ ap (λ g. tally_of (ts k ++ listed g)) (sym (of_it k d here)))
    (λ apart. h k ∙ ap tally_of (sym (append-nil (ts k))) ∙ ap (λ g. tally_of (ts k ++ listed g)) (sym (of_others k d apart)))

-- ---- all lines
module _ (told : Form) (since : Option (List ℕ)) where
  all_told : (ls : List Line) (m : NamesTo Tally) (ts : List ℕ → List (List ℕ)) → Tell m ts → Tell (with_lines told since m ls) (λ k. ts k ++ times_of told since k ls)
  all_told [] m ts h k = h k ∙ ap tally_of (sym (append-nil (ts k)))
  all_told (l ∷ ls) m ts h k =
      let d = told_in told since l in
      let here = listed (option_and_then (if_of k) d) in
      all_told ls (with_told m d) (λ q. ts q ++ listed (option_and_then (if_of q) d)) (told_step m d ts h) k
      ∙ ap tally_of (append_assoc (ts k) here (times_of told since k ls) ∙ ap (λ r. ts k ++ r) (sym (filter_one (time_in told since k) l ls)))

  -- the groups of lines tell the times of their denials
  pub counts_all : (ls : List Line) (k : List ℕ) → get (with_lines told since empty ls) k ≡ tally_of (times_of told since k ls)
  counts_all ls k = all_told ls empty (λ _. []) (λ q. get-empty name_cmp q) k

  -- the groups of lines and one more
  pub lines_and_one : (ls : List Line) (l : Line) (m : NamesTo Tally) → with_lines told since m (ls ++ l ∷ []) ≡ with_told (with_lines told since m ls) (told_in told since l)
  lines_and_one [] l m = refl
  lines_and_one (x ∷ ls) l m = lines_and_one ls l (with_told m (told_in told since x))
