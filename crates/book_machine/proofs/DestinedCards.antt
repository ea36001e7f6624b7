-- The destination of a COPY or MOVE, as the stages before the verdict let it through.
use Rattle.book_machine.proofs.Common.{◌≡◌, ◌≢◌, ℕ, List, Bool, true, false, ◌&&◌, Option, Some, None, is_some, Result, Ok, Err, refl, sym, ap, ◌∙◌, subst, bytes_eq-Decides, get, if◌then◌else◌, IsName, Office, Path, node_at, destination_asked, destination_path, copy_asked, move_asked, ◌>>=◌, check, replaceable, destination_of, Destination, Refusal, BadRequest, NoParent, Overwrite}
use Rattle.book_office_values.specs.declared.paths.Path.TheVariants as path
use Rattle.book_machine.specs.Asked.{is_card, destination_by}
use Rattle.book_machine.specs.Asking.{HasPath}
use Rattle.book_machine.specs.declared.asked.Asked.TheVariants as asked
use Rattle.book_machine.specs.declared.messages.Flag.{Flag}
use Rattle.book_machine.specs.declared.messages.Flag.TheVariants as flag

-- ---- stages
-- where two stages answer a value, so does the first
pub bind_ok : {A B : Type 0} (m : Result A Refusal) (f : A → Result B Refusal) (y : B) → (m >>= f) ≡ Ok y → (x : A) × (m ≡ Ok x) × (f x ≡ Ok y)
bind_ok (Ok x) f y e = (x, refl, e)
bind_ok (Err r) f y e = absurd cc

pub check_true : (b : Bool) (r : Refusal) (u : Unit {0}) → check b r ≡ Ok u → b ≡ true
check_true true r u e = refl
check_true false r u e = absurd cc

abbrev pub answered : {A : Type 0} → A → Result A Refusal
answered x = Ok x

pub same_Ok : {A : Type 0} (x y : A) → answered x ≡ answered y → x ≡ y
same_Ok x y e = cc

pub some_not_none : {A : Type 0} (o : Option A) → is_some o ≡ true → o ≢ None
some_not_none None e none = absurd cc
some_not_none (Some x) e none = absurd cc

-- ---- the shape
-- what the shape of a request tells of its destination
abbrev pub IsAskedTo : Option Path → Option Destination → Type 0
IsAskedTo source None = Unit {0}
IsAskedTo source (Some to) = IsName to.card × (source ≡ Some (destination_path to) → ⊥)

by_flag : (b c : List ℕ) (f : Flag) (to : Destination) → destination_by b c f ≡ Ok to → (b ≡ to.book) × (c ≡ to.card)
by_flag b c flag.Yes to e = let same = same_Ok _ to e in (ap (λ (x : Destination). x.book) same, ap (λ (x : Destination). x.card) same)
by_flag b c flag.No to e = let same = same_Ok _ to e in (ap (λ (x : Destination). x.book) same, ap (λ (x : Destination). x.card) same)
by_flag b c flag.Unread to e = absurd (cc (e))

is_card_itself : (b c : List ℕ) → is_card b c (Some (path.Card b c)) ≡ true
is_card_itself b c = λ i. (bytes_eq-Decides b b).1 refl i && (bytes_eq-Decides c c).1 refl i

pub asked_to : (source : Option Path) (f : Flag) (at : Option Path) (to : Destination) → destination_asked source f at ≡ Ok to → HasPath at → IsAskedTo source (Some to)
asked_to source f None to e named = absurd (cc (e))
asked_to source f (Some path.Root) to e named = absurd (cc (e))
asked_to source f (Some path.People) to e named = absurd (cc (e))
asked_to source f (Some path.Groups) to e named = absurd (cc (e))
asked_to source f (Some path.Books) to e named = absurd (cc (e))
asked_to source f (Some (path.Person n)) to e named = absurd (cc (e))
asked_to source f (Some (path.Group n)) to e named = absurd (cc (e))
asked_to source f (Some (path.Book b)) to e named = absurd (cc (e))
asked_to source f (Some (path.Card b c)) to e named =
    elim (is_card b c source) as (λ same. is_card b c source ≡ same → (if same then Err BadRequest else destination_by b c f) ≡ Ok to → IsAskedTo source (Some to)) [
      | true ↦ λ is h. absurd (cc (h))
      | false ↦ λ is h.
          let names = by_flag b c f to h in (
            subst IsName names.1 named.1,
            λ itself.
                let at : source ≡ Some (path.Card b c) = itself ∙ (λ i. Some (path.Card (sym names.0 i) (sym names.1 i))) in
                absurd (cc (sym is ∙ ap (is_card b c) at ∙ is_card_itself b c)),
          )
    ] refl e

pub copied_to : (s : Result Destination Refusal) (to : Destination) → copy_asked s ≡ Ok (asked.Copy to) → s ≡ Ok to
copied_to (Ok x) to e = let same : x ≡ to = cc (e) in ap Ok same
copied_to (Err r) to e = absurd (cc (e))

pub moved_to : (s : Result Destination Refusal) (to : Destination) → move_asked s ≡ Ok (asked.Move to) → s ≡ Ok to
moved_to (Ok x) to e = let same : x ≡ to = cc (e) in ap Ok same
moved_to (Err r) to e = absurd (cc (e))

-- ---- what is mapped there
-- what the stages before the verdict tell of a destination: its name is a name, its book is there, and it is not the source
abbrev pub IsDestined : Office → Path → Option Destination → Type 0
IsDestined o p None = Unit {0}
IsDestined o p (Some to) = IsName to.card × (get o.books to.book ≢ None) × (p ≡ destination_path to → ⊥)

-- whether something is mapped at the destination
abbrev pub is_taken : Office → Option Destination → Bool
is_taken o None = false
is_taken o (Some to) = is_some (node_at o (destination_path to))

replaced : (overwrite taken told : Bool) → replaceable overwrite taken ≡ Ok told → told ≡ taken
replaced overwrite false told e = sym (same_Ok _ told e)
replaced overwrite true told e = let a = bind_ok (check overwrite Overwrite) (λ _. Ok true) told e in sym (same_Ok _ told a.2)

-- what the stage of the destination lets through
pub destination_told : (o : Office) (at : Option Destination) (told : Bool) → destination_of o at ≡ Ok told → told ≡ is_taken o at
destination_told o None told e = sym (same_Ok _ told e)
destination_told o (Some to) told e =
    let a = bind_ok (check (is_some (get o.books to.book)) NoParent) (λ _. replaceable to.overwrite (is_some (node_at o (destination_path to)))) told e in
    replaced to.overwrite (is_some (node_at o (destination_path to))) told a.2

pub destined_at : (o : Office) (source : Option Path) (p : Path) (at : Option Destination) (told : Bool) → source ≡ Some p
    → IsAskedTo source at → destination_of o at ≡ Ok told → IsDestined o p at
destined_at o source p None told is shaped e = tt
destined_at o source p (Some to) told is shaped e =
    let a = bind_ok (check (is_some (get o.books to.book)) NoParent) (λ _. replaceable to.overwrite (is_some (node_at o (destination_path to)))) told e in
    (shaped.0, some_not_none (get o.books to.book) (check_true _ _ a.0 a.1), λ same. shaped.1 (is ∙ ap Some same))
