-- Tests of texts: a name, the name of a privilege.
use Rattle.std.proofs.Common.{◌≡◌, ◌≢◌, ◌<◌, ◌≤◌, ℕ, List, [], ◌∷◌, Bool, true, false, if◌then◌else◌, IsTrue, IsUtf8, None, Some, is_some, length, slice_index, nat_lt, nat_le, nat_eq, ◌&&◌, not, refl, sym, ap, arith, map}
use Rattle.std.specs.List.{AllByRecursion, list_all}
use Rattle.std.specs.Str.{bytes_eq, is_utf8}
use Rattle.std.proofs.lemmas.Str.{is_utf8-from_IsUtf8}
use Rattle.book_limits.specs.declared.TheConstants.{MAX_LABEL_BYTES}
use Rattle.std.proofs.lemmas.Bool.{false≢true}
use Rattle.std.proofs.lemmas.Bool.Decides.{nat_tests}
use Rattle.std.proofs.lemmas.List.Elements.{All-from_recursion, recursion_from_All}
use Rattle.std.proofs.lemmas.Slice.Eq.{bytes_eq-Decides}
use Rattle.book_lists.specs.Names.{IsName, is_name_byte}
use Rattle.book_rights.specs.Privileges.{name_of}
use Rattle.book_rights.specs.declared.privileges.Privilege.{Privilege}
use Rattle.book_policy_faults.specs.Values.{is_among}
use Rattle.toml.specs.View.{items_view}
use Rattle.toml.specs.declared.value.Value.{Value}
use Rattle.book_policy_faults.specs.Known.{is_name}
use Rattle.book_policy_faults.specs.Problems.{count, label_with, unless}
use Rattle.book_policy_faults.specs.declared.places.Problem.TheVariants.{LongLabel}

both : (a b : Bool) → (a && b) ≡ true → (a ≡ true) × (b ≡ true)
both true true h = (refl, refl)
both true false h = absurd (false≢true h)
both false b h = absurd (false≢true h)

each_byte : (xs : List ℕ) → list_all is_name_byte xs ≡ true → AllByRecursion (λ b. IsTrue (is_name_byte b)) xs
each_byte [] h = tt
each_byte (x ∷ xs) h = let p = both (is_name_byte x) (list_all is_name_byte xs) h in (p.0, each_byte xs p.1)

byte_each : (xs : List ℕ) → AllByRecursion (λ b. IsTrue (is_name_byte b)) xs → list_all is_name_byte xs ≡ true
byte_each [] h = refl
byte_each (x ∷ xs) h = all_both (is_name_byte x) (list_all is_name_byte xs) h.0 (byte_each xs h.1)
  where
    all_both : (a b : Bool) → a ≡ true → b ≡ true → (a && b) ≡ true
    all_both a b p q = rw (p, q) refl

no_dot : (n : ℕ) → not (nat_eq n 46) ≡ true → n ≢ 46
no_dot n h e = grind (arith, nat_tests)

dot_not : (n : ℕ) → n ≢ 46 → not (nat_eq n 46) ≡ true
dot_not n h = grind (arith, nat_tests)

pub name_is : (t : List ℕ) → is_name t ≡ true → IsName t
name_is t h =
    let a = both (nat_lt 0 (length t)) _ h in
    let b = both (nat_le (length t) 64) _ a.1 in
    let c = both (not (nat_eq (slice_index t 0) 46)) _ b.1 in
    record {
      some = grind (arith, nat_tests, a.0);
      short = grind (arith, nat_tests, b.0);
      visible = no_dot (slice_index t 0) c.0;
      each = All-from_recursion (λ b. IsTrue (is_name_byte b)) t (each_byte t c.1);
    }

four : (a b c d : Bool) → a ≡ true → b ≡ true → c ≡ true → d ≡ true → (a && (b && (c && d))) ≡ true
four a b c d p q r s = rw (p, q, r, s) refl

below : (m n : ℕ) → m < n → nat_lt m n ≡ true
below m n h = grind (arith, nat_tests)

most : (m n : ℕ) → m ≤ n → nat_le m n ≡ true
most m n h = grind (arith, nat_tests)

pub is_named : (t : List ℕ) → IsName t → is_name t ≡ true
is_named t n =
    four (nat_lt 0 (length t)) (nat_le (length t) 64) (not (nat_eq (slice_index t 0) 46)) (list_all is_name_byte t)
    (below 0 (length t) n.some) (most (length t) 64 n.short) (dot_not (slice_index t 0) n.visible)
    (byte_each t (recursion_from_All (λ b. IsTrue (is_name_byte b)) t n.each))

pub not_named : (t : List ℕ) → (IsName t → ⊥) → is_name t ≡ false
not_named t never = elim (is_name t) as (λ b. is_name t ≡ b → b ≡ false) [ true ↦ λ e. absurd (never (name_is t e)) | false ↦ λ e. refl ] refl

apart : (t u : List ℕ) → t ≢ u → bytes_eq t u ≡ false
apart t u never = elim (bytes_eq t u) as (λ b. bytes_eq t u ≡ b → b ≡ false) [ true ↦ λ e. absurd (never ((bytes_eq-Decides t u).0 e)) | false ↦ λ e. refl ] refl

pub none_among : (t : List ℕ) (ps : List Privilege) → ((p : Privilege) → t ≢ name_of p) → is_among t (map name_of ps) ≡ false
none_among t [] never = refl
none_among t (p ∷ ps) never = rw (apart t (name_of p) (never p), none_among t ps never) refl

pub count_items : (vs : List Value) → count (items_view vs) ≡ length vs
count_items [] = refl
count_items (v ∷ vs) = let e = count_items vs in omega (arith, e)

-- ---- texts of labels
with_tests : (t : List ℕ) (a b : Bool) → a ≡ true → b ≡ true → is_some (if a && b then Some t else None) ≡ true
with_tests t a b p q = rw (p, q) refl

pub short_text : (t : List ℕ) → IsUtf8 t → length t ≤ MAX_LABEL_BYTES → None ≡ label_with (Some t)
short_text t utf8 short =
    ap (λ b. unless b LongLabel)
    (sym (with_tests t (is_utf8 t) (nat_le (length t) MAX_LABEL_BYTES) (is_utf8-from_IsUtf8 t utf8) (most (length t) MAX_LABEL_BYTES short)))

too_long : (t : List ℕ) (a b : Bool) → b ≡ false → is_some (if a && b then Some t else None) ≡ false
too_long t true b q = rw q refl
too_long t false b q = refl

above : (m n : ℕ) → n < m → nat_le m n ≡ false
above m n h = grind (arith, nat_tests)

pub long_text : (t : List ℕ) → MAX_LABEL_BYTES < length t → Some LongLabel ≡ label_with (Some t)
long_text t long = ap (λ b. unless b LongLabel) (sym (too_long t (is_utf8 t) (nat_le (length t) MAX_LABEL_BYTES) (above (length t) MAX_LABEL_BYTES long)))
