-- How often each reply was made (own profile).
use Rattle.std.specs.Prelude.{◌≡◌, ℕ, ◌+◌, ◌*◌, ◌-◌, ◌^◌, min, Bool, false, ◌==◌, ◌&&◌, if◌then◌else◌, List, [], ◌∷◌, length, fold, count_by, slice_index, slice_set, Option, Some, None}
use Rattle.book_rights.specs.declared.methods.Method.{Method}
use Rattle.book_rights.specs.declared.methods.Method.TheVariants as method
use Rattle.book_rights.specs.declared.privileges.Leaf.{Leaf}
use Rattle.book_rights.specs.declared.privileges.Leaf.TheVariants as leaf
use Rattle.book_rights.specs.declared.privileges.Privilege.{Privilege}
use Rattle.book_rights.specs.declared.privileges.Privilege.TheVariants as privilege
use Rattle.book_desk_metrics.specs.declared.counts.Counts.{Counts}
use Rattle.book_desk_metrics.specs.declared.counts.Told.{Told}

-- at most what a counter holds
abbrev pub held : ℕ → ℕ
held n = min n (2 ^ 64 - 1)

abbrev pub one_more : ℕ → ℕ
one_more n = held (n + 1)

-- the statuses that replies have (RFC 9110, section 15; RFC 4918, section 11; RFC 6585, section 5)
unfoldable pub statuses : List ℕ
statuses = 200 ∷ 201 ∷ 204 ∷ 207 ∷ 400 ∷ 403 ∷ 404 ∷ 405 ∷ 409 ∷ 412 ∷ 413 ∷ 415 ∷ 431 ∷ 501 ∷ 503 ∷ 507 ∷ []

-- the place of a number in a list, or the list's length
abbrev pub place_in : ℕ → List ℕ → ℕ
place_in x [] = 0
place_in x (y ∷ ys) = if x == y then 0 else place_in x ys + 1

-- none is another status
abbrev pub status_place : Option ℕ → ℕ
status_place None = 16
status_place (Some status) = place_in status statuses

-- none is of a request that was not read
abbrev pub method_place : Option Method → ℕ
method_place (Some method.Get) = 0
method_place (Some method.Head) = 1
method_place (Some method.Options) = 2
method_place (Some method.Put) = 3
method_place (Some method.Propfind) = 4
method_place (Some method.Proppatch) = 5
method_place (Some method.Acl) = 6
method_place (Some method.Copy) = 7
method_place (Some method.Move) = 8
method_place (Some method.Delete) = 9
method_place (Some method.Mkcol) = 10
method_place (Some method.Report) = 11
method_place None = 12

abbrev pub leaf_place : Leaf → ℕ
leaf_place leaf.ReadTexts = 0
leaf_place leaf.WriteContent = 1
leaf_place leaf.WriteProperties = 2
leaf_place leaf.Bind = 3
leaf_place leaf.Unbind = 4
leaf_place leaf.ReadAcl = 5
leaf_place leaf.WriteAcl = 6
leaf_place leaf.ReadCurrentUserPrivilegeSet = 7
leaf_place leaf.ReadNames = 8

abbrev pub privilege_place : Privilege → ℕ
privilege_place (privilege.One l) = leaf_place l
privilege_place privilege.Read = 9
privilege_place privilege.Write = 10
privilege_place privilege.All = 11

-- where the replies to a method with a status are counted
abbrev pub cell : Option Method → Option ℕ → ℕ
cell m s = 17 * method_place m + status_place s

-- how many replies to the method had the status, as they are counted
abbrev pub replies_to : Counts → Option Method → Option ℕ → ℕ
replies_to c m s = slice_index c.replies (cell m s)

-- how many denials named the privilege, as they are counted
abbrev pub denials_of : Counts → Privilege → ℕ
denials_of c p = slice_index c.denials (privilege_place p)

-- one more at a place
abbrev pub counted_at : List ℕ → ℕ → List ℕ
counted_at counters place = slice_set counters place (one_more (slice_index counters place))

-- one more at the place of a privilege, if there is one
abbrev pub counted_for : List ℕ → Option Privilege → List ℕ
counted_for counters None = counters
counted_for counters (Some p) = counted_at counters (privilege_place p)

-- a reply is counted once
abbrev pub counted : Counts → Told → Counts
counted c told = record {
  replies = counted_at c.replies (cell told.method (Some told.status));
  denials = counted_for c.denials told.denied;
}

abbrev pub all_counted : Counts → List Told → Counts
all_counted c told = fold counted c told

-- nothing is counted yet
pub record IsZero (c : Counts) : Type 0 where
  pub room : length c.replies ≡ 221
  pub denied_room : length c.denials ≡ 12
  pub replies : (m : Option Method) (s : Option ℕ) → replies_to c m s ≡ 0
  pub denials : (p : Privilege) → denials_of c p ≡ 0

-- whether a status is this one, or none of those that replies have
abbrev pub has_status : Option ℕ → ℕ → Bool
has_status None status = place_in status statuses == 16
has_status (Some s) status = status == s

-- whether a reply is to this method, and has this status
abbrev pub is_of : Option Method → Option ℕ → Told → Bool
is_of m s told = (method_place told.method == method_place m) && has_status s told.status

abbrev pub is_denied : Privilege → Option Privilege → Bool
is_denied p None = false
is_denied p (Some q) = privilege_place q == privilege_place p

-- whether a reply is a denial that names this privilege
abbrev pub is_denial_of : Privilege → Told → Bool
is_denial_of p told = is_denied p told.denied

-- a status that replies have, or none
abbrev pub IsColumn : Option ℕ → Type 0
IsColumn s = status_place s ≡ 16 → s ≡ None

-- what was counted since nothing was: the number of the replies to each method with each status, and of the denials by privilege, up to
-- the most that a counter holds
pub record CountsAreNumbers : Type 0 where
  pub replies : (c : Counts) → IsZero c → (told : List Told) (m : Option Method) (s : Option ℕ) → IsColumn s
      → replies_to (all_counted c told) m s ≡ held (count_by (is_of m s) told)
  pub denials : (c : Counts) → IsZero c → (told : List Told) (p : Privilege)
      → denials_of (all_counted c told) p ≡ held (count_by (is_denial_of p) told)

-- no two methods, and no two privileges, are counted together
pub record PlacesTellApart : Type 0 where
  pub methods : (m n : Option Method) → method_place m ≡ method_place n → m ≡ n
  pub privileges : (p q : Privilege) → privilege_place p ≡ privilege_place q → p ≡ q
