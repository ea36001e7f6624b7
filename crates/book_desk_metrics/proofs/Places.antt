-- Each counter has a place of its own.
use Rattle.std.proofs.Common.{◌≡◌, ℕ, ◌≤◌, List, [], ◌∷◌, length, get_or, Option, Some, None, arith, refl, sym, ap, ◌∙◌}
use Rattle.book_rights.specs.declared.methods.Method.{Method}
use Rattle.book_rights.specs.declared.methods.Method.TheVariants as method
use Rattle.book_rights.specs.declared.privileges.Leaf.{Leaf}
use Rattle.book_rights.specs.declared.privileges.Leaf.TheVariants as leaf
use Rattle.book_rights.specs.declared.privileges.Privilege.{Privilege}
use Rattle.book_rights.specs.declared.privileges.Privilege.TheVariants as privilege
use Rattle.book_desk_metrics.specs.Counting.{leaf_place, method_place, place_in, privilege_place, status_place, statuses}
use Rattle.book_desk_metrics.specs.Exposition.{deniable, rows}

pub place_in_below : (x : ℕ) (xs : List ℕ) → place_in x xs ≤ length xs
place_in_below x [] = omega arith
place_in_below x (y ∷ ys) = let below = place_in_below x ys in grind (arith, below)

pub statuses_length : length statuses ≡ 16
unfolding statuses
statuses_length = refl

pub status_place_below : (s : Option ℕ) → status_place s ≤ 16
status_place_below None = omega arith
status_place_below (Some status) = omega (arith, place_in_below status statuses, statuses_length)

pub method_place_below : (m : Option Method) → method_place m ≤ 12
method_place_below (Some method.Get) = omega arith
method_place_below (Some method.Head) = omega arith
method_place_below (Some method.Options) = omega arith
method_place_below (Some method.Put) = omega arith
method_place_below (Some method.Propfind) = omega arith
method_place_below (Some method.Proppatch) = omega arith
method_place_below (Some method.Acl) = omega arith
method_place_below (Some method.Copy) = omega arith
method_place_below (Some method.Move) = omega arith
method_place_below (Some method.Delete) = omega arith
method_place_below (Some method.Mkcol) = omega arith
method_place_below (Some method.Report) = omega arith
method_place_below None = omega arith

leaf_place_below : (l : Leaf) → leaf_place l ≤ 8
leaf_place_below leaf.ReadTexts = omega arith
leaf_place_below leaf.WriteContent = omega arith
leaf_place_below leaf.WriteProperties = omega arith
leaf_place_below leaf.Bind = omega arith
leaf_place_below leaf.Unbind = omega arith
leaf_place_below leaf.ReadAcl = omega arith
leaf_place_below leaf.WriteAcl = omega arith
leaf_place_below leaf.ReadCurrentUserPrivilegeSet = omega arith
leaf_place_below leaf.ReadNames = omega arith

pub privilege_place_below : (p : Privilege) → privilege_place p ≤ 11
privilege_place_below (privilege.One l) = omega (arith, leaf_place_below l)
privilege_place_below privilege.Read = omega arith
privilege_place_below privilege.Write = omega arith
privilege_place_below privilege.All = omega arith

-- the rows in order are the methods
row_at : (m : Option Method) → get_or rows (method_place m) None ≡ m
unfolding rows
row_at (Some method.Get) = refl
row_at (Some method.Head) = refl
row_at (Some method.Options) = refl
row_at (Some method.Put) = refl
row_at (Some method.Propfind) = refl
row_at (Some method.Proppatch) = refl
row_at (Some method.Acl) = refl
row_at (Some method.Copy) = refl
row_at (Some method.Move) = refl
row_at (Some method.Delete) = refl
row_at (Some method.Mkcol) = refl
row_at (Some method.Report) = refl
row_at None = refl

pub methods_apart : (m n : Option Method) → method_place m ≡ method_place n → m ≡ n
methods_apart m n same = sym (row_at m) ∙ ap (λ i. get_or rows i None) same ∙ row_at n

leaf_at : (l : Leaf) → get_or deniable (leaf_place l) privilege.All ≡ privilege.One l
unfolding deniable
leaf_at leaf.ReadTexts = refl
leaf_at leaf.WriteContent = refl
leaf_at leaf.WriteProperties = refl
leaf_at leaf.Bind = refl
leaf_at leaf.Unbind = refl
leaf_at leaf.ReadAcl = refl
leaf_at leaf.WriteAcl = refl
leaf_at leaf.ReadCurrentUserPrivilegeSet = refl
leaf_at leaf.ReadNames = refl

privilege_at : (p : Privilege) → get_or deniable (privilege_place p) privilege.All ≡ p
unfolding deniable
privilege_at (privilege.One l) = leaf_at l
privilege_at privilege.Read = refl
privilege_at privilege.Write = refl
privilege_at privilege.All = refl

pub privileges_apart : (p q : Privilege) → privilege_place p ≡ privilege_place q → p ≡ q
privileges_apart p q same = sym (privilege_at p) ∙ ap (λ i. get_or deniable i privilege.All) same ∙ privilege_at q
