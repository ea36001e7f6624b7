-- The path that a target asks for.
use Rattle.std.proofs.Common.{◌≡◌, ◌∙◌, ℕ, Bool, true, false, List, Option, Some, None, Result, refl, sym, ap, subst}
use Rattle.std.specs.Prelude.{IfOk}
use Rattle.std.proofs.lemmas.Result.{IfOk-weaker}
use Rattle.std.specs.declared.alloc.AllocError.{AllocError}
use Rattle.url.specs.Parts.{Parts}
use Rattle.book_office_values.specs.Paths.{SpellsNone}
use Rattle.book_office_values.specs.declared.paths.Path.{Path}
use Rattle.book_wire_targets.specs.Targets.{IsPathIn, IsPathOf, IsPathText, IsPathTextBy, IsWebPath, begins_with_slash}

module _ (target text : List ℕ) (named : IsPathText target text) (only : (other : List ℕ) → IsPathText target other → other ≡ text) where
  path_of : (found : Option Path) → IsPathIn text found → IsPathOf target found
  path_of (Some p) x = (text, named, x.0, x.1)
  path_of None x = λ other is. subst (λ (t : List ℕ). SpellsNone t) (sym (only other is)) x

  pub path_named : (r : Result (Option Path) AllocError) → IfOk r (IsPathIn text) → IfOk r (IsPathOf target)
  path_named r x = IfOk-weaker r _ _ (λ found y. path_of found y) x

pub itself : (target : List ℕ) → begins_with_slash target ≡ true → IsPathText target target
itself target e = subst (λ (b : Bool). IsPathTextBy b target target) (sym e) refl

pub itself_only : (target : List ℕ) → begins_with_slash target ≡ true → (other : List ℕ) → IsPathText target other → other ≡ target
itself_only target e other is = subst (λ (b : Bool). IsPathTextBy b target other) e is

pub of_url : (target path : List ℕ) → begins_with_slash target ≡ false → IsWebPath target path → IsPathText target path
of_url target path e is = subst (λ (b : Bool). IsPathTextBy b target path) (sym e) is

pub to_url : (target path : List ℕ) → begins_with_slash target ≡ false → IsPathText target path → IsWebPath target path
to_url target path e is = subst (λ (b : Bool). IsPathTextBy b target path) e is

one_path : (target a b : List ℕ) → IsWebPath target a → IsWebPath target b → b ≡ a
one_path target a b x y =
    let p = x.1 in
    let q = y.1 in
    let same : x.0 ≡ y.0 = cc (p, q) in
    sym y.5 ∙ ap (λ (u : Parts). u.path) (sym same) ∙ x.5

pub url_only : (target path : List ℕ) → begins_with_slash target ≡ false → IsWebPath target path
    → (other : List ℕ) → IsPathText target other → other ≡ path
url_only target path e is other named = one_path target path other is (to_url target other e named)
