use Rattle.std.proofs.Common.{◌≡◌, ◌≤◌, ℕ, Bool, true, ◌&&◌, cond, List, length, Some, None, refl, sym, ap, ◌∙◌, subst, arith, nat_le}
use Rattle.std.proofs.lemmas.Bool.Decides.{nat_tests}
use Rattle.std.proofs.lemmas.Str.{is_utf8-from_IsUtf8}
use Rattle.std.specs.Str.{is_utf8}
use Rattle.book_limits.specs.declared.TheConstants.{MAX_LABEL_BYTES}
use Rattle.book_policy_faults.specs.Values.{short_label}
use Rattle.book_policy.proofs.shapes.short_label.Goals as goal

both : (t : List ℕ) (a b : Bool) → a ≡ true → b ≡ true → Some t ≡ cond (a && b) (Some t) None
both t a b utf8 short =
    subst (λ (x : Bool). Some t ≡ cond (x && b) (Some t) None) (sym utf8) (subst (λ (x : Bool). Some t ≡ cond x (Some t) None) (sym short) refl)

fits : (t : List ℕ) → is_utf8 t ≡ true → length t ≤ MAX_LABEL_BYTES → Some t ≡ short_label t
fits t utf8 short = both t (is_utf8 t) (nat_le (length t) MAX_LABEL_BYTES) utf8 (grind (arith, nat_tests))

pub returns : goal.returns
returns c = ap Some c.in_ok-copy_of.ensures ∙ fits c.args.text.now (is_utf8-from_IsUtf8 c.args.text.now c.utf8.text) (omega arith)
