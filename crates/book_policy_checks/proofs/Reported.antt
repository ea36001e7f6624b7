-- What is told of a text, and its lines.
use Rattle.std.proofs.Common.{◌≡◌, ◌<◌, ◌+◌, ℕ, suc, List, [], ◌∷◌, ◌++◌, length, drop, get_or, true, codes, refl, sym, ap, ◌∙◌, subst, arith, append_assoc}
use Rattle.std.specs.Prelude.{Option}
use Rattle.std.proofs.Math.Seq.{drop-cons}
use Rattle.std.specs.Str.{IsUtf8}
use Rattle.book_policy_checks.specs.Reports.{AddsFault, AddsFaults, AreLinesOf, IsReportOf, head_text, is_one_line, joined, more_text}
use Rattle.book_policy_faults.specs.declared.places.PlacedFault.{PlacedFault}
use Rattle.book_policy_checks.specs.Telling.{TellsChecked, TellsReport}
use Rattle.book_policy_checks.specs.declared.reports.Report.{Report}
use Rattle.book_policy_checks.specs.declared.telling.Checked.{Checked}
use Rattle.book_policy_checks.specs.declared.telling.Checked.TheVariants as checked

nothing : (xs : List ℕ) → xs ++ [] ≡ xs
nothing [] = refl
nothing (x ∷ xs) = ap (λ ys. x ∷ ys) (nothing xs)

pub two_parts : (old mid new head tail : List ℕ) → mid ≡ old ++ head → new ≡ mid ++ (tail ++ codes "\n")
    → new ≡ old ++ ((head ++ tail) ++ codes "\n")
two_parts old mid new head tail m n =
    n ∙ ap (λ t. t ++ (tail ++ codes "\n")) m ∙ append_assoc old head (tail ++ codes "\n")
    ∙ ap (λ t. old ++ t) (sym (append_assoc head tail (codes "\n")))

pub adds_fault : (old new head tail : List ℕ) (f : PlacedFault) → head ≡ head_text f → is_one_line tail ≡ true
    → new ≡ old ++ ((head ++ tail) ++ codes "\n") → AddsFault old new f
adds_fault old new head tail f h one e = (head ++ tail, (tail, one, ap (λ t. t ++ tail) h), e)

pub adds_none : (old : List ℕ) (fs : List PlacedFault) → fs ≡ [] → AddsFaults old old fs
adds_none old fs e = subst (AddsFaults old old) (sym e) ([], tt, sym (nothing old))

adds_cons : (old mid new : List ℕ) (f : PlacedFault) (fs gs : List PlacedFault) → gs ≡ f ∷ fs → AddsFault old mid f
    → AddsFaults mid new fs → AddsFaults old new gs
adds_cons old mid new f fs gs cut (line, is, e) (lines, are, g) =
    subst (AddsFaults old new) (sym cut)
    (line ∷ lines, (is, are), g ∙ ap (λ t. t ++ joined lines) e ∙ append_assoc old (line ++ codes "\n") (joined lines))

-- the line of the next one
pub adds_next : (old mid new : List ℕ) (fs : List PlacedFault) (i : ℕ) (d : PlacedFault) → i < length fs
    → AddsFault old mid (get_or fs i d) → AddsFaults mid new (drop (i + 1) fs) → AddsFaults old new (drop i fs)
adds_next old mid new fs i d within one rest =
    let next : suc i ≡ i + 1 = omega arith in
    adds_cons old mid new (get_or fs i d) (drop (i + 1) fs) (drop i fs)
    (drop-cons fs i d within ∙ ap (λ k. get_or fs i d ∷ drop k fs) next) one rest

pub all_text : (mid new old : List ℕ) (fs : List PlacedFault) (more : ℕ) → old ≡ [] → AddsFaults old mid fs → new ≡ mid ++ more_text more
    → (lines : List (List ℕ)) × AreLinesOf fs lines × (new ≡ joined lines ++ more_text more)
all_text mid new old fs more empty (lines, are, e) n =
    (lines, are, n ∙ ap (λ t. t ++ more_text more) (e ∙ ap (λ t. t ++ joined lines) empty))

-- what is told of the bytes of a text is what is told of its report
pub tells : (bytes : List ℕ) (held holds : Option (List ℕ)) (report : Report) (told : Checked) → IsUtf8 bytes → IsReportOf bytes report
    → TellsReport held holds report told → TellsChecked bytes held holds told
tells bytes held holds report checked.Sound utf8 is t = (utf8, (report, is, t))
tells bytes held holds report (checked.Faulty whole) utf8 is t = (utf8, (report, is, t))
tells bytes held holds report checked.NotUtf8 utf8 is t = absurd t
tells bytes held holds report checked.Memory utf8 is t = t
