-- A log that is read line by line: the lines so far, and what is counted of them.
use Rattle.std.proofs.Common.{◌≡◌, ℕ, ◌+◌, List, [], ◌∷◌, ◌++◌, length, Option, Some, None, IfSome, refl, sym, ap, subst, ◌∙◌, arith, append_assoc, append-nil, length-append}
use Rattle.std.specs.FinMap as map
use Rattle.std.specs.Io.KnownBytes.{Consumes, IsAtEnd}
use Rattle.book_office_values.specs.Names.{NamesTo}
use Rattle.book_log_lines.specs.Lines.{line_text}
use Rattle.book_log_lines.specs.declared.lines.Line.{Line}
use Rattle.book_log_denials.proofs.LinesInTurn.{counts_all, lines_and_one}
use Rattle.book_log_denials.proofs.Texts.{lines_more}
use Rattle.book_log_denials.specs.Denials.{told_in, with_lines}
use Rattle.book_log_denials.specs.Reading.{log_text}
use Rattle.book_log_denials.specs.Tallies.{with_told}
use Rattle.book_log_denials.specs.declared.forms.Form.{Form}
use Rattle.book_log_denials.specs.declared.tallies.Tally.{Tally}
use Rattle.book_log_denials.specs.declared.faults.Unread.{Unread}
use Rattle.book_log_denials.specs.declared.faults.Unread.TheVariants as unread
use Rattle.book_desk_denials.specs.Denying.{Counts, IsAfterLines, Stops, fault_of}
use Rattle.book_desk_denials.specs.declared.counting.Uncounted.{Uncounted}

-- the reader has lost these lines, and the groups are those of their denials; the next line has that number
pub record HasCounted (form : Form) (since : Option (List ℕ)) (before now : Option (List ℕ)) (groups : NamesTo Tally) (number : ℕ) : Type 0 where
  pub lines : List Line
  pub consumed : Consumes before now (log_text lines)
  pub counted : groups ≡ with_lines form since map.empty lines
  pub numbered : number ≡ length lines + 1

nothing_lost : (r : Option (List ℕ)) → Consumes r r []
nothing_lost None = tt
nothing_lost (Some xs) = refl

lost_then : (u v w : Option (List ℕ)) (a b : List ℕ) → Consumes u v a → Consumes v w b → Consumes u w (a ++ b)
lost_then None v w a b x y = tt
lost_then (Some xs) None w a b x y = absurd x
lost_then (Some xs) (Some ys) None a b x y = y
lost_then (Some xs) (Some ys) (Some zs) a b x y = x ∙ ap (λ (t : List ℕ). a ++ t) y ∙ sym (append_assoc a b zs)

lost_all : (u v : Option (List ℕ)) (a : List ℕ) → Consumes u v a → IsAtEnd v → IfSome u (λ text. text ≡ a)
lost_all None v a x end = tt
lost_all (Some xs) None a x end = absurd x
lost_all (Some xs) (Some ys) a x end = x ∙ ap (λ t. a ++ t) end ∙ append-nil a

lost_front : (u v : Option (List ℕ)) (a : List ℕ) → Consumes u v a → IfSome u (λ text. (rest : List ℕ) × (text ≡ a ++ rest))
lost_front None v a x = tt
lost_front (Some xs) None a x = absurd x
lost_front (Some xs) (Some ys) a x = (ys, x)

module _ (form : Form) (since : Option (List ℕ)) (before : Option (List ℕ)) where
  -- before the first line
  pub none_counted : (groups : NamesTo Tally) → groups ≡ map.empty → HasCounted form since before before groups 1
  none_counted groups is = record { lines = []; consumed = nothing_lost before; counted = is; numbered = refl }

  module _ (now : Option (List ℕ)) (groups : NamesTo Tally) (number : ℕ) (has : HasCounted form since before now groups number) where
    -- one line more
    pub one_counted : (after : Option (List ℕ)) (text : List ℕ) (line : Line) (new : NamesTo Tally) → Consumes now after text → text ≡ line_text line
        → new ≡ with_told groups (told_in form since line) → HasCounted form since before after new (number + 1)
    one_counted after text line new lost is told = record {
      lines = has.lines ++ line ∷ [];
      consumed = subst (Consumes before after) (ap (λ t. log_text has.lines ++ t) is ∙ sym (lines_more has.lines line)) (lost_then before now after (log_text has.lines) text has.consumed lost);
      counted = told ∙ ap (λ m. with_told m (told_in form since line)) has.counted ∙ sym (lines_and_one form since has.lines line map.empty);
      numbered = ap (λ n. n + 1) has.numbered ∙ sym (ap (λ n. n + 1) (length-append has.lines (line ∷ [])));
    }

    -- at the end
    pub all_counted : IsAtEnd now → Counts form since before groups
    all_counted end = record {
      lines = has.lines;
      read = lost_all before now (log_text has.lines) has.consumed end;
      counted = λ group. ap (λ m. map.get m group) has.counted ∙ counts_all form since has.lines group;
    }

    -- at a line that is none
    pub stopped : IsAfterLines before number
    stopped = record { lines = has.lines; numbered = has.numbered; front = lost_front before now (log_text has.lines) has.consumed }

    -- why it stops at a line
    pub stops : (u : Unread) (fault : Uncounted) → fault ≡ fault_of u number → Stops before fault
    stops unread.Memory fault is = subst (Stops before) (sym is) tt
    stops unread.Bad fault is = subst (Stops before) (sym is) stopped
