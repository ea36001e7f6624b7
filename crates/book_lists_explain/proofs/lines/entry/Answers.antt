use Rattle.book_lists_explain.proofs.Common.{◌≡◌, ◌∷◌, ◌∙◌, ◌≢◌, sym, ap, subst, inr, refl, Err, codes, List, ℕ, false≢true, bytes_eq, Entry, Who, ExplainFaultKind, BadName, UnknownPrivilege, OrMemory, FaultOfWords, IsWho, AreLeaves, WordsSay}
use Rattle.book_lists.proofs.Pairing.{same_path}
use Rattle.book_lists_explain.specs.declared.lines.Line.TheVariants.{Listed}
use Rattle.book_lists_explain.specs.Lines.{action, inverted}
use Rattle.book_lists_explain.proofs.LineFaults.{texts, word_at, rest_of, first_rest, some_texts, passed_on, or_memory, from_none, if_some, entry_told, entry_bad, entry_unknown, no_names, not_twice, none_left}
use Rattle.book_lists_explain.proofs.lines.entry.Goals as goal
use Rattle.book_lists_explain.proofs.lines.entry.Goals.{then-is_empty-via-then-is_empty, then-is_empty-via-else-is_empty+then-eq}

pub returns-then-is_empty-clause-faulty : goal.returns-then-is_empty-clause-faulty
returns-then-is_empty-clause-faulty c =
    let ws = c.args.words.now in
    let split = first_rest ws c.in-len1-up.len_at_least in
    elim c.then-is_empty.branch [
      | then-is_empty-via-then-is_empty w ↦ inr (no_names c.args.deny c.args.invert (texts ws) (word_at ws 0)
          (ap (λ vs. word_at ws 0 ∷ vs) (sym (none_left (rest_of ws) c.is_empty.result c.is_empty.ensures w.if-is_empty.true)) ∙ split))
      | then-is_empty-via-else-is_empty+then-eq w ↦ inr (not_twice c.args.deny c.args.invert (texts ws) (texts (rest_of ws))
          (ap (λ v. v ∷ texts (rest_of ws)) (sym (same_path (word_at ws 0) (codes "not") (sym w.eq.ensures ∙ w.if-eq.true))) ∙ split) c.requires)
    ]

pub returns-in_err-who-clause-faulty : goal.returns-in_err-who-clause-faulty
returns-in_err-who-clause-faulty c =
    let ws = c.args.words.now in
    let word = word_at ws 0 in
    let split = first_rest ws c.in-len1-up.len_at_least in
    let some = some_texts (rest_of ws) c.is_empty.result c.is_empty.ensures c.if-is_empty.false in
    let proper : word ≢ codes "not" = λ e. false≢true (sym c.if-eq.false ∙ c.eq.ensures ∙ ap (λ w. bytes_eq w (codes "not")) e) in
    let P : ExplainFaultKind → Type 0 = λ kind. (kind ≡ BadName) × ((who : Who) → IsWho word who → ⊥) in
    let Q : ExplainFaultKind → Type 0 = FaultOfWords (action c.args.deny ∷ inverted c.args.invert (texts ws)) in
    let R : List (List ℕ) → Type 0 = λ vs. FaultOfWords (action c.args.deny ∷ inverted c.args.invert vs) BadName in
    passed_on c.from_residual.result (OrMemory Q) c.in_err-who.field-0.0 c.from_residual.ensures.1
    (or_memory P Q c.in_err-who.field-0.0
    (λ b. subst Q (sym b.0) (subst R split (entry_bad c.args.deny c.args.invert word proper (texts (rest_of ws)) some b.1))) c.in_err-who.ensures.bad)

pub returns-in_err-set-clause-faulty : goal.returns-in_err-set-clause-faulty
returns-in_err-set-clause-faulty c =
    let ws = c.args.words.now in
    let word = word_at ws 0 in
    let split = first_rest ws c.in-len1-up.len_at_least in
    let some = some_texts (rest_of ws) c.is_empty.result c.is_empty.ensures c.if-is_empty.false in
    let proper : word ≢ codes "not" = λ e. false≢true (sym c.if-eq.false ∙ c.eq.ensures ∙ ap (λ w. bytes_eq w (codes "not")) e) in
    let P : ExplainFaultKind → Type 0 = OrMemory (FaultOfWords (action c.args.deny ∷ inverted c.args.invert (texts ws))) in
    let R : List (List ℕ) → Type 0 = λ vs. FaultOfWords (action c.args.deny ∷ inverted c.args.invert vs) UnknownPrivilege in
    passed_on c.from_residual-in_err-set.result P c.in_err-set.field-0.0 c.from_residual-in_err-set.ensures.1
    (from_none (Err c.in_err-set.field-0.0) c.leaves.result UnknownPrivilege _ P c.in_err-set.ensures.value c.leaves.ensures.unknown
    (λ unknown. inr (subst R split (entry_unknown c.args.deny c.args.invert word proper (texts (rest_of ws)) c.in_ok-who.who some c.in_ok-who.ensures.named unknown))))

pub returns-clause-told : goal.returns-clause-told
returns-clause-told c =
    let ws = c.args.words.now in
    let word = word_at ws 0 in
    let names = texts (rest_of ws) in
    let split = first_rest ws c.in-len1-up.len_at_least in
    let some = some_texts (rest_of ws) c.is_empty.result c.is_empty.ensures c.if-is_empty.false in
    let proper : word ≢ codes "not" = λ e. false≢true (sym c.if-eq.false ∙ c.eq.ensures ∙ ap (λ w. bytes_eq w (codes "not")) e) in
    let entry : Entry = record { who = c.in_ok-who.who; invert = c.args.invert; deny = c.args.deny; set = c.in_ok-set.set } in
    let R : List (List ℕ) → Type 0 = λ vs. WordsSay (action c.args.deny ∷ inverted c.args.invert vs) (Listed entry) in
    subst R split (entry_told c.args.deny c.args.invert word proper names entry some refl refl c.in_ok-who.ensures.named
    (if_some c.leaves.result (AreLeaves names) c.in_ok-set.set c.in_ok-set.ensures.ok_part c.leaves.ensures.known))
