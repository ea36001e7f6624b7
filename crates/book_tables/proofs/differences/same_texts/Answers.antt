use Rattle.book_tables.proofs.Common.{◌≡◌, ℕ, ◌<◌, length, get_or, string_bytes, refl, rules, sym, ap, ◌∙◌}
use Rattle.std.proofs.Common.{String}
use Rattle.std.proofs.lemmas.Bool.{false≢true}
use Rattle.std.specs.declared.alloc.Global.{Global}
use Rattle.book_tables.proofs.FoundMembers.{same_told, same_at}
use Rattle.book_tables.proofs.differences.same_texts.Goals as goal

pub returns : goal.returns
returns c =
    let len : length c.args.texts.now ≡ length c.args.others.now = search rules in
    let each : (k : ℕ) (d : String Global) → k < length c.args.texts.now → string_bytes (get_or c.args.texts.now k d) ≡ string_bytes (get_or c.args.others.now k d) = search rules in
    (λ _. same_told string_bytes c.args.texts.now c.args.others.now len each, λ _. refl)

pub returns-then-not-same_text : goal.returns-then-not-same_text
returns-then-not-same_text c =
    let len : length c.args.texts.now ≡ length c.args.others.now = search rules in
    let within : c.loop-i.i < length c.args.texts.now = search rules in
    let apart : string_bytes c.index-texts-i.result ≡ string_bytes c.index-others-i.result → ⊥ = search rules in
    let text : get_or c.args.texts.now c.loop-i.i c.index-texts-i.result ≡ c.index-texts-i.result = search rules in
    let other : get_or c.args.others.now c.loop-i.i c.index-others-i.result ≡ c.index-others-i.result = search rules in
    let same = same_at string_bytes c.args.texts.now c.args.others.now in
    (λ e. absurd (false≢true e), λ is. absurd (apart (ap string_bytes (sym text) ∙ same is len c.loop-i.i c.index-texts-i.result c.index-others-i.result within ∙ ap string_bytes other)))
