use Rattle.std.proofs.Common.{take, ap, ◌∙◌}
use Rattle.json.specs.Print.{print}
use Rattle.book_json_texts.proofs.Written.{shown}
use Rattle.book_json_texts.proofs.texts.CompactText.as_bytes.Goals as goal

pub returns : goal.returns
returns c =
    let t = c.self.inside in
    ap (take t.len) c.deref.ensures.value ∙ shown t.bytes.items t.len t.after_value c.self.invariant ∙ ap print c.self.view_is
