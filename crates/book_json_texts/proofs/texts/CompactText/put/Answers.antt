use Rattle.std.proofs.Common.{[], ◌∷◌, ◌++◌, ap, ◌∙◌, rules}
use Rattle.json.specs.Reads.{token_of}
use Rattle.book_json_texts.proofs.Written.{pushed, pushed_tokens}
use Rattle.book_json_texts.proofs.texts.CompactText.put.Goals as goal

pub invariant_of-self : goal.invariant_of-self
invariant_of-self c =
    let t = c.self.inside in
    pushed t.bytes.items c.put_token.new.bytes.items t.len c.in-Ok.end t.after_value c.ends_value-self-inside.result (token_of c.args.token)
    c.self.invariant c.requires (search rules) c.ends_value-self-inside.ensures c.in-Ok.ensures.text

pub returns-in-Ok-clause-ok : goal.returns-in-Ok-clause-ok
returns-in-Ok-clause-ok c =
    let t = c.self.inside in
    pushed_tokens t.bytes.items c.put_token.new.bytes.items t.len c.in-Ok.end t.after_value c.ends_value-self-inside.result (token_of c.args.token)
    c.self.invariant c.requires (search rules) c.ends_value-self-inside.ensures c.in-Ok.ensures.text
    ∙ ap (λ ts. ts ++ token_of c.args.token ∷ []) c.self.view_is
