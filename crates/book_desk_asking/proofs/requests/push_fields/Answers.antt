use Rattle.std.proofs.Common.{◌≡◌, ◌++◌, ◌∙◌, ap, append_assoc, codes, decimal}
use Rattle.std.proofs.lemmas.Result.{on_ok_weaker}
use Rattle.book_desk_asking.proofs.requests.push_fields.Goals as goal

pub returns : goal.returns
returns c =
    let text = c.args.text.now in
    let a = codes " HTTP/1.1\r\nHost: localhost\r\nContent-Length: " in
    let n = decimal c.args.length in
    let e = codes "\r\n\r\n" in
    let first : c.push.new.self ≡ text ++ a = c.in_ok-push.ensures.ok in
    let digits : c.as_bytes.result.now ≡ n = c.as_bytes.ensures.value ∙ c.format.ensures.text in
    let second : c.push-2.new.self ≡ c.push.new.self ++ n = c.in_ok-push-2.ensures.ok ∙ ap (λ t. c.push.new.self ++ t) digits in
    on_ok_weaker c.push-3.result (λ third.
    third ∙ ap (λ t. t ++ e) (second ∙ ap (λ t. t ++ n) first) ∙ append_assoc (text ++ a) n e ∙ append_assoc text a (n ++ e))
    c.push-3.ensures.ok
