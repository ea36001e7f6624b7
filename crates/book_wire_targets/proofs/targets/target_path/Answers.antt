use Rattle.std.proofs.Common.{◌∙◌, sym}
use Rattle.book_wire_targets.proofs.Texts.{path_named, itself, itself_only, of_url, to_url, url_only}
use Rattle.book_wire_targets.proofs.targets.target_path.Goals as goal

pub returns-then-has_slash : goal.returns-then-has_slash
returns-then-has_slash c =
    let target = c.args.text.now in
    let slash = sym c.has_slash.ensures ∙ c.if-has_slash.true in
    path_named target target (itself target slash) (itself_only target slash) c.path_in.result c.path_in.ensures

pub returns-in-Some : goal.returns-in-Some
returns-in-Some c =
    let target = c.args.text.now in
    let none = sym c.has_slash.ensures ∙ c.if-has_slash.false in
    let web = rw c.in-Some.is at c.in_ok-path.ensures in
    let text = c.as_str.result.now in
    let is = rw (sym c.as_str.ensures.value) at web in
    path_named target text (of_url target text none is) (url_only target text none is) c.path_in-in-Some.result c.path_in-in-Some.ensures

pub returns-in-None : goal.returns-in-None
returns-in-None c = λ text named.
    let target = c.args.text.now in
    let none = sym c.has_slash.ensures ∙ c.if-has_slash.false in
    let web = rw c.in-None.is at c.in_ok-path.ensures in
    absurd (web text (to_url target text none named))
