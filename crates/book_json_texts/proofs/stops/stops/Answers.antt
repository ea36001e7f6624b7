use Rattle.std.proofs.Common.{◌%◌, ◌^◌, map, ap, ◌∙◌, arith}
use Rattle.std.proofs.lemmas.List.{length-map}
use Rattle.std.proofs.lemmas.Simd.{mask_l-mod}
use lib.Lanes.{mask_l}
use Rattle.json.specs.Run.{is_stop}
use Rattle.book_json_texts.proofs.Runs.{stops_found}
use Rattle.book_json_texts.proofs.stops.stops.Goals as goal

pub returns : goal.returns
returns c =
    let v = c.args.bytes in
    ap (λ l. mask_l l % 2 ^ 64) (stops_found v 16 c.fits-bytes.0) ∙ mask_l-mod (map is_stop v) 64 (omega (arith, c.fits-bytes.0, length-map v is_stop))
