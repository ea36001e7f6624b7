-- One step of the writing of a text with its escapes.
use Rattle.std.proofs.Common.{◌≡◌, ℕ, ◌+◌, ◌<◌, ◌≤◌, List, ◌++◌, length, take, drop, get_or, sym, ap, ◌∙◌, arith, append_assoc, drop-drop, take-add, take_at, drop_at}
use Rattle.std.proofs.lemmas.List.{drop_more, take-append-le, take-take, length-take-le}
use Rattle.std.proofs.lemmas.Simd.{take_more_put_chunk}
use Rattle.std.specs.List.{prefix_len}
use lib.Lanes.{put_chunk}
use Rattle.json.specs.Filled.{Placed}
use Rattle.json.specs.Print.{escape, escape_byte}
use Rattle.json.specs.Run.{is_plain}
use Rattle.book_json_texts.proofs.Runs.{run_stays}

-- what stood before a place stays where bytes are written at it or behind it
pub placed_before : (old new xs : List ℕ) (n at end : ℕ) → Placed old new at xs end → n ≤ at → at ≤ length old → take n new ≡ take n old
placed_before old new xs n at end p few within =
    let long : length (take at old) ≡ at = length-take-le at old within in
    sym (take-take n end new (omega (arith, p.moved)))
    ∙ ap (take n) p.bytes
    ∙ take-append-le n (take at old) xs (omega arith)
    ∙ take-take n at old few

-- what two lists share of their beginning, they share of less of it
pub front_less : (xs ys : List ℕ) (k n : ℕ) → k ≤ n → take n xs ≡ take n ys → take k xs ≡ take k ys
front_less xs ys k n few same = sym (take-take k n xs few) ∙ ap (take k) same ∙ take-take k n ys few

-- sixteen bytes were written, of which the first k count
chunk_whole : (i : ℕ) (xs ys : List ℕ) → i + length ys ≤ length xs → take (i + length ys) (put_chunk i xs ys) ≡ take i xs ++ ys
chunk_whole i xs ys fits = take_more_put_chunk i xs ys (i + length ys) (omega arith) fits

pub chunk_placed : (i : ℕ) (xs ys : List ℕ) (k : ℕ) → i + length ys ≤ length xs → k ≤ length ys → take (i + k) (put_chunk i xs ys) ≡ take i xs ++ take k ys
chunk_placed i xs ys k fits few =
    let front : length (take i xs) ≡ i = length-take-le i xs (omega arith) in
    sym (take-take (i + k) (i + length ys) (put_chunk i xs ys) (omega arith))
    ∙ ap (take (i + k)) (chunk_whole i xs ys fits)
    ∙ take-add i k (take i xs ++ ys)
    ∙ (λ j. take_at (take i xs) ys i front j ++ take k (drop_at (take i xs) ys i front j))

pub chunk_before : (i : ℕ) (xs ys : List ℕ) → i + length ys ≤ length xs → take i (put_chunk i xs ys) ≡ take i xs
chunk_before i xs ys fits =
    let front : length (take i xs) ≡ i = length-take-le i xs (omega arith) in
    sym (take-take i (i + length ys) (put_chunk i xs ys) (omega arith))
    ∙ ap (take i) (chunk_whole i xs ys fits) ∙ take_at (take i xs) ys i front

-- a plain run was written
pub run_written : (text v start new : List ℕ) (at k : ℕ) → take k v ≡ take k (drop at text) → k ≤ prefix_len is_plain v → new ≡ start ++ take k v
    → new ++ escape (drop (at + k) text) ≡ start ++ escape (drop at text)
run_written text v start new at k same few wrote =
    let rest = escape (drop (at + k) text) in
    ap (λ l. l ++ rest) wrote ∙ append_assoc start (take k v) rest
    ∙ ap (λ l. start ++ l) (sym (run_stays (drop at text) v k same few ∙ ap (λ l. take k v ++ escape l) (drop-drop k at text)))

-- what stands for one byte was written
pub byte_written : (text start new : List ℕ) (at : ℕ) → at < length text → new ≡ start ++ escape_byte (get_or text at 0)
    → new ++ escape (drop (at + 1) text) ≡ start ++ escape (drop at text)
byte_written text start new at within wrote =
    let rest = escape (drop (at + 1) text) in
    ap (λ l. l ++ rest) wrote ∙ append_assoc start (escape_byte (get_or text at 0)) rest
    ∙ ap (λ l. start ++ l) (sym (ap escape (drop_more text at 0 within)))
