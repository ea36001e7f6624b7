-- A whole request at the front, and its exchange.
use Rattle.book_wire.proofs.Common.{◌≡◌, ℕ, ◌+◌, ◌-◌, ◌<◌, ◌≤◌, List, ◌++◌, length, take, drop, Option, refl, sym, ap, ◌∙◌, arith, take-append-drop, take_at, length-take, length-take-le, length-drop, RequestHead, print_request, Serving, Reply, Request, Asked, Exchange, reply_text, Takes}
use Rattle.std.proofs.Common.{Ok}
use Rattle.book_wire.specs.Requests.{caller_name}
use Rattle.book_wire_serving.specs.Serving.{ServesAny}
use Rattle.book_wire.specs.Head.{asked_of_head}
use Rattle.book_wire.specs.Stream.{IsAskedBy, IsHead, IsExchange}
use Rattle.book_wire.proofs.Known.{take_further}

abbrev pub body_in : List ℕ → ℕ → Asked → List ℕ
body_in unread n asked = take (n + asked.length - n) (drop n unread)

abbrev pub exchange : List ℕ → ℕ → Asked → Option Request → Reply → Exchange
exchange unread n asked request reply = record {
  text = take (n + asked.length) unread;
  asked = asked;
  body = body_in unread n asked;
  request = request;
  reply = reply;
}

pub is_exchange : (unread : List ℕ) (h : RequestHead) (n : ℕ) (asked : Asked) (request : Option Request) (reply : Reply)
    → IsHead h → unread ≡ print_request h ++ drop n unread → n ≡ length (print_request h) → asked_of_head h ≡ Ok asked
    → asked.length ≤ length unread - n → IsAskedBy asked (body_in unread n asked) request reply
    → IsExchange (exchange unread n asked request reply)
is_exchange unread h n asked request reply is_head split n_is asks fits is =
    let rest : n + asked.length - n ≡ asked.length = omega arith in
    let front : take n unread ≡ print_request h = ap (take n) split ∙ take_at (print_request h) (drop n unread) n (sym n_is) in (
      record {
        head = h;
        is_head = is_head;
        text_is =
            sym (take_further unread n asked.length)
            ∙ ap (λ (t : List ℕ). t ++ take asked.length (drop n unread)) front
            ∙ ap (λ (k : ℕ). print_request h ++ take k (drop n unread)) (sym rest);
        asks = asks;
        whole = ap (λ (k : ℕ). length (take k (drop n unread))) rest
            ∙ length-take-le asked.length (drop n unread) (omega (arith, length-drop n unread));
      },
      is,
    )

pub takes : (before after : Serving) (unread : List ℕ) (n : ℕ) (asked : Asked) (request : Option Request) (reply : Reply)
    → 0 < n → n ≤ length unread → ServesAny before after (caller_name asked.caller) request reply
    → Takes before unread (reply_text (exchange unread n asked request reply)) (exchange unread n asked request reply) after (drop (n + asked.length) unread)
takes before after unread n asked request reply positive fits serves = record {
  unread_is = sym (take-append-drop (n + asked.length) unread);
  written_is = refl;
  serves = serves;
  not_empty = omega (arith, length-take (n + asked.length) unread);
}
