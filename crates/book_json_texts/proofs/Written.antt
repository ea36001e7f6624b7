-- What a text shows, and what one more token does to it.
use Rattle.std.proofs.Common.{◌≡◌, ℕ, ◌≤◌, Bool, false, List, [], ◌∷◌, ◌++◌, length, take, sym, ap, ◌∙◌}
use Rattle.json.specs.Lex.{tokens}
use Rattle.json.specs.Print.{ends, IsPrintable, print, separator, token_text}
use Rattle.json.specs.Token.{Token}
use Rattle.json.proofs.Printed.Tokens.{ArePrintable-push, ends_push, print_from_push, tokens-print}
use Rattle.book_json_texts.specs.Texts.{IsTextOf}

-- the reader finds the tokens that were written
found : (buffer : List ℕ) (len : ℕ) (after : Bool) (h : IsTextOf buffer len after) → tokens (take len buffer) ≡ h.printed
found buffer len after h = ap tokens h.text ∙ tokens-print h.printed h.printable

pub shown : (buffer : List ℕ) (len : ℕ) (after : Bool) → IsTextOf buffer len after → take len buffer ≡ print (tokens (take len buffer))
shown buffer len after h = h.text ∙ ap print (sym (found buffer len after h))

-- nothing was written
pub kept : (old new : List ℕ) (len : ℕ) (after : Bool) → IsTextOf old len after → take len new ≡ take len old → len ≤ length new → IsTextOf new len after
kept old new len after h same within =
    record { within = within; printed = h.printed; printable = h.printable; text = same ∙ h.text; place = h.place }

module _ (old new : List ℕ) (len end : ℕ) (before after : Bool) (t : Token) (h : IsTextOf old len before) (printable : IsPrintable t)
    (within : end ≤ length new) (place : after ≡ ends t) (wrote : take end new ≡ take len old ++ (separator before t ++ token_text t)) where
  text_pushed : take end new ≡ print (h.printed ++ t ∷ [])
  text_pushed = wrote ∙ (λ i. h.text i ++ (separator (h.place i) t ++ token_text t)) ∙ sym (print_from_push false h.printed t)

  pub pushed : IsTextOf new end after
  pushed = record {
    within = within;
    printed = h.printed ++ t ∷ [];
    printable = ArePrintable-push h.printed t h.printable printable;
    text = text_pushed;
    place = place ∙ sym (ends_push false h.printed t);
  }

  pub pushed_tokens : tokens (take end new) ≡ tokens (take len old) ++ t ∷ []
  pushed_tokens =
      ap tokens text_pushed ∙ tokens-print (h.printed ++ t ∷ []) (ArePrintable-push h.printed t h.printable printable)
      ∙ ap (λ l. l ++ t ∷ []) (sym (found old len before h))
