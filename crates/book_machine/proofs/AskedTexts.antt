-- The texts of what is asked are UTF-8 where those of the body are.
use Rattle.book_machine.proofs.Common.{◌≡◌, length, Bool, true, false, Ok, Err, subst, if◌then◌else◌, nat_le, each_once, Asked, Patch, BadRequest}
use Rattle.std.proofs.lemmas.Str.{IsUtf8-nil}
use Rattle.std.specs.Str.{IsUtf8}
use Rattle.book_limits.specs.declared.TheConstants.{MAX_MEMBERS, MAX_LABEL_BYTES}
use Rattle.book_machine.proofs.DestinedCards.{same_Ok}
use Rattle.book_machine.specs.Asked.{put_asked, patch_asked, proppatch_asked}
use Rattle.book_machine.specs.Asking.{HasTexts}
use Rattle.book_machine.specs.declared.asked.Asked.TheVariants as asked
use Rattle.book_machine.specs.declared.messages.Body.{Body}
use Rattle.book_machine.specs.declared.messages.Body.TheVariants as body
use Rattle.book_machine.specs.declared.messages.Patch.TheVariants as patch

-- the texts of what is asked are UTF-8
abbrev pub AsksTexts : Asked → Type 0
AsksTexts asked.Get = Unit {0}
AsksTexts asked.Head = Unit {0}
AsksTexts asked.Options = Unit {0}
AsksTexts (asked.Put text) = IsUtf8 text
AsksTexts (asked.Propfind find) = Unit {0}
AsksTexts (asked.Proppatch (patch.DisplayName label)) = IsUtf8 label
AsksTexts (asked.Proppatch (patch.GroupMembers members)) = Unit {0}
AsksTexts (asked.Acl list) = Unit {0}
AsksTexts (asked.Copy to) = Unit {0}
AsksTexts (asked.Move to) = Unit {0}
AsksTexts asked.Delete = Unit {0}
AsksTexts asked.Mkcol = Unit {0}
AsksTexts (asked.Report which) = Unit {0}

pub put_texts : (b : Body) (what : Asked) → put_asked b ≡ Ok what → HasTexts b → AsksTexts what
put_texts body.Empty what e has = subst AsksTexts (same_Ok _ what e) IsUtf8-nil
put_texts (body.Text text) what e has = subst AsksTexts (same_Ok _ what e) has
put_texts (body.Find properties) what e has = absurd (cc (e))
put_texts (body.Patch p) what e has = absurd (cc (e))
put_texts (body.List list) what e has = absurd (cc (e))
put_texts (body.Report report) what e has = absurd (cc (e))
put_texts body.Unread what e has = absurd (cc (e))

bound_texts : (low : Bool) (p : Patch) (what : Asked) → (if low then Ok (asked.Proppatch p) else Err BadRequest) ≡ Ok what → AsksTexts (asked.Proppatch p) → AsksTexts what
bound_texts true p what e has = subst AsksTexts (same_Ok _ what e) has
bound_texts false p what e has = absurd (cc (e))

patch_texts : (p : Patch) (what : Asked) → patch_asked p ≡ Ok what → HasTexts (body.Patch p) → AsksTexts what
patch_texts (patch.DisplayName label) what e has = bound_texts (nat_le (length label) MAX_LABEL_BYTES) (patch.DisplayName label) what e has
patch_texts (patch.GroupMembers members) what e has = bound_texts (nat_le (length (each_once members)) MAX_MEMBERS) (patch.GroupMembers (each_once members)) what e tt

pub proppatch_texts : (b : Body) (what : Asked) → proppatch_asked b ≡ Ok what → HasTexts b → AsksTexts what
proppatch_texts body.Empty what e has = absurd (cc (e))
proppatch_texts (body.Text text) what e has = absurd (cc (e))
proppatch_texts (body.Find properties) what e has = absurd (cc (e))
proppatch_texts (body.Patch p) what e has = patch_texts p what e has
proppatch_texts (body.List list) what e has = absurd (cc (e))
proppatch_texts (body.Report report) what e has = absurd (cc (e))
proppatch_texts body.Unread what e has = absurd (cc (e))
