use Rattle.book_policy_gaps.proofs.Common.{◌≡◌, ◌++◌, string_bytes, subst, sym}
use Rattle.std.specs.Result.{OnOk}
use Rattle.book_policy_gaps.specs.Lines.{gap_line}
use Rattle.book_policy_gaps.proofs.lines.push_gap_line.Goals as goal

pub returns-in-ClosedList : goal.returns-in-ClosedList
returns-in-ClosedList c =
    subst (λ gap. OnOk c.push_at.result (string_bytes c.push_at.new.text ≡ string_bytes c.args.text.now ++ gap_line gap)) (sym c.in-ClosedList.is) c.push_at.ensures

pub returns-in-UnreadByOwner : goal.returns-in-UnreadByOwner
returns-in-UnreadByOwner c =
    subst (λ gap. OnOk c.push_unread.result (string_bytes c.push_unread.new.text ≡ string_bytes c.args.text.now ++ gap_line gap)) (sym c.in-UnreadByOwner.is) c.push_unread.ensures

pub returns-in-OpenedAbove : goal.returns-in-OpenedAbove
returns-in-OpenedAbove c =
    subst (λ gap. OnOk c.push_opened.result (string_bytes c.push_opened.new.text ≡ string_bytes c.args.text.now ++ gap_line gap)) (sym c.in-OpenedAbove.is) c.push_opened.ensures

pub returns-in-KeptByOwners : goal.returns-in-KeptByOwners
returns-in-KeptByOwners c =
    subst (λ gap. OnOk c.push_at-in-KeptByOwners.result (string_bytes c.push_at-in-KeptByOwners.new.text ≡ string_bytes c.args.text.now ++ gap_line gap)) (sym c.in-KeptByOwners.is) c.push_at-in-KeptByOwners.ensures

pub returns-in-KeptByProtected : goal.returns-in-KeptByProtected
returns-in-KeptByProtected c =
    subst (λ gap. OnOk c.push_protected.result (string_bytes c.push_protected.new.text ≡ string_bytes c.args.text.now ++ gap_line gap)) (sym c.in-KeptByProtected.is) c.push_protected.ensures

pub returns-in-ReadByListing : goal.returns-in-ReadByListing
returns-in-ReadByListing c =
    subst (λ gap. OnOk c.push_listing.result (string_bytes c.push_listing.new.text ≡ string_bytes c.args.text.now ++ gap_line gap)) (sym c.in-ReadByListing.is) c.push_listing.ensures
