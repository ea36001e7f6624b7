-- Which texts are vCards of version 4.0 (RFC 6350, sections 3.3 and 6). That 65,536 bytes are the most, that
-- empty lines may follow the end, and that BEGIN and END may stand nowhere else are own profile.
use Rattle.std.specs.Prelude.{◌≡◌, ℕ, ◌≤◌, true, false, List, [], ◌∷◌, ◌++◌, length, take, drop, codes}
use Rattle.std.specs.List.{list_any, AllByRecursion}
use Rattle.std.specs.Str.{str_eq_ignore_ascii_case, bytes_eq}
use Rattle.std.specs.Str.Lines.{lines}
use Rattle.book_cards.specs.Folding.{unfolded}
use Rattle.book_cards.specs.ContentLine.{Fields, IsContentLine}
use Rattle.book_cards.specs.Properties.{property_of, has, count_of, is_group, is_version, is_formatted_name, is_uid, is_kind, is_member}
use Rattle.book_cards.specs.Content.{is_control, may_have}
use Rattle.book_cards.specs.CardText.{is_end}
use Rattle.book_limits.specs.declared.TheConstants.{MAX_CARD_BYTES}

-- a line of the grammar with no control character, whose property may have its value
pub record IsContent (line : List ℕ) : Type 0 where
  pub fields : Fields
  pub grammar : IsContentLine line fields
  pub plain : list_any is_control line ≡ false
  pub value : may_have (property_of fields.name) fields.value ≡ true

-- the lines of a card: BEGIN, VERSION 4.0, content lines of which none is the end, the end, and then empty lines
pub record AreCardLines (text_lines : List (List ℕ)) : Type 0 where
  pub first : List ℕ
  pub second : List ℕ
  pub content : List (List ℕ)
  pub last : List ℕ
  pub blanks : List (List ℕ)
  pub parts : text_lines ≡ first ∷ second ∷ (content ++ last ∷ blanks)
  pub begins : str_eq_ignore_ascii_case first (codes "BEGIN:VCARD") ≡ true
  pub has_version : str_eq_ignore_ascii_case (take 8 second) (codes "VERSION:") ≡ true
  pub is_four : bytes_eq (drop 8 second) (codes "4.0") ≡ true
  pub each : AllByRecursion IsContent content
  pub goes_on : AllByRecursion (λ line. is_end line ≡ false) content
  pub ends : is_end last ≡ true
  pub blank : AllByRecursion (λ line. line ≡ []) blanks
  -- FN at least once, KIND and UID at most once, VERSION at line 2 alone, MEMBER in groups alone
  pub named : has is_formatted_name content ≡ true
  pub one_kind : count_of is_kind content ≤ 1
  pub one_uid : count_of is_uid content ≤ 1
  pub no_version : has is_version content ≡ false
  pub group : has is_member content ≡ true → is_group content ≡ true

-- a text is a card
pub record IsCard (text : List ℕ) : Type 0 where
  pub short : length text ≤ MAX_CARD_BYTES
  pub card : AreCardLines (lines (unfolded text))
