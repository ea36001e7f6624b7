-- Sync tokens, and how they are spelled (RFC 6578, section 4, asks for a URI; this form of it is own profile).
use Rattle.std.specs.Prelude.{◌≡◌, ◌≢◌, ℕ, ◌≤◌, ◌++◌, List, codes, decimal}
use Rattle.book_lists.specs.Names.{IsName}
use Rattle.book_limits.specs.declared.TheConstants.{LAST_NUMBER}
use Rattle.book_office_sync.specs.declared.messages.Token.{Token}

-- a token: the name of a book, an epoch and a number, neither of them above the last
pub record IsToken (token : Token) : Type 0 where
  pub book : IsName token.book
  pub epoch : token.epoch ≤ LAST_NUMBER
  pub number : token.number ≤ LAST_NUMBER

-- `data:,BOOK/EPOCH/NUMBER`, in decimal digits without leading zeros
abbrev pub token_text : Token → List ℕ
token_text token = codes "data:," ++ token.book ++ codes "/" ++ decimal token.epoch ++ codes "/" ++ decimal token.number

-- a text that is no token's
abbrev pub IsNoToken : List ℕ → Type 0
IsNoToken text = (token : Token) → IsToken token → text ≢ token_text token

-- different tokens have different texts
abbrev pub TextsTellTokens : Type 0
TextsTellTokens = (s t : Token) → IsToken s → IsToken t → token_text s ≡ token_text t → s ≡ t
