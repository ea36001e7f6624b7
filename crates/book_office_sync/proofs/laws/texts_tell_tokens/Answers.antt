use Rattle.book_office_sync.proofs.TokenTexts.{one_token}
use Rattle.book_office_sync.proofs.laws.texts_tell_tokens.Goals as goal

pub returns : goal.returns
returns c = one_token
