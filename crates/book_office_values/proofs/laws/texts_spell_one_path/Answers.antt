use Rattle.book_office_values.proofs.Spelling.{one_path, one_text}
use Rattle.book_office_values.proofs.laws.texts_spell_one_path.Goals as goal

pub returns-clause-spelled : goal.returns-clause-spelled
returns-clause-spelled c = one_path

pub returns-clause-told : goal.returns-clause-told
returns-clause-told c = one_text
