use Rattle.book_questions_json.proofs.ToldWords.{words_told}
use Rattle.book_questions_json.proofs.laws.objects_tell_the_words.Goals as goal

pub returns : goal.returns
returns c = words_told
