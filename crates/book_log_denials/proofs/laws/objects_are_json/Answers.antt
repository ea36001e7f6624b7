use Rattle.book_log_denials.proofs.ObjectsAsJson.{objects_are_json}
use Rattle.book_log_denials.proofs.laws.objects_are_json.Goals as goal

pub returns : goal.returns
returns c = objects_are_json
