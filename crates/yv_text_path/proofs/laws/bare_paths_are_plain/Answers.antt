use Rattle.yv_text_path.proofs.PlainForm.{plain_law}
use Rattle.yv_text_path.proofs.laws.bare_paths_are_plain.Goals as goal

pub returns : goal.returns
returns c = plain_law
