use Rattle.yv_job.proofs.AskLemmas.{ask_once}
use Rattle.yv_job.proofs.laws.words_ask_once.Goals as goal

pub returns : goal.returns
returns c = ask_once
