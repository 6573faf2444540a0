use Rattle.std.proofs.Common.{inr, map, rules}
use Rattle.yv_job.specs.Jobs.{task_of}
use Rattle.yv_base_streams.specs.Files.{file_of}
use Rattle.yv_run.proofs.BatchLemmas.{over_found}
use Rattle.yv_run.proofs.batch_run.run_all.Goals as goal

pub returns-in-Ok-clause-writes : goal.returns-in-Ok-clause-writes
returns-in-Ok-clause-writes g c = inr c.in-Ok.ensures.runs

pub returns-in-Ok-clause-over : goal.returns-in-Ok-clause-over
returns-in-Ok-clause-over g c = over_found (task_of c.args.job.now) (map file_of c.args.inputs.now) c.in-Ok.ended _ _ _ _ _ c.in-Ok.ensures.runs

pub returns-in-Err-PatternBuild-clause-note_on_pattern : goal.returns-in-Err-PatternBuild-clause-note_on_pattern
returns-in-Err-PatternBuild-clause-note_on_pattern g c = λ e. c.pattern_note.ensures _ _ (c.in-Err-PatternBuild.ensures.builds (search rules))
