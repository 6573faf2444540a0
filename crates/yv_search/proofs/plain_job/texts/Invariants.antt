use Rattle.std.proofs.Common.{map, take}
use Rattle.yv_base_streams.specs.Files.{file_of}
use Rattle.yv_search.specs.InnerPlainJob.{AreTexts}
use Rattle.yv_search.proofs.plain_job.texts.Given as goal

abbrev pub invariant-loop-file : goal.invariant-loop-file
invariant-loop-file l = AreTexts (take l.file-index (map file_of l.files)) l.texts.items
