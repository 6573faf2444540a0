use Rattle.std.proofs.Common.{List, take}
use Rattle.yv_base_streams.specs.Files.{File}
use Rattle.yv_search.specs.PlainJob.{AreRoots}
use Rattle.yv_search.specs.InnerPlainJob.{AreTexts}
use Rattle.yv_search.proofs.plain_job.roots.Given as goal

abbrev pub invariant-loop-text : goal.invariant-loop-text
invariant-loop-text l = (files : List File) → AreTexts files l.texts → AreRoots (take l.text-index files) l.roots.items
