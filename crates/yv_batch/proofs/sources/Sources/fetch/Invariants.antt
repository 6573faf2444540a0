use Rattle.std.proofs.Common.{[], None, length}
use Rattle.yv_batch.specs.InnerSources.{Steps}
use Rattle.yv_batch.specs.SourcesLeft.{part_left, sources_left}
use Rattle.yv_batch.proofs.sources.Sources.fetch.Given as goal

-- no document was fetched, and nothing more is to come of the source that is open
abbrev pub invariant-loop-name : goal.invariant-loop-name
invariant-loop-name g l = Steps (sources_left g.R.Read.remaining g.O.Opener.contents g.F.Files.files l.fn.self) (sources_left g.R.Read.remaining g.O.Opener.contents g.F.Files.files l.self) (part_left g.R.Read.remaining (g.F.Files.files l.self.files) l.self.part) [] None

abbrev pub decreases-loop-name : goal.decreases-loop-name
decreases-loop-name g l = length l.self.names.items
