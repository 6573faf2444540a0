-- Only private clauses cite this: what a source holds, by the word of `--each`.
use Rattle.std.specs.Prelude.{Option, None, Some}
use Rattle.yv_batch.specs.declared.sources.SourceKind.{SourceKind}
use Rattle.yv_batch.specs.declared.sources.SourceKind.TheVariants as source
use Rattle.yv_job.specs.declared.request.Each.{Each}
use Rattle.yv_job.specs.declared.request.Each.TheVariants as each

-- one document where nothing was said; the names of a list are ended by line feeds or by NUL
abbrev pub kind_of : Option Each → SourceKind
kind_of None = source.Document
kind_of (Some each.File) = source.Document
kind_of (Some each.Line) = source.Lines
kind_of (Some each.Name) = source.Names 10
kind_of (Some each.Name0) = source.Names 0
