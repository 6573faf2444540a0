use Rattle.std.proofs.Common.{◌≡◌, string_bytes}
use Rattle.yv_batch.specs.InnerSupply.{IsSame}
use Rattle.yv_batch.specs.LinesLeft.{lines_of}
use Rattle.yv_batch.proofs.lines.Lines.fetch.Given as goal

-- only blank lines were read
abbrev pub invariant-loop : goal.invariant-loop
invariant-loop g l = record {
  same : IsSame (lines_of g.R.Read.remaining l.initial.self) (lines_of g.R.Read.remaining l.self);
  source : string_bytes l.self.source ≡ string_bytes l.initial.self.source;
}
