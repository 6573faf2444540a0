use Rattle.std.proofs.Common.{◌≡◌}
use Rattle.yv_batch.specs.InnerSupply.{IsSame}
use Rattle.yv_batch.specs.NamesLeft.{list_left}
use Rattle.yv_batch.proofs.names.NameList.fetch.Given as goal

-- only empty names were read
abbrev pub invariant-loop : goal.invariant-loop
invariant-loop g l = record {
  same : IsSame (list_left g.R.Read.remaining (g.F.Files.files l.initial.files) l.initial.self) (list_left g.R.Read.remaining (g.F.Files.files l.files) l.self);
  files : g.F.Files.files l.files ≡ g.F.Files.files l.initial.files;
}
