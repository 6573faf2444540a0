use Rattle.std.proofs.Common.{map, string_bytes}
use Rattle.yv_batch.specs.SourcesLeft.{part_left, part_name}
use Rattle.yv_batch.proofs.SourceLemmas.{part_steps}
use Rattle.yv_batch.proofs.sources.Sources.fetch_part.Goals as goal

pub returns-clause-steps : goal.returns-clause-steps
returns-clause-steps g c =
    let s = c.args.self.now in
    let old = g.F.Files.files s.files in
    let new = g.F.Files.files c.fetch.new.files in
    part_steps s.kind s.has_lost (g.O.Opener.contents s.opener) (map string_bytes s.names.items) old new (part_left g.R.Read.remaining old s.part) (part_left g.R.Read.remaining new c.fetch.new.self)
    (part_name c.fetch.new.self) c.fetch.result c.fetch.ensures.keeps c.fetch.ensures.fetches
