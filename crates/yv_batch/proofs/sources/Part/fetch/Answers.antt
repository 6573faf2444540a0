use Rattle.std.proofs.Common.{refl}
use Rattle.yv_batch.proofs.NameLemmas.{stay_same}
use Rattle.yv_batch.proofs.sources.Part.fetch.Goals as goal

pub returns-in-Lines-clause-keeps : goal.returns-in-Lines-clause-keeps
returns-in-Lines-clause-keeps g c = stay_same (g.F.Files.files c.args.files.now) (g.F.Files.files c.args.files.now) _ refl
