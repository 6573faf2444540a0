use Rattle.std.proofs.Common.{arith}
use Rattle.yv_batch.specs.AskedDocument.{reading_of}
use Rattle.yv_batch.proofs.NameLemmas.{long_name, other_name, text_name}
use Rattle.yv_batch.proofs.names.fetch_file.Goals as goal

pub returns-then-name-gt-MOST_BYTES : goal.returns-then-name-gt-MOST_BYTES
returns-then-name-gt-MOST_BYTES g c = long_name (g.F.Files.files c.args.files.now) c.args.name.now (omega arith)

pub returns-in-Ok : goal.returns-in-Ok
returns-in-Ok g c =
    text_name (g.F.Files.files c.args.files.now) (g.F.Files.files c.fetch.new.self) c.args.name.now c.in-Ok.name.now (reading_of c.fetch.result) (omega arith) c.in-Ok.ensures.cases.1 c.in-Ok.ensures.cases.0 c.fetch.ensures

pub returns-in-Err : goal.returns-in-Err
returns-in-Err g c = other_name (g.F.Files.files c.args.files.now) c.args.name.now c.in-Err.ensures.cases.0
