use Rattle.std.proofs.Common.{refl, map}
use Rattle.yv_link_scopes.specs.Tables.{table_of}
use Rattle.yv_link_scopes.specs.Files.{brief}
use Rattle.yv_link_scopes.proofs.Firsts.{files_more, get_map}
use Rattle.yv_link_scopes.proofs.files.file_places.Goals as goal

pub loop-number-preserved : goal.loop-number-preserved
loop-number-preserved c = files_more (map brief c.args.files.now) c.loop-number.number (brief c.index-files-number.result) (table_of c.loop-number.places) (table_of c.keep.new.self) c.as_bytes.result.now (get_map brief c.args.files.now _ c.loop-number.number c.index-files-number.result refl c.loop-number-test.true c.index-files-number.is) c.as_bytes.ensures.value c.loop-number.invariant c.in_ok-keep.ensures
