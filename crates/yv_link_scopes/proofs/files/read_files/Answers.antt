use Rattle.std.proofs.Common.{refl}
use Rattle.yv_link_scopes.specs.Files.{brief_of}
use Rattle.yv_link_scopes.proofs.Firsts.{briefs_more, brief_made, get_map}
use Rattle.yv_link_scopes.proofs.files.read_files.Goals as goal

pub loop-root-preserved : goal.loop-root-preserved
loop-root-preserved c = briefs_more _ _ _ (brief_of c.root-item.result) _ _ c.in_ok-push.ensures.items (brief_made c.name_of.result.now c.module_name.result.now c.is_module.result c.root-item.result c.name_of.ensures c.module_name.ensures c.is_module.ensures) (get_map brief_of c.args.roots.now _ c.loop-root.root-index c.root-item.result refl c.loop-root-test.true c.root-item.is) c.loop-root.invariant
