use Rattle.yv_lint.specs.InnerVersions.{version_in}
use Rattle.yv_lint.proofs.VersionTable.{read_more}
use Rattle.yv_lint.proofs.versions.Versions.read.Goals as goal

pub loop-root-preserved : goal.loop-root-preserved
loop-root-preserved c = λ name. read_more c.args.roots.now c.loop-root.root-index c.root-item.result name c.name_of.result.now c.is_newer_file.result (version_in c.loop-root.versions name) (version_in c.keep.new.self name) c.loop-root-test.true c.root-item.is c.name_of.ensures c.is_newer_file.ensures (c.in_ok-keep.ensures name) (c.loop-root.invariant name)
