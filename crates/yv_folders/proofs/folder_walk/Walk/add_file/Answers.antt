use Rattle.std.proofs.Common.{refl, arith}
use Rattle.yv_folders.proofs.WalkSteps.{file_added}
use Rattle.yv_folders.proofs.folder_walk.Walk.add_file.Goals as goal

pub returns : goal.returns
returns c = file_added c.args.self.now (record { name = c.args.self.now.name; room = c.args.self.now.room; paths = c.push.new.self; folders = c.args.self.now.folders }) c.args.path refl refl c.in_ok-push.ensures.items c.requires (omega arith)
