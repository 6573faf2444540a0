use Rattle.std.specs.Rc.{rc_str_bytes}
use Rattle.yv_node_content.proofs.StepSets.{put_step}
use Rattle.yv_node_content.proofs.keys.insert.Goals as goal

pub returns : goal.returns
returns c = put_step c.args.set.now c.insert.new.self c.args.module_file (rc_str_bytes c.args.name) c.in_ok-insert.ensures.updates
