use Rattle.std.proofs.Common.{◌∙◌, ap, List, Option}
use Rattle.std.specs.Rc.{rc_str_bytes}
use Rattle.yv_node_content.specs.Steps.{Step, has_step}
use Rattle.yv_node_content.proofs.keys.Keys.contains.Goals as goal

pub returns : goal.returns
returns c =
    c.contains.ensures ∙ c.self.invariant c.args.module_file (rc_str_bytes c.args.name)
    ∙ ap (λ (steps : List (Option Step)). has_step c.args.module_file (rc_str_bytes c.args.name) steps) c.self.view_is
