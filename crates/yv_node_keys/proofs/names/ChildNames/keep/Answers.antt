use Rattle.yv_node_keys.proofs.NamedChildren.{told_new}
use Rattle.yv_node_keys.proofs.names.ChildNames.keep.Goals as goal

pub returns : goal.returns
returns c = λ h n. told_new c.args.self.now.map c.insert.new.self c.args.module_file c.args.name c.args.number c.in_ok-insert.ensures.updates h n
