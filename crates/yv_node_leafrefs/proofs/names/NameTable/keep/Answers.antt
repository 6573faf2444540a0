use Rattle.std.proofs.Common.{◌≡◌, ◌∙◌, ap, None, rules}
use Rattle.yv_node_leafrefs.specs.InnerNames.{told_of, keep_first}
use Rattle.yv_node_leafrefs.proofs.NameNumbers.{kept_new}
use Rattle.yv_node_leafrefs.proofs.names.NameTable.keep.Goals as goal

pub returns-clause-tells : goal.returns-clause-tells
returns-clause-tells c = λ n.
    let none : told_of c.args.self.now c.args.name.now ≡ None = search rules in
    kept_new c.args.self.now.map c.insert.new.self c.as_bytes.result c.args.number (ap (told_of c.args.self.now) c.as_bytes.ensures.value ∙ none) c.in_ok-insert.ensures.updates n
    ∙ ap (λ m. keep_first (told_of c.args.self.now) m c.args.number n) c.as_bytes.ensures.value
