use Rattle.std.proofs.Common.{List, Option, sym, ap, subst}
use Rattle.yv_nodes.specs.Link.{AreLinked, Link, reference_in}
use Rattle.yv_nodes.specs.Rows.{Rows, whole}
use Rattle.yv_schema_tables.proofs.schema.Schema.links.Goals as goal

pub returns-clause-links : goal.returns-clause-links
returns-clause-links c =
    let sound = rw c.self.view_is at c.self.invariant.kept.sound in
    subst (λ (ls : List (Option Link)). AreLinked (reference_in ls) (whole c.args.self.now)) (sym (ap (λ (s : Rows). s.links) c.self.view_is)) sound.linked
