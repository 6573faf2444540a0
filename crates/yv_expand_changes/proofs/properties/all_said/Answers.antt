use Rattle.std.proofs.Common.{List, subst, sym, rules}
use Rattle.yv_link_scopes.specs.Views.{lent_in}
use Rattle.yv_node_properties.specs.declared.properties.StatedProperties.{StatedProperties}
use Rattle.yv_expand_changes.specs.InnerProperties.{AreSaid}
use Rattle.yv_expand_changes.proofs.StatementProperties.{said_more}
use Rattle.yv_expand_changes.proofs.properties.all_said.Goals as goal

pub loop-number-preserved : goal.loop-number-preserved
loop-number-preserved c =
    let files = lent_in c.args.rows.now in
    record {
      so = subst (λ (each : List StatedProperties). AreSaid files each) (sym {A = List StatedProperties} c.in_ok-push.ensures.items)
          (said_more files c.loop-number.each.items c.said_at.result c.loop-number.number c.loop-number.invariant.all c.said_at.ensures c.loop-number.invariant.so);
      all = search rules;
    }
