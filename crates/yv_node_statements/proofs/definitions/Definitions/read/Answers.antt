use Rattle.std.proofs.Common.{List, sym, subst, rules}
use Rattle.yv_link_scopes.specs.Views.{lent_in}
use Rattle.yv_node_statements.specs.declared.store.Store.{Store}
use Rattle.yv_node_statements.specs.KnownTypes.{typing_of}
use Rattle.yv_node_statements.specs.InnerStore.{AreKept}
use Rattle.yv_node_statements.proofs.AllKept.{kept_more}
use Rattle.yv_node_statements.proofs.definitions.Definitions.read.Goals as goal

pub loop-number-preserved : goal.loop-number-preserved
loop-number-preserved c =
    let typing = typing_of c.args.types.now in
    let files = lent_in c.args.rows.now in
    let Are : List Store → Type 0 = λ kept. AreKept typing files kept in
    let more = kept_more typing files c.loop-number.kept.items c.in_ok-kept_at.field-0 c.loop-number.number c.loop-number.invariant.all (c.in_ok-kept_at.ensures c.in_ok-paths.ensures c.in_ok-reader.ensures) c.loop-number.invariant.so in
    record {
      so = subst Are (sym {A = List Store} c.in_ok-push.ensures.items) more;
      all = search rules;
    }
