use Rattle.std.proofs.Common.{◌≡◌, ◌<◌, None, Some, ◌∙◌, ap, arith, rules}
use Rattle.std.specs.Option.{option_map}
use Rattle.yv_link_scopes.specs.RowList.{rows_of}
use Rattle.yv_link_identities.specs.InnerIdentityNumbers.{number_at, count_of}
use Rattle.yv_link_identities.proofs.MeantIdentities.{node_meant, node_count}
use Rattle.yv_link_identities.proofs.identity_table.Identities.node.Goals as goal

pub returns-in_err-node-clause-means : goal.returns-in_err-node-clause-means
returns-in_err-node-clause-means c files t =
    let none : c.from_residual.result ≡ None = search rules in
    ap (option_map (number_at (rows_of files))) none ∙ node_meant (rows_of files) c.args.self.now.identities.items c.args.identity None t.refs (c.in_err-node.ensures ∙ t.places c.args.identity.file c.args.identity.offset)

pub returns-then-node-len-clause-means : goal.returns-then-node-len-clause-means
returns-then-node-len-clause-means c files t =
    node_meant (rows_of files) c.args.self.now.identities.items c.args.identity (Some c.in_ok-node.node) t.refs (c.in_ok-node.ensures ∙ t.places c.args.identity.file c.args.identity.offset)

pub returns-else-node-len-clause-means : goal.returns-else-node-len-clause-means
returns-else-node-len-clause-means c files t =
    let below : c.in_ok-node.node < count_of (rows_of files) = node_count (rows_of files) c.args.self.now.identities.items c.args.identity c.in_ok-node.node t.refs (c.in_ok-node.ensures ∙ t.places c.args.identity.file c.args.identity.offset) in
    absurd (omega (arith, below, t.bases.each, c.len.ensures, c.if-node-len.false))
