use Rattle.std.proofs.Common.{refl}
use Rattle.yv_types.specs.Scopes.{AreScopes}
use Rattle.yv_node_statements.proofs.SharedDefaults.{are_values, shared_more}
use Rattle.yv_node_statements.proofs.reader.DefaultReader.keep.Goals as goal

pub returns : goal.returns
returns c = λ files before.
    let types = c.args.types.now in
    let numbers = c.in-Some.numbers in
    let values = c.in_ok-values.values in
    let scopes : AreScopes files c.deref.result.now = rw c.deref.ensures.value before.scopes in
    let are = are_values types files c.args.file c.args.offset numbers values.value (λ f o at. c.in-Some.ensures.same f o numbers refl at) (c.in_ok-values.ensures files scopes) in
    record {
      scopes = before.scopes;
      shared = shared_more types files c.args.self.now.shared c.insert.new.self numbers values c.in_ok-insert.ensures.updates are before.shared;
    }
