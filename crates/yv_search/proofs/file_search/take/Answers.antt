use Rattle.std.proofs.Common.{sym}
use Rattle.yv_search.specs.Search.{RootedFile}
use Rattle.yv_search.proofs.file_search.take.Goals as goal

pub returns : goal.returns
returns c = λ listing s name at.
    let f : RootedFile = record { file = record { name = name; bytes = c.args.bytes.now }; root = c.in_ok-root.root } in
    record {
      root = c.in_ok-root.root;
      has = c.in_ok-root.ensures c.args.bytes.now c.in_ok-text.ensures;
      at = c.in_ok-add.ensures listing s f (sym c.as_ref.ensures.value) at;
    }
