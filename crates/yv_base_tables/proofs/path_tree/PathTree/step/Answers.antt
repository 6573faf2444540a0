use Rattle.std.proofs.Common.{◌∙◌, ℕ, List, Option, ap, get_or, arith}
use Rattle.std.specs.Option.{unwrap_or}
use Rattle.std.proofs.lemmas.Option.{get_or_from_slice_get}
use Rattle.yv_base_tables.proofs.path_tree.PathTree.step.Goals as goal

pub returns : goal.returns
returns c = λ paths front step is on.
    c.unwrap_or.ensures ∙ ap (λ (o : Option ℕ). unwrap_or o 0) c.copied.ensures ∙ c.get.ensures.lookup.4 (omega arith) 0
    ∙ ap (λ (l : List ℕ). get_or l c.args.path 0) c.deref.ensures.value
    ∙ get_or_from_slice_get c.args.self.now.steps.items c.args.path step 0 (is.step front step c.args.path on)
