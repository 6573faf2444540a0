use Rattle.std.proofs.Common.{[], ◌∷◌, codes, decimal, string_bytes}
use Rattle.yv_documents.proofs.StepsLemmas.{text_of_four}
use Rattle.yv_documents.proofs.costs.steps_text.Goals as goal

pub returns : goal.returns
returns c = text_of_four string_bytes c.format.result (codes "steps: ") (decimal c.args.cost.now.steps) (codes " of ") (decimal c.args.cost.now.bound) (10 ∷ []) c.format.ensures.ok
