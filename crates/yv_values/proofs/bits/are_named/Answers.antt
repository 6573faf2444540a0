use Rattle.std.proofs.Common.{◌∙◌, sym, ℕ, List, Bor}
use Rattle.std.proofs.lemmas.List.Folds.{list_all-map}
use Rattle.yv_values.specs.Texts.{is_named}
use Rattle.yv_values.proofs.bits.are_named.Goals as goal

pub returns : goal.returns
returns c = c.all_named.ensures ∙ sym (list_all-map (is_named c.args.names.now) (λ (w : Bor (List ℕ)). w.now) c.args.words.now)
