use Rattle.std.proofs.Common.{◌≡◌, ℕ, Vec, ◌∙◌, ap}
use Rattle.std.specs.List.{list_any}
use Rattle.std.specs.declared.alloc.Global.{Global}
use Rattle.std.proofs.lemmas.Result.{IfOk-weaker}
use Rattle.yv_type_identities.specs.InnerSets.{is_key}
use Rattle.yv_type_identities.proofs.PlaceSets.{keys_in}
use Rattle.yv_type_identities.proofs.sets.References.key.Goals as goal

pub returns : goal.returns
returns c = IfOk-weaker c.pairs.result (λ (v : Vec (ℕ × ℕ) Global). v.items ≡ c.args.self.now.set.keys) _ (λ v e place. ap (list_any (is_key place)) e ∙ keys_in place c.args.self.now.set.keys) c.pairs.ensures
