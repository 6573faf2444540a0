use Rattle.std.proofs.Common.{◌≡◌, ℕ, List, ◌∷◌}
use Rattle.yv_text_instance.specs.Instances.{IsInstance, instance}
use Rattle.yv_text_instance.proofs.laws.an_instance_begins_with_a_slash.Goals as goal

begins : {text : List ℕ} → IsInstance text → (rest : List ℕ) × (text ≡ 47 ∷ rest)
begins (instance is ps others same) = (_, same)

pub returns : goal.returns
returns c text p = begins p
