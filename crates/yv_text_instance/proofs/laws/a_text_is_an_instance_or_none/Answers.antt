use Rattle.std.proofs.Common.{◌↔◌, ◌⊎◌, inl, inr, Bool, true, false, refl}
use Rattle.std.specs.Prelude.{IsTrue}
use Rattle.std.proofs.lemmas.Bool.{false≢true}
use Rattle.yv_text_path.specs.Pieces.{pieces}
use Rattle.yv_text_instance.specs.InnerStates.{completes}
use Rattle.yv_text_instance.specs.declared.state.State.TheVariants.{Start}
use Rattle.yv_text_instance.proofs.Completion.{decided}
use Rattle.yv_text_instance.proofs.laws.a_text_is_an_instance_or_none.Goals as goal

either : (b : Bool) (P : Type 0) → (IsTrue b ↔ P) → P ⊎ (P → ⊥)
either true P h = inl (h.0 refl)
either false P h = inr (λ p. false≢true (h.1 p))

pub returns : goal.returns
returns c text = either (completes Start (pieces text)) _ (decided text)
