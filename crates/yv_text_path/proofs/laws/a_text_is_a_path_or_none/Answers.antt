use Rattle.std.proofs.Common.{◌⊎◌, inl, inr, Bool, true, false, MatchBool, refl}
use Rattle.yv_text_path.specs.InnerStates.{completes}
use Rattle.yv_text_path.specs.Pieces.{pieces}
use Rattle.yv_text_path.specs.declared.state.State.TheVariants.{Start}
use Rattle.yv_text_path.proofs.Completion.{decided}
use Rattle.yv_text_path.proofs.laws.a_text_is_a_path_or_none.Goals as goal

either : (b : Bool) (P Q : Type 0) → MatchBool b P Q → P ⊎ Q
either true P Q h = inl h
either false P Q h = inr h

pub returns : goal.returns
returns c text = either (completes Start (pieces text)) _ _ (decided text (completes Start (pieces text)) refl)
