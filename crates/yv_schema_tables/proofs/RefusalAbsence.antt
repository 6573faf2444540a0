-- Where neither of two is refused.
use Rattle.std.proofs.Common.{◌≡◌, refl, sym, ◌∙◌, Option, Some, None, inl, inr}
use Rattle.yv_text_statement.specs.declared.refusal.Refusal.{Refusal}
use Rattle.yv_text_statement.specs.Order.{IsLesser}

pub both_none : (a b c : Option Refusal) → IsLesser a b c → c ≡ None → (a ≡ None) × (b ≡ None)
both_none None b c e none = (refl, sym e ∙ none)
both_none (Some r) None c e none = absurd (let bad : Some r ≡ None = sym e ∙ none in cc)
both_none (Some r) (Some s) c (inl e) none = absurd (let bad : Some r ≡ None = sym e.0 ∙ none in cc)
both_none (Some r) (Some s) c (inr e) none = absurd (let bad : Some s ≡ None = sym e.0 ∙ none in cc)
