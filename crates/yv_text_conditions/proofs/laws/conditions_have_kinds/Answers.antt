use Rattle.std.proofs.Common.{◌≡◌, ◌||◌, ℕ, Bool, true, false, List, Option, Some, None, refl}
use Rattle.yv_text_statement.specs.declared.keyword.Keyword.{Keyword}
use Rattle.yv_text_statement.specs.declared.keyword.Keyword.TheVariants as word
use Rattle.yv_text_grammar.specs.Conditions.{has_predicate, is_condition}
use Rattle.yv_text_conditions.specs.Conditions.{is_filtered_path, is_instance_type, is_must, is_when}
use Rattle.yv_text_conditions.proofs.laws.conditions_have_kinds.Goals as goal

or_false : (b : Bool) → b ≡ (b || false)
or_false true = refl
or_false false = refl

same : (k : Keyword) (argument : Option (List ℕ)) → is_condition k argument
    ≡ (is_must k argument || (is_when k argument || (is_filtered_path k argument || is_instance_type k argument)))
same word.Must argument = refl
same word.When argument = refl
same word.Path (Some text) = or_false (has_predicate text)
same word.Path None = refl
same word.Type (Some text) = refl
same word.Type None = refl
same _ argument = refl

pub returns : goal.returns
returns c = same
