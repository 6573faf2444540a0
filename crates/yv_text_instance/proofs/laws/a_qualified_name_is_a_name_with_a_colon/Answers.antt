use Rattle.std.proofs.lemmas.Bool.{and_parts, and_from}
use Rattle.yv_text_instance.proofs.Words.{qualified_word, word_qualified}
use Rattle.yv_text_instance.proofs.laws.a_qualified_name_is_a_name_with_a_colon.Goals as goal

pub returns : goal.returns
returns c text = (λ q. (let p = and_parts _ _ (qualified_word q) in (p.0, p.1)), λ p. word_qualified text (and_from _ _ p.0 p.1))
