use Rattle.std.proofs.Common.{◌≡◌, ◌∙◌, ℕ, Option, Some, None, true, ap, arith, subst, sym}
use Rattle.std.specs.BTreeMap.{BTreeMap}
use Rattle.yv_expand_changes.specs.InnerFirstPaths.{AreFirsts, are_rising}
use Rattle.yv_expand_changes.proofs.FirstPaths.{first_of_rising}
use Rattle.yv_expand_changes.proofs.ways.first_path.Goals as goal

pub returns-in-None : goal.returns-in-None
returns-in-None c = λ targets firsts at.
    let rising : are_rising None targets ≡ true = subst (λ (o : Option (BTreeMap ℕ ℕ)). AreFirsts targets o) c.in-None.is firsts in
    sym (first_of_rising 0 None targets c.args.path c.args.item rising at ∙ ap (λ (j : ℕ). Some j) (omega arith))
