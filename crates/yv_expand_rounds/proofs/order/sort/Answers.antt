use Rattle.std.proofs.Common.{ℕ, ◌≡◌, rules}
use Rattle.std.proofs.lemmas.Fn.{always_returns_same}
use Rattle.yv_expand_rounds.specs.Order.{is_given}
use Rattle.yv_expand_rounds.proofs.order.sort.Goals as goal

pub returns-clause-sorts : goal.returns-clause-sorts
returns-clause-sorts c =
    c.sort_unstable_by_key.ensures.sorted (λ (i : ℕ). (is_given c.args.labels.now i, i))
    (always_returns_same _ (λ a r. r ≡ (is_given c.args.labels.now a.0.now, a.0.now)) _ (λ a r q k. search rules))
