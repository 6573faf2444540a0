use Rattle.std.proofs.Common.{◌≡◌, ℕ, List, rules, sym, ◌∙◌}
use Rattle.std.specs.Borrow.{Bor}
use Rattle.std.proofs.lemmas.Iterator.{YieldsList-from_slice}
use Rattle.std.proofs.lemmas.Iterator.Consumers.{YieldsList-at, count_from_yields_List}
use Rattle.std.proofs.lemmas.Iterator.Search.{YieldsList-from_take_while}
use Rattle.std.proofs.lemmas.List.Folds.{length-prefix_len}
use Rattle.yv_node_paths.specs.Referral.{is_up}
use Rattle.yv_node_paths.proofs.PathPieces.{prefix_len-map}
use Rattle.yv_node_paths.proofs.referral.ups.Goals as goal

pub returns-clause-count : goal.returns-clause-count
returns-clause-count c =
    let texts : List (Bor (List ℕ)) = c.args.texts.now in
    let counted : c.count.result ≡ _ = count_from_yields_List c.take_while.result c.count.result c.count.ensures.ran
    (YieldsList-from_take_while _ (λ (t : Bor (List ℕ)). is_up t.now) (YieldsList-at c.take_while.ensures.source (YieldsList-from_slice texts c.iter.ensures.rest)) c.take_while.ensures.closure c.take_while.ensures.done (λ x b q k. search rules)) in
    counted ∙ length-prefix_len (λ (t : Bor (List ℕ)). is_up t.now) texts ∙ sym (prefix_len-map is_up (λ (t : Bor (List ℕ)). t.now) texts)
