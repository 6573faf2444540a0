use Rattle.std.proofs.Common.{◌≡◌, refl, sym, ◌∙◌, ap}
use Rattle.yv_text_statement.specs.Words.{is_among}
use Rattle.yv_type_chains.specs.Kinds.{has_pair, is_foreign, restrictions, substatements_taken}
use Rattle.yv_type_chains.specs.InnerPairs.{is_one_of, is_paired}
use Rattle.yv_type_chains.proofs.KeywordMeanings.{restricting, restricts_by, taken, taken_by}
use Rattle.yv_type_chains.proofs.kinds.is_foreign.Goals as goal

pub returns-then-is_one_of : goal.returns-then-is_one_of
unfolding is_foreign
returns-then-is_one_of c =
    let restricts : is_among restrictions c.args.statement.now.head.keyword ≡ c.is_one_of.result =
    restricts_by c.args.statement.now.head.keyword ∙ ap (is_one_of restricting) (sym c.kind-keyword.ensures) ∙ sym c.is_one_of.ensures in
    let takes : has_pair substatements_taken c.args.kind.now c.args.statement.now.head.keyword ≡ c.is_paired.result =
    taken_by c.args.kind.now c.args.statement.now.head.keyword ∙ ap (is_paired taken c.args.kind.now) (sym c.kind-keyword.ensures) ∙ sym c.is_paired.ensures in
    rw (restricts, takes, c.if-is_one_of.true) refl

pub returns-else-is_one_of : goal.returns-else-is_one_of
unfolding is_foreign
returns-else-is_one_of c =
    let restricts : is_among restrictions c.args.statement.now.head.keyword ≡ c.is_one_of.result =
    restricts_by c.args.statement.now.head.keyword ∙ ap (is_one_of restricting) (sym c.kind-keyword.ensures) ∙ sym c.is_one_of.ensures in
    rw (restricts, c.if-is_one_of.false) refl
