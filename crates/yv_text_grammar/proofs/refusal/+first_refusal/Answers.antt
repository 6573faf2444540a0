use Rattle.std.proofs.Common.{◌≡◌, ◌≢◌, IfNone, sym, ◌∙◌, Some, length, refl, arith}
use Rattle.std.specs.List.{slice_get}
use Rattle.std.proofs.lemmas.Option.{slice_get_read}
use Rattle.yv_text_statement.specs.Order.{IsLeast}
use Rattle.yv_text_grammar.specs.Fits.{FitsIn, extension}
use Rattle.yv_text_statement.specs.Tree.{trees}
use Rattle.yv_text_grammar.specs.Refusals.{Faulty, keyword_at}
use Rattle.yv_text_statement.specs.declared.keyword.Keyword.TheVariants as word
use Rattle.yv_text_statement.proofs.Least.{least_more}
use Rattle.yv_text_grammar.proofs.Inside.{Inner, least_inside}
use Rattle.yv_text_grammar.proofs.StatementFit.{FitBelow, fit_more, all_fit}
use Rattle.yv_text_grammar.proofs.Smaller.{fewer}
use Rattle.yv_text_grammar.proofs.Keywords.{one, other}
use Rattle.yv_text_grammar.proofs.refusal.+first_refusal.Goals as goal

pub first_refusal-inner-requires : goal.first_refusal-inner-requires
first_refusal-inner-requires t c =
    let s = c.args.statement.now in
    let child = c.child-item.result in
    let at_child : slice_get (trees s.children) c.loop-child.child-index ≡ Some child =
    rw (← c.children-child-items.ensures) (slice_get_read _ _ c.loop-child.child-index child refl (omega arith) c.child-item.is) in
    (omega (arith, c.decreases, fewer s.children c.loop-child.child-index child at_child), tt)

pub loop-child-preserved : goal.loop-child-preserved
loop-child-preserved t c =
    let s = c.args.statement.now in
    let x = c.args.xpath in
    let i = c.loop-child.child-index in
    let child = c.child-item.result in
    let at_child : slice_get (trees s.children) i ≡ Some child =
    rw (← c.children-child-items.ensures) (slice_get_read _ _ i child refl (omega arith) c.child-item.is) in
    let kind : c.kind-keyword.result ≡ keyword_at s = c.kind-keyword.ensures in
    let here : IsLeast (Faulty x (keyword_at s) child) c.first_refusal-inner.result = rw (← kind) c.first_refusal-inner.ensures.least in
    let fits : IfNone c.first_refusal-inner.result (FitsIn x (keyword_at s) child) = rw (← kind) c.first_refusal-inner.ensures.fits in
    record {
      least = least_more (trees s.children) (λ k c. Faulty x (keyword_at s) c) i child _ _ _ at_child c.lesser-best.ensures c.loop-child.invariant.least here;
      fit = fit_more x s i child _ _ _ at_child c.lesser-best.ensures c.loop-child.invariant.fit fits;
    }

pub returns : goal.returns
returns t c =
    let s = c.args.statement.now in
    let x = c.args.xpath in
    let all : c.loop-child.child-index ≡ length (trees s.children) = rw (← c.children-child-items.ensures) (omega arith) in
    let kind : c.kind-keyword.result ≡ keyword_at s = c.kind-keyword.ensures in
    let plain : keyword_at s ≢ word.Extended = λ e. other _ _ (sym c.eq.ensures ∙ c.if-eq.false) (kind ∙ e) in
    let inner : IsLeast (Inner x s) c.loop-child.best = rw (← all) c.loop-child.invariant.least in
    let fit : FitBelow x s (length (trees s.children)) c.loop-child.best = rw (← all) c.loop-child.invariant.fit in
    record {
      least = least_inside x c.args.parent s _ _ _ _ _ c.lesser-outer.ensures c.lesser.ensures plain c.own_refusal-own.ensures.least c.count_fault-number.ensures inner;
      fits = all_fit x c.args.parent s _ _ _ _ _ c.lesser-outer.ensures c.lesser.ensures c.own_refusal-own.ensures.fits c.count_fault-number.ensures fit;
    }

pub returns-then-eq-clause-fits : goal.returns-then-eq-clause-fits
returns-then-eq-clause-fits t c =
    let kind : c.kind-keyword.result ≡ keyword_at c.args.statement.now = c.kind-keyword.ensures in
    extension (sym kind ∙ one _ _ (sym c.eq.ensures ∙ c.if-eq.true))
