use Rattle.std.proofs.Common.{sym, ◌∙◌, ap, rules, ℕ, List, Bool}
use Rattle.std.specs.List.{list_any, slice_split}
use Rattle.std.proofs.lemmas.Iterator.Consumers.{YieldsList-turn, YieldsList-end}
use Rattle.std.proofs.lemmas.Iterator.Splits.{YieldsList-from_slice_split}
use Rattle.yv_link_scopes.specs.Tables.{table_of}
use Rattle.yv_link_scopes.specs.Names.{prefix_of}
use Rattle.yv_link_modules.specs.Prefixes.{is_undeclared, is_cut}
use Rattle.yv_link_modules.proofs.Flags.{any_at}
use Rattle.yv_link_modules.proofs.prefixes.has_undeclared.Goals as goal

pub returns : goal.returns
returns c =
    let f : List ℕ → Bool = λ piece. is_undeclared (table_of c.args.prefixes.now) c.args.file (prefix_of piece) in
    let t = YieldsList-end (YieldsList-from_slice_split _ is_cut c.args.text.now (ap (λ s. s.rest.now) c.into_iter-word-iterator.ensures.into_iter_gives ∙ c.split-word-items.ensures.rest) (ap (λ s. s.done) c.into_iter-word-iterator.ensures.into_iter_gives ∙ c.split-word-items.ensures.done) (ap (λ s. s.pred) c.into_iter-word-iterator.ensures.into_iter_gives ∙ c.split-word-items.ensures.closure) (λ x b q k. search rules)) c.loop-word.yielded _ c.loop-word.yielded_by _ _ c.in-None.is c.next.ensures.steps in
    sym c.loop-word.invariant ∙ ap (list_any f) t.0

pub returns-then-is_undeclared : goal.returns-then-is_undeclared
returns-then-is_undeclared c =
    let f : List ℕ → Bool = λ piece. is_undeclared (table_of c.args.prefixes.now) c.args.file (prefix_of piece) in
    let t = YieldsList-turn (YieldsList-from_slice_split _ is_cut c.args.text.now (ap (λ s. s.rest.now) c.into_iter-word-iterator.ensures.into_iter_gives ∙ c.split-word-items.ensures.rest) (ap (λ s. s.done) c.into_iter-word-iterator.ensures.into_iter_gives ∙ c.split-word-items.ensures.done) (ap (λ s. s.pred) c.into_iter-word-iterator.ensures.into_iter_gives ∙ c.split-word-items.ensures.closure) (λ x b q k. search rules)) c.loop-word.yielded _ c.loop-word.yielded_by _ _ c.in-Some.word c.in-Some.is c.next.ensures.steps in
    sym (any_at f (slice_split is_cut c.args.text.now) _ c.in-Some.word.now t.0 t.1 (sym c.is_undeclared.ensures ∙ c.if-is_undeclared.true))
