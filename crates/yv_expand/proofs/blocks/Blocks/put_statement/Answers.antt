use Rattle.std.proofs.Common.{◌+◌, arith, length, length-append, ◌≡◌, ◌∙◌, ◌++◌, ◌∷◌, [], ℕ, List, true, false, reverse, sym, ap, slice_get, Some, None}
use Rattle.std.proofs.lemmas.Option.{same_Some}
use Rattle.std.proofs.lemmas.Result.{on_err_weaker, on_ok_weaker}
use Rattle.yv_expand.proofs.ItemStack.{length_origins}
use Rattle.yv_link_scopes.specs.Views.{lent_in, files_in, rows_in}
use Rattle.yv_link_definitions.specs.Refers.{RefersTo}
use Rattle.yv_expand_statements.specs.declared.origin.Origin.{Origin}
use Rattle.yv_expand_statements.specs.declared.origin.Origin.TheVariants.{Input, Output}
use Rattle.yv_expand_statements.specs.StatementBlocks.{is_at, is_operation, part}
use Rattle.yv_expand.specs.InnerItems.{items_below, numbers_at, origins}
use Rattle.yv_expand.proofs.ItemsBelow.{parts_stand, uses_stand, none_stand}
use Rattle.yv_expand.proofs.blocks.Blocks.put_statement.Goals as goal

pub returns-then-is_operation_at-clause-some : goal.returns-then-is_operation_at-clause-some
returns-then-is_operation_at-clause-some c =
    let blocks = c.args.self.now in
    let k = c.args.statement in
    let these : List Origin = part (Input k) (slice_get (numbers_at blocks.inputs.items k) 0) ∷ part (Output k) (slice_get (numbers_at blocks.outputs.items k) 0) ∷ [] in
    on_ok_weaker c.put_parts.result (λ is. (these, is)) c.put_parts.ensures.items

pub returns-then-is_operation_at-clause-below : goal.returns-then-is_operation_at-clause-below
returns-then-is_operation_at-clause-below c = λ these names blocks stand.
    let is : is_at is_operation (rows_in c.args.rows.now) c.args.statement ≡ true = sym c.is_operation_at.ensures ∙ c.if-is_operation_at.true in
    let same = parts_stand (files_in c.args.rows.now) (rows_in c.args.rows.now) c.args.self.now c.args.statement these blocks is stand in
    on_ok_weaker c.put_parts.result (λ put. put ∙ ap (λ (l : List Origin). c.args.stack.now.items ++ reverse (items_below c.args.parent l)) (sym same)) c.put_parts.ensures.items

pub returns-in-Some-clause-below : goal.returns-in-Some-clause-below
returns-in-Some-clause-below c = λ these names blocks stand.
    let isnt : is_at is_operation (rows_in c.args.rows.now) c.args.statement ≡ false = sym c.is_operation_at.ensures ∙ c.if-is_operation_at.false in
    let refers : RefersTo (files_in c.args.rows.now) (rows_in c.args.rows.now) c.args.statement c.in-Some.grouping =
    (c.meaning.ensures (lent_in c.args.rows.now) names c.in-Some.grouping).0 c.in-Some.is in
    let one : (d : ℕ) → RefersTo (files_in c.args.rows.now) (rows_in c.args.rows.now) c.args.statement d → c.in-Some.grouping ≡ d =
    λ d meant. same_Some c.in-Some.grouping d (sym c.in-Some.is ∙ (c.meaning.ensures (lent_in c.args.rows.now) names d).1 meant) in
    let same = uses_stand (files_in c.args.rows.now) (rows_in c.args.rows.now) c.args.self.now c.args.statement c.in-Some.grouping these blocks isnt refers one stand in
    on_ok_weaker c.put_uses.result (λ put. put ∙ ap (λ (l : List Origin). c.args.stack.now.items ++ reverse (items_below c.args.parent l)) (sym same)) c.put_uses.ensures.items

pub returns-in-None-clause-below : goal.returns-in-None-clause-below
returns-in-None-clause-below c = λ these names blocks stand.
    let isnt : is_at is_operation (rows_in c.args.rows.now) c.args.statement ≡ false = sym c.is_operation_at.ensures ∙ c.if-is_operation_at.false in
    let free : (d : ℕ) → RefersTo (files_in c.args.rows.now) (rows_in c.args.rows.now) c.args.statement d → ⊥ =
    λ d meant. (let bad : None ≡ Some d = sym c.in-None.is ∙ (c.meaning.ensures (lent_in c.args.rows.now) names d).1 meant in cc) in
    let same = none_stand (files_in c.args.rows.now) (rows_in c.args.rows.now) c.args.self.now c.args.statement these blocks isnt free stand in
    let own : c.numbers_at.result.now ≡ numbers_at c.args.self.now.own.items c.args.statement = cc (c.numbers_at.ensures, c.deref.ensures.value) in
    on_ok_weaker c.put.result (λ put. put ∙ ap (λ (l : List ℕ). c.args.stack.now.items ++ reverse (items_below c.args.parent (origins l))) own
    ∙ ap (λ (l : List Origin). c.args.stack.now.items ++ reverse (items_below c.args.parent l)) (sym same)) c.put.ensures.items

pub returns-then-is_operation_at-clause-full : goal.returns-then-is_operation_at-clause-full
returns-then-is_operation_at-clause-full c = λ these names blocks stand.
    let is : is_at is_operation (rows_in c.args.rows.now) c.args.statement ≡ true = sym c.is_operation_at.ensures ∙ c.if-is_operation_at.true in
    let same = parts_stand (files_in c.args.rows.now) (rows_in c.args.rows.now) c.args.self.now c.args.statement these blocks is stand in
    let two : length these ≡ 2 = ap length same in
    on_err_weaker c.put_parts.result (λ full. omega (arith, full, two)) c.put_parts.ensures.full

pub returns-in-Some-clause-full : goal.returns-in-Some-clause-full
returns-in-Some-clause-full c = λ these names blocks stand.
    let isnt : is_at is_operation (rows_in c.args.rows.now) c.args.statement ≡ false = sym c.is_operation_at.ensures ∙ c.if-is_operation_at.false in
    let refers : RefersTo (files_in c.args.rows.now) (rows_in c.args.rows.now) c.args.statement c.in-Some.grouping =
    (c.meaning.ensures (lent_in c.args.rows.now) names c.in-Some.grouping).0 c.in-Some.is in
    let one : (d : ℕ) → RefersTo (files_in c.args.rows.now) (rows_in c.args.rows.now) c.args.statement d → c.in-Some.grouping ≡ d =
    λ d meant. same_Some c.in-Some.grouping d (sym c.in-Some.is ∙ (c.meaning.ensures (lent_in c.args.rows.now) names d).1 meant) in
    let same = uses_stand (files_in c.args.rows.now) (rows_in c.args.rows.now) c.args.self.now c.args.statement c.in-Some.grouping these blocks isnt refers one stand in
    let own : List ℕ = numbers_at c.args.self.now.own.items c.in-Some.grouping in
    let given : List ℕ = numbers_at c.args.self.now.given.items c.args.statement in
    let both : length these ≡ length (origins own) + length (origins given) = ap length same ∙ length-append (origins own) (origins given) in
    on_err_weaker c.put_uses.result (λ full. omega (arith, full, both, length_origins own, length_origins given)) c.put_uses.ensures.full

pub returns-in-None-clause-full : goal.returns-in-None-clause-full
returns-in-None-clause-full c = λ these names blocks stand.
    let isnt : is_at is_operation (rows_in c.args.rows.now) c.args.statement ≡ false = sym c.is_operation_at.ensures ∙ c.if-is_operation_at.false in
    let free : (d : ℕ) → RefersTo (files_in c.args.rows.now) (rows_in c.args.rows.now) c.args.statement d → ⊥ =
    λ d meant. (let bad : None ≡ Some d = sym c.in-None.is ∙ (c.meaning.ensures (lent_in c.args.rows.now) names d).1 meant in cc) in
    let same = none_stand (files_in c.args.rows.now) (rows_in c.args.rows.now) c.args.self.now c.args.statement these blocks isnt free stand in
    let own : c.numbers_at.result.now ≡ numbers_at c.args.self.now.own.items c.args.statement = cc (c.numbers_at.ensures, c.deref.ensures.value) in
    let all : length these ≡ length (origins (numbers_at c.args.self.now.own.items c.args.statement)) = ap length same in
    let as_many : length c.numbers_at.result.now ≡ length (numbers_at c.args.self.now.own.items c.args.statement) = ap length own in
    on_err_weaker c.put.result (λ full. omega (arith, full, all, as_many, length_origins (numbers_at c.args.self.now.own.items c.args.statement))) c.put.ensures.full
