use Rattle.std.proofs.Common.{◌≡◌, ℕ, ◌+◌, Bool, true, false, Some, length, take, refl, sym, ap, ◌∙◌, arith}
use Rattle.std.specs.List.{slice_get}
use Rattle.std.specs.Option.{option_copied}
use Rattle.std.specs.Prelude.{if◌then◌else◌}
use Rattle.std.proofs.lemmas.List.{take_all}
use Rattle.std.proofs.lemmas.Option.{slice_get_read}
use Rattle.yv_text_statement.specs.Keywords.{keyword_of, same}
use Rattle.yv_text_statement.specs.Tree.{Tree, forest, trees}
use Rattle.yv_text_statement.specs.declared.keyword.Keyword.TheVariants as word
use Rattle.yv_text_grammar.proofs.Smaller.{fewer}
use Rattle.yv_text_conditions.specs.Conditions.{Property, count_in, one_if}
use Rattle.yv_text_conditions.specs.InnerCounts.{count_of}
use Rattle.yv_text_conditions.proofs.StatementCounts.{both_counted, count_next, forest_trees, same_counts}
use Rattle.yv_text_conditions.proofs.count.+in_statement.Goals as goal

-- a statement itself
abbrev own : Tree → Property → ℕ
own t has = one_if (has (keyword_of t.head.keyword) t.head.argument)

nothing_counted : (m n : ℕ) (is : Bool) → is ≡ true → (if is then 0 else m) + 0 ≡ n → n ≡ 0
nothing_counted m n true e h = sym h ∙ omega arith
nothing_counted m n false e h = cc

-- an extension's statement
of_extension : (t : Tree) (has : Property) → same (keyword_of t.head.keyword) word.Extended ≡ true → count_of t has ≡ 0
of_extension t has e = nothing_counted (own t has + count_in has t.children) (count_of t has) (same (keyword_of t.head.keyword) word.Extended) e refl

by_parts : (m n : ℕ) (is : Bool) → is ≡ false → (if is then 0 else m) + 0 ≡ n → n ≡ m
by_parts m n true e h = cc
by_parts m n false e h = sym h ∙ omega arith

-- another one
of_plain : (t : Tree) (has : Property) → same (keyword_of t.head.keyword) word.Extended ≡ false
    → count_of t has ≡ own t has + count_in has (forest (trees t.children))
of_plain t has e =
    by_parts (own t has + count_in has t.children) (count_of t has) (same (keyword_of t.head.keyword) word.Extended) e refl
    ∙ ap (λ f. own t has + count_in has f) (sym (forest_trees t.children))

pub in_statement-requires : goal.in_statement-requires
in_statement-requires t c =
    let s = c.args.statement.now in
    let child = c.child-item.result in
    let at_child : slice_get (trees s.children) c.loop-child.child-index ≡ Some child =
    rw (← c.children-child-items.ensures) (slice_get_read _ _ c.loop-child.child-index child refl (omega arith) c.child-item.is) in
    (omega (arith, c.decreases, fewer s.children c.loop-child.child-index child at_child), tt)

pub loop-child-init : goal.loop-child-init
loop-child-init t c =
    let s = c.args.statement.now in
    let kind : c.kind-keyword.result ≡ keyword_of s.head.keyword = c.kind-keyword.ensures in
    let argument : option_copied c.argument.result ≡ s.head.argument = c.argument.ensures in
    same_counts (λ has. one_if (has c.kind-keyword.result (option_copied c.argument.result)))
    (λ has. own s has + count_in has (forest (take 0 (trees s.children)))) c.own_counts-counts.result
    (λ has.
    let same : own s has ≡ one_if (has c.kind-keyword.result (option_copied c.argument.result)) =
    ap (λ k. one_if (has k s.head.argument)) (sym kind) ∙ ap (λ a. one_if (has c.kind-keyword.result a)) (sym argument) in
    omega (arith, same))
    c.own_counts-counts.ensures

pub loop-child-preserved : goal.loop-child-preserved
loop-child-preserved t c =
    let s = c.args.statement.now in
    let n = c.loop-child.child-index in
    let child = c.child-item.result in
    let at : slice_get (trees s.children) n ≡ Some child =
    rw (← c.children-child-items.ensures) (slice_get_read _ _ n child refl (omega arith) c.child-item.is) in
    rw c.plus-counts.ensures
    (both_counted (λ has. own s has + count_in has (forest (take n (trees s.children)))) (count_of child)
    (λ has. own s has + count_in has (forest (take (n + 1) (trees s.children))))
    c.loop-child.counts c.in_statement.result
    (λ has. let next = count_next has (trees s.children) n child at in omega (arith, next)) c.loop-child.invariant c.in_statement.ensures)

pub returns : goal.returns
returns t c =
    let s = c.args.statement.now in
    let all : c.loop-child.child-index ≡ length (trees s.children) = rw (← c.children-child-items.ensures) (omega arith) in
    let kind : c.kind-keyword.result ≡ keyword_of s.head.keyword = c.kind-keyword.ensures in
    let plain : same (keyword_of s.head.keyword) word.Extended ≡ false = ap (λ k. same k word.Extended) (sym kind) ∙ sym c.eq.ensures ∙ c.if-eq.false in
    same_counts (λ has. own s has + count_in has (forest (take c.loop-child.child-index (trees s.children)))) (count_of s) c.loop-child.counts
    (λ has. of_plain s has plain ∙ ap (λ ts. own s has + count_in has (forest ts)) (sym (take_all c.loop-child.child-index (trees s.children) (omega (arith, all)))))
    c.loop-child.invariant

pub returns-then-eq : goal.returns-then-eq
returns-then-eq t c =
    let s = c.args.statement.now in
    let kind : c.kind-keyword.result ≡ keyword_of s.head.keyword = c.kind-keyword.ensures in
    let is : same (keyword_of s.head.keyword) word.Extended ≡ true = ap (λ k. same k word.Extended) (sym kind) ∙ sym c.eq.ensures ∙ c.if-eq.true in
    same_counts (λ has. 0) (count_of s) _ (λ has. of_extension s has is) (record { must = refl; when = refl; path = refl; instance = refl })
