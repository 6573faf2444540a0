use Rattle.std.proofs.Common.{◌≡◌, not, ◌&&◌, sym, ◌∙◌, ap, Some, length, map, take, refl, arith}
use Rattle.std.specs.List.{slice_get, list_any}
use Rattle.std.proofs.lemmas.Option.{slice_get_read}
use Rattle.yv_text_statement.specs.Order.{Among, IsLeast, Stands, refusal_at}
use Rattle.yv_text_grammar.specs.InnerKeywordSet.{is_marked}
use Rattle.yv_text_grammar.specs.Table.{is_one, rows_of}
use Rattle.yv_text_grammar.specs.InnerEntries.{row}
use Rattle.yv_text_statement.specs.Tree.{trees}
use Rattle.yv_text_grammar.specs.Refusals.{IsMisplaced, LacksChild, has, is_misplaced, keyword_at}
use Rattle.yv_text_statement.specs.declared.keyword.Keyword.{Keyword}
use Rattle.yv_text_statement.specs.declared.refusal.Code.TheVariants as code
use Rattle.yv_text_statement.proofs.Least.{least_more}
use Rattle.yv_text_grammar.proofs.Counts.{all_seen, has_more, missing_is}
use Rattle.yv_text_statement.proofs.Least.{least_refused, least_lesser}
use Rattle.yv_text_grammar.proofs.refusal.count_fault.Goals as goal

pub loop-child-preserved : goal.loop-child-preserved
loop-child-preserved c =
    let s = c.args.statement.now in
    let i = c.loop-child.child-index in
    let child = c.child-item.result in
    let at_child : slice_get (trees s.children) i ≡ Some child =
    rw (← c.children-child-items.ensures) (slice_get_read _ _ i child refl (omega arith) c.child-item.is) in
    let kind : c.kind-kind.result ≡ keyword_at child = c.kind-kind.ensures in
    let before : c.contains.result ≡ has c.kind-kind.result (take i (trees s.children)) = c.contains.ensures ∙ c.loop-child.invariant.seen c.kind-kind.result in
    let rows : _ ≡ rows_of (keyword_at s) = c.rows-rows.ensures ∙ ap rows_of c.requires in
    let misplaced : c.is_misplaced-misplaced.result ≡ is_misplaced (rows_of (keyword_at s)) (keyword_at child) (has (keyword_at child) (take i (trees s.children))) =
    rw (← kind, ← rows, ← before) c.is_misplaced-misplaced.ensures in
    let here : IsLeast (Stands (IsMisplaced s i child) (refusal_at code.Cardinality 0 child.head)) c.refusal_if-here.result =
    rw c.refusal_if-here.ensures (least_refused (IsMisplaced s i child) _ _ (λ h. sym misplaced ∙ h) (λ h. misplaced ∙ h)) in
    record {
      best = least_more (trees s.children) (λ k c. Stands (IsMisplaced s k c) (refusal_at code.Cardinality 0 c.head)) i child _ _ _ at_child c.lesser-best.ensures c.loop-child.invariant.best here;
      seen = has_more (trees s.children) i child c.kind-kind.result kind at_child (is_marked c.loop-child.seen) (is_marked c.insert.new.self) c.loop-child.invariant.seen c.insert.ensures;
    }

pub returns : goal.returns
returns c =
    let s = c.args.statement.now in
    let all : c.loop-child.child-index ≡ length (trees s.children) = rw (← c.children-child-items.ensures) (omega arith) in
    let rows : _ ≡ rows_of (keyword_at s) = c.rows-rows.ensures ∙ ap rows_of c.requires in
    let seen : (k : Keyword) → is_marked c.loop-child.seen k ≡ has k (trees s.children) = all_seen (trees s.children) c.loop-child.child-index all (is_marked c.loop-child.seen) c.loop-child.invariant.seen in
    let lacks : c.lacks_child.result ≡ list_any (λ r. is_one r.1 && not (has r.0 (trees s.children))) (rows_of (keyword_at s)) =
    rw (← rows) (c.lacks_child.ensures ∙ missing_is (map row c.rows-rows.result.now) (trees s.children) (is_marked c.loop-child.seen) seen) in
    let missing : IsLeast (Stands (LacksChild s) (refusal_at code.Cardinality 0 s.head)) c.refusal_if-missing.result =
    rw c.refusal_if-missing.ensures (least_refused (LacksChild s) _ _ (λ h. sym lacks ∙ h) (λ h. lacks ∙ h)) in
    let misplaced : IsLeast (Among (trees s.children) (λ k c. Stands (IsMisplaced s k c) (refusal_at code.Cardinality 0 c.head)) (length (trees s.children))) c.loop-child.best =
    rw (← all) c.loop-child.invariant.best in
    least_lesser _ _ _ _ _ c.lesser.ensures misplaced missing
