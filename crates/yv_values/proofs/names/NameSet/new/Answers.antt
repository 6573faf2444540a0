use Rattle.std.proofs.Common.{◌≡◌, ◌∙◌, sym, ap, subst, List, ℕ, Bool}
use Rattle.std.specs.Cmp.Lexicographic.{on_texts, slice_cmp, texts_ties}
use Rattle.std.specs.List.{dedup}
use Rattle.std.specs.List.Sorted.{IsSortedByKey}
use Rattle.std.specs.Ordering.{nat_cmp}
use Rattle.std.specs.Str.{bytes_eq}
use Rattle.std.specs.Rc.{rc_str_bytes}
use Rattle.std.specs.declared.rc.RcStr.{RcStr}
use Rattle.std.specs.declared.alloc.Global.{Global}
use Rattle.std.proofs.lemmas.List.Filters.{dedup_is}
use Rattle.std.proofs.lemmas.Slice.Eq.{bytes_eq-Decides}
use Rattle.yv_values.specs.NameOrder.{Rises, is_named}
use Rattle.yv_values.specs.Values.{texts}
use Rattle.yv_values.proofs.RisingLists.{left_rises, left_same}
use Rattle.yv_values.proofs.names.NameSet.new.Goals as goal

abbrev text_of : RcStr Global → List ℕ
text_of n = rc_str_bytes n

abbrev same : RcStr Global → RcStr Global → Bool
same x y = bytes_eq (rc_str_bytes x) (rc_str_bytes y)

-- what is left of sorted names
rises_left : (xs ys : List (RcStr Global)) → ys ≡ dedup same xs → IsSortedByKey text_of (slice_cmp nat_cmp) xs → Rises (texts ys)
rises_left xs ys e up =
    subst (λ (zs : List (RcStr Global)). Rises (texts zs)) (sym e)
    (left_rises text_of (slice_cmp nat_cmp) same (on_texts text_of) (λ x y. texts_ties (rc_str_bytes x) (rc_str_bytes y)) xs up)

pub invariant_of-result : goal.invariant_of-result
invariant_of-result c = rises_left c.sort.new.self.items _ (c.in_ok-from_vec.ensures ∙ dedup_is same _ _ c.dedup.ensures.filtered) c.in_ok-sort.ensures.sorted

pub returns-clause-rises : goal.returns-clause-rises
returns-clause-rises c = rises_left c.sort.new.self.items _ (c.in_ok-from_vec.ensures ∙ dedup_is same _ _ c.dedup.ensures.filtered) c.in_ok-sort.ensures.sorted

pub returns-clause-same : goal.returns-clause-same
returns-clause-same c = λ s.
    let left = dedup_is same _ _ c.dedup.ensures.filtered in
    ap (λ (xs : List (RcStr Global)). is_named (texts xs) s) (c.in_ok-from_vec.ensures ∙ left)
    ∙ left_same text_of (slice_cmp nat_cmp) same (λ x y h. (bytes_eq-Decides (rc_str_bytes x) (rc_str_bytes y)).0 h) (λ (n : List ℕ). bytes_eq n s) _ _ c.in_ok-sort.ensures.permutation
