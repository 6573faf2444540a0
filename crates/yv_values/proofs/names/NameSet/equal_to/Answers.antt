use Rattle.std.proofs.Common.{◌≡◌, ◌∙◌, ℕ, true, false, not, List, filter, sym, ap, subst, arith, rules}
use Rattle.std.specs.Cmp.Lexicographic.{slice_cmp}
use Rattle.std.specs.List.Sorted.{IsSortedBy, IsPartitionedBy, IsPartitionPoint}
use Rattle.std.specs.Ordering.{is_lt, nat_cmp}
use Rattle.std.specs.Str.{bytes_eq}
use Rattle.std.specs.Rc.{rc_str_bytes}
use Rattle.std.specs.declared.rc.RcStr.{RcStr}
use Rattle.std.specs.declared.alloc.Global.{Global}
use Rattle.std.proofs.lemmas.Cmp.{nat_list_cmp_total}
use Rattle.std.proofs.lemmas.List.Sorted.{IsPartitionPoint-from_clause}
use Rattle.yv_values.specs.InnerNames.{is_below}
use Rattle.yv_values.specs.Values.{texts}
use Rattle.yv_values.proofs.Order.{below_parted, upto_parted, run_is, ascends, filter_mapped}
use Rattle.yv_values.proofs.RisingLists.{sorted_from_rising}
use Rattle.yv_values.proofs.names.NameSet.equal_to.Goals as goal

pub returns-clause-names : goal.returns-clause-names
returns-clause-names c =
    let w = c.args.text.now in
    let low = c.partition_point-low.result in
    let xs = c.deref-2.result.now in
    let sorted = sorted_from_rising (λ (n : RcStr Global). rc_str_bytes n) (slice_cmp nat_cmp) nat_list_cmp_total _ c.self.invariant in
    let up = subst (IsSortedBy (λ (a b : RcStr Global). is_lt (slice_cmp nat_cmp (rc_str_bytes a) (rc_str_bytes b)))) (sym c.deref-2.ensures.value) sorted in
    let first_up = subst (IsSortedBy (λ (a b : RcStr Global). is_lt (slice_cmp nat_cmp (rc_str_bytes a) (rc_str_bytes b)))) (sym c.deref.ensures.value) sorted in
    let below = IsPartitionPoint-from_clause (λ (y : RcStr Global). is_below (rc_str_bytes y) w) _ _ c.partition_point-low.ensures.partitioned (below_parted rc_str_bytes c.deref.result.now first_up w) (λ a r q k. search rules) in
    let lower = subst (λ (ys : List (RcStr Global)). IsPartitionPoint (λ y. is_below (rc_str_bytes y) w ≡ true) (λ y. is_below (rc_str_bytes y) w ≡ false) ys low) (c.deref.ensures.value ∙ sym c.deref-2.ensures.value) below in
    let parted = subst (IsPartitionedBy (λ (y : RcStr Global). not (is_below w (rc_str_bytes y)))) (sym c.split_at.ensures.back) (upto_parted rc_str_bytes xs up w low) in
    let upto = IsPartitionPoint-from_clause (λ (y : RcStr Global). not (is_below w (rc_str_bytes y))) _ _ c.partition_point-count.ensures.partitioned parted (λ a r q k. search rules) in
    let upper = subst (λ (ys : List (RcStr Global)). IsPartitionPoint (λ y. not (is_below w (rc_str_bytes y)) ≡ true) (λ y. not (is_below w (rc_str_bytes y)) ≡ false) ys c.partition_point-count.result) c.split_at.ensures.back upto in
    let same = ap texts c.deref-2.ensures.value ∙ c.self.view_is in
    rw c.split_at.ensures.back (
    ap texts (run_is rc_str_bytes xs up w low c.partition_point-count.result lower.0 lower.1 (omega arith) upper.0 upper.1)
    ∙ filter_mapped rc_str_bytes (λ (n : List ℕ). bytes_eq n w) xs
    ∙ ap (filter (λ (n : List ℕ). bytes_eq n w)) same
    )

pub returns-clause-order : goal.returns-clause-order
returns-clause-order c = rw (← c.self.view_is) (ascends rc_str_bytes _ (sorted_from_rising (λ (n : RcStr Global). rc_str_bytes n) (slice_cmp nat_cmp) nat_list_cmp_total _ c.self.invariant))
