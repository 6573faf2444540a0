use Rattle.std.proofs.Common.{◌≡◌, ◌∙◌, sym, ap, subst, List, Bool, Some, None, cond, map, ◌&&◌, rules}
use Rattle.std.specs.Cmp.{Equal-is}
use Rattle.std.specs.List.{dedup}
use Rattle.std.specs.List.Sorted.{IsSortedByKey}
use Rattle.std.specs.Ordering.{is_eq}
use Rattle.std.specs.Rc.{rc_str_bytes}
use Rattle.std.specs.Str.{bytes_eq}
use Rattle.std.proofs.lemmas.Cmp.{on_total}
use Rattle.std.proofs.lemmas.Fn.{dedup_same}
use Rattle.yv_values.specs.declared.members.Member.{Member}
use Rattle.yv_values.specs.Identities.{Id, RiseById, id_cmp, id_of, identity_in, is_identity}
use Rattle.yv_values.specs.Values.{identity}
use Rattle.yv_values.proofs.IdentitySearch.{compared, either_order, ids_total, same_id}
use Rattle.yv_values.proofs.RisingLists.{left_rises, kept_same, where_ok}
use Rattle.yv_values.proofs.members.Members.from_sorted.Goals as goal

abbrev same : Member → Member → Bool
same x y = bytes_eq (rc_str_bytes x.name) (rc_str_bytes y.name) && bytes_eq (rc_str_bytes x.«module») (rc_str_bytes y.«module»)

ties : (x y : Member) → same x y ≡ is_eq (id_cmp (id_of x) (id_of y))
ties x y = either_order (bytes_eq (rc_str_bytes x.name) (rc_str_bytes y.name)) _ ∙ compared (rc_str_bytes y.«module») (rc_str_bytes y.name) (id_of x)

-- what is left of sorted identities
rises_left : (xs ys : List Member) → ys ≡ dedup same xs → IsSortedByKey id_of id_cmp xs → RiseById (map id_of ys)
rises_left xs ys e up = subst (λ (zs : List Member). RiseById (map id_of zs)) (sym e) (left_rises id_of id_cmp same (on_total id_of ids_total) ties xs up)

pub from_rising-requires : goal.from_rising-requires
from_rising-requires c = rises_left c.args.members.items _ (dedup_same _ same _ (λ x y b f' x' y' k. search rules) _ _ c.dedup_by.ensures.filtered) c.requires

pub returns-clause-rises : goal.returns-clause-rises
returns-clause-rises c = where_ok c.from_rising.result (λ sorted is.
    subst (λ (ids : List Id). RiseById ids) (sym is) (rises_left c.args.members.items _ (dedup_same _ same _ (λ x y b f' x' y' k. search rules) _ _ c.dedup_by.ensures.filtered) c.requires)) c.from_rising.ensures

pub returns-clause-same : goal.returns-clause-same
returns-clause-same c = where_ok c.from_rising.result (λ sorted is module_name called.
    let left = dedup_same _ same _ (λ x y b f' x' y' k. search rules) _ _ c.dedup_by.ensures.filtered in
    ap (λ (ids : List Id). identity_in ids module_name called) is
    ∙ ap (λ (xs : List Member). identity_in (map id_of xs) module_name called) left
    ∙ ap (λ (b : Bool). cond b (Some (identity module_name called)) None)
    (kept_same id_of id_cmp same (λ x y h. same_id (rc_str_bytes y.«module») (rc_str_bytes y.name) (id_of x) ((Equal-is (id_cmp (id_of x) (id_of y))).0 (sym (ties x y) ∙ h))) (is_identity module_name called) c.args.members.items)) c.from_rising.ensures
