use Rattle.std.proofs.Common.{◌∙◌, Bool, Some, None, cond, ap}
use Rattle.yv_values.specs.Identities.{id_of, is_identity}
use Rattle.yv_values.specs.Values.{identity}
use Rattle.yv_values.proofs.RisingLists.{moved_same, where_ok}
use Rattle.yv_values.proofs.members.Members.new.Goals as goal

pub returns-clause-same : goal.returns-clause-same
returns-clause-same c = where_ok c.from_sorted.result (λ sorted same module_name called.
    same module_name called
    ∙ ap (λ (b : Bool). cond b (Some (identity module_name called)) None) (moved_same id_of (is_identity module_name called) _ _ c.in_ok-sort.ensures.permutation ∙ moved_same id_of (is_identity module_name called) _ _ c.in_ok-sort_by.ensures.permutation)) c.from_sorted.ensures.same
