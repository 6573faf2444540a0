-- What is read of a leaf, or of an item of a leaf-list.
use Rattle.std.proofs.Common.{◌≡◌, List, [], ◌∷◌, Bool, cond, Option, None, option_map, sym, ap, ◌∙◌}
use Rattle.serde_json.specs.Data.{Data}
use Rattle.yv_nodes.specs.Rows.{Row}
use Rattle.yv_values.specs.Values.{Val}
use Rattle.yv_data_leafrefs.specs.InUse.{value_of}
use Rattle.yv_validate.specs.Faults.{item_tuple}

-- its value alone, as a tuple
pub alone_is : (r q : Row) (d : Data) (is_config : Bool) (read : Option Val) (made : Option (List Val)) → r ≡ q → is_config ≡ r.label.is_config → read ≡ value_of q.label d
    → made ≡ cond is_config (option_map (λ v. v ∷ []) read) None → item_tuple q.label d ≡ made
alone_is r q d is_config read made row config is made_is =
    sym (made_is ∙ ap (λ (b : Bool). cond b (option_map (λ v. v ∷ []) read) None) (config ∙ ap (λ (x : Row). x.label.is_config) row)
    ∙ ap (λ (v : Option Val). cond q.label.is_config (option_map (λ v. v ∷ []) v) None) is)
