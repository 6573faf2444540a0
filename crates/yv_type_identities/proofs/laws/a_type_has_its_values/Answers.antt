use Rattle.std.proofs.Common.{◌∙◌}
use Rattle.yv_link_scopes.specs.Rows.{name_in}
use Rattle.yv_type_identities.proofs.laws.a_type_has_its_values.Goals as goal

pub returns : goal.returns
returns c files choice t u clear one other number module_name called h =
    let v = h.3 in (
      h.0,
      h.1,
      h.2,
      record {
        identity = v.identity;
        derived = v.derived;
        implemented = v.implemented;
        on = λ k s at is. c.an_expression_has_one_truth.ensures files choice s.file (name_in s) (u s.file (name_in s)) (t s.file (name_in s)) clear (other s.file (name_in s)) (one s.file (name_in s)) ∙ v.on k s at is;
      },
      h.4,
    )
