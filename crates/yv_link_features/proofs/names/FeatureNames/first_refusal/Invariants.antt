use Rattle.yv_text_statement.specs.Order.{Among, IsLeast}
use Rattle.yv_link_scopes.specs.Views.{rows_in}
use Rattle.yv_link_features.specs.Refusals.{BadRow}
use Rattle.yv_link_features.specs.InnerNames.{means_in}
use Rattle.yv_link_features.proofs.names.FeatureNames.first_refusal.Given as goal

abbrev pub invariant-loop-number : goal.invariant-loop-number
invariant-loop-number l =
    IsLeast (Among (rows_in l.self.rows.now) (BadRow (means_in l.self) (rows_in l.self.rows.now)) l.number) l.first
