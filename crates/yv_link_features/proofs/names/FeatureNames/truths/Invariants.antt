use Rattle.yv_text_statement.specs.Selection.{selected_of}
use Rattle.yv_link_scopes.specs.Views.{files_in, rows_in}
use Rattle.yv_link_features.specs.InnerNames.{means_in}
use Rattle.yv_link_features.proofs.FeatureOrder.{MarkedUpTo}
use Rattle.yv_link_features.proofs.names.FeatureNames.truths.Given as goal

abbrev pub invariant-loop-number : goal.invariant-loop-number
invariant-loop-number l =
    MarkedUpTo (means_in l.self) (files_in l.self.rows.now) (rows_in l.self.rows.now) (selected_of l.selection) l.order l.number-index l.on.items
