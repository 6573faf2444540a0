use Rattle.yv_expand_laws.proofs.Statements.{have_statements}
use Rattle.yv_expand_laws.proofs.LabelsAndPaths.{labels_tell, paths_agree}
use Rattle.yv_expand_laws.proofs.laws.what_is_told_of_items_is_so.Goals as goal

pub returns-clause-statements : goal.returns-clause-statements
returns-clause-statements c = have_statements

pub returns-clause-labels : goal.returns-clause-labels
returns-clause-labels c = labels_tell

pub returns-clause-paths : goal.returns-clause-paths
returns-clause-paths c = paths_agree
