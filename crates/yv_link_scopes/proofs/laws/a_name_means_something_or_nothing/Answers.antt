use Rattle.std.proofs.Common.{map}
use Rattle.std.proofs.lemmas.List.{length-map}
use Rattle.yv_link_scopes.specs.Files.{brief_of}
use Rattle.yv_link_scopes.specs.RowList.{rows_of}
use Rattle.yv_link_scopes.proofs.Bodies.{rows_nested, rows_past_roots}
use Rattle.yv_link_scopes.proofs.Meanings.{in_some}
use Rattle.yv_link_scopes.proofs.laws.a_name_means_something_or_nothing.Goals as goal

pub returns : goal.returns
returns c = λ files kind number name. in_some (map brief_of files) (rows_of files) kind number name (rw length-map (rows_past_roots files)) (rows_nested files)
