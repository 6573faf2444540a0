use Rattle.std.proofs.Common.{◌≡◌, drop, map, filter}
use Rattle.std.specs.List.{fold}
use denote.Text.{Utf8}
use denote.Shadow.{shadow}
use Rattle.yv_text_statement.specs.Tree.{trees}
use Rattle.yv_text_statement.specs.declared.keyword.Keyword.TheVariants as word
use Rattle.yv_link_scopes.specs.Files.{tree_name}
use Rattle.yv_lint.specs.Statements.{has_keyword}
use Rattle.yv_lint.specs.Dates.{dates_of, greatest, later}
use Rattle.yv_lint.proofs.dates.greatest_date.Given as goal

abbrev pub invariant-loop-one : goal.invariant-loop-one
invariant-loop-one l = record {
  best : fold later l.best (map tree_name (filter (has_keyword word.Revision) (drop l.one-index (trees l.root.children)))) ≡ greatest (dates_of l.root);
  text : shadow (Utf8 l.best);
}
