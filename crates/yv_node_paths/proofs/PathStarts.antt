-- Where paths begin in files that conform.
use Rattle.std.proofs.Common.{◌≡◌, ◌≢◌, ℕ, List, Some}
use Rattle.std.specs.List.{slice_get}
use Rattle.yv_text_statement.specs.Tree.{Tree, trees}
use Rattle.yv_text_statement.specs.declared.keyword.Keyword.TheVariants as word
use Rattle.yv_text_grammar.specs.Refusals.{keyword_at}
use Rattle.yv_expand.specs.Conformance.{Conform}
use Rattle.yv_expand.proofs.StatementFit.{statement_fits}
use Rattle.yv_link_scopes.specs.Files.{Files}
use Rattle.yv_link_scopes.specs.RowList.{statements_of}
use Rattle.yv_node_paths.specs.Referral.{climbs_of}
use Rattle.yv_text_grammar.specs.declared.xpath.Xpath.TheVariants.{Skip}
use Rattle.yv_node_paths.proofs.PathTexts.{begins_within}

pub begins_in_files : (files : Files) (k j : ℕ) (t c : Tree) (text : List ℕ) → Conform files → slice_get (statements_of files) k ≡ Some t
    → keyword_at t ≢ word.Extended → slice_get (trees t.children) j ≡ Some c → keyword_at c ≡ word.Path → c.head.argument ≡ Some text
    → climbs_of text ≢ Some 0
begins_in_files files k j t c text fine at other inner is says none =
    let (parent, fits) = statement_fits files k t fine at in
    begins_within Skip parent t c j text fits other inner is says none
