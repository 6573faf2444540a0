use Rattle.std.proofs.Common.{sym, ◌∙◌}
use Rattle.yv_text_statement.specs.declared.keyword.Keyword.TheVariants as word
use Rattle.yv_link_scopes.specs.Rows.{row}
use Rattle.yv_link_scopes.proofs.Keywords.{differs}
use Rattle.yv_link_definitions.proofs.KindsDefined.{kind_by_keyword, none_of}
use Rattle.yv_link_definitions.proofs.duplicates.kind_defined.Goals as goal

pub returns-in-Feature : goal.returns-in-Feature
returns-in-Feature c = kind_by_keyword (row c.args.entry.now) word.Feature (sym c.in-Feature.is ∙ c.kind.ensures)

pub returns-in-Identity : goal.returns-in-Identity
returns-in-Identity c = kind_by_keyword (row c.args.entry.now) word.Identity (sym c.in-Identity.is ∙ c.kind.ensures)

pub returns-in-Extension : goal.returns-in-Extension
returns-in-Extension c = kind_by_keyword (row c.args.entry.now) word.Extension (sym c.in-Extension.is ∙ c.kind.ensures)

pub returns-in-Typedef : goal.returns-in-Typedef
returns-in-Typedef c = kind_by_keyword (row c.args.entry.now) word.Typedef (sym c.in-Typedef.is ∙ c.kind.ensures)

pub returns-in-Grouping : goal.returns-in-Grouping
returns-in-Grouping c = kind_by_keyword (row c.args.entry.now) word.Grouping (sym c.in-Grouping.is ∙ c.kind.ensures)

pub returns-in_default : goal.returns-in_default
returns-in_default c =
    let k = c.kind.result in
    let other = c.in_default in
    sym (none_of k (differs k word.Feature other.not-Feature) (differs k word.Identity other.not-Identity) (differs k word.Extension other.not-Extension) (differs k word.Typedef other.not-Typedef) (differs k word.Grouping other.not-Grouping))
    ∙ kind_by_keyword (row c.args.entry.now) k c.kind.ensures
