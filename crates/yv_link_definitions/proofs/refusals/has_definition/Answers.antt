use Rattle.std.proofs.Common.{refl, sym, ◌∙◌}
use Rattle.yv_text_statement.specs.declared.keyword.Keyword.TheVariants as word
use Rattle.yv_link_scopes.specs.Rows.{row}
use Rattle.yv_link_scopes.proofs.Keywords.{differs}
use Rattle.yv_link_definitions.proofs.KindsDefined.{kind_by_keyword, none_of, not_word}
use Rattle.yv_link_definitions.proofs.refusals.has_definition.Goals as goal

pub returns-in_default : goal.returns-in_default
returns-in_default c =
    let k = c.kind.result in
    let other = c.in_default in
    let none = none_of k (differs k word.Feature other.not-Feature) (differs k word.Identity other.not-Identity) (differs k word.Extension other.not-Extension) (differs k word.Typedef other.not-Typedef) (differs k word.Grouping other.not-Grouping) in
    record {
      defines = λ e. sym (kind_by_keyword (row c.args.entry.now) k c.kind.ensures) ∙ none;
      types = λ e. not_word (row c.args.entry.now) k word.Type _ c.kind.ensures refl other.not-Type;
      uses = λ e. not_word (row c.args.entry.now) k word.Uses _ c.kind.ensures refl other.not-Uses;
    }
