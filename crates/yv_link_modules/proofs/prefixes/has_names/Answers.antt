use Rattle.std.proofs.Common.{refl, sym, ◌∙◌}
use Rattle.yv_text_statement.specs.declared.keyword.Keyword.TheVariants as word
use Rattle.yv_link_modules.proofs.KeywordPrefixes.{names_by, none_of, one_of_three, with_names}
use Rattle.yv_link_modules.proofs.prefixes.has_names.Goals as goal

pub returns-in-Type : goal.returns-in-Type
returns-in-Type c = one_of_three with_names word.Type word.Uses word.Base c.kind.result refl refl refl c.in-Type.is ∙ names_by c.args.entry.now.statement.now.head c.kind.result c.kind.ensures

pub returns-in-IfFeature : goal.returns-in-IfFeature
returns-in-IfFeature c = one_of_three with_names word.IfFeature word.Augment word.Refine c.kind.result refl refl refl c.in-IfFeature.is ∙ names_by c.args.entry.now.statement.now.head c.kind.result c.kind.ensures

pub returns-in-Key : goal.returns-in-Key
returns-in-Key c = one_of_three with_names word.Key word.Unique word.Path c.kind.result refl refl refl c.in-Key.is ∙ names_by c.args.entry.now.statement.now.head c.kind.result c.kind.ensures

pub returns-in_default : goal.returns-in_default
returns-in_default c =
    let other = c.in_default in
    sym (none_of with_names c.kind.result (other.not-Type, (other.not-Uses, (other.not-Base, (other.not-IfFeature, (other.not-Augment, (other.not-Refine, (other.not-Key, (other.not-Unique, (other.not-Path, tt))))))))))
    ∙ names_by c.args.entry.now.statement.now.head c.kind.result c.kind.ensures
