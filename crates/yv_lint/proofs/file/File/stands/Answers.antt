use Rattle.std.proofs.Common.{sym, ◌∙◌, ap}
use Rattle.yv_text_statement.specs.declared.keyword.Keyword.TheVariants as word
use Rattle.yv_lint.specs.Definitions.{own_prefix}
use Rattle.yv_lint.specs.InnerPlaces.{place_of}
use Rattle.yv_lint.specs.Rules.{stands_at}
use Rattle.yv_lint.proofs.file.File.stands.Goals as goal

pub returns-in-UnusedTypedef : goal.returns-in-UnusedTypedef
returns-in-UnusedTypedef c = λ before h.
    c.is_unused.ensures word.Type (own_prefix c.args.self.now.root.now) before c.requires.types c.requires.end_is
    ∙ ap (stands_at c.args.self.now.question.now.roots.now c.args.self.now.root.now (place_of before c.args.place.now)) (sym c.in-UnusedTypedef.is)

pub returns-in-UnusedGrouping : goal.returns-in-UnusedGrouping
returns-in-UnusedGrouping c = λ before h.
    c.is_unused-in-UnusedGrouping.ensures word.Uses (own_prefix c.args.self.now.root.now) before c.requires.groupings c.requires.end_is
    ∙ ap (stands_at c.args.self.now.question.now.roots.now c.args.self.now.root.now (place_of before c.args.place.now)) (sym c.in-UnusedGrouping.is)
