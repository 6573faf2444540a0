use Rattle.std.proofs.Common.{◌==◌, ap, ◌∙◌}
use Rattle.std.specs.Prelude.{count_by}
use Rattle.std.proofs.lemmas.List.{take_rest}
use Rattle.yv_source.proofs.LineCounts.{line_on, all_counted}
use Rattle.yv_source.proofs.place.Lines.line_after.Goals as goal

pub returns-clause-line : goal.returns-clause-line
returns-clause-line c =
    line_on c.args.front.now c.args.self.now c.line_feeds.result c.requires.counted (c.line_feeds.ensures.count ∙ ap (count_by (λ b. b == 10)) (take_rest c.args.front.now c.args.self.now.at))

pub returns-clause-counts : goal.returns-clause-counts
returns-clause-counts c =
    all_counted c.args.front.now _
    (line_on c.args.front.now c.args.self.now c.line_feeds.result c.requires.counted (c.line_feeds.ensures.count ∙ ap (count_by (λ b. b == 10)) (take_rest c.args.front.now c.args.self.now.at)))
