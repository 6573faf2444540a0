use Rattle.std.proofs.Common.{lit<, sym}
use Rattle.std.proofs.lemmas.Str.Pattern.{split_after}
use Rattle.yv_job.proofs.NameLemmas.{no_colon}
use Rattle.yv_job.proofs.names.cut.Goals as goal

pub returns-clause-first : goal.returns-clause-first
returns-clause-first c before after h e =
    split_after 58 c.args.text.now before after c.split_once.result c.split_once.ensures.cases (lit< tt) (sym e) (no_colon before h)
