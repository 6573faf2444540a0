use Rattle.std.proofs.Common.{map, string_bytes}
use Rattle.clap.specs.Words.{app_of}
use Rattle.yv_job.proofs.AppFacts.{matches_here}
use Rattle.yv_job.proofs.words.match_words.Goals as goal

pub returns-clause-ok : goal.returns-clause-ok
returns-clause-ok c =
    let parse = c.try_get_matches_from.ensures in
    (matches_here (app_of c.in_ok-command.command) (map string_bytes c.args.words.now) c.try_get_matches_from.result c.in_ok-command.ensures parse.kinds parse.matches).0

pub returns-clause-err : goal.returns-clause-err
returns-clause-err c =
    let parse = c.try_get_matches_from.ensures in
    (matches_here (app_of c.in_ok-command.command) (map string_bytes c.args.words.now) c.try_get_matches_from.result c.in_ok-command.ensures parse.kinds parse.matches).1
