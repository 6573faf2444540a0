use Rattle.std.proofs.Common.{lit<}
use Rattle.std.proofs.lemmas.Option.{MatchOption-at_none}
use Rattle.std.proofs.lemmas.Str.Pattern.{strip_prefix_char}
use Rattle.yv_expand_paths.proofs.PathReading.{relative}
use Rattle.yv_expand_paths.proofs.paths.behind_root.Goals as goal

pub returns-in-None : goal.returns-in-None
returns-in-None c =
    relative c.args.text.now (MatchOption-at_none _ _ c.in-None.is (strip_prefix_char 47 c.args.text.now c.strip_prefix.result c.strip_prefix.ensures.cases (lit< tt)))
