use Rattle.std.proofs.Common.{lit<, sym}
use Rattle.std.proofs.lemmas.Iterator.Consumers.{map_from_collect}
use Rattle.std.proofs.lemmas.Iterator.Splits.{YieldsList-from_str_split}
use Rattle.yv_expand_paths.proofs.paths.steps.Goals as goal

pub returns : goal.returns
returns c =
    rw (sym c.behind_root.ensures)
    (map_from_collect _ c.collect.ensures.ran (YieldsList-from_str_split 47 c.behind_root.result.now (lit< tt) c.split.ensures.text c.split.ensures.has_more c.split.ensures.pattern))
