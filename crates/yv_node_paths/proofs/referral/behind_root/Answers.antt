use Rattle.std.proofs.Common.{lit<}
use Rattle.std.proofs.lemmas.Str.Pattern.{strip_prefix_char}
use Rattle.yv_node_paths.proofs.PathPieces.{rooted}
use Rattle.yv_node_paths.proofs.referral.behind_root.Goals as goal

pub returns : goal.returns
returns c = rooted c.args.text.now c.strip_prefix.result (strip_prefix_char 47 c.args.text.now c.strip_prefix.result c.strip_prefix.ensures.cases (lit< tt))
