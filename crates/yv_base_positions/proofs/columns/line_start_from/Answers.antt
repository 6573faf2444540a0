use Rattle.yv_base_positions.proofs.LineLemmas.{later_start, same_start}
use Rattle.yv_base_positions.proofs.columns.line_start_from.Goals as goal

pub returns-in-Some : goal.returns-in-Some
returns-in-Some c = later_start c.args.bytes.now c.args.earlier.offset c.args.offset c.requires.order c.requires.within c.in-Some.at c.memrchr.result c.in-Some.is c.memrchr.ensures

pub returns-in-None : goal.returns-in-None
returns-in-None c = same_start c.args.bytes.now c.args.earlier.offset c.args.offset c.requires.order c.requires.within c.args.earlier.line_start c.memrchr.result c.requires.place c.in-None.is c.memrchr.ensures
