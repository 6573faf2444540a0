use Rattle.yv_source.proofs.Legality.{front_char}
use Rattle.yv_source.proofs.source.front_of.Goals as goal

pub returns-clause-some : goal.returns-clause-some
returns-clause-some c = front_char c.next.result c.chars.result c.next.new.self c.args.text.now c.chars.ensures.rest c.next.ensures.steps
