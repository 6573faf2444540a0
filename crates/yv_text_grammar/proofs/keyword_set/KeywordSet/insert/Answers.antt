use Rattle.std.proofs.Common.{◌<◌, length, arith}
use Rattle.yv_text_grammar.specs.InnerKeywordSet.{number}
use Rattle.yv_text_grammar.proofs.Marks.{marked}
use Rattle.yv_text_grammar.proofs.keyword_set.KeywordSet.insert.Goals as goal

pub returns : goal.returns
returns c = λ k. rw (← c.index_of.ensures.number) (marked c.args.self.now.marks c.index_of.result (number k) (let below : c.index_of.result < length c.args.self.now.marks = omega arith in below))
