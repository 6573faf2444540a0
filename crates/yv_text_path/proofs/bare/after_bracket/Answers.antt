use Rattle.std.proofs.Common.{Some, None, sym, arith}
use Rattle.std.proofs.lemmas.Str.Pattern.{split_once_first}
use Rattle.yv_text_path.proofs.BarePaths.{after_none}
use Rattle.yv_text_path.proofs.bare.after_bracket.Goals as goal

pub returns-in-Some : goal.returns-in-Some
returns-in-Some c =
    let parts = split_once_first 93 c.args.text.now (Some (c.in-Some._predicate, c.in-Some.rest)) c.in-Some.ensures.cases (omega arith) in
    parts.2

pub returns-in-None : goal.returns-in-None
returns-in-None c = sym (after_none 93 c.args.text.now (split_once_first 93 c.args.text.now None c.in-None.ensures.cases (omega arith)))
