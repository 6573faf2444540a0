use Rattle.std.proofs.Common.{◌≡◌, ◌≢◌, sym, ◌∙◌, ap, length, false}
use Rattle.yv_source.specs.Pieces.{Double, up_to_quote}
use Rattle.yv_source.specs.Inner.Scan.{First, closed_piece, from_quote, ahead_of, unless_unquoted, is_unquoted, before_of}
use Rattle.yv_source.specs.declared.scan.Ahead.TheVariants as ahead
use Rattle.yv_source.specs.declared.scan.FoundPiece.TheVariants as found
use Rattle.yv_source.proofs.Until.{closed_none, closed_some, unless_none, unless_apart}
use Rattle.yv_source.proofs.FirstPiece.{quote_from}
use Rattle.yv_source.proofs.scan.double.Goals as goal

pub returns-then-len-rest : goal.returns-then-len-rest
returns-then-len-rest c =
    let is : length (up_to_quote false c.args.rest.now) ≡ length c.args.rest.now = sym c.quote_len-len.ensures ∙ c.if-len-rest.true in
    sym (ap (λ (f : First). ahead_of (unless_unquoted (before_of c.args.before) f)) (closed_none (Double (up_to_quote false c.args.rest.now)) (up_to_quote false c.args.rest.now) (from_quote false c.args.rest.now) c.args.rest.now (quote_from false c.args.rest.now) is)
    ∙ ap ahead_of (unless_none (before_of c.args.before)))

pub returns-else-len-rest : goal.returns-else-len-rest
returns-else-len-rest c =
    let other : length (up_to_quote false c.args.rest.now) ≢ length c.args.rest.now = λ e. c.if-len-rest.false (c.quote_len-len.ensures ∙ e) in
    let some = closed_some (Double (up_to_quote false c.args.rest.now)) (up_to_quote false c.args.rest.now) (from_quote false c.args.rest.now) c.args.rest.now (quote_from false c.args.rest.now) other in
    let apart : is_unquoted (before_of c.args.before) ≡ false = sym c.is_unquoted.ensures ∙ c.if-is_unquoted.false in
    ap (λ n. ahead.Piece (found.Double n)) c.quote_len-len.ensures
    ∙ sym (ap ahead_of (unless_apart (before_of c.args.before) (closed_piece (Double (up_to_quote false c.args.rest.now)) (from_quote false c.args.rest.now)) apart) ∙ ap ahead_of some.1)
