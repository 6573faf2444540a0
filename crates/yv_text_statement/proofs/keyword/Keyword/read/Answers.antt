use Rattle.std.proofs.Common.{◌≡◌, false, nat_eq, sym, ◌∙◌, ap}
use Rattle.std.specs.List.{list_any}
use Rattle.yv_text_statement.specs.Keywords.{keyword_of}
use Rattle.yv_text_statement.proofs.keyword.Keyword.read.Goals as goal

pub returns-else-contains : goal.returns-else-contains
unfolding keyword_of
returns-else-contains c =
    let none : list_any (λ byte. nat_eq byte 58) c.args.text.now ≡ false =
    ap (list_any (λ byte. nat_eq byte 58)) (sym c.as_bytes.ensures.value) ∙ sym c.contains.ensures.value ∙ c.if-contains.false in
    rw none c.find.ensures
