use Rattle.std.proofs.Common.{◌≡◌, ℕ, None, Some, sym, ◌∙◌, subst}
use Rattle.yv_types.specs.Defaults.{HasDefault}
use Rattle.yv_types.specs.InnerDefaultTables.{text_from}
use Rattle.yv_types.proofs.DefaultFinding.{found_none, found_here, found_further, found_last}
use Rattle.yv_types.proofs.default_lookup.found_at.Goals as goal

none_some : (j : ℕ) → None ≡ Some j → ⊥
none_some j e = cc

pub returns-in_default : goal.returns-in_default
returns-in_default c = λ files names bases said type known.
    found_none files c.args.number c.meaning.result (c.meaning.ensures files names) c.in_default.is

pub returns-then-is_some : goal.returns-then-is_some
returns-then-is_some c = λ files names bases said type known.
    found_here files c.args.number c.meaning.result (c.meaning.ensures files names) c.args.said.now said type c.in-Some.definition c.in-Some.is c.text.result c.text.ensures (sym c.is_some.ensures ∙ c.if-is_some.true)

pub returns-in-Some-follows : goal.returns-in-Some-follows
returns-in-Some-follows c = λ files names bases said type known.
    let j : ℕ = c.in-Some-follows.followed in
    let f = (c.follows.ensures files bases j).0 c.in-Some-follows.is in
    found_further files c.args.number c.meaning.result (c.meaning.ensures files names) c.args.said.now said type c.in-Some.definition c.in-Some.is c.text.result c.text.ensures (sym c.is_some.ensures ∙ c.if-is_some.false)
    j (text_from c.args.said.now c.get.result) f (subst (λ o. HasDefault files j (text_from c.args.said.now o)) (sym c.get.ensures) (known j f))

pub returns-in-None : goal.returns-in-None
returns-in-None c = λ files names bases said type known.
    found_last files c.args.number c.meaning.result (c.meaning.ensures files names) c.args.said.now said type c.in-Some.definition c.in-Some.is c.text.result c.text.ensures (sym c.is_some.ensures ∙ c.if-is_some.false)
    (λ j f. none_some j (sym c.in-None.is ∙ (c.follows.ensures files bases j).1 f))
