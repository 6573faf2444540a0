use Rattle.std.proofs.Common.{◌∙◌, List, ℕ, Bor, Vec, map, option_map, sym, ap}
use Rattle.std.specs.declared.alloc.Global.{Global}
use Rattle.yv_base_numbers.specs.declared.intervals.Span.{Span}
use Rattle.yv_base_numbers.specs.InnerParts.{all_of}
use Rattle.yv_base_numbers.specs.RestrictedIntervals.{Interval, interval}
use Rattle.yv_base_numbers.specs.Restrictions.{part_of}
use Rattle.yv_base_numbers.proofs.RestrictionParts.{some_restricted, none_restricted, none_from}
use Rattle.yv_base_numbers.proofs.restriction.restrict.Goals as goal

pub returns-in-Some-clause-restricts : goal.returns-in-Some-clause-restricts
returns-in-Some-clause-restricts c =
    let texts = map (λ (w : Bor (List ℕ)). w.now) c.deref.result.now in
    let read = ap (λ (base : List Interval). all_of (part_of c.args.digits base) texts) (sym c.spans.ensures.same) ∙ sym (ap (option_map (λ (v : Vec Span Global). map interval v.items)) (sym c.in-Some.is) ∙ c.in_ok-spans.ensures) in
    let cut = ap (map (λ (w : Bor (List ℕ)). w.now)) c.deref.ensures.value ∙ c.in_ok-pieces.ensures in
    some_restricted c.args.digits c.args.base.now c.args.text.now texts (map interval c.in-Some.spans.items) c.restricted_to.result cut read c.restricted_to.ensures.some c.restricted_to.ensures.takes

pub returns-in-Some-clause-refuses : goal.returns-in-Some-clause-refuses
returns-in-Some-clause-refuses c =
    let texts = map (λ (w : Bor (List ℕ)). w.now) c.deref.result.now in
    let read = ap (λ (base : List Interval). all_of (part_of c.args.digits base) texts) (sym c.spans.ensures.same) ∙ sym (ap (option_map (λ (v : Vec Span Global). map interval v.items)) (sym c.in-Some.is) ∙ c.in_ok-spans.ensures) in
    let cut = ap (map (λ (w : Bor (List ℕ)). w.now)) c.deref.ensures.value ∙ c.in_ok-pieces.ensures in
    none_restricted c.args.digits c.args.base.now c.args.text.now texts (map interval c.in-Some.spans.items) c.restricted_to.result cut read c.restricted_to.ensures.refuses

pub returns-clause-refuses : goal.returns-clause-refuses
returns-clause-refuses c =
    let texts = map (λ (w : Bor (List ℕ)). w.now) c.deref.result.now in
    let read = ap (λ (base : List Interval). all_of (part_of c.args.digits base) texts) (sym c.spans.ensures.same) ∙ sym (ap (option_map (λ (v : Vec Span Global). map interval v.items)) (sym c.in-None.is) ∙ c.in_ok-spans.ensures) in
    let cut = ap (map (λ (w : Bor (List ℕ)). w.now)) c.deref.ensures.value ∙ c.in_ok-pieces.ensures in
    none_from c.args.digits c.args.base.now c.args.text.now texts cut read
