use Rattle.std.proofs.Common.{◌≡◌, ◌<◌, ◌≤◌, get_or, length, nat_lt, refl, ap, true, arith}
use Rattle.std.proofs.lemmas.Bool.Decides.{nat_tests}
use Rattle.std.proofs.lemmas.List.{get_or_read}
use Rattle.yv_nodes.specs.declared.node.NodeId.{NodeId}
use Rattle.yv_walk.proofs.AscendingNodes.{from_first, not_before}
use Rattle.yv_walk.proofs.context.Context.pass_unkept.Goals as goal

pub returns-in-Some-next_kept-clause-behind : goal.returns-in-Some-next_kept-clause-behind
returns-in-Some-next_kept-clause-behind c =
    let ns = c.args.nodes.now in
    let d : NodeId = record { 0 = 0 } in
    let within : c.args.from < length ns = c.in-Some.ensures.lookup.3.0 in
    let first : c.in-Some.first.now ≡ get_or ns c.args.from d = get_or_read ns _ _ within c.in-Some.ensures.lookup.1 d in
    let low : (get_or ns c.args.from d).0 ≤ c.in-Some-next_kept.number = omega (arith, ap (λ (n : NodeId). n.0) first, c.number.ensures, c.in-Some-next_kept.ensures.behind) in
    not_before ns c.args.from c.count_below.result c.in-Some-next_kept.number d c.requires within low (λ lt. c.count_below.ensures.others c.count_below.result d (omega arith) lt)

pub returns-in-Some-next_kept-clause-unkept : goal.returns-in-Some-next_kept-clause-unkept
returns-in-Some-next_kept-clause-unkept c = λ place d low high in_all.
    let ns = c.args.nodes.now in
    let within : c.args.from < length ns = c.in-Some.ensures.lookup.3.0 in
    let first : c.in-Some.first.now ≡ get_or ns c.args.from d = get_or_read ns _ _ within c.in-Some.ensures.lookup.1 d in
    let behind : (get_or ns c.args.from d).0 ≤ (get_or ns place d).0 = from_first ns c.args.from place d c.requires low in_all in
    let less : (get_or ns place d).0 < c.in-Some-next_kept.number = c.count_below.ensures.below place d high in
    let before : nat_lt (get_or ns place d).0 c.in-Some-next_kept.number ≡ true = grind (arith, nat_tests, less) in
    c.in-Some-next_kept.ensures.unkept (get_or ns place d).0 (omega (arith, ap (λ (n : NodeId). n.0) first, c.number.ensures, behind)) before

pub returns-in-None-clause-unkept : goal.returns-in-None-clause-unkept
returns-in-None-clause-unkept c = λ place d low high in_all.
    let ns = c.args.nodes.now in
    let within : c.args.from < length ns = c.in-Some.ensures.lookup.3.0 in
    let first : c.in-Some.first.now ≡ get_or ns c.args.from d = get_or_read ns _ _ within c.in-Some.ensures.lookup.1 d in
    let behind : (get_or ns c.args.from d).0 ≤ (get_or ns place d).0 = from_first ns c.args.from place d c.requires low in_all in
    c.in-None.ensures.unkept (get_or ns place d).0 (omega (arith, ap (λ (n : NodeId). n.0) first, c.number.ensures, behind)) refl
