use Rattle.std.proofs.Common.{◌≡◌, ◌∙◌, [], ◌∷◌, ◌++◌, List, Some, map, ap, sym}
use Rattle.yv_nodes.specs.declared.node.NodeId.{NodeId}
use Rattle.yv_values.specs.Values.{Val}
use Rattle.yv_data_leafrefs.specs.Findings.{LeafrefValue}
use Rattle.yv_nodes.specs.Link.{Link, link_in}
use Rattle.yv_data_leafrefs.proofs.IndexAgreement.{found, judge_is, misses, reaches_is}
use Rattle.yv_data_leafrefs.proofs.answers.Answers.one.Goals as goal

pub returns-then-within_or_among-clause-tells : goal.returns-then-within_or_among-clause-tells
returns-then-within_or_among-clause-tells c = λ m g.
    let s = c.args.self.now.schema.now in
    let links = link_in c.args.self.now.links.now in
    let ps = c.args.self.now.positions.items in
    let n : LeafrefValue = record { position = c.note.inside.position; node = c.note.inside.node.0; item = c.note.inside.item; value = c.note.inside.value } in
    let link : Link = record { climbs = c.link-2.inside.climbs; steps = map (λ (k : NodeId). k.0) c.link-2.inside.steps.items; target = c.link-2.inside.target.0; is_required = c.link-2.inside.is_required } in
    let key : c.push.new.self ≡ n.value ∷ [] = c.in_ok-push.ensures ∙ ap (λ (vs : List Val). vs ++ n.value ∷ []) c.new-key.ensures in
    let linked : links n.node ≡ Some link = sym c.in-Some.ensures ∙ ap Some (sym c.link-2.view_is) in
    rw (← c.note.view_is)
    (found s ps n c.within_or_among.result _ _
    (judge_is s links m ps n link c.climbed_to-first.result c.last_of-last.result c.within_or_among.result linked c.climbed_to-first.ensures c.last_of-last.ensures
    (reaches_is s c.args.self.now.targets c.args.self.now.uses m link.target n.value c.climbed_to-first.result c.last_of-last.result _ c.within_or_among.result g
    (c.defaults_in_use-defaults.ensures m.used g.1) (rw key at c.within_or_among.ensures.finds)))
    c.if-within_or_among.true)

pub returns-clause-tells : goal.returns-clause-tells
returns-clause-tells c = λ m g.
    let s = c.args.self.now.schema.now in
    let links = link_in c.args.self.now.links.now in
    let ps = c.args.self.now.positions.items in
    let n : LeafrefValue = record { position = c.note.inside.position; node = c.note.inside.node.0; item = c.note.inside.item; value = c.note.inside.value } in
    let link : Link = record { climbs = c.link-2.inside.climbs; steps = map (λ (k : NodeId). k.0) c.link-2.inside.steps.items; target = c.link-2.inside.target.0; is_required = c.link-2.inside.is_required } in
    let key : c.push.new.self ≡ n.value ∷ [] = c.in_ok-push.ensures ∙ ap (λ (vs : List Val). vs ++ n.value ∷ []) c.new-key.ensures in
    let linked : links n.node ≡ Some link = sym c.in-Some.ensures ∙ ap Some (sym c.link-2.view_is) in
    rw (← c.note.view_is)
    (misses s ps n c.within_or_among.result _ c.args.values.now.items c.push-2.new.self.items c.in_ok-location.field-0
    (judge_is s links m ps n link c.climbed_to-first.result c.last_of-last.result c.within_or_among.result linked c.climbed_to-first.ensures c.last_of-last.ensures
    (reaches_is s c.args.self.now.targets c.args.self.now.uses m link.target n.value c.climbed_to-first.result c.last_of-last.result _ c.within_or_among.result g
    (c.defaults_in_use-defaults.ensures m.used g.1) (rw key at c.within_or_among.ensures.finds)))
    c.if-within_or_among.false c.in_ok-location.ensures.location c.in_ok-push-2.ensures.items)
