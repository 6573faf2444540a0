use Rattle.std.proofs.Common.{◌≡◌, ◌∙◌, ◌+◌, ℕ, List, map, string_bytes, length, sym, ap, subst, arith}
use Rattle.std.specs.List.{All}
use Rattle.yv_base_graph.specs.Graph.{Graph, AreReached}
use Rattle.yv_search.specs.Roles.{FileSet}
use Rattle.yv_search.specs.InnerModules.{lookup}
use Rattle.yv_search.specs.InnerPrefixes.{Refs}
use Rattle.yv_search.specs.InnerEdges.{all_edges}
use Rattle.yv_search.specs.InnerGraph.{IsWithin, IsGraphOf}
use Rattle.yv_search.specs.InnerRoles.{has_mark}
use Rattle.yv_search.specs.declared.edges.Edge.{Edge}
use Rattle.yv_search.proofs.RoleEdges.{edges}
use Rattle.yv_search.proofs.RoleMarks.{all_within, graph_fits, marks_tell}
use Rattle.yv_search.proofs.roles.Requirements.read.Goals as goal

pub graph_of-requires : goal.graph_of-requires
graph_of-requires c =
    let f : FileSet = record { roots = c.args.roots.now; named = c.args.named; import_only = map string_bytes c.args.given.now } in
    let es : c.deref.result.now ≡ edges f = c.deref.ensures.value ∙ c.in_ok-edges.ensures ∙ ap (λ (r : Refs). all_edges r c.args.roots.now c.args.named) (λ i q. c.in_ok-modules.ensures q i) in
    record {
      few = omega arith;
      within = subst (λ (l : List Edge). All (λ e. IsWithin (length c.args.roots.now) e.from × IsWithin (length c.args.roots.now) e.to) l) (sym es) (all_within f);
    }

pub reachable_from-requires : goal.reachable_from-requires
reachable_from-requires c =
    let f : FileSet = record { roots = c.args.roots.now; named = c.args.named; import_only = map string_bytes c.args.given.now } in
    let es : c.deref.result.now ≡ edges f = c.deref.ensures.value ∙ c.in_ok-edges.ensures ∙ ap (λ (r : Refs). all_edges r c.args.roots.now c.args.named) (λ i q. c.in_ok-modules.ensures q i) in
    let is : IsGraphOf (length c.args.roots.now) (edges f) c.deref-2.result.now =
    subst (λ (l : List Edge). IsGraphOf (length c.args.roots.now) l c.deref-2.result.now) es (subst (λ (g : Graph). IsGraphOf (length c.args.roots.now) c.deref.result.now g) (sym c.deref-2.ensures.value) c.in_ok-graph.ensures) in
    record {
      graph = graph_fits f c.deref-2.result.now is;
      from = let each : length c.deref-2.result.now ≡ length c.args.roots.now + length c.args.roots.now + 1 = is.each in omega (arith, each, c.number_of-start.ensures);
    }

pub returns : goal.returns
returns c =
    let f : FileSet = record { roots = c.args.roots.now; named = c.args.named; import_only = map string_bytes c.args.given.now } in
    let es : c.deref.result.now ≡ edges f = c.deref.ensures.value ∙ c.in_ok-edges.ensures ∙ ap (λ (r : Refs). all_edges r c.args.roots.now c.args.named) (λ i q. c.in_ok-modules.ensures q i) in
    let is : IsGraphOf (length c.args.roots.now) (edges f) c.deref-2.result.now =
    subst (λ (l : List Edge). IsGraphOf (length c.args.roots.now) l c.deref-2.result.now) es (subst (λ (g : Graph). IsGraphOf (length c.args.roots.now) c.deref.result.now g) (sym c.deref-2.ensures.value) c.in_ok-graph.ensures) in
    marks_tell f c.deref-2.result.now is c.in_ok-marks.marks.items (λ m. has_mark c.in_ok-marks.marks.items (lookup c.in_ok-modules.modules m))
    (subst (λ (a : ℕ). AreReached c.deref-2.result.now a c.in_ok-marks.marks.items) c.number_of-start.ensures c.in_ok-marks.ensures.exact)
    (λ m. ap (has_mark c.in_ok-marks.marks.items) (c.in_ok-modules.ensures m))
