use Rattle.std.proofs.Common.{◌≡◌, ◌<◌, Some, List, length, length-set, set, map, ◌∙◌, ap, arith, subst}
use Rattle.std.specs.List.{slice_get}
use Rattle.yv_base_graph.specs.Graph.{Graph}
use Rattle.yv_link_scopes.specs.Files.{brief_of}
use Rattle.yv_link_scopes.specs.RowList.{rows_of}
use Rattle.yv_link_scopes.specs.Rows.{Row, row}
use Rattle.yv_type_identities.specs.InnerRuns.{is_identity_in, pair_of}
use Rattle.yv_type_identities.proofs.DerivationGraph.{Edges, edges_all, edges_more, edges_none, edges_other, ends_graph, ends_more, ends_none}
use Rattle.yv_type_identities.proofs.RowLoop.{row_read, rows_count}
use Rattle.yv_type_identities.proofs.graph.read_graph.Goals as goal
use Rattle.yv_type_identities.proofs.graph.read_graph.Goals.{in-Some+in_ok-push, in_default}

pub loop-number-init : goal.loop-number-init
loop-number-init c = record {
  each = c.in_ok-graph.ensures.0;
  ends = ends_none c.in_ok-graph.graph.items c.in_ok-graph.ensures.1;
  edges = λ files choice t. edges_none (rows_of files) (pair_of (map brief_of files) (rows_of files) (map row c.entries-entries.result.now) c.args.places.now) c.in_ok-graph.graph.items c.in_ok-graph.ensures.1;
}

pub loop-number-preserved : goal.loop-number-preserved
loop-number-preserved c =
    elim c.match-edge.branch [
      | in-Some+in_ok-push w ↦
          let g : Graph = c.loop-number.graph.items in
          let now : c.match-edge.graph.items ≡ set g w.in-Some.base w.push.new.self = ap (λ v. v.items) w.graph-is in
          let from : w.in-Some.base < length g = omega (arith, w.in-Some.ensures.within.0, c.loop-number.invariant.each) in
          let to : w.in-Some.own < length g = omega (arith, w.in-Some.ensures.within.1, c.loop-number.invariant.each) in
          record {
            each = ap length now ∙ rw length-set c.loop-number.invariant.each;
            ends = ends_more w.in-Some.base w.in-Some.own g c.match-edge.graph.items w.index_mut.result.now w.push.new.self from to w.index_mut.ensures.value w.in_ok-push.ensures.items now c.loop-number.invariant.ends;
            edges = λ files choice t.
                let same : map row c.entries-entries.result.now ≡ rows_of files = c.entries-entries.ensures ∙ ap rows_of (c.rows.ensures files choice t) in
                let at : slice_get (rows_of files) c.loop-number.number ≡ Some (row c.index-entries-number.result) = row_read row c.entries-entries.result.now (rows_of files) c.loop-number.number c.index-entries-number.result same c.loop-number-test.true c.index-entries-number.is in
                edges_more (rows_of files) (pair_of (map brief_of files) (rows_of files) (map row c.entries-entries.result.now) c.args.places.now) c.loop-number.number (row c.index-entries-number.result) c.edge.result at (λ a b h. c.edge.ensures.full files choice t a b h) w.in-Some.base w.in-Some.own g c.match-edge.graph.items w.index_mut.result.now w.push.new.self w.in-Some.is
                (λ i. c.edge.ensures.sound files choice t w.in-Some.base w.in-Some.own w.in-Some.is (ap (λ (rs : List Row). is_identity_in rs w.in-Some.base) same ∙ i))
                from w.index_mut.ensures.value w.in_ok-push.ensures.items now (c.loop-number.invariant.edges files choice t);
          }
      | in_default w ↦ rw w.graph-is record {
        each = c.loop-number.invariant.each;
        ends = c.loop-number.invariant.ends;
        edges = λ files choice t.
            let same : map row c.entries-entries.result.now ≡ rows_of files = c.entries-entries.ensures ∙ ap rows_of (c.rows.ensures files choice t) in
            let at : slice_get (rows_of files) c.loop-number.number ≡ Some (row c.index-entries-number.result) = row_read row c.entries-entries.result.now (rows_of files) c.loop-number.number c.index-entries-number.result same c.loop-number-test.true c.index-entries-number.is in
            edges_other (rows_of files) (pair_of (map brief_of files) (rows_of files) (map row c.entries-entries.result.now) c.args.places.now) c.loop-number.number (row c.index-entries-number.result) c.edge.result at (λ a b h. c.edge.ensures.full files choice t a b h) c.loop-number.graph.items w.in_default.is (c.loop-number.invariant.edges files choice t);
      }
    ]

pub returns-clause-graph : goal.returns-clause-graph
returns-clause-graph c = ends_graph c.loop-number.graph.items c.loop-number.invariant.ends

pub returns-clause-exact : goal.returns-clause-exact
returns-clause-exact c = λ files choice t are.
    let same : map row c.entries-entries.result.now ≡ rows_of files = c.entries-entries.ensures ∙ ap rows_of (c.rows.ensures files choice t) in
    let count = rows_count row c.entries-entries.result.now (rows_of files) same in
    let last : c.loop-number.number ≡ length (rows_of files) = omega (arith, count, c.loop-number-test.false, c.loop-number.auto.number-end) in
    let each : length c.loop-number.graph.items ≡ length (rows_of files) = omega (arith, count, c.loop-number.invariant.each) in
    edges_all (map brief_of files) (rows_of files) c.args.places.now are c.loop-number.number c.loop-number.graph.items each last
    (subst (λ (entries : List Row). Edges (rows_of files) (pair_of (map brief_of files) (rows_of files) entries c.args.places.now) c.loop-number.number c.loop-number.graph.items) same (c.loop-number.invariant.edges files choice t))
