use Rattle.std.proofs.Common.{◌≡◌, ◌↔◌, ◌+◌, ◌≤◌, inl, inr, Option, Some, None, length, refl, ◌∙◌, ap, sym, arith, slice_index_or}
use Rattle.std.proofs.lemmas.Bool.{cases_lt}
use Rattle.std.proofs.lemmas.Option.{none-some}
use Rattle.yv_nodes.specs.Link as spec
use Rattle.yv_node_leafrefs.specs.Schema.{leafref_of_row, Schema}
use Rattle.yv_node_leafrefs.specs.Links.{IsLinkOf}
use Rattle.yv_node_leafrefs.specs.InnerWays.{AreAbove}
use Rattle.yv_node_leafrefs.proofs.Exact.{within}
use Rattle.yv_node_leafrefs.proofs.LinkPlacing.{longer, past, put}
use Rattle.yv_node_leafrefs.proofs.all_links.links.Goals as goal

pub loop-number-preserved : goal.loop-number-preserved
loop-number-preserved c =
    let s : Schema = record { rows = c.args.nodes.now.rows; says = leafref_of_row c.args.of.now c.args.leafrefs.now } in
    let n = c.loop-number.number in
    let known = c.loop-number.invariant in
    let table : AreAbove s.rows (length s.rows) c.deref.result.now =
    rw (c.deref.ensures.value) (rw c.all.ensures at c.in_ok-above.ensures) in
    let now = c.in_ok-link.ensures s c.requires.resolves refl table in (
      ap length c.in_ok-push.ensures.items ∙ longer c.loop-number.links.items c.in_ok-link.link ∙ ap (λ k. k + 1) known.0,
      λ m link l. put n m c.loop-number.links.items c.push.new.self.items c.in_ok-link.link None known.0 l c.in_ok-push.ensures.items
          (λ k (o : Option spec.Link). (o ≡ Some link) ↔ IsLinkOf s k link) (λ k less. known.1 k link less) (now link),
    )

pub returns : goal.returns
returns c =
    let s : Schema = record { rows = c.args.nodes.now.rows; says = leafref_of_row c.args.of.now c.args.leafrefs.now } in
    let links = c.loop-number.links.items in
    let known = c.loop-number.invariant in
    let all : length s.rows ≤ c.loop-number.number =
    omega (arith, c.loop-number-test.false, c.len-number-end.ensures.count, c.loop-number.auto.number-end) in
    record {
      few = c.requires.resolves.few;
      long = ap length c.in_ok-made.ensures ∙ omega (arith, known.0, all, c.len-number-end.ensures.count, c.loop-number.auto.number-end);
      each = λ n link. elim (cases_lt n c.loop-number.number) [
        | inl less ↦ rw c.in_ok-made.ensures (known.1 n link less)
        | inr up ↦
            let none : slice_index_or c.in_ok-made.made n None ≡ None = ap (λ xs. slice_index_or xs n None) c.in_ok-made.ensures
            ∙ past links n None (omega (arith, up, known.0)) in (
              λ e. absurd (none-some link (sym none ∙ e)),
              λ is. absurd (let l = within s n link is in omega (arith, l, up, all)),
            )
      ];
    }
