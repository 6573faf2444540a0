use Rattle.std.proofs.Common.{◌≡◌, ◌∙◌, ℕ, List, Some, is_some, refl, sym, ap, subst, arith}
use Rattle.std.proofs.lemmas.Bool.Decides.{nat_tests}
use Rattle.std.proofs.lemmas.Option.{slice_get_read}
use Rattle.std.specs.List.{slice_get}
use Rattle.yv_node_content.specs.Definition.{Definition}
use Rattle.yv_nodes.specs.Alike.{untyped_at}
use Rattle.yv_schema_tables.specs.InnerNames.{HaveNumbers, number_in}
use Rattle.yv_schema_tables.proofs.NameNumbers.{with_old}
use Rattle.yv_schema_tables.proofs.names.NameTable.number_next.Goals as goal

pub returns-in-Some-clause-names : goal.returns-in-Some-clause-names
returns-in-Some-clause-names c = λ names h known.
    let rows = c.args.nodes.now.rows in
    let text = (untyped_at rows c.args.next.0).name in
    let at : slice_get c.args.of_nodes.now c.first_alike-first.result.0 ≡ Some c.in-Some.number.now = ap (slice_get c.args.of_nodes.now) (sym c.number.ensures)
    ∙ slice_get_read c.args.of_nodes.now _ c.number.result c.in-Some.number.now refl (grind (arith, nat_tests, c.in-Some.ensures.lookup.0)) c.in-Some.ensures.lookup.1 in
    let is : number_in names text ≡ Some c.in-Some.number.now = ap (λ (d : Definition). number_in names d.name) (sym c.first_alike-first.ensures.alike) ∙ known _ _ at in
    subst (λ (ns : List (List ℕ)). HaveNumbers ns c.args.self.now) (sym (with_old names text (ap is_some is))) h

pub returns-in-Some-clause-number : goal.returns-in-Some-clause-number
returns-in-Some-clause-number c = λ names h known.
    let rows = c.args.nodes.now.rows in
    let text = (untyped_at rows c.args.next.0).name in
    let at : slice_get c.args.of_nodes.now c.first_alike-first.result.0 ≡ Some c.in-Some.number.now = ap (slice_get c.args.of_nodes.now) (sym c.number.ensures)
    ∙ slice_get_read c.args.of_nodes.now _ c.number.result c.in-Some.number.now refl (grind (arith, nat_tests, c.in-Some.ensures.lookup.0)) c.in-Some.ensures.lookup.1 in
    let is : number_in names text ≡ Some c.in-Some.number.now = ap (λ (d : Definition). number_in names d.name) (sym c.first_alike-first.ensures.alike) ∙ known _ _ at in
    ap (λ (ns : List (List ℕ)). number_in ns text) (with_old names text (ap is_some is)) ∙ is
