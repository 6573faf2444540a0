use Rattle.std.proofs.Common.{◌≡◌, Some, None, sym, ◌∙◌, ap}
use Rattle.std.proofs.lemmas.Bool.{false≢true}
use Rattle.yv_link_scopes.specs.Views.{files_in, rows_in}
use Rattle.yv_base_tables.specs.Slots.{at}
use Rattle.yv_type_chains.proofs.TypeBases.{base_along, base_itself, base_none}
use Rattle.yv_type_chains.proofs.draft.Draft.base.Goals as goal

pub returns-then-names_built_in : goal.returns-then-names_built_in
returns-then-names_built_in c = λ told known.
    base_itself (files_in c.args.self.now.rows.now) (rows_in c.args.self.now.rows.now) c.args.number (c.names_built_in.ensures.0 c.if-names_built_in.true)

pub returns-in-Some : goal.returns-in-Some
returns-in-Some c = λ told known.
    let followed : at c.args.self.now.follows.items c.args.number ≡ Some c.in-Some.followed = ap (λ xs. at xs c.args.number) (sym c.deref.ensures.value) ∙ sym c.get.ensures ∙ c.in-Some.is in
    base_along (files_in c.args.self.now.rows.now) (rows_in c.args.self.now.rows.now) c.args.self.now.follows.items told c.args.number c.in-Some.followed c.get-in-Some.result c.args.bases.now
    (λ n. false≢true (sym c.if-names_built_in.false ∙ c.names_built_in.ensures.1 n)) followed c.get-in-Some.ensures known

pub returns-in-None : goal.returns-in-None
returns-in-None c = λ told known.
    let none : at c.args.self.now.follows.items c.args.number ≡ None = ap (λ xs. at xs c.args.number) (sym c.deref.ensures.value) ∙ sym c.get.ensures ∙ c.in-None.is in
    base_none (files_in c.args.self.now.rows.now) (rows_in c.args.self.now.rows.now) c.args.self.now.follows.items told c.args.number
    (λ n. false≢true (sym c.if-names_built_in.false ∙ c.names_built_in.ensures.1 n)) none
