use Rattle.std.proofs.Common.{◌≡◌, ℕ, None, ap, sym, ◌∙◌}
use Rattle.std.specs.Option.{option_map}
use Rattle.std.proofs.lemmas.Option.{same_Some}
use Rattle.yv_link_scopes.specs.RowList.{rows_of}
use Rattle.yv_types.specs.InnerTables.{plains, plains_at}
use Rattle.yv_types.proofs.TypeStatementPlace.{type_there}
use Rattle.yv_types.proofs.type_table.Types.at.Goals as goal

pub returns-in-None-clause-none : goal.returns-in-None-clause-none
returns-in-None-clause-none c = λ files choice truth t e k at.
    let number : ℕ = c.in-Some.number in
    let same : number ≡ k = same_Some number k (c.in-Some.ensures ∙ t.places c.args.file c.args.offset ∙ at) in
    let none : plains_at c.args.self.now.spaces k ≡ None =
    ap (plains_at c.args.self.now.spaces) (sym same) ∙ sym c.in_ok-shared.ensures.types ∙ ap (option_map plains) c.in-None.is in
    t.spaces.full k (type_there (rows_of files) c.args.file c.args.offset k at) none
