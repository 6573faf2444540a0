use Rattle.std.proofs.Common.{◌≡◌, ℕ, None, ap, sym, ◌∙◌}
use Rattle.std.specs.Option.{option_map, option_copied}
use Rattle.std.proofs.lemmas.Option.{same_Some}
use Rattle.yv_link_scopes.specs.RowList.{rows_of}
use Rattle.yv_types.specs.InnerTables.{plains, plains_at}
use Rattle.yv_types.proofs.TypeStatementPlace.{type_there}
use Rattle.yv_types.proofs.type_table.Types.plain.Goals as goal

pub returns-in_err-get-clause-none : goal.returns-in_err-get-clause-none
returns-in_err-get-clause-none c = λ files choice truth t e k at.
    let number : ℕ = c.in_ok-number.number in
    let same : number ≡ k = same_Some number k (sym c.in_ok-number.was ∙ c.get.ensures ∙ t.places c.args.file c.args.offset ∙ at) in
    let none : plains_at c.args.self.now.spaces k ≡ None =
    ap (plains_at c.args.self.now.spaces) (sym same) ∙ sym c.get-2.ensures.types ∙ ap (λ s. option_map plains (option_copied s)) c.in_err-get.was in
    t.spaces.full k (type_there (rows_of files) c.args.file c.args.offset k at) none
