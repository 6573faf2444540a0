use Rattle.std.proofs.Common.{Option, ℕ, None, Some, sym, ◌∙◌, ap}
use Rattle.std.specs.List.{slice_get}
use Rattle.std.specs.Option.{option_and_then}
use Rattle.yv_link_scopes.proofs.FirstPrefixes.{module_file_is}
use Rattle.yv_link_scopes.proofs.prefixes.PrefixTable.get.Goals as goal

pub returns : goal.returns
returns c = λ files rows are.
    c.module_file_in.ensures
    ∙ ap (λ l. option_and_then (λ (h : Option ℕ). h) (slice_get l c.in_ok-number.number)) c.deref.ensures.value
    ∙ module_file_is files rows c.args.self.now.module_files.items c.args.file c.args.prefix.now (Some c.in_ok-number.number) are.module_files_are (sym (ap (λ t. t c.args.file c.args.prefix.now) are.prefixes) ∙ sym c.in_ok-number.ensures)

pub returns-in_err-number : goal.returns-in_err-number
returns-in_err-number c = λ files rows are.
    c.from_residual.ensures
    ∙ module_file_is files rows c.args.self.now.module_files.items c.args.file c.args.prefix.now None are.module_files_are (sym (ap (λ t. t c.args.file c.args.prefix.now) are.prefixes) ∙ sym c.in_err-number.ensures)
