use Rattle.std.proofs.Common.{◌≡◌, ◌-◌, ◌∙◌, ℕ, List, ◌∷◌, Some, cond, drop, length, refl, sym, ap, arith}
use Rattle.std.proofs.lemmas.Option.{slice_get_read}
use Rattle.std.specs.Rc.{rc_str_bytes}
use Rattle.std.specs.Str.{bytes_eq}
use Rattle.yv_nodes.specs.Rows.{Module}
use Rattle.yv_schema_tables.specs.InnerNames.{get_by_name}
use Rattle.yv_schema_tables.specs.InnerTables.{module_file_named}
use Rattle.yv_schema_tables.proofs.ChildDirectories.{drop_next}
use Rattle.yv_schema_tables.proofs.SharedNameTables.{put_name}
use Rattle.yv_schema_tables.proofs.module_files.module_files_of.Goals as goal

pub loop-left-preserved : goal.loop-left-preserved
loop-left-preserved c =
    let ms = c.args.modules.now in
    let left = c.loop-left.left in
    let view = c.index-modules-left.result in
    let name : rc_str_bytes c.in_ok-clone.field-0 ≡ view.name = c.in_ok-clone.ensures.cases ∙ ap (λ (m : Module). m.name) c.module.view_is in
    let at = slice_get_read ms (length ms) (left - 1) view refl (omega (arith, c.loop-left.invariant.within, c.loop-left-test.true)) c.index-modules-left.is in
    let next : drop (left - 1) ms ≡ view ∷ drop left ms = drop_next ms (left - 1) view at ∙ ap (λ (n : ℕ). view ∷ drop n ms) (omega (arith, c.loop-left-test.true)) in
    record {
      within = omega (arith, c.loop-left.invariant.within);
      known = λ text.
          put_name c.loop-left.module_files c.insert.new.self (rc_str_bytes c.in_ok-clone.field-0) c.module.inside.module_file c.in_ok-insert.ensures.updates text
          ∙ ap (λ (bs : List ℕ). cond (bytes_eq bs text) (Some c.module.inside.module_file) (get_by_name c.loop-left.module_files text)) name
          ∙ ap (λ (m : Module). cond (bytes_eq view.name text) (Some m.module_file) (get_by_name c.loop-left.module_files text)) c.module.view_is
          ∙ ap (cond (bytes_eq view.name text) (Some view.module_file)) (c.loop-left.invariant.known text)
          ∙ ap (λ (rest : List Module). module_file_named rest text) (sym next);
    }
