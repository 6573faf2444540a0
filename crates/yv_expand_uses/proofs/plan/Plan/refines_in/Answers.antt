use Rattle.std.proofs.Common.{◌≡◌, inl, inr, [], List, ℕ, length, get_or, ◌∙◌, sym, ap, Option}
use Rattle.std.proofs.lemmas.Bool.{cases_lt}
use Rattle.yv_link_scopes.specs.Views.{rows_in}
use Rattle.yv_base_tables.specs.Families.{by_place, numbers_at}
use Rattle.yv_expand_uses.specs.RefineTargets.{refine_places}
use Rattle.yv_expand_uses.proofs.PlaceNumbers.{by_place_past, none_past}
use Rattle.yv_expand_uses.proofs.plan.Plan.refines_in.Goals as goal

pub returns : goal.returns
returns c =
    let rows = rows_in c.args.self.now.rows.now in
    let places : List (Option ℕ) = refine_places rows in
    let block : ℕ = c.args.block in
    let told : get_or (by_place places (length rows)) block [] ≡ numbers_at places block = elim (cases_lt block (length rows)) [
      | inl lt ↦ c.each_place_has_its_numbers.ensures places (length rows) block lt
      | inr past ↦ by_place_past places (length rows) block past ∙ sym (none_past (length rows) block 0 places c.requires.refines_nested past)
    ] in
    c.at.ensures ∙ ap (λ l. get_or l block []) c.requires.refines ∙ told
