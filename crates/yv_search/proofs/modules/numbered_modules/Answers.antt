use Rattle.std.proofs.Common.{◌≡◌, ◌∙◌, ℕ, List, Option, refl, sym, ap, subst, not, map, take, string_bytes, Some}
use Rattle.std.specs.List.{slice_get}
use Rattle.std.specs.Option.{option_map}
use Rattle.std.proofs.lemmas.List.{take_all}
use Rattle.yv_text_statement.specs.Tree.{Tree}
use Rattle.yv_search.specs.InnerModules.{row_at, number_in, ref_at}
use Rattle.yv_search.proofs.ListSteps.{get_same}
use Rattle.yv_search.proofs.NumberSteps.{number_more, number_same, numbers_all}
use Rattle.yv_search.proofs.modules.numbered_modules.Goals as goal
use Rattle.yv_search.proofs.modules.numbered_modules.Goals.{in-Some+in_ok-keep, in_default}

pub loop-number-preserved : goal.loop-number-preserved
loop-number-preserved c = λ q.
    let root : Option Tree = c.index-roots-number.result in
    let given : List (List ℕ) = map string_bytes c.args.given.now in
    let at : slice_get c.args.roots.now c.loop-number.number ≡ Some root = get_same c.args.roots.now c.args.roots.now c.loop-number.number root refl c.loop-number-test.true c.index-roots-number.is in
    elim c.match-module_at.branch [
      | in-Some+in_ok-keep w ↦ rw w.table-is (number_more c.args.roots.now given c.loop-number.number root w.in-Some.name.now q w.has.result (not w.has-in-Some.result) (row_at c.loop-number.table q) (row_at w.keep.new.self q) at
          (sym (ap (option_map (λ t. t.now)) w.in-Some.is) ∙ c.module_at.ensures)
          (w.has.ensures ∙ c.in_ok-there.ensures w.in-Some.name.now) (ap not (w.has-in-Some.ensures ∙ c.in_ok-given.ensures w.in-Some.name.now))
          (c.loop-number.invariant q) (w.in_ok-keep.ensures q))
      | in_default w ↦ rw w.table-is (number_same c.args.roots.now given c.loop-number.number root q (row_at c.loop-number.table q) at
          (sym (ap (option_map (λ t. t.now)) w.in_default.is) ∙ c.module_at.ensures) (c.loop-number.invariant q))
    ]

pub returns : goal.returns
returns c = λ q.
    let given : List (List ℕ) = map string_bytes c.args.given.now in
    numbers_all c.args.roots.now given q (row_at c.loop-number.table q)
    (c.loop-number.invariant q ∙ ap (λ (rs : List (Option Tree)). option_map (λ n. Some (ref_at c.args.roots.now given q n)) (number_in rs q)) (take_all c.loop-number.number c.args.roots.now c.loop-number-test.false))
