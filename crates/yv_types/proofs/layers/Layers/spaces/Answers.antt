use Rattle.std.proofs.Common.{◌≡◌, ℕ, [], List, inl, inr, map, ap, refl, sym, ◌∙◌, subst, arith}
use Rattle.std.specs.List.{Contains, slice_index, slice_index_or}
use Rattle.std.specs.Option.{option_map}
use Rattle.std.proofs.lemmas.Bool.{cases_eq}
use Rattle.std.proofs.lemmas.List.{take_all}
use Rattle.yv_text_statement.specs.Selection.{ModuleChoice}
use Rattle.yv_link_scopes.specs.Files.{Files, brief_of}
use Rattle.yv_link_scopes.specs.RowList.{rows_of}
use Rattle.yv_type_chains.specs.Types.{IsOrderOfTypes, RestsOn, types_in}
use Rattle.yv_type_enums.specs.Types.{Truth}
use Rattle.yv_link.specs.LinkedFiles.{AreLinked, truth_in}
use Rattle.yv_types.specs.Spaces.{Space}
use Rattle.yv_types.specs.Types.{AreLayers}
use Rattle.yv_types.specs.InnerTables.{AreKnown, IsNewOrThere, IsSpace, plains, plains_at}
use Rattle.yv_types.proofs.Numbering.{below_more, numbered_more}
use Rattle.yv_types.proofs.TableWalk.{walk_more}
use Rattle.yv_types.proofs.layers.Layers.spaces.Goals as goal

pub loop-number-preserved : goal.loop-number-preserved
loop-number-preserved c =
    let truth : Truth = truth_in c.args.linked.now in
    let order : List ℕ = c.order-number-items.result.now in
    let i : ℕ = c.loop-number.number-index in
    let n : ℕ = slice_index order i in
    let step : (files : Files) (choice : ModuleChoice) → AreLinked files choice c.args.linked.now → AreLayers files truth c.args.self.now → IsSpace files truth choice n (option_map plains c.in_ok-space.space) = λ files choice linked layers.
    let behind : IsOrderOfTypes (map brief_of files) (rows_of files) order = c.order-number-items.ensures files layers.based in
    let inside : (block : ℕ) → slice_index_or c.in_ok-inside.inside block [] ≡ types_in (rows_of files) block =
    λ block. c.in_ok-inside.ensures block ∙ ap (λ (fs : Files). types_in (rows_of fs) block) (c.rows-rows.ensures files choice linked) in
    let known : AreKnown files truth choice (RestsOn (map brief_of files) (rows_of files) n) c.loop-number.spaces =
    λ j rest. c.loop-number.invariant.told files choice linked layers j (behind.behind i j c.loop-number-test.true rest) in
    c.in_ok-space.ensures.space c.loop-number.invariant.kept files choice linked layers inside known in
    let here : (files : Files) (choice : ModuleChoice) → AreLinked files choice c.args.linked.now → AreLayers files truth c.args.self.now → plains_at c.put.new.spaces n ≡ option_map plains c.in_ok-space.space = λ files choice linked layers.
    c.in_ok-put.ensures.here in
    let from : IsNewOrThere c.loop-number.spaces c.loop-number.list c.in_ok-space.space = c.in_ok-space.ensures.number in
    record {
      kept = c.types_at.ensures.keeps c.loop-number.invariant.kept;
      counted = omega (arith, c.loop-number.invariant.counted);
      numbered = numbered_more c.loop-number.spaces c.put.new.spaces c.loop-number.list c.in_ok-space.space c.loop-number.invariant.numbered c.loop-number.invariant.below from c.in_ok-put.ensures.entries;
      below = below_more c.loop-number.spaces c.put.new.spaces c.loop-number.list c.in_ok-space.space c.loop-number.invariant.below from c.in_ok-put.ensures.entries;
      told = λ files choice linked layers. walk_more (IsSpace files truth choice) order i n (plains_at c.loop-number.spaces) (plains_at c.put.new.spaces) c.loop-number-test.true refl
          (subst (IsSpace files truth choice n) (sym (here files choice linked layers)) (step files choice linked layers)) c.in_ok-put.ensures.elsewhere (c.loop-number.invariant.told files choice linked layers);
      sound = λ files choice linked layers k ps e. elim (cases_eq k n) [
        | inl same ↦ subst (λ (m : ℕ). Space files truth choice m ps) (sym same) ((step files choice linked layers).sound ps (sym (here files choice linked layers) ∙ ap (plains_at c.put.new.spaces) (sym same) ∙ e))
        | inr ne ↦ c.loop-number.invariant.sound files choice linked layers k ps (sym (c.in_ok-put.ensures.elsewhere k ne) ∙ e)
      ];
    }

pub returns-clause-makes : goal.returns-clause-makes
returns-clause-makes c = λ files choice linked layers.
    let order : List ℕ = c.order-number-items.result.now in
    let i : ℕ = c.loop-number.number-index in
    let behind : IsOrderOfTypes (map brief_of files) (rows_of files) order = c.order-number-items.ensures files layers.based in
    record {
      sound = c.loop-number.invariant.sound files choice linked layers;
      full = λ k type none ps s.
          (c.loop-number.invariant.told files choice linked layers k (subst (λ (xs : List ℕ). Contains xs k) (sym (take_all i order c.loop-number-test.false)) ((behind.exact k).1 type))).full none ps s;
    }
