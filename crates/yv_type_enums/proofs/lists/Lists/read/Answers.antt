use Rattle.std.proofs.Common.{◌≡◌, ◌↔◌, inl, ℕ, List, Option, Some, map, refl, ap, subst, sym}
use Rattle.std.specs.Option.{option_map}
use Rattle.std.specs.List.{Contains, slice_index}
use Rattle.yv_link_scopes.specs.Files.{Files, brief_of}
use Rattle.yv_link_scopes.specs.RowList.{rows_of}
use Rattle.yv_link_scopes.specs.Views.{lent_in}
use Rattle.yv_type_chains.specs.Bases.{AreBases}
use Rattle.yv_type_chains.specs.Types.{IsOrderOfTypes, IsTypeAt}
use Rattle.yv_link.specs.LinkedFiles.{truth_in}
use Rattle.yv_type_enums.specs.Types.{Truth, NamesView, HasNames}
use Rattle.yv_type_enums.specs.TypeNames.{told_at, told_of}
use Rattle.yv_type_enums.specs.Lists.{AreLists}
use Rattle.yv_type_enums.specs.InnerSteps.{AreKnown, IsFollowed, IsStep}
use Rattle.yv_type_enums.specs.declared.lists.Lists.{Lists}
use Rattle.yv_type_enums.proofs.TableWalk.{item_in, least_all, least_next, told_all, told_next}
use Rattle.yv_type_enums.proofs.lists.Lists.read.Goals as goal

pub loop-number-preserved : goal.loop-number-preserved
loop-number-preserved c =
    let files : Files = lent_in c.rows-rows.result.now in
    let truth : Truth = truth_in c.args.linked.now in
    let order : List ℕ = c.order-number-items.result.now in
    let i : ℕ = c.loop-number.number-index in
    let n : ℕ = slice_index order i in
    let step : AreBases files c.args.bases.now → IsStep files truth n (option_map told_of c.in_ok-step.step.names) c.in_ok-step.step.fault = λ told.
    let behind : IsOrderOfTypes (map brief_of files) (rows_of files) order = c.order-number-items.ensures files told in
    let known : AreKnown files truth (IsFollowed files n) c.loop-number.types =
    λ j f x. let all = c.loop-number.invariant.told told j x in (λ e. (all.0 e).1, λ h. all.1 (behind.behind i j c.loop-number-test.true (inl f), h)) in
    c.in_ok-step.ensures told known in
    record {
      told = λ told.
          let behind : IsOrderOfTypes (map brief_of files) (rows_of files) order = c.order-number-items.ensures files told in
          let type : IsTypeAt (rows_of files) n = (behind.exact n).0 (item_in order i c.loop-number-test.true) in
          let here : (x : NamesView) → (told_at c.put.new.self n ≡ Some x) ↔ HasNames files truth n x =
          λ x. subst (λ (o : Option NamesView). (o ≡ Some x) ↔ HasNames files truth n x) (sym (ap (option_map told_of) c.in_ok-put.ensures.here)) ((step told).exact x) in
          told_next files truth order i n c.loop-number.types c.put.new.self c.loop-number-test.true refl here (λ k ne. ap (option_map told_of) (c.in_ok-put.ensures.elsewhere k ne)) (c.loop-number.invariant.told told);
      least = λ told. least_next files truth order i n _ _ _ c.loop-number-test.true refl c.lesser-fault.ensures (c.loop-number.invariant.least told) (step told).least;
    }

pub returns : goal.returns
returns c = λ files choice linked given.
    let own : Files = lent_in c.rows-rows.result.now in
    let truth : Truth = truth_in c.args.linked.now in
    let is : own ≡ files = c.rows-rows.ensures files choice linked in
    let order : List ℕ = c.order-number-items.result.now in
    let i : ℕ = c.loop-number.number-index in
    let told : AreBases own c.args.bases.now = subst (λ (fs : Files). AreBases fs c.args.bases.now) (sym is) given in
    let behind : IsOrderOfTypes (map brief_of own) (rows_of own) order = c.order-number-items.ensures own told in
    let stands : (a : ℕ) → IsTypeAt (rows_of own) a → Contains order a = λ a. (behind.exact a).1 in
    let lists : Lists = record { types = c.loop-number.types; fault = c.loop-number.fault } in
    let all : AreLists own truth lists = record {
      types = told_all own truth order i c.loop-number.types c.loop-number-test.false stands (c.loop-number.invariant.told told);
      least = least_all own truth order i c.loop-number.fault c.loop-number-test.false stands (c.loop-number.invariant.least told);
    } in
    subst (λ (fs : Files). AreLists fs truth lists) is all
