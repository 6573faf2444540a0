use Rattle.std.proofs.Common.{◌≡◌, ◌↔◌, inl, ℕ, List, Option, Some, map, refl, ap, subst, sym}
use Rattle.std.specs.Option.{option_map}
use Rattle.std.specs.List.{Contains, slice_index}
use Rattle.yv_link_scopes.specs.Files.{Files, brief_of}
use Rattle.yv_link_scopes.specs.RowList.{rows_of}
use Rattle.yv_link_scopes.specs.Views.{lent_in}
use Rattle.yv_type_chains.specs.Bases.{AreBases}
use Rattle.yv_type_chains.specs.Types.{IsOrderOfTypes, IsTypeAt}
use Rattle.yv_values.specs.Types.{Plain, plain_of}
use Rattle.yv_type_restrictions.specs.Types.{HasPlainType}
use Rattle.yv_type_restrictions.specs.PlainTypes.{AreFaceted}
use Rattle.yv_type_restrictions.specs.InnerSteps.{AreKnown, IsFollowed, IsStep}
use Rattle.yv_type_restrictions.specs.InnerTables.{plain_at}
use Rattle.yv_type_restrictions.specs.declared.plain_types.PlainTypes.{PlainTypes}
use Rattle.yv_type_restrictions.proofs.TypeStatementStep.{HaveRows}
use Rattle.yv_type_restrictions.proofs.TableWalk.{item_in, least_all, least_next, told_all, told_next}
use Rattle.yv_type_restrictions.proofs.plain_types.PlainTypes.read.Goals as goal

pub loop-number-preserved : goal.loop-number-preserved
loop-number-preserved c =
    let files : Files = lent_in c.args.rows.now in
    let order : List ℕ = c.order-order.result.now in
    let i : ℕ = c.loop-number.number-index in
    let n : ℕ = slice_index order i in
    let step : AreBases files c.args.bases.now → IsStep files n (option_map plain_of c.in-Ok.step.plain) c.in-Ok.step.fault = λ told.
    let behind : IsOrderOfTypes (map brief_of files) (rows_of files) order = c.order-order.ensures files told in
    let known : AreKnown files (IsFollowed files n) c.loop-number.types =
    λ j f p. let all = c.loop-number.invariant.told told j p in (λ e. (all.0 e).1, λ h. all.1 (behind.behind i j c.loop-number-test.true (inl f), h)) in
    c.in-Ok.ensures.step told known in
    record {
      told = λ told.
          let behind : IsOrderOfTypes (map brief_of files) (rows_of files) order = c.order-order.ensures files told in
          let type : IsTypeAt (rows_of files) n = (behind.exact n).0 (item_in order i c.loop-number-test.true) in
          let here : (p : Plain) → (plain_at c.put.new.self n ≡ Some p) ↔ HasPlainType files n p =
          λ p. subst (λ (o : Option Plain). (o ≡ Some p) ↔ HasPlainType files n p) (sym (ap (option_map plain_of) c.in_ok-put.ensures.here)) ((step told).exact p) in
          told_next files order i n c.loop-number.types c.put.new.self c.loop-number-test.true refl here (λ k ne. ap (option_map plain_of) (c.in_ok-put.ensures.elsewhere k ne)) (c.loop-number.invariant.told told);
      least = λ told. least_next files order i n _ _ _ c.loop-number-test.true refl c.lesser-fault.ensures (c.loop-number.invariant.least told) (step told).least;
    }

pub returns-clause-makes : goal.returns-clause-makes
returns-clause-makes c = λ files is given.
    let own : Files = lent_in c.args.rows.now in
    let order : List ℕ = c.order-order.result.now in
    let i : ℕ = c.loop-number.number-index in
    let told : AreBases own c.args.bases.now = subst (λ (fs : Files). AreBases fs c.args.bases.now) (sym is) given in
    let behind : IsOrderOfTypes (map brief_of own) (rows_of own) order = c.order-order.ensures own told in
    let heads : HaveRows = c.statements_have_their_rows.ensures in
    let stands : (a : ℕ) → IsTypeAt (rows_of own) a → Contains order a = λ a. (behind.exact a).1 in
    let faceted : PlainTypes = record { types = c.loop-number.types; fault = c.loop-number.fault } in
    let all : AreFaceted own faceted = record {
      types = told_all own order heads i c.loop-number.types c.loop-number-test.false stands (c.loop-number.invariant.told told);
      least = least_all own order heads i c.loop-number.fault c.loop-number-test.false stands (c.loop-number.invariant.least told);
    } in
    subst (λ (fs : Files). AreFaceted fs faceted) is all
