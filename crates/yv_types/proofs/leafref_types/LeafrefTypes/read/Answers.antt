use Rattle.std.proofs.Common.{◌<◌, inl, ℕ, List, Option, length, map, refl, subst, sym, ◌∙◌, arith}
use Rattle.std.specs.List.{slice_index}
use Rattle.std.proofs.lemmas.Option.{slice_get_within}
use Rattle.yv_link_scopes.specs.Files.{Files, brief_of}
use Rattle.yv_link_scopes.specs.RowList.{rows_of}
use Rattle.yv_link_scopes.specs.Views.{lent_in}
use Rattle.yv_type_chains.specs.Bases.{AreBases}
use Rattle.yv_type_chains.specs.Types.{IsOrderOfTypes, IsTypeAt}
use Rattle.yv_base_tables.specs.Slots.{at}
use Rattle.yv_types.specs.InnerLeafrefTables.{AreFound}
use Rattle.yv_types.specs.LeafrefTypes.{AreLeafrefTypes}
use Rattle.yv_types.specs.Referrals.{FollowsIn, HasReferral}
use Rattle.yv_types.specs.declared.leafref_types.LeafrefTypes.{LeafrefTypes}
use Rattle.yv_types.specs.declared.leafref_path.TypeLeafref.{TypeLeafref}
use Rattle.yv_types.proofs.LeafrefWalking.{blank_more, found_all, found_more, item_in}
use Rattle.yv_types.proofs.leafref_types.LeafrefTypes.read.Goals as goal

pub loop-number-preserved : goal.loop-number-preserved
loop-number-preserved c =
    let files : Files = lent_in c.args.rows.now in
    let order : List ℕ = c.order-order.result.now in
    let i : ℕ = c.loop-number.number-index in
    let n : ℕ = slice_index order i in
    let type_of : AreBases files c.args.bases.now → IsTypeAt (rows_of files) n = λ bases.
    ((c.order-order.ensures files bases).exact n).0 (item_in order i c.loop-number-test.true) in
    record {
      each = c.put.ensures.each ∙ c.loop-number.invariant.each;
      told = λ bases.
          let behind : IsOrderOfTypes (map brief_of files) (rows_of files) order = c.order-order.ensures files bases in
          let type : IsTypeAt (rows_of files) n = type_of bases in
          let within : n < length c.loop-number.found.items = let w = slice_get_within (rows_of files) n type.0 type.1 in omega (arith, w, c.loop-number.invariant.each) in
          let known : AreFound files (FollowsIn files n) c.loop-number.found.items = λ j f. c.loop-number.invariant.told bases j (behind.behind i j c.loop-number-test.true (inl f)) in
          let gives : HasReferral files n c.found_at-referring.result =
          c.found_at-referring.ensures bases (subst (AreFound files (FollowsIn files n)) (sym c.deref.ensures.value) known) in
          let here : HasReferral files n (at c.put.new.slots.items n) =
          subst (HasReferral files n) (sym (c.put.ensures.here within)) gives in
          found_more files order i n c.loop-number.found.items c.put.new.slots.items c.loop-number-test.true refl here c.put.ensures.elsewhere (c.loop-number.invariant.told bases);
      blank = λ bases. blank_more (rows_of files) n c.loop-number.found.items c.put.new.slots.items (type_of bases) c.put.ensures.elsewhere (c.loop-number.invariant.blank bases);
    }

pub returns : goal.returns
returns c = λ files is bases.
    let own : Files = lent_in c.args.rows.now in
    let based : AreBases own c.args.bases.now = subst (λ (fs : Files). AreBases fs c.args.bases.now) (sym is) bases in
    let types : LeafrefTypes = record { found = c.in_ok-kept.kept } in
    let told : (k : ℕ) → HasReferral own k (at c.loop-number.found.items k) =
    found_all own c.order-order.result.now c.loop-number.number-index c.loop-number.found.items c.loop-number-test.false ((c.order-order.ensures own based).exact) (c.loop-number.invariant.told based) (c.loop-number.invariant.blank based) in
    let all : AreLeafrefTypes own types = record {
      each = λ k. subst (λ (o : Option TypeLeafref). HasReferral own k o) (sym (c.in_ok-kept.ensures k)) (told k);
    } in
    subst (λ (fs : Files). AreLeafrefTypes fs types) is all
