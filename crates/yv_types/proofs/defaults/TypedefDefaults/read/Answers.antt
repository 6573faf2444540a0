use Rattle.std.proofs.Common.{◌<◌, inl, ℕ, List, Option, length, map, refl, subst, sym, ◌∙◌, arith}
use Rattle.std.specs.List.{slice_index}
use Rattle.std.proofs.lemmas.Option.{slice_get_within}
use Rattle.yv_link_scopes.specs.Files.{Files, brief_of}
use Rattle.yv_link_scopes.specs.RowList.{rows_of}
use Rattle.yv_link_scopes.specs.Views.{lent_in}
use Rattle.yv_link_definitions.specs.Meanings.{AreNames}
use Rattle.yv_base_tables.specs.Slots.{at}
use Rattle.yv_type_chains.specs.Bases.{AreBases}
use Rattle.yv_type_chains.specs.Types.{IsOrderOfTypes, IsTypeAt}
use Rattle.yv_text_statement.specs.TextInFile.{TextInFile}
use Rattle.yv_text_statement.specs.declared.written_text.WrittenText.{WrittenText}
use Rattle.yv_types.specs.Defaults.{HasDefault}
use Rattle.yv_types.specs.InnerDefaultTables.{AreFound, IsFollowed, text_from}
use Rattle.yv_types.specs.TypeDefaults.{AreDefaults}
use Rattle.yv_types.specs.declared.defaults.TypedefDefaults.{TypedefDefaults}
use Rattle.yv_types.proofs.KeptDefaults.{kept_text}
use Rattle.yv_types.proofs.DefaultFinding.{blank_more, found_all, found_for, found_more, item_in}
use Rattle.yv_types.proofs.defaults.TypedefDefaults.read.Goals as goal

pub loop-number-preserved : goal.loop-number-preserved
loop-number-preserved c =
    let files : Files = lent_in c.args.rows.now in
    let order : List ℕ = c.order-order.result.now in
    let i : ℕ = c.loop-number.number-index in
    let n : ℕ = slice_index order i in
    let said : List (Option WrittenText) = c.in_ok-said.said.items in
    let type_of : AreBases files c.args.bases.now → IsTypeAt (rows_of files) n = λ bases.
    ((c.order-order.ensures files bases).exact n).0 (item_in order i c.loop-number-test.true) in
    record {
      each = c.put.ensures.each ∙ c.loop-number.invariant.each;
      told = λ names bases.
          let behind : IsOrderOfTypes (map brief_of files) (rows_of files) order = c.order-order.ensures files bases in
          let type : IsTypeAt (rows_of files) n = type_of bases in
          let within : n < length c.loop-number.found.items = let w = slice_get_within (rows_of files) n type.0 type.1 in omega (arith, w, c.loop-number.invariant.each) in
          let known : AreFound files said (IsFollowed files n) c.loop-number.found.items = λ j f. c.loop-number.invariant.told names bases j (behind.behind i j c.loop-number-test.true (inl f)) in
          let gives : HasDefault files n (text_from said c.found_at-typedef.result) =
          found_for files n said c.deref.result.now c.loop-number.found.items c.deref-in-loop-number.result.now c.found_at-typedef.result c.deref.ensures.value c.deref-in-loop-number.ensures.value
          (λ are found. c.found_at-typedef.ensures files names bases are type found) c.in_ok-said.ensures known in
          let here : HasDefault files n (text_from said (at c.put.new.slots.items n)) =
          subst (λ (o : Option ℕ). HasDefault files n (text_from said o)) (sym (c.put.ensures.here within)) gives in
          found_more files said order i n c.loop-number.found.items c.put.new.slots.items c.loop-number-test.true refl here c.put.ensures.elsewhere (c.loop-number.invariant.told names bases);
      blank = λ bases. blank_more (rows_of files) n c.loop-number.found.items c.put.new.slots.items (type_of bases) c.put.ensures.elsewhere (c.loop-number.invariant.blank bases);
    }

pub returns : goal.returns
returns c = λ files is names bases.
    let own : Files = lent_in c.args.rows.now in
    let named : AreNames own c.args.names.now = subst (λ (fs : Files). AreNames fs c.args.names.now) (sym is) names in
    let based : AreBases own c.args.bases.now = subst (λ (fs : Files). AreBases fs c.args.bases.now) (sym is) bases in
    let defaults : TypedefDefaults = record { said = c.in_ok-texts.texts; found = c.in_ok-kept.kept } in
    let told : (k : ℕ) → HasDefault own k (text_from c.in_ok-said.said.items (at c.loop-number.found.items k)) =
    found_all own c.in_ok-said.said.items c.order-order.result.now c.loop-number.number-index c.loop-number.found.items c.loop-number-test.false ((c.order-order.ensures own based).exact) (c.loop-number.invariant.told named based) (c.loop-number.invariant.blank based) in
    let all : AreDefaults own defaults = record {
      each = λ k. subst (λ (w : Option TextInFile). HasDefault own k w) (sym (kept_text c.in_ok-said.said.items c.in_ok-texts.texts c.in_ok-texts.ensures c.loop-number.found.items c.in_ok-kept.kept c.in_ok-kept.ensures k)) (told k);
    } in
    subst (λ (fs : Files). AreDefaults fs defaults) is all
