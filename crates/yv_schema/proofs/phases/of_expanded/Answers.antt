use Rattle.std.proofs.Common.{[], Option, Some, None, Ok, Err, arith, inr, refl, sym, ap, ◌∙◌}
use Rattle.std.specs.Prelude.{IfOk, OnOk, Result}
use Rattle.std.proofs.lemmas.Result.{on_ok_weaker}
use Rattle.yv_text_statement.specs.Order.{IsLeast}
use Rattle.yv_text_statement.specs.Selection.{selected_of}
use Rattle.yv_link.specs.LinkedFiles.{truth_in}
use Rattle.yv_link.proofs.Phases.{err_again}
use Rattle.yv_link_scopes.specs.Views.{lent_in}
use Rattle.yv_types.specs.Refusals.{BadTypes}
use Rattle.yv_node_statements.specs.Kinds.{AreTyped}
use Rattle.yv_node_statements.specs.KnownTypes.{typing_of}
use Rattle.yv_expand_statements.specs.Truth.{IsTruth}
use Rattle.yv_nodes.specs.Rows.{whole}
use Rattle.yv_schema.specs.InnerBasis.{IsNumberedBasis, NumberedBasis, leafrefs_of, stated_of}
use Rattle.yv_schema.specs.InnerParts.{AreParts, IsBasisOf}
use Rattle.yv_schema.specs.InnerPhases.{ShowsTree}
use Rattle.yv_schema.specs.Module.{modules_of}
use Rattle.yv_nodes.specs.Tree.{Forest}
use Rattle.yv_schema.specs.InnerStages.{RefusesInStages}
use Rattle.yv_schema.specs.Refusals.{BadNodes}
use Rattle.yv_text_statement.specs.declared.refusal.Refusal.{Refusal}
use Rattle.yv_node_leafrefs.specs.Resolution.{IsTyped}
use Rattle.yv_schema.specs.Schema.{IsSchema}
use Rattle.yv_schema.proofs.BasisOfTree.{is_basis_of, least_of, linked_of, references_of, schema_of}
use Rattle.yv_schema.proofs.LeafrefPathStarts.{Conform}
use Rattle.yv_schema.proofs.NodeCounts.{count_labelled}
use Rattle.yv_schema.proofs.PhaseLemmas.{features_clear, least_last, least_typed, names_of}
use Rattle.yv_schema.proofs.RequiredLinks.{conform_of, each_linked}
use Rattle.yv_schema.proofs.ResolvedLeafrefs.{count_resolved}
use Rattle.yv_schema.proofs.ShownBasis.{shown_basis}
use Rattle.yv_schema.proofs.ShownItems.{LeftAreItems}
use Rattle.yv_schema.proofs.ShownNotes.{notes_are}
use Rattle.yv_schema.proofs.phases.of_expanded.Goals as goal

-- all that is known where there is a schema
all_ok : {A E : Type 0} {P Q R S T U V : A → Type 0} {C : Type 0} (r : Result A E) → IfOk r P → IfOk r Q → IfOk r R → IfOk r S → IfOk r T → IfOk r U → OnOk r C
    → ((a : A) → P a → Q a → R a → S a → T a → U a → C → V a) → IfOk r V
all_ok (Ok a) p q r s t u c to = to a p q r s t u c
all_ok (Err e) p q r s t u c to = tt

pub returns-in-Err : goal.returns-in-Err
returns-in-Err c = λ files given.
    let choice = selected_of c.args.selection.now in
    let limit = c.args.limit in
    let clear = given.clear in
    let truth = truth_in c.args.linked.now in
    let is : IsTruth files choice truth = c.linked_files_tell_what_holds.ensures files choice c.args.linked.now clear.are in
    record {
      schema = tt;
      clear = tt;
      refusal = λ r e. least_typed choice files limit c.an_expression_has_one_truth.ensures given.before truth r is
          (c.in-Err.ensures.refusal r (err_again _ _ e) files choice clear.are given.are_names);
      builds = λ e. c.in-Err.ensures.builds (err_again _ _ e) files choice clear.are;
      before = λ e. given.before;
    }

pub schema_parts-requires-clause-few : goal.schema_parts-requires-clause-few
schema_parts-requires-clause-few c =
    let clear = c.requires.gives.expanded.clear in
    let lent = c.rows.ensures c.requires.gives.files (selected_of c.args.selection.now) clear.are in
    rw lent clear.few

pub schema_parts-requires-clause-names : goal.schema_parts-requires-clause-names
schema_parts-requires-clause-names c =
    let clear = c.requires.gives.expanded.clear in
    let choice = selected_of c.args.selection.now in
    let lent = c.rows.ensures c.requires.gives.files choice clear.are in
    rw lent (names_of choice c.requires.gives.files clear.own clear.links)

pub schema_parts-requires-clause-basis : goal.schema_parts-requires-clause-basis
schema_parts-requires-clause-basis c =
    let files = c.requires.gives.files in
    let given = c.requires.gives.expanded in
    let choice = selected_of c.args.selection.now in
    let limit = c.args.limit in
    let clear = given.clear in
    let truth = truth_in c.args.linked.now in
    let is : IsTruth files choice truth = c.linked_files_tell_what_holds.ensures files choice c.args.linked.now clear.are in
    let k : ShowsTree choice files truth c.args.tree = given.shows in
    let are : AreTyped files choice truth (typing_of c.in-Ok.types) =
    c.types_tell_typing.ensures files choice truth c.in-Ok.types (c.in-Ok.ensures.makes files choice clear.are given.are_names) in
    let b : NumberedBasis = record { files = files; truth = truth; typing = typing_of c.in-Ok.types; final = k.kept.final; nodes = k.kept.nodes } in
    let is_basis : IsNumberedBasis choice b = record { truth = is; typing = are; final = k.kept.is_final; nodes = k.kept.are_left } in
    let read = c.rows.ensures files choice clear.are in
    let is_of : IsBasisOf choice (lent_in c.rows.result.now) c.in-Ok.types c.args.tree b = record { of_files = sym read; typing = refl; kept = k.kept; final = refl; nodes = refl } in
    record { basis = b; is = is_of }

pub returns : goal.returns
returns c = λ files given.
    let choice = selected_of c.args.selection.now in
    let limit = c.args.limit in
    let clear = given.clear in
    let truth = truth_in c.args.linked.now in
    let is : IsTruth files choice truth = c.linked_files_tell_what_holds.ensures files choice c.args.linked.now clear.are in
    let k : ShowsTree choice files truth c.args.tree = given.shows in
    let are : AreTyped files choice truth (typing_of c.in-Ok.types) =
    c.types_tell_typing.ensures files choice truth c.in-Ok.types (c.in-Ok.ensures.makes files choice clear.are given.are_names) in
    let b : NumberedBasis = record { files = files; truth = truth; typing = typing_of c.in-Ok.types; final = k.kept.final; nodes = k.kept.nodes } in
    let is_basis : IsNumberedBasis choice b = record { truth = is; typing = are; final = k.kept.is_final; nodes = k.kept.are_left } in
    let read = c.rows.ensures files choice clear.are in
    let is_of : IsBasisOf choice (lent_in c.rows.result.now) c.in-Ok.types c.args.tree b = record { of_files = sym read; typing = refl; kept = k.kept; final = refl; nodes = refl } in
    let parts : AreParts b c.in_ok-parts.parts = c.in_ok-parts.ensures.parts b is_of in
    let are_items : LeftAreItems = λ choice files truth f nodes place x final left at. let r = c.what_is_left_are_nodes.ensures choice files truth f nodes place x final left at in (r.0, r.1, r.2, r.3) in
    let conform : Conform files = conform_of c.what_is_not_refused_fits.ensures c.skipping_refuses_no_more.ensures files clear.own in
    let fine = features_clear choice files limit c.an_expression_has_one_truth.ensures given.before in
    let notes = notes_are c.given_nodes_stand_below_their_target.ensures c.no_item_is_left_twice.ensures choice b k.its is_basis k.told in
    let modules = c.in_ok-parts.ensures.modules ∙ ap (modules_of choice) read in
    let typed : IsLeast (BadTypes files truth) None = c.in-Ok.ensures.clear files choice clear.are given.are_names in
    let schema : (top : Forest) → IsTyped (leafrefs_of b) (stated_of b) top → IsSchema choice files top = schema_of are_items choice b k.its is_basis k.told k.are_nodes in
    let last : (o : Option Refusal) (top : Forest) → IsTyped (leafrefs_of b) (stated_of b) top → IsLeast (BadNodes (leafrefs_of b) top) o → IsLeast (RefusesInStages choice files limit) o = λ o top is_typed least.
    least_last choice files limit c.an_expression_has_one_truth.ensures given.before c.files_have_one_typing.ensures c.files_have_one_schema.ensures
    c.a_tree_is_typed_once.ensures truth o top is (schema top is_typed) typed (least_of are_items choice b k.its is_basis k.told k.are_nodes top is_typed o least) in
    record {
      schema = all_ok c.build.result (c.build.ensures.schema b parts) c.build.ensures.limit c.build.ensures.modules (c.build.ensures.augments b parts)
          (c.build.ensures.references b parts) c.build.ensures.sound (c.build.ensures.clear b parts)
          (λ s typed limited listed noted linked sound none. record {
            schema = schema (whole s) typed;
            limited = limited ∙ c.in_ok-parts.ensures.limit;
            modules = listed ∙ modules;
            augments = record {
              basis = shown_basis k.its b;
              of_files = refl;
              is_basis = is_basis_of are_items choice b k.its is_basis k.told k.are_nodes;
              is = noted ∙ notes;
            };
            references = references_of are_items choice b k.its is_basis k.told k.are_nodes s.links linked;
            links = linked_of are_items choice b k.its is_basis k.told k.are_nodes c.an_expression_has_one_truth.ensures c.files_have_one_typing.ensures
                c.files_have_one_schema.ensures fine (whole s) s.links
                (each_linked c.statements_have_their_rows.ensures c.an_origin_is_a_leafref.ensures c.nothing_stands_below_a_leaf.ensures choice b is_basis conform
                none.tree s.links none.is (λ f bad. none.least f (inr (inr bad))) linked);
            units = λ units takes.
                let few = c.nodes_are_within_units.ensures choice files truth b.final b.nodes units is_basis.final is_basis.nodes takes in
                let same = count_resolved (leafrefs_of b) (stated_of b) (whole s) typed ∙ count_labelled b [] b.nodes in
                omega (arith, few, same);
            sound = sound;
          });
      clear = on_ok_weaker c.build.result (λ h. last None h.tree h.is h.least) (c.build.ensures.clear b parts);
      refusal = λ r e. let h = c.build.ensures.refusal b parts r e in last (Some r) h.tree h.is h.least;
      builds = λ e. absurd (c.build.ensures.builds e);
      before = λ e. given.before;
    }
