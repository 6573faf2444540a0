use Rattle.std.proofs.Common.{◌≡◌, ◌∙◌, ℕ, Bool, List, Option, length, map, ap, subst}
use Rattle.std.specs.List.{list_any}
use Rattle.std.specs.Prelude.{IfSome}
use Rattle.yv_base_graph.specs.Graph.{Graph, AreRanks, ArePlaces}
use Rattle.yv_base_graph.specs.Ranks.{IfRanks}
use Rattle.yv_base_graph.specs.declared.cycles.Ranking.{Ranking}
use Rattle.yv_text_statement.specs.Selection.{ModuleChoice}
use Rattle.yv_link_scopes.specs.Files.{Files, brief_of}
use Rattle.yv_link_scopes.specs.RowList.{rows_of}
use Rattle.yv_link.specs.LinkedFiles.{AreLinked}
use Rattle.yv_values.specs.Identities.{NumberedId, numbered_of}
use Rattle.yv_type_identities.specs.InnerRuns.{AreIdentityPlaces, AreRuns, numbered_by}
use Rattle.yv_type_identities.specs.declared.identity_places.IdentityPlaces.{IdentityPlaces}
use Rattle.yv_type_identities.specs.declared.runs.Run.{Run}
use Rattle.yv_type_identities.proofs.SharedMemberList.{run_below}
use Rattle.yv_type_identities.proofs.shared_members.SharedMembers.read.Goals as goal

pub returns : goal.returns
returns c = record {
  listed =
      let told = subst (λ (o : Option (List NumberedId)). IfSome o (λ all. (p : NumberedId → Bool) → list_any p all ≡ list_any p (map numbered_of c.in_ok-members.members.items))) c.in-Some-2.is c.in_ok-all.ensures.same in
      λ p. told p ∙ ap (list_any p) (c.in_ok-members.ensures ∙ ap (λ (ranks : List ℕ). map (numbered_by c.in-Some.places ranks) c.args.candidates.now) c.deref-5.ensures.value);
  exact = λ files choice t.
      let g : Graph = c.in_ok-graph.graph.items in
      let ranks : List ℕ = c.in-Ranks.ranks.items in
      let order : List ℕ = c.in-Ranks.order.items in
      let runs : List (Option Run) = c.in_ok-runs.runs.items in
      let told = subst (λ (o : Option IdentityPlaces). IfSome o (λ places. (files : Files) (choice : ModuleChoice) → AreLinked files choice c.args.linked.now → AreIdentityPlaces (rows_of files) places)) c.in-Some.is c.in_ok-places.ensures in
      let ordered = subst (λ (x : Ranking). IfRanks x ArePlaces) c.in-Ranks.is c.in_ok-ranks.ensures.places in
      let ranked = subst (λ (x : Ranking). IfRanks x (λ ranks order. AreRanks c.deref.result.now ranks)) c.in-Ranks.is c.in_ok-ranks.ensures.ranks in
      let each : length ranks ≡ length g = ranked.each ∙ ap length c.deref.ensures.value in
      let made = subst (λ (x : List ℕ). AreRuns g ranks x runs) c.deref-4.ensures.value
      (subst (λ (x : List ℕ). AreRuns g x c.deref-4.result.now runs) c.deref-3.ensures.value (subst (λ (x : Graph). AreRuns x c.deref-3.result.now c.deref-4.result.now runs) c.deref-2.ensures.value c.in_ok-runs.ensures)) in
      run_below (map brief_of files) (rows_of files) c.in-Some.places (told files choice t) g ranks order runs (c.in_ok-graph.ensures.exact files choice t (told files choice t)) ordered each made;
}
