use Rattle.std.proofs.Common.{◌&&◌, List, refl, ◌∙◌, ap, map}
use Rattle.std.specs.List.{list_any}
use Rattle.std.proofs.lemmas.Option.{slice_get-get_or}
use Rattle.yv_link_scopes.specs.Files.{brief_of}
use Rattle.yv_link_scopes.specs.RowList.{rows_of}
use Rattle.yv_link_identities.specs.References.{is_at}
use Rattle.yv_link_identities.specs.declared.references.IdentityRef.{IdentityRef}
use Rattle.yv_type_identities.specs.InnerSets.{has, is_left}
use Rattle.yv_type_identities.proofs.Below.{leaving_none, leaving_base, leaving_all}
use Rattle.yv_type_identities.proofs.bases.below.Goals as goal

pub loop-base-init : goal.loop-base-init
loop-base-init c files choice t = leaving_none (map brief_of files) (rows_of files) c.args.key.now _ (λ place. refl)

pub loop-base-preserved : goal.loop-base-preserved
loop-base-preserved c files choice t = leaving_base (map brief_of files) (rows_of files) c.args.key.now c.loop-base.base-index _ _ c.in_ok-derived.derived.items (is_left c.loop-base.left) (has c.in_ok-intersect.field-0) (slice_get-get_or c.args.key.now c.loop-base.base-index (0, 0) c.loop-base-test.true) refl (c.in_ok-derived.ensures files choice t) (λ place. c.in_ok-intersect.ensures place ∙ ap (λ (refs : List IdentityRef). is_left c.loop-base.left place && list_any (is_at place) refs) c.deref.ensures.value) (c.loop-base.invariant files choice t)

pub returns : goal.returns
returns c files choice t =
    leaving_all (map brief_of files) (rows_of files) c.args.key.now c.loop-base.base-index (is_left c.loop-base.left) c.loop-base-test.false (c.loop-base.invariant files choice t)
