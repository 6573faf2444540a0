use Rattle.std.proofs.Common.{◌≡◌, ◌<◌, ℕ, None, length}
use Rattle.std.specs.List.{slice_get, slice_index_or}
use Rattle.std.specs.Option.{option_and_then}
use Rattle.yv_link_scopes.specs.Views.{lent_in}
use Rattle.yv_node_statements.specs.Context.{typing_in}
use Rattle.yv_schema.specs.Referrals.{referral_at}
use Rattle.yv_schema.specs.InnerNumbers.{IsNumbered}
use Rattle.yv_schema.specs.InnerDraft.{IsDraft, leafrefs_in}
use Rattle.yv_schema.proofs.all_referrals.referrals.Given as goal

abbrev pub invariant-loop-origin : goal.invariant-loop-origin
invariant-loop-origin l = record {
  each : length l.of.items ≡ l.origin-index;
  draft : IsDraft (typing_in l.definitions) (lent_in l.rows) l.draft;
  numbered : (n : ℕ) → n < l.origin-index
      → IsNumbered (leafrefs_in l.draft) (slice_index_or l.of.items n None) (option_and_then (referral_at (typing_in l.definitions) (lent_in l.rows)) (slice_get l.origins n));
}
