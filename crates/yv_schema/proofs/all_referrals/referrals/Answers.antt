use Rattle.std.proofs.Common.{◌≡◌, ℕ, List, Option, None, length, sym, ◌∙◌, ap, subst, arith}
use Rattle.std.specs.List.{slice_get, slice_index_or}
use Rattle.std.specs.Option.{option_and_then}
use Rattle.std.proofs.lemmas.Option.{slice_get-get_or, slice_get_past}
use Rattle.yv_link_scopes.specs.Files.{Files}
use Rattle.yv_link_scopes.specs.Views.{lent_in}
use Rattle.yv_expand_statements.specs.declared.origin.Origin.{Origin}
use Rattle.yv_expand_statements.specs.declared.origin.Origin.TheVariants as origin
use Rattle.yv_node_leafrefs.specs.Schema.{Referral}
use Rattle.yv_node_statements.specs.Kinds.{TypeMeanings}
use Rattle.yv_node_statements.specs.Context.{typing_in}
use Rattle.yv_schema.specs.Referrals.{referral_at}
use Rattle.yv_schema.specs.InnerNumbers.{IsNumbered}
use Rattle.yv_schema.specs.InnerDraft.{leafrefs_in}
use Rattle.yv_schema.proofs.ReferralNumbering.{longer, numbers_more, stays_numbered, told_by}
use Rattle.yv_schema.proofs.all_referrals.referrals.Goals as goal

-- what the node of a number says
abbrev told_of : TypeMeanings → Files → List Origin → ℕ → Option Referral
told_of typing files origins n = option_and_then (referral_at typing files) (slice_get origins n)

pub loop-origin-preserved : goal.loop-origin-preserved
loop-origin-preserved c =
    let typing : TypeMeanings = typing_in c.args.definitions.now in
    let files : Files = lent_in c.args.rows.now in
    let origins : List Origin = c.args.origins.now in
    let i : ℕ = c.loop-origin.origin-index in
    let old : List Referral = leafrefs_in c.loop-origin.draft in
    let new : List Referral = leafrefs_in c.of.new.self in
    let of : List (Option ℕ) = c.loop-origin.of.items in
    let known = c.loop-origin.invariant in
    let here : IsNumbered new c.in_ok-of.field-0 (told_of typing files origins i) =
    subst (λ (o : Option Origin). IsNumbered new c.in_ok-of.field-0 (option_and_then (referral_at typing files) o))
    (sym (slice_get-get_or origins i (origin.Statement 0) c.loop-origin-test.true)) c.in_ok-of.ensures.number in
    record {
      each = longer of c.push.new.self.items c.in_ok-of.field-0 i known.each c.in_ok-push.ensures.items;
      draft = c.in_ok-of.ensures.draft;
      numbered = numbers_more (λ (n : ℕ) (number : Option ℕ). IsNumbered new number (told_of typing files origins n)) i of c.push.new.self.items c.in_ok-of.field-0 known.each c.in_ok-push.ensures.items
          (λ n less. stays_numbered old new c.in_ok-of.ensures.keeps (slice_index_or of n None) (told_of typing files origins n) (known.numbered n less)) here;
    }

pub returns-clause-says : goal.returns-clause-says
returns-clause-says c = λ n.
    let typing : TypeMeanings = typing_in c.args.definitions.now in
    let files : Files = lent_in c.args.rows.now in
    let origins : List Origin = c.args.origins.now in
    let of : List (Option ℕ) = c.loop-origin.of.items in
    let known = c.loop-origin.invariant in
    let all : length of ≡ length origins = omega (arith, known.each, c.loop-origin-test.false, c.loop-origin.auto.origin-index-end) in
    told_by (told_of typing files origins) (length origins) of c.leafrefs.result.items all
    (λ k past. ap (option_and_then (referral_at typing files)) (slice_get_past origins k past))
    (λ k less. subst (λ (leafrefs : List Referral). IsNumbered leafrefs (slice_index_or of k None) (told_of typing files origins k)) (sym c.leafrefs.ensures)
    (known.numbered k (omega (arith, less, known.each, all)))) n
    ∙ ap (λ (lent : Files). option_and_then (referral_at typing lent) (slice_get origins n)) (sym c.requires)
