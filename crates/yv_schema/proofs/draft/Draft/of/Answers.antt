use Rattle.std.proofs.Common.{◌≡◌, ℕ, List, Option, ◌∙◌, ap, subst, sym}
use Rattle.std.specs.Ordering.{nat_cmp}
use Rattle.std.proofs.lemmas.Map.Lookups.{exact_unsigned}
use Rattle.yv_link_scopes.specs.Files.{Files}
use Rattle.yv_link_scopes.specs.Views.{lent_in}
use Rattle.yv_expand_statements.specs.declared.origin.Origin.{Origin}
use Rattle.yv_expand_statements.specs.declared.origin.Origin.TheVariants as origin
use Rattle.yv_types.specs.declared.leafref_path.TypeLeafref.{TypeLeafref}
use Rattle.yv_node_leafrefs.specs.Schema.{Referral}
use Rattle.yv_node_statements.specs.Kinds.{TypeMeanings}
use Rattle.yv_node_statements.specs.Context.{typing_in}
use Rattle.yv_node_statements.specs.Definitions.{leafref_of}
use Rattle.yv_schema.specs.Referrals.{referral_of, referral_at}
use Rattle.yv_schema.specs.InnerNumbers.{IsNumbered, said_in}
use Rattle.yv_schema.specs.InnerDraft.{leafrefs_in}
use Rattle.yv_schema.proofs.ReferralNumbering.{known_more, stays_numbered}
use Rattle.yv_schema.proofs.draft.Draft.of.Goals as goal

pub returns-clause-draft : goal.returns-clause-draft
returns-clause-draft c =
    let files : Files = lent_in c.args.rows.now in
    let typing : TypeMeanings = typing_in c.args.definitions.now in
    let old : List Referral = leafrefs_in c.args.self.now in
    let new : List Referral = said_in c.of.new.self in
    let told : ℕ → Option Referral = λ (statement : ℕ). referral_at typing files (origin.Statement statement) in
    let is : c.leafref_of-referring.result ≡ leafref_of typing files (origin.Statement c.in-Statement.statement) =
    c.leafref_of-referring.ensures ∙ ap (λ (lent : Files). leafref_of typing lent (origin.Statement c.in-Statement.statement)) c.requires.same in
    let here : IsNumbered new c.in_ok-number.number (told c.in-Statement.statement) =
    subst (λ (r : Option TypeLeafref). IsNumbered new c.in_ok-number.number (referral_of files r)) is c.in_ok-number.ensures.number in
    record {
      numbered = c.in_ok-number.ensures.numbers;
      known = known_more nat_cmp exact_unsigned (λ (statement : ℕ) (number : Option ℕ). IsNumbered new number (told statement)) c.args.self.now.known c.insert.new.self
          c.in-Statement.statement c.in_ok-number.number c.in_ok-insert.ensures.updates
          (λ statement number at. stays_numbered old new c.in_ok-number.ensures.keeps number (told statement) (c.requires.draft.known statement number at)) here;
    }

pub returns-in-Some-clause-number : goal.returns-in-Some-clause-number
returns-in-Some-clause-number c =
    subst (λ (o : Origin). IsNumbered (leafrefs_in c.args.self.now) c.in-Some.number (referral_at (typing_in c.args.definitions.now) (lent_in c.args.rows.now) o)) (sym c.in-Statement.is)
    (c.requires.draft.known c.in-Statement.statement c.in-Some.number (sym c.find.ensures ∙ c.in-Some.is))
