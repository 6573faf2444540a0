use Rattle.std.proofs.Common.{ℕ, List, Option, Some, sym, ◌∙◌, subst}
use Rattle.yv_link_scopes.specs.Files.{Files}
use Rattle.yv_link_scopes.specs.Views.{lent_in}
use Rattle.yv_types.specs.Referrals.{path_at}
use Rattle.yv_types.specs.declared.leafref_path.TypeLeafref.{TypeLeafref}
use Rattle.yv_node_leafrefs.specs.Schema.{Referral}
use Rattle.yv_schema.specs.Referrals.{referral_of_path, referral_of}
use Rattle.yv_schema.specs.InnerNumbers.{Key, IsNumbered, key_cmp, said_in}
use Rattle.yv_schema.proofs.ReferralNumbering.{exact_key, known_more, stays_numbered}
use Rattle.yv_schema.proofs.number_table.NumberTable.of.Goals as goal

pub returns-clause-numbers : goal.returns-clause-numbers
returns-clause-numbers c =
    let files : Files = lent_in c.args.rows.now in
    let old : List Referral = c.args.self.now.leafrefs.items in
    let new : List Referral = c.put.new.leafrefs.items in
    let told : Key → Option Referral = λ (key : Key). referral_of_path files key.1 (path_at files key.0) in
    let here : IsNumbered new c.in_ok-number.number (referral_of files (Some c.in-Some.referring)) =
    subst (λ (said : Option Referral). IsNumbered new c.in_ok-number.number said) c.in_ok-said.ensures c.in_ok-number.ensures.number in
    record {
      paths = c.requires.paths;
      known = known_more key_cmp exact_key (λ (key : Key) (number : Option ℕ). IsNumbered new number (told key)) c.args.self.now.known c.insert.new.self
          (c.in-Some.referring.origin, c.in-Some.referring.is_required) c.in_ok-number.number c.in_ok-insert.ensures.updates
          (λ key number at. stays_numbered old new c.in_ok-number.ensures.keeps number (told key) (c.requires.known key number at)) here;
    }

pub returns-in-Some-find-clause-number : goal.returns-in-Some-find-clause-number
returns-in-Some-find-clause-number c =
    let r : TypeLeafref = c.in-Some.referring in
    subst (λ (o : Option TypeLeafref). IsNumbered (said_in c.args.self.now) c.in-Some-find.number (referral_of (lent_in c.args.rows.now) o)) (sym c.in-Some.is)
    (c.requires.known (r.origin, r.is_required) c.in-Some-find.number (sym c.find.ensures ∙ c.in-Some-find.is))
