use Rattle.std.proofs.Common.{◌≡◌, sym, ◌∙◌, ap, subst}
use Rattle.yv_link_scopes.specs.Files.{Files}
use Rattle.yv_link_scopes.specs.Views.{lent_in, files_in, rows_in}
use Rattle.yv_link_scopes.specs.declared.rows.Rows.{Rows}
use Rattle.yv_link_definitions.specs.Meanings.{AreNames}
use Rattle.yv_type_chains.specs.Types.{IsOrderOfTypes}
use Rattle.yv_type_chains.specs.InnerOrder.{IsOrderOfAll}
use Rattle.yv_type_chains.specs.Bases.{AreBases}
use Rattle.yv_type_chains.specs.InnerFindings.{AreFound}
use Rattle.yv_type_chains.specs.InnerTables.{AreFollowed}
use Rattle.yv_type_chains.specs.declared.bases.Bases.{Bases}
use Rattle.yv_type_chains.proofs.bases.Bases.read.Goals as goal

pub returns : goal.returns
returns c files is given =
    let own : Rows = c.in_ok-draft.draft.rows.now in
    let same : own ≡ c.args.rows.now = c.in_ok-draft.ensures.rows in
    let lent : AreNames (lent_in c.args.rows.now) c.args.names.now = subst (λ (fs : Files). AreNames fs c.args.names.now) (sym is) given in
    let names : AreNames (lent_in own) c.args.names.now = subst (λ (x : Rows). AreNames (lent_in x) c.args.names.now) (sym same) lent in
    let followed : AreFollowed (files_in own) (rows_in own) c.in_ok-draft.draft.follows.items =
    subst (λ (x : Rows). AreFollowed (files_in x) (rows_in x) c.in_ok-draft.draft.follows.items) (sym same) (c.in_ok-draft.ensures.follows lent) in
    let every : IsOrderOfAll (files_in own) (rows_in own) c.in_ok-all.all.items = c.in_ok-all.ensures c.args.names.now names followed in
    let order : IsOrderOfTypes (files_in own) (rows_in own) c.in_ok-order.order.items =
    c.in_ok-order.ensures (subst (λ xs. IsOrderOfAll (files_in own) (rows_in own) xs) (sym c.deref.ensures.value) every) in
    let found : AreFound (files_in own) (rows_in own) c.in_ok-found.found =
    c.in_ok-found.ensures followed (subst (λ xs. IsOrderOfTypes (files_in own) (rows_in own) xs) (sym c.deref-2.ensures.value) order) in
    let bases : Bases = record { bases = c.in_ok-found.found.bases; follows = c.in_ok-draft.draft.follows; order = c.in_ok-order.order; fault = c.first_refusal-fault.result } in
    let all : AreBases (lent_in own) bases = record { based = found.based; followed = followed; order = order; least = c.first_refusal-fault.ensures found } in
    subst (λ (fs : Files). AreBases fs bases) (ap lent_in same ∙ is) all
