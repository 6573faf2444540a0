use Rattle.std.proofs.Common.{◌≡◌, ◌↔◌, ℕ, [], ◌∷◌, inl, inr, map, ap, refl, sym, ◌∙◌, subst, Some, None}
use Rattle.std.specs.List.{slice_get}
use Rattle.std.specs.Option.{option_map}
use Rattle.std.proofs.lemmas.Option.{same_Some}
use Rattle.yv_link_scopes.specs.Files.{Files, brief_of}
use Rattle.yv_link_scopes.specs.Rows.{row}
use Rattle.yv_link_scopes.specs.RowList.{rows_of}
use Rattle.yv_link_scopes.specs.Views.{rows_in}
use Rattle.yv_type_chains.specs.Types.{Follows}
use Rattle.yv_type_enums.specs.Types.{NamesView, Truth}
use Rattle.yv_type_enums.specs.TypeNames.{told_of}
use Rattle.yv_link.specs.LinkedFiles.{truth_in}
use Rattle.yv_values.specs.Types.{plain_of}
use Rattle.yv_types.specs.Spaces.{plain_type, names_type, of_kind}
use Rattle.yv_types.specs.InnerTables.{FollowsNone, IsBare, IsListed, IsSpace, entry_of, plains}
use Rattle.yv_types.proofs.TypeStatementStep.{bare_by, has_followed, has_out, has_some, if_ok, no_number, row_past, row_read}
use Rattle.yv_types.proofs.layers.Layers.types_at.Goals as goal

pub returns-in-Some-clause-space : goal.returns-in-Some-clause-space
returns-in-Some-clause-space c = λ kept files choice linked layers inside known.
    has_some files (truth_in c.args.linked.now) choice c.args.number (Some (plains c.in_ok-list_of.field-0)) (plain_of c.in-Some.plain.now ∷ [])
    (ap Some c.in_ok-list_of.ensures.types)
    (plain_type ((c.in-Some.ensures files layers.faceted (plain_of c.in-Some.plain.now)).0 refl))

pub returns-in-Some-names-clause-space : goal.returns-in-Some-names-clause-space
returns-in-Some-names-clause-space c = λ kept files choice linked layers inside known.
    let told : NamesView = told_of c.in-Some-names.names.now in
    let is : IsListed told (plain_of c.in_ok-names_type.field-0) = c.in_ok-names_type.ensures in
    has_some files (truth_in c.args.linked.now) choice c.args.number (Some (plains c.in_ok-one.field-0)) (of_kind told.kind is.0 ∷ [])
    (ap Some (c.in_ok-one.ensures.types ∙ ap (λ p. p ∷ []) is.1))
    (names_type told is.0 ((c.in-Some-names.ensures files (truth_in c.args.linked.now) layers.listed told).0 refl) is.2 is.3)

pub returns-in-Some-follows-clause-space : goal.returns-in-Some-follows-clause-space
returns-in-Some-follows-clause-space c = λ kept. if_ok _ _ c.list_at.result
    (λ s e files choice linked layers inside known.
    let truth : Truth = truth_in c.args.linked.now in
    let k : ℕ = c.args.number in
    let j : ℕ = c.in-Some-follows.followed in
    let bare : IsBare files truth k = bare_by files truth k (c.in_default.ensures files layers.faceted) (c.in_default-names.ensures files truth layers.listed) in
    let follows : (i : ℕ) → (Some j ≡ Some i) ↔ Follows (map brief_of files) (rows_of files) k i = c.in-Some-follows.ensures files layers.based in
    let f : Follows (map brief_of files) (rows_of files) k j = (follows j).0 refl in
    has_followed files truth choice k bare j f (λ i g. sym (same_Some j i ((follows i).1 g))) (option_map plains s)
    (subst (IsSpace files truth choice j) (sym e) (known j (inl f))))
    c.list_at.ensures.types

pub returns-in-Some-get-clause-space : goal.returns-in-Some-get-clause-space
returns-in-Some-get-clause-space c = λ kept. if_ok _ _ c.built_in.result
    (λ s e files choice linked layers inside known.
    let truth : Truth = truth_in c.args.linked.now in
    let k : ℕ = c.args.number in
    let bare : IsBare files truth k = bare_by files truth k (c.in_default.ensures files layers.faceted) (c.in_default-names.ensures files truth layers.listed) in
    let alone : FollowsNone files k = λ j f. no_number j ((c.in_default-follows.ensures files layers.based j).1 f) in
    let own : slice_get (rows_in c.rows.result.now) k ≡ Some (row c.in-Some-get.entry.now) = row_read row c.entries.result.now (rows_in c.rows.result.now) k c.in-Some-get.entry.now c.entries.ensures c.in-Some-get.ensures.lookup.3.0 c.in-Some-get.ensures.lookup.1 in
    let at : slice_get (rows_of files) k ≡ Some (row c.in-Some-get.entry.now) = subst (λ (fs : Files). slice_get (rows_of fs) k ≡ Some (row c.in-Some-get.entry.now)) (c.rows.ensures files choice linked) own in
    e files choice linked at (c.at-members.ensures ∙ inside k) bare alone known)
    (c.built_in.ensures.space kept)

pub returns-in-None-clause-space : goal.returns-in-None-clause-space
returns-in-None-clause-space c = λ kept files choice linked layers inside known.
    let truth : Truth = truth_in c.args.linked.now in
    let k : ℕ = c.args.number in
    let bare : IsBare files truth k = bare_by files truth k (c.in_default.ensures files layers.faceted) (c.in_default-names.ensures files truth layers.listed) in
    let alone : FollowsNone files k = λ j f. no_number j ((c.in_default-follows.ensures files layers.based j).1 f) in
    let own : slice_get (rows_in c.rows.result.now) k ≡ None = row_past row c.entries.result.now (rows_in c.rows.result.now) k c.entries.ensures c.in-None.ensures.lookup.3 in
    let out : slice_get (rows_of files) k ≡ None = subst (λ (fs : Files). slice_get (rows_of fs) k ≡ None) (c.rows.ensures files choice linked) own in
    has_out files truth choice k bare alone None refl out

pub returns-in-Some-2-clause-number : goal.returns-in-Some-2-clause-number
returns-in-Some-2-clause-number c = λ x e. inr (c.in_ok-shared.ensures.there x (ap (option_map entry_of) c.in-Some-2.is ∙ e))
