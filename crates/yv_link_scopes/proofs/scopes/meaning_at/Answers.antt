use Rattle.std.proofs.Common.{◌≡◌, ◌<◌, ◌≤◌, ℕ, List, Option, map, length, refl, sym, ◌∙◌, ap, subst, Some, None, get_or, arith}
use Rattle.std.specs.List.{slice_get}
use Rattle.std.proofs.lemmas.List.{length-map}
use Rattle.std.proofs.lemmas.Option.{slice_get_past}
use Rattle.yv_link_scopes.specs.declared.entry.Entry.{Entry}
use Rattle.yv_link_scopes.specs.Rows.{Row, row}
use Rattle.yv_link_scopes.specs.Tables.{Table, first_of}
use Rattle.yv_link_scopes.specs.InnerPlaces.{lesser_of}
use Rattle.yv_link_scopes.specs.Scopes.{IsFirst, IsNamed, Means}
use Rattle.yv_link_scopes.specs.declared.kind.NameKind.{NameKind}
use Rattle.yv_link_scopes.proofs.Firsts.{get_map}
use Rattle.yv_link_scopes.proofs.Meanings.{first_named, lesser_again, means_more, means_outside, means_root}
use Rattle.yv_link_scopes.proofs.scopes.meaning_at.Goals as goal

-- what is looked up in a block is the first there
here : (kind : NameKind) (rows : List Row) (block : ℕ) (name : List ℕ) (table : Table) (o : Option ℕ) → table ≡ first_of kind rows → o ≡ table block name → IsFirst (IsNamed kind rows block name) o
here kind rows block name table o same e = first_named kind rows block name o (ap (λ (t : Table). t block name) (sym same) ∙ sym e)

-- the row of the block's statement
row_at : (xs : List Entry) (block : ℕ) (entry : Entry) → block < length xs → entry ≡ get_or xs block entry → slice_get (map row xs) block ≡ Some (row entry)
row_at xs block entry inside is = get_map row xs _ block entry refl inside is

pub loop-entry-init : goal.loop-entry-init
loop-entry-init c = record { leads = λ kind same o m. m }

pub loop-entry-preserved : goal.loop-entry-preserved
loop-entry-preserved c =
    let rows : List Row = map row c.args.entries.now in
    let r : Row = row c.in-Some.entry.now in
    let found = c.in-Some.ensures.lookup in
    let at : slice_get rows c.loop-entry.block ≡ Some r = row_at c.args.entries.now c.loop-entry.block c.in-Some.entry.now found.3.0 found.1 in
    record {
      leads = λ kind same o m.
          subst (λ d. Means kind rows c.args.scope c.args.name.now d) (sym (ap (λ l. lesser_of l o) c.lesser-least.ensures ∙ lesser_again c.loop-entry.least c.get-place.result o))
          (c.loop-entry.invariant.leads kind same (lesser_of c.get-place.result o) (means_more kind rows c.args.name.now c.loop-entry.block r c.get-place.result o at (here kind rows c.loop-entry.block c.args.name.now _ c.get-place.result same c.get-place.ensures) m));
    }

pub loop-entry-smaller : goal.loop-entry-smaller
loop-entry-smaller c =
    let found = c.in-Some.ensures.lookup in
    let at : slice_get (map row c.args.entries.now) c.loop-entry.block ≡ Some (row c.in-Some.entry.now) = row_at c.args.entries.now c.loop-entry.block c.in-Some.entry.now found.3.0 found.1 in
    let le : c.in-Some.entry.now.scope ≤ c.loop-entry.block = c.requires c.loop-entry.block (row c.in-Some.entry.now) at in
    let ne = c.if-entry-block.false in omega arith

pub returns-in_default : goal.returns-in_default
returns-in_default c = λ kind same.
    let rows : List Row = map row c.args.entries.now in
    let past : length c.args.entries.now ≤ c.loop-entry.block = c.in_default.ensures.lookup.3 in
    let gone : slice_get rows c.loop-entry.block ≡ None = slice_get_past rows c.loop-entry.block (omega (arith, past, length-map c.args.entries.now row)) in
    subst (λ d. Means kind rows c.args.scope c.args.name.now d) (sym c.lesser-least.ensures)
    (c.loop-entry.invariant.leads kind same c.get-place.result (means_outside kind rows c.args.name.now c.loop-entry.block c.get-place.result gone (here kind rows c.loop-entry.block c.args.name.now _ c.get-place.result same c.get-place.ensures)))

pub returns-then-entry-block : goal.returns-then-entry-block
returns-then-entry-block c = λ kind same.
    let rows : List Row = map row c.args.entries.now in
    let found = c.in-Some.ensures.lookup in
    let at : slice_get rows c.loop-entry.block ≡ Some (row c.in-Some.entry.now) = row_at c.args.entries.now c.loop-entry.block c.in-Some.entry.now found.3.0 found.1 in
    subst (λ d. Means kind rows c.args.scope c.args.name.now d) (sym c.lesser-least.ensures)
    (c.loop-entry.invariant.leads kind same c.get-place.result (means_root kind rows c.args.name.now c.loop-entry.block (row c.in-Some.entry.now) c.get-place.result at c.if-entry-block.true (here kind rows c.loop-entry.block c.args.name.now _ c.get-place.result same c.get-place.ensures)))
