use Rattle.std.proofs.Common.{◌≡◌, ◌<◌, ◌↔◌, inl, ℕ, List, Option, Some, length, refl, subst, sym, ◌∙◌, arith}
use Rattle.std.specs.List.{slice_index}
use Rattle.yv_link_scopes.specs.Rows.{Row}
use Rattle.yv_link_scopes.specs.Files.{Briefs}
use Rattle.yv_link_scopes.specs.Views.{files_in, rows_in}
use Rattle.yv_type_chains.specs.Types.{Follows, HasBase}
use Rattle.yv_base_tables.specs.Slots.{at}
use Rattle.yv_type_chains.proofs.TypeBases.{base_type, no_number}
use Rattle.yv_type_chains.proofs.TableWalk.{keep_empty, order_within, walk_more, walk_types}
use Rattle.yv_type_chains.proofs.draft.Draft.bases.Goals as goal

pub loop-number-preserved : goal.loop-number-preserved
loop-number-preserved c =
    let files : Briefs = files_in c.args.self.now.rows.now in
    let rows : List Row = rows_in c.args.self.now.rows.now in
    let n : ℕ = slice_index c.args.order.now c.loop-number.number-index in
    record {
      each = c.put.ensures.each ∙ c.loop-number.invariant.each;
      empty = keep_empty c.args.order.now c.loop-number.number-index n (at c.loop-number.bases.items) (at c.put.new.slots.items) c.loop-number-test.true refl c.put.ensures.elsewhere c.loop-number.invariant.empty;
      told = λ told order.
          let within : n < length c.loop-number.bases.items = let w = order_within rows c.args.order.now order.exact c.loop-number.number-index c.loop-number-test.true in omega (arith, w, c.loop-number.invariant.each) in
          let known : (j : ℕ) → Follows files rows n j → (b : ℕ) → (at c.loop-number.bases.items j ≡ Some b) ↔ HasBase files rows j b =
          λ j f. c.loop-number.invariant.told told order j (order.behind c.loop-number.number-index j c.loop-number-test.true (inl f)) in
          let here : (b : ℕ) → (at c.put.new.slots.items n ≡ Some b) ↔ HasBase files rows n b =
          λ b. subst (λ (o : Option ℕ). (o ≡ Some b) ↔ HasBase files rows n b) (sym (c.put.ensures.here within)) (c.base-base.ensures told (λ j f d. subst (λ (xs : List (Option ℕ)). (at xs j ≡ Some d) ↔ HasBase files rows j d) (sym c.deref.ensures.value) (known j f d)) b) in
          walk_more (λ k o. (b : ℕ) → (o ≡ Some b) ↔ HasBase files rows k b) c.args.order.now c.loop-number.number-index n (at c.loop-number.bases.items) (at c.put.new.slots.items) c.loop-number-test.true refl here c.put.ensures.elsewhere (c.loop-number.invariant.told told order);
    }

pub returns : goal.returns
returns c = λ told order.
    let files : Briefs = files_in c.args.self.now.rows.now in
    let rows : List Row = rows_in c.args.self.now.rows.now in
    walk_types (λ k o. (b : ℕ) → (o ≡ Some b) ↔ HasBase files rows k b) rows c.args.order.now c.loop-number.number-index c.loop-number.bases.items c.loop-number-test.false order.exact (λ k out b. (λ e. absurd (no_number b e), λ h. absurd (out (base_type files rows h)))) c.loop-number.invariant.empty (c.loop-number.invariant.told told order)
