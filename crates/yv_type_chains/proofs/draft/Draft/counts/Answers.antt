use Rattle.std.proofs.Common.{◌<◌, ℕ, List, Option, length, refl, subst, sym, ◌∙◌, arith}
use Rattle.std.specs.List.{slice_index}
use Rattle.yv_link_scopes.specs.Rows.{Row}
use Rattle.yv_link_scopes.specs.Files.{Briefs}
use Rattle.yv_link_scopes.specs.Views.{files_in, rows_in}
use Rattle.yv_type_chains.specs.Types.{RestsOn}
use Rattle.yv_type_chains.specs.InnerCounts.{IsCount}
use Rattle.yv_base_tables.specs.Slots.{at}
use Rattle.yv_type_chains.proofs.TypeBases.{no_number}
use Rattle.yv_type_chains.proofs.PlainTypeCounts.{count_type}
use Rattle.yv_type_chains.proofs.TableWalk.{keep_empty, order_within, walk_more, walk_types}
use Rattle.yv_type_chains.proofs.draft.Draft.counts.Goals as goal

pub loop-number-preserved : goal.loop-number-preserved
loop-number-preserved c =
    let files : Briefs = files_in c.args.self.now.rows.now in
    let rows : List Row = rows_in c.args.self.now.rows.now in
    let n : ℕ = slice_index c.args.order.now c.loop-number.number-index in
    record {
      each = c.put.ensures.each ∙ c.loop-number.invariant.each;
      empty = keep_empty c.args.order.now c.loop-number.number-index n (at c.loop-number.counts.items) (at c.put.new.slots.items) c.loop-number-test.true refl c.put.ensures.elsewhere c.loop-number.invariant.empty;
      told = λ told order.
          let within : n < length c.loop-number.counts.items = let w = order_within rows c.args.order.now order.exact c.loop-number.number-index c.loop-number-test.true in omega (arith, w, c.loop-number.invariant.each) in
          let known : (j : ℕ) → RestsOn files rows n j → IsCount files rows j (at c.loop-number.counts.items j) =
          λ j f. c.loop-number.invariant.told told order j (order.behind c.loop-number.number-index j c.loop-number-test.true f) in
          let here : IsCount files rows n (at c.put.new.slots.items n) =
          subst (IsCount files rows n) (sym (c.put.ensures.here within)) (c.count-count.ensures told (λ j f. subst (λ (xs : List (Option ℕ)). IsCount files rows j (at xs j)) (sym c.deref.ensures.value) (known j f))) in
          walk_more (IsCount files rows) c.args.order.now c.loop-number.number-index n (at c.loop-number.counts.items) (at c.put.new.slots.items) c.loop-number-test.true refl here c.put.ensures.elsewhere (c.loop-number.invariant.told told order);
    }

pub returns : goal.returns
returns c = λ told order.
    let files : Briefs = files_in c.args.self.now.rows.now in
    let rows : List Row = rows_in c.args.self.now.rows.now in
    walk_types (IsCount files rows) rows c.args.order.now c.loop-number.number-index c.loop-number.counts.items c.loop-number-test.false order.exact (λ k out. record { exists = λ n e. absurd (no_number n e); all = λ n h. absurd (out (count_type files rows h)) }) c.loop-number.invariant.empty (c.loop-number.invariant.told told order)
