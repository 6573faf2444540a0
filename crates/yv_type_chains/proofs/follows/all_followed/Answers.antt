use Rattle.std.proofs.Common.{◌≤◌, ◌<◌, ℕ, List, length, ◌∙◌, ap, arith}
use Rattle.yv_link_scopes.specs.Rows.{Row, row}
use Rattle.yv_link_scopes.specs.Views.{files_in, rows_in}
use Rattle.yv_type_chains.specs.Types.{Follows}
use Rattle.yv_type_chains.proofs.Words.{longer, row_read, rows_count}
use Rattle.yv_type_chains.proofs.NumberTables.{told_all, told_more, within_more}
use Rattle.yv_type_chains.proofs.FollowedTypes.{follower_within}
use Rattle.yv_type_chains.proofs.follows.all_followed.Goals as goal

pub next_type-requires-clause-at : goal.next_type-requires-clause-at
next_type-requires-clause-at c = row_read row _ (rows_in c.args.rows.now) c.loop-number.number c.index-entries-number.result c.entries-entries.ensures c.loop-number-test.true c.index-entries-number.is

pub loop-number-preserved : goal.loop-number-preserved
loop-number-preserved c = record {
  each = ap length c.in_ok-push.ensures.items ∙ longer c.loop-number.follows.items _ ∙ omega (arith, c.loop-number.invariant.each);
  within = within_more (length (rows_in c.args.rows.now)) c.loop-number.follows.items c.push.new.self.items c.next_type.result c.in_ok-push.ensures.items c.next_type.ensures.within c.loop-number.invariant.within;
  told = λ given. told_more (Follows (files_in c.args.rows.now) (rows_in c.args.rows.now)) c.loop-number.number c.loop-number.follows.items c.push.new.self.items c.next_type.result c.loop-number.invariant.each c.in_ok-push.ensures.items (c.next_type.ensures.exact given) (c.loop-number.invariant.told given);
}

pub returns-clause-exact : goal.returns-clause-exact
returns-clause-exact c given =
    let files = files_in c.args.rows.now in
    let rows : List Row = rows_in c.args.rows.now in
    let past : length rows ≤ c.loop-number.number = omega (arith, rows_count row _ rows c.entries-entries.ensures, c.loop-number-test.false) in
    let within : (k j : ℕ) → Follows files rows k j → k < c.loop-number.number = λ k j f. omega (arith, past, follower_within files rows k j f) in
    told_all (Follows files rows) c.loop-number.number c.loop-number.follows.items within (c.loop-number.invariant.told given)
