use Rattle.std.proofs.Common.{◌≡◌, ◌+◌, ◌∷◌, [], length, ap, ◌∙◌, length-append, arith}
use Rattle.yv_base_tables.proofs.TableEntries.{put_elsewhere, put_here, within_grown, within_set}
use Rattle.yv_base_tables.proofs.table.Table.put_item.Goals as goal

pub invariant_of-self : goal.invariant_of-self
invariant_of-self g c = record { within = within_grown c.args.self.now.places.items c.grow.new.places.items (length c.args.self.now.items.items) (length c.args.self.now.items.items) c.grow.ensures.same (omega arith) c.args.self.now.within }

pub invariant_of-self-in-Break-branch-2 : goal.invariant_of-self-in-Break-branch-2
invariant_of-self-in-Break-branch-2 g c = record { within = within_grown c.args.self.now.places.items c.grow.new.places.items (length c.args.self.now.items.items) (length c.push.new.self.items) c.grow.ensures.same (omega (arith, ap length c.in_err-push.ensures.items)) c.args.self.now.within }

pub invariant_of-self-2 : goal.invariant_of-self-2
invariant_of-self-2 g c =
    let more : length c.push.new.self.items ≡ length c.args.self.now.items.items + 1 = ap length c.in_ok-push.ensures.items ∙ length-append c.args.self.now.items.items (c.args.item ∷ []) in
    record { within = within_set c.grow.new.places.items (length c.push.new.self.items) c.args.number c.len.result (omega arith) (within_grown c.args.self.now.places.items c.grow.new.places.items (length c.args.self.now.items.items) (length c.push.new.self.items) c.grow.ensures.same (omega (arith, more)) c.args.self.now.within) }

pub returns-clause-here : goal.returns-clause-here
returns-clause-here g c = put_here c.grow.new.places.items c.args.self.now.items.items c.push.new.self.items c.args.item c.args.number c.len.result c.in_ok-grow.ensures.reaches c.in_ok-push.ensures.items (omega arith)

pub returns-clause-elsewhere : goal.returns-clause-elsewhere
returns-clause-elsewhere g c = put_elsewhere c.args.self.now.places.items c.grow.new.places.items c.args.self.now.items.items c.push.new.self.items c.args.item c.args.number c.len.result c.args.self.now.within c.in_ok-grow.ensures.same c.in_ok-push.ensures.items
