use Rattle.std.proofs.Common.{◌≡◌, inl, inr, ◌<◌, ◌+◌, ◌++◌, ◌∷◌, [], ℕ, List, length, length-append, refl, sym, ◌∙◌, ap, subst, arith}
use Rattle.std.specs.Vec.{with_items}
use Rattle.std.specs.declared.alloc.Global.{Global}
use Rattle.std.specs.declared.vec.Vec.{Vec}
use Rattle.std.proofs.lemmas.Bool.{cases_lt}
use Rattle.std.proofs.lemmas.Option.{slice_get_within}
use Rattle.yv_base_tables.specs.InnerTree.{HasRoom, branches_in}
use Rattle.yv_base_tables.specs.declared.path_tree.PathTree.{PathTree}
use Rattle.yv_base_tables.proofs.PathTreeGrowth.{grown, on_err, same_tree}
use Rattle.yv_base_tables.proofs.Rows.{KeepRows, empty_row, keep_same, keep_written, room_before, rows_written}
use Rattle.yv_base_tables.proofs.path_tree.PathTree.grow.Goals as goal

pub returns-in_err-make_room-clause-keeps : goal.returns-in_err-make_room-clause-keeps
returns-in_err-make_room-clause-keeps c = λ paths steps is at.
    let old : PathTree = c.args.self.now in
    let rows = keep_written old.branches c.deref_mut.result.now c.make_room.new.branches c.deref_mut.ensures.value c.make_room.auto.branches c.make_room.ensures.keeps in
    on_err c.from_residual.result (same_tree paths old (record old { branches = with_items old.branches c.make_room.new.branches }) is refl rows.1 refl refl)

pub returns-in_err-reserve-clause-keeps : goal.returns-in_err-reserve-clause-keeps
returns-in_err-reserve-clause-keeps c = λ paths steps is at.
    let old : PathTree = c.args.self.now in
    let rows = keep_written old.branches c.deref_mut.result.now c.make_room.new.branches c.deref_mut.ensures.value c.make_room.auto.branches c.make_room.ensures.keeps in
    let keep = keep_same old.branches.items _ c.reserve.new.self.items rows.1 c.reserve.ensures.items in
    on_err c.from_residual-in_err-reserve.result (same_tree paths old (record old { branches = c.reserve.new.self }) is refl keep refl refl)

pub returns-in_err-reserve-2-clause-keeps : goal.returns-in_err-reserve-2-clause-keeps
returns-in_err-reserve-2-clause-keeps c = λ paths steps is at.
    let old : PathTree = c.args.self.now in
    let rows = keep_written old.branches c.deref_mut.result.now c.make_room.new.branches c.deref_mut.ensures.value c.make_room.auto.branches c.make_room.ensures.keeps in
    let keep = keep_same old.branches.items _ c.reserve.new.self.items rows.1 c.reserve.ensures.items in
    on_err c.from_residual-in_err-reserve-2.result
    (same_tree paths old (record old { steps = c.reserve-2.new.self; branches = c.reserve.new.self }) is c.reserve-2.ensures.items keep refl refl)

pub returns-in_err-insert-clause-keeps : goal.returns-in_err-insert-clause-keeps
returns-in_err-insert-clause-keeps c = λ paths steps is at.
    let old : PathTree = c.args.self.now in
    let rows = keep_written old.branches c.deref_mut.result.now c.make_room.new.branches c.deref_mut.ensures.value c.make_room.auto.branches c.make_room.ensures.keeps in
    let keep = keep_same old.branches.items _ c.reserve.new.self.items rows.1 c.reserve.ensures.items in
    on_err c.from_residual-in_err-insert.result
    (same_tree paths old (record { steps = c.reserve-2.new.self; branches = c.reserve.new.self; known = c.insert.new.self; deepest = old.deepest }) is c.reserve-2.ensures.items keep
    c.in_err-insert.ensures.err refl)

pub returns-in_err-branch-clause-keeps : goal.returns-in_err-branch-clause-keeps
returns-in_err-branch-clause-keeps c = λ paths steps is at.
    let old : PathTree = c.args.self.now in
    let rows = keep_written old.branches c.deref_mut.result.now c.make_room.new.branches c.deref_mut.ensures.value c.make_room.auto.branches c.make_room.ensures.keeps in
    let reserved : c.reserve.new.self.items ≡ c.make_room.new.branches = c.reserve.ensures.items ∙ rows.0 in
    let within : c.args.front < length paths = slice_get_within paths c.args.front steps at in
    let less : c.args.front < length c.make_room.new.branches = omega (arith, within, is.branches, rows.1.long, ap length rows.0) in
    let lent : c.make_room.new.branches ++ c.new.result ∷ [] ≡ c.deref_mut-2.result.now =
    ap (λ (l : List (Vec ℕ Global)). l ++ c.new.result ∷ []) (sym reserved) ∙ sym {A = List (Vec ℕ Global)} c.in_ok-push-2.ensures.items ∙ sym {A = List (Vec ℕ Global)} c.deref_mut-2.ensures.value in
    absurd (c.in_err-branch.ensures.full (subst (λ (l : List (Vec ℕ Global)). HasRoom l c.args.front) lent
    (room_before c.make_room.new.branches c.new.result c.args.front less c.in_ok-make_room.ensures.room)))

pub returns-clause-adds : goal.returns-clause-adds
returns-clause-adds c = λ paths steps is at deep absent.
    let old : PathTree = c.args.self.now in
    let new : PathTree = record { steps = c.push.new.self; branches = with_items c.push-2.new.self c.branch-deref_mut.new.branches; known = c.insert.new.self; deepest = c.max-self.result } in
    let rows = keep_written old.branches c.deref_mut.result.now c.make_room.new.branches c.deref_mut.ensures.value c.make_room.auto.branches c.make_room.ensures.keeps in
    let keep : KeepRows old.branches.items c.reserve.new.self.items = keep_same old.branches.items _ c.reserve.new.self.items rows.1 c.reserve.ensures.items in
    let lent : List (Vec ℕ Global) = c.deref_mut-2.result.now in
    let was : lent ≡ c.reserve.new.self.items ++ c.new.result ∷ [] = c.deref_mut-2.ensures.value ∙ c.in_ok-push-2.ensures.items in
    let longer : length lent ≡ length c.reserve.new.self.items + 1 = ap length was ∙ length-append c.reserve.new.self.items (c.new.result ∷ []) in
    let within : c.args.front < length paths = slice_get_within paths c.args.front steps at in
    let here : c.args.front < length lent = omega (arith, within, longer, keep.long, is.branches) in
    let same : length c.branch-deref_mut.new.branches ≡ length lent = c.branch-deref_mut.auto.branches in
    let count : c.push-2.new.self.len ≡ length c.branch-deref_mut.new.branches = omega (arith, same, c.deref_mut-2.ensures.len) in
    let made : new.branches.items ≡ c.branch-deref_mut.new.branches = rows_written c.branch-deref_mut.new.branches _ c.push-2.new.self.len count in
    let seen : (k : ℕ) → branches_in lent k ≡ branches_in old.branches.items k = λ k.
    ap (λ (l : List (Vec ℕ Global)). branches_in l k) was ∙ empty_row c.reserve.new.self.items c.new.result k c.new.ensures.items ∙ keep.each k in
    let wrote : (k : ℕ) → branches_in new.branches.items k ≡ branches_in c.branch-deref_mut.new.branches k = λ k. ap (λ (l : List (Vec ℕ Global)). branches_in l k) made in
    grown paths old new c.args.front c.args.step c.len-path.result steps is at absent (omega (arith, c.len-path.ensures, is.steps))
    (c.in_ok-push.ensures.items ∙ ap (λ (l : List ℕ). l ++ c.args.step ∷ []) c.reserve-2.ensures.items)
    (ap length made ∙ same ∙ longer ∙ ap (λ (n : ℕ). n + 1) keep.long)
    (wrote c.args.front ∙ c.in_ok-branch.ensures.here here ∙ ap (λ (l : List ℕ). l ++ c.len-path.result ∷ []) (seen c.args.front))
    (λ k apart. wrote k ∙ c.in_ok-branch.ensures.others k apart ∙ seen k)
    c.in_ok-insert.ensures.updates (omega (arith, c.max-self.ensures)) (omega (arith, c.max-self.ensures, deep))
    (elim (cases_lt old.deepest c.args.depth) [ inl l ↦ inr (omega (arith, c.max-self.ensures, deep, l)) | inr l ↦ inl (omega (arith, c.max-self.ensures, l)) ])
