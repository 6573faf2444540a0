use Rattle.std.proofs.Common.{arith, ◌≡◌, ◌<◌, ◌≤◌, ◌∷◌, ◌∙◌, sym, ap, List, ℕ, [], length, get_or, refl, append-nil, subst, Option}
use Rattle.std.specs.List.{slice_get}
use Rattle.std.specs.Option.{option_to_list}
use Rattle.yv_expand.specs.Tree.{Node}
use Rattle.yv_link_scopes.specs.RowList.{rows_of}
use Rattle.yv_link_scopes.specs.Views.{rows_in}
use Rattle.yv_nodes.specs.Rows.{Note}
use Rattle.yv_schema.specs.InnerRows.{IsWithin}
use Rattle.yv_schema.specs.InnerNotes.{notes_of}
use Rattle.yv_schema.proofs.Numbering.{AllBefore, above_before, family_before, givers_many, parents_before}
use Rattle.yv_schema.proofs.AugmentNotes.{family_is, givers, givers_kept, note_is, notes_end, notes_more}
use Rattle.yv_schema.proofs.ContextBasis.{follows, kept}
use Rattle.yv_schema.proofs.notes.notes.Goals as goal
use Rattle.yv_schema.proofs.notes.notes.Goals.{in-Some+in_ok-push, in_default}

pub note-requires-clause-target : goal.note-requires-clause-target
note-requires-clause-target c =
    let told = c.requires.tells in
    let k = kept told.basis c.args.context.now told.tells in
    let left : List Node = c.args.context.now.tree.now.left in
    subst (λ (o : Option ℕ). IsWithin o 4294967296) (sym c.target_of-target.ensures)
    (above_before left 4294967296 (slice_get c.at-nodes.result.now 0) (parents_before told.basis left 4294967296 k.left_are c.requires.few))

pub note-requires-clause-nodes : goal.note-requires-clause-nodes
note-requires-clause-nodes c =
    let told = c.requires.tells in
    let b = told.basis in
    let so = follows b c.args.context.now told.tells c.given_nodes_stand_below_their_target.ensures c.no_item_is_left_twice.ensures in
    let k = kept b c.args.context.now told.tells in
    let found = c.deref.ensures.value ∙ c.in_ok-givers.ensures ∙ givers_kept b so _ _ _ k in
    let nodes = family_is b so c.deref.result.now (length c.augments-augments.result.now) c.loop-place.place c.in_ok-added.added c.at-nodes.result.now found c.in_ok-added.ensures c.loop-place-test.true c.at-nodes.ensures in
    let few : length (givers b so) ≤ 4294967296 = omega (arith, givers_many b so, ap (length {A = Node}) k.left_are, c.requires.few) in
    subst (λ (ns : List ℕ). AllBefore 4294967296 ns) (sym nodes) (family_before (givers b so) c.loop-place.place 4294967296 few)

pub loop-place-preserved : goal.loop-place-preserved
loop-place-preserved c = λ b tells files.
    let so = follows b c.args.context.now tells c.given_nodes_stand_below_their_target.ensures c.no_item_is_left_twice.ensures in
    let k = kept b c.args.context.now tells in
    let i = c.loop-place.place in
    let augments : c.augments-augments.result.now ≡ b.final.augments = c.augments-augments.ensures ∙ k.augments_are in
    let lt : i < length b.final.augments = subst (λ (ns : List ℕ). i < length ns) augments c.loop-place-test.true in
    let a = get_or b.final.augments i 0 in
    let found = c.deref.ensures.value ∙ c.in_ok-givers.ensures ∙ givers_kept b so _ _ _ k in
    let nodes = family_is b so c.deref.result.now (length c.augments-augments.result.now) i c.in_ok-added.added c.at-nodes.result.now found c.in_ok-added.ensures c.loop-place-test.true c.at-nodes.ensures in
    let one = note_is b so (rows_in c.args.rows.now) c.augments-augments.result.now i _ _ c.target_of-target.result c.at-nodes.result.now (option_to_list c.in_ok-note.field-0) (ap rows_of files) augments c.loop-place-test.true
    k.left_are c.target_of-target.ensures nodes (c.in_ok-note.ensures.note b files) in
    elim c.match-branch-4.branch [
      | in-Some+in_ok-push w ↦
          let more = notes_more b so b.final.augments i a c.loop-place.notes.items w.push.new.self.items (w.in-Some.note ∷ []) (notes_of b) lt refl w.in_ok-push.ensures.items
          (sym (ap (λ (o : Option Note). option_to_list o) w.in-Some.is) ∙ one) (c.loop-place.invariant b tells files) in
          (rw w.notes-is more)
      | in_default w ↦
          let more = notes_more b so b.final.augments i a c.loop-place.notes.items c.loop-place.notes.items [] (notes_of b) lt refl (sym (append-nil c.loop-place.notes.items))
          (sym (ap (λ (o : Option Note). option_to_list o) w.in_default.is) ∙ one) (c.loop-place.invariant b tells files) in
          (rw w.notes-is more)
    ]

pub returns-clause-notes : goal.returns-clause-notes
returns-clause-notes c = λ b tells files.
    let so = follows b c.args.context.now tells c.given_nodes_stand_below_their_target.ensures c.no_item_is_left_twice.ensures in
    let k = kept b c.args.context.now tells in
    let augments : c.augments-augments.result.now ≡ b.final.augments = c.augments-augments.ensures ∙ k.augments_are in
    notes_end b so b.final.augments c.loop-place.place c.loop-place.notes.items (notes_of b)
    (subst (λ (ns : List ℕ). length ns ≤ c.loop-place.place) augments c.loop-place-test.false) (c.loop-place.invariant b tells files)
