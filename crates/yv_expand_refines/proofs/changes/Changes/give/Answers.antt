use Rattle.std.proofs.Common.{◌≡◌, ◌<◌, ◌∙◌, ℕ, List, Option, None, Some, Vec, Global, get_or, length, map, set, ap, sym, subst, arith}
use Rattle.std.specs.List.{slice_get}
use Rattle.std.proofs.lemmas.List.{length-map}
use Rattle.std.proofs.lemmas.Option.{slice_get-get_or}
use Rattle.yv_expand_refines.specs.Changes.{ChangesView, sequence_at}
use Rattle.yv_expand_refines.specs.InnerJoints.{AreJoined, sequences_of}
use Rattle.yv_expand_refines.specs.InnerPlaces.{places_in}
use Rattle.yv_expand_refines.proofs.RunSequences.{given, items_of, noted_in}
use Rattle.yv_expand_refines.proofs.changes.Changes.give.Goals as goal

-- the sequence that an item has is read
read_front : (of opened : List (Option ℕ)) (item : ℕ) (front : Option ℕ) → opened ≡ of → item < length of → front ≡ get_or opened item None → slice_get of item ≡ Some front
read_front of opened item front same within read =
    slice_get-get_or of item None within ∙ ap Some (sym (read ∙ ap (λ (l : List (Option ℕ)). get_or l item None) same))

pub put-requires : goal.put-requires
put-requires c =
    let all = c.in_ok-open.ensures.opens in
    let same = ap length c.open.ensures.same in
    let seen = ap (λ (x : ChangesView). length x.of) c.self.view_is in
    let item = c.requires.item in
    omega (arith, all, same, seen, item)

pub invariant_of-self-2 : goal.invariant_of-self-2
invariant_of-self-2 c =
    let of : List (Option ℕ) = places_in c.self.inside.of in
    let within : c.args.item < length of = omega (arith, c.requires.item, ap (λ (x : ChangesView). length x.of) c.self.view_is) in
    let run : c.args.run < length c.self.inside.runs.items = omega (arith, c.requires.run, ap (λ (x : ChangesView). length x.runs) c.self.view_is, length-map c.self.inside.runs.items (λ (v : Vec ℕ Global). v.items)) in
    let put = c.put.ensures ∙ ap (λ (l : List (Option ℕ)). set l c.args.item (Some c.in_ok-place.place)) c.open.ensures.same in
    subst (λ (l : List (Option ℕ)). AreJoined (length c.self.inside.runs.items) c.of.new.self.made.items l) (sym put)
    (given _ c.self.inside.joints.made.items c.of.new.self.made.items of c.args.item c.in_ok-place.place _ c.self.invariant run
    (read_front of _ c.args.item _ c.open.ensures.same within c.get-front.ensures) c.in_ok-place.ensures.grows c.in_ok-place.ensures.place)

pub returns-clause-notes : goal.returns-clause-notes
returns-clause-notes c =
    let of : List (Option ℕ) = places_in c.self.inside.of in
    let within : c.args.item < length of = omega (arith, c.requires.item, ap (λ (x : ChangesView). length x.of) c.self.view_is) in
    let run : c.args.run < length c.self.inside.runs.items = omega (arith, c.requires.run, ap (λ (x : ChangesView). length x.runs) c.self.view_is, length-map c.self.inside.runs.items (λ (v : Vec ℕ Global). v.items)) in
    let put = c.put.ensures ∙ ap (λ (l : List (Option ℕ)). set l c.args.item (Some c.in_ok-place.place)) c.open.ensures.same in
    ap (map (sequence_at (sequences_of (items_of c.self.inside.runs.items) c.of.new.self.made.items))) put
    ∙ noted_in _ c.self.inside.joints.made.items c.of.new.self.made.items of c.args.item c.in_ok-place.place _ c.args.run (items_of c.self.inside.runs.items) c.args.self.now c.self.invariant run
    (read_front of _ c.args.item _ c.open.ensures.same within c.get-front.ensures) c.in_ok-place.ensures.grows c.in_ok-place.ensures.place c.self.view_is
