use Rattle.std.proofs.Common.{◌≡◌, ℕ, ◌++◌, ◌∷◌, [], Option, Vec, ◌∙◌, ap, arith}
use Rattle.std.specs.BTreeMap.{get}
use Rattle.std.specs.BTreeMap.Entry.{map_with_value}
use Rattle.std.specs.Option.{unwrap_or}
use Rattle.std.specs.declared.alloc.Global.{Global}
use Rattle.yv_type_identities.specs.InnerPlaces.{numbers_at}
use Rattle.yv_type_identities.proofs.NumbersByPlace.{order, kept_more, first_items}
use Rattle.yv_type_identities.proofs.places.CandidatePlaces.add.Goals as goal

pub returns : goal.returns
returns c =
    let more : c.push.new.self.items ≡ numbers_at c.args.self.now (c.args.place.file, c.args.place.offset) ++ c.args.number ∷ [] =
    c.in_ok-push.ensures.items
    ∙ ap (λ (v : Vec ℕ Global). v.items ++ c.args.number ∷ []) (c.or_insert.ensures.value ∙ ap (λ (o : Option (Vec ℕ Global)). unwrap_or o c.new.result) c.in_ok-self.ensures.value)
    ∙ ap (λ xs. xs ++ c.args.number ∷ []) (first_items (get order c.args.self.now.map (c.args.place.file, c.args.place.offset)) c.new.result c.new.ensures.items) in
    λ k n. grind (
      arith,
      kept_more c.args.self.now (record { map = map_with_value c.in_ok-self.field-0 c.push.new.self }) c.args.place c.args.number c.push.new.self ((c.in_ok-self.ensures.update.0 c.push.new.self).0) more k n,
    )
