use Rattle.yv_values.proofs.Keys.{insert_adds, insert_apart, not_found}
use Rattle.yv_values.proofs.index.Index.keep_new.Goals as goal

pub invariant_of-self-2 : goal.invariant_of-self-2
invariant_of-self-2 c =
    let es = c.self.inside.places.entries in
    let none = not_found c.into_key.result es c.self.invariant (λ p. rw (c.into_key.ensures, c.self.view_is) (c.requires p)) in
    rw (c.in_ok-insert.ensures.entries, c.one-places.ensures) (insert_apart c.into_key.result c.args.place es c.self.invariant none)

pub returns-clause-keeps : goal.returns-clause-keeps
returns-clause-keeps c =
    let es = c.self.inside.places.entries in
    let none = not_found c.into_key.result es c.self.invariant (λ p. rw (c.into_key.ensures, c.self.view_is) (c.requires p)) in
    rw (c.in_ok-insert.ensures.entries, c.one-places.ensures, ← c.self.view_is, ← c.into_key.ensures) (insert_adds c.into_key.result c.args.place es none)
