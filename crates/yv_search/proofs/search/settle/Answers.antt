use Rattle.std.proofs.Common.{◌≡◌, ◌∙◌, ◌||◌, ℕ, List, Bool, true, false, cond, refl, string_bytes, ap}
use Rattle.std.specs.BTreeSet.{contains_text}
use Rattle.std.specs.Str.{bytes_eq}
use Rattle.std.proofs.lemmas.Map.Text.{btree_set_updates_text}
use Rattle.yv_search.proofs.search.settle.Goals as goal

as_or : (a b : Bool) → cond a true b ≡ (a || b)
as_or true b = refl
as_or false b = refl

pub returns : goal.returns
returns c = λ q.
    btree_set_updates_text (string_bytes c.in_ok-from_str.field-0) c.args.settled.now c.insert.new.self true c.in_ok-insert.ensures.updates q
    ∙ ap (λ (t : List ℕ). cond (bytes_eq t q) true (contains_text c.args.settled.now q)) c.in_ok-from_str.ensures.ok
    ∙ as_or (bytes_eq c.args.name.now q) (contains_text c.args.settled.now q)
