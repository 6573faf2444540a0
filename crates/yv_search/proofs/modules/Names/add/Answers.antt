use Rattle.std.proofs.Common.{◌≡◌, ◌∙◌, ◌||◌, ℕ, List, Bool, true, false, cond, refl, ap}
use Rattle.std.specs.Str.{bytes_eq}
use Rattle.std.proofs.lemmas.Map.Text.{is_eq-slice_cmp}
use Rattle.yv_search.specs.InnerNames.{has}
use Rattle.yv_search.proofs.modules.Names.add.Goals as goal

as_or : (a b : Bool) → cond a true b ≡ (a || b)
as_or true b = refl
as_or false b = refl

pub returns : goal.returns
returns c = λ q.
    c.in_ok-insert.ensures.updates.0 (record { ref_ptr = (0, 0); now = q })
    ∙ ap (λ b. cond b true (has c.args.self.now q)) (is_eq-slice_cmp c.as_bytes.result.now q)
    ∙ as_or (bytes_eq c.as_bytes.result.now q) (has c.args.self.now q)
    ∙ ap (λ n. bytes_eq n q || has c.args.self.now q) c.as_bytes.ensures.value
