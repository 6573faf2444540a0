use Rattle.std.proofs.Common.{◌≡◌, ◌∙◌, ◌++◌, ap, map, sym, append-nil, List, ℕ}
use Rattle.std.proofs.lemmas.Result.{IfOk-weaker}
use Rattle.yv_values.specs.NameOrder.{is_named}
use Rattle.yv_values.specs.Values.{texts}
use Rattle.yv_type_enums.specs.Values.{has}
use Rattle.yv_type_enums.proofs.NextValueName.{named_keys}
use Rattle.yv_type_enums.proofs.values.Values.names.Goals as goal

pub returns : goal.returns
returns c =
    let items = texts c.loop-name.names.items in
    let same = sym (append-nil items) ∙ ap (λ ks. items ++ map (λ k. k.now) ks) (sym c.in-None.ensures.steps.0) ∙ c.loop-name.invariant in
    IfOk-weaker c.new.result (λ names. (s : List ℕ) → is_named names s ≡ is_named items s) (λ names. (s : List ℕ) → is_named names s ≡ has c.args.self.now s)
    (λ names h s. h s ∙ ap (λ ns. is_named ns s) same ∙ named_keys s c.args.self.now.names.keys)
    c.new.ensures.same
