use Rattle.std.proofs.Common.{◌≡◌, ℕ, List, Bool, true, false, ◌==◌, ◌||◌, ◌&&◌, Option, Some, None, sym, ap, ◌∙◌}
use Rattle.yv_node_content.specs.Kinds.{is_leaf}
use Rattle.yv_node_content.specs.Steps.{has_step}
use Rattle.yv_nodes.specs.Labels.{has_key_called}
use Rattle.yv_nodes.specs.Above.{View, nearest_module_file, nearest_keys}
use Rattle.yv_nodes.proofs.KeyNames.{keyed}
use Rattle.yv_nodes.proofs.above.Above.is_key.Goals as goal

pub returns-then-has_bare_key : goal.returns-then-has_bare_key
returns-then-has_bare_key c = λ ls e.
    let module_file : ℕ = c.args.module_file in
    let name : List ℕ = c.args.definition.now.name in
    let bare : c.has_bare_key.result ≡ (module_file == nearest_module_file ls && has_step None name (nearest_keys ls)) =
    c.has_bare_key.ensures ∙ ap (λ (n : List ℕ). module_file == c.args.self.now.module_file && has_step None n c.args.self.now.keys) c.in_ok-bare.ensures
    ∙ ap (λ (s : View). module_file == s.module_file && has_step None name s.keys) e in
    let leaf : is_leaf c.args.definition.now.kind ≡ true = sym c.is_leaf.ensures ∙ c.if-not-is_leaf.false in
    c.if-has_bare_key.true
    ∙ sym (ap (λ (b : Bool). b && has_key_called ls module_file name) leaf ∙ keyed module_file ls name ∙ ap (λ (b : Bool). b || has_step (Some module_file) name (nearest_keys ls)) (sym bare ∙ c.if-has_bare_key.true))

pub returns-else-has_bare_key : goal.returns-else-has_bare_key
returns-else-has_bare_key c = λ ls e.
    let module_file : ℕ = c.args.module_file in
    let name : List ℕ = c.args.definition.now.name in
    let bare : c.has_bare_key.result ≡ (module_file == nearest_module_file ls && has_step None name (nearest_keys ls)) =
    c.has_bare_key.ensures ∙ ap (λ (n : List ℕ). module_file == c.args.self.now.module_file && has_step None n c.args.self.now.keys) c.in_ok-bare.ensures
    ∙ ap (λ (s : View). module_file == s.module_file && has_step None name s.keys) e in
    let leaf : is_leaf c.args.definition.now.kind ≡ true = sym c.is_leaf.ensures ∙ c.if-not-is_leaf.false in
    let own : c.has_key_step.result ≡ has_step (Some module_file) name (nearest_keys ls) =
    c.has_key_step.ensures ∙ ap (λ (n : List ℕ). has_step (Some module_file) n c.args.self.now.keys) c.in_ok-name.ensures
    ∙ ap (λ (s : View). has_step (Some module_file) name s.keys) e in
    own
    ∙ sym (ap (λ (b : Bool). b && has_key_called ls module_file name) leaf ∙ keyed module_file ls name ∙ ap (λ (b : Bool). b || has_step (Some module_file) name (nearest_keys ls)) (sym bare ∙ c.if-has_bare_key.false))
