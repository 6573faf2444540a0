use Rattle.std.proofs.Common.{◌≡◌, ◌∙◌, ◌||◌, ◌++◌, [], Option, refl, sym, ap, map, Some, None}
use Rattle.std.specs.List.{cons_option}
use Rattle.std.specs.BTreeSet.{contains_text}
use Rattle.std.proofs.lemmas.List.{append-nil}
use Rattle.yv_text_statement.specs.Tree.{Tree}
use Rattle.yv_text_statement.specs.Words.{is_among}
use Rattle.yv_search.specs.Search.{wants_of, root_name}
use Rattle.yv_search.specs.InnerWants.{want}
use Rattle.yv_search.proofs.SearchSteps.{file_taken}
use Rattle.yv_search.proofs.search.Search.add.Goals as goal

pub returns-in_default : goal.returns-in_default
returns-in_default c = λ listing s f is at.
    let none : f.root ≡ None = rw c.in_default.is at is in
    file_taken listing c.args.self.now c.args.self.now s f at refl refl
    (sym (ap (λ (r : Option Tree). map want c.args.self.now.wants.items ++ wants_of r) none ∙ append-nil (map want c.args.self.now.wants.items)))
    (λ q. sym (ap (λ (r : Option Tree). is_among (cons_option (root_name r) []) q || contains_text c.args.self.now.settled q) none))

pub returns : goal.returns
returns c = λ listing s f is at.
    let some : f.root ≡ Some c.in-Some.root.now = rw c.in-Some.is at is in
    file_taken listing c.args.self.now _ s f at refl refl
    (c.in_ok-add_wants.ensures ∙ ap (λ (r : Option Tree). map want c.args.self.now.wants.items ++ wants_of r) (sym some))
    (λ q. c.in_ok-settle_root.ensures q ∙ ap (λ (r : Option Tree). is_among (cons_option (root_name r) []) q || contains_text c.args.self.now.settled q) (sym some))
