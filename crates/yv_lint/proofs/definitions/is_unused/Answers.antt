use Rattle.std.proofs.Common.{◌≡◌, ◌&&◌, true, false, not, sym, ◌∙◌, ap}
use Rattle.std.specs.List.{list_any}
use Rattle.yv_link_scopes.specs.Files.{tree_name}
use Rattle.yv_lint.specs.Definitions.{all_in, is_nested, is_use}
use Rattle.yv_lint.specs.InnerPlaces.{place_of}
use Rattle.yv_lint.proofs.KnownUses.{used_is}
use Rattle.yv_lint.proofs.definitions.is_unused.Goals as goal

pub returns-then-is_nested : goal.returns-then-is_nested
returns-then-is_nested c = λ k own before known end.
    let block = c.args.place.now.parent.now.children in
    let name = tree_name c.args.place.now.statement.now in
    let used : c.has_between.result ≡ list_any (is_use k own name) (all_in block) =
    used_is k own c.name_of.result.now c.args.uses.now c.args.place.now.start c.args.place.now.end block c.has_between.result known end c.has_between.ensures
    ∙ ap (λ n. list_any (is_use k own n) (all_in block)) c.name_of.ensures
    in
    let nested : is_nested c.args.definition (place_of before c.args.place.now) ≡ true = sym (c.is_nested.ensures before) ∙ c.if-is_nested.true in
    ap not used ∙ sym (ap (λ b. b && not (list_any (is_use k own name) (all_in block))) nested)

pub returns-else-is_nested : goal.returns-else-is_nested
returns-else-is_nested c = λ k own before known end.
    let top : is_nested c.args.definition (place_of before c.args.place.now) ≡ false = sym (c.is_nested.ensures before) ∙ c.if-is_nested.false in
    c.if-is_nested.false ∙ sym (ap (λ b. b && not (list_any (is_use k own (tree_name c.args.place.now.statement.now)) (all_in c.args.place.now.parent.now.children))) top)
