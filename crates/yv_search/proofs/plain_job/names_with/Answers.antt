use Rattle.std.proofs.Common.{◌≡◌, ◌∙◌, ◌+◌, ℕ, List, Bool, Option, Some, None, map, drop, string_bytes, refl, sym, ap}
use Rattle.std.specs.List.{slice_get}
use Rattle.std.specs.Option.{option_map}
use Rattle.yv_text_statement.specs.Tree.{Tree}
use Rattle.yv_search.specs.Roles.{root_module}
use Rattle.yv_search.specs.PlainJob.{with_module, with_modules}
use Rattle.yv_search.specs.InnerRoles.{is_required}
use Rattle.yv_search.specs.InnerPlainJob.{AddsModule}
use Rattle.yv_search.proofs.ListSteps.{get_same}
use Rattle.yv_search.proofs.FileLists.{drop_at}
use Rattle.yv_search.proofs.plain_job.names_with.Goals as goal
use Rattle.yv_search.proofs.plain_job.names_with.Goals.{in-Some+in_ok-add_module, in_default}

-- one more root
more : (test : List ℕ → Bool) (roots : List (Option Tree)) (i : ℕ) (root : Option Tree) (o : Option (List ℕ)) (old new whole : List (List ℕ)) → slice_get roots i ≡ Some root → o ≡ root_module root → new ≡ with_module test old o
    → with_modules test old (drop i roots) ≡ whole → with_modules test new (drop (i + 1) roots) ≡ whole
more test roots i root o old new whole at is now before =
    ap (λ l. with_modules test l (drop (i + 1) roots)) (now ∙ ap (with_module test old) is)
    ∙ ap (with_modules test old) (sym (drop_at roots i root at))
    ∙ before

pub loop-root-preserved : goal.loop-root-preserved
loop-root-preserved c =
    let test : List ℕ → Bool = is_required c.args.requirements.now in
    let roots : List (Option Tree) = c.args.roots.now in
    let i : ℕ = c.loop-root.root-index in
    let whole : List (List ℕ) = with_modules test (map string_bytes c.args.given.now) roots in
    let at : slice_get roots i ≡ Some c.root-item.result = get_same roots roots i c.root-item.result refl c.loop-root-test.true c.root-item.is in
    elim c.match-root_module.branch [
      | in-Some+in_ok-add_module w ↦ rw (w.names-is, w.known-is) (
          let a : AddsModule test w.in-Some.name.now c.loop-root.names.items w.add_module.new.known w.add_module.new.names.items = w.in_ok-add_module.ensures c.loop-root.invariant.known in
          record {
            rest = more test roots i c.root-item.result (Some w.in-Some.name.now) (map string_bytes c.loop-root.names.items) (map string_bytes w.add_module.new.names.items) whole at (sym (ap (option_map (λ t. t.now)) w.in-Some.is) ∙ c.root_module.ensures) a.names c.loop-root.invariant.rest;
            known = a.all_known;
          })
      | in_default w ↦ rw (w.names-is, w.known-is) (record {
        rest = more test roots i c.root-item.result None (map string_bytes c.loop-root.names.items) (map string_bytes c.loop-root.names.items) whole at (sym (ap (option_map (λ t. t.now)) w.in_default.is) ∙ c.root_module.ensures) refl c.loop-root.invariant.rest;
        known = c.loop-root.invariant.known;
      })
    ]
