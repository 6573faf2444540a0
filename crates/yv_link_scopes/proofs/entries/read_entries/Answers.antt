use Rattle.std.proofs.Common.{◌≡◌, ◌++◌, length, map, refl, sym, ◌∙◌, ap}
use Rattle.std.proofs.lemmas.List.{length-map}
use Rattle.yv_text_statement.specs.Tree.{forest}
use Rattle.yv_link_scopes.specs.Rows.{row, tree}
use Rattle.yv_link_scopes.specs.RowList.{statements_in}
use Rattle.yv_link_scopes.specs.Files.{brief, brief_of}
use Rattle.yv_link_scopes.proofs.Firsts.{get_map}
use Rattle.yv_link_scopes.proofs.Listing.{pushed, forest-trees}
use Rattle.yv_link_scopes.proofs.Bodies.{roots_step, bodies_step, bodies_start, bodies_end, body_is}
use Rattle.yv_link_scopes.proofs.StatementTraversal.{tells_root, tells_body, tells_start, tells_all, pushed_tree}
use Rattle.yv_link_scopes.proofs.entries.read_entries.Goals as goal

pub loop-file-preserved : goal.loop-file-preserved
loop-file-preserved c = record {
  rows = roots_step c.index-roots-file.result c.loop-file.invariant.rows c.loop-file-test.true c.index-roots-file.is (pushed _ _ _ c.in_ok-push.ensures.items);
  trees = tells_root c.index-roots-file.result c.loop-file.invariant.trees c.loop-file-test.true c.index-roots-file.is (pushed_tree _ _ _ c.in_ok-push.ensures.items);
}

pub loop-number-init : goal.loop-number-init
loop-number-init c = record {
  rows = bodies_start c.loop-file.invariant.rows c.loop-file-test.false;
  trees = tells_start c.loop-file.invariant.trees c.loop-file-test.false;
}

pub loop-number-preserved : goal.loop-number-preserved
loop-number-preserved c =
    let block : forest c.children.result.now ≡ c.index-roots-number.result.children = ap forest c.children.ensures ∙ forest-trees c.index-roots-number.result.children in
    record {
      rows = bodies_step c.index-roots-number.result c.loop-number.invariant.rows c.loop-number-test.true c.index-roots-number.is
          (c.in_ok-add_block.ensures.rows ∙ ap (λ xs. map row c.loop-number.entries.items ++ xs)
          (body_is c.args.roots.now (map brief c.args.files.now) c.loop-number.number (length c.loop-number.entries.items) (length (map row c.loop-number.entries.items)) c.module_file-scope.result c.index-roots-number.result (forest c.children.result.now) c.requires.files
          (get_map brief_of c.args.roots.now _ c.loop-number.number c.index-roots-number.result refl c.loop-number-test.true c.index-roots-number.is)
          c.module_file-scope.ensures block (sym (length-map c.loop-number.entries.items row))));
      trees = tells_body c.index-roots-number.result c.loop-number.invariant.trees c.loop-number-test.true c.index-roots-number.is
          (c.in_ok-add_block.ensures.trees ∙ ap (λ f. map tree c.loop-number.entries.items ++ statements_in f) block);
    }

pub returns : goal.returns
returns c = record {
  rows = bodies_end c.loop-number.invariant.rows c.loop-number-test.false;
  trees = tells_all c.loop-number.invariant.trees c.loop-number-test.false;
}
