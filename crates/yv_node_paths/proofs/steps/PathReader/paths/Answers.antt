use Rattle.std.proofs.Common.{◌≡◌, ◌++◌, List, map, None, Option, sym, ap, ◌∙◌, append_assoc}
use Rattle.yv_node_content.specs.Steps.{Step}
use Rattle.yv_node_paths.specs.Steps.{paths_of}
use Rattle.yv_node_paths.specs.InnerFirstWord.{first_word, path_in}
use Rattle.yv_node_paths.proofs.Cuts.{paths_cut, paths_whole}
use Rattle.yv_node_paths.proofs.steps.PathReader.paths.Goals as goal

pub loop-word-preserved : goal.loop-word-preserved
loop-word-preserved c =
    let rest = c.loop-word.rest.now in
    let front = c.in-Some.word.now in
    let back = c.in-Some.behind.now in
    let found : List (List (Option Step)) = map (λ path. path.items) c.loop-word.paths.items in (
      c.in-Some.ensures.text,
      λ files are.
          let ends : List (List (Option Step)) = paths_of files c.args.self.now.file back in
          let cut_is : paths_of files c.args.self.now.file rest ≡ path_in files c.args.self.now.file front ++ ends = paths_cut files c.args.self.now.file rest front back c.in-Some.ensures.parts in
          ap (λ (ps : List (List (Option Step))). ps ++ ends) (c.in_ok-push_path.ensures files are)
          ∙ append_assoc found (path_in files c.args.self.now.file front) ends
          ∙ ap (λ (ps : List (List (Option Step))). found ++ ps) (sym cut_is)
          ∙ c.loop-word.invariant.1 files are,
    )

pub returns : goal.returns
returns c = λ files are.
    let rest = c.loop-word.rest.now in
    let found : List (List (Option Step)) = map (λ path. path.items) c.loop-word.paths.items in
    let none : None ≡ first_word rest = c.in_default.ensures.parts in
    c.in_ok-push_path-2.ensures files are
    ∙ ap (λ (ps : List (List (Option Step))). found ++ ps) (sym (paths_whole files c.args.self.now.file rest none))
    ∙ c.loop-word.invariant.1 files are
