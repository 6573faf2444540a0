use Rattle.std.proofs.Common.{◌≡◌, ◌++◌, List, None, Option, sym, ap, ◌∙◌, append_assoc}
use Rattle.yv_node_content.specs.Steps.{Step}
use Rattle.yv_node_paths.specs.Steps.{names_of}
use Rattle.yv_node_paths.specs.InnerFirstWord.{first_word, name_in}
use Rattle.yv_node_paths.proofs.Cuts.{names_cut, names_whole}
use Rattle.yv_node_paths.proofs.steps.PathReader.names.Goals as goal

pub loop-word-preserved : goal.loop-word-preserved
loop-word-preserved c =
    let rest = c.loop-word.rest.now in
    let front = c.in-Some.word.now in
    let back = c.in-Some.behind.now in
    let found : List (Option Step) = c.loop-word.names.items in (
      c.in-Some.ensures.text,
      λ files are.
          let ends : List (Option Step) = names_of files c.args.self.now.file back in
          let cut_is : names_of files c.args.self.now.file rest ≡ name_in files c.args.self.now.file front ++ ends = names_cut files c.args.self.now.file rest front back c.in-Some.ensures.parts in
          ap (λ (ps : List (Option Step)). ps ++ ends) (c.in_ok-push_name.ensures files are)
          ∙ append_assoc found (name_in files c.args.self.now.file front) ends
          ∙ ap (λ (ps : List (Option Step)). found ++ ps) (sym cut_is)
          ∙ c.loop-word.invariant.1 files are,
    )

pub returns : goal.returns
returns c = λ files are.
    let rest = c.loop-word.rest.now in
    let found : List (Option Step) = c.loop-word.names.items in
    let none : None ≡ first_word rest = c.in_default.ensures.parts in
    c.in_ok-push_name-2.ensures files are
    ∙ ap (λ (ps : List (Option Step)). found ++ ps) (sym (names_whole files c.args.self.now.file rest none))
    ∙ c.loop-word.invariant.1 files are
