use Rattle.std.proofs.Common.{◌≡◌, ◌++◌, ◌∷◌, [], ◌+◌, ℕ, List, codes, length, sym, ◌∙◌, ap, arith, append_assoc}
use Rattle.std.proofs.lemmas.List.{length-map, length_push}
use Rattle.yv_link_scopes.specs.Rows.{Row}
use Rattle.yv_link_scopes.specs.Views.{rows_in}
use Rattle.yv_expand_statements.specs.Names.{node_name}
use Rattle.yv_expand_paths.specs.InnerNameNumbers.{own_names, place_of}
use Rattle.yv_expand_paths.specs.InnerNames.{table_of}
use Rattle.yv_expand_paths.proofs.NamePlaces.{place_front}
use Rattle.yv_expand_paths.proofs.NameTableGrowth.{told_more, numbers_behind}
use Rattle.yv_expand_paths.proofs.names.NodeNames.read.Goals as goal

pub returns-clause-names : goal.returns-clause-names
returns-clause-names c =
    let rows : List Row = rows_in c.args.rows.now in
    let names : List (List ℕ) = own_names rows in
    let input : List ℕ = codes "input" in
    let output : List ℕ = codes "output" in
    let count : ℕ = c.len-count.result in
    let long : count ≡ length names = c.len-count.ensures.count ∙ sym (length-map rows (λ r. node_name r.head)) in
    let longer : count + 1 ≡ length (names ++ input ∷ []) = omega (arith, long, length_push names input) in
    let with_input : (n : List ℕ) → table_of c.keep.new.self n ≡ place_of (names ++ input ∷ []) n =
    told_more names input count (table_of c.numbers.new.table) (table_of c.keep.new.self) long c.in_ok-numbers.ensures.tells c.in_ok-input.ensures.tells in
    let with_both : (n : List ℕ) → table_of c.keep-2.new.self n ≡ place_of ((names ++ input ∷ []) ++ output ∷ []) n =
    told_more (names ++ input ∷ []) output (count + 1) (table_of c.keep.new.self) (table_of c.keep-2.new.self) longer with_input c.in_ok-output.ensures.tells in
    let all : (names ++ input ∷ []) ++ output ∷ [] ≡ names ++ input ∷ output ∷ [] = append_assoc names (input ∷ []) (output ∷ []) in
    record {
      told = λ name. with_both name ∙ ap (λ l. place_of l name) all;
      own = numbers_behind names (input ∷ output ∷ []) names c.in_ok-numbers.numbers.items c.in_ok-numbers.ensures.numbers;
      input = ap (λ l. place_of l input) (sym all) ∙ place_front (names ++ input ∷ []) (output ∷ []) input c.in_ok-input.input (sym (with_input input) ∙ c.in_ok-input.ensures.number);
      output = ap (λ l. place_of l output) (sym all) ∙ sym (with_both output) ∙ c.in_ok-output.ensures.number;
    }
