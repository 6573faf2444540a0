use Rattle.std.proofs.Common.{◌≡◌, ◌∙◌, ◌&&◌, Bool, true, false, not, map, refl, sym, ap}
use Rattle.yv_text_grammar.specs.InnerDistinct.{share, text_of}
use Rattle.yv_text_grammar.specs.InnerWords.{words_left}
use Rattle.yv_text_grammar.specs.Texts.{none_twice}
use Rattle.yv_text_grammar.proofs.Repeats.{none_twice_taken}
use Rattle.yv_text_grammar.proofs.distinct.none_twice_in.Goals as goal
use Rattle.yv_text_grammar.proofs.distinct.none_twice_in.Goals.{After-is_rising}

-- what is told of the words by those in the table and those that are left
parts : (c : After-is_rising) → none_twice (words_left c.loop-words.words) ≡ (none_twice (map text_of c.sort_unstable.new.self) && (not (share (map text_of c.sort_unstable.new.self) (words_left c.fill-count.new.words)) && none_twice (words_left c.fill-count.new.words)))
parts c = none_twice_taken _ _ c.sort_unstable.new.self (words_left c.fill-count.new.words) c.fill-count.ensures.takes c.sort_unstable.ensures.permutation

pub returns-then-not-is_rising : goal.returns-then-not-is_rising
returns-then-not-is_rising c =
    let left = words_left c.fill-count.new.words in
    let ys = c.sort_unstable.new.self in
    let twice : none_twice (map text_of ys) ≡ false = sym c.is_rising.ensures ∙ c.if-not-is_rising.true in
    sym (parts (goal.at.returns-then-not-is_rising c).After-is_rising ∙ ap (λ b. b && (not (share (map text_of ys) left) && none_twice left)) twice) ∙ c.loop-words.invariant

pub returns-then-has_one_of : goal.returns-then-has_one_of
returns-then-has_one_of c =
    let left = words_left c.fill-count.new.words in
    let ys = c.sort_unstable.new.self in
    let shared : share (map text_of ys) left ≡ true = sym c.has_one_of.ensures ∙ c.if-has_one_of.true in
    sym (parts (goal.at.returns-then-has_one_of c).After-is_rising ∙ ap (λ b. none_twice (map text_of ys) && (not b && none_twice left)) shared ∙ never (none_twice (map text_of ys))) ∙ c.loop-words.invariant
  where
    never : (b : Bool) → (b && false) ≡ false
    never true = refl
    never false = refl

pub loop-words-preserved : goal.loop-words-preserved
loop-words-preserved c =
    let left = words_left c.fill-count.new.words in
    let ys = c.sort_unstable.new.self in
    let once : none_twice (map text_of ys) ≡ true = sym c.is_rising.ensures ∙ c.if-not-is_rising.false in
    let apart : share (map text_of ys) left ≡ false = sym c.has_one_of.ensures ∙ c.if-has_one_of.false in
    sym (parts (goal.at.loop-words-preserved c).After-is_rising ∙ ap (λ b. b && (not (share (map text_of ys) left) && none_twice left)) once ∙ ap (λ b. not b && none_twice left) apart) ∙ c.loop-words.invariant
