use Rattle.std.proofs.Common.{◌≡◌, ◌<◌, length, [], ◌∷◌, sym, ◌∙◌, ap, arith}
use Rattle.std.proofs.lemmas.Bool.{eqb-false}
use Rattle.yv_text_grammar.specs.Words.{words}
use Rattle.yv_text_grammar.specs.InnerWords.{words_left}
use Rattle.yv_text_grammar.proofs.WordCuts.{no_words, word_cut}
use Rattle.yv_text_grammar.proofs.words.WordsIterator.next.Goals as goal
use Rattle.yv_text_grammar.proofs.words.WordsIterator.next.Goals.{After-split_at}

pub returns-then-is_empty-clause-steps : goal.returns-then-is_empty-clause-steps
returns-then-is_empty-clause-steps c =
    let none : words c.skip_blanks-rest.result.now ≡ [] = no_words _ (sym c.is_empty.ensures ∙ c.if-is_empty.true) in
    (sym c.skip_blanks-rest.ensures.words ∙ none, none)

-- the first word, and those behind it
first : (c : After-split_at) → words_left c.args.self.now ≡ c.split_at.result.0.now ∷ words c.split_at.result.1.now
first c =
    let rest = c.skip_blanks-rest.result.now in
    let long : 0 < length rest = omega (arith, eqb-false (length rest) 0 (sym c.is_empty.ensures ∙ c.if-is_empty.false)) in
    sym c.skip_blanks-rest.ensures.words ∙ rw (c.split_at.ensures.front, c.split_at.ensures.back, c.word_len.ensures.len) (word_cut rest long (c.skip_blanks-rest.ensures.front long))

pub returns-clause-steps : goal.returns-clause-steps
returns-clause-steps c = first (goal.at.returns-clause-steps c).After-split_at

pub returns-clause-goes : goal.returns-clause-goes
returns-clause-goes c =
    let shorter = ap length (first (goal.at.returns-clause-goes c).After-split_at) in
    record { on = λ _. (tt, tt, omega (arith, shorter)); keeps = tt; rests = λ _. tt }
