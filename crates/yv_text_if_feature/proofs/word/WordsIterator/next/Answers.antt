use Rattle.std.proofs.Common.{◌≡◌, ◌<◌, length, map, [], ◌∷◌, sym, ◌∙◌, ap, arith}
use Rattle.std.proofs.lemmas.Bool.{eqb-false}
use Rattle.yv_text_if_feature.specs.WordTokens.{token_shown, tokens_left}
use Rattle.yv_text_if_feature.specs.Tokens.{token_of, tokens, words}
use Rattle.yv_text_if_feature.proofs.WordCuts.{no_words, word_cut}
use Rattle.yv_text_if_feature.proofs.word.WordsIterator.next.Goals as goal
use Rattle.yv_text_if_feature.proofs.word.WordsIterator.next.Goals.{After-read}

pub returns-then-is_empty-clause-steps : goal.returns-then-is_empty-clause-steps
returns-then-is_empty-clause-steps c =
    let none : tokens c.skip_blanks-rest.result.now ≡ [] = ap (map token_of) (no_words _ (sym c.is_empty.ensures ∙ c.if-is_empty.true)) in
    (ap (map token_of) (sym c.skip_blanks-rest.ensures.words) ∙ none, none)

-- the first word, and those behind it
first : (c : After-read) → tokens_left c.args.self.now ≡ token_shown c.read.result ∷ tokens c.split_at.result.1.now
first c =
    let rest = c.skip_blanks-rest.result.now in
    let long : 0 < length rest = omega (arith, eqb-false (length rest) 0 (sym c.is_empty.ensures ∙ c.if-is_empty.false)) in
    let cut : words rest ≡ c.split_at.result.0.now ∷ words c.split_at.result.1.now = rw (c.split_at.ensures.front, c.split_at.ensures.back, c.first_len-count.ensures.len) (word_cut rest long (c.skip_blanks-rest.ensures.front long)) in
    ap (map token_of) (sym c.skip_blanks-rest.ensures.words ∙ cut) ∙ ap (λ t. t ∷ tokens c.split_at.result.1.now) (sym c.read.ensures)

pub returns-clause-steps : goal.returns-clause-steps
returns-clause-steps c = first (goal.at.returns-clause-steps c).After-read

pub returns-clause-goes : goal.returns-clause-goes
returns-clause-goes c =
    let shorter = ap length (first (goal.at.returns-clause-goes c).After-read) in
    record { on = λ _. (tt, tt, omega (arith, shorter)); keeps = tt; rests = λ _. tt }
