-- What the machine has read begins a statement.
use Rattle.std.proofs.Common.{◌≡◌, ℕ, Bool, true, false, cond, List, [], ◌∷◌, ◌++◌, length, Option, Some, None, nat_lt, refl, sym, ◌∙◌, ap, subst, inl, inr, append_assoc}
use Rattle.yv_text_statement.specs.Tree.{Forest, End, Then, Tree}
use Rattle.yv_source.specs.Pieces.{Piece, Blank, LineComment, BlockComment, Word, Single, Double, Semicolon, Open, Close, Plus, Token}
use Rattle.yv_source.specs.Grammar.{IsHead, Says, IsJoined, IsArgument, IsBody, Spells, SpellsOne}
use Rattle.yv_source.specs.Inner.Machine.{is_keyword, Step, Next, Wrong, Deep, finish, close, between, give_word, give_quoted, after_argument, after_quoted, after_plus, after_keyword, step, run_tokens}
use Rattle.yv_text_statement.specs.Builder.{join_forests, extend}
use Rattle.yv_source.specs.Place.{column_of}
use Rattle.yv_source.specs.Quotes.{quoted_value}
use Rattle.yv_source.specs.declared.machine.Phase.{Phase}
use Rattle.yv_source.specs.declared.machine.Phase.TheVariants.{Between, Named, Argued, Said, Joined, Done}
use Rattle.yv_source.proofs.Keyword.{keyword_means}
use Rattle.yv_source.proofs.Accepts.{append_nil}

-- the tokens from the first to those inside the innermost open block
abbrev pub Inside : List Tree → List Token → Type 0
Inside [] ts = ts ≡ []
Inside (t ∷ below) ts =
    (front : List Token) × (k : Token) × (argument : List Token) × (o : Token) × (inner : List Token)
    × (ts ≡ front ++ (k ∷ (argument ++ (o ∷ inner)))) × Inside below front × IsHead k t.head × IsArgument argument t.head.argument
    × (o.piece ≡ Open) × Spells t.children inner

-- quoted texts, and what they say
abbrev pub IsChain : List Token → Option (List ℕ) → Type 0
IsChain ts o = (text : List ℕ) × (o ≡ Some text) × IsJoined ts text

-- the tokens behind which the machine stands so
abbrev pub Behind : Phase → List Tree → List Token → Type 0
Behind Between stack ts = Inside stack ts
Behind Named [] ts = ⊥
Behind Named (t ∷ below) ts =
    (front : List Token) × (k : Token) × (ts ≡ front ++ k ∷ []) × Inside below front × IsHead k t.head × (t.head.argument ≡ None) × (t.children ≡ End)
Behind Argued [] ts = ⊥
Behind Argued (t ∷ below) ts =
    (front : List Token) × (k : Token) × (argument : List Token)
    × (ts ≡ front ++ (k ∷ argument)) × Inside below front × IsHead k t.head × IsArgument argument t.head.argument × (t.children ≡ End)
Behind Said [] ts = ⊥
Behind Said (t ∷ below) ts =
    (front : List Token) × (k : Token) × (argument : List Token)
    × (ts ≡ front ++ (k ∷ argument)) × Inside below front × IsHead k t.head × IsChain argument t.head.argument × (t.children ≡ End)
Behind Joined [] ts = ⊥
Behind Joined (t ∷ below) ts =
    (front : List Token) × (k : Token) × (argument : List Token) × (p : Token)
    × (ts ≡ front ++ (k ∷ (argument ++ p ∷ []))) × Inside below front × IsHead k t.head × IsChain argument t.head.argument × (p.piece ≡ Plus) × (t.children ≡ End)
Behind Done [] ts = ⊥
Behind Done (t ∷ []) ts = SpellsOne t ts
Behind Done (t ∷ u ∷ below) ts = ⊥

abbrev pub BehindStep : Step → List Token → Type 0
BehindStep (Next stack phase) ts = Behind phase stack ts
BehindStep Wrong ts = Unit {0}
BehindStep Deep ts = Unit {0}

regroup : {T : Type 0} (k : T) (a b o more : List T) → (k ∷ (a ++ (b ++ o))) ++ more ≡ k ∷ (a ++ (b ++ (o ++ more)))
regroup k a b o more = ap (λ l. k ∷ l) (append_assoc a (b ++ o) more ∙ ap (λ l. a ++ l) (append_assoc b o more))

spells_append : (f g : Forest) (ts us : List Token) → Spells f ts → Spells g us → Spells (join_forests f g) (ts ++ us)
spells_append End g ts us s r = let P : List Token → Type 0 = λ l. Spells g (l ++ us) in subst P (sym s) r
spells_append (Then h c o) g ts us (k, argument, body, others, is, head, says, is_body, rest) r =
    (k, argument, body, others ++ us, ap (λ l. l ++ us) is ∙ regroup k argument body others us, head, says, is_body, spells_append o g others us rest r)

-- front ++ (k ∷ (a ++ (o ∷ inner))) and more
regroup_open : {T : Type 0} (front : List T) (k : T) (a : List T) (o : T) (inner more : List T) → (front ++ (k ∷ (a ++ (o ∷ inner)))) ++ more ≡ front ++ (k ∷ (a ++ (o ∷ (inner ++ more))))
regroup_open front k a o inner more =
    append_assoc front (k ∷ (a ++ (o ∷ inner))) more ∙ ap (λ l. front ++ (k ∷ l)) (append_assoc a (o ∷ inner) more)

-- a whole statement behind those before it
finish_keeps : (t : Tree) (below : List Tree) (ts front : List Token) (k : Token) (argument body : List Token) → ts ≡ front ++ (k ∷ (argument ++ body)) → Inside below front → IsHead k t.head → IsArgument argument t.head.argument → IsBody (Spells t.children) t.children body → BehindStep (finish t below) ts
finish_keeps t [] ts front k argument body is none head says is_body =
    (k, argument, body, [], is ∙ ap (λ l. l ++ (k ∷ (argument ++ body))) none ∙ ap (λ l. k ∷ (argument ++ l)) (sym (append_nil body)), head, says, is_body, refl)
finish_keeps t (p ∷ below) ts front k argument body is (front', k', argument', o, inner, is', inside, head', says', opens, spells) head says is_body =
    (front', k', argument', o, inner ++ (k ∷ (argument ++ body)), is ∙ ap (λ l. l ++ (k ∷ (argument ++ body))) is' ∙ regroup_open front' k' argument' o inner (k ∷ (argument ++ body)), inside, head', says', opens, spells_append p.children (Then t.head t.children End) inner (k ∷ (argument ++ body)) spells (k, argument, body, [], ap (λ l. k ∷ (argument ++ l)) (sym (append_nil body)), head, says, is_body, refl))

close_keeps : (stack : List Tree) (ts : List Token) (u : Token) → u.piece ≡ Close → Inside stack ts → BehindStep (close stack) (ts ++ u ∷ [])
close_keeps [] ts u e inside = tt
close_keeps (t ∷ below) ts u e (front, k, argument, o, inner, is, inside, head, says, opens, spells) =
    finish_keeps t below (ts ++ u ∷ []) front k argument (o ∷ (inner ++ u ∷ []))
    (ap (λ l. l ++ u ∷ []) is ∙ regroup_open front k argument o inner (u ∷ []))
    inside head says (inr (o, inner, u, refl, opens, e, spells))

cond_keeps : (P : Step → Type 0) (b : Bool) (x y : Step) → (b ≡ true → P x) → P y → P (cond b x y)
cond_keeps P true x y f h = f refl
cond_keeps P false x y f h = h

between_keeps : (limit : ℕ) (stack : List Tree) (ts : List Token) (t : Token) (p : Piece) → t.piece ≡ p → Inside stack ts → BehindStep (between limit stack t.front p) (ts ++ t ∷ [])
between_keeps limit stack ts t (Word w) e inside =
    cond_keeps (λ s. BehindStep s (ts ++ t ∷ [])) (is_keyword w) _ Wrong
    (λ key. cond_keeps (λ s. BehindStep s (ts ++ t ∷ [])) (nat_lt (length stack) limit) _ Deep
    (λ room. (ts, t, refl, inside, (e, keyword_means w key, refl, refl), refl, refl)) tt)
    tt
between_keeps limit stack ts t Close e inside = close_keeps stack ts t e inside
between_keeps limit stack ts t (Blank b) e inside = tt
between_keeps limit stack ts t (LineComment b) e inside = tt
between_keeps limit stack ts t (BlockComment b) e inside = tt
between_keeps limit stack ts t (Single b) e inside = tt
between_keeps limit stack ts t (Double b) e inside = tt
between_keeps limit stack ts t Semicolon e inside = tt
between_keeps limit stack ts t Open e inside = tt
between_keeps limit stack ts t Plus e inside = tt

-- a statement with its keyword and argument
abbrev HasBegun : List Tree → List Token → Type 0
HasBegun stack ts = Behind Argued stack ts

mark_keeps : (stack : List Tree) (ts : List Token) (t : Token) → t.piece ≡ Semicolon → HasBegun stack ts → BehindStep (close stack) (ts ++ t ∷ [])
mark_keeps [] ts t e h = absurd h
mark_keeps (s ∷ below) ts t e (front, k, argument, is, inside, head, says, none) =
    finish_keeps s below (ts ++ t ∷ []) front k argument (t ∷ [])
    (ap (λ l. l ++ t ∷ []) is ∙ append_assoc front (k ∷ argument) (t ∷ []))
    inside head says (inl (t, refl, e, none))

open_keeps : (stack : List Tree) (ts : List Token) (t : Token) → t.piece ≡ Open → HasBegun stack ts → Inside stack (ts ++ t ∷ [])
open_keeps [] ts t e h = absurd h
open_keeps (s ∷ below) ts t e (front, k, argument, is, inside, head, says, none) =
    let P : Forest → Type 0 = λ f. Spells f [] in
    (front, k, argument, t, [], ap (λ l. l ++ t ∷ []) is ∙ append_assoc front (k ∷ argument) (t ∷ []), inside, head, says, e, subst P (sym none) refl)

argued_keeps : (stack : List Tree) (ts : List Token) (t : Token) (p : Piece) → t.piece ≡ p → HasBegun stack ts → BehindStep (after_argument stack p) (ts ++ t ∷ [])
argued_keeps stack ts t Semicolon e h = mark_keeps stack ts t e h
argued_keeps stack ts t Open e h = open_keeps stack ts t e h
argued_keeps stack ts t Close e h = tt
argued_keeps stack ts t Plus e h = tt
argued_keeps stack ts t (Word b) e h = tt
argued_keeps stack ts t (Blank b) e h = tt
argued_keeps stack ts t (LineComment b) e h = tt
argued_keeps stack ts t (BlockComment b) e h = tt
argued_keeps stack ts t (Single b) e h = tt
argued_keeps stack ts t (Double b) e h = tt

give_keeps : (stack : List Tree) (ts : List Token) (t : Token) (text : List ℕ) → t.piece ≡ Word text → Behind Named stack ts → BehindStep (give_word text stack) (ts ++ t ∷ [])
give_keeps [] ts t text says h = absurd h
give_keeps (s ∷ below) ts t text says (front, k, is, inside, head, none, empty) =
    (front, k, t ∷ [], ap (λ l. l ++ t ∷ []) is ∙ append_assoc front (k ∷ []) (t ∷ []), inside, head, inl (says, refl), empty)

joined_append : (ts : List Token) (a b : List ℕ) (p t : Token) → IsJoined ts a → p.piece ≡ Plus → Says t.front t.piece b → IsJoined (ts ++ p ∷ t ∷ []) (a ++ b)
joined_append [] a b p t j plus says = absurd j
joined_append (k ∷ []) a b p t j plus says = (a, b, refl, j, plus, says)
joined_append (k ∷ q ∷ ts) a b p t (first, others, is, s, plus', rest) plus says =
    (first, others ++ b, ap (λ l. l ++ b) is ∙ append_assoc first others b, s, plus', joined_append ts others b p t rest plus says)

-- the first quoted text
quote_keeps : (stack : List Tree) (ts : List Token) (t : Token) (text : List ℕ) → Says t.front t.piece text → Behind Named stack ts → BehindStep (give_quoted text stack) (ts ++ t ∷ [])
quote_keeps [] ts t text says h = absurd h
quote_keeps (s ∷ below) ts t text says (front, k, is, inside, head, none, empty) =
    (front, k, t ∷ [], ap (λ l. l ++ t ∷ []) is ∙ append_assoc front (k ∷ []) (t ∷ []), inside, head, (text, ap (λ o. Some (extend o text)) none, says), empty)

-- one more
extend_keeps : (stack : List Tree) (ts : List Token) (t : Token) (text : List ℕ) → Says t.front t.piece text → Behind Joined stack ts → BehindStep (give_quoted text stack) (ts ++ t ∷ [])
extend_keeps [] ts t text says h = absurd h
extend_keeps (s ∷ below) ts t text says (front, k, argument, p, is, inside, head, (whole, said_is, chain), plus, empty) = (
  front,
  k,
  argument ++ p ∷ t ∷ [],
  ap (λ l. l ++ t ∷ []) is ∙ append_assoc front (k ∷ (argument ++ p ∷ [])) (t ∷ []) ∙ ap (λ l. front ++ (k ∷ l)) (append_assoc argument (p ∷ []) (t ∷ [])),
  inside,
  head,
  (whole ++ text, ap (λ o. Some (extend o text)) said_is, joined_append argument whole text p t chain plus says),
  empty,
)

plus_keeps : (stack : List Tree) (ts : List Token) (t : Token) → t.piece ≡ Plus → Behind Said stack ts → Behind Joined stack (ts ++ t ∷ [])
plus_keeps [] ts t e h = absurd h
plus_keeps (s ∷ below) ts t e (front, k, argument, is, inside, head, chain, empty) =
    (front, k, argument, t, ap (λ l. l ++ t ∷ []) is ∙ append_assoc front (k ∷ argument) (t ∷ []), inside, head, chain, e, empty)

has_begun : (stack : List Tree) (ts : List Token) → Behind Named stack ts → HasBegun stack ts
has_begun [] ts h = absurd h
has_begun (s ∷ below) ts (front, k, is, inside, head, none, empty) =
    let P : Option (List ℕ) → Type 0 = λ o. IsArgument [] o in
    (front, k, [], is, inside, head, subst P (sym none) tt, empty)

is_argument : (ts : List Token) (text : List ℕ) → IsJoined ts text → IsArgument ts (Some text)
is_argument [] text j = absurd j
is_argument (t ∷ ts) text j = inr j

has_said : (stack : List Tree) (ts : List Token) → Behind Said stack ts → HasBegun stack ts
has_said [] ts h = absurd h
has_said (s ∷ below) ts (front, k, argument, is, inside, head, (text, said_is, chain), empty) =
    let P : Option (List ℕ) → Type 0 = λ o. IsArgument argument o in
    (front, k, argument, is, inside, head, subst P (sym said_is) (is_argument argument text chain), empty)

says_by : (t : Token) (p : Piece) (text : List ℕ) → t.piece ≡ p → Says t.front p text → Says t.front t.piece text
says_by t p text e s = let P : Piece → Type 0 = λ q. Says t.front q text in subst P (sym e) s

named_keeps : (stack : List Tree) (ts : List Token) (t : Token) (p : Piece) → t.piece ≡ p → Behind Named stack ts → BehindStep (after_keyword (column_of t.front) stack p) (ts ++ t ∷ [])
named_keeps stack ts t (Word w) e h = give_keeps stack ts t w e h
named_keeps stack ts t (Single w) e h = quote_keeps stack ts t w (says_by t (Single w) w e refl) h
named_keeps stack ts t (Double w) e h = quote_keeps stack ts t (quoted_value (column_of t.front) w) (says_by t (Double w) (quoted_value (column_of t.front) w) e refl) h
named_keeps stack ts t Semicolon e h = mark_keeps stack ts t e (has_begun stack ts h)
named_keeps stack ts t Open e h = open_keeps stack ts t e (has_begun stack ts h)
named_keeps stack ts t Close e h = tt
named_keeps stack ts t Plus e h = tt
named_keeps stack ts t (Blank b) e h = tt
named_keeps stack ts t (LineComment b) e h = tt
named_keeps stack ts t (BlockComment b) e h = tt

said_keeps : (stack : List Tree) (ts : List Token) (t : Token) (p : Piece) → t.piece ≡ p → Behind Said stack ts → BehindStep (after_quoted stack p) (ts ++ t ∷ [])
said_keeps stack ts t (Word w) e h = tt
said_keeps stack ts t (Single w) e h = tt
said_keeps stack ts t (Double w) e h = tt
said_keeps stack ts t Semicolon e h = mark_keeps stack ts t e (has_said stack ts h)
said_keeps stack ts t Open e h = open_keeps stack ts t e (has_said stack ts h)
said_keeps stack ts t Close e h = tt
said_keeps stack ts t Plus e h = plus_keeps stack ts t e h
said_keeps stack ts t (Blank b) e h = tt
said_keeps stack ts t (LineComment b) e h = tt
said_keeps stack ts t (BlockComment b) e h = tt

joined_keeps : (stack : List Tree) (ts : List Token) (t : Token) (p : Piece) → t.piece ≡ p → Behind Joined stack ts → BehindStep (after_plus (column_of t.front) stack p) (ts ++ t ∷ [])
joined_keeps stack ts t (Word w) e h = tt
joined_keeps stack ts t (Single w) e h = extend_keeps stack ts t w (says_by t (Single w) w e refl) h
joined_keeps stack ts t (Double w) e h = extend_keeps stack ts t (quoted_value (column_of t.front) w) (says_by t (Double w) (quoted_value (column_of t.front) w) e refl) h
joined_keeps stack ts t Semicolon e h = tt
joined_keeps stack ts t Open e h = tt
joined_keeps stack ts t Close e h = tt
joined_keeps stack ts t Plus e h = tt
joined_keeps stack ts t (Blank b) e h = tt
joined_keeps stack ts t (LineComment b) e h = tt
joined_keeps stack ts t (BlockComment b) e h = tt

pub step_keeps : (limit : ℕ) (stack : List Tree) (phase : Phase) (ts : List Token) (t : Token) → Behind phase stack ts → BehindStep (step limit stack phase t) (ts ++ t ∷ [])
step_keeps limit stack Between ts t h = between_keeps limit stack ts t t.piece refl h
step_keeps limit stack Named ts t h = named_keeps stack ts t t.piece refl h
step_keeps limit stack Argued ts t h = argued_keeps stack ts t t.piece refl h
step_keeps limit stack Said ts t h = said_keeps stack ts t t.piece refl h
step_keeps limit stack Joined ts t h = joined_keeps stack ts t t.piece refl h
step_keeps limit stack Done ts t h = tt

pub run_keeps : (limit : ℕ) (s : Step) (ts us : List Token) → BehindStep s ts → BehindStep (run_tokens limit s us) (ts ++ us)
run_keeps limit s ts [] h = let P : List Token → Type 0 = λ l. BehindStep s l in subst P (sym (append_nil ts)) h
run_keeps limit (Next stack phase) ts (u ∷ us) h =
    let P : List Token → Type 0 = λ l. BehindStep (run_tokens limit (step limit stack phase u) us) l in
    subst P (append_assoc ts (u ∷ []) us) (run_keeps limit (step limit stack phase u) (ts ++ u ∷ []) us (step_keeps limit stack phase ts u h))
run_keeps limit Wrong ts (u ∷ us) h = tt
run_keeps limit Deep ts (u ∷ us) h = tt
