-- Statements stand in the order of their offsets.
use Rattle.std.proofs.Common.{◌≡◌, ℕ, ◌+◌, ◌≤◌, List, [], ◌∷◌, ◌++◌, length, sym, ap, subst, inl, inr, arith, length-append, Result, Ok, Err}
use Rattle.std.specs.Prelude.{IfOk}
use Rattle.yv_text_statement.specs.Tree.{Forest, End, Then, Tree}
use Rattle.yv_source.specs.Pieces.{Piece, Blank, LineComment, BlockComment, Word, Single, Double, Semicolon, Open, Close, Plus, slice, Before, Apart, past, Cuts, Token, token, tokens}
use Rattle.yv_source.specs.Grammar.{Spells}
use Rattle.yv_source.specs.Outcome.{ComesTo, Statement}
use Rattle.yv_text_statement.specs.Offsets.{offsets, Ascends, IsInOrder}
use Rattle.yv_source.specs.Inner.End.{Comes}
use Rattle.yv_text_statement.specs.declared.refusal.Stop.{Stop}
use Rattle.yv_source.proofs.Loop.{not_empty}

-- tokens in order, from a place to another
abbrev Between : ℕ → List Token → ℕ → Type 0
Between low [] high = low ≤ high
Between low (t ∷ ts) high = (low ≤ length t.front) × Between (length t.front + 1) ts high

split : (low high : ℕ) (a b : List Token) → Between low (a ++ b) high → (mid : ℕ) × Between low a mid × Between mid b high
split low high [] b h = (low, omega arith, h)
split low high (t ∷ a) b (h, k) = let r = split (length t.front + 1) high a b k in (r.0, (h, r.1), r.2)

wider : (low less high : ℕ) (ts : List Token) → less ≤ low → Between low ts high → Between less ts high
wider low less high [] l h = omega (arith, l, h)
wider low less high (t ∷ ts) l (h, k) = (omega (arith, l, h), k)

ends_above : (low high : ℕ) (ts : List Token) → Between low ts high → low ≤ high
ends_above low high [] h = h
ends_above low high (t ∷ ts) (h, k) = let r = ends_above (length t.front + 1) high ts k in omega (arith, h, r)

-- offsets in order, from a place to another
abbrev Rises : ℕ → List ℕ → ℕ → Type 0
Rises low [] high = low ≤ high
Rises low (n ∷ ns) high = (low ≤ n) × Rises (n + 1) ns high

rises_wider : (low less high : ℕ) (ns : List ℕ) → less ≤ low → Rises low ns high → Rises less ns high
rises_wider low less high [] l h = omega (arith, l, h)
rises_wider low less high (n ∷ ns) l (h, k) = (omega (arith, l, h), k)

rises_append : (low mid high : ℕ) (ns ms : List ℕ) → Rises low ns mid → Rises mid ms high → Rises low (ns ++ ms) high
rises_append low mid high [] ms h k = rises_wider mid low high ms h k
rises_append low mid high (n ∷ ns) ms (h, r) k = (h, rises_append (n + 1) mid high ns ms r k)

ascends : (low high : ℕ) (ns : List ℕ) → Rises low ns high → Ascends low ns
ascends low high [] h = tt
ascends low high (n ∷ ns) (h, k) = (h, ascends (n + 1) high ns k)

rises_low : (low less mid high : ℕ) (ns : List ℕ) → less ≤ low → mid ≤ high → Rises low ns mid → Rises less ns high
rises_low low less mid high [] l m h = omega (arith, l, m, h)
rises_low low less mid high (n ∷ ns) l m (h, k) = (omega (arith, l, h), rises_low (n + 1) (n + 1) mid high ns (omega arith) m k)

token_before : (front : List ℕ) (p : Piece) (high : ℕ) (ts : List Token) → Between (length front + 1) ts high → Between (length front) (token front p ++ ts) high
token_before front (Blank b) high ts h = wider (length front + 1) (length front) high ts (omega arith) h
token_before front (LineComment b) high ts h = wider (length front + 1) (length front) high ts (omega arith) h
token_before front (BlockComment b) high ts h = wider (length front + 1) (length front) high ts (omega arith) h
token_before front (Word b) high ts h = (omega arith, h)
token_before front (Single b) high ts h = (omega arith, h)
token_before front (Double b) high ts h = (omega arith, h)
token_before front Semicolon high ts h = (omega arith, h)
token_before front Open high ts h = (omega arith, h)
token_before front Close high ts h = (omega arith, h)
token_before front Plus high ts h = (omega arith, h)

rises : (f : Forest) (low high : ℕ) (ts : List Token) → Spells f ts → Between low ts high → Rises low (offsets f) high
rises End low high ts s h = let P : List Token → Type 0 = λ l. Between low l high in subst P s h
rises (Then x c o) low high ts (k, argument, body, others, is, head, says, inl (t, body_is, mark, none), rest) h =
    let P : List Token → Type 0 = λ l. Between low l high in
    let b = subst P is h in
    let a = split (length k.front + 1) high argument (body ++ others) b.1 in
    let y = split a.0 high body others a.2 in
    let l1 = ends_above (length k.front + 1) a.0 argument a.1 in
    let l2 = ends_above a.0 y.0 body y.1 in
    let off = head.3 in
    let C : Forest → Type 0 = λ f. Rises a.0 (offsets f) y.0 in
    let inside : Rises a.0 (offsets c) y.0 = subst C (sym none) l2 in
    let all = rises_append a.0 y.0 high (offsets c) (offsets o) inside (rises o y.0 high others rest y.2) in
    (omega (arith, b.0, off), rises_wider a.0 (x.offset + 1) high (offsets c ++ offsets o) (omega (arith, l1, off)) all)
rises (Then x c o) low high ts (k, argument, body, others, is, head, says, inr (t, inner, u, body_is, opens, closes, spells), rest) h =
    let P : List Token → Type 0 = λ l. Between low l high in
    let b = subst P is h in
    let a = split (length k.front + 1) high argument (body ++ others) b.1 in
    let y = split a.0 high body others a.2 in
    let l1 = ends_above (length k.front + 1) a.0 argument a.1 in
    let off = head.3 in
    let Q : List Token → Type 0 = λ l. Between a.0 l y.0 in
    let w = subst Q body_is y.1 in
    let v = split (length t.front + 1) y.0 inner (u ∷ []) w.1 in
    let in_order = rises c (length t.front + 1) v.0 inner spells v.1 in
    let last = ends_above v.0 y.0 (u ∷ []) v.2 in
    let inside : Rises a.0 (offsets c) y.0 =
    rises_low (length t.front + 1) a.0 v.0 y.0 (offsets c) (omega (arith, w.0)) last in_order
    in
    let all = rises_append a.0 y.0 high (offsets c) (offsets o) inside (rises o y.0 high others rest y.2) in
    (omega (arith, b.0, off), rises_wider a.0 (x.offset + 1) high (offsets c ++ offsets o) (omega (arith, l1, off)) all)

-- the tokens of pieces stand in order
between_pieces : (b : Before) (front text rest : List ℕ) (ps : List Piece) → Cuts b text ps rest → Between (length front) (tokens front ps) (length front + length text)
between_pieces b front text rest [] cut = omega arith
between_pieces b front text rest (p ∷ ps) (more, is, may, others) =
    let l = ap length is in
    let l2 = length-append (slice p) more in
    let l3 = length-append front (slice p) in
    let n = not_empty b p more may in
    let r = between_pieces (past b p) (front ++ slice p) more rest ps others in
    let e : length (front ++ slice p) + length more ≡ length front + length text = omega (arith, l, l2, l3) in
    let P : ℕ → Type 0 = λ x. Between (length (front ++ slice p)) (tokens (front ++ slice p) ps) x in
    let s : Between (length (front ++ slice p)) (tokens (front ++ slice p) ps) (length front + length text) = subst P e r in
    token_before front p (length front + length text) (tokens (front ++ slice p) ps) (wider (length (front ++ slice p)) (length front + 1) (length front + length text) (tokens (front ++ slice p) ps) (omega (arith, l3, n)) s)

pub in_order : (front text : List ℕ) (t : Tree) → ComesTo front text (Statement t) → IsInOrder t
in_order front text t c =
    let b = between_pieces Apart front text c.rest c.pieces c.cut in
    let r = rises (Then t.head t.children End) (length front) (length front + length text) (tokens front c.pieces) c.why.1 b in
    ascends 0 (length front + length text) (offsets (Then t.head t.children End))
    (rises_wider (length front) 0 (length front + length text) (offsets (Then t.head t.children End)) (omega arith) r)

-- what was answered stands in order
pub answered_in_order : (text : List ℕ) (answer : Result Tree Stop) → Comes text answer → IfOk answer IsInOrder
answered_in_order text (Ok t) c = in_order _ _ t c
answered_in_order text (Err e) c = tt
