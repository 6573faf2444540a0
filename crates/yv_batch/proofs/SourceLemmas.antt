-- The documents of sources, from one source to the next.
use Rattle.std.proofs.Common.{◌≡◌, ◌∙◌, ℕ, ◌||◌, Bool, true, false, List, [], ◌∷◌, ◌++◌, drop, length, take, refl, sym, ap, subst, arith}
use Rattle.std.specs.declared.option.Option.{Option}
use Rattle.std.specs.declared.option.Option.TheVariants.{None, Some}
use Rattle.std.specs.declared.result.Result.TheVariants.{Err, Ok}
use Rattle.std.specs.Option.{option_map, option_to_list}
use Rattle.std.specs.Prelude.{IfSome}
use Rattle.std.proofs.lemmas.List.{append-nil}
use Rattle.yv_batch.specs.AskedDocument.{AskedDocument, asked_of, NoRoom, Read, ReadResult, reading_of, Unread}
use Rattle.yv_batch.specs.FileStore.{StayKnown}
use Rattle.yv_batch.specs.SourceDocuments.{opened_documents, source_documents, sources_documents}
use Rattle.yv_batch.specs.SourceStore.{IsOpen, IsWhole, Opens}
use Rattle.yv_batch.specs.SourcesLeft.{both_left, unopened_left}
use Rattle.yv_batch.specs.InnerSources.{HasSource, IsDone, Steps, is_lost}
use Rattle.yv_batch.specs.InnerSupply.{IsSame}
use Rattle.yv_batch.specs.Supply.{IsLost, Takes}
use Rattle.yv_batch.specs.declared.documents.Fetched.{Fetched}
use Rattle.yv_batch.specs.declared.sources.SourceKind.{SourceKind}
use Rattle.yv_batch.specs.declared.sources.SourceKind.TheVariants as is
use Rattle.yv_base_streams.specs.declared.stream.InputFault.{InputFault}
use Rattle.yv_base_streams.specs.declared.stream.InputFault.TheVariants as fault

-- a step within the source that is open
pub part_steps : (kind : SourceKind) (lost : Bool) (contents : Option (List ℕ → Option (List ℕ))) (names : List (List ℕ)) (old new : Option (List ℕ → ReadResult)) (a b : Option (List AskedDocument)) (name : List ℕ) (o : Option Fetched)
    → StayKnown old new o → Takes a b (option_map (asked_of name) o) → Steps (both_left a (unopened_left kind lost contents old names)) (both_left b (unopened_left kind lost contents new names)) b name o
part_steps kind lost contents names old new None b name None stay t = tt
part_steps kind lost contents names old new (Some xs) None name None stay t = absurd t
part_steps kind true contents names old new (Some xs) (Some ys) name None stay t = tt
part_steps kind false None names old new (Some xs) (Some ys) name None stay t = tt
part_steps kind false (Some c) names None new (Some xs) (Some ys) name None stay t = tt
part_steps kind false (Some c) names (Some f) None (Some xs) (Some ys) name None stay t = absurd stay
part_steps kind false (Some c) names (Some f) (Some g) (Some xs) (Some ys) name None stay t =
    (ap (λ (l : List AskedDocument). l ++ sources_documents kind c f names) (t.0 ∙ sym t.1) ∙ ap (λ (h : List ℕ → ReadResult). ys ++ sources_documents kind c h names) (sym stay), t.1)
part_steps kind lost contents names old new None b name (Some d) stay t = tt
part_steps kind true contents names old new (Some xs) b name (Some d) stay t = tt
part_steps kind false None names old new (Some xs) b name (Some d) stay t = tt
part_steps kind false (Some c) names None new (Some xs) b name (Some d) stay t = tt
part_steps kind false (Some c) names (Some f) new (Some xs) None name (Some d) stay t = t
part_steps kind false (Some c) names (Some f) None (Some xs) (Some ys) name (Some d) stay t = stay
part_steps kind false (Some c) names (Some f) (Some g) (Some xs) (Some ys) name (Some d) stay t =
    ap (λ (l : List AskedDocument). l ++ sources_documents kind c f names) t ∙ ap (λ (h : List ℕ → ReadResult). asked_of name d ∷ (ys ++ sources_documents kind c h names)) (sym stay)

-- a step after others that fetched nothing
pub steps_after : (a b c here : Option (List AskedDocument)) (name : List ℕ) (o : Option Fetched) → IsSame a b → Steps b c here name o → Steps a c here name o
steps_after None b c here name None p q = tt
steps_after None b c here name (Some d) p q = tt
steps_after (Some xs) None c here name o p q = absurd p
steps_after (Some xs) (Some ys) c here name None p q = subst (λ (l : List AskedDocument). Steps (Some l) c here name None) (sym p) q
steps_after (Some xs) (Some ys) c here name (Some d) p q = subst (λ (l : List AskedDocument). Steps (Some l) c here name (Some d)) (sym p) q

-- ---- a source is opened

first_of_source : (kind : SourceKind) (f : List ℕ → ReadResult) (name : List ℕ) (rest : List AskedDocument) (left : Option (List ℕ)) (xs : List AskedDocument) (b : Option (List AskedDocument)) (source : Option (List ℕ)) → xs ≡ [] → IsOpen source left
    → ((bytes : List ℕ) → left ≡ Some bytes → b ≡ Some (opened_documents kind f name bytes)) → IsSame (Some (xs ++ (source_documents kind f name source ++ rest))) (both_left b (Some rest))
first_of_source kind f name rest left xs b None done has_bytes opens = absurd has_bytes
first_of_source kind f name rest left xs b (Some bytes) done has_bytes opens =
    subst (λ (o : Option (List AskedDocument)). IsSame (Some (xs ++ (opened_documents kind f name bytes ++ rest))) (both_left o (Some rest))) (sym (opens bytes has_bytes))
    (ap (λ (l : List AskedDocument). l ++ (opened_documents kind f name bytes ++ rest)) done)

-- before its first document
pub begun : (kind : SourceKind) (lost : Bool) (contents : Option (List ℕ → Option (List ℕ))) (files : Option (List ℕ → ReadResult)) (name : List ℕ) (names : List (List ℕ)) (left : Option (List ℕ)) (a b : Option (List AskedDocument)) → IsDone a
    → HasSource contents name left → ((f : List ℕ → ReadResult) (xs : List ℕ) → files ≡ Some f → left ≡ Some xs → b ≡ Some (opened_documents kind f name xs))
    → IsSame (both_left a (unopened_left kind lost contents files (name ∷ names))) (both_left b (unopened_left kind lost contents files names))
begun kind lost contents files name names left None b done has opens = tt
begun kind true contents files name names left (Some xs) b done has opens = tt
begun kind false None files name names left (Some xs) b done has opens = tt
begun kind false (Some c) None name names left (Some xs) b done has opens = tt
begun kind false (Some c) (Some f) name names left (Some xs) b done has opens =
    first_of_source kind f name (sources_documents kind c f names) left xs b (c name) done has (λ bytes h. opens f bytes refl h)

-- it can't be opened
pub not_opened : {R : Type 0} (remaining : R → Option (List ℕ)) (kind : SourceKind) (lost : Bool) (contents new : Option (List ℕ → Option (List ℕ))) (files : Option (List ℕ → ReadResult)) (name : List ℕ) (names : List (List ℕ)) (a : Option (List AskedDocument)) (e : InputFault) (d : Fetched)
    → IsDone a → Opens remaining contents new name (Err e) → IsLost (reading_of d.content) → (e ≡ fault.Read → reading_of d.content ≡ Unread) → d.line ≡ None
    → Takes (both_left a (unopened_left kind lost contents files (name ∷ names))) (both_left (Some []) (unopened_left kind lost new files names)) (Some (asked_of name d))
not_opened remaining kind lost contents new files name names None e d done opens is_lost_one unread line = tt
not_opened remaining kind true contents new files name names (Some xs) e d done opens is_lost_one unread line = tt
not_opened remaining kind false None new files name names (Some xs) e d done opens is_lost_one unread line = tt
not_opened remaining kind false (Some c) new None name names (Some xs) e d done opens is_lost_one unread line = tt
not_opened remaining kind false (Some c) None (Some f) name names (Some xs) e d done opens is_lost_one unread line = is_lost_one
not_opened remaining kind false (Some c) (Some g) (Some f) name names (Some xs) e d done opens is_lost_one unread line =
    let rest : List AskedDocument = sources_documents kind c f names in
    ap (λ (l : List AskedDocument). l ++ (source_documents kind f name (c name) ++ rest)) done
    ∙ ap (λ (o : Option (List ℕ)). source_documents kind f name o ++ rest) opens.1
    ∙ ap (λ (l : Option ℕ). record { name = name; line = l; fetched = Unread } ∷ rest) (sym line)
    ∙ ap (λ (r : ReadResult). record { name = name; line = d.line; fetched = r } ∷ rest) (sym (unread opens.2))
    ∙ ap (λ (h : List ℕ → Option (List ℕ)). asked_of name d ∷ sources_documents kind h f names) (sym opens.0)

-- it is one document
whole : (f : List ℕ → ReadResult) (name : List ℕ) (rest xs : List AskedDocument) (left : Option (List ℕ)) (source : Option (List ℕ)) (given : List ℕ) (d : Fetched) → xs ≡ [] → IsOpen source left → IsWhole left (Read given) → reading_of d.content ≡ Read given → d.line ≡ None
    → xs ++ (source_documents is.Document f name source ++ rest) ≡ asked_of name d ∷ rest
whole f name rest xs left None given d done has_bytes got same line = absurd has_bytes
whole f name rest xs left (Some bytes) given d done has_bytes got same line =
    let first : given ≡ take 16777217 bytes = subst (λ (o : Option (List ℕ)). IsWhole o (Read given)) has_bytes got in
    ap (λ (l : List AskedDocument). l ++ (record { name = name; line = None; fetched = Read (take 16777217 bytes) } ∷ rest)) done
    ∙ ap (λ (l : Option ℕ). record { name = name; line = l; fetched = Read (take 16777217 bytes) } ∷ rest) (sym line)
    ∙ ap (λ (r : ReadResult). record { name = name; line = d.line; fetched = r } ∷ rest) (ap Read (sym first) ∙ sym same)

lost_whole : (kind : SourceKind) (lost : Bool) (contents : Option (List ℕ → Option (List ℕ))) (files : Option (List ℕ → ReadResult)) (names rest : List (List ℕ)) (a : Option (List AskedDocument)) (name : List ℕ) (d : Fetched) → IsLost (reading_of d.content)
    → Takes (both_left a (unopened_left kind lost contents files names)) (both_left (Some []) (unopened_left kind (lost || true) contents files rest)) (Some (asked_of name d))
lost_whole kind lost contents files names rest None name d h = tt
lost_whole kind true contents files names rest (Some xs) name d h = tt
lost_whole kind false None files names rest (Some xs) name d h = tt
lost_whole kind false (Some c) None names rest (Some xs) name d h = tt
lost_whole kind false (Some c) (Some f) names rest (Some xs) name d h = h

read_as : (lost : Bool) (contents : Option (List ℕ → Option (List ℕ))) (files : Option (List ℕ → ReadResult)) (name : List ℕ) (names : List (List ℕ)) (left : Option (List ℕ)) (a : Option (List AskedDocument)) (d : Fetched) (r : ReadResult)
    → IsDone a → HasSource contents name left → IsWhole left r → reading_of d.content ≡ r → d.line ≡ None
    → Takes (both_left a (unopened_left is.Document lost contents files (name ∷ names))) (both_left (Some []) (unopened_left is.Document (lost || is_lost r) contents files names)) (Some (asked_of name d))
read_as lost contents files name names left a d Unread done has got same line = lost_whole is.Document lost contents files (name ∷ names) names a name d (subst IsLost (sym same) tt)
read_as lost contents files name names left a d NoRoom done has got same line = lost_whole is.Document lost contents files (name ∷ names) names a name d (subst IsLost (sym same) tt)
read_as lost contents files name names left None d (Read given) done has got same line = tt
read_as true contents files name names left (Some xs) d (Read given) done has got same line = tt
read_as false None files name names left (Some xs) d (Read given) done has got same line = tt
read_as false (Some c) None name names left (Some xs) d (Read given) done has got same line = tt
read_as false (Some c) (Some f) name names left (Some xs) d (Read given) done has got same line =
    whole f name (sources_documents is.Document c f names) xs left (c name) given d done has got same line

pub read_first : (lost : Bool) (contents : Option (List ℕ → Option (List ℕ))) (files : Option (List ℕ → ReadResult)) (name : List ℕ) (names : List (List ℕ)) (left : Option (List ℕ)) (a : Option (List AskedDocument)) (d : Fetched)
    → IsDone a → HasSource contents name left → IsWhole left (reading_of d.content) → d.line ≡ None
    → Takes (both_left a (unopened_left is.Document lost contents files (name ∷ names))) (both_left (Some []) (unopened_left is.Document (lost || is_lost (reading_of d.content)) contents files names)) (Some (asked_of name d))
read_first lost contents files name names left a d done has got line = read_as lost contents files name names left a d (reading_of d.content) done has got refl line

-- ---- the bytes of a source

pub whole_read : (left : Option (List ℕ)) (given : List ℕ) → IfSome left (λ xs. given ≡ take 16777217 xs) → IsWhole left (Read given)
whole_read None given h = tt
whole_read (Some xs) given h = h

pub whole_lost : (left : Option (List ℕ)) (r : ReadResult) → IsLost r → IsWhole left r
whole_lost None r h = tt
whole_lost (Some xs) (Read given) h = absurd h
whole_lost (Some xs) Unread h = tt
whole_lost (Some xs) NoRoom h = tt

-- ---- where nothing is known

nothing_known : (c here : Option (List AskedDocument)) (name : List ℕ) (o : Option Fetched) → Steps None c here name o
nothing_known c here name None = tt
nothing_known c here name (Some d) = tt

no_contents : (kind : SourceKind) (lost : Bool) (files : Option (List ℕ → ReadResult)) (names : List (List ℕ)) (a c here : Option (List AskedDocument)) (name : List ℕ) (o : Option Fetched) → Steps (both_left a (unopened_left kind lost None files names)) c here name o
no_contents kind lost files names None c here name o = nothing_known c here name o
no_contents kind true files names (Some xs) c here name o = nothing_known c here name o
no_contents kind false files names (Some xs) c here name o = nothing_known c here name o

-- it can be opened
pub opened : {R : Type 0} (remaining : R → Option (List ℕ)) (kind : SourceKind) (lost : Bool) (contents others : Option (List ℕ → Option (List ℕ))) (files : Option (List ℕ → ReadResult)) (source : List ℕ) (names : List (List ℕ)) (reader : R) (a new here : Option (List AskedDocument)) (name : List ℕ) (o : Option Fetched)
    → Opens remaining contents others source (Ok reader) → (HasSource others source (remaining reader) → Steps (both_left a (unopened_left kind lost others files names)) new here name o) → Steps (both_left a (unopened_left kind lost contents files names)) new here name o
opened remaining kind lost None others files source names reader a new here name o opens steps = no_contents kind lost files names a new here name o
opened remaining kind lost (Some c) None files source names reader a new here name o opens steps = absurd opens
opened remaining kind lost (Some c) (Some d) files source names reader a new here name o opens steps =
    subst (λ (k : List ℕ → Option (List ℕ)). Steps (both_left a (unopened_left kind lost (Some k) files names)) new here name o) opens.0
    (steps (subst (λ (k : List ℕ → Option (List ℕ)). IsOpen (k source) (remaining reader)) (sym opens.0) opens.1))

-- ---- from source to source

-- after sources that have no documents
pub next_source : (start old before new was here : Option (List AskedDocument)) (none name : List ℕ) (o : Option Fetched) → Steps start old was none None → old ≡ before → (IsDone was → Steps before new here name o) → Steps start new here name o
next_source None old before new was here none name o h same steps = nothing_known new here name o
next_source (Some xs) old before new was here none name o h same steps =
    steps_after (Some xs) before new here name o (subst (λ (l : Option (List AskedDocument)). IsSame (Some xs) l) same h.0) (steps h.1)

-- none are left
pub sources_ended : (kind : SourceKind) (lost : Bool) (contents : Option (List ℕ → Option (List ℕ))) (files : Option (List ℕ → ReadResult)) (start here : Option (List AskedDocument)) (name : List ℕ)
    → Steps start (both_left here (unopened_left kind lost contents files [])) here name None → Takes start (both_left here (unopened_left kind lost contents files [])) None
sources_ended kind lost contents files None here name h = tt
sources_ended kind lost contents files (Some xs) None name h = absurd h.0
sources_ended kind true contents files (Some xs) (Some ys) name h = absurd h.0
sources_ended kind false None files (Some xs) (Some ys) name h = absurd h.0
sources_ended kind false (Some c) None (Some xs) (Some ys) name h = absurd h.0
sources_ended kind false (Some c) (Some f) (Some xs) (Some ys) name h =
    let none : ys ++ [] ≡ [] = append-nil ys ∙ h.1 in (h.0 ∙ none, none)

pub steps_none : (a c here : Option (List AskedDocument)) (name none : List ℕ) (o : Option Fetched) → Steps a c here name o → o ≡ None → Steps a c here none None
steps_none None c here name none o h e = tt
steps_none (Some xs) c here name none None h e = h
steps_none (Some xs) c here name none (Some d) h e = absurd (cc e)

pub steps_some : (a c here : Option (List AskedDocument)) (name : List ℕ) (o : Option Fetched) (d : Fetched) → Steps a c here name o → o ≡ Some d → Takes a c (Some (asked_of name d))
steps_some a c here name o d h e = subst (Steps a c here name) e h

not_its_rest : {X : Type 0} (xs : List X) → xs ≡ drop 1 xs → xs ≡ []
not_its_rest [] e = refl
not_its_rest (x ∷ xs) e = let same : length (x ∷ xs) ≡ length xs = ap length e in absurd (omega (arith, same))

none_of : {X : Type 0} (o : Option X) → ((x : X) → o ≡ Some x → ⊥) → o ≡ None
none_of None h = refl
none_of (Some x) h = absurd (h x refl)

-- no name is left
pub none_popped : {X : Type 0} (old new : List X) (o : Option X) → ((x : X) → o ≡ Some x → ⊥) → old ≡ option_to_list o ++ new → new ≡ drop 1 old → (old ≡ []) × (new ≡ [])
none_popped {X} old new o h items rest =
    let same : old ≡ new = items ∙ ap (λ (p : Option X). option_to_list p ++ new) (none_of o h) in
    let none : old ≡ [] = not_its_rest old (same ∙ rest) in
    (none, sym same ∙ none)

pub names_ended_of : (kind : SourceKind) (lost : Bool) (contents : Option (List ℕ → Option (List ℕ))) (files : Option (List ℕ → ReadResult)) (start here : Option (List AskedDocument)) (name : List ℕ) (old new : List (List ℕ)) → old ≡ [] → new ≡ []
    → Steps start (both_left here (unopened_left kind lost contents files old)) here name None → Takes start (both_left here (unopened_left kind lost contents files new)) None
names_ended_of kind lost contents files start here name old new e f h =
    subst (λ (l : List (List ℕ)). Takes start (both_left here (unopened_left kind lost contents files l)) None) (sym f)
    (sources_ended kind lost contents files start here name (subst (λ (l : List (List ℕ)). Steps start (both_left here (unopened_left kind lost contents files l)) here name None) e h))
