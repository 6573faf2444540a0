-- Files are gathered, step by step.
use Rattle.std.proofs.Common.{◌≡◌, ◌<◌, ◌≤◌, ◌+◌, ◌∙◌, ℕ, zero, suc, List, [], ◌∷◌, ◌++◌, refl, sym, ap, subst, map, take, length, get_or, arith, Option, Some, None}
use Rattle.std.specs.List.{slice_get}
use Rattle.std.proofs.lemmas.List.{map-append, length-map}
use Rattle.std.proofs.lemmas.List.Elements.{All-append}
use Rattle.yv_base_streams.specs.Files.{File}
use Rattle.yv_search.specs.Listing.{ListedFile, found_name}
use Rattle.yv_search.specs.Wants.{Want}
use Rattle.yv_search.specs.Choice.{Candidate}
use Rattle.yv_search.specs.Roots.{HasRoot}
use Rattle.yv_search.specs.Search.{RootedFile, State, Shelf, Gives, Asks, Steps, passed, found, none_yet, onward, seek, with_file}
use Rattle.yv_search.specs.FoundFiles.{IsStart, AreGathered, IsMissing, AreTooMany, AsksFor, file_in, most_files}
use Rattle.yv_search.specs.InnerSearch.{IsAt, Passes, at_start, past, Finds, next_file, no_more}
use Rattle.yv_search.specs.InnerGather.{Takes, Begins, Underway}
use Rattle.yv_search.specs.declared.search.Search.{Search}
use Rattle.yv_search.proofs.ListSteps.{take_next}

one : {X : Type 0} (P : X → Type 0) (x : X) → P x → (k : ℕ) (d : X) → k < length (x ∷ []) → P (get_or (x ∷ []) k d)
one P x p zero d h = p
one P x p (suc k) d h = absurd (omega arith)

-- one more named file
pub begins_more : (listing : List ListedFile) (named : List File) (i : ℕ) (f : File) (bytes : List ℕ) (old new : Search) → Begins listing (take i named) old → bytes ≡ f.bytes → slice_get named i ≡ Some f
    → ((s : State) (name : List ℕ) → IsAt listing old s → Takes listing s (record { name = name; bytes = bytes }) new) → Begins listing (take (i + 1) named) new
begins_more listing named i f bytes old new b e at takes =
    let t : Takes listing b.start f new = subst (λ (bs : List ℕ). Takes listing b.start (record { name = f.name; bytes = bs }) new) e (takes b.start f.name b.at) in
    let r : RootedFile = record { file = f; root = t.root } in
    record {
      start = with_file b.start r;
      begins = record {
        files = map-append file_in b.start.files (r ∷ []) ∙ ap (λ l. l ++ f ∷ []) b.begins.files ∙ sym (take_next named i f at);
        roots = All-append (λ (x : RootedFile). HasRoot x.file.bytes x.root) b.start.files (r ∷ []) b.begins.roots (one (λ (x : RootedFile). HasRoot x.file.bytes x.root) r t.has);
        sought = b.begins.sought;
      };
      at = t.at;
    }

-- no named file yet
pub begins_none : (listing : List ListedFile) (search : Search) → IsAt listing search (record { files = []; sought = [] }) → Begins listing [] search
begins_none listing search at = record { start = record { files = []; sought = [] }; begins = record { files = refl; roots = λ k d h. absurd (omega arith); sought = refl }; at = at }

-- wants without files are steps of the search
steps_pass : (listing : List ListedFile) (shelf : Shelf) (start s t : State) → Steps listing shelf start s → Passes listing s t → Steps listing shelf start t
steps_pass listing shelf start s t steps passes = by t passes
  where
    by : (u : State) → Passes listing s u → Steps listing shelf start u
    by _ at_start = steps
    by _ (past u w p n c) = onward u (seek u w.name) (by u p) (passed u w n c)

-- they leave the files as they are
passes_files : (listing : List ListedFile) (s t : State) → Passes listing s t → t.files ≡ s.files
passes_files listing s t passes = by t passes
  where
    by : (u : State) → Passes listing s u → u.files ≡ s.files
    by _ at_start = refl
    by _ (past u w p n c) = by u p

-- a file that is asked for after some steps
record Asked (listing : List ListedFile) (shelf : Shelf) (named files : List File) (new : Search) (f : ListedFile) : Type 0 where
  pub start : State
  pub state : State
  pub want : Want
  pub candidate : Candidate
  pub begins : IsStart named start
  pub steps : Steps listing shelf start state
  pub asks : Asks listing state want candidate
  pub is : candidate.file ≡ f
  pub at : IsAt listing new (seek state want.name)
  pub files_are : files ≡ map file_in state.files

asked : (listing : List ListedFile) (shelf now : Shelf) (named files : List File) (old new : Search) (f : ListedFile) → Underway listing shelf now named files old
    → ((s : State) → IsAt listing old s → Finds listing s new (Some f)) → Asked listing shelf named files new f
asked listing shelf now named files old new f way finds = by (Some f) (finds way.state way.at) refl
  where
    by : (o : Option ListedFile) → Finds listing way.state new o → o ≡ Some f → Asked listing shelf named files new f
    by _ (next_file s w c passes asks at) e = record {
      start = way.start;
      state = s;
      want = w;
      candidate = c;
      begins = way.begins;
      steps = steps_pass listing shelf way.start way.state s way.steps passes;
      asks = asks;
      is = cc;
      at = at;
      files_are = way.files_are ∙ ap (map file_in) (sym (passes_files listing way.state s passes));
    }
    by _ (no_more s passes n) e = absurd (cc)

-- nothing more is asked for
pub gathered : (listing : List ListedFile) (shelf now : Shelf) (named files : List File) (old new : Search) → Underway listing shelf now named files old
    → ((s : State) → IsAt listing old s → Finds listing s new None) → AreGathered listing shelf named files
gathered listing shelf now named files old new way finds = by None (finds way.state way.at) refl
  where
    by : (o : Option ListedFile) → Finds listing way.state new o → o ≡ None → AreGathered listing shelf named files
    by _ (next_file s w c passes asks at) e = absurd (cc)
    by _ (no_more s passes n) e = record {
      end = s;
      reached = record { start = way.start; begins = way.begins; steps = steps_pass listing shelf way.start way.state s way.steps passes };
      done = n;
      files_are = way.files_are ∙ ap (map file_in) (sym (passes_files listing way.state s passes));
    }

asks_for : (listing : List ListedFile) (shelf : Shelf) (named files : List File) (new : Search) (f : ListedFile) (a : Asked listing shelf named files new f) → AsksFor listing shelf named a.state a.candidate
asks_for listing shelf named files new f a = record { reached = record { start = a.start; begins = a.begins; steps = a.steps }; want = a.want; asks = a.asks }

-- a file is asked for, and there are as many as there may be
pub too_many : (listing : List ListedFile) (shelf now : Shelf) (named files : List File) (old new : Search) (f : ListedFile) → Underway listing shelf now named files old
    → ((s : State) → IsAt listing old s → Finds listing s new (Some f)) → most_files ≤ length files → AreTooMany listing shelf named
too_many listing shelf now named files old new f way finds full =
    let a : Asked listing shelf named files new f = asked listing shelf now named files old new f way finds in
    record { state = a.state; candidate = a.candidate; asks = asks_for listing shelf named files new f a; full = omega (arith, full, ap length a.files_are, length-map a.state.files file_in) }

-- a file is asked for that the shelf doesn't have
pub missing : (listing : List ListedFile) (shelf now : Shelf) (named files : List File) (old new : Search) (f : ListedFile) (name : List ℕ) → Underway listing shelf now named files old
    → ((s : State) → IsAt listing old s → Finds listing s new (Some f)) → name ≡ found_name f → Gives now name None → IsMissing listing shelf named name
missing listing shelf now named files old new f name way finds is gives =
    let a : Asked listing shelf named files new f = asked listing shelf now named files old new f way finds in
    record { state = a.state; candidate = a.candidate; asks = asks_for listing shelf named files new f a; name_is = is ∙ ap found_name (sym a.is); lacks = subst (λ (s : Shelf). Gives s name None) way.same gives }

-- a file that is asked for is read
pub way_on : (listing : List ListedFile) (shelf now later : Shelf) (named files more : List File) (old mid new : Search) (f : ListedFile) (file : File) → Underway listing shelf now named files old
    → ((s : State) → IsAt listing old s → Finds listing s mid (Some f)) → file.name ≡ found_name f → Gives now file.name (Some file.bytes) → later ≡ now
    → ((s : State) → IsAt listing mid s → Takes listing s file new) → more ≡ files ++ file ∷ [] → Underway listing shelf later named more new
way_on listing shelf now later named files more old mid new f file way finds is gives same takes grows =
    let a : Asked listing shelf named files mid f = asked listing shelf now named files old mid f way finds in
    let t : Takes listing (seek a.state a.want.name) file new = takes (seek a.state a.want.name) a.at in
    let r : RootedFile = record { file = file; root = t.root } in
    record {
      start = a.start;
      state = with_file (seek a.state a.want.name) r;
      begins = a.begins;
      steps = onward a.state (with_file (seek a.state a.want.name) r) a.steps (found a.state a.want a.candidate r a.asks (is ∙ ap found_name (sym a.is)) (subst (λ (s : Shelf). Gives s file.name (Some file.bytes)) way.same gives) t.has);
      at = t.at;
      files_are = grows ∙ ap (λ l. l ++ file ∷ []) a.files_are ∙ sym (map-append file_in a.state.files (r ∷ []));
      same = same ∙ way.same;
    }

-- the named files were read
pub underway : (listing : List ListedFile) (shelf : Shelf) (named read : List File) (search : Search) → read ≡ named → Begins listing read search → Underway listing shelf shelf named named search
underway listing shelf named read search e b =
    record {
      start = b.start;
      state = b.start;
      begins = subst (λ (fs : List File). IsStart fs b.start) e b.begins;
      steps = none_yet;
      at = b.at;
      files_are = sym (b.begins.files ∙ e);
      same = refl;
    }
