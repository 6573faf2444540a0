-- Only private clauses cite this: how far the search of the code has come.
use Rattle.std.specs.Prelude.{◌≡◌, ◌≤◌, ◌||◌, ℕ, Bool, true, false, List, map, take, length, Option, None, Some}
use Rattle.std.specs.List.{list_all}
use Rattle.std.specs.Option.{option_map}
use Rattle.std.specs.Str.{bytes_eq}
use Rattle.std.specs.BTreeSet.{contains_text}
use Rattle.yv_search.specs.Listing.{ListedFile}
use Rattle.yv_search.specs.Wants.{Want}
use Rattle.yv_search.specs.Choice.{Candidate, choice_of}
use Rattle.yv_search.specs.Search.{State, Asks, next, seek, all_wants, is_settled}
use Rattle.yv_search.specs.InnerWants.{want}
use Rattle.yv_search.specs.InnerIndex.{group_of, all_named}
use Rattle.yv_search.specs.declared.search.Search.{Search}

-- the search of the code has come as far as a state, and the names of the first wants are settled
pub record IsAt (listing : List ListedFile) (search : Search) (s : State) : Type 0 where
  pub index : (q : List ℕ) → group_of search.index q ≡ all_named q listing
  pub wants : map want search.wants.items ≡ all_wants s.files
  pub settled : (q : List ℕ) → contains_text search.settled q ≡ is_settled s q
  pub within : search.cursor ≤ length (all_wants s.files)
  pub passed : list_all (λ w. is_settled s w.name) (take search.cursor (all_wants s.files)) ≡ true

-- the name of a want is settled; a file is answered only where it wasn't before
pub record TriesWant (listing : List ListedFile) (w : Want) (old new : List ℕ → Bool)
    (found : Option ListedFile) : Type 0 where
  pub settles : (q : List ℕ) → new q ≡ (bytes_eq w.name q || old q)
  pub known : old w.name ≡ true → found ≡ None
  pub chosen : old w.name ≡ false → found ≡ option_map (λ (c : Candidate). c.file) (choice_of w listing)

-- one want is passed
pub data Tries (listing : List ListedFile) (s : State) (new : Search) : Option ListedFile → Type 0 where
  was_settled : IsAt listing new s → Tries listing s new None
  no_file : (w : Want) → next s ≡ Some w → choice_of w listing ≡ None
      → IsAt listing new (seek s w.name) → Tries listing s new None
  a_file : (w : Want) (c : Candidate) → Asks listing s w c → IsAt listing new (seek s w.name)
      → Tries listing s new (Some c.file)

-- wants without a file are passed
pub data Passes (listing : List ListedFile) (start : State) : State → Type 0 where
  at_start : Passes listing start start
  past : (s : State) (w : Want) → Passes listing start s → next s ≡ Some w
      → choice_of w listing ≡ None → Passes listing start (seek s w.name)

-- wants were passed, and the search of the code has come so far
pub record Comes (listing : List ListedFile) (start : State) (new : Search) : Type 0 where
  pub state : State
  pub passes : Passes listing start state
  pub at : IsAt listing new state

-- what comes next: a file, for a want whose name is looked for then; or the end
pub data Finds (listing : List ListedFile) (start : State) (new : Search) : Option ListedFile → Type 0 where
  next_file : (s : State) (w : Want) (c : Candidate) → Passes listing start s → Asks listing s w c
      → IsAt listing new (seek s w.name) → Finds listing start new (Some c.file)
  no_more : (s : State) → Passes listing start s → next s ≡ None → Finds listing start new None
