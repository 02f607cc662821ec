-- 02, 2.6: "It is proved equal to the number of matches then handed out".
use Rattle.std.specs.Prelude.{◌≡◌, List, [], ◌∷◌, ℕ, suc, ◌≤◌, ◌<◌, length, None, Some, Ok, Err}
use Rattle.lists.specs.Asking.{AskedOn}
use Rattle.words.specs.Labels.{Checked, good, refused}
use Rattle.words.specs.Matches.{Match}
use Rattle.fst.specs.Refusals.{number_of, checked_by}
use Rattle.fst.specs.declared.refusals.Refusal.{Refusal}
use Rattle.matchers.specs.Meaning.{Item, match_means}
use Rattle.matchers.specs.Cursors.{Step, given_by}
use Rattle.matchers.specs.Asking.{LookUp, onward, Gives}
use Rattle.matchers.specs.declared.IterItemMatcher.{IterItemMatcher}
use Rattle.matchers.specs.declared.Cursor.{Cursor}
use Rattle.counted_iter.specs.Counted.{CountedIter, count_of}

-- Asked on from the cursor c, n matches are handed out before the end: each of the first n askings gives one, and none after them does. `Answers c r` is what a function that is asked for the next match
-- promises of its reply r.
pub record HandsOut (Answers : Cursor → Step → Type 0) (c : Cursor) (n : ℕ) : Type 0 where
  pub gives : (k : ℕ) (r : Step) → AskedOn Answers onward c k r → k < n → (i : Item) × (given_by r ≡ Some i)
  pub ends : (k : ℕ) (r : Step) → AskedOn Answers onward c k r → n ≤ k → given_by r ≡ None

-- n matches are handed out in all: the first with the answer itself, and the others by asking on
abbrev pub HandedOut : (Cursor → Step → Type 0) → CountedIter → ℕ → Type 0
HandedOut Answers (Ok (Some first, c)) n = (others : ℕ) × (n ≡ suc others) × HandsOut Answers c others
HandedOut Answers (Ok (None, c)) n = (n ≡ 0) × HandsOut Answers c 0
HandedOut Answers (Err k) n = ⊥

-- The answer i of a look-up with the settings q at state s of the machine in m, whose matches by the definition are ms; `item u` is what the match u gives.
pub record CountsOrRefuses (Answers : Cursor → Step → Type 0) (m : List ℕ) (s : ℕ) (q : LookUp) (item : Match → Item) (ms : Checked (List Match)) (i : CountedIter) : Type 0 where
  pub refuses : (n : ℕ) → ms ≡ refused n → (k : Refusal) × (number_of k ≡ n) × (i ≡ Err k)
  -- no match: stated as 0, and asked on it gives none
  pub empty : ms ≡ good [] → (c : Cursor) × (i ≡ Ok (None, c)) × Gives Answers m s q item [] c
  -- the number of all, with the first; and asked on it gives the others
  pub first : (u : Match) (us : List Match) → ms ≡ good (u ∷ us) → (v : IterItemMatcher) × (c : Cursor) × (i ≡ Ok (Some (length (u ∷ us), v), c)) × (match_means v ≡ item u) × Gives Answers m s q item us c
  -- the number that is stated is the number handed out
  pub handed_out : (n : ℕ) → checked_by count_of i ≡ good n → HandedOut Answers i n
