-- The memo: 1024 entries of five words. An entry says of which state it is, and what a pass over that state's list told.
use Rattle.std.specs.Prelude.{◌≡◌, Bool, true, false, cond, List, [], ◌∷◌, ℕ, ◌+◌, ◌*◌, ◌/◌, ◌%◌, ◌<◌, eqb, length, get_or}
use Rattle.lists.specs.Lists.{put}
use Rattle.words.specs.Weights.{Kind}
use Rattle.words.specs.Matches.{MatchType}
use Rattle.list_facts.specs.declared.ListFacts.{ListFacts}
use Rattle.list_facts.specs.Facts.{TrueOf}

-- how many entries there are, the words of each, and of all
abbrev pub entries : ℕ
entries = 1024

abbrev pub entry_words : ℕ
entry_words = 5

abbrev pub memo_words : ℕ
memo_words = entry_words * entries

-- two facts in one word: twice the epsilons, and one more where the records are consecutive
abbrev pub packed_of : ℕ → Bool → ℕ
packed_of eps true = 2 * eps + 1
packed_of eps false = 2 * eps

-- the words of the entry of state s: s + 1 (0: no entry), and the facts
abbrev pub entry_of : ℕ → ListFacts → List ℕ
entry_of s r = (s + 1) ∷ r.len ∷ packed_of r.eps r.straight ∷ r.most ∷ r.run ∷ []

-- the facts that entry c holds
unfoldable pub entry_at : List ℕ → ℕ → ListFacts
entry_at memo c = record {
  len = get_or memo (entry_words * c + 1) 0;
  eps = get_or memo (entry_words * c + 2) 0 / 2;
  straight = eqb (get_or memo (entry_words * c + 2) 0 % 2) 1;
  most = get_or memo (entry_words * c + 3) 0;
  run = get_or memo (entry_words * c + 4) 0;
}

-- what is remembered is so, for the words m, which are matched on a side
pub record Remembers (on : MatchType) (k : Kind) (m memo : List ℕ) : Type 0 where
  -- the memo has all its words
  pub whole : length memo ≡ memo_words
  -- if entry c is that of state s, what it holds is true of the list of s
  pub holds : (c s : ℕ) → c < entries → get_or memo (entry_words * c) 0 ≡ s + 1 → TrueOf on k m s (entry_at memo c)

-- The memo after it was asked for state s, whose facts are r: as it was where its entry there is that of s, else with the entry of s.
abbrev pub asked_for : List ℕ → ℕ → ListFacts → List ℕ
asked_for memo s r = cond (eqb (get_or memo (entry_words * (s % entries)) 0) (s + 1)) memo (put memo (entry_words * (s % entries)) (entry_of s r))
