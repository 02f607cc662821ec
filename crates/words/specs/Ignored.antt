-- 02, 2.7, "Joiners and soft hyphens": labels that count as 0 on machine 1's outputs and machine 2's inputs; and 2.8, by which a sigma label is none of them.
use Rattle.std.specs.Prelude.{Bool, not, ◌&&◌, ◌||◌, cond, List, [], ◌∷◌, ℕ, zero, suc, ◌+◌, ◌-◌, ◌*◌, eqb, set}
use Rattle.papers.specs.Machine.{Machine}
use Rattle.words.specs.Labels.{eps_label, no_label}
use Rattle.words.specs.Matches.{MatchType, inputs, outputs}
use Rattle.words.specs.Machines.{header_words, state_words, tr_words, state_count, tr_count, side_mark, acceptor_mark, mark_word, acceptor_word, word_on, machine_of, same_labels}
use Rattle.words.specs.Sigmas.{has}

-- What decides which labels are replaced: the list, "lent at every call and counted among the settings", and the settings' sigma labels.
pub record Ignored : Type 0 where
  pub list : List ℕ
  pub sigma1 : ℕ
  pub sigma2 : ℕ

-- refusal 18 where this fails: "where it holds 0 or MAX"
unfoldable pub ignored_ok : List ℕ → Bool
ignored_ok xs = not (has eps_label xs) && not (has no_label xs)

-- 02, 2.8: "both sigma labels are exempt on both machines"
abbrev pub is_exempt : Ignored → ℕ → Bool
is_exempt g x = eqb x g.sigma1 || eqb x g.sigma2

-- x is replaced: it stands in the list, and is no sigma label
abbrev pub is_ignored : Ignored → ℕ → Bool
is_ignored g x = has x g.list && not (is_exempt g x)

-- "labels that count as 0"
unfoldable pub heard : Ignored → ℕ → ℕ
heard g x = cond (is_ignored g x) eps_label x

-- the machine with its labels on one side read by f
abbrev pub relabelled : MatchType → (ℕ → ℕ) → Machine → Machine
relabelled inputs f M = record {
  states = M.states;
  start = M.start;
  list = M.list;
  input = λ t. f (M.input t);
  output = M.output;
  weight = M.weight;
  target = M.target;
  is_final = M.is_final;
  final_weight = M.final_weight;
}
relabelled outputs f M = record {
  states = M.states;
  start = M.start;
  list = M.list;
  input = M.input;
  output = λ t. f (M.output t);
  weight = M.weight;
  target = M.target;
  is_final = M.is_final;
  final_weight = M.final_weight;
}

-- the machine "with those labels replaced" on one side
abbrev pub replaced : MatchType → Ignored → Machine → Machine
replaced on g M = relabelled on (heard g) M

-- "An empty list changes nothing; otherwise ..": as lent, or as replaced
abbrev pub otherwise : {A : Type 0} → List ℕ → A → A → A
otherwise [] lent other = lent
otherwise (x ∷ xs) lent other = other

-- "side marks on the replaced sides read as 0", in 2.8 "still": by the list as it is lent, sigma labels included
abbrev pub mark_read : MatchType → List ℕ → List ℕ → ℕ
mark_read on lent m = otherwise lent (side_mark on m) 0

-- "An acceptor mark that replacement makes false is read as 0.": the mark where the labels are read by f
abbrev pub acceptor_after : MatchType → (ℕ → ℕ) → List ℕ → ℕ
acceptor_after on f m = cond (same_labels (tr_count m) (relabelled on f (machine_of m))) (acceptor_mark m) 0

abbrev pub acceptor_read : MatchType → Ignored → List ℕ → ℕ
acceptor_read on g m = otherwise g.list (acceptor_mark m) (acceptor_after on (heard g) m)

-- the words with f of the word at index k, and of each that stands a record's length further
unfoldable pub in_records : (ℕ → ℕ) → ℕ → List ℕ → List ℕ
in_records f k [] = []
in_records f zero (x ∷ xs) = f x ∷ in_records f (tr_words - 1) xs
in_records f (suc k) (x ∷ xs) = x ∷ in_records f k xs

-- The same in words: the inner label of each record read by f, the inner side's mark 0, the acceptor mark as it is read, all else as lent.
abbrev pub words_relabelled : MatchType → (ℕ → ℕ) → List ℕ → List ℕ
words_relabelled on f m = set (set (in_records f (header_words + state_words * state_count m + word_on on) m) (mark_word on) 0) acceptor_word (acceptor_after on f m)

unfoldable pub words_replaced : MatchType → Ignored → List ℕ → List ℕ
words_replaced on g m = words_relabelled on (heard g) m

-- what a machine's words are read as: themselves under an empty list
unfoldable pub words_read : MatchType → Ignored → List ℕ → List ℕ
words_read on g m = otherwise g.list m (words_replaced on g m)
