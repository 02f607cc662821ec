-- When no refusal can stand at a composed state, by the facts of its two lists: no label is sigma, no product is too large, and there are records for every move that could be kept.
use Rattle.std.specs.Prelude.{Bool, ◌&&◌, ℕ, ◌+◌, ◌*◌, eqb, leb}
use Rattle.words.specs.Labels.{no_label}
use Rattle.words.specs.Weights.{kind_of}
use Rattle.words.specs.Matches.{MatchType, inputs, outputs}
use Rattle.words.specs.Settings.{Settings}
use Rattle.calls.specs.Store.{Store, state_room, tr_room}
use Rattle.compose_bounds.specs.Serving.{weights_fit}
use Rattle.list_facts.specs.declared.ListFacts.{ListFacts}

-- "Sigma label MAX means none.": none on either machine, so there is no 10 and no 11
abbrev pub no_sigma : Settings → Bool
no_sigma s = eqb s.sigma1 no_label && eqb s.sigma2 no_label

-- The most moves of a state: each epsilon of the looked-up list alone, and for each walked transition the lone move and the longest run of one label.
abbrev pub most_moves : ListFacts → ListFacts → ℕ
most_moves walked looked = looked.eps + walked.len * (looked.run + 1)

-- there are n records of each sort, so there is no 13
unfoldable pub room_for : Store → ℕ → Bool
room_for d n = leb (d.used.states + n) (state_room d.memory) && leb (d.used.trs + n) (tr_room d.memory)

-- direction input walks machine 1, direction output machine 2
abbrev pub most_by : MatchType → ListFacts → ListFacts → ℕ
most_by inputs f1 f2 = most_moves f1 f2
most_by outputs f1 f2 = most_moves f2 f1

-- no refusal can stand: the expansion stores its moves as it meets them
unfoldable pub serves_of : Settings → MatchType → Store → ListFacts → ListFacts → Bool
serves_of s on d f1 f2 = no_sigma s && (weights_fit (kind_of s.kind) f1.most f2.most && room_for d (most_by on f1 f2))
