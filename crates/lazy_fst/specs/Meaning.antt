-- What the session and the answers of the calls stand for in the definitions of `calls`.
use Rattle.std.specs.Prelude.{cond, List, ℕ, eqb, Option, Result, Ok, Err}
use Rattle.words.specs.Labels.{no_label, good, refused, and_then}
use Rattle.words.specs.Matches.{MatchType, inputs, outputs}
use Rattle.words.specs.Machines.{acceptor_mark}
use Rattle.words.specs.Ignored.{Ignored, words_read}
use Rattle.words.specs.Sides.{Side}
use Rattle.words.specs.Steps.{start_at}
use Rattle.words.specs.Settings.{Settings, Lent, composition_of}
use Rattle.calls.specs.Store.{Memory, Part}
use Rattle.calls.specs.Checks.{Session as Opened, side_number}
use Rattle.calls.specs.Calls.{Outcome, settle, begun, opened}
use Rattle.fst.specs.Refusals.{number_of}
use Rattle.fst.specs.declared.refusals.Refusal.{Refusal}
use Rattle.matchers.specs.Meaning.{allowed_of}
use Rattle.tr_lists.specs.Meaning.{part_means}
use Rattle.tr_lists.specs.declared.Part.{Part as CodePart}
use Rattle.session_checks.specs.Meaning.{settings_means, lent_slices, session_of}
use Rattle.match_type.specs.declared.Side.{Side as CodeSide}
use Rattle.compose_fst_op.specs.declared.ComposeFstOpOptions.{ComposeFstOpOptions}
use Rattle.session_checks.specs.declared.Settings.{Settings as Six}
use Rattle.lazy_fst.specs.declared.Session.{Session}
use Rattle.lazy_fst.specs.declared.AllowedLists.{AllowedLists}

-- what every call is lent: both machines, both allowed lists with a mark whether there is one, and the ignored labels
abbrev pub lent_with : (m1 m2 allowed1 allowed2 ignored : List ℕ) → AllowedLists → Lent
lent_with m1 m2 allowed1 allowed2 ignored listed = lent_slices m1 m2 (allowed_of listed.first allowed1) (allowed_of listed.second allowed2) ignored

-- "The session also holds the six settings"; its side, and the used counts
abbrev pub session_means : Session → Opened
session_means s = session_of (settings_means s.settings) s.side s.used

-- what a call answers with the next session; or a refusal, and the session that is handed back
abbrev pub Answered : Type 0 → Type 0
Answered A = Result A (Refusal × Session)

-- What open and run leave, with the three slices: an accepted call has no value beside the session; a refusal has its number in the table of "Answers".
abbrev pub left : Answered Session → Memory → Outcome (Unit {0})
left (Ok s) m = record { answer = good tt; session = session_means s; memory = m }
left (Err (refusal, s)) m = record { answer = refused (number_of refusal); session = session_means s; memory = m }

-- what expand leaves: "their first and count"
abbrev pub part_left : Answered (CodePart × Session) → Memory → Outcome Part
part_left (Ok (p, s)) m = record { answer = good (part_means p); session = session_means s; memory = m }
part_left (Err (refusal, s)) m = record { answer = refused (number_of refusal); session = session_means s; memory = m }

-- what final weight leaves: a weight, or none where the composed state is not final
abbrev pub weight_left : Answered (Option ℕ × Session) → Memory → Outcome (Option ℕ)
weight_left (Ok (w, s)) m = record { answer = good w; session = session_means s; memory = m }
weight_left (Err (refusal, s)) m = record { answer = refused (number_of refusal); session = session_means s; memory = m }

-- the composition's settings in the code: the six settings, the side, whether there are allowed lists, and two acceptor marks
abbrev pub options_with : Six → AllowedLists → CodeSide → ℕ → ℕ → ComposeFstOpOptions
options_with s listed side acceptor1 acceptor2 = record {
  kind = s.kind;
  filter = s.filter;
  side = side;
  sigma1 = record { label = s.sigma1; mode = s.mode1; listed = listed.first; acceptor = acceptor1 };
  sigma2 = record { label = s.sigma2; mode = s.mode2; listed = listed.second; acceptor = acceptor2 };
}

-- the acceptor mark that is read, where it plays a part: with a sigma label, under mode 0
unfoldable pub sigma_mark : MatchType → Ignored → List ℕ → ℕ → ℕ → ℕ
sigma_mark on g m sigma mode = cond (eqb sigma no_label) 0 (cond (eqb mode 0) (acceptor_mark (words_read on g m)) 0)

-- the composition's settings for two machines with ignored labels
abbrev pub options_of : Six → AllowedLists → CodeSide → (m1 m2 ignored : List ℕ) → ComposeFstOpOptions
options_of s listed side m1 m2 ignored =
    let g : Ignored = record { list = ignored; sigma1 = s.sigma1.0; sigma2 = s.sigma2.0 } in
    options_with s listed side (sigma_mark outputs g m1 s.sigma1.0 s.mode1) (sigma_mark inputs g m2 s.sigma2.0 s.mode2)

-- a session just opened, with so many states found
abbrev pub fresh_of : Settings → Side → ℕ → Opened
fresh_of s side states = record { settings = s; side = side_number side; used = record { states = states; trs = 0 } }

-- an opening that the checks 1 to 7 let pass, on the side of the rule
abbrev pub opened_on : Settings → Lent → Opened → Memory → Side → Outcome (Unit {0})
opened_on s l got m side = settle got m (and_then (begun m (start_at (composition_of s l side))) (λ d. good (opened s side d)))
