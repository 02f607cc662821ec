-- 01, "Session and memory" and "The listing": the six settings and what else every call is lent.
use Rattle.std.specs.Prelude.{Bool, not, ◌&&◌, List, ℕ, eqb, leb, Option}
use Rattle.papers.specs.Machine.{Machine}
use Rattle.words.specs.Labels.{no_label}
use Rattle.words.specs.Weights.{kind_of}
use Rattle.words.specs.Matches.{MatchType, inputs, outputs}
use Rattle.words.specs.Machines.{side_mark, acceptor_mark, machine_of}
use Rattle.words.specs.Sigmas.{rewrites_both, Operand}
use Rattle.words.specs.Ignored.{Ignored, replaced, mark_read, acceptor_read}
use Rattle.words.specs.Sides.{Side}
use Rattle.words.specs.Filters.{filter_of}
use Rattle.words.specs.Steps.{Composition}

-- "settings (kind, filter, sigma 1, mode 1, sigma 2, mode 2)"
pub record Settings : Type 0 where
  pub kind : ℕ
  pub filter : ℕ
  pub sigma1 : ℕ
  pub mode1 : ℕ
  pub sigma2 : ℕ
  pub mode2 : ℕ

-- the largest kind, filter and rewrite mode
abbrev pub last_kind : ℕ
last_kind = 1

abbrev pub last_filter : ℕ
last_filter = 5

abbrev pub last_mode : ℕ
last_mode = 2

-- refusal 1 where this fails: "kind, filter or rewrite mode outside its range"
unfoldable pub settings_ok : Settings → Bool
settings_ok s = leb s.kind last_kind && (leb s.filter last_filter && (leb s.mode1 last_mode && leb s.mode2 last_mode))

-- the two machines, their allowed lists, "lent at every call and counted among the settings", and so the list of ignored labels (02, 2.7)
pub record Lent : Type 0 where
  pub m1 : List ℕ
  pub m2 : List ℕ
  pub allowed1 : Option (List ℕ)
  pub allowed2 : Option (List ℕ)
  pub ignored : List ℕ

-- what a call replaces
abbrev pub ignored_by : Settings → Lent → Ignored
ignored_by s l = record { list = l.ignored; sigma1 = s.sigma1; sigma2 = s.sigma2 }

-- a machine as an operand: its side, the marks of that side and of an acceptor, the sigma label, the rewrite mode and the allowed list; no sigma is rewritten where none is set
abbrev pub operand_by : MatchType → Machine → ℕ → ℕ → ℕ → ℕ → Option (List ℕ) → Operand
operand_by on M mark acceptor sigma mode allowed =
    record {
      machine = M;
      on = on;
      mark = mark;
      sigma = record { label = sigma; rewrite_both = not (eqb sigma no_label) && rewrites_both mode acceptor; allowed = allowed };
    }

-- a machine's words as an operand, with nothing replaced
abbrev pub operand_of : MatchType → List ℕ → ℕ → ℕ → Option (List ℕ) → Operand
operand_of on m sigma mode allowed = operand_by on (machine_of m) (side_mark on m) (acceptor_mark m) sigma mode allowed

-- 02, 2.7: "every answer is that of the two machines with those labels replaced, side marks on the replaced sides read as 0 and sortedness judged after replacement. An
-- acceptor mark that replacement makes false is read as 0."
abbrev pub operand_under : Ignored → MatchType → List ℕ → ℕ → ℕ → Option (List ℕ) → Operand
operand_under g on m sigma mode allowed = operand_by on (replaced on g (machine_of m)) (mark_read on g.list m) (acceptor_read on g m) sigma mode allowed

-- "Machine 1 is matched on outputs, 2 on inputs."
abbrev pub operand1 : Settings → Lent → Operand
operand1 s l = operand_under (ignored_by s l) outputs l.m1 s.sigma1 s.mode1 l.allowed1

abbrev pub operand2 : Settings → Lent → Operand
operand2 s l = operand_under (ignored_by s l) inputs l.m2 s.sigma2 s.mode2 l.allowed2

-- the composition of two machines on a side
abbrev pub composition_of : Settings → Lent → Side → Composition
composition_of s l side = record {
  kind = kind_of s.kind;
  filter = filter_of s.filter;
  side = side;
  operand1 = operand1 s l;
  operand2 = operand2 s l;
}
