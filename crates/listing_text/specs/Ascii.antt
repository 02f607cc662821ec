-- A text as its bytes.
use Rattle.std.specs.Prelude.{List, [] as none, ◌∷◌ as ◌then◌, ℕ}
use Prim.Native.Char.{code}
use Prim.Native.String.{String, [], ◌∷◌}

-- the bytes of a text of ASCII characters
abbrev pub ascii : String → List ℕ
ascii [] = none
ascii (c ∷ cs) = code c then ascii cs
