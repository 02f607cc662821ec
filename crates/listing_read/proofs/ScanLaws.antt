-- A reading is within the length of its slice.
use mathlib.Core.Path.{◌≡◌, refl, sym}
use mathlib.Core.Bool.{Bool, true, false, cond}
use mathlib.Core.List.{List}
use Prim.Native.Nat.{ℕ, ◌≤◌, ◌<◌}
use native.Mathlib.Omega.{arith}
use lib.Dec.{leb}
use lib.ListN.{length, take}
use lib.Seq.{length-take-le, take_all}
use borrow.Author.Tests.{leb-true, leb-false, le-leb}
use Rattle.io.specs.Counts.{IsPrefixLen}
use Rattle.listing_text.specs.Reading.{reading, not_words}
use Rattle.listing_text.specs.Chunks.{within}
use Rattle.listing_read.specs.Meaning.{scan_of}
use Rattle.listing_read.specs.declared.line.LineReader.{LineReader}

-- what is taken of a list is no longer than it
taken_le : (n : ℕ) (ws : List ℕ) → length (take n ws) ≤ length ws
taken_le n ws = go (leb n (length ws)) refl
  where
    go : (x : Bool) → leb n (length ws) ≡ x → length (take n ws) ≤ length ws
    go true e = rw (length-take-le n ws (leb-true n (length ws) e)) (leb-true n (length ws) e)
    go false e =
        let h : length ws < n = leb-false n (length ws) e in
        rw (take_all n ws (omega arith)) (omega arith)

fits : (n : ℕ) (ws : List ℕ) → leb (length (take n ws)) (length ws) ≡ true
fits n ws = le-leb (length (take n ws)) (length ws) (taken_le n ws)

-- a reading is within the length of its slice
pub scan_within : (ws : List ℕ) (l : LineReader) → scan_of ws l ≡ within (length ws) (scan_of ws l)
scan_within ws l = go l.bad
  where
    go : (x : Bool) → cond x not_words (reading (take l.count ws) l.value l.inside) ≡ within (length ws) (cond x not_words (reading (take l.count ws) l.value l.inside))
    go true = refl
    go false = λ k. cond (sym (fits l.count ws) k) (reading (take l.count ws) l.value l.inside) not_words

-- so many words stand at the start of a slice that has them
pub counts : (n : ℕ) (xs : List ℕ) → n ≤ length xs → IsPrefixLen n xs
counts n xs h = (h, sym (length-take-le n xs h))
