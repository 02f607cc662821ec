-- Reading the input byte by byte reads each of its first four lines: line n goes into the n-th reading, whatever the others hold.
use mathlib.Core.Path.{◌≡◌, refl}
use mathlib.Core.Bool.{Bool, true, false, cond}
use mathlib.Core.List.{List, [], ◌∷◌}
use Prim.Native.Nat.{ℕ}
use lib.Dec.{eqb}
use Rattle.listing_text.specs.Reading.{line_feed, line_at, Scan, step, steps}
use Rattle.listing_text.specs.Chunks.{Input, read_byte, read_bytes}
use Rattle.listing_text.proofs.Chunks.{made}

-- the four readings of an input
abbrev Has : Input → Scan → Scan → Scan → Scan → Type 0
Has i s f g q = (i.settings ≡ s) × (i.first ≡ f) × (i.second ≡ g) × (i.query ≡ q)

-- lines after the fourth are not read
rest : (s f g q : Scan) (bs : List ℕ) → Has (read_bytes (made 4 s f g q) bs) s f g q
unfolding read_bytes read_byte
rest s f g q [] = (refl, refl, refl, refl)
rest s f g q (b ∷ bs) = rest s f g q bs

fourth : (s f g q : Scan) (bs : List ℕ) → Has (read_bytes (made 3 s f g q) bs) s f g (steps q (line_at 0 bs))
unfolding read_bytes read_byte steps line_at
fourth s f g q [] = (refl, refl, refl, refl)
fourth s f g q (b ∷ bs) = go (eqb b line_feed) (fourth s f g (step q b) bs)
  where
    go : (x : Bool) → Has (read_bytes (made 3 s f g (step q b)) bs) s f g (steps (step q b) (line_at 0 bs))
        → Has (read_bytes (cond x (made 4 s f g q) (made 3 s f g (step q b))) bs) s f g (steps q (cond x [] (b ∷ line_at 0 bs)))
    go true h = rest s f g q bs
    go false h = h

third : (s f g q : Scan) (bs : List ℕ) → Has (read_bytes (made 2 s f g q) bs) s f (steps g (line_at 0 bs)) (steps q (line_at 1 bs))
unfolding read_bytes read_byte steps line_at
third s f g q [] = (refl, refl, refl, refl)
third s f g q (b ∷ bs) = go (eqb b line_feed) (third s f (step g b) q bs)
  where
    go : (x : Bool) → Has (read_bytes (made 2 s f (step g b) q) bs) s f (steps (step g b) (line_at 0 bs)) (steps q (line_at 1 bs))
        → Has (read_bytes (cond x (made 3 s f g q) (made 2 s f (step g b) q)) bs) s f (steps g (cond x [] (b ∷ line_at 0 bs))) (steps q (cond x (line_at 0 bs) (line_at 1 bs)))
    go true h = fourth s f g q bs
    go false h = h

second : (s f g q : Scan) (bs : List ℕ) → Has (read_bytes (made 1 s f g q) bs) s (steps f (line_at 0 bs)) (steps g (line_at 1 bs)) (steps q (line_at 2 bs))
unfolding read_bytes read_byte steps line_at
second s f g q [] = (refl, refl, refl, refl)
second s f g q (b ∷ bs) = go (eqb b line_feed) (second s (step f b) g q bs)
  where
    go : (x : Bool) → Has (read_bytes (made 1 s (step f b) g q) bs) s (steps (step f b) (line_at 0 bs)) (steps g (line_at 1 bs)) (steps q (line_at 2 bs))
        → Has (read_bytes (cond x (made 2 s f g q) (made 1 s (step f b) g q)) bs) s (steps f (cond x [] (b ∷ line_at 0 bs))) (steps g (cond x (line_at 0 bs) (line_at 1 bs))) (steps q (cond x (line_at 1 bs) (line_at 2 bs)))
    go true h = third s f g q bs
    go false h = h

pub four_lines : (s f g q : Scan) (bs : List ℕ) → Has (read_bytes (made 0 s f g q) bs) (steps s (line_at 0 bs)) (steps f (line_at 1 bs)) (steps g (line_at 2 bs)) (steps q (line_at 3 bs))
unfolding read_bytes read_byte steps line_at
four_lines s f g q [] = (refl, refl, refl, refl)
four_lines s f g q (b ∷ bs) = go (eqb b line_feed) (four_lines (step s b) f g q bs)
  where
    go : (x : Bool) → Has (read_bytes (made 0 (step s b) f g q) bs) (steps (step s b) (line_at 0 bs)) (steps f (line_at 1 bs)) (steps g (line_at 2 bs)) (steps q (line_at 3 bs))
        → Has (read_bytes (cond x (made 1 s f g q) (made 0 (step s b) f g q)) bs) (steps s (cond x [] (b ∷ line_at 0 bs))) (steps f (cond x (line_at 0 bs) (line_at 1 bs))) (steps g (cond x (line_at 1 bs) (line_at 2 bs))) (steps q (cond x (line_at 2 bs) (line_at 3 bs)))
    go true h = second s f g q bs
    go false h = h
