-- Two texts put one after the other are one text put.
use mathlib.Core.Path.{◌≡◌, sym, ap, ◌∙◌}
use mathlib.Core.List.{List, ◌++◌, append_assoc}
use Prim.Native.Nat.{ℕ, ◌+◌}
use native.Mathlib.Nat.{add_assoc}
use lib.ListN.{length, length-append}
use Rattle.lists.specs.Lists.{put}
use Rattle.lists.proofs.Put.{put_put}
use Rattle.listing_write.specs.Written.{Written}

pub then : {out out1 out2 : List ℕ} {to r1 r2 : ℕ} {a b : List ℕ} → Written out to a out1 r1 → Written out1 r1 b out2 r2 → Written out to (a ++ b) out2 r2
then {out} {out1} {out2} {to} {r1} {r2} {a} {b} p q = record {
  stored = q.stored ∙ (λ i. put (p.stored i) (p.after i) b) ∙ put_put out to a b;
  after = q.after ∙ ap (λ (k : ℕ). k + length b) p.after ∙ add_assoc to (length a) (length b) ∙ ap (λ (k : ℕ). to + k) (sym (length-append a b));
}

-- the same text by another name
pub same_text : {out out' : List ℕ} {to r : ℕ} {a b : List ℕ} → a ≡ b → Written out to a out' r → Written out to b out' r
same_text {out} {out'} {to} {r} e w = record { stored = w.stored ∙ ap (put out to) e; after = w.after ∙ ap (λ (t : List ℕ). to + length t) e }

-- four texts, then a fifth
pub regroup : (a b c d e : List ℕ) → (a ++ (b ++ (c ++ d))) ++ e ≡ a ++ (b ++ (c ++ (d ++ e)))
regroup a b c d e = append_assoc a (b ++ (c ++ d)) e ∙ ap (λ (x : List ℕ). a ++ x) (append_assoc b (c ++ d) e ∙ ap (λ (x : List ℕ). b ++ x) (append_assoc c d e))
