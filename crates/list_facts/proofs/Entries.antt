-- Entries of the memo: one that is written says what was told, and the others are as they were. Zeros are no entries.
use mathlib.Core.Path.{◌≡◌, sym, ◌∙◌, ap, subst}
use mathlib.Core.Bool.{Bool, true, false}
use mathlib.Core.List.{List, [], ◌∷◌}
use Prim.Native.Nat.{ℕ, suc, ◌+◌, ◌*◌, ◌/◌, ◌%◌, ◌<◌, ◌≤◌}
use native.Mathlib.Omega.{arith}
use native.Mathlib.Decide.{ℕ_discrete, dec_lt}
use lib.Dec.{eqb}
use lib.ListN.{length, get_or, set, replicate, length-replicate}
use Rattle.lists.specs.Lists.{put}
use Rattle.lists.proofs.Put.{length_put, put_before, put_after, put_in}
use Rattle.lists.proofs.Places.{zeros}
use Rattle.words.specs.Weights.{Kind}
use Rattle.words.specs.Matches.{MatchType}
use Rattle.list_facts.specs.declared.ListFacts.{ListFacts}
use Rattle.list_facts.specs.Facts.{TrueOf}
use Rattle.list_facts.specs.Memo.{entries, entry_words, memo_words, packed_of, entry_of, entry_at, Remembers}

-- five words written one after the other
pub five_words : (s : List ℕ) (at v w x y z : ℕ) → set (set (set (set (set s at v) (at + 1) w) (at + 2) x) (at + 3) y) (at + 4) z ≡ put s at (v ∷ w ∷ x ∷ y ∷ z ∷ [])
unfolding put
five_words s at v w x y z =
    let e1 : at + 1 ≡ suc at = omega arith in
    let e2 : at + 2 ≡ suc (suc at) = omega arith in
    let e3 : at + 3 ≡ suc (suc (suc at)) = omega arith in
    let e4 : at + 4 ≡ suc (suc (suc (suc at))) = omega arith in
    rw (e1, e2, e3, e4)

-- both facts are found again in the word that holds them
unpacked_eps : (eps : ℕ) (b : Bool) → packed_of eps b / 2 ≡ eps
unpacked_eps eps true = omega arith
unpacked_eps eps false = omega arith

unpacked_straight : (eps : ℕ) (b : Bool) → eqb (packed_of eps b % 2) 1 ≡ b
unpacked_straight eps true = let e : (2 * eps + 1) % 2 ≡ 1 = omega arith in rw e
unpacked_straight eps false = let e : (2 * eps) % 2 ≡ 0 = omega arith in rw e

module _ (memo : List ℕ) (c s : ℕ) (r : ListFacts) (fits : entry_words * c + entry_words ≤ length memo) where
  abbrev after : List ℕ
  after = put memo (entry_words * c) (entry_of s r)

  word : (i : ℕ) → i < 5 → get_or after (entry_words * c + i) 0 ≡ get_or (entry_of s r) i 0
  word i h = put_in memo (entry_words * c) (entry_of s r) i 0 h fits

  key : get_or after (entry_words * c) 0 ≡ s + 1
  key = let e : entry_words * c ≡ entry_words * c + 0 = omega arith in ap (λ (i : ℕ). get_or after i 0) e ∙ word 0 (omega arith)

  -- the entry that was written
  own : entry_at after c ≡ r
  unfolding entry_at
  own = rw (word 1 (omega arith), word 2 (omega arith), word 3 (omega arith), word 4 (omega arith), unpacked_eps, unpacked_straight)

  -- any other word
  other_word : (d i : ℕ) → (d ≡ c → ⊥) → i < 5 → get_or after (entry_words * d + i) 0 ≡ get_or memo (entry_words * d + i) 0
  other_word d i e h = go (dec_lt d c)
    where
      go : Dec (d < c) → get_or after (entry_words * d + i) 0 ≡ get_or memo (entry_words * d + i) 0
      go (yes l) = put_before memo (entry_words * c) (entry_of s r) (entry_words * d + i) 0 (omega (arith, l, h))
      go (no l) = put_after memo (entry_words * c) (entry_of s r) (entry_words * d + i) 0 (omega (arith, l, e))

  other : (d : ℕ) → (d ≡ c → ⊥) → entry_at after d ≡ entry_at memo d
  unfolding entry_at
  other d e = rw (other_word d 1 e (omega arith), other_word d 2 e (omega arith), other_word d 3 e (omega arith), other_word d 4 e (omega arith))

  other_key : (d : ℕ) → (d ≡ c → ⊥) → get_or after (entry_words * d) 0 ≡ get_or memo (entry_words * d) 0
  other_key d e =
      let p : entry_words * d + 0 ≡ entry_words * d = omega arith in
      rw p at (other_word d 0 e (omega arith))

-- what is told of state s is remembered, beside what was
pub now_remembered : (on : MatchType) (k : Kind) (m memo : List ℕ) (c s : ℕ) (r : ListFacts) → c < entries → Remembers on k m memo → TrueOf on k m s r
    → Remembers on k m (put memo (entry_words * c) (entry_of s r))
now_remembered on k m memo c s r h old told = record { whole = length_put memo (entry_words * c) (entry_of s r) ∙ old.whole; holds = λ d q l e. go d q l e (ℕ_discrete d c) }
  where
    fits : entry_words * c + entry_words ≤ length memo
    fits = omega (arith, h, old.whole)

    next : List ℕ
    next = put memo (entry_words * c) (entry_of s r)

    go : (d q : ℕ) → d < entries → get_or next (entry_words * d) 0 ≡ q + 1 → Dec (d ≡ c) → TrueOf on k m q (entry_at next d)
    go d q l e (yes z) =
        let a : get_or next (entry_words * c) 0 ≡ q + 1 = subst (λ (x : ℕ). get_or next (entry_words * x) 0 ≡ q + 1) z e in
        let n : s ≡ q = omega (arith, sym (key memo c s r fits) ∙ a) in
        subst (λ (x : ℕ). TrueOf on k m q (entry_at next x)) (sym z) (subst (TrueOf on k m q) (sym (own memo c s r fits)) (subst (λ (x : ℕ). TrueOf on k m x r) n told))
    go d q l e (no z) = subst (TrueOf on k m q) (sym (other memo c s r fits d z)) (old.holds d q l (sym (other_key memo c s r fits d z) ∙ e))

-- zeros remember nothing: how a memo begins
pub nothing_remembered : (on : MatchType) (k : Kind) (m : List ℕ) → Remembers on k m (replicate memo_words 0)
nothing_remembered on k m = record { whole = length-replicate {A = ℕ} memo_words 0; holds = λ c s h e. absurd (omega (arith, zeros memo_words (entry_words * c), e)) }
