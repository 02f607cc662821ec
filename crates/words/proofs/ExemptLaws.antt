-- 02, 2.8: to exempt a label is to take it off the list; and an acceptor mark of a well-formed machine stays where nothing is replaced.
use mathlib.Core.Path.{◌≡◌, refl, sym, ◌∙◌, ap, fun_ext}
use mathlib.Core.Bool.{Bool, true, false, not, ◌&&◌, ◌||◌, cond, false≢true}
use mathlib.Core.List.{List, [], ◌∷◌}
use Prim.Native.Nat.{ℕ, zero, suc}
use native.Mathlib.Omega.{arith}
use lib.Dec.{eqb, leb}
use borrow.Author.Tests.{eqb-true}
use Rattle.lists.specs.Lists.{keep_if, put_if, every, interval}
use Rattle.lists.proofs.Members.{and_right, or_false}
use Rattle.words.specs.Labels.{eps_label, refused, refuse_if}
use Rattle.words.specs.Matches.{MatchType, inputs, outputs}
use Rattle.words.specs.Machines.{state_count, tr_count, start_word, side_mark, acceptor_mark, machine_of, sorted, state_ok, tr_ok, side_mark_ok, acceptor_mark_ok, acceptor, marks_ok, size_up_to, well_formed_up_to}
use Rattle.words.specs.Sigmas.{Operand, is_set, has}
use Rattle.words.specs.Sides.{side_by, in_order, side_of}
use Rattle.words.specs.Ignored.{Ignored, is_exempt, heard, acceptor_after}
use Rattle.words.proofs.CheckedLaws.{good≢refused, refused_is}

and_false : (a : Bool) → a && false ≡ false
and_false true = refl
and_false false = refl

-- a label stands among those that are kept where it stands in the list and is kept
pub has_kept : (P : ℕ → Bool) (x : ℕ) (xs : List ℕ) → has x (keep_if P xs) ≡ has x xs && P x
unfolding has keep_if
has_kept P x [] = refl
has_kept P x (y ∷ ys) = go (P y) refl (eqb y x) refl (has_kept P x ys)
  where
    go : (b : Bool) → P y ≡ b → (e : Bool) → eqb y x ≡ e → has x (keep_if P ys) ≡ has x ys && P x → has x (put_if b y (keep_if P ys)) ≡ (e || has x ys) && P x
    go true p true q rest = rw (q, sym (ap P (eqb-true y x q)) ∙ p)
    go true p false q rest = rw (q, rest)
    go false p true q rest = rw (rest, sym (ap P (eqb-true y x q)) ∙ p, and_false (has x ys))
    go false p false q rest = rest

-- a list that holds neither of two labels is kept whole without them
pub kept_whole : (σ τ : ℕ) (xs : List ℕ) → has σ xs ≡ false → has τ xs ≡ false → keep_if (λ y. not (eqb y σ || eqb y τ)) xs ≡ xs
unfolding has keep_if
kept_whole σ τ [] h k = refl
kept_whole σ τ (y ∷ ys) h k =
    let a = or_false (eqb y σ) (has σ ys) h in
    let b = or_false (eqb y τ) (has τ ys) k in
    rw (a.0, b.0) (ap (λ (l : List ℕ). y ∷ l) (kept_whole σ τ ys a.1 b.1))

-- a label that is not listed is heard as itself, and a listed one where it is a sigma label
pub heard_unlisted : (g : Ignored) (x : ℕ) → has x g.list ≡ false → heard g x ≡ x
unfolding heard
heard_unlisted g x h = rw h

pub heard_listed : (g : Ignored) (x : ℕ) (b : Bool) → has x g.list ≡ true → is_exempt g x ≡ b → heard g x ≡ cond b x eps_label
unfolding heard
heard_listed g x true h e = rw (h, e)
heard_listed g x false h e = rw (h, e)

-- a label is heard as 2.7 has it for the list without the sigma labels
pub heard_without : (g : Ignored) (x : ℕ) → heard g x ≡ cond (has x (keep_if (λ y. not (is_exempt g y)) g.list)) eps_label x
unfolding heard
heard_without g x = ap (λ (b : Bool). cond b eps_label x) (sym (has_kept (λ y. not (is_exempt g y)) x g.list))

-- a mark that is true stays where each label is read as itself
module _ (most : ℕ) (m : List ℕ) (formed : well_formed_up_to most m ≡ true) where
  acceptor_true : acceptor_mark_ok (acceptor_mark m) (acceptor m) ≡ true
  unfolding well_formed_up_to marks_ok
  acceptor_true =
      let e1 = and_right (size_up_to most m) _ formed in
      let e2 = and_right (leb (start_word m) (state_count m)) _ e1 in
      let e3 = and_right (every (state_ok m) (interval 0 (state_count m))) _ e2 in
      let e4 = and_right (every (tr_ok m) (interval 1 (tr_count m))) _ e3 in
      and_right (side_mark_ok (side_mark outputs m) (sorted outputs (machine_of m))) _ (and_right (side_mark_ok (side_mark inputs m) (sorted inputs (machine_of m))) _ e4)

  by_mark : (k : ℕ) (b : Bool) → acceptor_mark_ok k b ≡ true → cond b k 0 ≡ k
  by_mark k true e = refl
  by_mark zero false e = refl
  by_mark (suc zero) false e = absurd (false≢true e)
  by_mark (suc (suc k)) false e = absurd (false≢true e)

  pub acceptor_stays : (on : MatchType) (f : ℕ → ℕ) → ((x : ℕ) → f x ≡ x) → acceptor_after on f m ≡ acceptor_mark m
  unfolding acceptor
  acceptor_stays on f h = ap (λ (g : ℕ → ℕ). acceptor_after on g m) (fun_ext h) ∙ as_lent on
    where
      as_lent : (on : MatchType) → acceptor_after on (λ x. x) m ≡ acceptor_mark m
      as_lent inputs = by_mark (acceptor_mark m) (acceptor m) acceptor_true
      as_lent outputs = by_mark (acceptor_mark m) (acceptor m) acceptor_true

-- 7 stands only where no sigma label is set, so that an exemption never changes it: a machine with one is sorted, or refused by 5 or 6
no_seven1 : (a b ib : Bool) → side_by a b true ib ≡ refused 7 → ⊥
no_seven1 true true ib e = good≢refused e
no_seven1 true false ib e = good≢refused e
no_seven1 false true ib e = good≢refused e
no_seven1 false false ib e = good≢refused e

no_seven2 : (a b ia : Bool) → side_by a b ia true ≡ refused 7 → ⊥
no_seven2 true true ia e = good≢refused e
no_seven2 true false ia e = good≢refused e
no_seven2 false true ia e = good≢refused e
no_seven2 false false true e = good≢refused e
no_seven2 false false false e = good≢refused e

unset_by : (z sa ia sb ib a b : Bool) → refuse_if z 4 (refuse_if (sa && not ia) 5 (refuse_if (sb && not ib) 6 (side_by a b ia ib))) ≡ refused 7 → (sa ≡ false) × (sb ≡ false)
unset_by true sa ia sb ib a b e = absurd (omega (arith, refused_is e))
unset_by false true false sb ib a b e = absurd (omega (arith, refused_is e))
unset_by false true true true false a b e = absurd (omega (arith, refused_is e))
unset_by false true true true true a b e = absurd (no_seven1 a b true e)
unset_by false true true false ib a b e = absurd (no_seven1 a b ib e)
unset_by false false ia true false a b e = absurd (omega (arith, refused_is e))
unset_by false false ia true true a b e = absurd (no_seven2 a b ia e)
unset_by false false ia false ib a b e = (refl, refl)

pub seven_unset : (A B : Operand) → side_of A B ≡ refused 7 → (is_set A.sigma ≡ false) × (is_set B.sigma ≡ false)
unfolding side_of
seven_unset A B e =
    unset_by (eqb A.sigma.label eps_label || eqb B.sigma.label eps_label) (is_set A.sigma) (in_order A) (is_set B.sigma) (in_order B) (eqb A.mark 1) (eqb B.mark 1) e
