-- 02, 2.8: a label is heard as by 2.7 for the list without the sigma labels; the checks 2 and 3 stand before all that goes by an acceptor mark.
use mathlib.Core.Path.{◌≡◌, refl, ◌∙◌, ap, fun_ext, subst}
use mathlib.Core.Bool.{Bool, true, false, not}
use mathlib.Core.List.{List, [], ◌∷◌}
use Rattle.std.specs.Prelude.{Option}
use Prim.Native.Nat.{ℕ}
use Rattle.lists.specs.Lists.{keep_if}
use Rattle.words.specs.Labels.{Checked, refuse_if}
use Rattle.words.specs.Weights.{kind_of}
use Rattle.words.specs.Filters.{filter_of}
use Rattle.words.specs.Matches.{MatchType, inputs, outputs}
use Rattle.words.specs.Machines.{machine_of, acceptor_mark, well_formed_up_to}
use Rattle.words.specs.Ignored.{ignored_ok, heard, relabelled, otherwise, mark_read, acceptor_after, words_relabelled, words_replaced}
use Rattle.words.specs.Sides.{side_of}
use Rattle.words.specs.Sigmas.{has}
use Rattle.words.specs.Settings.{Settings, settings_ok, Lent, ignored_by, operand_by, operand_under, operand1, operand2}
use Rattle.words.proofs.ExemptLaws.{heard_without, kept_whole, acceptor_stays}
use Rattle.calls.specs.Store.{Layout}
use Rattle.calls.specs.Checks.{side_for_with}
use Rattle.calls.specs.Ignoring.{AsReplaced}
use Rattle.calls.specs.Exempting.{without_sigmas, silenced, operand_silenced, silenced1, silenced2, AsSilenced, SigmasExempt, ExemptCalls, NoOverlap}
use Rattle.calls.proofs.Ignoring.{otherwise_replaced}

-- past a check that does not stand
past : {A : Type 0} (b : Bool) (n : ℕ) (x y : Checked A) → (b ≡ true → x ≡ y) → refuse_if (not b) n x ≡ refuse_if (not b) n y
past true n x y h = h refl
past false n x y h = refl

module _ (s : Settings) (l : Lent) where
  abbrev xs : List ℕ
  xs = without_sigmas s l.ignored

  -- how labels are read
  read : heard (ignored_by s l) ≡ silenced xs
  read = fun_ext (heard_without (ignored_by s l))

  module _ (most : ℕ) (on : MatchType) (m : List ℕ) (formed : well_formed_up_to most m ≡ true) where
    -- where sigma labels alone are listed the acceptor mark is judged, and stays
    none_left : (ys : List ℕ) → acceptor_after on (silenced ys) m ≡ otherwise ys (acceptor_mark m) (acceptor_after on (silenced ys) m)
    unfolding has
    none_left [] = acceptor_stays most m formed on (silenced []) (λ x. refl)
    none_left (y ∷ ys) = refl

    by_lists : (lent : List ℕ) → let ys = without_sigmas s lent in otherwise lent (acceptor_mark m) (acceptor_after on (silenced ys) m) ≡ otherwise ys (acceptor_mark m) (acceptor_after on (silenced ys) m)
    unfolding keep_if
    by_lists [] = refl
    by_lists (z ∷ zs) = none_left (without_sigmas s (z ∷ zs))

    same_operand : (sigma mode : ℕ) (allowed : Option (List ℕ)) → operand_under (ignored_by s l) on m sigma mode allowed ≡ operand_silenced xs l.ignored on m sigma mode allowed
    same_operand sigma mode allowed =
        (λ i. operand_by on (relabelled on (read i) (machine_of m)) (mark_read on l.ignored m) (otherwise l.ignored (acceptor_mark m) (acceptor_after on (read i) m)) sigma mode allowed)
        ∙ ap (λ (k : ℕ). operand_by on (relabelled on (silenced xs) (machine_of m)) (mark_read on l.ignored m) k sigma mode allowed) (by_lists l.ignored)

  module _ (L : Layout) where
    first : well_formed_up_to L.limit l.m1 ≡ true → operand1 s l ≡ silenced1 xs l.ignored s l
    first formed = same_operand L.limit outputs l.m1 formed s.sigma1 s.mode1 l.allowed1

    second : well_formed_up_to L.limit l.m2 ≡ true → operand2 s l ≡ silenced2 xs l.ignored s l
    second formed = same_operand L.limit inputs l.m2 formed s.sigma2 s.mode2 l.allowed2

    as_without : AsSilenced L s l xs
    unfolding side_for_with words_replaced
    as_without = record {
      side = ap (refuse_if (not (settings_ok s)) 1)
          (past (well_formed_up_to L.limit l.m1) 2 _ _ (λ f. past (well_formed_up_to L.limit l.m2) 3 _ _ (λ g. ap (refuse_if (not (ignored_ok l.ignored)) 18) (λ i. side_of (first f i) (second g i)))));
      composition = λ f g side. λ i. record { kind = kind_of s.kind; filter = filter_of s.filter; side = side; operand1 = first f i; operand2 = second g i };
      words = λ i. record {
        m1 = words_relabelled outputs (read i) l.m1;
        m2 = words_relabelled inputs (read i) l.m2;
        allowed1 = l.allowed1;
        allowed2 = l.allowed2;
        ignored = [];
      };
    }

pub sigmas_exempt : SigmasExempt
sigmas_exempt L s l = as_without s l L

pub exempt_calls : ExemptCalls
exempt_calls L l formed1 formed2 some ok =
    subst (AsReplaced L l) (fun_ext (λ s. (sigmas_exempt L s l).words)) (otherwise_replaced L l formed1 formed2 some ok)

pub no_overlap : NoOverlap
no_overlap L s l a b = subst (AsSilenced L s l) (kept_whole s.sigma1 s.sigma2 l.ignored a b) (sigmas_exempt L s l)
