-- What a threshold leaves for the first elements, element by element.
use Rattle.std.proofs.Common.{◌≡◌, ◌≢◌, ℕ, suc, ◌+◌, ◌-◌, ◌*◌, ◌<◌, ◌≤◌, List, [], ◌∷◌, length, get_or, set, take, drop}
use Rattle.std.proofs.Common.{fold, ◌∙◌, subst, arith, ⊎_elim, All, length-set}
use Rattle.std.specs.Prelude.{◌↔◌}
use Rattle.std.proofs.Math.Nat.{le_trans}
use Rattle.std.proofs.lemmas.Bool.{cases_lt}
use Rattle.std.proofs.lemmas.List.{length-drop, take_all, drop_more, drop_all, get_or_default, get_or-set_same, get_or-set_other}
use Rattle.multinomial_bounds.specs.Bounds.{certainty, ceiling_of}
use Rattle.sub_isotopologues.specs.SubIsotopologues.{raised}
use Rattle.sub_isotopologues.specs.Listings.{Listing}
use Rattle.layered_envelope.specs.ChosenPlaces.{firsts}
use Rattle.layered_envelope.specs.Walks.{upper, his_of}
use Rattle.layered_envelope.specs.Cutoffs.{IsCutoff, AreCutoffs}
use Rattle.layered_envelope.proofs.RoundedProducts.{upper-le_left}

-- the same of a list, whose products are written out
pub IsCutoff-raised : (t : ℕ) (later : List ℕ) (cutoff : ℕ) → IsCutoff t later cutoff →
    (hi : ℕ) → hi ≤ certainty → (t < raised hi later) ↔ (cutoff < hi)
unfolding raised upper
IsCutoff-raised t later cutoff is = is

-- what is left for all is the threshold
pub IsCutoff-none : (t : ℕ) → IsCutoff t [] t
IsCutoff-none t x le = ((λ h. h), (λ h. h))

-- one element more is taken back
pub IsCutoff-more : (t : ℕ) (modes : List ℕ) (k cutoff cutoff' : ℕ) → k < length modes → get_or modes k 0 ≤ certainty →
    IsCutoff t (drop (k + 1) modes) cutoff →
    ((hi : ℕ) → hi ≤ certainty → (cutoff < ceiling_of (hi * get_or modes k 0) certainty) ↔ (cutoff' < hi)) →
    IsCutoff t (drop k modes) cutoff'
unfolding upper
IsCutoff-more t modes k cutoff cutoff' within most is factor x le =
    let m : ℕ = get_or modes k 0 in
    let small : upper x m ≤ certainty = le_trans (upper-le_left x m most) le in
    let here : (cutoff < upper x m) ↔ (cutoff' < x) = factor x le in
    let later : (t < fold upper (upper x m) (drop (k + 1) modes)) ↔ (cutoff < upper x m) = is (upper x m) small in
    rw (drop_more modes k 0 within) ((λ h. here.0 (later.0 h)), (λ h. later.1 (here.1 h)))

-- those of the elements from n on
pub record AreFrom (t n : ℕ) (modes cutoffs : List ℕ) (cutoff : ℕ) : Type 0 where
  pub many : length cutoffs ≡ length modes
  pub most : cutoff ≤ certainty
  pub next : IsCutoff t (drop n modes) cutoff
  pub at : (k : ℕ) → n ≤ k → k < length modes → IsCutoff t (drop (k + 1) modes) (get_or cutoffs k 0)
  pub at_most : (k : ℕ) → n ≤ k → k < length modes → get_or cutoffs k 0 ≤ certainty

module _ (t : ℕ) (modes cutoffs : List ℕ) where
  pub AreFrom-none : length cutoffs ≡ length modes → t ≤ certainty → AreFrom t (length modes) modes cutoffs t
  AreFrom-none many most =
      let all : drop (length modes) modes ≡ [] = drop_all (length modes) modes (omega arith) in
      record {
        many = many;
        most = most;
        next = rw all (IsCutoff-none t);
        at = λ k from within. absurd (omega arith);
        at_most = λ k from within. absurd (omega arith);
      }

  pub AreFrom-more : (k cutoff cutoff' : ℕ) → k < length modes → get_or modes k 0 ≤ certainty →
      AreFrom t (k + 1) modes cutoffs cutoff → cutoff' ≤ certainty →
      ((hi : ℕ) → hi ≤ certainty → (cutoff < ceiling_of (hi * get_or modes k 0) certainty) ↔ (cutoff' < hi)) →
      AreFrom t k modes (set cutoffs k cutoff) cutoff'
  AreFrom-more k cutoff cutoff' within most are small factor =
      let inside : k < length cutoffs = omega (arith, are.many) in
      record {
        many = length-set cutoffs k cutoff ∙ are.many;
        most = small;
        next = IsCutoff-more t modes k cutoff cutoff' within most are.next factor;
        at = λ j from in_list.
            ⊎_elim {C = IsCutoff t (drop (j + 1) modes) (get_or (set cutoffs k cutoff) j 0)}
            (λ (above : k < j).
            let apart : j ≢ k = omega arith in
            rw (get_or-set_other cutoffs k j cutoff 0 apart) (are.at j (omega arith) in_list))
            (λ (to : j ≤ k).
            let same : k ≡ j = omega arith in
            subst (λ (i : ℕ). IsCutoff t (drop (i + 1) modes) (get_or (set cutoffs k cutoff) i 0)) same
            (rw (get_or-set_same cutoffs k cutoff 0 inside) are.next))
            (cases_lt k j);
        at_most = λ j from in_list.
            ⊎_elim {C = get_or (set cutoffs k cutoff) j 0 ≤ certainty}
            (λ (above : k < j).
            let apart : j ≢ k = omega arith in
            rw (get_or-set_other cutoffs k j cutoff 0 apart) (are.at_most j (omega arith) in_list))
            (λ (to : j ≤ k).
            let same : k ≡ j = omega arith in
            subst (λ (i : ℕ). get_or (set cutoffs k cutoff) i 0 ≤ certainty) same
            (rw (get_or-set_same cutoffs k cutoff 0 inside) are.most))
            (cases_lt k j);
      }

  pub AreFrom-all : (cutoff : ℕ) → AreFrom t 0 modes cutoffs cutoff →
      AreCutoffs t modes cutoffs × All (λ b. b ≤ certainty) cutoffs
  AreFrom-all cutoff are = (
    record { as_many = are.many; at = λ k within. are.at k (omega arith) within },
    λ k d inside. rw (get_or_default cutoffs k d 0 inside) (are.at_most k (omega arith) (omega (arith, are.many))),
  )

-- that of the first list, and those of the later ones
module _ (t : ℕ) (l : Listing) (ls : List Listing) (cutoffs : List ℕ)
    (are : AreCutoffs t (firsts (his_of (l ∷ ls))) cutoffs) where
  pub cutoff_first : IsCutoff t (firsts (his_of ls)) (get_or cutoffs 0 0)
  cutoff_first = are.at 0 (omega arith)

  cutoffs_later : AreCutoffs t (firsts (his_of ls)) (drop 1 cutoffs)
  cutoffs_later = later cutoffs are
    where
      later : (cutoffs : List ℕ) → AreCutoffs t (firsts (his_of (l ∷ ls))) cutoffs →
          AreCutoffs t (firsts (his_of ls)) (drop 1 cutoffs)
      later [] are = absurd (omega (arith, are.as_many))
      later (b ∷ bs) are = record {
        as_many = omega (arith, are.as_many);
        at = λ k within.
            let more : suc k + 1 ≡ suc (k + 1) = omega arith in
            subst (λ (n : ℕ). IsCutoff t (drop n (firsts (his_of (l ∷ ls)))) (get_or bs k 0)) more
            (are.at (suc k) (omega arith));
      }

  pub cutoffs_part : AreCutoffs t (firsts (his_of ls)) (take (length cutoffs - 1) (drop 1 cutoffs))
  cutoffs_part =
      rw (take_all (length cutoffs - 1) (drop 1 cutoffs) (omega (arith, length-drop 1 cutoffs))) cutoffs_later
