-- The answer that is computed is the one that the reading of an adduct's text allows.
use Rattle.std.proofs.Common.{◌≡◌, ℕ, ℤ, List, [], ◌∷◌, ◌++◌, refl, sym, ap, ◌∙◌, subst, inl, inr}
use Rattle.std.specs.Prelude.{Option, Some, None, Result, Ok, Err, slice_get}
use Rattle.element_table.specs.Elements.{TableEntries}
use Rattle.reader_answers.specs.BadPlaces.{IsBadPlace}
use Rattle.reader_answers.proofs.BadPlaceLaws.{one-bad-place, bad-place-no-text}
use Rattle.written_items.specs.declared.item.Item.{Item}
use Rattle.formula_text.proofs.SumLimits.{same_sums, sum_of-AreSums}
use Rattle.adducts.specs.declared.fault.AdductFault.{AdductFault}
use Rattle.adducts.specs.declared.fault.AdductFault.TheVariants as fault
use Rattle.adducts.specs.AdductTexts.{WrittenIon, IsAdductOf, IsAdductText}
use Rattle.adducts.specs.Adducts.{AdductValue}
use Rattle.adducts.specs.AdductReadings.{AdductReading, IsGrammarFault, IsWritten, faults_of, added_counts, lost_counts}
use Rattle.adducts.specs.AdductReader.{Nothing, read_from, adduct_in, unless_faults, answer_of, adduct_of}
use Rattle.adducts.proofs.WrittenAdducts.{read-written}
use Rattle.adducts.proofs.ReadTexts.{read-whole}
use Rattle.adducts.proofs.BadPlaces.{read-bad}

-- ---- what is computed is allowed

written_meaning : (table : TableEntries) (text : List ℕ) (written : Option WrittenIon) (faults : List AdductFault)
    → IsAdductOf written text → faults_of table written ≡ faults
    → AdductReading table text (unless_faults faults (adduct_in written))
written_meaning table text written [] is e = (
  written,
  is,
  e,
  record {
    copies = refl;
    added = sum_of-AreSums (added_counts written);
    lost = sum_of-AreSums (lost_counts written);
    charge = refl;
  },
)
written_meaning table text written (first ∷ faults) is e = inr (written, is, ap (λ fs. slice_get fs 0) e)

pub reading-meaning : (table : TableEntries) (text : List ℕ) → AdductReading table text (adduct_of table text)
unfolding adduct_of
reading-meaning table text =
    elim (read_from text Nothing 0) as (λ r. read_from text Nothing 0 ≡ r → AdductReading table text (answer_of table r)) [
      | Err place ↦ λ e. inl (read-bad text place e)
      | Ok written ↦ λ e. written_meaning table text written (faults_of table written) (read-whole text written e) refl
    ] refl

-- ---- nothing else is allowed

pub answer-written : (table : TableEntries) (text : List ℕ) (written : Option WrittenIon) → IsAdductOf written text
    → adduct_of table text ≡ unless_faults (faults_of table written) (adduct_in written)
unfolding adduct_of
answer-written table text written is = ap (answer_of table) (read-written written text is)

same_adduct : (written : Option WrittenIon) (adduct : AdductValue) → IsWritten written adduct → adduct ≡ adduct_in written
same_adduct written adduct is =
    ap (λ (c : ℕ). record { copies = c; added = adduct.added; lost = adduct.lost; charge = adduct.charge }) is.copies
    ∙ ap (λ (l : List (Item × ℕ)). record { copies = (adduct_in written).copies; added = l; lost = adduct.lost; charge = adduct.charge }) (same_sums (added_counts written) adduct.added is.added)
    ∙ ap (λ (l : List (Item × ℕ)). record { copies = (adduct_in written).copies; added = (adduct_in written).added; lost = l; charge = adduct.charge }) (same_sums (lost_counts written) adduct.lost is.lost)
    ∙ ap (λ (z : ℤ). record { copies = (adduct_in written).copies; added = (adduct_in written).added; lost = (adduct_in written).lost; charge = z }) is.charge

first_fault : (faults : List AdductFault) (adduct : AdductValue) (first : AdductFault) → slice_get faults 0 ≡ Some first
    → unless_faults faults adduct ≡ Err first
first_fault [] adduct first e = cc
first_fault (f ∷ faults) adduct first e = let same : f ≡ first = cc in ap Err same

bad_answer : (table : TableEntries) (text : List ℕ) (place : ℕ) → IsBadPlace IsAdductText text place
    → adduct_of table text ≡ Err (fault.BadText place)
unfolding adduct_of
bad_answer table text place bad =
    elim (read_from text Nothing 0) as (λ r. read_from text Nothing 0
    ≡ r → answer_of table r ≡ Err (fault.BadText place)) [
      | Err other ↦ λ e. ap (λ p. Err (fault.BadText p)) (one-bad-place IsAdductText text other place (read-bad text other e) bad)
      | Ok written ↦ λ e. absurd (bad-place-no-text IsAdductText text place bad (written, read-whole text written e))
    ] refl

grammar_answer : (table : TableEntries) (text : List ℕ) (f : AdductFault) → IsGrammarFault text f
    → adduct_of table text ≡ Err f
grammar_answer table text (fault.BadText place) bad = bad_answer table text place bad
grammar_answer table text (fault.UnknownSymbol place) bad = absurd bad
grammar_answer table text fault.TooManyAtoms bad = absurd bad
grammar_answer table text fault.TooManyElements bad = absurd bad
grammar_answer table text fault.Copies bad = absurd bad
grammar_answer table text fault.Charge bad = absurd bad
grammar_answer table text fault.Memory bad = absurd bad

only_answer : (table : TableEntries) (text : List ℕ) (answer : Result AdductValue AdductFault)
    → AdductReading table text answer → adduct_of table text ≡ answer
only_answer table text (Ok adduct) h =
    answer-written table text h.0 h.1 ∙ ap (λ fs. unless_faults fs (adduct_in h.0)) h.2
    ∙ ap Ok (sym (same_adduct h.0 adduct h.3))
only_answer table text (Err f) (inl bad) = grammar_answer table text f bad
only_answer table text (Err f) (inr h) =
    answer-written table text h.0 h.1 ∙ first_fault (faults_of table h.0) (adduct_in h.0) f h.2

pub reading-only : (table : TableEntries) (text : List ℕ) (answer : Result AdductValue AdductFault)
    → AdductReading table text answer → answer ≡ adduct_of table text
reading-only table text answer h = sym (only_answer table text answer h)
