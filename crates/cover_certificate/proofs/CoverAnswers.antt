-- A formula has a cover where its elements have a reaching layer, and a layer of too many members where they have.
use Rattle.std.proofs.Common.{◌≡◌, ℕ, Bool, true, false, cond, List, map, Result, Ok, Err, refl}
use Rattle.reader_answers.specs.Answers.{Gives}
use Rattle.isotopologue_sets.specs.Layers.{has_too_many, last_threshold_for}
use Rattle.isotopologue_sets.specs.Covers.{CoverNumbers, cover_numbers}
use Rattle.reaching_layer.specs.LayerAnswers.{is_memory, numbers_unless_too_many}
use Rattle.reaching_layer.specs.declared.fault.CoverFault.{CoverFault}
use Rattle.reaching_layer.specs.declared.fault.CoverFault.TheVariants.{TooMany, Memory}
use Rattle.element_table.specs.Elements.{TableEntries}
use Rattle.written_items.specs.declared.item.Item.{Item}
use Rattle.isotopologue_text.specs.Isotopologues.{formula_elements}
use Rattle.isotopologue_text.specs.Printed.{Printed, printed_isotopes}
use Rattle.cover_certificate.specs.FormulaCovers.{CoverEntries, member_entry, printed_cover, cover_of, cover_unless_too_many}
use Rattle.cover_certificate.proofs.PrintedMembers.{printed_are_entries}

-- either answer or the fault, by the same test
still_many : {A B : Type 0} (many : Bool) (t told : ℕ) (a : A) (b : B) →
    (let answer : Result A CoverFault = cond many (Err (TooMany t)) (Ok a) in answer) ≡ Err (TooMany told) →
    (let answer : Result B CoverFault = cond many (Err (TooMany t)) (Ok b) in answer) ≡ Err (TooMany told)
still_many {A} {B} true t told a b e =
    let both : ◌≡◌ {A = Result A CoverFault} (Err (TooMany t)) (Err (TooMany told)) = e in
    let same : t ≡ told = cc in
    rw same refl
still_many {A} {B} false t told a b e =
    absurd (let both : ◌≡◌ {A = Result A CoverFault} (Ok a) (Err (TooMany told)) = e in cc)

still_there : {A B : Type 0} (many : Bool) (t : ℕ) (a found : A) (b : B) →
    (let answer : Result A CoverFault = cond many (Err (TooMany t)) (Ok a) in answer) ≡ Ok found →
    (a ≡ found) × ((let answer : Result B CoverFault = cond many (Err (TooMany t)) (Ok b) in answer) ≡ Ok b)
still_there {A} {B} true t a found b e =
    absurd (let both : ◌≡◌ {A = Result A CoverFault} (Err (TooMany t)) (Ok found) = e in cc)
still_there {A} {B} false t a found b e =
    (let both : ◌≡◌ {A = Result A CoverFault} (Ok a) (Ok found) = e in cc, refl)

module _ (table : TableEntries) (formula : List (Item × ℕ)) (coverage : ℕ) where
  -- the cover that has the numbers of a layer
  abbrev pub with_numbers : CoverNumbers → CoverEntries
  with_numbers numbers =
      record {
        formula = formula;
        coverage = coverage;
        threshold = numbers.threshold;
        size = numbers.size;
        bound = numbers.bound;
        layer = map (member_entry table formula) numbers.members;
      }

  pub cover_answer : (numbers : CoverNumbers) → numbers_unless_too_many (formula_elements table formula) coverage
      ≡ Ok numbers →
      cover_unless_too_many table formula coverage ≡ Ok (with_numbers numbers)
  unfolding cover_of
  cover_answer numbers found =
      let t : ℕ = last_threshold_for (formula_elements table formula) coverage in
      let many : Bool = has_too_many (formula_elements table formula) t in
      let all : CoverNumbers = cover_numbers (formula_elements table formula) coverage in
      let parts = still_there many t all numbers (with_numbers all) found in
      rw (← parts.0) parts.1

  pub fault_answer : (fault : CoverFault) →
      Gives is_memory (Err fault) (numbers_unless_too_many (formula_elements table formula) coverage) →
      Gives is_memory (Err fault) (cover_unless_too_many table formula coverage)
  fault_answer Memory given = given
  fault_answer (TooMany told) given =
      let t : ℕ = last_threshold_for (formula_elements table formula) coverage in
      still_many (has_too_many (formula_elements table formula) t) t told
      (cover_numbers (formula_elements table formula) coverage) (cover_of table formula coverage) given

  -- it is the cover that is printed with what is found once for the formula
  pub printed_cover_is : (parts : List (Item × ℕ)) (printed : Printed) (numbers : CoverNumbers) → parts ≡ formula →
      printed ≡ printed_isotopes table formula → with_numbers numbers ≡ printed_cover parts coverage printed numbers
  printed_cover_is parts printed numbers same is =
      rw (same, is, printed_are_entries table formula numbers.members) refl
