-- An ion has a prediction where its elements have a reaching layer, and its members' lower bounds total at most 1.
use Rattle.std.proofs.Common.{◌≡◌, ℕ, ℤ, Bool, true, false, cond, pos, ◌-ℤ◌, ◌*◌, ◌+◌, ◌≤◌, List, [], ◌∷◌, ◌++◌, map}
use Rattle.std.proofs.Common.{take, drop, ltb, refl, sym, ◌∙◌, ap, arith, All}
use Rattle.std.specs.Prelude.{Result, Ok, Err, not, sum_by}
use Rattle.std.specs.List.{concat}
use Rattle.std.proofs.Math.Nat.{le_of_mul-le-mul_right}
use Rattle.std.proofs.lemmas.List.{take-append-drop, take-map}
use Rattle.std.proofs.lemmas.List.Filters.{sum_by-filter_both}
use Rattle.std.proofs.lemmas.List.Sums.{sum_by-cons, sum_by-append}
use Rattle.reader_answers.specs.Answers.{Gives, ◌>>=◌}
use Rattle.multinomial_bounds.specs.Bounds.{certainty}
use Rattle.multinomial_bounds.specs.Isotopologue.{Element, all_weight}
use Rattle.multinomial_bounds.specs.Compositions.{isotopologues_of}
use Rattle.multinomial_bounds.proofs.IsotopologueList.{isotopologues_of-IsIsotopologue}
use Rattle.multinomial_bounds.proofs.SumOfWeights.{weights-sum}
use Rattle.isotopologue_sets.specs.Layers.{AreElements, lo_of, hi_of, lo_total, layer, reaching_threshold, has_too_many, last_threshold_for}
use Rattle.isotopologue_sets.specs.Covers.{Member, CoverNumbers, member_of, cover_numbers, ordered_layer, size_for}
use Rattle.isotopologue_sets.proofs.LayerLaws.{lo_total-ordered_layer}
use Rattle.isotopologue_sets.proofs.SetBounds.{all_weight-positive, lo_total-le-weight}
use Rattle.reaching_layer.specs.LayerAnswers.{is_memory, numbers_unless_too_many}
use Rattle.reaching_layer.specs.declared.fault.CoverFault.{CoverFault}
use Rattle.reaching_layer.specs.declared.fault.CoverFault.TheVariants.{TooMany, Memory}
use Rattle.element_table.specs.Elements.{TableEntries}
use Rattle.written_items.specs.declared.item.Item.{Item}
use Rattle.isotopologue_text.specs.Isotopologues.{formula_elements, isotopologue_mass_of}
use Rattle.cover_certificate.specs.FormulaCovers.{member_entry}
use Rattle.cover_certificate.proofs.CoverAnswers.{cover_answer, fault_answer}
use Rattle.prediction_score.specs.declared.predicted.Predicted.{Predicted}
use Rattle.prediction_score.specs.Scores.{ArePredicted, IsPredicted}
use Rattle.ranking.specs.Predictions.{PredictionEntries, electrons_of, predicted_of, prediction_of, predicted_member, prediction_unless_too_many}

module _ (table : TableEntries) (ion : List (Item × ℕ)) (charge : ℤ) where
  predicted_members : (ms : List Member) →
      map (predicted_of table charge) (map (member_entry table ion) ms) ≡ map (predicted_member table ion charge) ms
  predicted_members [] = refl
  predicted_members (m ∷ ms) = ap (λ ps. predicted_member table ion charge m ∷ ps) (predicted_members ms)

  -- the prediction of the numbers of a cover
  abbrev pub with_numbers : CoverNumbers → PredictionEntries
  with_numbers numbers =
      record {
        size = numbers.size;
        bound = numbers.bound;
        members = map (predicted_member table ion charge) (take numbers.size numbers.members);
      }

  module _ (coverage : ℕ) where
    pub prediction_answer : (numbers : CoverNumbers) →
        numbers_unless_too_many (formula_elements table ion) coverage ≡ Ok numbers →
        prediction_unless_too_many table ion charge coverage ≡ Ok (with_numbers numbers)
    unfolding prediction_unless_too_many
    prediction_answer numbers found =
        let firsts : take numbers.size (map (member_entry table ion) numbers.members)
        ≡ map (member_entry table ion) (take numbers.size numbers.members) =
        take-map (member_entry table ion) numbers.size numbers.members in
        ap (λ r. r >>= λ cover. Ok (prediction_of table charge cover)) (cover_answer table ion coverage numbers found)
        ∙ ap (λ (ms : List Predicted).
        let p : PredictionEntries = record { size = numbers.size; bound = numbers.bound; members = ms } in
        let r : Result PredictionEntries CoverFault = Ok p in r)
        (ap (map (predicted_of table charge)) firsts ∙ predicted_members (take numbers.size numbers.members))

    pub prediction_fault : (fault : CoverFault) →
        Gives is_memory (Err fault) (numbers_unless_too_many (formula_elements table ion) coverage) →
        Gives is_memory (Err fault) (prediction_unless_too_many table ion charge coverage)
    unfolding prediction_unless_too_many
    prediction_fault Memory given = given
    prediction_fault (TooMany told) given =
        ap (λ r. r >>= λ cover. Ok (prediction_of table charge cover)) (fault_answer table ion coverage (TooMany told) given)

-- ---- the lower bounds

module _ (es : List Element) (ok : AreElements es) where
  lo_total-all : lo_total es (isotopologues_of es) ≤ certainty
  lo_total-all =
      let most : lo_total es (isotopologues_of es) * all_weight es ≤ certainty * all_weight es =
      rw (weights-sum es) at (lo_total-le-weight es ok (isotopologues_of es) (isotopologues_of-IsIsotopologue es)) in
      le_of_mul-le-mul_right most (all_weight-positive es ok.weights)

  lo_total-layer : (threshold : ℕ) → lo_total es (layer es threshold) ≤ certainty
  unfolding layer
  lo_total-layer threshold =
      omega (
        arith,
        lo_total-all,
        sum_by-filter_both (λ i. ltb threshold (hi_of es i)) (λ i. not (ltb threshold (hi_of es i))) (λ i. refl)
            (lo_of es) (isotopologues_of es),
      )

  lo_total-first : (n : ℕ) (set : List (List (List ℕ))) → lo_total es (take n set) ≤ lo_total es set
  lo_total-first n set =
      let parts = sum_by-append (lo_of es) (take n set) (drop n set) in
      let whole : lo_total es (take n set ++ drop n set) ≡ lo_total es set = ap (lo_total es) (take-append-drop n set) in
      omega (arith, parts, whole)

  members-lo : (set : List (List (List ℕ))) → sum_by (λ (m : Member). m.lo) (map (member_of es) set) ≡ lo_total es set
  members-lo [] = refl
  members-lo (i ∷ set) =
      sum_by-cons (λ (m : Member). m.lo) (member_of es i) (map (member_of es) set)
      ∙ ap (λ (n : ℕ). lo_of es i + n) (members-lo set)
      ∙ sym (sum_by-cons (lo_of es) i set)

  -- those of a cover's members total at most 1
  pub cover-lo : (coverage : ℕ) (numbers : CoverNumbers) → numbers ≡ cover_numbers es coverage →
      sum_by (λ (m : Member). m.lo) (take numbers.size numbers.members) ≤ certainty
  unfolding cover_numbers
  cover-lo coverage numbers are =
      let members = ordered_layer es (reaching_threshold es coverage) in
      let size = size_for es coverage members in
      let same : sum_by (λ (m : Member). m.lo) (take numbers.size numbers.members)
      ≡ sum_by (λ (m : Member). m.lo) (take size (map (member_of es) members)) =
      ap (λ (n : CoverNumbers). sum_by (λ (m : Member). m.lo) (take n.size n.members)) are in
      let firsts : sum_by (λ (m : Member). m.lo) (take size (map (member_of es) members))
      ≡ lo_total es (take size members) =
      ap (sum_by (λ (m : Member). m.lo)) (take-map (member_of es) size members) ∙ members-lo (take size members) in
      omega (
        arith,
        same,
        firsts,
        lo_total-first size members,
        lo_total-ordered_layer es (reaching_threshold es coverage),
        lo_total-layer (reaching_threshold es coverage),
      )

-- a predicted member has its lower bound
pub predicted-lo : (table : TableEntries) (ion : List (Item × ℕ)) (charge : ℤ) (ms : List Member) →
    sum_by (λ (p : Predicted). p.lo) (map (predicted_member table ion charge) ms) ≡ sum_by (λ (m : Member). m.lo) ms
unfolding member_entry
predicted-lo table ion charge [] = refl
predicted-lo table ion charge (m ∷ ms) =
    sum_by-cons (λ (p : Predicted). p.lo) (predicted_member table ion charge m) (map (predicted_member table ion charge) ms)
    ∙ ap (λ (n : ℕ). m.lo + n) (predicted-lo table ion charge ms)
    ∙ sym (sum_by-cons (λ (x : Member). x.lo) m ms)

-- what is predicted of a member
pub predicted_member-is : (table : TableEntries) (ion : List (Item × ℕ)) (charge electrons : ℤ) (m : Member)
    (counts : List ℕ) (mass lo : ℕ) → counts ≡ concat m.counts → mass ≡ isotopologue_mass_of table ion counts →
    lo ≡ m.lo → electrons ≡ electrons_of table charge →
    (let p : Predicted = record { mass = pos mass -ℤ electrons; lo = lo } in p) ≡ predicted_member table ion charge m
unfolding member_entry
predicted_member-is table ion charge electrons m counts mass lo are mass_is lo_is electrons_is =
    rw (mass_is, are, lo_is, electrons_is) refl

-- what elements have without too many members are the numbers of their cover
pub numbers-of_answer : (es : List Element) (coverage : ℕ) (numbers : CoverNumbers) →
    numbers_unless_too_many es coverage ≡ Ok numbers → numbers ≡ cover_numbers es coverage
numbers-of_answer es coverage numbers found =
    by_test (has_too_many es (last_threshold_for es coverage)) (last_threshold_for es coverage) (cover_numbers es coverage) found
  where
    by_test : (many : Bool) (t : ℕ) (all : CoverNumbers) →
        (let answer : Result CoverNumbers CoverFault = cond many (Err (TooMany t)) (Ok all) in answer) ≡ Ok numbers →
        numbers ≡ all
    by_test true t all e =
        absurd (let both : ◌≡◌ {A = Result CoverNumbers CoverFault} (Err (TooMany t)) (Ok numbers) = e in cc)
    by_test false t all e =
        let both : ◌≡◌ {A = Result CoverNumbers CoverFault} (Ok all) (Ok numbers) = e in cc

-- the members of a prediction are such as a score is made of
pub members-ArePredicted : (table : TableEntries) (ion : List (Item × ℕ)) (charge : ℤ) (coverage : ℕ)
    (numbers : CoverNumbers) (members : List Predicted) → AreElements (formula_elements table ion) →
    numbers_unless_too_many (formula_elements table ion) coverage ≡ Ok numbers →
    members ≡ map (predicted_member table ion charge) (take numbers.size numbers.members) → All IsPredicted members →
    ArePredicted members
members-ArePredicted table ion charge coverage numbers members ok answer are masses =
    let es : List Element = formula_elements table ion in
    record {
      masses = masses;
      lo_total =
          omega (
            arith,
            ap (sum_by (λ (p : Predicted). p.lo)) are,
            predicted-lo table ion charge (take numbers.size numbers.members),
            cover-lo es ok coverage numbers (numbers-of_answer es coverage numbers answer),
          );
    }
