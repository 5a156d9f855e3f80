use Rattle.std.proofs.Common.{SFits, rules, ◌≡◌, ◌<◌, ◌++◌, ◌∷◌, [], ◌-ℤ◌, ℕ, ℤ, List, length, get_or, map, take, ◌∙◌, sym, ap, subst, All, arith}
use Rattle.std.specs.Int.{w32, w128}
use Rattle.std.proofs.lemmas.Int.{to_z-of_z}
use Rattle.std.proofs.lemmas.List.{map_more}
use Rattle.std.proofs.lemmas.List.Elements.{All-push}
use Rattle.isotopologue_sets.specs.Covers.{Member}
use Rattle.formula_text.specs.Formulas.{atoms_of}
use Rattle.isotopologue_text.specs.Isotopologues.{IsIsotopologueOf, isotopologue_mass_of}
use Rattle.isotopologue_text.specs.Weighed.{Weighed, weighed_mass}
use Rattle.isotopologue_text.proofs.CountsLemmas.{counts-agree, counts-few}
use Rattle.cover_certificate.proofs.PrintedMembers.{is_isotopologue_of}
use Rattle.prediction_score.specs.declared.predicted.Predicted.{Predicted}
use Rattle.prediction_score.specs.Scores.{IsPredicted}
use Rattle.ranking.specs.Predictions.{electrons_of, predicted_member}
use Rattle.ranking.proofs.IonMasses.{IsMassOf, isotopologue-IsMassOf, ion-in_range, some-atoms, fits-ion}
use Rattle.ranking.proofs.CoverPredictions.{predicted_member-is}
use Rattle.ranking.proofs.prediction.members_of.Goals as goal
use Rattle.ranking.proofs.prediction.members_of.Goals.{After-counts-counts}

none : Member
none = record { counts = []; lo = 0; hi = 0 }

of_ion : (c : After-counts-counts) → IsIsotopologueOf c.args.table.now c.args.ion.now c.counts-counts.result.now
of_ion c =
    let ms : List Member = c.args.layer.now.members in
    let within : c.loop-place.place < length ms =
    omega (arith, c.loop-place-test.true, c.size-place-end.ensures.within) in
    is_isotopologue_of c.args.table.now c.args.ion.now (get_or ms c.loop-place.place none) c.counts-counts.result.now
    (c.requires.isotopologues c.loop-place.place none within) (c.counts-counts.ensures none)

pub mass-mass-requires-clause-agree : goal.mass-mass-requires-clause-agree
mass-mass-requires-clause-agree c =
    counts-agree c.args.table.now c.args.ion.now c.counts-counts.result.now
    (of_ion (goal.at.mass-mass-requires-clause-agree c).After-counts-counts)
    ∙ ap (λ (w : Weighed). length w.isotopes) (sym c.in_ok-masses.ensures)

pub mass-mass-requires-clause-few_atoms : goal.mass-mass-requires-clause-few_atoms
mass-mass-requires-clause-few_atoms c =
    omega (
      arith,
      counts-few c.args.table.now c.args.ion.now c.counts-counts.result.now
          (of_ion (goal.at.mass-mass-requires-clause-few_atoms c).After-counts-counts),
      c.requires.formula.parts.few_atoms,
    )

pub loop-place-preserved : goal.loop-place-preserved
loop-place-preserved c =
    let fits : SFits w32 c.args.charge = c.ranges.charge in
    let table = c.args.table.now in
    let ion = c.args.ion.now in
    let charge : ℤ = c.args.charge in
    let ms : List Member = c.args.layer.now.members in
    let i : ℕ = c.loop-place.place in
    let counts : List ℕ = c.counts-counts.result.now in
    let mass : ℕ = c.mass-mass.result in
    let lo : ℕ = c.enclosure-enclosure.result.lo in
    let electrons : ℤ = c.electrons_of-electrons.result in
    let within : i < length ms = omega (arith, c.loop-place-test.true, c.size-place-end.ensures.within) in
    let of : IsIsotopologueOf table ion counts = of_ion (goal.at.loop-place-preserved c).After-counts-counts in
    let mass_is : mass ≡ isotopologue_mass_of table ion counts =
    c.mass-mass.ensures ∙ ap (λ (w : Weighed). weighed_mass w counts) c.in_ok-masses.ensures in
    let electrons_is : electrons ≡ electrons_of table charge =
    simp to_z-of_z at c.electrons_of-electrons.ensures.mass in
    let value : Predicted = record { mass = c.from.result -ℤ electrons; lo = lo } in
    let is : value ≡ predicted_member table ion charge (get_or ms i none) =
    ap (λ (z : ℤ). let p : Predicted = record { mass = z -ℤ electrons; lo = lo } in p) c.from.ensures
    ∙ predicted_member-is table ion charge electrons (get_or ms i none) counts mass lo (c.counts-counts.ensures none)
    mass_is (c.enclosure-enclosure.ensures.lo none) electrons_is in
    let weighs : IsMassOf (atoms_of ion) mass =
    subst (IsMassOf (atoms_of ion)) (sym mass_is)
    (isotopologue-IsMassOf table ion counts c.electrons_of-electrons.ensures.table c.requires.known of) in
    let range = ion-in_range (atoms_of ion) mass electrons (some-atoms ion c.requires.formula)
    c.requires.formula.parts.few_atoms weighs c.electrons_of-electrons.ensures.light in
    let in_range : IsPredicted value = record {
      some_mass = rw c.from.ensures range.0;
      mass_in_range = rw c.from.ensures range.1;
    } in
    let fits_mass : SFits w128 c.from.result = search rules in
    let fits_electrons : SFits w128 electrons = search rules in
    let fits_rest : SFits w128 (c.from.result -ℤ electrons) =
    fits-ion (c.from.result -ℤ electrons) in_range.some_mass in_range.mass_in_range in
    let pushed : c.push.new.self.items ≡ c.loop-place.members.items ++ value ∷ [] =
    simp to_z-of_z at c.in_ok-push.ensures.items in
    record {
      members =
          simp to_z-of_z
          (pushed
          ∙ ap (λ found. found ++ value ∷ []) (simp to_z-of_z at c.loop-place.invariant.members)
          ∙ ap (λ p. map (predicted_member table ion charge) (take i ms) ++ p ∷ []) is
          ∙ sym (map_more (predicted_member table ion charge) ms i none within));
      masses =
          subst (All IsPredicted) (sym pushed)
          (All-push IsPredicted c.loop-place.members.items value c.loop-place.invariant.masses in_range);
    }
