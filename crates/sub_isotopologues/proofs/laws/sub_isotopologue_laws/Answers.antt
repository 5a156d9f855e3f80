-- The laws are lemmas on the definitions.
use Rattle.std.proofs.Common.{◌<◌, refl}
use Rattle.std.proofs.lemmas.List.Elements.{All-contains}
use Rattle.multinomial_bounds.specs.Weight.{IsCounts}
use Rattle.multinomial_bounds.specs.Bounds.{ceiling_of}
use Rattle.multinomial_bounds.specs.Mode.{mode_of_atoms}
use Rattle.multinomial_bounds.specs.Path.{atoms_above, bound_of}
use Rattle.sub_isotopologues.specs.SubIsotopologues.{product_with}
use Rattle.sub_isotopologues.specs.Listings.{counts_above}
use Rattle.sub_isotopologues.proofs.Descent.{hi-le-mode}
use Rattle.sub_isotopologues.proofs.ListLaws.{counts_above-IsCounts, counts_above-above, Contains-counts_above}
use Rattle.sub_isotopologues.proofs.ListLaws.{counts_above-lexicographic, counts_above-order, product_with-rises}
use Rattle.sub_isotopologues.proofs.laws.sub_isotopologue_laws.Goals as goal

pub returns-clause-members : goal.returns-clause-members
returns-clause-members c l counts = (
  λ member. (
    All-contains (IsCounts l.element.weights l.element.atoms) (counts_above l) counts (counts_above-IsCounts l) member,
    All-contains (λ c. l.threshold < product_with l.before l.after (bound_of ceiling_of l.element.weights c))
        (counts_above l)
        counts (counts_above-above l) member,
  ),
  λ both. Contains-counts_above l counts both.0 both.1,
)

pub returns-clause-each_once : goal.returns-clause-each_once
returns-clause-each_once c l = counts_above-lexicographic l

pub returns-clause-order : goal.returns-clause-order
returns-clause-order c l = counts_above-order l

pub returns-clause-rises : goal.returns-clause-rises
returns-clause-rises c before after lower higher le = product_with-rises before after lower higher le

pub returns-clause-mode_greatest : goal.returns-clause-mode_greatest
returns-clause-mode_greatest c weights counts atoms ok is =
    hi-le-mode weights atoms ok (atoms_above (mode_of_atoms weights atoms) counts) counts is refl
