use Rattle.std.proofs.Common.{length, arith, rules, ap, sym, ◌∙◌}
use Rattle.isotopologue_text.specs.Isotopologues.{IsIsotopologueOf}
use Rattle.isotopologue_text.specs.Weighed.{Weighed}
use Rattle.isotopologue_text.proofs.CountsLemmas.{counts-agree, counts-few}
use Rattle.isotopologue_text.proofs.tests.expect_mass.Goals as goal

pub mass-requires-clause-agree : goal.mass-requires-clause-agree
mass-requires-clause-agree g c =
    let of : IsIsotopologueOf c.in_ok-table.table c.args.formula.now c.args.counts.now = search rules in
    counts-agree c.in_ok-table.table c.args.formula.now c.args.counts.now of
    ∙ ap (λ (w : Weighed). length w.isotopes) (sym c.in_ok-masses.ensures)

pub mass-requires-clause-few_atoms : goal.mass-requires-clause-few_atoms
mass-requires-clause-few_atoms g c =
    let of : IsIsotopologueOf c.in_ok-table.table c.args.formula.now c.args.counts.now = search rules in
    omega (
      arith,
      counts-few c.in_ok-table.table c.args.formula.now c.args.counts.now of,
      c.atoms.ensures.formula.parts.few_atoms,
    )
