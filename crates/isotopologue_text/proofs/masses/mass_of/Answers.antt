use Rattle.std.proofs.Common.{◌+◌, ◌*◌, ◌≤◌, ◌<◌, ℕ, get_or, take, length, arith, ap, sym, ◌∙◌}
use Rattle.std.proofs.Math.Nat.{mul-le-mul_left}
use Rattle.element_table.specs.declared.element.Isotope.{Isotope}
use Rattle.isotopologue_text.specs.Isotopologues.{counts_mass}
use Rattle.isotopologue_text.proofs.CountsLemmas.{counts_mass-more, sum-more}
use Rattle.isotopologue_text.proofs.masses.mass_of.Goals as goal

pub loop-place-preserved : goal.loop-place-preserved
loop-place-preserved c =
    let i : ℕ = c.loop-place.place in
    let none : Isotope = record { number = 0; mass = 0; weight = 0 } in
    let within : i < length c.args.isotopes.now = c.loop-place-test.true in
    let inside : i < length c.args.counts.now = omega (arith, c.requires.agree, within) in
    let is = c.requires.isotopes i none within in
    let part : c.from.result * (get_or c.args.isotopes.now i none).mass ≤ c.from.result * 400000000000000 =
    mul-le-mul_left c.from.result is.mass_to in
    record {
      mass =
          ap (λ (n : ℕ). n + c.from.result * (get_or c.args.isotopes.now i none).mass) c.loop-place.invariant.mass
          ∙ ap (λ (n : ℕ). counts_mass (take i c.args.isotopes.now) (take i c.args.counts.now)
          + n * (get_or c.args.isotopes.now i none).mass) c.from.ensures
          ∙ sym (counts_mass-more c.args.isotopes.now c.args.counts.now i none 0 within inside);
      bound =
          omega (arith, c.loop-place.invariant.bound, part, sum-more c.args.counts.now i 0 inside, c.from.ensures);
    }
