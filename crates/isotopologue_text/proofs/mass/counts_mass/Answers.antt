-- The front item's isotopes take their counts from the front of the rest.
use Rattle.std.proofs.Common.{◌≡◌, ℕ, ◌+◌, List, arith, ap, ◌∙◌, length, drop, take, refl}
use Rattle.std.specs.Prelude.{sum}
use Rattle.std.specs.Borrow.{Bor}
use Rattle.element_table.specs.declared.element.Isotope.{Isotope}
use Rattle.isotopologue_text.specs.Isotopologues.{isotopes_of, formula_isotopes, counts_mass}
use Rattle.isotopologue_text.proofs.CountsLemmas.{isotopes-front, isotopes-skip, rest-agrees, mass-parts, sum-parts}
use Rattle.isotopologue_text.proofs.mass.counts_mass.Goals as goal
use Rattle.isotopologue_text.proofs.mass.counts_mass.Goals.{then-item-eq0, else-item-eq0}

pub loop-item-preserved : goal.loop-item-preserved
loop-item-preserved c =
    let part = c.loop-item-item.result in
    let rest = c.loop-item.rest.now in
    let all = formula_isotopes c.args.table.now (drop c.loop-item.item-index c.args.items.now) in
    let others = formula_isotopes c.args.table.now (drop (c.loop-item.item-index + 1) c.args.items.now) in
    elim c.if-item-eq0.branch [
      | then-item-eq0 w ↦
          let own = isotopes_of c.args.table.now part.0 in
          let n = w.isotope_count.result in
          let front = isotopes-front c.args.table.now c.args.items.now c.loop-item.item-index part c.loop-item-test.true
          c.loop-item-item.is w.if-item-eq0.true in
          let here : n ≡ length own = w.isotope_count.ensures ∙ ap length w.isotopes_of-isotopes.ensures.that_occur in
          let left : c.if-item-eq0.rest.now ≡ drop n rest = ap (λ (r : Bor (List ℕ)). r.now) w.rest-is ∙ w.split_at.ensures.back in
          let agrees = rest-agrees all own others rest n front here c.loop-item.invariant.agree in
          let masses = mass-parts all own others rest n front here in
          let sums = sum-parts n rest in
          let own_mass : w.element_mass-mass.result ≡ counts_mass own (take n rest) =
          w.element_mass-mass.ensures.mass
          ∙ ap (λ (xs : List Isotope). counts_mass xs w.split_at.result.0.now) w.isotopes_of-isotopes.ensures.that_occur
          ∙ ap (counts_mass own) w.split_at.ensures.front in
          let own_sum : sum w.split_at.result.0.now ≡ sum (take n rest) = ap sum w.split_at.ensures.front in
          let left_mass : counts_mass others c.if-item-eq0.rest.now ≡ counts_mass others (drop n rest) = ap (counts_mass others) left in
          let left_sum : sum c.if-item-eq0.rest.now ≡ sum (drop n rest) = ap sum left in
          record { agree = ap length left ∙ agrees; mass = omega arith; bound = omega arith }
      | else-item-eq0 w ↦
          let same = isotopes-skip c.args.table.now c.args.items.now c.loop-item.item-index part c.loop-item-test.true
          c.loop-item-item.is w.if-item-eq0.false in
          let left : c.if-item-eq0.rest.now ≡ rest = ap (λ (r : Bor (List ℕ)). r.now) w.rest-is in
          let left_mass : counts_mass others c.if-item-eq0.rest.now ≡ counts_mass all rest = rw (left, same) refl in
          let left_sum : sum c.if-item-eq0.rest.now ≡ sum rest = ap sum left in
          record { agree = ap length left ∙ c.loop-item.invariant.agree ∙ ap length same; mass = omega arith; bound = omega arith }
    ]
