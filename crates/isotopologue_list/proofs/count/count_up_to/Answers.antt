-- One element more multiplies the number by that of its counts, which is not 0.
use Rattle.std.proofs.Common.{◌≡◌, ◌≤◌, ◌+◌, ◌-◌, ◌*◌, ℕ, length, ◌∙◌, ap, arith, take}
use Rattle.multinomial_bounds.specs.Compositions.{compositions, isotopologue_count}
use Rattle.isotopologue_list.proofs.CountLemmas.{count_none, count_more, many_is, many_some, left_factor, right_factor, product_some}
use Rattle.isotopologue_list.proofs.count.count_up_to.Goals as goal
use Rattle.isotopologue_list.proofs.count.count_up_to.Goals.{After-compositions_up_to-counts, in-Some-Some, in_default, in_default-2}

pub loop-element-init : goal.loop-element-init
loop-element-init c = record {
  some = omega (arith, count_none c.args.elements.now);
  total = rw (count_none c.args.elements.now) c.at_most-total.ensures;
}

more_is : (c : After-compositions_up_to-counts) →
    isotopologue_count (take (c.loop-element.element-index + 1) c.args.elements.now)
    ≡ isotopologue_count (take c.loop-element.element-index c.args.elements.now)
    * length (compositions (length c.weights.result.now) c.atoms.result)
more_is c =
    count_more c.args.elements.now c.loop-element.element-index c.element-item.result c.weights.result.now c.atoms.result
    (omega arith) c.element-item.is c.weights.ensures.value c.atoms.ensures.value

counts_some : (c : After-compositions_up_to-counts) → 1 ≤ length (compositions (length c.weights.result.now) c.atoms.result)
counts_some c =
    let some : 1 ≤ length c.weights.result.now = rw c.weights.ensures.value c.weights.ensures.weights_in_range.some in
    omega (
      arith,
      many_is (length c.weights.result.now) c.atoms.result some,
      many_some (length c.weights.result.now - 1) c.atoms.result,
    )

pub loop-element-preserved : goal.loop-element-preserved
loop-element-preserved c =
    let at = (goal.at.loop-element-preserved c).After-compositions_up_to-counts in
    let P : ℕ = isotopologue_count (take c.loop-element.element-index c.args.elements.now) in
    let Q : ℕ = length (compositions (length c.weights.result.now) c.atoms.result) in
    let R : ℕ = isotopologue_count (take (c.loop-element.element-index + 1) c.args.elements.now) in
    let e : R ≡ P * Q = more_is at in
    let q : 1 ≤ Q = counts_some at in
    let p : 1 ≤ P = c.loop-element.invariant.some in
    record {
      some = product_some P Q R e p q;
      total =
          elim c.match-total.branch [
            | in-Some-Some w ↦
                let first = rw w.in-Some-Some.is-0 at c.loop-element.invariant.total in
                let second = rw w.in-Some-Some.is-1 at c.compositions_up_to-counts.ensures in
                let product : w.from.result * w.from-in-Some-Some.result ≡ P * Q =
                ap (λ (x : ℕ). x * w.from-in-Some-Some.result) (w.from.ensures ∙ first.1)
                ∙ ap (λ (x : ℕ). P * x) (w.from-in-Some-Some.ensures ∙ second.1) in
                rw (w.total-is, e) (rw product at w.at_most-total-in-Some-Some.ensures)
            | in_default w ↦
                let none = rw w.in_default.is-1 at c.compositions_up_to-counts.ensures in
                rw w.total-is (λ few. none (right_factor P Q R c.args.most e p few))
            | in_default-2 w ↦
                let none = rw w.in_default.is-0 at c.loop-element.invariant.total in
                rw w.total-is (λ few. none (left_factor P Q R c.args.most e q few))
          ];
    }
