-- One element more is within the limits.
use Rattle.std.proofs.Common.{◌≡◌, ◌+◌, ◌<◌, ◌≤◌, List, [], ◌∷◌, ◌++◌, length, sym, ap, arith, subst, length-append}
use Rattle.std.proofs.lemmas.List.Elements.{All-push}
use Rattle.std.proofs.lemmas.List.Sums.{sum_by-append, sum_by-cons}
use Rattle.multinomial_bounds.specs.Weight.{IsWeights}
use Rattle.multinomial_bounds.specs.Isotopologue.{Element, all_atoms}
use Rattle.isotopologue_sets.specs.Layers.{AreElements}
use Rattle.layered_envelope.proofs.tests.add_element.Goals as goal

more_atoms : (es : List Element) (e : Element) → all_atoms (es ++ e ∷ []) ≡ all_atoms es + e.atoms
more_atoms es e =
    omega (arith, sum_by-append (λ (x : Element). x.atoms) es (e ∷ []), sum_by-cons (λ (x : Element). x.atoms) e [])

AreElements-push : (es : List Element) (e : Element) → AreElements es → IsWeights e.weights → e.atoms ≤ 10000 →
    length es < 20 → all_atoms es + e.atoms ≤ 20000 → AreElements (es ++ e ∷ [])
AreElements-push es e ok weights few room atoms = record {
  few = omega (arith, length-append es (e ∷ []));
  weights = All-push (λ (x : Element). IsWeights x.weights) es e ok.weights weights;
  few_of_each = All-push (λ (x : Element). x.atoms ≤ 10000) es e ok.few_of_each few;
  few_atoms = omega (arith, more_atoms es e);
}

pub returns-clause-elements : goal.returns-clause-elements
returns-clause-elements c =
    let e : Element = c.in_ok-element.element in
    let weights : e.weights ≡ c.args.weights.now = ap (λ (x : Element). x.weights) c.in_ok-element.ensures in
    let atoms : e.atoms ≡ c.args.atoms = ap (λ (x : Element). x.atoms) c.in_ok-element.ensures in
    rw c.in_ok-push.ensures.items
    (AreElements-push c.args.elements.now.items e c.requires.elements
    (subst IsWeights (sym weights) c.requires.weights_in_range) (omega (arith, atoms)) c.requires.room
    (omega (arith, atoms)))

pub returns-clause-more_atoms : goal.returns-clause-more_atoms
returns-clause-more_atoms c =
    let e : Element = c.in_ok-element.element in
    let atoms : e.atoms ≡ c.args.atoms = ap (λ (x : Element). x.atoms) c.in_ok-element.ensures in
    rw c.in_ok-push.ensures.items (omega (arith, more_atoms c.args.elements.now.items e, atoms))
