use Rattle.std.proofs.Common.{◌≡◌, suc, ◌+◌, ◌-◌, ◌≤◌, get_or, set, ap, sym, ◌∙◌, arith, refl, rules}
use Rattle.std.proofs.lemmas.List.{length-set}
use Rattle.multinomial_bounds.specs.Weight.{weight_of, total_of}
use Rattle.multinomial_bounds.proofs.ExactLemmas.{weight_so_far-none, weight_so_far-some, weight_so_far-skip}
use Rattle.multinomial_bounds.proofs.ExactLemmas.{weight_so_far-next, weight_so_far-le, weight_so_far-all, total_of-le}
use Rattle.multinomial_bounds.proofs.ExactLemmas.{weight_of-no_atom, weight_of-some_atom}
use Rattle.multinomial_bounds.proofs.PathLemmas.{one_more-one_less}
use Rattle.multinomial_bounds.proofs.exact.+exact_weight.Goals as goal
use Rattle.multinomial_bounds.proofs.exact.+exact_weight.Goals.{then-counts-i-gt0, else-counts-i-gt0}

pub returns-then-has_no_atom-clause-weight : goal.returns-then-has_no_atom-clause-weight
returns-then-has_no_atom-clause-weight t c =
    rw c.if-atoms-eq0.true
    (sym (weight_of-no_atom c.args.weights.now c.args.counts.now (sym c.has_no_atom.ensures ∙ c.if-has_no_atom.true)))

pub returns-else-has_no_atom-clause-weight : goal.returns-else-has_no_atom-clause-weight
returns-else-has_no_atom-clause-weight t c =
    rw c.if-atoms-eq0.true
    (sym (weight_of-some_atom c.args.weights.now c.args.counts.now (sym c.has_no_atom.ensures ∙ c.if-has_no_atom.false)))

pub loop-i-init : goal.loop-i-init
loop-i-init t c = record {
  same = refl;
  weight = sym (weight_so_far-none c.args.weights.now (c.args.atoms - 1) c.args.counts.now);
}

pub exact_weight-others-requires : goal.exact_weight-others-requires
exact_weight-others-requires t c =
    let all : suc (c.args.atoms - 1) ≡ c.args.atoms = omega arith in
    let fewer : total_of c.args.weights.now (c.args.atoms - 1) ≤ total_of c.args.weights.now c.args.atoms =
    rw all at (total_of-le c.args.weights.now (c.args.atoms - 1) c.requires.some) in
    (search rules, (rw length-set (omega arith), (c.requires.some, omega (arith, c.requires.fits))))

pub overflow_mul-weight : goal.overflow_mul-weight
overflow_mul-weight t c =
    let all : suc (c.args.atoms - 1) ≡ c.args.atoms = omega arith in
    let has : 1 ≤ get_or c.args.counts.now c.loop-i.i 0 = rw c.loop-i.invariant.same at c.if-counts-i-gt0.true in
    let fits = rw all at (weight_so_far-le c.args.weights.now (c.args.atoms - 1) c.args.counts.now c.loop-i.i c.loop-i-test.true has) in
    rw (c.from.ensures, c.exact_weight-others.ensures.weight, c.loop-i.invariant.same) (omega (arith, fits, c.requires.fits))

pub overflow_add-weight : goal.overflow_add-weight
overflow_add-weight t c =
    let all : suc (c.args.atoms - 1) ≡ c.args.atoms = omega arith in
    let has : 1 ≤ get_or c.args.counts.now c.loop-i.i 0 = rw c.loop-i.invariant.same at c.if-counts-i-gt0.true in
    let fits = rw all at (weight_so_far-le c.args.weights.now (c.args.atoms - 1) c.args.counts.now c.loop-i.i c.loop-i-test.true has) in
    rw (c.from.ensures, c.exact_weight-others.ensures.weight, c.loop-i.invariant.weight, c.loop-i.invariant.same)
    (omega (arith, fits, c.requires.fits))

pub loop-i-preserved : goal.loop-i-preserved
loop-i-preserved t c =
    elim c.if-counts-i-gt0.branch [
      | then-counts-i-gt0 w ↦
          let has : 1 ≤ get_or c.args.counts.now c.loop-i.i 0 = rw c.loop-i.invariant.same at w.if-counts-i-gt0.true in
          record {
            same = w.counts-is
                ∙ ap (λ k. set k c.loop-i.i (get_or k c.loop-i.i 0 + 1)) w.exact_weight-others.ensures.same
                ∙ one_more-one_less c.loop-i.counts c.loop-i.i w.if-counts-i-gt0.true
                ∙ c.loop-i.invariant.same;
            weight =
                rw (w.weight-is, w.from.ensures, w.exact_weight-others.ensures.weight, c.loop-i.invariant.weight, c.loop-i.invariant.same)
                (weight_so_far-some c.args.weights.now (c.args.atoms - 1) c.args.counts.now c.loop-i.i c.loop-i-test.true has
                ∙ weight_so_far-next c.args.weights.now (c.args.atoms - 1) c.args.counts.now c.loop-i.i);
          }
      | else-counts-i-gt0 w ↦
          let none : get_or c.args.counts.now c.loop-i.i 0 ≤ 0 = rw c.loop-i.invariant.same at w.if-counts-i-gt0.false in
          record {
            same = w.counts-is ∙ c.loop-i.invariant.same;
            weight =
                w.weight-is ∙ c.loop-i.invariant.weight
                ∙ weight_so_far-skip c.args.weights.now (c.args.atoms - 1) c.args.counts.now c.loop-i.i c.loop-i-test.true (omega arith)
                ∙ weight_so_far-next c.args.weights.now (c.args.atoms - 1) c.args.counts.now c.loop-i.i;
          }
    ]

pub returns-clause-weight : goal.returns-clause-weight
returns-clause-weight t c =
    let all : suc (c.args.atoms - 1) ≡ c.args.atoms = omega arith in
    c.loop-i.invariant.weight
    ∙ weight_so_far-all c.args.weights.now (c.args.atoms - 1) c.args.counts.now c.loop-i.i c.loop-i-test.false
    ∙ ap (λ n. weight_of c.args.weights.now n c.args.counts.now) all
