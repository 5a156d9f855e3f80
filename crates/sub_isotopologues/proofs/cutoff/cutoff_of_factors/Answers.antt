-- Each factor is taken off, the last one first.
use Rattle.std.proofs.Common.{◌≡◌, ◌+◌, ◌-◌, ℕ, arith, subst}
use Rattle.sub_isotopologues.proofs.CutoffLemmas.{Cuts, Cuts-start, Cuts-more, Cuts-none}
use Rattle.sub_isotopologues.proofs.cutoff.cutoff_of_factors.Goals as goal

pub loop-place-init : goal.loop-place-init
loop-place-init c = record {
  at_most_one = c.requires.at_most_one;
  cuts = Cuts-start c.args.threshold c.args.factors.now;
}

pub cutoff_of_factor-cut-requires-clause-at_most_one : goal.cutoff_of_factor-cut-requires-clause-at_most_one
cutoff_of_factor-cut-requires-clause-at_most_one c = c.loop-place.invariant.at_most_one

pub loop-place-preserved : goal.loop-place-preserved
loop-place-preserved c =
    let back : c.loop-place.place - 1 + 1 ≡ c.loop-place.place = omega arith in
    let P : ℕ → Type 0 = λ k. Cuts c.args.threshold c.args.factors.now c.loop-place.cut k in
    record {
      at_most_one = c.cutoff_of_factor-cut.ensures.at_most_one;
      cuts = Cuts-more c.args.threshold c.args.factors.now c.loop-place.cut c.cutoff_of_factor-cut.result
          (c.loop-place.place - 1)
          (omega arith) c.requires.most
          (rw back c.loop-place.invariant.cuts) c.cutoff_of_factor-cut.ensures.cuts;
    }

pub returns-clause-cuts : goal.returns-clause-cuts
returns-clause-cuts c =
    let P : ℕ → Type 0 = λ k. Cuts c.args.threshold c.args.factors.now c.loop-place.cut k in
    let none : c.loop-place.place ≡ 0 = omega arith in
    Cuts-none c.args.threshold c.args.factors.now c.loop-place.cut (subst P none c.loop-place.invariant.cuts)
