-- The isotope that is added is the next one of the mode, so the numbers are those of the definition.
use Rattle.std.proofs.Common.{◌≡◌, ◌+◌, ◌*◌, ◌^◌, ◌<◌, ◌≤◌, ℕ, List, length, sum, arith, sym, get_or}
use Rattle.std.proofs.Math.Nat.{mul-pos, mul-le-mul, le_trans}
use Rattle.multinomial_bounds.specs.Weight.{IsWeights, one_more}
use Rattle.multinomial_bounds.specs.Mode.{next_isotope, mode_of_atoms, mode_bound}
use Rattle.multinomial_bounds.specs.Bounds.{floor_of, ceiling_of}
use Rattle.multinomial_bounds.proofs.ModeLemmas.{next_isotope-falls, get_or-mode_of_atoms-le, mode_of_atoms-next}
use Rattle.multinomial_bounds.proofs.ModeLemmas.{mode_bound-next, sum-IsWeights, IsWeights-positive}
use Rattle.multinomial_bounds.proofs.mode.add_atom.Goals as goal
use Rattle.multinomial_bounds.proofs.mode.add_atom.Goals.{After-slice_known-3-1, After-scaled}

module _ (ws counts : List ℕ) (n i : ℕ) (ok : IsWeights ws) (mode : counts ≡ mode_of_atoms ws n)
    (next : i ≡ next_isotope ws counts) (within : i < length ws) where
  count_is_small : get_or counts i 0 ≤ n
  count_is_small = rw mode (get_or-mode_of_atoms-le ws ok.some n i within)

  factor_falls : (n + 1) * get_or ws i 0 ≤ (get_or counts i 0 + 1) * sum ws
  factor_falls = rw (next, mode) (next_isotope-falls ws n ok.some)

  factor_is_some : 1 ≤ (get_or counts i 0 + 1) * sum ws
  factor_is_some = le_trans (mul-pos (omega arith) (IsWeights-positive ws ok i within)) factor_falls

  factor_is_small : n < 10000 → (get_or counts i 0 + 1) * sum ws ≤ 10 ^ 18
  factor_is_small few =
      let c : get_or counts i 0 + 1 ≤ 10000 = omega (arith, count_is_small) in
      omega (arith, mul-le-mul c (sum-IsWeights ws ok))

  next_mode : one_more counts i ≡ mode_of_atoms ws (n + 1)
  next_mode = rw (next, mode) (sym (mode_of_atoms-next ws n))

  next_bound : (round : ℕ → ℕ → ℕ) (bound : ℕ) → bound ≡ mode_bound round ws n →
      round (bound * ((n + 1) * get_or ws i 0)) ((get_or counts i 0 + 1) * sum ws) ≡ mode_bound round ws (n + 1)
  next_bound round bound is = rw (is, next, mode) (sym (mode_bound-next round ws n))

pub overflow_add-counts : goal.overflow_add-counts
overflow_add-counts c =
    omega (
      arith,
      count_is_small c.args.weights.now c.args.counts.now c.args.drawn c.next_isotope-isotope.result
          c.requires.weights_in_range c.requires.mode c.next_isotope-isotope.ensures.value c.next_isotope-isotope.ensures.within,
    )

pub scaled-requires-clause-some : goal.scaled-requires-clause-some
scaled-requires-clause-some c =
    rw (c.from-3.ensures, c.from-4.ensures, c.requires.whole)
    (factor_is_some c.args.weights.now c.args.counts.now c.args.drawn c.next_isotope-isotope.result
    c.requires.weights_in_range c.requires.mode c.next_isotope-isotope.ensures.value c.next_isotope-isotope.ensures.within)

pub scaled-requires-clause-falls : goal.scaled-requires-clause-falls
scaled-requires-clause-falls c =
    rw (c.from.ensures, c.from-2.ensures, c.from-3.ensures, c.from-4.ensures, c.requires.whole)
    (factor_falls c.args.weights.now c.args.counts.now c.args.drawn c.next_isotope-isotope.result
    c.requires.weights_in_range c.requires.mode c.next_isotope-isotope.ensures.value c.next_isotope-isotope.ensures.within)

pub scaled-requires-clause-small : goal.scaled-requires-clause-small
scaled-requires-clause-small c =
    rw (c.from-3.ensures, c.from-4.ensures, c.requires.whole)
    (factor_is_small c.args.weights.now c.args.counts.now c.args.drawn c.next_isotope-isotope.result
    c.requires.weights_in_range c.requires.mode c.next_isotope-isotope.ensures.value c.next_isotope-isotope.ensures.within
    c.requires.few_atoms)

pub returns-clause-mode : goal.returns-clause-mode
returns-clause-mode c =
    next_mode c.args.weights.now c.args.counts.now c.args.drawn c.next_isotope-isotope.result
    c.requires.weights_in_range c.requires.mode c.next_isotope-isotope.ensures.value c.next_isotope-isotope.ensures.within

pub returns-clause-lo : goal.returns-clause-lo
returns-clause-lo c =
    rw (c.scaled.ensures.lo, c.from.ensures, c.from-2.ensures, c.from-3.ensures, c.from-4.ensures, c.requires.whole)
    (next_bound c.args.weights.now c.args.counts.now c.args.drawn c.next_isotope-isotope.result
    c.requires.weights_in_range c.requires.mode c.next_isotope-isotope.ensures.value c.next_isotope-isotope.ensures.within
    floor_of c.args.enclosure.lo c.requires.lo)

pub returns-clause-hi : goal.returns-clause-hi
returns-clause-hi c =
    rw (c.scaled.ensures.hi, c.from.ensures, c.from-2.ensures, c.from-3.ensures, c.from-4.ensures, c.requires.whole)
    (next_bound c.args.weights.now c.args.counts.now c.args.drawn c.next_isotope-isotope.result
    c.requires.weights_in_range c.requires.mode c.next_isotope-isotope.ensures.value c.next_isotope-isotope.ensures.within
    ceiling_of c.args.enclosure.hi c.requires.hi)
