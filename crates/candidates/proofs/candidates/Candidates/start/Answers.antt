use Rattle.std.proofs.Common.{length, sym, ap, subst, ◌∙◌}
use Rattle.std.specs.Prelude.{All, None}
use Rattle.decompose.specs.CountLists.{IsLimit}
use Rattle.candidates.specs.PeakFormulas.{limits_of}
use Rattle.candidates.proofs.AlphabetMasses.{are_limits, count-entries}
use Rattle.candidates.proofs.StandingSteps.{standing-made}
use Rattle.candidates.proofs.candidates.Candidates.start.Goals as goal

pub start-requires-clause-limits : goal.start-requires-clause-limits
start-requires-clause-limits c =
    subst (All IsLimit) (sym c.limits.ensures.limits) (are_limits c.alphabet-alphabet.result.now c.limits.ensures.alphabet)

pub invariant_of-result : goal.invariant_of-result
invariant_of-result c =
    let premises = c.args.premises.now in
    let same = c.alphabet-alphabet.ensures.alphabet in (
      count-entries premises.alphabet c.alphabet-alphabet.result.now c.items-size.result.now c.in_ok-last.last same
          c.items-size.ensures.items c.in_ok-last.ensures,
      standing-made premises c.args.mz c.in_ok-decomps.decomps c.in_ok-counts.counts c.tables.result.now
          c.limits.result.now c.peak_window-window.result c.in_ok-room.room c.is_sure.result None c.alphabet-alphabet.ensures.premises
          c.requires.some_mz c.requires.few_mz c.in_ok-decomps.ensures.start c.tables.ensures.tables
          (c.limits.ensures.limits ∙ ap limits_of same)
          c.peak_window-window.ensures.covers c.peak_window-window.ensures.admits
          c.peak_window-window.ensures.searched
          (count-entries premises.alphabet c.alphabet-alphabet.result.now c.items-size.result.now c.in_ok-counts.counts
          same c.items-size.ensures.items c.in_ok-counts.ensures)
          (c.in_ok-room.ensures ∙ ap length same) c.is_sure.ensures tt,
    )
