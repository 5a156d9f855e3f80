-- The rows of each first count stand behind those of the smaller ones.
use Rattle.std.proofs.Common.{◌≡◌, length, arith, rules}
use Rattle.isotopologue_list.proofs.CompositionsByFirst.{last_place, next_first, all_first, same_front}
use Rattle.isotopologue_list.proofs.composition.+append_compositions.Goals as goal

pub returns-then-place-counts-clause-appended : goal.returns-then-place-counts-clause-appended
returns-then-place-counts-clause-appended t c =
    rw (last_place c.args.counts.now c.args.place c.args.atoms c.if-place-counts.true) (search rules)

pub returns-in_err-append_compositions-clause-same_front : goal.returns-in_err-append_compositions-clause-same_front
returns-in_err-append_compositions-clause-same_front t c =
    same_front c.args.counts.now c.loop-first.counts c.append_compositions.new.counts c.args.place c.loop-first.first
    c.loop-first.invariant.same_front c.append_compositions.ensures.same_front

pub loop-first-preserved : goal.loop-first-preserved
loop-first-preserved t c = record {
  same_front = same_front c.args.counts.now c.loop-first.counts c.append_compositions.new.counts c.args.place c.loop-first.first
      c.loop-first.invariant.same_front c.append_compositions.ensures.same_front;
  appended = next_first c.args.rows.now.items c.args.counts.now c.loop-first.counts c.loop-first.rows.items
      c.append_compositions.new.rows.items c.args.place c.args.atoms c.loop-first.first
      c.requires.within c.loop-first.auto.counts c.loop-first.invariant.same_front c.loop-first.invariant.appended
      c.in_ok-append_compositions.ensures.appended;
}

pub returns-in_ok-append_compositions-clause-same_front : goal.returns-in_ok-append_compositions-clause-same_front
returns-in_ok-append_compositions-clause-same_front t c =
    same_front c.args.counts.now c.loop-first.counts c.append_compositions.new.counts c.args.place c.loop-first.first
    c.loop-first.invariant.same_front c.append_compositions.ensures.same_front

pub returns-in_ok-append_compositions-clause-appended : goal.returns-in_ok-append_compositions-clause-appended
returns-in_ok-append_compositions-clause-appended t c =
    let last : c.args.atoms ≡ c.loop-first.first = omega arith in
    rw (← all_first (length c.args.counts.now) c.args.place c.args.atoms c.loop-first.first c.requires.within last)
    (next_first c.args.rows.now.items c.args.counts.now c.loop-first.counts c.loop-first.rows.items
    c.append_compositions.new.rows.items c.args.place c.args.atoms c.loop-first.first
    c.requires.within c.loop-first.auto.counts c.loop-first.invariant.same_front c.loop-first.invariant.appended
    c.in_ok-append_compositions.ensures.appended)
