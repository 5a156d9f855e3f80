use Rattle.std.proofs.Common.{◌≡◌, ◌*◌, ◌%◌, ◌^◌, ◌-◌, ◌<◌, ◌≤◌, length, get_or, min, refl, ◌∙◌, arith}
use Rattle.std.proofs.lemmas.List.{get_or_default}
use Rattle.std.proofs.lemmas.Nat.{pow_pos}
use Rattle.residue_table.proofs.RunSpans.{least_of_spans, shifted, spans_at}
use Rattle.residue_table.proofs.rows.Row.least_of_runs.Goals as goal

pub index-requires : goal.index-requires
index-requires c =
    let row = c.args.self.now in
    let longest = c.in_ok-longest.longest.now in
    let at =
    spans_at row.entries.items (length row.minima.items) c.ilog2-power.result row.spans.items c.deref.result.now longest
    c.requires.indexed.spans c.deref.ensures.value c.in_ok-longest.ensures.lookup.0
    c.in_ok-longest.ensures.lookup.1 in
    omega (arith, at.0, longest.minima.ok.0, c.requires.some, c.requires.within)

pub index-requires-2 : goal.index-requires-2
index-requires-2 c =
    let row = c.args.self.now in
    let longest = c.in_ok-longest.longest.now in
    let at =
    spans_at row.entries.items (length row.minima.items) c.ilog2-power.result row.spans.items c.deref.result.now longest
    c.requires.indexed.spans c.deref.ensures.value c.in_ok-longest.ensures.lookup.0
    c.in_ok-longest.ensures.lookup.1 in
    rw
    (shifted c.ilog2-power.result (c.args.stop - c.args.start) c.ilog2-power.ensures.power_le
    (omega (arith, c.ranges.stop.fits)))
    (omega (arith, at.0, longest.minima.ok.0, pow_pos c.ilog2-power.result, c.requires.some, c.requires.within))

pub returns : goal.returns
returns c =
    let row = c.args.self.now in
    let longest = c.in_ok-longest.longest.now in
    let power = c.ilog2-power.result in
    let at =
    spans_at row.entries.items (length row.minima.items) power row.spans.items c.deref.result.now longest
    c.requires.indexed.spans c.deref.ensures.value c.in_ok-longest.ensures.lookup.0
    c.in_ok-longest.ensures.lookup.1 in
    let last = c.args.stop - 2 ^ power in
    let shift =
    shifted power (c.args.stop - c.args.start) c.ilog2-power.ensures.power_le (omega (arith, c.ranges.stop.fits)) in
    let first_is : c.index.result.now ≡ get_or longest.minima.items c.args.start 0 =
    c.index.ensures
    ∙ get_or_default longest.minima.items c.args.start c.index.result.now 0
    (omega (arith, at.0, c.requires.some, c.requires.within)) in
    let last_is : c.index-2.result.now ≡ get_or longest.minima.items last 0 =
    (rw shift at c.index-2.ensures)
    ∙ get_or_default longest.minima.items last c.index-2.result.now 0
    (omega (arith, at.0, pow_pos power, c.requires.some, c.requires.within)) in
    rw (c.min.ensures, first_is, last_is)
    (least_of_spans row.entries.items longest.minima.items (2 ^ power) c.args.start c.args.stop last at.1
    c.ilog2-power.ensures.power_le c.ilog2-power.ensures.next_power_gt refl (omega (arith, at.0, c.requires.within)))
