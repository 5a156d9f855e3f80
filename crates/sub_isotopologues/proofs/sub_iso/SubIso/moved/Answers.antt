-- The room behind the counts stays out of sight.
use Rattle.std.proofs.Common.{◌≡◌, ◌≤◌, length, take, refl, ◌∙◌, ap, arith}
use Rattle.std.proofs.lemmas.List.{length-take}
use Rattle.sub_isotopologues.specs.SubIsotopologues.{SubIsotopologue}
use Rattle.sub_isotopologues.proofs.ChildMoves.{take-moved}
use Rattle.sub_isotopologues.proofs.sub_iso.SubIso.moved.Goals as goal

pub returns : goal.returns
returns c =
    let is = c.item.view_is ∙ c.new-item.ensures in
    let front : take c.item.inside.isotopes c.item.inside.counts ≡ c.args.counts.now = ap
    (λ (s : SubIsotopologue). s.counts) is in
    let low : c.item.inside.enclosure.lo ≡ c.args.enclosure.lo = ap (λ (s : SubIsotopologue). s.lo) is in
    let high : c.item.inside.enclosure.hi ≡ c.args.enclosure.hi = ap (λ (s : SubIsotopologue). s.hi) is in
    let room : length c.args.counts.now ≤ c.item.inside.isotopes =
    omega (arith, ap length front, length-take c.item.inside.isotopes c.item.inside.counts) in
    let counts = take-moved c.args.counts.now c.item.inside.counts c.item.inside.isotopes c.args.gain c.args.lose front
    (omega (arith, c.requires.gain_within)) (omega (arith, c.requires.lose_within)) in
    rw (counts, low, high) refl
