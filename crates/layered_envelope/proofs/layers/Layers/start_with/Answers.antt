use Rattle.std.proofs.Common.{rules, ◌≡◌, length, drop, ◌∙◌}
use Rattle.std.proofs.lemmas.List.{take_at}
use Rattle.layered_envelope.specs.LayerLists.{elements_of}
use Rattle.layered_envelope.proofs.Thresholds.{layers-started}
use Rattle.layered_envelope.proofs.LastEnds.{last-started}
use Rattle.layered_envelope.proofs.layers.Layers.start_with.Goals as goal

pub invariant_of-result : goal.invariant_of-result
invariant_of-result c =
    let new = c.restart_lists.new.lists in
    let written = take_at new (drop (length new) c.in_ok-lists.lists.items) c.in_ok-lists.lists.len
    (c.restart_lists.auto.lists ∙ c.deref_mut.ensures.len) in
    let modes = c.deref-2.ensures.value in
    let many : length c.in_ok-cutoffs.cutoffs.items ≡ length c.in_ok-modes.modes.items = search rules in
    rw written (
      layers-started new c.in_ok-modes.modes.items c.in_ok-mode_hi.mode_hi
          (rw modes at c.in_ok-mode_hi.ensures.lists) (rw modes at c.in_ok-mode_hi.ensures.mode)
          c.in_ok-mode_hi.ensures.thresholds,
      last-started (elements_of new) c.in_ok-mode_hi.mode_hi c.empty.result c.empty.ensures,
      many,
    )
