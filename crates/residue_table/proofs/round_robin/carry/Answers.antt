use Rattle.std.proofs.Common.{◌≡◌, ◌+◌, ◌%◌, ◌<◌, length, sym, arith}
use Rattle.std.proofs.lemmas.List.{get_or-set_same}
use Rattle.std.proofs.lemmas.Nat.{mod_below}
use Rattle.residue_table.proofs.CarriedRows.{next_is, still_carried, still_limited, still_lowered, still_sound}
use Rattle.residue_table.proofs.round_robin.carry.Goals as goal

pub loop-turn-preserved : goal.loop-turn-preserved
loop-turn-preserved c =
    let modulus = length c.args.entries.now in
    let xs = c.loop-turn.entries in
    let place = c.loop-turn.place in
    let next = c.next_residue-place.result in
    let inv = c.loop-turn.invariant in
    let same : length xs ≡ modulus = c.loop-turn.auto.entries in
    let is_next : next ≡ (place + c.args.step) % modulus = cc in
    let next_within : next < modulus = rw is_next (mod_below (place + c.args.step) modulus (omega arith)) in
    record {
      within = next_within;
      place_is = next_is c.args.start c.args.step c.args.mass c.loop-turn._turn modulus c.args.entries.now xs place next
          c.loop-turn.least c.min-least.result same c.requires.step inv.within next_within is_next inv.place_is
          inv.least_is c.min-least.ensures;
      least_is = sym (get_or-set_same xs next c.min-least.result 0 (omega (arith, same, next_within)));
      limited = still_limited c.args.start c.args.step c.args.mass c.loop-turn._turn modulus c.args.entries.now xs place
          next c.loop-turn.least c.min-least.result same c.requires.step inv.within next_within is_next inv.place_is
          inv.least_is c.min-least.ensures inv.limited;
      lowered = still_lowered c.args.start c.args.step c.args.mass c.loop-turn._turn modulus c.args.entries.now xs place
          next c.loop-turn.least c.min-least.result same c.requires.step inv.within next_within is_next inv.place_is
          inv.least_is c.min-least.ensures inv.lowered;
      carried = still_carried c.args.start c.args.step c.args.mass c.loop-turn._turn modulus c.args.entries.now xs place
          next c.loop-turn.least c.min-least.result same c.requires.step inv.within next_within is_next inv.place_is
          inv.least_is c.min-least.ensures inv.lowered inv.carried;
      sound = still_sound c.args.start c.args.step c.args.mass c.loop-turn._turn modulus c.args.entries.now xs
          place next
          c.loop-turn.least c.min-least.result same c.requires.step inv.within next_within is_next inv.place_is
          inv.least_is c.min-least.ensures inv.sound;
    }
