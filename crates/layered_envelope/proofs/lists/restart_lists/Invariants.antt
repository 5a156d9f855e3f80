use Rattle.std.proofs.Common.{◌≡◌, take, length, fold}
use Rattle.multinomial_bounds.specs.Bounds.{certainty}
use Rattle.layered_envelope.specs.Walks.{upper}
use Rattle.layered_envelope.specs.LayerLists.{elements_of, AreStarted}
use Rattle.layered_envelope.proofs.lists.restart_lists.Given as goal

abbrev pub invariant-loop-place : goal.invariant-loop-place
invariant-loop-place l = record {
  started : AreStarted l.place l.lists (elements_of l.initial.lists) l.modes;
  many : length l.lists ≡ length l.initial.lists;
  before : l.before ≡ fold upper certainty (take l.place l.modes);
}
