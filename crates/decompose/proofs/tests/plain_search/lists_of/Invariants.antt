use Rattle.std.proofs.Common.{◌≡◌, length, vec_len}
use Rattle.decompose.specs.CountLists.{IsInBox}
use Rattle.decompose.proofs.tests.plain_search.lists_of.Given as goal

abbrev pub invariant-lists : goal.invariant-lists
invariant-lists l = record {
  given : vec_len l.given ≡ length l.masses;
  next : vec_len l.next ≡ length l.masses;
  in_box : IsInBox l.limits l.next.items;
}
