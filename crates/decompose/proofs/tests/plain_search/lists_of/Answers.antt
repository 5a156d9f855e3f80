use Rattle.std.proofs.Common.{length, ap, ◌∙◌, arith}
use Rattle.decompose.proofs.FirstOfBox.{found_in_box}
use Rattle.decompose.proofs.FirstOfSlice.{written}
use Rattle.decompose.proofs.tests.plain_search.lists_of.Goals as goal

pub lists-init : goal.lists-init
lists-init c =
    let same =
    written c.find_next.new.out c.in_ok-next.next.items c.in_ok-next.next.len c.in_ok-next.next.ok.0
    (c.find_next.auto.out ∙ ap length c.deref_mut.ensures.value) in
    record {
      given = omega (arith, c.in_ok-given.ensures.len);
      next = omega (arith, c.in_ok-next.ensures.len);
      in_box = rw same (found_in_box c.args.limits.now _ c.find_next.new.out c.if-not-find_next.ensures);
    }

pub lists-preserved : goal.lists-preserved
lists-preserved c =
    let same =
    written c.find_next-in-lists.new.out c.lists.next.items c.lists.next.len c.lists.next.ok.0
    (c.find_next-in-lists.auto.out ∙ ap length c.deref_mut-in-lists.ensures.value) in
    record {
      given = omega (arith, c.copy_from_slice.ensures.len, c.lists.invariant.given);
      next = omega (arith, c.lists.invariant.next);
      in_box = rw same
          (found_in_box c.args.limits.now _ c.find_next-in-lists.new.out c.if-not-find_next-2.ensures);
    }
