-- What is added stands behind the items from before.
use Rattle.std.proofs.Common.{◌<◌, length, ◌∙◌, ap, arith, length-append}
use Rattle.std.proofs.lemmas.Result.{err_from_is_err_and}
use Rattle.sub_isotopologues.specs.Children.{counts_over}
use Rattle.sub_isotopologues.specs.Listings.{max_sub_isotopologues}
use Rattle.sub_isotopologues.proofs.FaultLemmas.{OnlyTooMany-weaker}
use Rattle.sub_isotopologues.proofs.KeptLists.{mode_atoms, mode_by_atoms, items_by_atoms, AreSearched-append}
use Rattle.sub_isotopologues.proofs.ItemOrder.{length-items_over}
use Rattle.sub_isotopologues.proofs.grown.GrownItems.grow_to.Goals as goal

pub added_items-requires-clause-few_atoms : goal.added_items-requires-clause-few_atoms
added_items-requires-clause-few_atoms c = rw (mode_atoms _ _ _ _ c.self.invariant) c.self.invariant.few_atoms

pub added_items-requires-clause-mode : goal.added_items-requires-clause-mode
added_items-requires-clause-mode c = rw c.deref.ensures.value (mode_by_atoms _ _ _ _ c.self.invariant)

pub added_items-requires-clause-older : goal.added_items-requires-clause-older
added_items-requires-clause-older c =
    rw (c.deref.ensures.value, c.deref-2.ensures.value) (items_by_atoms _ _ _ _ c.self.invariant)

pub returns-in_err-added-clause-cause : goal.returns-in_err-added-clause-cause
returns-in_err-added-clause-cause c =
    let p = err_from_is_err_and c.from_residual.result c.from_residual.ensures.1 in
    let ws = c.self.inside.weights.items in
    let cause = rw (c.deref.ensures.value, mode_atoms _ _ _ _ c.self.invariant) at c.in_err-added.ensures.cause in
    rw (p.1, p.2, ← c.self.view_is)
    (OnlyTooMany-weaker (max_sub_isotopologues < length (counts_over ws c.self.inside.atoms c.args.above)) _ _
    (λ many. omega (arith, many, length-items_over ws c.self.inside.atoms c.args.above)) cause)

pub unlisted_bounds-requires-clause-few_atoms : goal.unlisted_bounds-requires-clause-few_atoms
unlisted_bounds-requires-clause-few_atoms c = rw (mode_atoms _ _ _ _ c.self.invariant) c.self.invariant.few_atoms

pub unlisted_bounds-requires-clause-mode : goal.unlisted_bounds-requires-clause-mode
unlisted_bounds-requires-clause-mode c = rw c.deref-4.ensures.value (mode_by_atoms _ _ _ _ c.self.invariant)

pub unlisted_bounds-requires-clause-older : goal.unlisted_bounds-requires-clause-older
unlisted_bounds-requires-clause-older c =
    rw (c.deref-4.ensures.value, c.deref-5.ensures.value) (items_by_atoms _ _ _ _ c.self.invariant)

pub invariant_of-self-2 : goal.invariant_of-self-2
invariant_of-self-2 c =
    let appended = c.in_ok-append.ensures.items in
    let atoms = mode_atoms _ _ _ _ c.self.invariant in
    let added = rw (c.deref.ensures.value, c.deref-2.ensures.value, atoms) at c.in_ok-added.ensures.added in
    let searched = rw (c.deref-4.ensures.value, c.deref-5.ensures.value) at c.in_ok-unlisted.ensures in
    record {
      weights = c.self.invariant.weights;
      few_atoms = c.self.invariant.few_atoms;
      few =
          omega (
            arith,
            c.in_ok-added.ensures.fits,
            c.self.invariant.few,
            c.len.ensures,
            ap length appended,
            length-append c.self.inside.items.items c.in_ok-added.added.items,
          );
      mode_is = c.self.invariant.mode_is;
      items_are = appended ∙ added;
      searched = rw appended (AreSearched-append _ _ _ _ _ _ searched);
    }
