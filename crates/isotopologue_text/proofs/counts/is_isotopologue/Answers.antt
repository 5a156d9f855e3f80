use Rattle.std.proofs.Common.{◌≡◌, ℕ, List, arith, ap, ◌∙◌, length, subst, sym}
use Rattle.std.specs.Prelude.{IsTrue}
use Rattle.std.proofs.lemmas.Bool.{false≢true}
use Rattle.written_items.specs.declared.item.Item.{Item}
use Rattle.isotopologue_text.specs.Isotopologues.{isotopes_of, IsIsotopologueOf}
use Rattle.isotopologue_text.proofs.Weights.{few-occur}
use Rattle.isotopologue_text.proofs.Splits.{begins, splits-from_end, end-from_splits, isotopologue-from_splits, splits-from_isotopologue}
use Rattle.isotopologue_text.proofs.counts.is_isotopologue.Goals as goal

pub after_element-requires : goal.after_element-requires
after_element-requires c =
    let fewer = few-occur c.isotopes_of.result.now in
    omega arith

pub returns-in-None : goal.returns-in-None
returns-in-None c =
    let items = c.items-items.result.now in
    let part = c.loop-item-item.result in
    let here : c.isotope_count.result ≡ length (isotopes_of c.args.table.now part.0) =
    c.isotope_count.ensures ∙ ap length c.isotopes_of.ensures.that_occur in (
      λ t. absurd (false≢true t),
      λ h. absurd (c.in-None.ensures
          (begins c.args.table.now items c.loop-item.item-index part c.loop-item.rest.now c.isotope_count.result
          c.loop-item-test.true c.loop-item-item.is c.if-item-eq0.true here
          (c.loop-item.invariant.rest (splits-from_isotopologue c.args.table.now items c.args.counts.now
          (subst (λ (f : List (Item × ℕ)). IsIsotopologueOf c.args.table.now f c.args.counts.now) (sym c.items-items.ensures.items) h))))),
    )

pub returns : goal.returns
returns c =
    let items = c.items-items.result.now in (
      λ t. subst (λ (f : List (Item × ℕ)). IsIsotopologueOf c.args.table.now f c.args.counts.now) c.items-items.ensures.items
          (isotopologue-from_splits c.args.table.now items c.args.counts.now (c.loop-item.invariant.whole
          (splits-from_end c.args.table.now items c.loop-item.item-index c.loop-item.rest.now c.loop-item-test.false (subst IsTrue c.is_empty.ensures t)))),
      λ h. subst IsTrue (sym c.is_empty.ensures)
          (end-from_splits c.args.table.now items c.loop-item.item-index c.loop-item.rest.now c.loop-item-test.false
          (c.loop-item.invariant.rest (splits-from_isotopologue c.args.table.now items c.args.counts.now
          (subst (λ (f : List (Item × ℕ)). IsIsotopologueOf c.args.table.now f c.args.counts.now) (sym c.items-items.ensures.items) h)))),
    )
