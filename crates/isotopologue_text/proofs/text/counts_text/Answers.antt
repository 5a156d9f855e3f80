-- The front item's isotopes take their counts from the front of the rest.
use Rattle.std.proofs.Common.{◌≡◌, ℕ, ◌+◌, List, ◌++◌, ap, sym, refl, ◌∙◌, length, map, drop, take, append_assoc, Vec, Global}
use Rattle.std.specs.Borrow.{Bor}
use Rattle.std.proofs.lemmas.List.{length-map}
use Rattle.element_table.specs.declared.element.Isotope.{Isotope}
use Rattle.isotopologue_text.specs.Isotopologues.{isotopes_of, isotope_items, isotope_item, counts_text}
use Rattle.isotopologue_text.proofs.CountsLemmas.{isotopes-front, isotopes-skip, items-front, items-skip, rest-agrees, text-parts}
use Rattle.isotopologue_text.proofs.text.counts_text.Goals as goal
use Rattle.isotopologue_text.proofs.text.counts_text.Goals.{then-item-eq0+in_ok-push_element, else-item-eq0}

pub loop-item-preserved : goal.loop-item-preserved
loop-item-preserved c =
    let part = c.loop-item-item.result in
    let rest = c.loop-item.rest.now in
    let all = isotope_items c.args.table.now (drop c.loop-item.item-index c.args.items.now) in
    let others = isotope_items c.args.table.now (drop (c.loop-item.item-index + 1) c.args.items.now) in
    elim c.if-item-eq0.branch [
      | then-item-eq0+in_ok-push_element w ↦
          let own = isotopes_of c.args.table.now part.0 in
          let items = map (isotope_item part.0) own in
          let n = w.isotope_count.result in
          let here : n ≡ length own = w.isotope_count.ensures ∙ ap length w.isotopes_of-isotopes.ensures.that_occur in
          let front = isotopes-front c.args.table.now c.args.items.now c.loop-item.item-index part c.loop-item-test.true
          c.loop-item-item.is w.if-item-eq0.true in
          let agrees = rest-agrees _ own _ rest n front here c.loop-item.invariant.agree in
          let parts = text-parts all items others rest n
          (items-front c.args.table.now c.args.items.now c.loop-item.item-index part c.loop-item-test.true c.loop-item-item.is w.if-item-eq0.true)
          (here ∙ sym (length-map own (isotope_item part.0))) in
          let left : c.if-item-eq0.rest.now ≡ drop n rest = ap (λ (r : Bor (List ℕ)). r.now) w.rest-is ∙ w.split_at.ensures.back in
          let grown : c.if-item-eq0.text.items ≡ c.loop-item.text.items ++ counts_text items (take n rest) =
          ap (λ (t : Vec ℕ Global). t.items) w.text-is ∙ w.in_ok-push_element.ensures
          ∙ ap (λ (xs : List Isotope). c.loop-item.text.items
          ++ counts_text (map (isotope_item part.0) xs) w.split_at.result.0.now)
          w.isotopes_of-isotopes.ensures.that_occur
          ∙ ap (λ (ns : List ℕ). c.loop-item.text.items ++ counts_text items ns) w.split_at.ensures.front in
          record {
            agree = ap length left ∙ agrees;
            text =
                ap (λ (t : List ℕ). t ++ counts_text others c.if-item-eq0.rest.now) grown
                ∙ ap (λ (ns : List ℕ). (c.loop-item.text.items ++ counts_text items (take n rest)) ++ counts_text others ns) left
                ∙ append_assoc c.loop-item.text.items (counts_text items (take n rest)) (counts_text others (drop n rest))
                ∙ ap (λ (t : List ℕ). c.loop-item.text.items ++ t) (sym parts) ∙ c.loop-item.invariant.text;
          }
      | else-item-eq0 w ↦
          let same = isotopes-skip c.args.table.now c.args.items.now c.loop-item.item-index part c.loop-item-test.true
          c.loop-item-item.is w.if-item-eq0.false in
          let same_items = items-skip c.args.table.now c.args.items.now c.loop-item.item-index part
          c.loop-item-test.true c.loop-item-item.is w.if-item-eq0.false in
          let left : c.if-item-eq0.rest.now ≡ rest = ap (λ (r : Bor (List ℕ)). r.now) w.rest-is in
          let left_text : counts_text others c.if-item-eq0.rest.now ≡ counts_text all rest = rw (left, same_items) refl in
          let text : c.if-item-eq0.text.items ≡ c.loop-item.text.items = ap (λ (t : Vec ℕ Global). t.items) w.text-is in
          record {
            agree = ap length left ∙ c.loop-item.invariant.agree ∙ ap length same;
            text = rw (left_text, text) c.loop-item.invariant.text;
          }
    ]
