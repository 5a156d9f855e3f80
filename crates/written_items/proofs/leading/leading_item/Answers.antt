use Rattle.std.proofs.Common.{◌≡◌, sym, ap, ◌∙◌}
use Rattle.std.proofs.lemmas.List.{take_rest}
use Rattle.written_items.specs.LeadingItems.{labelled_item, leading_item, item_answer}
use Rattle.written_items.proofs.LeadingItemLaws.{labelled-leading_item, plain-leading_item}
use Rattle.written_items.proofs.LeadingItemLaws.{TellsLeadingItem-item_answer, IsBadPlace-item_answer}
use Rattle.written_items.proofs.leading.leading_item.Goals as goal
use Rattle.written_items.proofs.leading.leading_item.Goals.{After-labelled_item, After-plain_item}

labelled : (c : After-labelled_item) → c.labelled_item.result ≡ item_answer (leading_item c.args.text.now)
labelled c =
    c.labelled_item.ensures ∙ ap (λ t. item_answer (labelled_item t)) (take_rest c.args.text.now 1)
    ∙ labelled-leading_item c.args.text.now (sym c.if-begins_with.ensures)

plain : (c : After-plain_item) → c.plain_item.result ≡ item_answer (leading_item c.args.text.now)
plain c = c.plain_item.ensures ∙ plain-leading_item c.args.text.now (sym c.if-begins_with.ensures)

pub returns-then-begins_with-clause-item : goal.returns-then-begins_with-clause-item
returns-then-begins_with-clause-item c = labelled c

pub returns-then-begins_with-clause-leading : goal.returns-then-begins_with-clause-leading
returns-then-begins_with-clause-leading c =
    TellsLeadingItem-item_answer c.args.text.now c.labelled_item.result (labelled c)

pub returns-then-begins_with-clause-bad : goal.returns-then-begins_with-clause-bad
returns-then-begins_with-clause-bad c = IsBadPlace-item_answer c.args.text.now c.labelled_item.result (labelled c)

pub returns-else-begins_with-clause-item : goal.returns-else-begins_with-clause-item
returns-else-begins_with-clause-item c = plain c

pub returns-else-begins_with-clause-leading : goal.returns-else-begins_with-clause-leading
returns-else-begins_with-clause-leading c = TellsLeadingItem-item_answer c.args.text.now c.plain_item.result (plain c)

pub returns-else-begins_with-clause-bad : goal.returns-else-begins_with-clause-bad
returns-else-begins_with-clause-bad c = IsBadPlace-item_answer c.args.text.now c.plain_item.result (plain c)
