use Rattle.std.proofs.Common.{◌≡◌, ◌++◌, [], ℕ, List, drop, length, arith, ap, sym, ◌∙◌, append-nil}
use Rattle.std.proofs.lemmas.List.{drop_all}
use Rattle.written_items.specs.declared.item.Item.{Item}
use Rattle.isotopologue_text.specs.Isotopologues.{isotope_items}
use Rattle.isotopologue_text.proofs.CountsLemmas.{items-as_many}
use Rattle.isotopologue_text.proofs.printed.items_in.Goals as goal

pub returns-clause-as_many : goal.returns-clause-as_many
returns-clause-as_many c =
    let parts : List (Item × ℕ) = c.args.parts.now in
    let found : List Item = c.loop-item.items.items in
    let none : drop c.loop-item.item-index parts ≡ [] = drop_all c.loop-item.item-index parts (omega arith) in
    let whole : found ≡ isotope_items c.args.table.now parts =
    sym (append-nil found)
    ∙ ap (λ (ps : List (Item × ℕ)). found ++ isotope_items c.args.table.now ps) (sym none)
    ∙ c.loop-item.invariant in
    ap length whole ∙ items-as_many c.args.table.now parts
