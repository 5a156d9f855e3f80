use Rattle.std.proofs.Common.{◌∙◌, sym, ap, is_some}
use Rattle.std.specs.List.{list_all}
use Rattle.std.proofs.lemmas.List.Folds.{list_all-map}
use Rattle.element_table.specs.Elements.{element_of}
use Rattle.golden_rules.specs.RuleLines.{is_known}
use Rattle.golden_rules.proofs.read.is_known.Goals as goal

pub returns-in-Group : goal.returns-in-Group
returns-in-Group c =
    c.are_known.ensures
    ∙ ap (list_all (λ t. is_some (element_of c.args.table.now t.symbol))) c.items.ensures
    ∙ sym (list_all-map (λ symbol. is_some (element_of c.args.table.now symbol)) (λ t. t.symbol) c.in-Group.triples)
    ∙ ap (is_known c.args.table.now) (sym c.in-Group.is)
