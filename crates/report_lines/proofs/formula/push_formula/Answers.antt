use Rattle.std.proofs.Common.{ℕ, List, ◌++◌, ap, ◌∙◌, append_assoc}
use Rattle.formula_text.specs.PrintedText.{printed_text}
use Rattle.report_lines.proofs.JoinedWords.{kept_more}
use Rattle.report_lines.proofs.FormulaTexts.{items-joined}
use Rattle.report_lines.proofs.formula.push_formula.Goals as goal

pub loop-rest-preserved : goal.loop-rest-preserved
loop-rest-preserved c =
    let before : List ℕ = c.loop-rest.text.items in
    let group = c.split_at.result.0.now in
    let others = c.split_at.result.1.now in
    record {
      text =
          ap (λ (t : List ℕ). t ++ printed_text others) c.in_ok-push_group.ensures.text
          ∙ append_assoc before (printed_text group) (printed_text others)
          ∙ ap (λ (t : List ℕ). before ++ t)
          (items-joined 16 c.loop-rest.rest.now group others c.split_at.ensures.front c.split_at.ensures.back)
          ∙ c.loop-rest.invariant.text;
      kept =
          kept_more c.args.text.now.items (printed_text group) before c.push_group.new.text.items
          c.loop-rest.invariant.kept c.in_ok-push_group.ensures.text;
    }
