use Rattle.std.proofs.Common.{◌++◌, codes, ap, ◌∙◌}
use Rattle.report_lines.proofs.JoinedWords.{appended_behind}
use Rattle.report_lines.proofs.envelope.push_text_with.Goals as goal

pub returns-clause-line : goal.returns-clause-line
returns-clause-line c =
    let front = c.args.report.now.items ++ codes "isotopologue " ++ c.args.text.now in
    appended_behind c.extend_from_slice-3.result front c.extend_from_slice-2.new.self.items c.args.numbers.now
    c.extend_from_slice-3.new.self.items
    (c.in_ok-extend_from_slice-2.ensures.items ∙ ap (λ t. t ++ c.args.text.now) c.in_ok-extend_from_slice.ensures.items)
    c.extend_from_slice-3.ensures.items
