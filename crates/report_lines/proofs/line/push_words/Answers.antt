use Rattle.std.proofs.Common.{◌≡◌, length, take, rules}
use Rattle.report_lines.specs.Words.{word_text}
use Rattle.report_lines.proofs.JoinedWords.{front_of_front, word_more}
use Rattle.report_lines.proofs.line.push_words.Goals as goal

pub returns-in_err-push_next_word-clause-kept : goal.returns-in_err-push_next_word-clause-kept
returns-in_err-push_next_word-clause-kept c =
    let start = c.args.report.now.items in
    let kept : take (length start) c.push_next_word.new.report.items ≡ start =
    front_of_front start _ c.loop-place.report.items c.push_next_word.new.report.items c.loop-place.invariant
    c.in_err-push_next_word.ensures.kept in
    search rules

pub loop-place-preserved : goal.loop-place-preserved
loop-place-preserved c =
    word_more word_text c.args.words.now c.loop-place.place c.index-words-place.result c.args.report.now.items
    c.loop-place.report.items c.push_next_word.new.report.items
    c.loop-place-test.true c.index-words-place.is c.loop-place.invariant c.in_ok-push_next_word.ensures.text
