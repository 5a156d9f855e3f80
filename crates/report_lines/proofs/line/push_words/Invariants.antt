use Rattle.std.proofs.Common.{◌≡◌, ◌++◌, map, take}
use Rattle.std.specs.List.{join_with_byte}
use Rattle.report_lines.specs.Words.{word_text}
use Rattle.report_lines.proofs.line.push_words.Given as goal

-- the words so far were appended
abbrev pub invariant-loop-place : goal.invariant-loop-place
invariant-loop-place l = l.report.items ≡ l.initial.report.items
    ++ join_with_byte 32 (map word_text (take l.place l.words))
