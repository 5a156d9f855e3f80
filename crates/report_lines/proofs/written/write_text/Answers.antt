use Rattle.std.proofs.Common.{◌≡◌, ℕ, ◌-◌, List, length, ap, arith}
use Rattle.std.proofs.lemmas.Slice.{take-put_mid, drop-put_mid}
use Rattle.report_lines.proofs.WrittenTexts.{text_in_front}
use Rattle.report_lines.proofs.written.write_text.Goals as goal

pub returns-clause-written : goal.returns-clause-written
returns-clause-written c =
    let end : ℕ = c.args.end in
    let room : List ℕ = c.args.bytes.now in
    let text : List ℕ = c.args.text.now in
    let start : ℕ = end - length text in
    let copied : List ℕ = c.copy_from_slice.new.self in
    let same : copied ≡ text = c.copy_from_slice.ensures.after in
    let long : length copied ≡ length text = ap length same in
    text_in_front start end room text copied _ same (omega (arith, c.requires.room)) c.requires.within
    (take-put_mid start (end - start) room copied end (omega arith) (omega arith))
    (drop-put_mid start (end - start) room copied end (omega arith) (omega arith) (omega arith))
