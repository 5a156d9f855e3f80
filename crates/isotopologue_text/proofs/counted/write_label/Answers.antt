use Rattle.std.proofs.Common.{◌≡◌, ℕ, ◌-◌, List, ◌++◌, drop, length, ap, ◌∙◌, arith}
use Rattle.std.proofs.lemmas.Slice.{take-put_mid, drop-put_mid}
use Rattle.isotopologue_text.proofs.PrintedLabels.{label-copied}
use Rattle.isotopologue_text.proofs.counted.write_label.Goals as goal

pub returns-clause-text : goal.returns-clause-text
returns-clause-text c =
    let end : ℕ = c.args.end in
    let from : ℕ = end - 16 in
    let room : List ℕ = c.args.room.now in
    let label = c.args.label.now in
    let copied : List ℕ = c.copy_from_slice.new.self in
    let same : copied ≡ label.bytes = c.copy_from_slice.ensures.after in
    let long : length copied ≡ 16 = omega (arith, ap length same, label.whole) in
    label-copied from end label.start room copied _ (omega arith) c.requires.to (omega (arith, label.within))
    (take-put_mid from (end - from) room copied end (omega arith) (omega arith))
    (drop-put_mid from (end - from) room copied end (omega arith) (omega arith) (omega arith))
    ∙ ap (λ (b : List ℕ). drop label.start b ++ drop end room) same
