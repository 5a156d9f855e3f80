-- What was read of a reader so far, and what it has left.
use Rattle.std.proofs.Common.{◌≡◌, ℕ, ◌+◌, ◌≤◌, List, ◌++◌, length, take, Option, None, Some, sym, ap, ◌∙◌}
use Rattle.std.proofs.Common.{append_assoc, arith, length-append}
use Rattle.std.specs.Prelude.{Ok}
use lib.Seq.{take-take}
use Rattle.std.proofs.Math.Seq.{take-append_seam, take-append-add}
use Rattle.std.proofs.lemmas.List.{take_all, take_at, take-append-le}
use Rattle.std.specs.Io.KnownBytes.{Consumes}
use Rattle.outside_ports.specs.ReadBytes.{ReadsUpTo}

-- a vector that was made longer, read into behind its old bytes and cut to what was read, has grown by that alone
pub grown_by_block : (old zeros sized new block post extra : List ℕ) (start wanted taken long : ℕ)
    → new ≡ take (start + taken) (take long ((take start sized ++ (block ++ post)) ++ extra))
    → sized ≡ take (start + wanted) old ++ zeros → start ≡ length old → taken ≤ length block → start + taken ≤ long
    → new ≡ old ++ take taken block
grown_by_block old zeros sized new block post extra start wanted taken long cut is begin fits within =
    let front : take start sized ≡ old =
    ap (take start) is ∙ ap (λ l. take start (l ++ zeros)) (take_all (start + wanted) old (omega (arith, begin)))
    ∙ take_at old zeros start (sym begin) in
    let inside : start + taken ≤ length (old ++ (block ++ post)) =
    omega (arith, begin, fits, length-append old (block ++ post), length-append block post) in
    cut ∙ take-take (start + taken) long ((take start sized ++ (block ++ post)) ++ extra) within
    ∙ ap (λ f. take (start + taken) ((f ++ (block ++ post)) ++ extra)) front
    ∙ take-append-le (start + taken) (old ++ (block ++ post)) extra inside
    ∙ ap (λ n. take (n + taken) (old ++ (block ++ post))) begin
    ∙ take-append-add old (block ++ post) taken
    ∙ ap (λ l. old ++ l) (take-append-le taken block post fits)

-- as many bytes as were wanted are there
pub read_enough : (known now : Option (List ℕ)) (most : ℕ) (before read after : List ℕ)
    → after ≡ before ++ read → Consumes known now read → length after ≡ most
    → ReadsUpTo (Ok tt) known most before after
read_enough None now most before read after is consumed enough = tt
read_enough (Some left) None most before read after is consumed enough = absurd consumed
read_enough (Some left) (Some rest) most before read after is consumed enough =
    let whole : before ++ left ≡ after ++ rest =
    ap (λ l. before ++ l) consumed ∙ sym (append_assoc before read rest) ∙ ap (λ l. l ++ rest) (sym is) in
    sym (ap (take most) whole ∙ ap (λ n. take n (after ++ rest)) (sym enough) ∙ take-append_seam after rest)
