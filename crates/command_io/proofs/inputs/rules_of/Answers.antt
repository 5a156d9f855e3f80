use Rattle.std.proofs.Common.{rules, ◌≡◌, Bool, true, false, cond, []}
use Rattle.std.specs.Prelude.{Result, codes}
use Rattle.std.specs.Str.{bytes_eq}
use Rattle.std.proofs.lemmas.Grind.{common_steps}
use Rattle.std.proofs.lemmas.Result.{err_from_is_err_and}
use Rattle.outside_ports.specs.Files.{Files}
use Rattle.command_io.specs.Asked.{Asked, Names, asks_file}
use Rattle.command_io.specs.Parts.{IsPart, Shelved}
use Rattle.command_io.specs.Steps.{rules_in}
use Rattle.command_io.specs.declared.refusal.Refusal.{Refusal}
use Rattle.command_io.proofs.PartLaws.{part_end, part_end_stop}
use Rattle.command_io.proofs.inputs.rules_of.Goals as goal

-- the rules of a file, where the word is none of two others
of_file : {X A : Type 0} (view : X → A) (none golden : Bool) (names : Names) (none_of profiled file : Files → Asked A)
    (before after : Shelved) (answered : Result X Refusal) → none ≡ false → golden ≡ false →
    IsPart view names file before after answered →
    IsPart view (cond none [] (cond golden [] names))
    (λ files. cond none (none_of files) (cond golden (profiled files) (file files))) before after answered
of_file view true golden names none_of profiled file before after answered e f part = cc
of_file view false true names none_of profiled file before after answered e f part = cc
of_file view false false names none_of profiled file before after answered e f part = part

pub returns-in_err-bytes : goal.returns-in_err-bytes
returns-in_err-bytes g c =
    let given = err_from_is_err_and c.from_residual-in_err-bytes.result c.from_residual-in_err-bytes.ensures.1 in
    rw (given.1, given.2) (of_file (λ r. r) (bytes_eq c.args.word.now (codes "none")) (bytes_eq c.args.word.now (codes "golden"))
    _ _ _ _ _ _ _ (search (rules, common_steps)) (search (rules, common_steps))
    (part_end_stop (λ v. v.items) (λ r. r) _ (asks_file 16777216 c.args.word.now) (rules_in c.args.table.now) _ _ _
    c.in_err-bytes.ensures))

pub returns : goal.returns
returns g c =
    of_file (λ r. r) (bytes_eq c.args.word.now (codes "none")) (bytes_eq c.args.word.now (codes "golden"))
    _ _ _ _ _ _ _ (search (rules, common_steps)) (search (rules, common_steps))
    (part_end (λ v. v.items) (λ r. r) _ (asks_file 16777216 c.args.word.now) (rules_in c.args.table.now) _ _
    c.in_ok-bytes.bytes c.rules_in.result c.in_ok-bytes.ensures (rw c.deref.ensures.value at c.rules_in.ensures))
