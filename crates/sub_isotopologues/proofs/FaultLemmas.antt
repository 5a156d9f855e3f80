-- A fault of growing a list stays one under a weaker cause.
use Rattle.sub_isotopologues.specs.declared.fault.SubFault.{SubFault}
use Rattle.sub_isotopologues.specs.declared.fault.SubFault.TheVariants.{TooMany, NotInList, Memory}
use Rattle.sub_isotopologues.specs.ListAnswers.{OnlyTooMany}

pub OnlyTooMany-weaker : (P Q : Type 0) (f : SubFault) → (P → Q) → OnlyTooMany P f → OnlyTooMany Q f
OnlyTooMany-weaker P Q TooMany step many = step many
OnlyTooMany-weaker P Q NotInList step never = never
OnlyTooMany-weaker P Q Memory step any = any
