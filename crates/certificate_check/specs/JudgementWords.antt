-- What a note says of a judgement, behind `isoform: certificate: `.
use Rattle.std.specs.Prelude.{ℕ, List, ◌++◌, codes}
use Rattle.std.specs.Fmt.{decimal}
use Rattle.certificate_check.specs.declared.judgement.Judgement.{Judgement}
use Rattle.certificate_check.specs.declared.judgement.Judgement.TheVariants.{Accepted, CoverageRange, TooManyMembers}
use Rattle.certificate_check.specs.declared.judgement.Judgement.TheVariants.{NotOfFormula, OutOfOrder, ModeAbsent}
use Rattle.certificate_check.specs.declared.judgement.Judgement.TheVariants.{OpenBoundary, SizeDiffers, CoverShort}
use Rattle.certificate_check.specs.declared.judgement.Judgement.TheVariants.{BoundTooHigh}

-- the size that was said, and how many lines are marked
abbrev pub size_words : ℕ → ℕ → List ℕ
size_words said found = codes "size differs: " ++ decimal said ++ codes ": " ++ decimal found

-- the line of an open boundary, the neighbour that isn't listed, and its upper bound
abbrev pub boundary_words : ℕ → List ℕ → ℕ → List ℕ
boundary_words line neighbour hi =
    codes "open boundary: line " ++ decimal line ++ codes ": " ++ neighbour ++ codes ": " ++ decimal hi

abbrev pub judgement_words : Judgement → List ℕ
judgement_words Accepted = codes "accepted"
judgement_words (CoverageRange said) = codes "coverage range: " ++ decimal said
judgement_words (TooManyMembers found) = codes "too many members: " ++ decimal found
judgement_words (NotOfFormula line) = codes "not of formula: line " ++ decimal line
judgement_words (OutOfOrder line) = codes "out of order: line " ++ decimal line
judgement_words ModeAbsent = codes "mode absent"
judgement_words (OpenBoundary line neighbour hi) = boundary_words line neighbour hi
judgement_words (SizeDiffers said found) = size_words said found
judgement_words (CoverShort total) = codes "cover short: " ++ decimal total
judgement_words (BoundTooHigh total) = codes "bound too high: " ++ decimal total
