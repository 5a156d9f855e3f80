-- The lines of a report. Masses, m/z and differences of masses are in units of 10^-12 Da; coverages, thresholds and the
-- bounds of probabilities are in units of 10^-18.
use Rattle.std.specs.Prelude.{ℕ, ℤ, ◌<◌, pos, negsuc, suc, ◌+ℤ◌, ◌-ℤ◌, neg_ℤ, ◌<ℤ◌, ◌*◌, ◌^◌, List, [], ◌∷◌, ◌++◌, take}
use Rattle.std.specs.Prelude.{codes}
use Rattle.std.specs.List.{join_with_byte, flat_map}
use Rattle.std.specs.Fmt.{decimal, signed_decimal}
use Rattle.std.specs.Option.{option_map_or}
use Rattle.fixed_decimal.specs.DecimalTexts.{decimal_text}
use Rattle.written_items.specs.declared.item.Item.{Item}
use Rattle.element_table.specs.Elements.{TableEntries}
use Rattle.formula_text.specs.Masses.{mass_of}
use Rattle.formula_text.specs.PrintedText.{printed_text}
use Rattle.adducts.specs.Adducts.{AdductValue, divisor_of}
use Rattle.adducts.specs.Ions.{ion_mass}
use Rattle.cover_certificate.specs.FormulaCovers.{MemberEntry, CoverEntries}

-- the bytes between two words, behind a line, and before a number below 0
abbrev pub space : ℕ
space = 32

abbrev pub line_feed : ℕ
line_feed = 10

abbrev pub minus : ℕ
minus = 45

-- words with one space between them, and a line feed
abbrev pub line : List (List ℕ) → List ℕ
line words = join_with_byte space words ++ line_feed ∷ []

-- a mass with 12 decimals
abbrev pub mass_text : ℕ → List ℕ
mass_text mass = decimal_text 12 mass

-- the same of a mass from which that of electrons was taken off, with a minus sign where it is below 0
abbrev pub ion_mass_text : ℤ → List ℕ
ion_mass_text (pos mass) = mass_text mass
ion_mass_text (negsuc n) = minus ∷ mass_text (suc n)

-- such a mass is printed where it is less than 2^64 above or below 0
pub record IsPrintedMass (mass : ℤ) : Type 0 where
  pub above : neg_ℤ (pos (2 ^ 64)) <ℤ mass
  pub below : mass <ℤ pos (2 ^ 64)

-- how far the mass of an ion is above that of an ion exactly at an m/z, which is the divisor times the m/z
abbrev pub mass_difference : ℤ → ℕ → ℕ → ℤ
mass_difference ion_mass mz divisor = ion_mass -ℤ pos (divisor * mz)

-- the line above the peaks of a report on so many
abbrev pub decompose_head : ℕ → List ℕ
decompose_head peaks = line (codes "decompose" ∷ decimal peaks ∷ [])

-- the line above the formulas of a peak: its number and its m/z
abbrev pub peak_line : ℕ → ℕ → List ℕ
peak_line number mz = line (codes "peak" ∷ decimal number ∷ mass_text mz ∷ [])

-- the line of a formula: its text and its mass, the mass of its ion, and how far that is above divisor times m/z
abbrev pub formula_line : List (Item × ℕ) → ℕ → ℤ → ℕ → ℕ → List ℕ
formula_line formula mass ion_mass mz divisor =
    line (codes "formula" ∷ printed_text formula ∷ mass_text mass ∷ ion_mass_text ion_mass
    ∷ signed_decimal (mass_difference ion_mass mz divisor) ∷ [])

-- the line of a formula over its ion, which is defined
abbrev pub decompose_line : TableEntries → List (Item × ℕ) → AdductValue → ℕ → List ℕ
decompose_line table formula adduct mz =
    option_map_or (λ mass. formula_line formula (mass_of table formula) mass mz (divisor_of adduct))
    (ion_mass table adduct formula) []

-- the lines above the isotopologues of a cover of a formula, for a coverage, with its size, bound and threshold
abbrev pub head_lines : List (Item × ℕ) → ℕ → ℕ → ℕ → ℕ → List ℕ
head_lines formula coverage size bound threshold =
    line (codes "envelope" ∷ printed_text formula ∷ [])
    ++ line (codes "coverage" ∷ decimal coverage ∷ [])
    ++ line (codes "size" ∷ decimal size ∷ [])
    ++ line (codes "bound" ∷ decimal bound ∷ [])
    ++ line (codes "threshold" ∷ decimal threshold ∷ [])

abbrev pub envelope_head : CoverEntries → List ℕ
envelope_head cover = head_lines cover.formula cover.coverage cover.size cover.bound cover.threshold

-- the mass of a member of a cover with a shift added, as that of its electrons
abbrev pub shifted_mass : ℤ → MemberEntry → ℤ
shifted_mass shift member = pos member.mass +ℤ shift

-- a member's mass, which fits 64 bits, is printed with the shift added
abbrev pub IsPrintedWith : ℤ → MemberEntry → Type 0
IsPrintedWith shift member = member.mass < 2 ^ 64 → IsPrintedMass (shifted_mass shift member)

-- the line of an isotopologue: its text, its mass with the shift added, and the bounds of its probability
abbrev pub isotopologue_line : ℤ → MemberEntry → List ℕ
isotopologue_line shift member =
    line (codes "isotopologue" ∷ member.text ∷ ion_mass_text (shifted_mass shift member)
    ∷ decimal member.lo ∷ decimal member.hi ∷ [])

-- a member as its line names it, by its text, its mass and the bounds of its probability
abbrev pub member_of_words : List ℕ → ℕ → ℕ → ℕ → MemberEntry
member_of_words text mass lo hi = record { counts = []; text = text; mass = mass; lo = lo; hi = hi }

-- the members of a cover: the first ones of its layer, as many as its size
abbrev pub cover_members : CoverEntries → List MemberEntry
cover_members cover = take cover.size cover.layer

-- the report of a cover, with the shift added to each mass
abbrev pub envelope_text : ℤ → CoverEntries → List ℕ
envelope_text shift cover = envelope_head cover ++ flat_map (isotopologue_line shift) (cover_members cover)

-- the line of an accepted certificate: its size and its bound
abbrev pub accepted_line : ℕ → ℕ → List ℕ
accepted_line size bound =
    line (codes "accepted" ∷ codes "size" ∷ decimal size ∷ codes "bound" ∷ decimal bound ∷ [])
