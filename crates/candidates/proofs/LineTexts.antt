-- The line of a formula over its ion, told by the mass of the formula.
use Rattle.std.proofs.Common.{◌≡◌, ℕ, ℤ, pos, ◌*◌, ◌+ℤ◌, ◌<◌, ◌^◌, true, List, [], ◌++◌, sym, ap, subst, ◌∙◌, arith}
use Rattle.std.specs.Prelude.{Result, OnOk, All, is_some}
use Rattle.std.specs.List.{zip}
use Rattle.std.specs.Option.{option_map_or}
use Rattle.std.proofs.lemmas.Int.{ints}
use Rattle.element_table.specs.Elements.{TableEntries, IsTable}
use Rattle.written_items.specs.declared.item.Item.{Item}
use Rattle.formula_text.specs.Formulas.{IsFormula, IsItem, sum_of}
use Rattle.formula_text.specs.Masses.{mass_of}
use Rattle.mass_scaling.specs.Limits.{IsIonMass}
use Rattle.adducts.specs.Adducts.{AdductValue, IsAdduct, divisor_of}
use Rattle.adducts.specs.Ions.{ion_of, shift_of}
use Rattle.adducts.proofs.IonAnswers.{mass-is}
use Rattle.adducts.proofs.MassBounds.{parts-light}
use Rattle.decompose.specs.Masses as lists
use Rattle.candidates.specs.Grounds.{GroundValue, IsGround}
use Rattle.candidates.specs.PeakFormulas.{counts_of, items_of, masses_of}
use Rattle.candidates.specs.Standings.{IsToken}
use Rattle.candidates.proofs.CandidateTests.{formula-counts, mass-at}
use Rattle.report_lines.specs.ReportLines.{IsPrintedMass, decompose_line, formula_line}

-- the mass of an ion is one that is printed
pub printed-mass : (mass : ℤ) → IsIonMass mass → IsPrintedMass mass
printed-mass mass h = record { above = omega (arith, ints, h); below = omega (arith, ints, h) }

abbrev pub own_mass : TableEntries → AdductValue → ℕ → ℤ
own_mass table adduct mass = pos (adduct.copies * mass) +ℤ shift_of table adduct

pub ion-printed : (table : TableEntries) (adduct : AdductValue) (f : List (Item × ℕ)) (mass : ℕ) (ion : ℤ) → IsTable table
    → IsAdduct adduct → IsFormula f → is_some (ion_of adduct f) ≡ true → mass ≡ mass_of table f
    → ion ≡ own_mass table adduct mass → IsPrintedMass ion
ion-printed table adduct f mass ion is of formula there same of_ion =
    printed-mass ion (mass-is table adduct f ion is of formula (sym there)
    (of_ion ∙ ap (own_mass table adduct) same)).in_range

pub ion-line : (table : TableEntries) (adduct : AdductValue) (f : List (Item × ℕ)) (mz mass divisor : ℕ) (ion : ℤ)
    → IsTable table → IsAdduct adduct → IsFormula f → is_some (ion_of adduct f) ≡ true → mass ≡ mass_of table f
    → ion ≡ own_mass table adduct mass → divisor ≡ divisor_of adduct
    → formula_line f mass ion mz divisor ≡ decompose_line table f adduct mz
ion-line table adduct f mz mass divisor ion is of formula there same of_ion of_divisor =
    let exact = (mass-is table adduct f ion is of formula (sym there) (of_ion ∙ ap (own_mass table adduct) same)).exact in
    ap (λ m. formula_line f m ion mz divisor) same
    ∙ ap (formula_line f (mass_of table f) ion mz) of_divisor
    ∙ ap (λ o. option_map_or (λ m. formula_line f (mass_of table f) m mz (divisor_of adduct)) o []) exact

pub line-told : {E : Type 0} (r : Result (Unit {0}) E) (old new a b : List ℕ) → OnOk r (new ≡ old ++ a) → a ≡ b
    → OnOk r (new ≡ old ++ b)
line-told r old new a b h same = subst (λ l. OnOk r (new ≡ old ++ l)) same h

-- ---- what was written to the room

pub written-formula : (premises : GroundValue) (counts : List ℕ) (items : List Item) (formula : List (Item × ℕ))
    → IsGround premises → IsToken premises counts → formula ≡ sum_of (zip items counts) → items ≡ items_of premises.alphabet
    → All (λ p. IsItem p.0) formula → IsFormula formula
written-formula premises counts items formula is token sum of_items each =
    let made = sum ∙ ap (λ l. sum_of (zip l counts)) of_items in
    subst IsFormula (sym made)
    (formula-counts (counts_of premises.alphabet counts) (subst (All (λ (p : Item × ℕ). IsItem p.0)) made each) token.is_formula)

pub written-mass : (premises : GroundValue) (counts : List ℕ) (items : List Item) (masses : List ℕ) (formula : List (Item × ℕ))
    → IsGround premises → formula ≡ sum_of (zip items counts) → items ≡ items_of premises.alphabet
    → masses ≡ masses_of premises.alphabet → lists.mass_of masses counts ≡ mass_of premises.table formula
written-mass premises counts items masses formula is sum of_items of_masses =
    ap (λ m. lists.mass_of m counts) of_masses
    ∙ sym (ap (mass_of premises.table) (sum ∙ ap (λ l. sum_of (zip l counts)) of_items) ∙ mass-at premises counts is)

pub written-light : (premises : GroundValue) (mass : ℕ) (formula : List (Item × ℕ)) → IsGround premises → IsFormula formula
    → mass ≡ mass_of premises.table formula → mass < 2 ^ 64
written-light premises mass formula is of same =
    omega (arith, parts-light premises.table formula is.is_table of.parts, same)
