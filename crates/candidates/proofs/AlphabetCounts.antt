-- The count lists of an alphabet: their items and masses.
use Rattle.std.proofs.Common.{◌≡◌, ℕ, ◌*◌, ◌≤◌, List, [], ◌∷◌, refl, sym, ap, subst, arith}
use Rattle.std.specs.Prelude.{All, IsTrue, is_some, Option, Some, None, option_map}
use Rattle.formula_text.proofs.SumFolds.{sum_of-items}
use Rattle.std.specs.List.{AllByRecursion}
use Rattle.std.proofs.lemmas.List.Elements.{All-from_recursion, recursion_from_All}
use Rattle.element_table.specs.Elements.{TableEntries}
use Rattle.written_items.specs.declared.item.Item.{Item}
use Rattle.formula_text.specs.Formulas.{atoms_of}
use Rattle.formula_text.specs.Masses.{HasItems, item_isotope, item_mass, mass_of}
use Rattle.formula_text.proofs.CountsInOrder.{atoms_of-cons}
use Rattle.decompose.specs.Masses as lists
use Rattle.alphabet_text.specs.declared.entries.AlphabetEntry.{AlphabetEntry}
use Rattle.alphabet_text.specs.Alphabets.{IsAlphabet, IsEntryOf, IsMassOfIsotope}
use Rattle.std.proofs.Math.Nat.{mul-le-mul_left}
use Rattle.adducts.proofs.WeighedSums.{weigh-cons}
use Rattle.candidates.specs.PeakFormulas.{counts_of, formula_at, masses_of}

abbrev Known : TableEntries → Item × ℕ → Type 0
Known table p = IsTrue (is_some (item_isotope table p.0))

known-counts : (table : TableEntries) (alphabet : List AlphabetEntry) (counts : List ℕ)
    → AllByRecursion (IsEntryOf table) alphabet → AllByRecursion (Known table) (counts_of alphabet counts)
known-counts table [] counts h = tt
known-counts table (e ∷ es) [] h = tt
known-counts table (e ∷ es) (c ∷ cs) h = (h.0.known, known-counts table es cs h.1)

-- the table has the items of an alphabet's count lists
pub HasItems-counts : (table : TableEntries) (alphabet : List AlphabetEntry) (counts : List ℕ)
    → All (IsEntryOf table) alphabet → HasItems table (counts_of alphabet counts)
HasItems-counts table alphabet counts h =
    All-from_recursion (Known table) (counts_of alphabet counts)
    (known-counts table alphabet counts (recursion_from_All (IsEntryOf table) alphabet h))

mass-each : (table : TableEntries) (alphabet : List AlphabetEntry) (counts : List ℕ)
    → AllByRecursion (IsEntryOf table) alphabet
    → mass_of table (counts_of alphabet counts) ≡ lists.mass_of (masses_of alphabet) counts
mass-each table [] counts h = refl
mass-each table (e ∷ es) [] h = refl
mass-each table (e ∷ es) (c ∷ cs) h =
    let cons = weigh-cons (item_mass table) (e.item, c) (counts_of es cs) in
    let rest = mass-each table es cs h.1 in
    let own : c * e.mass ≡ c * item_mass table e.item = ap (λ m. c * m) h.0.mass in
    omega arith

-- the mass of a count list is that of its formula
pub mass-counts : (table : TableEntries) (alphabet : List AlphabetEntry) (counts : List ℕ)
    → All (IsEntryOf table) alphabet
    → mass_of table (counts_of alphabet counts) ≡ lists.mass_of (masses_of alphabet) counts
mass-counts table alphabet counts h =
    mass-each table alphabet counts (recursion_from_All (IsEntryOf table) alphabet h)

heavy-each : (alphabet : List AlphabetEntry) (counts : List ℕ) → AllByRecursion (λ e. IsMassOfIsotope e.mass) alphabet
    → atoms_of (counts_of alphabet counts) ≤ lists.mass_of (masses_of alphabet) counts
heavy-each [] counts h = omega arith
heavy-each (e ∷ es) [] h = omega arith
heavy-each (e ∷ es) (c ∷ cs) h =
    let cons = atoms_of-cons (e.item, c) (counts_of es cs) in
    let rest = heavy-each es cs h.1 in
    let from : 1 ≤ e.mass = omega (arith, h.0.from) in
    let own : c * 1 ≤ c * e.mass = mul-le-mul_left c from in
    omega arith

-- each atom has a mass
pub heavy-counts : (alphabet : List AlphabetEntry) (counts : List ℕ) → IsAlphabet alphabet
    → atoms_of (counts_of alphabet counts) ≤ lists.mass_of (masses_of alphabet) counts
heavy-counts alphabet counts is =
    heavy-each alphabet counts (recursion_from_All (λ (e : AlphabetEntry). IsMassOfIsotope e.mass) alphabet is.sound.masses)

-- and those of the formula of a count list
pub HasItems-at : (table : TableEntries) (alphabet : List AlphabetEntry) (counts : List ℕ)
    → All (IsEntryOf table) alphabet → HasItems table (formula_at alphabet counts)
HasItems-at table alphabet counts h =
    All-from_recursion (Known table) (formula_at alphabet counts)
    (sum_of-items (λ item. IsTrue (is_some (item_isotope table item))) (counts_of alphabet counts)
    (known-counts table alphabet counts (recursion_from_All (IsEntryOf table) alphabet h)))

pub HasItems-token : (table : TableEntries) (alphabet : List AlphabetEntry) (given : Option (List ℕ)) (formula : List (Item × ℕ))
    → All (IsEntryOf table) alphabet → Some formula ≡ option_map (formula_at alphabet) given → HasItems table formula
HasItems-token table alphabet None formula h e = cc
HasItems-token table alphabet (Some counts) formula h e =
    let same : formula ≡ formula_at alphabet counts = cc in
    subst (HasItems table) (sym same) (HasItems-at table alphabet counts h)
