-- Windows in which each count list is a candidate, since no limit of a formula or of an ion is near.
use Rattle.std.proofs.Common.{◌≡◌, ℕ, ◌+◌, ◌*◌, ◌/◌, ◌<◌, ◌≤◌, Bool, true, false, cond, ltb, T, inl, inr, List, [], ◌∷◌}
use Rattle.std.proofs.Common.{length, map, fold, refl, sym, ap, ◌∙◌, arith, length-append}
use Rattle.std.specs.Prelude.{All, None, Ok, is_some, nat_le, ◌==◌, ◌&&◌, not}
use Rattle.std.specs.List.{AllByRecursion, list_all}
use Rattle.std.specs.FinMap.{is_sorted, find}
use Rattle.std.specs.FinMap.Entries.{length-put}
use Rattle.std.proofs.lemmas.Bool.{false≢true, le-ltb, cases_lt}
use Rattle.std.proofs.lemmas.Bool.Decides.{nat_tests}
use Rattle.std.proofs.lemmas.List.{length-map}
use Rattle.std.proofs.lemmas.List.Elements.{recursion_from_All}
use Rattle.std.proofs.Math.Nat.{mul-le-mul_left, mul-le-mul_right}
use Rattle.decompose.specs.Masses as lists
use Rattle.written_items.specs.declared.item.Item.{Item}
use Rattle.formula_text.specs.HillOrder.{hill_cmp}
use Rattle.formula_text.specs.Formulas.{atoms_of, count_in, formula_in, formula_of, has_carbon, sum_of, with_part}
use Rattle.formula_text.proofs.CountsInOrder.{atoms_of-cons}
use Rattle.formula_text.proofs.HillOrderLaws.{hill_total}
use Rattle.formula_text.proofs.SumFolds.{is_sorted-with_part, sum_of-atoms, with_atoms}
use Rattle.formula_text.proofs.SumLimits.{parts_of-within}
use Rattle.adducts.specs.Adducts.{AdductValue, IsAdduct}
use Rattle.adducts.specs.Ions.{gained, has_item, ion_count, ion_counts, ion_of}
use Rattle.adducts.proofs.IonCounts.{distinct-counts, ion-weight, others_of}
use Rattle.adducts.proofs.ItemLists.{Distinct, sum-Distinct}
use Rattle.adducts.proofs.WeighedSums.{weigh, weigh-cons}
use Rattle.golden_rules.specs.Verdicts.{meets_all}
use Rattle.alphabet_text.specs.declared.entries.AlphabetEntry.{AlphabetEntry}
use Rattle.alphabet_text.specs.Alphabets.{IsMassOfIsotope}
use Rattle.candidates.specs.Grounds.{GroundValue, IsGround}
use Rattle.candidates.specs.PeakFormulas.{counts_of, formula_at, masses_of}
use Rattle.candidates.specs.Searches.{is_formed}
use Rattle.candidates.proofs.NumberedItems.{few-each, length-filtered}

-- ---- sums are no longer than their parts

fold-length : (carbon : Bool) (es ps : List (Item × ℕ)) → T (is_sorted (hill_cmp carbon) es)
    → length (fold (with_part carbon) es ps) ≤ length es + length ps
fold-length carbon es [] h = omega arith
fold-length carbon es (p ∷ ps) h =
    let rest = fold-length carbon (with_part carbon es p) ps (is_sorted-with_part carbon es p h) in
    let one = put-length (is_some (find (hill_cmp carbon) p.0 es))
    (length-put (hill_cmp carbon) (hill_total carbon) p.0 (count_in es p.0 + p.1) es h) in
    omega (arith, rest, one)
  where
    put-length : (b : Bool) → length (with_part carbon es p) ≡ cond b (length es) (length es + 1)
        → length (with_part carbon es p) ≤ length es + 1
    put-length true e = omega (arith, e)
    put-length false e = omega (arith, e)

sum-length : (ps : List (Item × ℕ)) → length (sum_of ps) ≤ length ps
sum-length ps =
    let folded = fold-length (has_carbon ps) [] (with_atoms ps) tt in
    let fewer = length-filtered (λ p. ltb 0 p.1) ps in
    omega (arith, folded, fewer)

some-formula : (items : List (Item × ℕ)) → 1 ≤ atoms_of items → is_some (formula_in (Ok items)) ≡ true
some-formula [] h = absurd (omega (arith, h))
some-formula (p ∷ ps) h = refl

-- few items with few atoms, and some, have a formula
few-formula : (ps : List (Item × ℕ)) → 1 ≤ atoms_of ps → atoms_of ps ≤ 10000 → length ps ≤ 20
    → is_some (formula_of ps) ≡ true
few-formula ps some few short =
    let same = sum_of-atoms ps in
    let shorter = sum-length ps in
    ap (λ r. is_some (formula_in r))
    (parts_of-within ps (le-ltb 20000 (atoms_of ps) (omega (arith, few)))
    (few-each (sum_of ps) (omega (arith, same, few)))
    (le-ltb 20 (length (sum_of ps)) (omega (arith, shorter, short))))
    ∙ some-formula (sum_of ps) (omega (arith, same, some))

-- ---- the ion

atoms-weigh : (xs : List (Item × ℕ)) → atoms_of xs ≡ weigh (λ _. 1) xs
atoms-weigh [] = refl
atoms-weigh (x ∷ xs) =
    let rest = atoms-weigh xs in
    let old = atoms_of-cons x xs in
    let new = weigh-cons (λ _. 1) x xs in
    omega arith

ion-atoms : (adduct : AdductValue) (f : List (Item × ℕ)) → IsAdduct adduct → Distinct f → adduct.lost ≡ []
    → atoms_of (ion_counts adduct f) ≡ adduct.copies * atoms_of f + atoms_of adduct.added
ion-atoms adduct f is apart lost =
    let weights =
    ion-weight (λ _. 1) adduct f (ion_counts adduct f)
    (λ item.
    let same = distinct-counts adduct f is apart item in
    let none : count_in adduct.lost item ≡ 0 = ap (λ l. count_in l item) lost in
    omega (arith, same, none)) in
    let a = atoms-weigh (ion_counts adduct f) in
    let l : weigh (λ _. 1) adduct.lost ≡ 0 = ap (weigh (λ _. 1)) lost in
    let b = atoms-weigh adduct.added in
    let n = ap (λ k. adduct.copies * k) (atoms-weigh f) in
    omega (arith, weights, a, l, b, n)

ion-length : (adduct : AdductValue) (f : List (Item × ℕ)) → length (ion_counts adduct f) ≤ length f + length adduct.added
ion-length adduct f =
    let entry : Item × ℕ → Item × ℕ = λ p. (p.0, ion_count adduct f p.0) in
    let both = length-append (map entry f) (map entry (others_of adduct f)) in
    let own = length-map f entry in
    let others = length-map (others_of adduct f) entry in
    let fewer = length-filtered (λ p. not (has_item f p.0)) adduct.added in
    omega (arith, both, own, others, fewer)

sure-ion : (adduct : AdductValue) (f : List (Item × ℕ)) → adduct.lost ≡ [] → is_some (formula_of (ion_counts adduct f)) ≡ true
    → is_some (ion_of adduct f) ≡ true
unfolding ion_of
sure-ion adduct f lost h =
    ap (λ l. is_some (cond (list_all (λ p. nat_le p.1 (gained adduct f p.0)) l) (formula_of (ion_counts adduct f)) None)) lost ∙ h

-- few items, some, with few atoms have an ion where nothing is lost
pub few-ion : (adduct : AdductValue) (f : List (Item × ℕ)) → IsAdduct adduct → Distinct f → adduct.lost ≡ []
    → 1 ≤ atoms_of f → adduct.copies * atoms_of f + atoms_of adduct.added ≤ 10000 → length f + length adduct.added ≤ 20
    → is_some (ion_of adduct f) ≡ true
few-ion adduct f is apart lost some few short =
    let ion = ion-atoms adduct f is apart lost in
    let long = ion-length adduct f in
    let once : 1 * atoms_of f ≤ adduct.copies * atoms_of f = mul-le-mul_right (atoms_of f) is.some_copies in
    sure-ion adduct f lost
    (few-formula (ion_counts adduct f) (omega (arith, ion, once, some)) (omega (arith, ion, few))
    (omega (arith, long, short)))

-- a formula has an atom
pub some-atoms : (f : List (Item × ℕ)) → 0 < length f → All (λ p. 0 < p.1) f → 1 ≤ atoms_of f
some-atoms [] some positive = absurd (omega (arith, some))
some-atoms (p ∷ ps) some positive =
    let cons = atoms_of-cons p ps in
    let own = (recursion_from_All (λ (q : Item × ℕ). 0 < q.1) (p ∷ ps) positive).0 in
    omega (arith, cons, own)

-- ---- each list of a window

-- each atom weighs at least half a Da
half-each : (alphabet : List AlphabetEntry) (counts : List ℕ) → AllByRecursion (λ e. IsMassOfIsotope e.mass) alphabet
    → atoms_of (counts_of alphabet counts) * 500000000000 ≤ lists.mass_of (masses_of alphabet) counts
half-each [] counts h = omega arith
half-each (e ∷ es) [] h = omega arith
half-each (e ∷ es) (c ∷ cs) h =
    let cons = atoms_of-cons (e.item, c) (counts_of es cs) in
    let rest = half-each es cs h.1 in
    let own : c * 500000000000 ≤ c * e.mass = mul-le-mul_left c h.0.from in
    omega (arith, cons, rest, own)

none-light : (alphabet : List AlphabetEntry) (counts : List ℕ) → atoms_of (counts_of alphabet counts) ≡ 0
    → lists.mass_of (masses_of alphabet) counts ≡ 0
none-light [] counts h = refl
none-light (e ∷ es) [] h = refl
none-light (e ∷ es) (c ∷ cs) h =
    let cons = atoms_of-cons (e.item, c) (counts_of es cs) in
    let none : c ≡ 0 = omega (arith, cons, h) in
    let weightless : c * e.mass ≡ 0 = ap (λ n. n * e.mass) none ∙ omega arith in
    let rest = none-light es cs (omega (arith, cons, h)) in
    omega (arith, weightless, rest)

counts-length : (alphabet : List AlphabetEntry) (counts : List ℕ) → length (counts_of alphabet counts) ≤ length alphabet
counts-length [] counts = omega arith
counts-length (e ∷ es) [] = omega arith
counts-length (e ∷ es) (c ∷ cs) = let rest = counts-length es cs in omega (arith, rest)

-- where no mass of a window leaves room for many atoms, each list in it has a formula and an ion
pub sure-formed : (premises : GroundValue) (hi : ℕ) (counts : List ℕ) → IsGround premises → premises.rules ≡ []
    → premises.adduct.lost ≡ []
    → premises.adduct.copies * (hi / 500000000000) + atoms_of premises.adduct.added ≤ 10000
    → length premises.alphabet + length premises.adduct.added ≤ 20
    → 1 ≤ lists.mass_of (masses_of premises.alphabet) counts → lists.mass_of (masses_of premises.alphabet) counts ≤ hi
    → is_formed premises counts ≡ true
sure-formed premises hi counts is rules lost few short low high =
    let parts = counts_of premises.alphabet counts in
    let f = formula_at premises.alphabet counts in
    let adduct = premises.adduct in
    let half =
    half-each premises.alphabet counts
    (recursion_from_All (λ (e : AlphabetEntry). IsMassOfIsotope e.mass) premises.alphabet is.is_alphabet.sound.masses) in
    let most : atoms_of parts ≤ hi / 500000000000 = omega (arith, half, high) in
    let some : 1 ≤ atoms_of parts =
    elim (cases_lt 0 (atoms_of parts)) [
      | inl more ↦ more
      | inr none ↦ absurd (omega (arith, low, none-light premises.alphabet counts (omega (arith, none))))
    ] in
    let copied : adduct.copies * atoms_of parts ≤ adduct.copies * (hi / 500000000000) = mul-le-mul_left adduct.copies most in
    let once : 1 * atoms_of parts ≤ adduct.copies * atoms_of parts = mul-le-mul_right (atoms_of parts) is.is_adduct.some_copies in
    let same = sum_of-atoms parts in
    let of_f : adduct.copies * atoms_of f ≡ adduct.copies * atoms_of parts = ap (λ n. adduct.copies * n) same in
    let own = sum-length parts in
    let listed = counts-length premises.alphabet counts in
    let formula : is_some (formula_of parts) ≡ true =
    few-formula parts some (omega (arith, few, copied, once)) (omega (arith, listed, short)) in
    let ionized : is_some (ion_of adduct f) ≡ true =
    few-ion adduct f is.is_adduct (sum-Distinct parts) lost (omega (arith, same, some))
    (omega (arith, of_f, copied, few)) (omega (arith, own, listed, short)) in
    ap (λ b. b && is_some (ion_of adduct f) && meets_all premises.table premises.rules f) formula
    ∙ ap (λ b. b && meets_all premises.table premises.rules f) ionized
    ∙ ap (λ r. meets_all premises.table r f) rules

pub none-of : {A : Type 0} (xs : List A) → true ≡ (length xs == 0) → xs ≡ []
none-of [] h = refl
none-of (x ∷ xs) h = absurd (false≢true (sym (h ∙ grind (arith, nat_tests))))
