-- What is kept of an adduct's text makes the answer.
use Rattle.std.proofs.Common.{◌≡◌, ℕ, zero, suc, ℤ, pos, ◌-ℤ◌, ◌+◌, ◌-◌, ◌*◌, ◌^◌, ◌<◌, ◌≤◌, Bool, true, false, cond}
use Rattle.std.proofs.Common.{ltb, List, [], ◌∷◌, ◌++◌, length, map, filter, refl, sym, ap, ◌∙◌, subst, arith}
use Rattle.std.specs.Prelude.{Option, Some, None, Result, Ok, Err, IsTrue, is_some, not, ◌==◌, ◌||◌, ◌&&◌, nat_le, slice_get, option_map, MatchBool, ⊤}
use Rattle.std.specs.List.{AllByRecursion, flat_map, find}
use Rattle.std.proofs.lemmas.Bool.{and_parts, leb-true, lt-ltb}
use Rattle.std.proofs.lemmas.Bool.Decides.{nat_tests}
use Rattle.std.proofs.lemmas.List.{map-append}
use Rattle.std.proofs.lemmas.List.Elements.{filter-append, recursion_from_All}
use Rattle.element_table.specs.Elements.{TableEntries, element_of}
use Rattle.reader_answers.specs.Answers.{Gives, ◌>>=◌}
use Rattle.written_items.specs.declared.item.Item.{Item}
use Rattle.written_items.specs.WrittenItems.{item_of}
use Rattle.written_items.specs.WrittenRows.{WrittenPart, part_text, count_of_tail}
use Rattle.formula_text.specs.declared.fault.PartsFault.{PartsFault}
use Rattle.formula_text.specs.declared.fault.PartsFault.TheVariants as limit
use Rattle.formula_text.specs.Formulas.{sum_of, parts_of, has_many_atoms, has_many_items}
use Rattle.formula_text.specs.FormulaFaults.{is_parts_memory}
use Rattle.formula_text.specs.FormulaReader as formula
use Rattle.formula_text.proofs.CappedCounts.{parts_of-capped_part}
use Rattle.formula_text.proofs.ReadAnswers.{unless-memory, unless-same}
use Rattle.adducts.specs.declared.fault.AdductFault.{AdductFault}
use Rattle.adducts.specs.declared.fault.AdductFault.TheVariants as fault
use Rattle.adducts.specs.declared.written.TermPart.{TermPart}
use Rattle.adducts.specs.declared.written.WrittenCharge.{WrittenCharge}
use Rattle.adducts.specs.declared.written.WrittenAdduct.{WrittenAdduct}
use Rattle.adducts.specs.AdductFaults.{is_memory}
use Rattle.adducts.specs.Adducts.{AdductValue}
use Rattle.adducts.specs.AdductTexts.{WrittenTerm, WrittenIon, IsTerm, IsPlainPart, IsAdductOf, minus, term_text}
use Rattle.adducts.specs.AdductReadings.{number_or_one, term_counts, is_lost, terms_of, added_counts, lost_counts}
use Rattle.adducts.specs.AdductReadings.{copies_of, charge_of, is_charge_right, placed_row, placed_term, placed_terms}
use Rattle.adducts.specs.AdductReadings.{placed_parts, unknown_places, faults_of}
use Rattle.adducts.specs.AdductReader.{Nothing, read_from, adduct_in, unless_faults, answer_of, adduct_of, capped}
use Rattle.adducts.specs.AdductReader.{kept_part, kept_row, kept_terms, kept_parts, kept_charge, is_unknown}
use Rattle.adducts.specs.AdductReader.{unknown_part, part_count}
use Rattle.adducts.specs.KeptAnswers.{both_within, charge_in, adduct_with}
use Rattle.adducts.specs.Progress.{BadAt, IsKept}
use Rattle.adducts.proofs.ReadTexts.{read-whole}
use Rattle.adducts.proofs.OneReading.{answer-written}

-- ---- the first unknown symbol

find-first : {A B : Type 0} (f : A → B) (p : A → Bool) (xs : List A)
    → option_map f (find p xs) ≡ slice_get (map f (filter p xs)) 0
find-first f p [] = refl
find-first f p (x ∷ xs) =
    elim (p x) as (λ b. option_map f (cond b (Some x) (find p xs))
    ≡ slice_get (map f (cond b (x ∷ filter p xs) (filter p xs))) 0) [ true ↦ refl | false ↦ find-first f p xs ]

abbrev is_unnamed : TableEntries → ℕ × WrittenPart → Bool
is_unnamed table p = not (is_some (element_of table p.1.item.symbol))

unknown-row : (table : TableEntries) (term : WrittenTerm) (ps : List (ℕ × WrittenPart))
    → map (λ k. k.at) (filter (is_unknown table) (map (kept_part term) ps))
    ≡ map (λ p. p.0) (filter (is_unnamed table) ps)
unknown-row table term [] = refl
unknown-row table term (p ∷ ps) =
    elim (is_unnamed table p) as (λ b. map (λ k. k.at) (cond b (kept_part term p ∷ filter (is_unknown table) (map (kept_part term) ps)) (filter (is_unknown table) (map (kept_part term) ps)))
    ≡ map (λ q. q.0) (cond b (p ∷ filter (is_unnamed table) ps) (filter (is_unnamed table) ps))) [
      | true ↦ ap (λ l. p.0 ∷ l) (unknown-row table term ps)
      | false ↦ unknown-row table term ps
    ]

places-append : {A : Type 0} (f : A → ℕ) (p : A → Bool) (xs ys : List A)
    → map f (filter p (xs ++ ys)) ≡ map f (filter p xs) ++ map f (filter p ys)
places-append f p xs ys = ap (map f) (filter-append p xs ys) ∙ map-append f (filter p xs) (filter p ys)

unknown-terms : (table : TableEntries) (at : ℕ) (terms : List WrittenTerm)
    → map (λ k. k.at) (filter (is_unknown table) (kept_terms at terms))
    ≡ map (λ p. p.0) (filter (is_unnamed table) (placed_terms at terms))
unknown-terms table at [] = refl
unknown-terms table at (term ∷ terms) =
    let next = at + length (term_text term) in
    let row = placed_row (at + 1 + length term.coefficient) term.row in
    places-append (λ (k : TermPart). k.at) (is_unknown table) (map (kept_part term) row) (kept_terms next terms)
    ∙ ap (λ l. l ++ map (λ (k : TermPart). k.at) (filter (is_unknown table) (kept_terms next terms)))
    (unknown-row table term row)
    ∙ ap (λ l. map (λ (p : ℕ × WrittenPart). p.0) (filter (is_unnamed table) row) ++ l) (unknown-terms table next terms)
    ∙ sym (places-append (λ (p : ℕ × WrittenPart). p.0) (is_unnamed table) row (placed_terms next terms))

unknown-parts : (table : TableEntries) (written : Option WrittenIon)
    → map (λ k. k.at) (filter (is_unknown table) (kept_parts written)) ≡ unknown_places table written
unknown-parts table None = refl
unknown-parts table (Some ion) = unknown-terms table (1 + length ion.copies + 1) ion.terms

unknown-first : (table : TableEntries) (written : Option WrittenIon)
    → option_map (λ k. k.at) (unknown_part table (kept_parts written)) ≡ slice_get (unknown_places table written) 0
unknown-first table written =
    find-first (λ (k : TermPart). k.at) (is_unknown table) (kept_parts written)
    ∙ ap (λ l. slice_get l 0) (unknown-parts table written)

-- ---- the counts

count-part : (term : WrittenTerm) (p : ℕ × WrittenPart) → p.1.item.digits ≡ None
    → part_count (kept_part term p)
    ≡ formula.capped_part (item_of p.1.item, number_or_one term.coefficient * count_of_tail p.1.tail)
count-part term p plain =
    ap (λ (o : Option (List ℕ)). (item_of (record { symbol = p.1.item.symbol; digits = o }), capped (number_or_one term.coefficient * count_of_tail p.1.tail))) (sym plain)

counts-row : (term : WrittenTerm) (at : ℕ) (row : List WrittenPart) → AllByRecursion IsPlainPart row
    → map part_count (map (kept_part term) (placed_row at row))
    ≡ map formula.capped_part (map (λ part. (item_of part.item, number_or_one term.coefficient * count_of_tail part.tail)) row)
counts-row term at [] plain = refl
counts-row term at (part ∷ row) plain =
    ap (λ q. q ∷ map part_count (map (kept_part term) (placed_row (at + length (part_text part)) row)))
    (count-part term (at, part) plain.0.plain)
    ∙ ap (λ l. formula.capped_part (item_of part.item, number_or_one term.coefficient * count_of_tail part.tail) ∷ l)
    (counts-row term (at + length (part_text part)) row plain.1)

filter-row : (q : Bool → Bool) (term : WrittenTerm) (ps : List (ℕ × WrittenPart)) (b : Bool) → q (is_lost term) ≡ b
    → filter (λ k. q k.is_lost) (map (kept_part term) ps) ≡ cond b (map (kept_part term) ps) []
filter-row q term [] true e = refl
filter-row q term [] false e = refl
filter-row q term (p ∷ ps) true e =
    ap (λ b. cond b (kept_part term p ∷ filter (λ k. q k.is_lost) (map (kept_part term) ps))
    (filter (λ k. q k.is_lost) (map (kept_part term) ps))) e
    ∙ ap (λ l. kept_part term p ∷ l) (filter-row q term ps true e)
filter-row q term (p ∷ ps) false e =
    ap (λ b. cond b (kept_part term p ∷ filter (λ k. q k.is_lost) (map (kept_part term) ps))
    (filter (λ k. q k.is_lost) (map (kept_part term) ps))) e
    ∙ filter-row q term ps false e

counts-terms : (q : Bool → Bool) (at : ℕ) (terms : List WrittenTerm) → AllByRecursion IsTerm terms
    → map part_count (filter (λ k. q k.is_lost) (kept_terms at terms))
    ≡ map formula.capped_part (flat_map term_counts (filter (λ t. q (is_lost t)) terms))
counts-terms q at [] are = refl
counts-terms q at (term ∷ terms) are =
    let next = at + length (term_text term) in
    let row = placed_row (at + 1 + length term.coefficient) term.row in
    let front = filter (λ (k : TermPart). q k.is_lost) (map (kept_part term) row) in
    let rest = counts-terms q next terms are.1 in
    let later = flat_map term_counts (filter (λ t. q (is_lost t)) terms) in
    let mapped : List (Item × ℕ) = map part_count (filter (λ (k : TermPart). q k.is_lost) (kept_terms next terms)) in
    ap (map part_count) (filter-append (λ (k : TermPart). q k.is_lost) (map (kept_part term) row) (kept_terms next terms))
    ∙ map-append part_count front (filter (λ (k : TermPart). q k.is_lost) (kept_terms next terms))
    ∙ elim (q (is_lost term)) as (λ b. q (is_lost term) ≡ b → map part_count front ++ mapped
    ≡ map formula.capped_part (flat_map term_counts (cond b (term ∷ filter (λ t. q (is_lost t)) terms) (filter (λ t. q (is_lost t)) terms)))) [
      | true ↦ λ e.
          ap (λ l. map part_count l ++ mapped) (filter-row q term row true e)
          ∙ ap (λ l. l ++ mapped) (counts-row term (at + 1 + length term.coefficient) term.row
          (recursion_from_All IsPlainPart term.row are.0.row))
          ∙ ap (λ l. map formula.capped_part (term_counts term) ++ l) rest
          ∙ sym (map-append formula.capped_part (term_counts term) later)
      | false ↦ λ e. ap (λ l. map part_count l ++ mapped) (filter-row q term row false e) ∙ rest
    ] refl

counts-kept : (q : Bool → Bool) (text : List ℕ) (written : Option WrittenIon) → IsAdductOf written text
    → map part_count (filter (λ k. q k.is_lost) (kept_parts written))
    ≡ map formula.capped_part (flat_map term_counts (filter (λ t. q (is_lost t)) (terms_of written)))
counts-kept q text None is = refl
counts-kept q text (Some ion) is =
    counts-terms q (1 + length ion.copies + 1) ion.terms (recursion_from_All IsTerm ion.terms is.is.terms)

-- ---- the limits of both sides

abbrev limit_faults : List (Item × ℕ) → List (Item × ℕ) → List AdductFault → List AdductFault
limit_faults added lost rest =
    cond (has_many_atoms (sum_of added) || has_many_atoms (sum_of lost)) (fault.TooManyAtoms ∷ []) []
    ++ (cond (has_many_items (sum_of added) || has_many_items (sum_of lost)) (fault.TooManyElements ∷ []) [] ++ rest)

abbrev limits_if : Bool → Bool → List (Item × ℕ) → Result (List (Item × ℕ)) PartsFault
limits_if atoms items sums = cond atoms (Err limit.TooManyAtoms) (cond items (Err limit.TooManyElements) (Ok sums))

both-limits : (added lost : List (Item × ℕ)) (rest : List AdductFault) (adduct : AdductValue)
    → unless_faults (limit_faults added lost rest) adduct
    ≡ (both_within (parts_of added) (parts_of lost) >>= (λ _. unless_faults rest adduct))
both-limits added lost rest adduct =
    cases (has_many_atoms (sum_of added)) (has_many_items (sum_of added)) (has_many_atoms (sum_of lost))
    (has_many_items (sum_of lost))
  where
    cases : (a b c d : Bool) → unless_faults (cond (a || c) (fault.TooManyAtoms ∷ []) []
        ++ (cond (b || d) (fault.TooManyElements ∷ []) [] ++ rest)) adduct
        ≡ (both_within (limits_if a b (sum_of added)) (limits_if c d (sum_of lost)) >>= (λ _. unless_faults rest adduct))
    cases true true true d = refl
    cases true true false true = refl
    cases true true false false = refl
    cases true false true d = refl
    cases true false false true = refl
    cases true false false false = refl
    cases false true true d = refl
    cases false true false true = refl
    cases false true false false = refl
    cases false false true d = refl
    cases false false false true = refl
    cases false false false false = refl

same_pair : (x y : List (Item × ℕ) × List (Item × ℕ)) (r : Result (List (Item × ℕ) × List (Item × ℕ)) AdductFault)
    → r ≡ Ok x → r ≡ Ok y → x ≡ y
same_pair x y r d e = cc

both-Ok : (added lost : List (Item × ℕ)) (sums : List (Item × ℕ) × List (Item × ℕ))
    → both_within (parts_of added) (parts_of lost) ≡ Ok sums → (sums.0 ≡ sum_of added) × (sums.1 ≡ sum_of lost)
both-Ok added lost sums e =
    cases (has_many_atoms (sum_of added)) (has_many_items (sum_of added)) (has_many_atoms (sum_of lost))
    (has_many_items (sum_of lost)) e
  where
    made : List (Item × ℕ) × List (Item × ℕ)
    made = (sum_of added, sum_of lost)

    cases : (a b c d : Bool) → both_within (limits_if a b (sum_of added)) (limits_if c d (sum_of lost)) ≡ Ok sums
        → (sums.0 ≡ sum_of added) × (sums.1 ≡ sum_of lost)
    cases true b true d e = cc
    cases true b false true e = cc
    cases true b false false e = cc
    cases false true true d e = cc
    cases false true false true e = cc
    cases false true false false e = cc
    cases false false true d e = cc
    cases false false false true e = cc
    cases false false false false e =
        let same = same_pair sums made (Ok made) e refl in
        (ap (λ (p : List (Item × ℕ) × List (Item × ℕ)). p.0) same, ap (λ (p : List (Item × ℕ) × List (Item × ℕ)). p.1) same)

gives-both : (added lost : Result (List (Item × ℕ)) PartsFault) (r s : Result (List (Item × ℕ)) PartsFault)
    → Gives is_parts_memory r added → Gives is_parts_memory s lost
    → Gives is_memory (both_within r s) (both_within added lost)
gives-both added lost (Ok a) (Ok l) g h = λ i. both_within (g i) (h i)
gives-both added lost (Ok a) (Err limit.TooManyAtoms) g h = λ i. both_within (g i) (h i)
gives-both added lost (Ok a) (Err limit.TooManyElements) g h = λ i. both_within (g i) (h i)
gives-both added lost (Ok a) (Err (limit.Memory e)) g h = tt
gives-both added lost (Err limit.TooManyAtoms) s g h = ap (λ a. both_within a lost) g
gives-both added lost (Err limit.TooManyElements) (Ok l) g h = λ i. both_within (g i) (h i)
gives-both added lost (Err limit.TooManyElements) (Err limit.TooManyAtoms) g h = λ i. both_within (g i) (h i)
gives-both added lost (Err limit.TooManyElements) (Err limit.TooManyElements) g h = λ i. both_within (g i) (h i)
gives-both added lost (Err limit.TooManyElements) (Err (limit.Memory e)) g h = tt
gives-both added lost (Err (limit.Memory d)) (Ok l) g h = tt
gives-both added lost (Err (limit.Memory d)) (Err limit.TooManyAtoms) g h =
    ap (both_within added) h ∙ any added
  where
    any : (a : Result (List (Item × ℕ)) PartsFault) → both_within a (Err limit.TooManyAtoms) ≡ Err fault.TooManyAtoms
    any (Ok x) = refl
    any (Err limit.TooManyAtoms) = refl
    any (Err limit.TooManyElements) = refl
    any (Err (limit.Memory e)) = refl
gives-both added lost (Err (limit.Memory d)) (Err limit.TooManyElements) g h = tt
gives-both added lost (Err (limit.Memory d)) (Err (limit.Memory e)) g h = tt

-- ---- copies and charge

abbrev other_faults : Option WrittenIon → List AdductFault
other_faults written =
    cond (nat_le 1 (copies_of written) && nat_le (copies_of written) 4) [] (fault.Copies ∷ [])
    ++ cond (is_charge_right written) [] (fault.Charge ∷ [])

within-range : (k n : ℕ) → k ≤ 1000 → (nat_le 1 n && nat_le n k) ≡ true
    → (capped n ≡ n) × (((capped n == 0) || ltb k (capped n)) ≡ false)
within-range k n few h =
    let parts = and_parts (nat_le 1 n) (nat_le n k) h in
    let some : 1 ≤ n = leb-true 1 n parts.0 in
    let most : n ≤ k = leb-true n k parts.1 in
    let same : capped n ≡ n = omega (arith, few, most) in
    (same, ap (λ m. (m == 0) || ltb k m) same ∙ grind (arith, nat_tests, some, most))

outside-range : (k n : ℕ) → k ≤ 1000 → (nat_le 1 n && nat_le n k) ≡ false
    → ((capped n == 0) || ltb k (capped n)) ≡ true
outside-range k zero few h = refl
outside-range k (suc n) few h =
    let above : k < suc n = grind (arith, nat_tests, h) in
    let still : k < capped (suc n) = omega (arith, few, above) in
    ap (λ b. (capped (suc n) == 0) || b) (lt-ltb k (capped (suc n)) still)
    ∙ elim (capped (suc n) == 0) as (λ b. (b || true) ≡ true) [ true ↦ refl | false ↦ refl ]

charges-within : (written : Option WrittenIon)
    → (charge_in (kept_charge written) >>= (λ (z : ℤ). Ok (record { copies = copies_of written; added = sum_of (added_counts written); lost = sum_of (lost_counts written); charge = z })))
    ≡ unless_faults (cond (is_charge_right written) [] (fault.Charge ∷ [])) (adduct_in written)
charges-within None = refl
charges-within (Some ion) =
    let n = number_or_one ion.charge in
    let next : ℤ → Result AdductValue AdductFault = λ z. Ok (record { copies = copies_of (Some ion); added = sum_of (added_counts (Some ion)); lost = sum_of (lost_counts (Some ion)); charge = z }) in
    elim (nat_le 1 n && nat_le n 30) as (λ b. (nat_le 1 n && nat_le n 30) ≡ b
    → (charge_in (kept_charge (Some ion)) >>= next) ≡ unless_faults (cond b [] (fault.Charge ∷ [])) (adduct_in (Some ion))) [
      | true ↦ λ h.
          let known = within-range 30 n (omega arith) h in
          ap (λ b. cond b (Err fault.Charge) (Ok (cond (ion.sign == minus) (pos 0 -ℤ pos (capped n)) (pos (capped n)))) >>= next) known.1
          ∙ ap (λ m. next (cond (ion.sign == minus) (pos 0 -ℤ pos m) (pos m))) known.0
      | false ↦ λ h. ap (λ b. cond b (Err fault.Charge) (Ok (cond (ion.sign == minus) (pos 0 -ℤ pos (capped n)) (pos (capped n)))) >>= next) (outside-range 30 n (omega arith) h)
    ] refl

-- the copies and the charge that are kept make the adduct or its fault
pub adduct-kept : (written : Option WrittenIon) (copies : ℕ) (added lost : List (Item × ℕ)) (charge : Option WrittenCharge)
    → copies ≡ capped (copies_of written) → charge ≡ kept_charge written → added ≡ sum_of (added_counts written) → lost ≡ sum_of (lost_counts written)
    → adduct_with copies added lost charge ≡ unless_faults (other_faults written) (adduct_in written)
adduct-kept written copies added lost charge count same of_added of_lost =
    ap (λ c. adduct_with c added lost charge) count ∙ ap (λ z. adduct_with (capped n) added lost z) same
    ∙ ap (λ a. adduct_with (capped n) a lost (kept_charge written)) of_added
    ∙ ap (λ l. adduct_with (capped n) (sum_of (added_counts written)) l (kept_charge written)) of_lost
    ∙ elim (nat_le 1 n && nat_le n 4) as (λ b. (nat_le 1 n && nat_le n 4) ≡ b
    → adduct_with (capped n) (sum_of (added_counts written)) (sum_of (lost_counts written)) (kept_charge written)
    ≡ unless_faults (cond b [] (fault.Copies ∷ []) ++ cond (is_charge_right written) [] (fault.Charge ∷ [])) (adduct_in written)) [
      | true ↦ λ h.
          let known = within-range 4 n (omega arith) h in
          ap (λ b. cond b (Err fault.Copies) (charged (capped n))) known.1 ∙ ap charged known.0 ∙ charges-within written
      | false ↦ λ h. ap (λ b. cond b (Err fault.Copies) (charged (capped n))) (outside-range 4 n (omega arith) h)
    ] refl
  where
    n : ℕ
    n = copies_of written

    charged : ℕ → Result AdductValue AdductFault
    charged m =
        charge_in (kept_charge written) >>= (λ (z : ℤ). Ok (record { copies = m; added = sum_of (added_counts written); lost = sum_of (lost_counts written); charge = z }))

-- ---- the answer

pub gives-same : (r e : Result AdductValue AdductFault) → e ≡ r → Gives is_memory r e
gives-same (Ok x) e h = h
gives-same (Err f) e h = unless-same (is_memory f) (e ≡ Err f) h

pub bad-answer : (table : TableEntries) (text : List ℕ) (f : AdductFault)
    → BadAt (λ place. read_from text Nothing 0 ≡ Err place) f → Gives is_memory (Err f) (adduct_of table text)
unfolding adduct_of
bad-answer table text f bad =
    unless-memory (is_memory f) _ (adduct_of table text ≡ Err f)
    (λ b. ap (answer_of table) b.2 ∙ ap Err (sym b.1)) bad

unknown-faults : (places : List ℕ) (rest : List AdductFault) (place : ℕ) (adduct : AdductValue)
    → slice_get places 0 ≡ Some place
    → unless_faults (map fault.UnknownSymbol places ++ rest) adduct ≡ Err (fault.UnknownSymbol place)
unknown-faults [] rest place adduct e = cc
unknown-faults (p ∷ places) rest place adduct e =
    let same : p ≡ place = cc in ap (λ q. Err (fault.UnknownSymbol q)) same

kept-first : (table : TableEntries) (written : Option WrittenIon) (parts : List TermPart) → parts ≡ kept_parts written
    → option_map (λ k. k.at) (unknown_part table parts) ≡ slice_get (unknown_places table written) 0
kept-first table written parts same =
    ap (λ l. option_map (λ (k : TermPart). k.at) (unknown_part table l)) same ∙ unknown-first table written

pub unknown-answer : (table : TableEntries) (text : List ℕ) (kept : WrittenAdduct) (parts : List TermPart) (place : ℕ)
    → IsKept text kept → parts ≡ kept.parts.items
    → option_map (λ k. k.at) (unknown_part table parts) ≡ Some place
    → adduct_of table text ≡ Err (fault.UnknownSymbol place)
unknown-answer table text kept parts place is same e =
    answer-written table text is.written (read-whole text is.written is.read)
    ∙ unknown-faults (unknown_places table is.written) _ place (adduct_in is.written)
    (sym (kept-first table is.written parts (same ∙ is.parts)) ∙ e)

empty-list : (places : List ℕ) → slice_get places 0 ≡ None → places ≡ []
empty-list [] e = refl
empty-list (p ∷ places) e = cc

-- where no symbol is unknown, the answer is that of the counts and the other numbers
known-answer : (table : TableEntries) (text : List ℕ) (kept : WrittenAdduct) (parts : List TermPart) (is : IsKept text kept)
    → parts ≡ kept.parts.items → option_map (λ k. k.at) (unknown_part table parts) ≡ None
    → adduct_of table text
    ≡ (both_within (parts_of (added_counts is.written)) (parts_of (lost_counts is.written)) >>= (λ _. unless_faults (other_faults is.written) (adduct_in is.written)))
known-answer table text kept parts is same e =
    let written = is.written in
    let none : unknown_places table written ≡ [] =
    empty-list (unknown_places table written) (sym (kept-first table written parts (same ∙ is.parts)) ∙ e) in
    answer-written table text written (read-whole text written is.read)
    ∙ ap (λ l. unless_faults (map fault.UnknownSymbol l ++ limit_faults (added_counts written) (lost_counts written) (other_faults written)) (adduct_in written)) none
    ∙ both-limits (added_counts written) (lost_counts written) (other_faults written) (adduct_in written)

-- what the sums of the kept counts give
abbrev both_kept : Option WrittenIon → Result (List (Item × ℕ) × List (Item × ℕ)) AdductFault
both_kept written = both_within (parts_of (added_counts written)) (parts_of (lost_counts written))

sums-kept : (text : List ℕ) (kept : WrittenAdduct) (is : IsKept text kept) (plus_parts minus_parts : List TermPart) (added lost : List (Item × ℕ)) (r s : Result (List (Item × ℕ)) PartsFault) → plus_parts ≡ kept.parts.items → minus_parts ≡ kept.parts.items → added ≡ map part_count (filter (λ k. not k.is_lost) plus_parts) → lost ≡ map part_count (filter (λ k. k.is_lost) minus_parts) → Gives is_parts_memory r (parts_of added) → Gives is_parts_memory s (parts_of lost) → Gives is_memory (both_within r s) (both_kept is.written)
sums-kept text kept is plus_parts minus_parts added lost r s same_plus same_minus of_added of_lost g h =
    let written = is.written in
    let whole = read-whole text written is.read in
    let plus_counts : added ≡ map formula.capped_part (added_counts written) =
    of_added ∙ ap (λ (l : List TermPart). map part_count (filter (λ k. not k.is_lost) l)) (same_plus ∙ is.parts)
    ∙ counts-kept (λ b. not b) text written whole in
    let minus_counts : lost ≡ map formula.capped_part (lost_counts written) =
    of_lost ∙ ap (λ (l : List TermPart). map part_count (filter (λ k. k.is_lost) l)) (same_minus ∙ is.parts)
    ∙ counts-kept (λ b. b) text written whole in
    gives-both (parts_of (added_counts written)) (parts_of (lost_counts written)) r s
    (subst (Gives is_parts_memory r) (ap parts_of plus_counts ∙ parts_of-capped_part (added_counts written)) g)
    (subst (Gives is_parts_memory s) (ap parts_of minus_counts ∙ parts_of-capped_part (lost_counts written)) h)

fails-also : (b : Result (List (Item × ℕ) × List (Item × ℕ)) AdductFault) (f : AdductFault) (answer e : Result AdductValue AdductFault)
    → e ≡ (b >>= (λ _. answer)) → Gives is_memory (Err f) b → Gives is_memory (Err f) e
fails-also b f answer e same g =
    unless-memory (is_memory f) (b ≡ Err f) (e ≡ Err f) (λ is. same ∙ ap (λ r. r >>= (λ _. answer)) is) g

-- the sums fail
pub limits-answer : (table : TableEntries) (text : List ℕ) (kept : WrittenAdduct) (is : IsKept text kept) (parts plus_parts minus_parts : List TermPart) (added lost : List (Item × ℕ)) (r s : Result (List (Item × ℕ)) PartsFault) (f : AdductFault) → parts ≡ kept.parts.items → option_map (λ k. k.at) (unknown_part table parts) ≡ None → plus_parts ≡ kept.parts.items → minus_parts ≡ kept.parts.items → added ≡ map part_count (filter (λ k. not k.is_lost) plus_parts) → lost ≡ map part_count (filter (λ k. k.is_lost) minus_parts) → Gives is_parts_memory r (parts_of added) → Gives is_parts_memory s (parts_of lost) → both_within r s ≡ Err f → Gives is_memory (Err f) (adduct_of table text)
limits-answer table text kept is parts plus_parts minus_parts added lost r s f same none same_plus same_minus of_added of_lost g h e =
    fails-also (both_kept is.written) f _ (adduct_of table text) (known-answer table text kept parts is same none)
    (subst (λ (b : Result (List (Item × ℕ) × List (Item × ℕ)) AdductFault). Gives is_memory b (both_kept is.written)) e
    (sums-kept text kept is plus_parts minus_parts added lost r s same_plus same_minus of_added of_lost g h))

-- the sums are within the limits
pub sums-answer : (table : TableEntries) (text : List ℕ) (kept : WrittenAdduct) (is : IsKept text kept) (parts plus_parts minus_parts : List TermPart) (added lost : List (Item × ℕ)) (r s : Result (List (Item × ℕ)) PartsFault) (a l : List (Item × ℕ)) → parts ≡ kept.parts.items → option_map (λ k. k.at) (unknown_part table parts) ≡ None → plus_parts ≡ kept.parts.items → minus_parts ≡ kept.parts.items → added ≡ map part_count (filter (λ k. not k.is_lost) plus_parts) → lost ≡ map part_count (filter (λ k. k.is_lost) minus_parts) → Gives is_parts_memory r (parts_of added) → Gives is_parts_memory s (parts_of lost) → both_within r s ≡ Ok (a, l) → adduct_of table text ≡ adduct_with kept.copies a l kept.charge
sums-answer table text kept is parts plus_parts minus_parts added lost r s a l same none same_plus same_minus of_added of_lost g h e =
    let written = is.written in
    let both : both_kept written ≡ Ok (a, l) =
    subst (λ (b : Result (List (Item × ℕ) × List (Item × ℕ)) AdductFault). Gives is_memory b (both_kept written)) e
    (sums-kept text kept is plus_parts minus_parts added lost r s same_plus same_minus of_added of_lost g h) in
    known-answer table text kept parts is same none
    ∙ ap (λ (b : Result (List (Item × ℕ) × List (Item × ℕ)) AdductFault). b >>= (λ _. unless_faults (other_faults written) (adduct_in written))) both
    ∙ sym (adduct-kept written kept.copies a l kept.charge is.copies is.charge
    (both-Ok (added_counts written) (lost_counts written) (a, l) both).0
    (both-Ok (added_counts written) (lost_counts written) (a, l) both).1)
