-- A text is read as the counts of the isotopologue that has it.
use Rattle.std.proofs.Common.{◌≡◌, ℕ, ◌+◌, ◌-◌, ◌^◌, ◌<◌, ◌≤◌, ◌==◌, suc, Bool, true, false, cond, List, [], ◌∷◌}
use Rattle.std.proofs.Common.{◌++◌}
use Rattle.std.proofs.Common.{length, take, drop, map, Option, Some, None, refl, sym, ◌∙◌, ap, subst, arith}
use Rattle.std.proofs.Common.{append_assoc}
use Rattle.std.proofs.Common.{inl, inr}
use Rattle.std.specs.Prelude.{sum, option_and_then}
use Rattle.std.specs.List.{AllByRecursion, list_any}
use Rattle.std.specs.Char.{is_ascii_digit}
use Rattle.std.specs.Str.{bytes_eq}
use Rattle.std.proofs.lemmas.Bool.{cases_Bool, eqb-true, eq-eqb, or_parts}
use Rattle.std.proofs.lemmas.List.{append-nil, length-map, length-take, take-append-drop, take_at, drop_at}
use Rattle.std.proofs.lemmas.List.Sums.{sum_by-cons}
use Rattle.std.proofs.lemmas.List.Elements.{recursion_from_All}
use Rattle.std.proofs.lemmas.Slice.Eq.{bytes_eq-Decides}
use Rattle.multinomial_bounds.specs.Weight.{IsCounts}
use Rattle.element_table.specs.declared.element.Isotope.{Isotope}
use Rattle.element_table.specs.Elements.{IsTable, TableEntries}
use Rattle.written_items.specs.declared.item.Item.{Item}
use Rattle.written_items.specs.Items.{count_text, item_text}
use Rattle.written_items.specs.WrittenItems.{begins}
use Rattle.formula_text.specs.Formulas.{IsFormula}
use Rattle.formula_text.specs.Masses.{HasItems}
use Rattle.isotopologue_text.specs.Isotopologues.{HasText, IsOfText, counts_text, dash, is_plain}
use Rattle.isotopologue_text.specs.Isotopologues.{isotope_item, isotope_items, isotope_text, isotopes_of}
use Rattle.isotopologue_text.specs.Isotopologues.{plain_items}
use Rattle.isotopologue_text.specs.ReadCounts.{counts_after, counts_of_text, element_counts, item_isotopes}
use Rattle.isotopologue_text.specs.ReadCounts.{leading_count}
use Rattle.isotopologue_text.proofs.ApartIsotopes.{AreApart, Lacks, formula-apart, parts_isotopes}
use Rattle.isotopologue_text.proofs.CountsLemmas.{counts_text-append}
use Rattle.isotopologue_text.proofs.IsotopeTexts.{IsIsotopeItem, isotope-parts, leading_count-spelled}
use Rattle.isotopologue_text.proofs.IsotopeTexts.{leading_count-written}
use Rattle.isotopologue_text.proofs.IsotopeTexts.{same-isotope}
use Rattle.isotopologue_text.proofs.Splits.{Splits, isotopologue-from_splits, splits-from_isotopologue}

-- ---- the text of isotopes with their counts

-- it begins with no digit
first-byte : (item : Item) (count : ℕ) (rest : List ℕ) → 0 < item.label
    → begins is_ascii_digit ((item_text item ++ count_text count) ++ rest) ≡ false
first-byte item count rest from =
    ap (λ (t : List ℕ). begins is_ascii_digit ((t ++ count_text count) ++ rest)) (isotope-parts item from)

no-digit : (items : List Item) (counts : List ℕ) → AllByRecursion IsIsotopeItem items
    → begins is_ascii_digit (counts_text items counts) ≡ false
no-digit [] counts are = refl
no-digit (item ∷ items) [] are = refl
no-digit (item ∷ items) (n ∷ counts) are =
    elim (n == 0) as (λ b. begins is_ascii_digit (cond b [] (item_text item ++ count_text n) ++ counts_text items
    counts) ≡ false) [
      | true ↦ no-digit items counts are.1
      | false ↦ first-byte item n (counts_text items counts) are.0.from
    ]

-- it begins with no other isotope
some-text : (item : Item) (more : List ℕ) → 0 < item.label → [] ≡ item_text item ++ more → ⊥
some-text item more from e =
    let parts = e ∙ ap (λ (t : List ℕ). t ++ more) (isotope-parts item from) in
    cc

no-other : (item : Item) (items : List Item) (counts : List ℕ) → IsIsotopeItem item → AllByRecursion IsIsotopeItem items
    → Lacks item items → (more : List ℕ) → counts_text items counts ≡ item_text item ++ more → ⊥
no-other item [] counts is are lacks more e = some-text item more is.from e
no-other item (x ∷ xs) [] is are lacks more e = some-text item more is.from e
no-other item (x ∷ xs) (n ∷ counts) is are lacks more e =
    elim (n == 0) as (λ b. cond b [] (item_text x ++ count_text n) ++ counts_text xs counts ≡ item_text item ++ more
    → ⊥) [
      | true ↦ λ e. no-other item xs counts is are.1 lacks.1 more e
      | false ↦ λ e.
          lacks.0 (sym (same-isotope x item (count_text n ++ counts_text xs counts) more are.0 is
          (sym (append_assoc (item_text x) (count_text n) (counts_text xs counts)) ∙ e)))
    ] e

-- ---- what is written is read

element-written : (items others : List Item) (counts : List ℕ) (atoms : ℕ) (earlier : List ℕ)
    → AreApart (items ++ others)
    → AllByRecursion IsIsotopeItem (items ++ others) → length items ≤ length counts
    → sum (take (length items) counts) ≡ atoms → atoms < 2 ^ 64
    → element_counts items atoms earlier (counts_text (items ++ others) counts)
    ≡ Some (earlier ++ take (length items) counts, counts_text others (drop (length items) counts))
element-written [] others counts atoms earlier apart are enough sums few =
    let none : (atoms == 0) ≡ true = eq-eqb atoms 0 (sym sums) in
    rw none (ap (λ (l : List ℕ). Some (l, counts_text others counts)) (sym (append-nil earlier)))
element-written (item ∷ items) others [] atoms earlier apart are enough sums few = absurd (omega arith)
element-written (item ∷ items) others (n ∷ counts) atoms earlier apart are enough sums few =
    let total : n + sum (take (length items) counts) ≡ atoms =
    sym (sum_by-cons (λ x. x) n (take (length items) counts)) ∙ sums in
    let here : leading_count atoms item (isotope_text item n ++ counts_text (items ++ others) counts)
    ≡ Some (n, counts_text (items ++ others) counts) =
    leading_count-written item n atoms (counts_text (items ++ others) counts) (omega arith) (omega arith)
    (no-digit (items ++ others) counts are.1) (no-other item (items ++ others) counts are.0 are.1 apart.0) in
    let rest = element-written items others counts (atoms - n) (earlier ++ n ∷ []) apart.1 are.1 (omega arith)
    (omega arith)
    (omega arith) in
    let whole : (earlier ++ n ∷ []) ++ take (length items) counts ≡ earlier ++ n ∷ take (length items) counts =
    append_assoc earlier (n ∷ []) (take (length items) counts) in
    ap (option_and_then (λ p. element_counts items (atoms - p.0) (earlier ++ p.0 ∷ []) p.1)) here ∙ rest
    ∙ ap (λ (l : List ℕ). Some (l, counts_text others (drop (length items) counts))) whole

apart-rest : (xs ys : List Item) → AreApart (xs ++ ys) → AreApart ys
apart-rest [] ys h = h
apart-rest (x ∷ xs) ys h = apart-rest xs ys h.1

all-rest : {X : Type 0} (P : X → Type 0) (xs ys : List X) → AllByRecursion P (xs ++ ys) → AllByRecursion P ys
all-rest P [] ys h = h
all-rest P (x ∷ xs) ys h = all-rest P xs ys h.1

abbrev pub AreFew : List (Item × ℕ) → Type 0
AreFew parts = AllByRecursion (λ p. p.1 < 2 ^ 64) parts

pub parts-written : (table : TableEntries) (parts : List (Item × ℕ)) (counts earlier : List ℕ)
    → Splits table parts counts
    → AreApart (parts_isotopes table parts) → AllByRecursion IsIsotopeItem (parts_isotopes table parts) → AreFew parts
    → counts_after table parts earlier (counts_text (parts_isotopes table parts) counts) ≡ Some (earlier ++ counts)
parts-written table [] counts earlier splits apart are few =
    ap (λ (l : List ℕ). Some l) (sym (append-nil earlier) ∙ ap (λ (l : List ℕ). earlier ++ l) (sym splits))
parts-written table (p ∷ ps) counts earlier splits apart are few =
    let own = item_isotopes table p.0 in
    let others = parts_isotopes table ps in
    let isotopes = isotopes_of table p.0 in
    let size : length own ≡ length isotopes = length-map isotopes (isotope_item p.0) in
    let weights : length (map (λ (i : Isotope). i.weight) isotopes) ≡ length isotopes =
    length-map isotopes (λ (i : Isotope). i.weight) in
    let taken : take (length own) counts ≡ take (length isotopes) counts = ap (λ (k : ℕ). take k counts) size in
    let enough : length own ≤ length counts =
    omega (arith, length-take (length isotopes) counts, splits.0.places_agree, weights, size) in
    let sums : sum (take (length own) counts) ≡ p.1 = ap sum taken ∙ splits.0.atoms_agree in
    let more : Splits table ps (drop (length own) counts) =
    subst (λ (k : ℕ). Splits table ps (drop k counts)) (sym size) splits.1 in
    let whole : (earlier ++ take (length own) counts) ++ drop (length own) counts ≡ earlier ++ counts =
    append_assoc earlier (take (length own) counts) (drop (length own) counts)
    ∙ ap (λ (l : List ℕ). earlier ++ l) (take-append-drop (length own) counts) in
    ap (option_and_then (λ (q : List ℕ × List ℕ). counts_after table ps q.0 q.1))
    (element-written own others counts p.1 earlier apart are enough sums few.0)
    ∙ parts-written table ps (drop (length own) counts) (earlier ++ take (length own) counts) more
    (apart-rest own others apart) (all-rest IsIsotopeItem own others are) few.1
    ∙ ap (λ (l : List ℕ). Some l) whole

-- ---- what is read is written

pub record ElementRead (items : List Item) (atoms : ℕ) (earlier text counts rest : List ℕ) : Type 0 where
  pub own : List ℕ
  pub counts_are : counts ≡ earlier ++ own
  pub places : length own ≡ length items
  pub sums : sum own ≡ atoms
  pub spelled : text ≡ counts_text items own ++ rest

element-next : (item : Item) (items : List Item) (atoms : ℕ) (earlier text counts rest : List ℕ) → atoms < 2 ^ 64
    → (o : Option (ℕ × List ℕ)) → leading_count atoms item text ≡ o
    → option_and_then (λ p. element_counts items (atoms - p.0) (earlier ++ p.0 ∷ []) p.1) o ≡ Some (counts, rest)
    → ((n : ℕ) (more : List ℕ) → element_counts items (atoms - n) (earlier ++ n ∷ []) more ≡ Some (counts, rest)
    → ElementRead items (atoms - n) (earlier ++ n ∷ []) more counts rest)
    → ElementRead (item ∷ items) atoms earlier text counts rest
element-next item items atoms earlier text counts rest few None is e go =
    absurd (let both : ◌≡◌ {A = Option (List ℕ × List ℕ)} None (Some (counts, rest)) = e in cc)
element-next item items atoms earlier text counts rest few (Some (n, more)) is e go =
    let here = leading_count-spelled item atoms n text more few is in
    let next = go n more e in
    record {
      own = n ∷ next.own;
      counts_are = next.counts_are ∙ append_assoc earlier (n ∷ []) next.own;
      places = ap suc next.places;
      sums = sum_by-cons (λ x. x) n next.own ∙ omega (arith, next.sums, here.0);
      spelled = here.1 ∙ ap (λ (t : List ℕ). isotope_text item n ++ t) next.spelled
          ∙ sym (append_assoc (isotope_text item n) (counts_text items next.own) rest);
    }

element-end : (atoms : ℕ) (earlier text counts rest : List ℕ) (b : Bool) → (atoms == 0) ≡ b
    → (let o : Option (List ℕ × List ℕ) = cond b (Some (earlier, text)) None in o) ≡ Some (counts, rest)
    → ElementRead [] atoms earlier text counts rest
element-end atoms earlier text counts rest true none e =
    let pair : ◌≡◌ {A = List ℕ × List ℕ} (earlier, text) (counts, rest) = cc in
    record {
      own = [];
      counts_are = sym (ap (λ (p : List ℕ × List ℕ). p.0) pair) ∙ sym (append-nil earlier);
      places = refl;
      sums = sym (eqb-true atoms 0 none);
      spelled = ap (λ (p : List ℕ × List ℕ). p.1) pair;
    }
element-end atoms earlier text counts rest false some e =
    absurd (let both : ◌≡◌ {A = Option (List ℕ × List ℕ)} None (Some (counts, rest)) = e in cc)

pub element-spelled : (items : List Item) (atoms : ℕ) (earlier text counts rest : List ℕ) → atoms < 2 ^ 64
    → element_counts items atoms earlier text ≡ Some (counts, rest) → ElementRead items atoms earlier text counts rest
element-spelled [] atoms earlier text counts rest few e = element-end atoms earlier text counts rest (atoms == 0) refl e
element-spelled (item ∷ items) atoms earlier text counts rest few e =
    element-next item items atoms earlier text counts rest few (leading_count atoms item text) refl e
    (λ n more e. element-spelled items (atoms - n) (earlier ++ n ∷ []) more counts rest (omega arith) e)

record PartsRead (table : TableEntries) (parts : List (Item × ℕ)) (earlier text counts : List ℕ) : Type 0 where
  own : List ℕ
  counts_are : counts ≡ earlier ++ own
  splits : Splits table parts own
  spelled : text ≡ counts_text (parts_isotopes table parts) own

parts-end : (table : TableEntries) (earlier text counts : List ℕ) (b : Bool) → (length text == 0) ≡ b
    → (let o : Option (List ℕ) = cond b (Some earlier) None in o) ≡ Some counts → PartsRead table [] earlier text counts
parts-end table earlier [] counts true none e =
    let same : earlier ≡ counts = cc in
    record { own = []; counts_are = sym same ∙ sym (append-nil earlier); splits = refl; spelled = refl }
parts-end table earlier (byte ∷ text) counts true none e = absurd
    (omega (arith, eqb-true (length (byte ∷ text)) 0 none))
parts-end table earlier text counts false some e = absurd (let both : ◌≡◌ {A = Option (List ℕ)} None (Some counts) =
    e in cc)

parts-next : (table : TableEntries) (p : Item × ℕ) (ps : List (Item × ℕ)) (earlier text counts : List ℕ) → p.1 < 2 ^ 64
    → (o : Option (List ℕ × List ℕ)) → element_counts (item_isotopes table p.0) p.1 earlier text ≡ o
    → option_and_then (λ q. counts_after table ps q.0 q.1) o ≡ Some counts
    → ((next rest : List ℕ) → counts_after table ps next rest ≡ Some counts → PartsRead table ps next rest counts)
    → PartsRead table (p ∷ ps) earlier text counts
parts-next table p ps earlier text counts few None is e go =
    absurd (let both : ◌≡◌ {A = Option (List ℕ)} None (Some counts) = e in cc)
parts-next table p ps earlier text counts few (Some (next, rest)) is e go =
    let own = item_isotopes table p.0 in
    let isotopes = isotopes_of table p.0 in
    let here = element-spelled own p.1 earlier text next rest few is in
    let more = go next rest e in
    let size : length here.own ≡ length isotopes = here.places ∙ length-map isotopes (isotope_item p.0) in
    let weights : length (map (λ (i : Isotope). i.weight) isotopes) ≡ length isotopes =
    length-map isotopes (λ (i : Isotope). i.weight) in
    let counts_here : IsCounts (map (λ (i : Isotope). i.weight) isotopes) p.1 here.own =
    record { places_agree = size ∙ sym weights; atoms_agree = here.sums } in
    record {
      own = here.own ++ more.own;
      counts_are = more.counts_are ∙ ap (λ (l : List ℕ). l ++ more.own) here.counts_are
          ∙ append_assoc earlier here.own more.own;
      splits = (
        subst (IsCounts (map (λ (i : Isotope). i.weight) isotopes) p.1)
            (sym (take_at here.own more.own (length isotopes) size)) counts_here,
        subst (Splits table ps) (sym (drop_at here.own more.own (length isotopes) size)) more.splits,
      );
      spelled = here.spelled ∙ ap (λ (t : List ℕ). counts_text own here.own ++ t) more.spelled
          ∙ sym (counts_text-append own (parts_isotopes table ps) (here.own ++ more.own)
          ∙ ap (λ (l : List ℕ). counts_text own l ++ counts_text (parts_isotopes table ps)
          (drop (length own) (here.own ++ more.own)))
          (take_at here.own more.own (length own) here.places)
          ∙ ap (λ (l : List ℕ). counts_text own here.own ++ counts_text (parts_isotopes table ps) l)
          (drop_at here.own more.own (length own) here.places));
    }

parts-spelled : (table : TableEntries) (parts : List (Item × ℕ)) (earlier text counts : List ℕ) → AreFew parts
    → counts_after table parts earlier text ≡ Some counts → PartsRead table parts earlier text counts
parts-spelled table [] earlier text counts few e = parts-end table earlier text counts (length text == 0) refl e
parts-spelled table (p ∷ ps) earlier text counts few e =
    parts-next table p ps earlier text counts few.0 (element_counts (item_isotopes table p.0) p.1 earlier text) refl e
    (λ next rest e. parts-spelled table ps next rest counts few.1 e)

-- ---- formulas

few-atoms : (items : List (Item × ℕ)) → AllByRecursion (λ p. p.1 ≤ 10000) items → AreFew (plain_items items)
few-atoms [] h = tt
few-atoms (p ∷ ps) h =
    elim (is_plain p.0) as (λ b. AreFew (cond b (p ∷ plain_items ps) (plain_items ps))) [
      | true ↦ (omega (arith, h.0), few-atoms ps h.1)
      | false ↦ few-atoms ps h.1
    ]

no-plain : (items : List (Item × ℕ)) → list_any (λ p. is_plain p.0) items ≡ false → plain_items items ≡ []
no-plain [] none = refl
no-plain (p ∷ ps) none =
    let tests = or_parts (is_plain p.0) (list_any (λ q. is_plain q.0) ps) none in
    rw (tests.0) (no-plain ps tests.1)

module _ (table : TableEntries) (formula : List (Item × ℕ)) (is : IsTable table) (form : IsFormula formula)
    (known : HasItems table formula) where
  few : AreFew (plain_items formula)
  few = few-atoms formula (recursion_from_All (λ p. p.1 ≤ 10000) formula form.parts.few_of_each)

  -- the counts of an isotopologue are read from its text
  text-read : (text counts : List ℕ) → HasText table formula text counts → counts_of_text table formula text
      ≡ Some counts
  unfolding counts_of_text
  text-read text counts has =
      let splits = splits-from_isotopologue table formula counts has.isotopologue in
      elim (cases_Bool (list_any (λ p. is_plain p.0) formula)) [
        | inl plain ↦
            let spelled : counts_text (isotope_items table formula) counts ≡ text = rw plain at has.text_is in
            let apart = formula-apart table formula is form known in
            rw plain (ap (counts_after table (plain_items formula) []) (sym spelled)
            ∙ parts-written table (plain_items formula) counts [] splits apart.0 apart.1 few)
        | inr labelled ↦
            let spelled : dash ≡ text = rw labelled at has.text_is in
            let same : bytes_eq text dash ≡ true = (bytes_eq-Decides text dash).1 (sym spelled) in
            let none : counts ≡ [] = subst (λ (parts : List (Item × ℕ)). Splits table parts counts)
            (no-plain formula labelled) splits in
            rw (labelled, same, none) refl
      ]

  read-plain : (text : List ℕ) → list_any (λ p. is_plain p.0) formula ≡ true → (o : Option (List ℕ))
      → counts_after table (plain_items formula) [] text ≡ o → counts_of_text table formula text ≡ o
      → IsOfText table formula text o
  read-plain text plain None e whole = λ counts has.
      let both : ◌≡◌ {A = Option (List ℕ)} None (Some counts) = sym whole ∙ text-read text counts has in
      cc
  read-plain text plain (Some counts) e whole =
      let parts = parts-spelled table (plain_items formula) [] text counts few e in
      let same : counts ≡ parts.own = parts.counts_are in
      subst (HasText table formula text) (sym same) (record {
        isotopologue = isotopologue-from_splits table formula parts.own parts.splits;
        text_is = rw plain (sym parts.spelled);
      })

  pub text-reading : (text : List ℕ) → IsOfText table formula text (counts_of_text table formula text)
  unfolding counts_of_text
  text-reading text =
      elim (cases_Bool (list_any (λ p. is_plain p.0) formula)) [
        | inl plain ↦
            let answer : counts_of_text table formula text ≡ counts_after table (plain_items formula) [] text =
            rw plain refl in
            subst (IsOfText table formula text) (sym answer)
            (read-plain text plain (counts_after table (plain_items formula) [] text) refl answer)
        | inr labelled ↦
            elim (cases_Bool (bytes_eq text dash)) [
              | inl same ↦
                  let answer : counts_of_text table formula text ≡ Some [] = rw (labelled, same) refl in
                  subst (IsOfText table formula text) (sym answer) (record {
                    isotopologue = isotopologue-from_splits table formula []
                        (subst (λ (parts : List (Item × ℕ)). Splits table parts []) (sym (no-plain formula labelled))
                        refl);
                    text_is = rw labelled (sym ((bytes_eq-Decides text dash).0 same));
                  })
              | inr other ↦
                  let answer : counts_of_text table formula text ≡ None = rw (labelled, other) refl in
                  subst (IsOfText table formula text) (sym answer) (λ counts has.
                  let both : ◌≡◌ {A = Option (List ℕ)} None (Some counts) = sym answer ∙ text-read text counts has in
                  cc)
            ]
      ]

  pub one-text : (text a b : List ℕ) → HasText table formula text a → HasText table formula text b → a ≡ b
  one-text text a b has has_too =
      let both : ◌≡◌ {A = Option (List ℕ)} (Some a) (Some b) = sym (text-read text a has) ∙ text-read text b has_too in
      cc
