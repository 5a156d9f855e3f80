-- What the numbers of the formula's elements claim holds of the cover that has them.
use Rattle.std.proofs.Common.{◌≡◌, ◌≤◌, List, length, map, Result, Ok, Err, ◌∙◌, sym, ap, subst, All, rules}
use Rattle.std.proofs.lemmas.List.{length-map}
use Rattle.reader_answers.specs.Answers.{Gives}
use Rattle.multinomial_bounds.specs.Bounds.{IsEnclosure}
use Rattle.multinomial_bounds.specs.Isotopologue.{Element, IsIsotopologue, isotopologue_weight, all_weight}
use Rattle.isotopologue_sets.specs.Covers.{CoverNumbers, Member, IsCover}
use Rattle.reaching_layer.specs.declared.fault.CoverFault.{CoverFault}
use Rattle.reaching_layer.specs.LayerAnswers.{is_memory, numbers_unless_too_many}
use Rattle.formula_text.specs.Formulas.{atoms_of}
use Rattle.isotopologue_text.specs.Isotopologues.{formula_elements, IsIsotopologueOf}
use Rattle.cover_certificate.specs.FormulaCovers.{CoverEntries, ArePrintedWith, member_entry, member_numbers, printed_cover, cover_unless_too_many}
use Rattle.cover_certificate.proofs.CoverAnswers.{cover_answer, fault_answer, printed_cover_is}
use Rattle.cover_certificate.proofs.PrintedMembers.{numbers_of_entries, entries_of_formula, are_printed_with}
use Rattle.cover_certificate.proofs.numbered.numbered_cover_of.Goals as goal
use Rattle.cover_certificate.proofs.numbered.numbered_cover_of.Goals.{In_ok-numbers}

pub reaching_layer-requires-clause-elements : goal.reaching_layer-requires-clause-elements
reaching_layer-requires-clause-elements c = rw c.deref.ensures.value c.in_ok-elements.ensures.within_limits

elements : (c : In_ok-numbers) → c.deref.result.now ≡ formula_elements c.args.table.now c.args.formula.now
elements c = c.deref.ensures.value ∙ c.in_ok-elements.ensures.elements

isotopologues : (c : In_ok-numbers) →
    All (λ m. IsIsotopologue (formula_elements c.args.table.now c.args.formula.now) m.counts) c.in_ok-numbers.numbers.members
isotopologues c =
    let P : List Element → Type 0 = λ es. All (λ m. IsIsotopologue es m.counts) c.in_ok-numbers.numbers.members in
    subst P (elements c) c.in_ok-numbers.ensures.isotopologues

-- the numbers of the printed members
numbers : (c : In_ok-numbers) →
    map (member_numbers (formula_elements c.args.table.now c.args.formula.now))
    (map (member_entry c.args.table.now c.args.formula.now) c.in_ok-numbers.numbers.members)
    ≡ c.in_ok-numbers.numbers.members
numbers c = numbers_of_entries c.args.table.now c.args.formula.now c.in_ok-numbers.numbers.members (isotopologues c)

pub invariant_of-result-2 : goal.invariant_of-result-2
invariant_of-result-2 c =
    let at = (goal.at.invariant_of-result-2 c).In_ok-numbers in
    let members = c.numbers.inside.members in
    let same : c.in_ok-numbers.numbers.members ≡ members = ap (λ (n : CoverNumbers). n.members) (sym c.numbers.view_is) in
    let limit : atoms_of c.args.formula.now ≤ 20000 =
    subst (λ f. atoms_of f ≤ 20000) (c.drop-2.view_is ∙ c.in_ok-clone.ensures.cases) c.drop-2.invariant.parts.few_atoms in
    subst (λ printed. ArePrintedWith printed members) (sym c.in_ok-of.ensures)
    (are_printed_with c.args.table.now c.args.formula.now members limit
    (subst (λ ms. All (λ m. IsIsotopologue (formula_elements c.args.table.now c.args.formula.now) m.counts) ms) same
    (isotopologues at)))

pub returns-clause-cover : goal.returns-clause-cover
returns-clause-cover c =
    let at = (goal.at.returns-clause-cover c).In_ok-numbers in
    let seen = printed_cover_is c.args.table.now c.args.formula.now c.args.coverage c.in_ok-clone.field-0
    c.in_ok-of.field-0 c.in_ok-numbers.numbers c.in_ok-clone.ensures.cases c.in_ok-of.ensures
    ∙ ap (printed_cover c.in_ok-clone.field-0 c.args.coverage c.in_ok-of.field-0) (sym c.numbers.view_is) in
    let P : List Element → Type 0 = λ es. numbers_unless_too_many es c.args.coverage ≡ Ok c.in_ok-numbers.numbers in
    cover_answer c.args.table.now c.args.formula.now c.args.coverage c.in_ok-numbers.numbers
    (subst P (elements at) c.in_ok-numbers.ensures.cover)
    ∙ ap (λ (cover : CoverEntries). let found : Result CoverEntries CoverFault = Ok cover in found)
    seen

pub returns-clause-isotopologues : goal.returns-clause-isotopologues
returns-clause-isotopologues c =
    let at = (goal.at.returns-clause-isotopologues c).In_ok-numbers in
    let seen = printed_cover_is c.args.table.now c.args.formula.now c.args.coverage c.in_ok-clone.field-0
    c.in_ok-of.field-0 c.in_ok-numbers.numbers c.in_ok-clone.ensures.cases c.in_ok-of.ensures
    ∙ ap (printed_cover c.in_ok-clone.field-0 c.args.coverage c.in_ok-of.field-0) (sym c.numbers.view_is) in
    let P : CoverEntries → Type 0 = λ cover.
    All (λ m. IsIsotopologueOf c.args.table.now c.args.formula.now m.counts) cover.layer in
    subst P seen
    (entries_of_formula c.args.table.now c.args.formula.now c.in_ok-numbers.numbers.members (isotopologues at))

pub returns-clause-claims : goal.returns-clause-claims
returns-clause-claims c =
    let at = (goal.at.returns-clause-claims c).In_ok-numbers in
    let seen = printed_cover_is c.args.table.now c.args.formula.now c.args.coverage c.in_ok-clone.field-0
    c.in_ok-of.field-0 c.in_ok-numbers.numbers c.in_ok-clone.ensures.cases c.in_ok-of.ensures
    ∙ ap (printed_cover c.in_ok-clone.field-0 c.args.coverage c.in_ok-of.field-0) (sym c.numbers.view_is) in
    let es = formula_elements c.args.table.now c.args.formula.now in
    let n = c.in_ok-numbers.numbers in
    let P : List Element → Type 0 = λ es. IsCover es c.args.coverage n.size n.bound n.members in
    let Q : CoverEntries → Type 0 = λ cover.
    IsCover es c.args.coverage cover.size cover.bound (map (member_numbers es) cover.layer) in
    subst Q seen
    (subst (IsCover es c.args.coverage n.size n.bound) (sym (numbers at))
    (subst P (elements at) c.in_ok-numbers.ensures.claims))

pub returns-clause-encloses : goal.returns-clause-encloses
returns-clause-encloses c =
    let at = (goal.at.returns-clause-encloses c).In_ok-numbers in
    let seen = printed_cover_is c.args.table.now c.args.formula.now c.args.coverage c.in_ok-clone.field-0
    c.in_ok-of.field-0 c.in_ok-numbers.numbers c.in_ok-clone.ensures.cases c.in_ok-of.ensures
    ∙ ap (printed_cover c.in_ok-clone.field-0 c.args.coverage c.in_ok-of.field-0) (sym c.numbers.view_is) in
    let es = formula_elements c.args.table.now c.args.formula.now in
    let E : List Element → List Member → Type 0 = λ es ms. All (λ m.
    IsEnclosure m.lo m.hi (isotopologue_weight es m.counts) (all_weight es)) ms in
    let Q : CoverEntries → Type 0 = λ cover. E es (map (member_numbers es) cover.layer) in
    subst Q seen
    (subst (E es) (sym (numbers at))
    (subst (λ es. E es c.in_ok-numbers.numbers.members) (elements at) c.in_ok-numbers.ensures.encloses))

pub returns-in_err-numbers-clause-cover : goal.returns-in_err-numbers-clause-cover
returns-in_err-numbers-clause-cover c =
    let fault = c.in_err-numbers.field-0.0 in
    let P : List Element → Type 0 = λ es. Gives {A = CoverNumbers} is_memory (Err fault) (numbers_unless_too_many es c.args.coverage) in
    let given : P (formula_elements c.args.table.now c.args.formula.now) =
    subst P (c.deref.ensures.value ∙ c.in_ok-elements.ensures.elements) c.in_err-numbers.ensures.cover in
    let Q : Result CoverEntries CoverFault → Type 0 = λ r.
    Gives is_memory r (cover_unless_too_many c.args.table.now c.args.formula.now c.args.coverage) in
    let is : c.from_residual-in_err-numbers.result ≡ Err fault = search rules in
    subst Q (sym is) (fault_answer c.args.table.now c.args.formula.now c.args.coverage fault given)
