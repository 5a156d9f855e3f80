-- A cover that was given is the one that its query asks for, what it claims holds, and its masses can be printed.
use Rattle.std.proofs.Common.{◌≡◌, ℕ, Bool, true, false, cond, List, map, refl, sym, ap, ◌∙◌, subst}
use Rattle.std.specs.Prelude.{ℤ, Result, Ok, Err, All}
use Rattle.reader_answers.specs.Answers.{◌>>=◌}
use Rattle.element_table.specs.Elements.{TableEntries}
use Rattle.written_items.specs.declared.item.Item.{Item}
use Rattle.multinomial_bounds.specs.Bounds.{IsEnclosure}
use Rattle.multinomial_bounds.specs.Isotopologue.{isotopologue_weight, all_weight}
use Rattle.isotopologue_sets.specs.Covers.{IsCover}
use Rattle.isotopologue_sets.specs.Layers.{has_too_many, last_threshold_for}
use Rattle.isotopologue_text.specs.Isotopologues.{formula_elements}
use Rattle.reaching_layer.specs.declared.fault.CoverFault.{CoverFault}
use Rattle.reaching_layer.specs.declared.fault.CoverFault.TheVariants.{TooMany}
use Rattle.cover_certificate.specs.FormulaCovers.{CoverEntries, cover_of, cover_unless_too_many, member_numbers}
use Rattle.command_io.specs.Refusals.{or_fault_as}
use Rattle.command_io.specs.declared.input_fault.InputFault.TheVariants.{Layer}
use Rattle.cover_reports.specs.Answers.{cover_query}
use Rattle.cover_reports.specs.Claims.{HoldsTrue}

given_cover : (many : Bool) (threshold : ℕ) (cover given : CoverEntries) →
    (let answer : Result CoverEntries CoverFault = cond many (Err (TooMany threshold)) (Ok cover) in answer) ≡ Ok given →
    cover ≡ given
given_cover true threshold cover given is = cc
given_cover false threshold cover given is = cc

pub is_cover_of : (table : TableEntries) (formula : List (Item × ℕ)) (coverage : ℕ) (given : CoverEntries) →
    cover_unless_too_many table formula coverage ≡ Ok given → cover_of table formula coverage ≡ given
is_cover_of table formula coverage given is =
    let last : ℕ = last_threshold_for (formula_elements table formula) coverage in
    given_cover (has_too_many (formula_elements table formula) last) last (cover_of table formula coverage) given is

-- it has the formula and the coverage
formula-cover_of : (table : TableEntries) (formula : List (Item × ℕ)) (coverage : ℕ) →
    (cover_of table formula coverage).formula ≡ formula
unfolding cover_of
formula-cover_of table formula coverage = refl

coverage-cover_of : (table : TableEntries) (formula : List (Item × ℕ)) (coverage : ℕ) →
    (cover_of table formula coverage).coverage ≡ coverage
unfolding cover_of
coverage-cover_of table formula coverage = refl

pub given_formula : (table : TableEntries) (formula : List (Item × ℕ)) (coverage : ℕ) (given : CoverEntries) →
    cover_of table formula coverage ≡ given → formula ≡ given.formula
given_formula table formula coverage given is =
    sym (formula-cover_of table formula coverage) ∙ ap (λ (c : CoverEntries). c.formula) is

pub given_coverage : (table : TableEntries) (formula : List (Item × ℕ)) (coverage : ℕ) (given : CoverEntries) →
    cover_of table formula coverage ≡ given → coverage ≡ given.coverage
given_coverage table formula coverage given is =
    sym (coverage-cover_of table formula coverage) ∙ ap (λ (c : CoverEntries). c.coverage) is

-- what was claimed of it holds of its formula and coverage
pub holds_of_given : (table : TableEntries) (formula : List (Item × ℕ)) (coverage : ℕ) (given : CoverEntries) →
    cover_of table formula coverage ≡ given →
    (let elements = formula_elements table formula in
    IsCover elements coverage given.size given.bound (map (member_numbers elements) given.layer)) →
    (let elements = formula_elements table formula in
    All (λ m. IsEnclosure m.lo m.hi (isotopologue_weight elements m.counts) (all_weight elements))
    (map (member_numbers elements) given.layer)) →
    (given ≡ cover_of table given.formula given.coverage) × HoldsTrue table given
holds_of_given table formula coverage given is claims encloses =
    let f : formula ≡ given.formula = given_formula table formula coverage given is in
    let c : coverage ≡ given.coverage = given_coverage table formula coverage given is in (
      sym is ∙ ap (λ x. cover_of table x coverage) f ∙ ap (λ x. cover_of table given.formula x) c,
      record {
        claims = subst (λ x. IsCover (formula_elements table given.formula) x given.size given.bound
            (map (member_numbers (formula_elements table given.formula)) given.layer)) c
            (subst (λ x. IsCover (formula_elements table x) coverage given.size given.bound
            (map (member_numbers (formula_elements table x)) given.layer)) f claims);
        encloses = subst (λ x. All (λ m. IsEnclosure m.lo m.hi
            (isotopologue_weight (formula_elements table x) m.counts) (all_weight (formula_elements table x)))
            (map (member_numbers (formula_elements table x)) given.layer)) f encloses;
      },
    )

-- the query of an ion that has a cover
pub query_of_given : (table : TableEntries) (ion : List (Item × ℕ)) (shift : ℤ) (coverage : ℕ) (given : CoverEntries) →
    cover_unless_too_many table ion coverage ≡ Ok given →
    cover_query table ion shift coverage
    ≡ Ok (record { table = table; ion = given.formula; shift = shift; coverage = given.coverage })
query_of_given table ion shift coverage given is =
    let covered : cover_of table ion coverage ≡ given = is_cover_of table ion coverage given is in
    ap (λ (r : Result CoverEntries CoverFault). or_fault_as (λ fault. Layer ion) r
    >>= λ c. Ok (record { table = table; ion = ion; shift = shift; coverage = coverage })) is
    ∙ ap (λ f. Ok (record { table = table; ion = f; shift = shift; coverage = coverage }))
    (given_formula table ion coverage given covered)
    ∙ ap (λ c. Ok (record { table = table; ion = given.formula; shift = shift; coverage = c }))
    (given_coverage table ion coverage given covered)

-- an ion that has none
pub query_of_fault : (table : TableEntries) (ion : List (Item × ℕ)) (shift : ℤ) (coverage : ℕ) (fault : CoverFault) →
    cover_unless_too_many table ion coverage ≡ Err fault → cover_query table ion shift coverage ≡ Err (Layer ion)
query_of_fault table ion shift coverage fault is =
    ap (λ (r : Result CoverEntries CoverFault). or_fault_as (λ fault. Layer ion) r
    >>= λ c. Ok (record { table = table; ion = ion; shift = shift; coverage = coverage })) is
