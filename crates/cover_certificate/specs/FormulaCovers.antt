-- The cover of a formula, as it is printed. Bounds of probabilities, thresholds and coverages are in units of 10^-18,
-- masses in 10^-12 Da.
use Rattle.std.specs.Prelude.{◌≡◌, ◌≤◌, ℕ, List, All, length, map, sum, Result, Ok, Err, if◌then◌else◌}
use Rattle.std.specs.List.{concat}
use Rattle.multinomial_bounds.specs.Isotopologue.{Element}
use Rattle.isotopologue_sets.specs.Layers.{has_too_many, last_threshold_for}
use Rattle.isotopologue_sets.specs.Covers.{Member, CoverNumbers, cover_numbers}
use Rattle.reaching_layer.specs.CountsByElement.{counts_by_element}
use Rattle.reaching_layer.specs.declared.fault.CoverFault.{CoverFault}
use Rattle.reaching_layer.specs.declared.fault.CoverFault.TheVariants.{TooMany}
use Rattle.element_table.specs.Elements.{TableEntries}
use Rattle.written_items.specs.declared.item.Item.{Item}
use Rattle.isotopologue_text.specs.Isotopologues.{formula_elements, isotopologue_text_of, isotopologue_mass_of}
use Rattle.isotopologue_text.specs.Printed.{Printed, printed_text, printed_mass}

-- an isotopologue as it is printed: the counts of its isotopes, one element after another, its text, its mass, and
-- the bounds of its probability
pub record MemberEntry : Type 0 where
  pub counts : List ℕ
  pub text : List ℕ
  pub mass : ℕ
  pub lo : ℕ
  pub hi : ℕ

-- a cover: the formula and the wanted coverage, the threshold of the reaching layer, the cover's size and bound, and
-- all members of that layer in the cover's order, of which the first `size` are the cover
pub record CoverEntries : Type 0 where
  pub formula : List (Item × ℕ)
  pub coverage : ℕ
  pub threshold : ℕ
  pub size : ℕ
  pub bound : ℕ
  pub layer : List MemberEntry

-- a member with its text and its mass
unfoldable pub member_entry : TableEntries → List (Item × ℕ) → Member → MemberEntry
member_entry table formula member =
    let counts = concat member.counts in
    record {
      counts = counts;
      text = isotopologue_text_of table formula counts;
      mass = isotopologue_mass_of table formula counts;
      lo = member.lo;
      hi = member.hi;
    }

-- a member as it is printed with the isotopes of its formula
unfoldable pub printed_member : Printed → Member → MemberEntry
printed_member printed member =
    let counts = concat member.counts in
    record {
      counts = counts;
      text = printed_text printed counts;
      mass = printed_mass printed counts;
      lo = member.lo;
      hi = member.hi;
    }

-- the cover that has these numbers, whose members are printed with these isotopes
abbrev pub printed_cover : List (Item × ℕ) → ℕ → Printed → CoverNumbers → CoverEntries
printed_cover formula coverage printed numbers =
    record {
      formula = formula;
      coverage = coverage;
      threshold = numbers.threshold;
      size = numbers.size;
      bound = numbers.bound;
      layer = map (printed_member printed) numbers.members;
    }

-- each member has a count for each of these isotopes, and not more atoms than a formula
abbrev pub ArePrintedWith : Printed → List Member → Type 0
ArePrintedWith printed members =
    All (λ m. (length (concat m.counts) ≡ length printed.isotopes) × (sum (concat m.counts) ≤ 20000)) members

-- the cover of a formula for a coverage
unfoldable pub cover_of : TableEntries → List (Item × ℕ) → ℕ → CoverEntries
cover_of table formula coverage =
    let numbers = cover_numbers (formula_elements table formula) coverage in
    record {
      formula = formula;
      coverage = coverage;
      threshold = numbers.threshold;
      size = numbers.size;
      bound = numbers.bound;
      layer = map (member_entry table formula) numbers.members;
    }

-- the cover, unless a layer has too many members and none before it has the coverage
abbrev pub cover_unless_too_many : TableEntries → List (Item × ℕ) → ℕ → Result CoverEntries CoverFault
cover_unless_too_many table formula coverage =
    let elements = formula_elements table formula in
    if has_too_many elements (last_threshold_for elements coverage)
    then Err (TooMany (last_threshold_for elements coverage))
    else Ok (cover_of table formula coverage)

-- a printed member as an isotopologue of the elements, with its bounds
unfoldable pub member_numbers : List Element → MemberEntry → Member
member_numbers elements entry =
    record {
      counts = counts_by_element (map (λ e. length e.weights) elements) entry.counts;
      lo = entry.lo;
      hi = entry.hi;
    }
