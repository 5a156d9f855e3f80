-- Choices of the counts of each element, with their bounds, are all isotopologues with theirs.
use Rattle.std.specs.Prelude.{AllPairs, Contains}
use Rattle.std.specs.Ordering.{nat_cmp}
use Rattle.std.specs.declared.cmp.Ordering.TheVariants.{Less}
use Rattle.std.specs.Cmp.Lexicographic.{slice_cmp}
use Rattle.std.proofs.Common.{◌≡◌, ℕ, suc, ◌+◌, ◌<◌, List, [], ◌∷◌, ◌++◌, map, length, take, get_or, refl, sym, ◌∙◌, ap, arith, All}
use Rattle.std.proofs.lemmas.List.Elements.{All-head, All-tail, All-map, All-weaker}
use Rattle.multinomial_bounds.specs.Weight.{IsWeights}
use Rattle.multinomial_bounds.specs.Bounds.{certainty, floor_of, ceiling_of, IsEnclosure}
use Rattle.multinomial_bounds.specs.Path.{bound_of}
use Rattle.multinomial_bounds.specs.Isotopologue.{Element, IsIsotopologue, bounds_of, isotopologue_bound, isotopologue_weight, all_weight}
use Rattle.multinomial_bounds.proofs.EnclosureLemmas.{IsEnclosure-isotopologue}
use Rattle.multinomial_bounds.specs.Compositions.{choices, counts_of, isotopologues_of}
use Rattle.isotopologue_sets.specs.Covers.{member_of}
use Rattle.isotopologue_list.specs.Listed.{BoundedCounts, bounded_counts}
use Rattle.isotopologue_list.specs.ListedParts.{isotopologue_from, ends_from}
use Rattle.isotopologue_list.proofs.FlatLemmas.{flat_map_map, map_flat_map, flat_map_same, map_map, map_same}
use Rattle.isotopologue_list.proofs.ProductLemmas.{ends_from-isotopologue_from}
use Rattle.std.proofs.Math.Seq.{take-suc}
use Rattle.std.proofs.lemmas.List.{map-append, length-map, get_or-map}
use Rattle.multinomial_bounds.proofs.CompositionLemmas.{Contains-map}
use Rattle.multinomial_bounds.proofs.IsotopologueList.{isotopologues_complete, isotopologues_of-IsIsotopologue}
use Rattle.multinomial_bounds.proofs.LexicographicOrder.{isotopologues_in_order}

-- the counts of an isotopologue, each with its bounds
chosen_for : List Element → List (List ℕ) → List BoundedCounts
chosen_for [] isotopologue = []
chosen_for (e ∷ es) [] = []
chosen_for (e ∷ es) (c ∷ more) = bounded_counts e.weights c ∷ chosen_for es more

-- all counts of an element with their bounds
abbrev pub bounded_counts_of : Element → List BoundedCounts
bounded_counts_of e = map (bounded_counts e.weights) (counts_of e)

choices_chosen : (es : List Element) → choices (map bounded_counts_of es) ≡ map (chosen_for es) (isotopologues_of es)
unfolding choices isotopologues_of chosen_for
choices_chosen [] = refl
choices_chosen (e ∷ es) =
    flat_map_map (λ item. map (λ more. item ∷ more) (choices (map bounded_counts_of es))) (bounded_counts e.weights) (counts_of e)
    ∙ flat_map_same
    (λ c. map (λ more. bounded_counts e.weights c ∷ more) (choices (map bounded_counts_of es)))
    (λ c. map (chosen_for (e ∷ es)) (map (λ more. c ∷ more) (isotopologues_of es)))
    (λ c.
    ap (map (λ more. bounded_counts e.weights c ∷ more)) (choices_chosen es)
    ∙ map_map (λ more. bounded_counts e.weights c ∷ more) (chosen_for es) (isotopologues_of es)
    ∙ sym (map_map (chosen_for (e ∷ es)) (λ more. c ∷ more) (isotopologues_of es)))
    (counts_of e)
    ∙ sym (map_flat_map (chosen_for (e ∷ es)) (λ c. map (λ more. c ∷ more) (isotopologues_of es)) (counts_of e))

counts_chosen : (es : List Element) (i : List (List ℕ)) → IsIsotopologue es i → map (λ c. c.counts) (chosen_for es i) ≡ i
unfolding chosen_for bounded_counts
counts_chosen [] [] is = refl
counts_chosen [] (c ∷ more) is = absurd is
counts_chosen (e ∷ es) [] is = absurd is
counts_chosen (e ∷ es) (c ∷ more) is = ap (λ xs. c ∷ xs) (counts_chosen es more is.1)

lo_chosen : (es : List Element) (i : List (List ℕ)) → map (λ c. c.lo) (chosen_for es i) ≡ bounds_of floor_of es i
unfolding chosen_for bounded_counts bounds_of
lo_chosen [] i = refl
lo_chosen (e ∷ es) [] = refl
lo_chosen (e ∷ es) (c ∷ more) = ap (λ xs. bound_of floor_of e.weights c ∷ xs) (lo_chosen es more)

hi_chosen : (es : List Element) (i : List (List ℕ)) → map (λ c. c.hi) (chosen_for es i) ≡ bounds_of ceiling_of es i
unfolding chosen_for bounded_counts bounds_of
hi_chosen [] i = refl
hi_chosen (e ∷ es) [] = refl
hi_chosen (e ∷ es) (c ∷ more) = ap (λ xs. bound_of ceiling_of e.weights c ∷ xs) (hi_chosen es more)

from_chosen : (es : List Element) (i : List (List ℕ)) → IsIsotopologue es i →
    isotopologue_from (chosen_for es i) ≡ member_of es i
unfolding isotopologue_from
from_chosen es i is = rw (counts_chosen es i is, lo_chosen es i, hi_chosen es i) refl

map_same_each : {A B : Type 0} (f g : A → B) (xs : List A) → All (λ x. f x ≡ g x) xs → map f xs ≡ map g xs
map_same_each f g [] all = refl
map_same_each f g (x ∷ xs) all =
    ap (λ y. y ∷ map f xs) (All-head (λ x. f x ≡ g x) x xs all)
    ∙ ap (λ ys. g x ∷ ys) (map_same_each f g xs (All-tail (λ x. f x ≡ g x) x xs all))

pub listed : (es : List Element) →
    map isotopologue_from (choices (map bounded_counts_of es)) ≡ map (member_of es) (isotopologues_of es)
listed es =
    ap (map isotopologue_from) (choices_chosen es)
    ∙ map_map isotopologue_from (chosen_for es) (isotopologues_of es)
    ∙ map_same_each (λ i. isotopologue_from (chosen_for es i)) (member_of es) (isotopologues_of es)
    (All-weaker (IsIsotopologue es) (λ i. isotopologue_from (chosen_for es i) ≡ member_of es i) (from_chosen es)
    (isotopologues_of es) (isotopologues_of-IsIsotopologue es))

-- The bounds of each isotopologue of the list enclose its probability.
pub listed-IsEnclosure : (es : List Element) → All (λ e. IsWeights e.weights) es →
    All (λ i. IsEnclosure i.lo i.hi (isotopologue_weight es i.counts) (all_weight es))
    (map (member_of es) (isotopologues_of es))
listed-IsEnclosure es ok =
    All-map (λ i. IsEnclosure i.lo i.hi (isotopologue_weight es i.counts) (all_weight es)) (member_of es) (isotopologues_of es)
    (All-weaker (IsIsotopologue es)
    (λ i. IsEnclosure (isotopologue_bound floor_of es i) (isotopologue_bound ceiling_of es i) (isotopologue_weight es i) (all_weight es))
    (λ i is. IsEnclosure-isotopologue es i ok is)
    (isotopologues_of es) (isotopologues_of-IsIsotopologue es))

pub listed-IsIsotopologue : (es : List Element) →
    All (λ i. IsIsotopologue es i.counts) (map (member_of es) (isotopologues_of es))
listed-IsIsotopologue es =
    All-map (λ i. IsIsotopologue es i.counts) (member_of es) (isotopologues_of es) (isotopologues_of-IsIsotopologue es)

-- one element more
pub next_listed : (es : List Element) (i : ℕ) (e : Element) (lists more : List (List BoundedCounts)) (items : List BoundedCounts) →
    i < length es → e ≡ get_or es i e → lists ≡ map bounded_counts_of (take i es) → items ≡ bounded_counts_of e →
    more ≡ lists ++ items ∷ [] → more ≡ map bounded_counts_of (take (i + 1) es)
next_listed es i e lists more items within is before now pushed =
    let longer : take (i + 1) es ≡ take i es ++ e ∷ [] =
    ap (λ (k : ℕ). take k es) (let s : i + 1 ≡ suc i = omega arith in s)
    ∙ take-suc es i e within
    ∙ ap (λ x. take i es ++ x ∷ []) (sym is) in
    pushed
    ∙ ap (λ xs. xs ++ items ∷ []) before
    ∙ ap (λ x. map bounded_counts_of (take i es) ++ x ∷ []) now
    ∙ sym (map-append bounded_counts_of (take i es) (e ∷ []))
    ∙ ap (map bounded_counts_of) (sym longer)

-- the products that begin at probability 1
pub all_ends : (lists : List (List BoundedCounts)) →
    map (ends_from certainty certainty) (choices lists)
    ≡ map {B = ℕ × ℕ} (λ i. (i.lo, i.hi)) (map isotopologue_from (choices lists))
all_ends lists =
    map_same (ends_from certainty certainty) (λ c. ((isotopologue_from c).lo, (isotopologue_from c).hi))
    ends_from-isotopologue_from (choices lists)
    ∙ sym (map_map {C = ℕ × ℕ} (λ i. (i.lo, i.hi)) isotopologue_from (choices lists))

length-IsIsotopologue : (es : List Element) (i : List (List ℕ)) → IsIsotopologue es i → length i ≡ length es
length-IsIsotopologue [] [] is = refl
length-IsIsotopologue [] (c ∷ more) is = absurd is
length-IsIsotopologue (e ∷ es) [] is = absurd is
length-IsIsotopologue (e ∷ es) (c ∷ more) is = ap suc (length-IsIsotopologue es more is.1)

pub listed-elements : (es : List Element) →
    All (λ i. length i.counts ≡ length es) (map (member_of es) (isotopologues_of es))
listed-elements es =
    All-weaker (λ i. IsIsotopologue es i.counts) (λ i. length i.counts ≡ length es)
    (λ i is. length-IsIsotopologue es i.counts is)
    (map (member_of es) (isotopologues_of es)) (listed-IsIsotopologue es)

-- Each isotopologue is a member of the list.
pub listed_complete : (es : List Element) (i : List (List ℕ)) → IsIsotopologue es i →
    Contains (map (member_of es) (isotopologues_of es)) (member_of es i)
listed_complete es i is =
    Contains-map (member_of es) (isotopologues_of es) i (isotopologues_complete es i is)

-- The isotopologues of the list stand in lexicographic order, each once.
pub listed_in_order : (es : List Element) →
    AllPairs (λ i j. slice_cmp (slice_cmp nat_cmp) i.counts j.counts ≡ Less) (map (member_of es) (isotopologues_of es))
listed_in_order es i j d before within =
    let second : j < length (isotopologues_of es) = rw length-map at within in
    let first : i < length (isotopologues_of es) = omega arith in
    rw (get_or-map (member_of es) (isotopologues_of es) i [] d first, get_or-map (member_of es) (isotopologues_of es) j [] d second)
    (isotopologues_in_order es i j [] before second)
