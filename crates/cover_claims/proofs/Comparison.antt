-- Comparing an isotopologue with a member by lower bounds and then by counts that stand one element after another.
use Rattle.std.proofs.Common.{◌≡◌, ℕ, ◌+◌, ◌<◌, Bool, true, false, List, [], ◌∷◌, ◌++◌, length, take, drop, eqb, ltb}
use Rattle.std.proofs.Common.{refl, sym, ◌∙◌, ap, arith, ⊎_elim, length-drop}
use Rattle.std.specs.Prelude.{◌⊎◌, ◌||◌, ◌&&◌}
use Rattle.std.specs.Ordering.{is_lt, nat_cmp, ordering_then}
use Rattle.std.specs.declared.cmp.Ordering.{Ordering}
use Rattle.std.specs.declared.cmp.Ordering.TheVariants.{Less, Equal, Greater}
use Rattle.std.specs.Cmp.Lexicographic.{slice_cmp}
use Rattle.std.proofs.lemmas.Bool.{cases_order, lt-ltb, le-ltb, eq-eqb, ne_eqb}
use Rattle.std.proofs.lemmas.Cmp.{nat_cmp_total, nat_list_cmp_total, lists_total, tied_itself}
use Rattle.std.proofs.lemmas.List.{take-append-drop, length-take-le}
use Rattle.std.proofs.lemmas.List.Sums.{sum_by-cons}
use Rattle.std.proofs.lemmas.Map.Lookups.{exact_bytes}
use Rattle.multinomial_bounds.specs.Isotopologue.{Element}
use Rattle.isotopologue_sets.specs.Layers.{lo_of}
use Rattle.isotopologue_sets.specs.Covers.{stands_before}
use Rattle.isotopologue_sets.proofs.CoverOrder.{stands_before-IsStrictOrder}
use Rattle.cover_claims.specs.CountsInRow.{isotopes_of_all, counts_by_element}

-- the first comparison decides, then the second, then the third
then_assoc : (a b c : Ordering) → ordering_then (ordering_then a b) c ≡ ordering_then a (ordering_then b c)
then_assoc Less b c = refl
then_assoc Equal b c = refl
then_assoc Greater b c = refl

cmp_append : (xs ys xs' ys' : List ℕ) → length xs ≡ length xs' →
    slice_cmp nat_cmp (xs ++ ys) (xs' ++ ys')
    ≡ ordering_then (slice_cmp nat_cmp xs xs') (slice_cmp nat_cmp ys ys')
cmp_append [] ys [] ys' same = refl
cmp_append [] ys (x' ∷ xs') ys' same = absurd (omega arith)
cmp_append (x ∷ xs) ys [] ys' same = absurd (omega arith)
cmp_append (x ∷ xs) ys (x' ∷ xs') ys' same =
    ap (ordering_then (nat_cmp x x')) (cmp_append xs ys xs' ys' (omega arith))
    ∙ sym (then_assoc (nat_cmp x x') (slice_cmp nat_cmp xs xs') (slice_cmp nat_cmp ys ys'))

empty : (xs : List ℕ) → length xs ≡ 0 → xs ≡ []
empty [] none = refl
empty (x ∷ xs) none = absurd (omega arith)

-- Counts in a row compare as the counts of each element do.
pub cmp_by_element : (es : List Element) (a b : List ℕ) → length a ≡ isotopes_of_all es → length b ≡ isotopes_of_all es →
    slice_cmp nat_cmp a b ≡ slice_cmp (slice_cmp nat_cmp) (counts_by_element es a) (counts_by_element es b)
unfolding counts_by_element
cmp_by_element [] a b first second = rw (empty a first, empty b second) refl
cmp_by_element (e ∷ es) a b first second =
    let n : ℕ = length e.weights in
    let all : isotopes_of_all (e ∷ es) ≡ n + isotopes_of_all es = sum_by-cons (λ d. length d.weights) e es in
    let a_first : length (take n a) ≡ n = length-take-le n a (omega arith) in
    let b_first : length (take n b) ≡ n = length-take-le n b (omega arith) in
    let a_rest : length (drop n a) ≡ isotopes_of_all es = omega (arith, length-drop n a) in
    let b_rest : length (drop n b) ≡ isotopes_of_all es = omega (arith, length-drop n b) in
    let a_is : take n a ++ drop n a ≡ a = take-append-drop n a in
    let b_is : take n b ++ drop n b ≡ b = take-append-drop n b in
    ap (λ (xs : List ℕ). slice_cmp nat_cmp xs b) (sym a_is)
    ∙ ap (slice_cmp nat_cmp (take n a ++ drop n a)) (sym b_is)
    ∙ cmp_append (take n a) (drop n a) (take n b) (drop n b) (a_first ∙ sym b_first)
    ∙ ap (ordering_then (slice_cmp nat_cmp (take n a) (take n b))) (cmp_by_element es (drop n a) (drop n b) a_rest b_rest)

-- how a member stands to an isotopologue
abbrev pub against : List Element → List (List ℕ) → List (List ℕ) → Ordering
against es member i = ordering_then (nat_cmp (lo_of es i) (lo_of es member)) (slice_cmp (slice_cmp nat_cmp) member i)

less_is : (x y : ℕ) (o : Ordering) → (ltb x y || (eqb y x && is_lt o)) ≡ is_lt (ordering_then (nat_cmp x y) o)
less_is x y o =
    ⊎_elim
    (λ (same : x ≡ y). rw (le-ltb x y (omega arith), eq-eqb x y same, eq-eqb y x (sym same)) refl)
    (λ (apart : (x < y) ⊎ (y < x)).
    ⊎_elim
    (λ (below : x < y). rw (lt-ltb x y below) refl)
    (λ (above : y < x).
    rw (le-ltb x y (omega arith), ne_eqb x y (λ e. omega arith), ne_eqb y x (λ e. omega arith)) refl)
    apart)
    (cases_order x y)

pub stands_before-is : (es : List Element) (a b : List (List ℕ)) → stands_before es a b ≡ is_lt (against es a b)
stands_before-is es a b = less_is (lo_of es b) (lo_of es a) (slice_cmp (slice_cmp nat_cmp) a b)

pub before-less : (es : List Element) (member i : List (List ℕ)) → against es member i ≡ Less →
    stands_before es member i ≡ true
before-less es member i less = stands_before-is es member i ∙ ap is_lt less

first_tied : (o p : Ordering) → ordering_then o p ≡ Equal → o ≡ Equal
first_tied Less p e = e
first_tied Equal p e = refl
first_tied Greater p e = e

then_tied : (o p : Ordering) → ordering_then o p ≡ Equal → p ≡ Equal
then_tied Less p e = absurd (let t : ◌≡◌ {A = Ordering} Less Equal = e in cc)
then_tied Equal p e = e
then_tied Greater p e = absurd (let t : ◌≡◌ {A = Ordering} Greater Equal = e in cc)

exact_lists : (xs ys : List (List ℕ)) → slice_cmp (slice_cmp nat_cmp) xs ys ≡ Equal → xs ≡ ys
exact_lists [] [] tied = refl
exact_lists [] (y ∷ ys) tied = absurd (let t : ◌≡◌ {A = Ordering} Less Equal = tied in cc)
exact_lists (x ∷ xs) [] tied = absurd (let t : ◌≡◌ {A = Ordering} Greater Equal = tied in cc)
exact_lists (x ∷ xs) (y ∷ ys) tied =
    let first : x ≡ y = exact_bytes x y (first_tied (slice_cmp nat_cmp x y) (slice_cmp (slice_cmp nat_cmp) xs ys) tied) in
    let rest : xs ≡ ys = exact_lists xs ys (then_tied (slice_cmp nat_cmp x y) (slice_cmp (slice_cmp nat_cmp) xs ys) tied) in
    cc

pub same-equal : (es : List Element) (member i : List (List ℕ)) → against es member i ≡ Equal → member ≡ i
same-equal es member i tied =
    exact_lists member i (then_tied (nat_cmp (lo_of es i) (lo_of es member)) (slice_cmp (slice_cmp nat_cmp) member i) tied)

against-itself : (es : List Element) (i : List (List ℕ)) → against es i i ≡ Equal
against-itself es i =
    rw (tied_itself nat_cmp_total (lo_of es i)) (tied_itself (lists_total nat_list_cmp_total) i)

pub behind-greater : (es : List Element) (member i : List (List ℕ)) → against es member i ≡ Greater →
    stands_before es i member ≡ true
behind-greater es member i greater = cases (stands_before es i member) refl
  where
    cases : (r : Bool) → stands_before es i member ≡ r → stands_before es i member ≡ true
    cases true is = is
    cases false is =
        let other : stands_before es member i ≡ false = stands_before-is es member i ∙ ap is_lt greater in
        let same : member ≡ i = (stands_before-IsStrictOrder es).one member i other is in
        let tied : against es member i ≡ Equal =
        ap (λ (m : List (List ℕ)). against es m i) same ∙ against-itself es i in
        absurd (let t : ◌≡◌ {A = Ordering} Greater Equal = sym greater ∙ tied in cc)
