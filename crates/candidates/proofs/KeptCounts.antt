-- Count lists of equal length that are kept end to end.
use Rattle.std.proofs.Common.{◌≡◌, ℕ, zero, suc, ◌+◌, ◌*◌, ◌<◌, ◌≤◌, List, [], ◌∷◌, ◌++◌, length, take, drop, get_or, refl, sym, ap, ◌∙◌, subst, arith}
use Rattle.std.specs.Prelude.{Option, Some, None, IfSome, IsSomeAnd}
use Rattle.std.proofs.lemmas.List.{append_assoc, length-append, length-drop, length-take-le, take-append-le, drop-append-le, drop-drop, take_all}
use Rattle.std.proofs.lemmas.Nat.{mul-le}
use Rattle.std.proofs.Math.Nat.{suc-mul}
use Rattle.std.specs.Prelude.{All}
use Rattle.decompose.specs.CountLists.{IsInBox, IsLimit}
use Rattle.decompose.specs.declared.limits.Limit.{Limit}
use Rattle.candidates.specs.declared.count_lists.TheConstants.{MAX_KEPT_COUNT}
use Rattle.candidates.specs.Grounds.{GroundValue, IsGround}
use Rattle.candidates.specs.KeptLists.{lists_in}
use Rattle.candidates.specs.PeakFormulas.{limits_of}
use Rattle.candidates.specs.Standings.{IsToken}
use Rattle.candidates.proofs.AlphabetMasses.{are_limits}

pub length-lists_in : (n w : ℕ) (xs : List ℕ) → length (lists_in n w xs) ≡ n
length-lists_in zero w xs = refl
length-lists_in (suc n) w xs = ap suc (length-lists_in n w (drop w xs))

-- one more list
pub lists_in-more : (n w : ℕ) (xs cs : List ℕ) → length xs ≡ n * w → length cs ≡ w
    → lists_in (suc n) w (xs ++ cs) ≡ lists_in n w xs ++ cs ∷ []
lists_in-more zero w [] cs size one = ap (λ l. l ∷ []) (take_all w cs (omega (arith, one)))
lists_in-more zero w (x ∷ xs) cs size one = absurd (omega (arith, size))
lists_in-more (suc n) w xs cs size one =
    let all = suc-mul n w in
    let inside : w ≤ length xs = omega (arith, size, all) in
    let rest : length (drop w xs) ≡ n * w = omega (arith, length-drop w xs, size, all) in
    ap (λ l. l ∷ lists_in (suc n) w (drop w (xs ++ cs))) (take-append-le w xs cs inside)
    ∙ ap (λ l. take w xs ∷ lists_in (suc n) w l) (drop-append-le w xs cs inside)
    ∙ ap (λ l. take w xs ∷ l) (lists_in-more n w (drop w xs) cs rest one)

-- the list at a place
pub lists_in-at : (n w k : ℕ) (xs : List ℕ) → k < n → take w (drop (k * w) xs) ≡ get_or (lists_in n w xs) k []
lists_in-at zero w k xs inside = absurd (omega (arith, inside))
lists_in-at (suc n) w zero xs inside = let none : 0 * w ≡ 0 = omega arith in ap (λ m. take w (drop m xs)) none
lists_in-at (suc n) w (suc k) xs inside =
    let start : suc k * w ≡ w + k * w = omega (arith, suc-mul k w) in
    ap (λ m. take w (drop m xs)) start
    ∙ ap (take w) (sym (drop-drop (k * w) w xs))
    ∙ lists_in-at n w k (drop w xs) (omega (arith, inside))

-- it ends within the counts
pub lists_in-inside : (n w k : ℕ) → k < n → k * w + w ≤ n * w
lists_in-inside n w k inside =
    let most = mul-le (suc k) w n w (omega (arith, inside)) (omega arith) in
    omega (arith, most, suc-mul k w)

-- ---- what an enumeration has kept, and what it has left

-- it has gone on over one more
pub passes-one : (all kept left next : List (List ℕ)) (given : Option (List ℕ)) → all ≡ kept ++ left
    → IsSomeAnd given (λ counts. left ≡ counts ∷ next)
    → (counts : List ℕ) × (given ≡ Some counts) × (all ≡ (kept ++ counts ∷ []) ++ next)
passes-one all kept left next None parts is = absurd is
passes-one all kept left next (Some counts) parts is = (
  counts,
  refl,
  parts ∙ ap (λ l. kept ++ l) is ∙ sym (append_assoc kept (counts ∷ []) next),
)

-- and kept it
pub keeps-one : (all left next : List (List ℕ)) (given : Option (List ℕ)) (n w : ℕ) (kept last : List ℕ)
    → all ≡ lists_in n w kept ++ left → IsSomeAnd given (λ counts. left ≡ counts ∷ next) → length kept ≡ n * w
    → length last ≡ w → IfSome given (λ counts. last ≡ counts)
    → all ≡ lists_in (n + 1) w (kept ++ last) ++ next
keeps-one all left next given n w kept last parts is size one of_last =
    let passed = passes-one all (lists_in n w kept) left next given parts is in
    let same : last ≡ passed.0 = subst (λ o. IfSome o (λ counts. last ≡ counts)) passed.1 of_last in
    let more : suc n ≡ n + 1 = omega arith in
    passed.2 ∙ ap (λ cs. (lists_in n w kept ++ cs ∷ []) ++ next) (sym same)
    ∙ ap (λ l. l ++ next) (sym (lists_in-more n w kept last size one))
    ∙ ap (λ m. lists_in m w (kept ++ last) ++ next) more

pub number-kept : (all left : List (List ℕ)) (n w : ℕ) (kept : List ℕ) → all ≡ lists_in n w kept ++ left
    → length all ≡ n + length left
number-kept all left n w kept parts =
    let whole : length all ≡ length (lists_in n w kept ++ left) = ap (λ (l : List (List ℕ)). length l) parts in
    omega (arith, whole, length-append (lists_in n w kept) left, length-lists_in n w kept)

pub number-passed : (left next : List (List ℕ)) (given : Option (List ℕ)) → IsSomeAnd given (λ counts. left ≡ counts ∷ next)
    → length left ≡ length next + 1
number-passed left next None is = absurd is
number-passed left next (Some counts) is =
    let whole : length left ≡ length (counts ∷ next) = ap (λ (l : List (List ℕ)). length l) is in omega (arith, whole)

-- each of the lists has this length
pub lists_in-length : (n w k : ℕ) (xs d : List ℕ) → length xs ≡ n * w → k < n → length (get_or (lists_in n w xs) k d) ≡ w
lists_in-length zero w k xs d size inside = absurd (omega arith)
lists_in-length (suc n) w zero xs d size inside =
    let all = suc-mul n w in
    length-take-le w xs (omega (arith, size, all))
lists_in-length (suc n) w (suc k) xs d size inside =
    let all = suc-mul n w in
    let rest : length (drop w xs) ≡ n * w = omega (arith, length-drop w xs, size, all) in
    lists_in-length n w k (drop w xs) d rest (omega arith)

-- ---- counts of a box are few enough to be kept

few_at : (limits : List Limit) (counts : List ℕ) (k d : ℕ) → All IsLimit limits → IsInBox limits counts →
    k < length counts → get_or counts k d ≤ MAX_KEPT_COUNT
few_at [] [] k d ok box h = absurd (omega arith)
few_at [] (c ∷ cs) k d ok box h = absurd box
few_at (l ∷ ls) [] k d ok box h = absurd box
few_at (l ∷ ls) (c ∷ cs) zero d ok box h = omega (arith, box.1, (ok 0 l (omega arith)).bounded)
few_at (l ∷ ls) (c ∷ cs) (suc k) d ok box h =
    few_at ls cs k d (λ j e w. ok (suc j) e (omega arith)) box.2 (omega arith)

pub few_given : (premises : GroundValue) (given : Option (List ℕ)) → IsGround premises →
    IfSome given (IsToken premises) → IfSome given (All (λ count. count ≤ MAX_KEPT_COUNT))
few_given premises None ground token = tt
few_given premises (Some counts) ground token =
    λ k d h. few_at (limits_of premises.alphabet) counts k d (are_limits premises.alphabet ground.is_alphabet)
    token.in_box h

pub few_last : (given : Option (List ℕ)) (last : List ℕ) (next all : List (List ℕ)) →
    IsSomeAnd given (λ counts. all ≡ counts ∷ next) → IfSome given (λ counts. last ≡ counts) →
    IfSome given (All (λ count. count ≤ MAX_KEPT_COUNT)) → All (λ count. count ≤ MAX_KEPT_COUNT) last
few_last None last next all some is few = absurd some
few_last (Some counts) last next all some is few = rw is few
