-- A threshold for a product that is rounded up after each factor, taken back factor by factor.
use Rattle.std.proofs.Common.{◌≡◌, ℕ, ◌+◌, ◌*◌, ◌<◌, ◌≤◌, List, [], ◌∷◌, length, get_or, take, fold, refl, sym, ◌∙◌, ap, subst, arith, All}
use Rattle.std.specs.Prelude.{◌↔◌}
use Rattle.std.proofs.Math.Nat.{mul_comm, mul-le-mul}
use Rattle.std.proofs.lemmas.List.{take_more, take_all}
use Rattle.std.proofs.lemmas.List.Elements.{All-head, All-tail, All-take}
use Rattle.std.proofs.lemmas.List.Sums.{fold_push}
use Rattle.multinomial_bounds.specs.Bounds.{certainty, ceiling_of}
use Rattle.multinomial_bounds.proofs.BoundLemmas.{ceiling_of-le}
use Rattle.sub_isotopologues.specs.SubIsotopologues.{product_with, raised}
use Rattle.sub_isotopologues.specs.Listings.{Listing}

pub raised-once : (p h : ℕ) → p ≤ certainty → h ≤ certainty → ceiling_of (p * h) certainty ≤ certainty
raised-once p h p_le h_le =
    ceiling_of-le (p * h) certainty certainty (omega arith) (mul-le-mul p_le h_le)

pub raised-most : (p : ℕ) (bounds : List ℕ) → p ≤ certainty → All (λ h. h ≤ certainty) bounds →
    raised p bounds ≤ certainty
unfolding raised
raised-most p [] p_le all = p_le
raised-most p (h ∷ bounds) p_le all =
    raised-most (ceiling_of (p * h) certainty) bounds
    (raised-once p h p_le (All-head (λ h. h ≤ certainty) h bounds all))
    (All-tail (λ h. h ≤ certainty) h bounds all)

pub product_with-is : (before : ℕ) (after : List ℕ) (hi : ℕ) →
    product_with before after hi ≡ raised (ceiling_of (before * hi) certainty) after
unfolding product_with raised
product_with-is before after hi = refl

-- the threshold of the first k factors that stands for that of all
abbrev pub Cuts : ℕ → List ℕ → ℕ → ℕ → Type 0
Cuts threshold after cut k =
    (p : ℕ) → p ≤ certainty → (threshold < raised p after) ↔ (cut < raised p (take k after))

pub Cuts-start : (threshold : ℕ) (after : List ℕ) → Cuts threshold after threshold (length after)
Cuts-start threshold after p le =
    let whole : take (length after) after ≡ after = take_all (length after) after (omega arith) in
    rw whole ((λ h. h), (λ h. h))

pub Cuts-more : (threshold : ℕ) (after : List ℕ) (cut cut' k : ℕ) → k < length after → All (λ h. h ≤ certainty) after →
    Cuts threshold after cut (k + 1) →
    ((hi : ℕ) → hi ≤ certainty → (cut < ceiling_of (hi * get_or after k 0) certainty) ↔ (cut' < hi)) →
    Cuts threshold after cut' k
unfolding raised
Cuts-more threshold after cut cut' k within all so_far factor p le =
    let front : ℕ = raised p (take k after) in
    let most : raised p (take k after) ≤ certainty =
    raised-most p (take k after) le (All-take (λ h. h ≤ certainty) k after all) in
    let last : raised p (take (k + 1) after) ≡ ceiling_of (raised p (take k after) * get_or after k 0) certainty =
    ap (raised p) (take_more after k 0 within)
    ∙ fold_push (λ product bound. ceiling_of (product * bound) certainty) p (take k after) (get_or after k 0) in
    let before : (threshold < raised p after) ↔ (cut < raised p (take (k + 1) after)) = so_far p le in
    let here : (cut < ceiling_of (raised p (take k after) * get_or after k 0) certainty) ↔
    (cut' < raised p (take k after)) =
    factor (raised p (take k after)) most in
    let joined : (threshold < raised p after) ↔
    (cut < ceiling_of (raised p (take k after) * get_or after k 0) certainty) =
    rw last at before in
    ((λ h. here.0 (joined.0 h)), (λ h. joined.1 (here.1 h)))

-- the threshold of no factor
pub Cuts-none : (threshold : ℕ) (after : List ℕ) (cut : ℕ) → Cuts threshold after cut 0 →
    (hi : ℕ) → hi ≤ certainty → (threshold < raised hi after) ↔ (cut < hi)
unfolding raised
Cuts-none threshold after cut so_far hi le = so_far hi le

-- the threshold of the bound that the others are multiplied with
pub cuts_with : (threshold before : ℕ) (after : List ℕ) (cut cut' : ℕ) → before ≤ certainty →
    ((hi : ℕ) → hi ≤ certainty → (threshold < raised hi after) ↔ (cut < hi)) →
    ((hi : ℕ) → hi ≤ certainty → (cut < ceiling_of (hi * before) certainty) ↔ (cut' < hi)) →
    (hi : ℕ) → hi ≤ certainty → (threshold < product_with before after hi) ↔ (cut' < hi)
cuts_with threshold before after cut cut' most later factor hi le =
    let turned : ceiling_of (hi * before) certainty ≡ ceiling_of (before * hi) certainty =
    ap (λ (n : ℕ). ceiling_of n certainty) (mul_comm hi before) in
    let here : (cut < ceiling_of (before * hi) certainty) ↔ (cut' < hi) = rw turned at (factor hi le) in
    let whole : (threshold < raised (ceiling_of (before * hi) certainty) after) ↔
    (cut < ceiling_of (before * hi) certainty) =
    later (ceiling_of (before * hi) certainty) (raised-once before hi most le) in
    rw (product_with-is before after hi) ((λ h. here.0 (whole.0 h)), (λ h. whole.1 (here.1 h)))

-- the same for a list, which is seen so
pub cuts_beside : (t later above : ℕ) (own seen : Listing) → own ≡ seen → own.before ≤ certainty →
    ((hi : ℕ) → hi ≤ certainty → (t < raised hi seen.after) ↔ (later < hi)) →
    ((hi : ℕ) → hi ≤ certainty → (later < ceiling_of (hi * own.before) certainty) ↔ (above < hi)) →
    (hi : ℕ) → hi ≤ certainty → (t < product_with own.before own.after hi) ↔ (above < hi)
cuts_beside t later above own seen is most cuts factor =
    cuts_with t own.before own.after later above most
    (subst (λ (l : Listing). (hi : ℕ) → hi ≤ certainty → (t < raised hi l.after) ↔ (later < hi)) (sym is) cuts)
    factor
