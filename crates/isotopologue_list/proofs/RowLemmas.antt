-- Counts that stand end to end, and the enclosures beside them.
use Rattle.std.proofs.Common.{◌≡◌, ℕ, zero, suc, ◌+◌, ◌*◌, ◌<◌, ◌≤◌, List, [], ◌∷◌, ◌++◌, map, length, take, drop}
use Rattle.std.proofs.Common.{get_or, refl, sym, ◌∙◌, ap, arith, All, length-append}
use Rattle.std.specs.Prelude.{flat_map}
use Rattle.std.proofs.lemmas.List.{length-map, drop-drop, get_or-map}
use Rattle.std.proofs.Math.Nat.{mul-le-mul_right}
use Rattle.std.proofs.Math.Seq.{take-append_seam, drop-append_seam}
use Rattle.std.proofs.lemmas.List.Elements.{All-head, All-tail}
use Rattle.multinomial_bounds.specs.Weight.{IsCounts}
use Rattle.isotopologue_list.specs.Listed.{BoundedCounts, bounded_counts}
use Rattle.isotopologue_list.specs.ListedParts.{ends_of_counts, rows}

-- the rows of all counts
pub rows-end_to_end : (ws : List ℕ) (n : ℕ) (cs : List (List ℕ)) → All (IsCounts ws n) cs →
    rows (length ws) (flat_map (λ c. c) cs) (map (ends_of_counts ws) cs) ≡ map (bounded_counts ws) cs
unfolding rows bounded_counts
rows-end_to_end ws n [] all = refl
rows-end_to_end ws n (c ∷ cs) all =
    let is : IsCounts ws n c = All-head (IsCounts ws n) c cs all in
    let q : length ws ≡ length c = sym is.places_agree in
    let t : take (length ws) (c ++ flat_map (λ x. x) cs) ≡ c =
    ap (λ (k : ℕ). take k (c ++ flat_map (λ x. x) cs)) q ∙ take-append_seam c (flat_map (λ x. x) cs) in
    let d : drop (length ws) (c ++ flat_map (λ x. x) cs) ≡ flat_map (λ x. x) cs =
    ap (λ (k : ℕ). drop k (c ++ flat_map (λ x. x) cs)) q ∙ drop-append_seam c (flat_map (λ x. x) cs) in
    rw (t, d, rows-end_to_end ws n cs (All-tail (IsCounts ws n) c cs all)) refl

pub length-end_to_end : (ws : List ℕ) (n : ℕ) (cs : List (List ℕ)) → All (IsCounts ws n) cs →
    length (flat_map (λ c. c) cs) ≡ length cs * length ws
length-end_to_end ws n [] all = omega arith
length-end_to_end ws n (c ∷ cs) all =
    let is : IsCounts ws n c = All-head (IsCounts ws n) c cs all in
    let rest : length (flat_map (λ x. x) cs) ≡ length cs * length ws =
    length-end_to_end ws n cs (All-tail (IsCounts ws n) c cs all) in
    length-append c (flat_map (λ x. x) cs) ∙ omega (arith, is.places_agree, rest)

pub length-rows : (q : ℕ) (flat : List ℕ) (es : List (ℕ × ℕ)) → length (rows q flat es) ≡ length es
unfolding rows
length-rows q flat [] = refl
length-rows q flat (e ∷ es) = ap suc (length-rows q (drop q flat) es)

pub get_or-rows : (q : ℕ) (flat : List ℕ) (es : List (ℕ × ℕ)) (k : ℕ) (d : BoundedCounts) → k < length es →
    get_or (rows q flat es) k d
    ≡ record { counts = take q (drop (k * q) flat); lo = (get_or es k (0, 0)).0; hi = (get_or es k (0, 0)).1 }
unfolding rows
get_or-rows q flat [] k d within = absurd (omega arith)
get_or-rows q flat (e ∷ es) zero d within =
    let none : 0 * q ≡ 0 = omega arith in
    rw none refl
get_or-rows q flat (e ∷ es) (suc k) d within =
    let more : suc k * q ≡ q + k * q = omega arith in
    rw (more, ← drop-drop (k * q) q flat) (get_or-rows q (drop q flat) es k d (omega arith))

-- the same of rows whose enclosures stand as records
module _ {E : Type 0} (lo hi : E → ℕ) (q : ℕ) (flat : List ℕ) (es : List E) where
  pub length-kept : length (rows q flat (map {B = ℕ × ℕ} (λ e. (lo e, hi e)) es)) ≡ length es
  length-kept = length-rows q flat (map {B = ℕ × ℕ} (λ e. (lo e, hi e)) es) ∙ length-map {B = ℕ × ℕ} es (λ e. (lo e, hi e))

  pub kept : (k : ℕ) (d : BoundedCounts) (e : E) → k < length es →
      get_or (rows q flat (map {B = ℕ × ℕ} (λ e. (lo e, hi e)) es)) k d
      ≡ record { counts = take q (drop (k * q) flat); lo = lo (get_or es k e); hi = hi (get_or es k e) }
  kept k d e within =
      let inside : k < length (map {B = ℕ × ℕ} (λ e. (lo e, hi e)) es) = rw (length-map {B = ℕ × ℕ} es (λ e. (lo e, hi e))) within in
      let item : get_or (map {B = ℕ × ℕ} (λ e. (lo e, hi e)) es) k (0, 0) ≡ (lo (get_or es k e), hi (get_or es k e)) =
      get_or-map {Y = ℕ × ℕ} (λ e. (lo e, hi e)) es k e (0, 0) within in
      get_or-rows q flat (map {B = ℕ × ℕ} (λ e. (lo e, hi e)) es) k d inside
      ∙ ap (λ (p : ℕ × ℕ). let r : BoundedCounts = record { counts = take q (drop (k * q) flat); lo = p.0; hi = p.1 } in r) item

  pub kept_counts : (k : ℕ) (d : BoundedCounts) → k < length es →
      (get_or (rows q flat (map {B = ℕ × ℕ} (λ e. (lo e, hi e)) es)) k d).counts ≡ take q (drop (k * q) flat)
  kept_counts k d within =
      let inside : k < length (map {B = ℕ × ℕ} (λ e. (lo e, hi e)) es) = rw (length-map {B = ℕ × ℕ} es (λ e. (lo e, hi e))) within in
      ap (λ r. r.counts) (get_or-rows q flat (map {B = ℕ × ℕ} (λ e. (lo e, hi e)) es) k d inside)

-- a row ends within the counts
pub row_within : (k n q : ℕ) → k < n → k * q + q ≤ n * q
row_within k n q within =
    let more : (k + 1) * q ≤ n * q = mul-le-mul_right q (omega arith) in
    omega (arith, more)
