-- The lines of a page, formula by formula, and of peaks, one by one.
use Rattle.std.proofs.Common.{◌≡◌, ℕ, zero, suc, ◌+◌, ◌-◌, ◌<◌, List, [], ◌∷◌, ◌++◌, length, take, drop, get_or, refl, sym, ap, ◌∙◌, arith}
use Rattle.std.specs.Prelude.{Option, Some, None, IsSomeAnd}
use Rattle.std.specs.Option.{option_map_or}
use Rattle.std.proofs.lemmas.List.{append_assoc, take_more, drop_more, take-append-drop}
use Rattle.std.proofs.lemmas.List.FromFn.{get_or-enumerate_from, length-enumerate_from}
use Rattle.candidates.specs.Enumeration.{CandidateEnumeration}
use Rattle.candidates.specs.Grounds.{GroundValue}
use Rattle.candidates.specs.Lines.{given_line, line_at}
use Rattle.formula_reports.specs.PageFormulas.{first_of, numbered, one_less}

-- there is a value
pub there : {T : Type 0} (o : Option T) (P : T → Type 0) → IsSomeAnd o P → (x : T) × (o ≡ Some x) × P x
there None P h = absurd h
there (Some x) P h = (x, refl, h)

-- the first of a page, and the rest of it
pub first_of_next : {X : Type 0} (most : Option ℕ) (x : X) (rest : List X) → (most ≡ Some 0 → ⊥) →
    first_of most (x ∷ rest) ≡ x ∷ first_of (one_less most) rest
first_of_next None x rest some = refl
first_of_next (Some zero) x rest some = absurd (some refl)
first_of_next (Some (suc n)) x rest some =
    let less : n ≡ suc n - 1 = omega arith in ap (λ (m : ℕ). x ∷ take m rest) less

-- what is done and the rest of a page are the page
pub page_parts : {X : Type 0} (done left rest all : List X) (most : Option ℕ) (x : X) → left ≡ x ∷ rest →
    (most ≡ Some 0 → ⊥) → done ++ first_of most left ≡ all → done ++ x ∷ first_of (one_less most) rest ≡ all
page_parts done left rest all most x is some parts =
    ap (λ l. done ++ l) (sym (first_of_next most x rest some)) ∙ ap (λ l. done ++ first_of most l) (sym is) ∙ parts

pub page_next : {X : Type 0} (done left rest all : List X) (most : Option ℕ) (x : X) → left ≡ x ∷ rest →
    (most ≡ Some 0 → ⊥) → done ++ first_of most left ≡ all → (done ++ x ∷ []) ++ first_of (one_less most) rest ≡ all
page_next done left rest all most x is some parts =
    append_assoc done (x ∷ []) (first_of (one_less most) rest) ∙ page_parts done left rest all most x is some parts

-- the line of the candidate given last
pub given_line-is : (e : CandidateEnumeration) (premises : GroundValue) (mz : ℕ) (counts : List ℕ) →
    e.premises ≡ premises → e.mz ≡ mz → e.given ≡ Some counts → given_line e ≡ line_at premises mz counts
given_line-is e premises mz counts of_premises of_mz given =
    ap (λ (o : Option (List ℕ)). option_map_or (line_at e.premises e.mz) o []) given
    ∙ ap (λ (p : GroundValue). line_at p e.mz counts) of_premises
    ∙ ap (λ (m : ℕ). line_at premises m counts) of_mz

-- one more peak
entry_at : (mzs : List ℕ) (i : ℕ) → i < length mzs → get_or (numbered mzs) i (0, 0) ≡ (i + 1, get_or mzs i 0)
entry_at mzs i inside =
    get_or-enumerate_from 1 mzs i (0, 0) inside ∙ ap (λ (n : ℕ). (n, get_or mzs i 0)) (omega arith)

pub numbered_more : (mzs : List ℕ) (i : ℕ) → i < length mzs →
    take i (numbered mzs) ++ (i + 1, get_or mzs i 0) ∷ [] ≡ take (i + 1) (numbered mzs)
numbered_more mzs i inside =
    ap (λ (p : ℕ × ℕ). take i (numbered mzs) ++ p ∷ []) (sym (entry_at mzs i inside))
    ∙ sym (take_more (numbered mzs) i (0, 0) (omega (arith, inside, length-enumerate_from 1 mzs)))

-- the peaks done, one more, and the rest
pub numbered_parts : (mzs : List ℕ) (i : ℕ) → i < length mzs →
    take i (numbered mzs) ++ (i + 1, get_or mzs i 0) ∷ drop (i + 1) (numbered mzs) ≡ numbered mzs
numbered_parts mzs i inside =
    ap (λ (p : ℕ × ℕ). take i (numbered mzs) ++ p ∷ drop (i + 1) (numbered mzs)) (sym (entry_at mzs i inside))
    ∙ ap (λ l. take i (numbered mzs) ++ l)
    (sym (drop_more (numbered mzs) i (0, 0) (omega (arith, inside, length-enumerate_from 1 mzs))))
    ∙ take-append-drop i (numbered mzs)
