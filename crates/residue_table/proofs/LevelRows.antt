-- The rows of the levels, from that of the last mass alone on.
use Rattle.std.proofs.Common.{◌≡◌, ◌≢◌, ℕ, zero, suc, ◌+◌, ◌-◌, ◌/◌, ◌%◌, ◌<◌, ◌≤◌, List, [], ◌∷◌, ◌++◌, length, get_or}
use Rattle.std.proofs.Common.{take, drop, replicate, Some, ap, arith, subst, sym, refl, ◌∙◌, ◌⊎◌, inl, inr}
use Rattle.std.specs.Prelude.{slice_get}
use Rattle.std.proofs.Math.ListN.{set, get_or-eq_default}
use Rattle.std.proofs.Math.Seq.{drop-cons}
use Rattle.std.proofs.lemmas.Bool.{cases_eq, cases_lt}
use Rattle.std.proofs.lemmas.List.{append-nil, drop_all, get_or-set_other, get_or-set_same, length-set, take_all}
use Rattle.std.proofs.Math.Nat.{mod-eq_of_lt}
use Rattle.std.proofs.lemmas.Nat.{div-add-mod', mod-mul-add, mod_below}
use Rattle.std.proofs.lemmas.Option.{slice_get_read}
use Rattle.std.proofs.lemmas.Simd.{get_or-replicate, length-replicate}
use Rattle.residue_table.specs.Sums.{IsSum, Reaches, modulus_of}
use Rattle.residue_table.specs.Rows.{AreRows, IsIndexed, IsRow}
use Rattle.residue_table.proofs.CarriedRows.{zero_sum}
use Rattle.residue_table.specs.declared.rows.Row.{Row}
use Rattle.residue_table.specs.declared.rows.TheConstants.{UNREACHED}

-- a level has one mass more than the one before
pub one_level_more : (masses : List ℕ) (level : ℕ) → level < length masses →
    drop (length masses - (level + 1)) masses
    ≡ get_or masses (length masses - 1 - level) 0 ∷ drop (length masses - level) masses
one_level_more masses level less =
    let place = length masses - (level + 1) in
    let next : suc place ≡ length masses - level = omega arith in
    let same : place ≡ length masses - 1 - level = omega arith in
    drop-cons masses place 0 (omega arith)
    ∙ ap (λ (z : ℕ). get_or masses place 0 ∷ drop z masses) next
    ∙ ap (λ (z : ℕ). get_or masses z 0 ∷ drop (length masses - level) masses) same

-- the first level has the last mass alone
pub first_level : (masses : List ℕ) → 1 ≤ length masses → drop (length masses - 1) masses ≡ modulus_of masses ∷ []
first_level masses some =
    drop-cons masses (length masses - 1) 0 (omega arith)
    ∙ ap (λ (z : List ℕ). modulus_of masses ∷ z) (drop_all (suc (length masses - 1)) masses (omega arith))

replicate_limited : (modulus k : ℕ) → get_or (replicate modulus UNREACHED) k 0 ≤ UNREACHED
replicate_limited modulus k = elim (cases_lt k modulus) [
  | inl lt ↦ omega (arith, get_or-replicate modulus k UNREACHED 0 lt)
  | inr ge ↦
      let few : length (replicate modulus UNREACHED) ≤ k = omega (arith, length-replicate modulus UNREACHED) in
      omega (arith, get_or-eq_default (replicate modulus UNREACHED) 0 few)
]

-- the row of the last mass alone: 0 for its multiples, and no other residue is reached
module _ (modulus : ℕ) (some : 1 ≤ modulus) where
  row_length : length (set (replicate modulus UNREACHED) 0 0) ≡ modulus
  row_length = length-set (replicate modulus UNREACHED) 0 0 ∙ length-replicate modulus UNREACHED

  pub at_zero : get_or (set (replicate modulus UNREACHED) 0 0) 0 0 ≡ 0
  at_zero =
      let room : 0 < length (replicate modulus UNREACHED) = omega (arith, length-replicate modulus UNREACHED) in
      get_or-set_same (replicate modulus UNREACHED) 0 0 0 room

  elsewhere : (k : ℕ) → k ≢ 0 → k < modulus → get_or (set (replicate modulus UNREACHED) 0 0) k 0 ≡ UNREACHED
  elsewhere k ne less =
      get_or-set_other (replicate modulus UNREACHED) 0 k 0 0 ne ∙ get_or-replicate modulus k UNREACHED 0 less

  pub last_row : IsRow (modulus ∷ []) (set (replicate modulus UNREACHED) 0 0)
  last_row = record {
    limited = λ k. elim (cases_eq k 0) [
      | inl e ↦ rw e (omega (arith, at_zero))
      | inr ne ↦ rw (get_or-set_other (replicate modulus UNREACHED) 0 k 0 0 ne) (replicate_limited modulus k)
    ];
    sound = λ value small reached.
        let here = rw row_length at reached in
        elim (cases_eq (value % modulus) 0) [
          | inl e ↦ (value / modulus, 0, omega (arith, div-add-mod' value modulus, e), refl)
          | inr ne ↦ absurd
              (omega (arith, here, small, elsewhere (value % modulus) ne (mod_below value modulus some)))
        ];
    complete = λ value s.
        let multiple : value % modulus ≡ 0 =
        ap (λ (z : ℕ). z % modulus) (omega (arith, s.2, s.3)) ∙ mod-mul-add s.0 modulus 0 some in
        rw (row_length, multiple) (omega (arith, at_zero));
  }

pub slice_get_push : {X : Type 0} (xs : List X) (y x : X) (place : ℕ) → slice_get (xs ++ y ∷ []) place ≡ Some x →
    (slice_get xs place ≡ Some x) ⊎ ((place ≡ length xs) × (y ≡ x))
slice_get_push [] y x zero e = inr (refl, cc)
slice_get_push [] y x (suc place) e = absurd (cc)
slice_get_push (z ∷ zs) y x zero e = inl e
slice_get_push (z ∷ zs) y x (suc place) e = elim (slice_get_push zs y x place e) [
  | inl h ↦ inl h
  | inr h ↦ inr (omega (arith, h.0), h.1)
]

-- one row more
pub push_row : (masses : List ℕ) (rows : List Row) (row : Row) → AreRows masses rows → IsIndexed row →
    length row.entries.items ≡ modulus_of masses →
    IsRow (drop (length masses - (length rows + 1)) masses) row.entries.items → AreRows masses (rows ++ row ∷ [])
push_row masses rows row are indexed same is = record {
  indexed = λ place r e. elim (slice_get_push rows row r place e) [
    | inl h ↦ are.indexed place r h
    | inr h ↦ subst (λ (z : Row). IsIndexed z) h.1 indexed
  ];
  lengths = λ place r e. elim (slice_get_push rows row r place e) [
    | inl h ↦ are.lengths place r h
    | inr h ↦ subst (λ (z : Row). length z.entries.items ≡ modulus_of masses) h.1 same
  ];
  sums = λ place r e. elim (slice_get_push rows row r place e) [
    | inl h ↦ are.sums place r h
    | inr h ↦
        rw h.0
        (subst (λ (z : Row). IsRow (drop (length masses - (length rows + 1)) masses) z.entries.items) h.1 is)
  ];
}

-- what a vector holds after a slice of it, all of it, was written
pub written : (xs ys : List ℕ) (n : ℕ) → n ≡ length ys → length xs ≡ length ys →
    take n (xs ++ drop (length xs) ys) ≡ xs
written xs ys n is_n same =
    rw (drop_all (length xs) ys (omega (arith, same)), append-nil xs) (take_all n xs (omega (arith, is_n, same)))

-- 0 is reached by each level
pub zero_entry : (masses entries : List ℕ) → IsRow masses entries → 1 ≤ length entries → get_or entries 0 0 ≡ 0
zero_entry masses entries row some =
    let none : 0 % length entries ≡ 0 = mod-eq_of_lt some in
    omega (arith, rw none at (row.complete 0 (zero_sum masses)))

-- level 0 reaches 0
pub none_reach_zero : (masses : List ℕ) (level : ℕ) → level ≡ 0 → Reaches masses level 0
none_reach_zero masses level e =
    subst (λ (ms : List ℕ). IsSum ms 0) (sym (drop_all (length masses - level) masses (omega arith))) refl

-- the row of a level, as the code reads it from the rows
module _ (masses : List ℕ) (rows : List Row) (are : AreRows masses rows) (same : length rows ≡ length masses)
    (level : ℕ) (row : Row) (some : level ≢ 0) (within : level ≤ length masses)
    (is : row ≡ get_or rows (level - 1) row) where
  here : slice_get rows (level - 1) ≡ Some row
  here = slice_get_read rows (length rows) (level - 1) row refl (omega (arith, some, within, same)) is

  pub level_indexed : IsIndexed row
  level_indexed = are.indexed (level - 1) row here

  pub level_length : length row.entries.items ≡ modulus_of masses
  level_length = are.lengths (level - 1) row here

  pub level_row : IsRow (drop (length masses - level) masses) row.entries.items
  level_row =
      let at_level : level - 1 + 1 ≡ level = omega arith in
      subst (λ (n : ℕ). IsRow (drop (length masses - n) masses) row.entries.items) at_level
      (are.sums (level - 1) row here)
