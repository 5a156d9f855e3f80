-- Minima of runs on end from those of shorter ones, and what they tell of the numbers that are reached.
use Rattle.std.proofs.Common.{◌≡◌, ℕ, suc, ◌+◌, ◌-◌, ◌*◌, ◌/◌, ◌%◌, ◌^◌, ◌<◌, ◌≤◌, min, List, [], ◌∷◌, ◌++◌, length}
use Rattle.std.proofs.Common.{get_or, Some, arith, subst, refl, sym, ap, ◌∙◌, inl, inr, Bool, true, false, if◌then◌else◌}
use Rattle.std.proofs.Common.{take, drop}
use Rattle.std.specs.Prelude.{slice_get}
use Rattle.std.specs.Bool.{OnTrue}
use Rattle.std.proofs.Math.Dec.{ltb, leb}
use Rattle.std.proofs.Math.Nat.{mod-eq_of_lt, pow-suc}
use Rattle.std.proofs.lemmas.Bool.{cases_Bool, cases_lt, ltb-true, ltb-false, leb-true, lt-ltb, le-ltb}
use Rattle.std.proofs.lemmas.List.{get_or_append_left, get_or_push}
use Rattle.std.proofs.lemmas.Option.{slice_get_read}
use Rattle.residue_table.specs.Rows.{AreRunMinima, AreSpans, IsLeastOf}
use Rattle.residue_table.specs.declared.spans.Spans.{Spans}
use Rattle.residue_table.proofs.LevelRows.{slice_get_push}
use Rattle.residue_table.proofs.RunMinima.{in_part}

-- of two parts that leave nothing out between them
pub least_of_two : (entries : List ℕ) (start stop from to a b : ℕ) → IsLeastOf entries start stop a →
    IsLeastOf entries from to b → start ≤ from → from ≤ stop → stop ≤ to → IsLeastOf entries start to (min a b)
least_of_two entries start stop from to a b first last before joined behind = elim (cases_lt b a) [
  | inl lt ↦ record {
    at_most = λ k k_from k_to within. elim (cases_lt k stop) [
      | inl here ↦ omega (arith, first.at_most k k_from here within)
      | inr later ↦ omega (arith, last.at_most k (omega arith) k_to within)
    ];
    place = last.place;
    from_start = omega (arith, last.from_start);
    to_stop = last.to_stop;
    within = last.within;
    at_least = omega (arith, last.at_least);
  }
  | inr ge ↦ record {
    at_most = λ k k_from k_to within. elim (cases_lt k stop) [
      | inl here ↦ omega (arith, first.at_most k k_from here within)
      | inr later ↦ omega (arith, last.at_most k (omega arith) k_to within)
    ];
    place = first.place;
    from_start = first.from_start;
    to_stop = omega (arith, first.to_stop);
    within = first.within;
    at_least = omega (arith, first.at_least);
  }
]

-- two spans of the longest power of two that fit
pub least_of_spans : (entries minima : List ℕ) (number start stop last : ℕ) → AreRunMinima entries number minima →
    number ≤ stop - start → stop - start < 2 * number → last ≡ stop - number → stop ≤ length minima →
    IsLeastOf entries (start * 16) (stop * 16) (min (get_or minima start 0) (get_or minima last 0))
least_of_spans entries minima number start stop last are fits longest is within =
    let end : last + number ≡ stop = omega (arith, is) in
    least_of_two entries (start * 16) ((start + number) * 16) (last * 16) (stop * 16) _ _ (are start (omega arith))
    (subst (λ (z : ℕ). IsLeastOf entries (last * 16) (z * 16) (get_or minima last 0)) end (are last (omega arith)))
    (omega arith) (omega arith) (omega arith)

-- spans twice as long
pub longer_spans : (entries minima longer : List ℕ) (number : ℕ) → AreRunMinima entries number minima →
    length entries ≤ 16 * length minima → length longer ≡ length minima →
    ((k : ℕ) → k < length minima → get_or longer k 0 ≡ (if ltb (k + number) (length minima)
    then min (get_or minima k 0) (get_or minima (k + number) 0) else get_or minima k 0)) →
    AreRunMinima entries (number + number) longer
longer_spans entries minima longer number are runs same is run within =
    let here : run < length minima = omega arith in
    let first = are run here in
    elim (cases_Bool (ltb (run + number) (length minima))) [
      | inl t ↦
          let value = rw t at (is run here) in
          let last = are (run + number) (ltb-true _ _ t) in
          let end : run + number + number ≡ run + (number + number) = omega arith in
          rw value
          (least_of_two entries (run * 16) ((run + number) * 16) ((run + number) * 16) ((run + (number + number)) * 16)
          _ _ first
          (subst (λ (z : ℕ). IsLeastOf entries ((run + number) * 16) (z * 16) (get_or minima (run + number) 0))
          end last)
          (omega arith) (omega arith) (omega arith))
      | inr f ↦
          let value = rw f at (is run here) in
          let past = ltb-false _ _ f in
          rw value record {
            at_most = λ k from to inside. first.at_most k from (omega (arith, past, inside)) inside;
            place = first.place;
            from_start = first.from_start;
            to_stop = omega (arith, first.to_stop);
            within = first.within;
            at_least = first.at_least;
          }
    ]

pub twice : (power : ℕ) → 2 ^ (power + 1) ≡ 2 ^ power + 2 ^ power
twice power = let one_more : power + 1 ≡ suc power = omega arith in rw one_more (omega (arith, pow-suc 2 power))

-- the spans of one power more
pub push_spans : (entries : List ℕ) (runs power : ℕ) (spans : List Spans) (s : Spans) → length spans ≡ power →
    AreSpans entries runs spans → length s.minima.items ≡ runs → AreRunMinima entries (2 ^ power) s.minima.items →
    AreSpans entries runs (spans ++ s ∷ [])
push_spans entries runs power spans s same are as_many minima place other e =
    elim (slice_get_push spans s other place e) [
      | inl h ↦ are place other h
      | inr h ↦
          let at_end : place ≡ power = h.0 ∙ same in
          subst (λ (z : Spans). (length z.minima.items ≡ runs) × AreRunMinima entries (2 ^ place) z.minima.items) h.1
          (as_many, rw at_end minima)
    ]

-- the minimum of one run more
pub push_minimum : (minima entries : List ℕ) (least run stop : ℕ) → length minima ≡ run →
    stop ≡ min (length entries) (run * 16 + 16) → run * 16 < length entries →
    ((k : ℕ) → k < run → IsLeastOf entries (k * 16) ((k + 1) * 16) (get_or minima k 0)) →
    ((j : ℕ) → j < stop - run * 16 → least ≤ get_or (take (stop - run * 16) (drop (run * 16) entries)) j 0) →
    ((j : ℕ) × (j < stop - run * 16) × (get_or (take (stop - run * 16) (drop (run * 16) entries)) j 0 ≤ least)) →
    (k : ℕ) → k < run + 1 → IsLeastOf entries (k * 16) ((k + 1) * 16) (get_or (minima ++ least ∷ []) k 0)
push_minimum minima entries least run stop same is_stop some before here one k less = elim (cases_lt k run) [
  | inl lt ↦ rw (get_or_append_left minima (least ∷ []) 0 k (omega arith)) (before k lt)
  | inr ge ↦
      let last : k ≡ run = omega arith in
      rw (last, get_or_push minima least 0 run same) record {
        at_most = λ e from to within.
            let j = e - run * 16 in
            let j_less : j < stop - run * 16 = omega (arith, is_stop) in
            let place : run * 16 + j ≡ e = omega arith in
            let part = rw (in_part entries (run * 16) (stop - run * 16) j j_less, place) at (here j j_less) in
            part;
        place = run * 16 + one.0;
        from_start = omega arith;
        to_stop = omega (arith, one.1, is_stop);
        within = omega (arith, one.1, is_stop);
        at_least = rw (in_part entries (run * 16) (stop - run * 16) one.0 one.1) at one.2;
      }
]

pub on_less : {P : Type 0} → (a b : ℕ) → (a < b → P) → OnTrue (ltb a b) P
on_less a b h = elim (cases_Bool (ltb a b)) [ inl t ↦ rw t (h (ltb-true a b t)) | inr f ↦ rw f tt ]

pub on_at_most : {P : Type 0} → (a b : ℕ) → (a ≤ b → P) → OnTrue (leb a b) P
on_at_most a b h = elim (cases_Bool (leb a b)) [ inl t ↦ rw t (h (leb-true a b t)) | inr f ↦ rw f tt ]

pub shifted : (power most : ℕ) → 2 ^ power ≤ most → most < 18446744073709551616 →
    1 * 2 ^ power % 18446744073709551616 ≡ 2 ^ power
shifted power most fits small =
    let one : 1 * 2 ^ power ≡ 2 ^ power = omega arith in
    rw one (mod-eq_of_lt (omega arith))

-- the spans of a power of two, as the code reads them from all
pub spans_at : (entries : List ℕ) (runs power : ℕ) (all spans : List Spans) (s : Spans) → AreSpans entries runs all →
    spans ≡ all → true ≡ ltb power (length spans) → s ≡ get_or spans power s →
    (length s.minima.items ≡ runs) × AreRunMinima entries (2 ^ power) s.minima.items
spans_at entries runs power all spans s are same within is =
    are power s
    (rw (← same) (slice_get_read spans (length spans) power s refl (ltb-true power (length spans) (sym within)) is))
