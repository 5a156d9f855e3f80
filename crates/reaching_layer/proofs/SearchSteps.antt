-- How the search for a cover goes on from layer to layer, and how it ends.
use Rattle.std.proofs.Common.{◌≡◌, ℕ, zero, suc, ◌+◌, ◌-◌, ◌<◌, ◌≤◌, Bool, true, false, cond, Option, Some, None}
use Rattle.std.proofs.Common.{Result, Ok, Err, List, ◌∷◌, map, refl, sym, ◌∙◌, ap, arith, ⊎_elim}
use Rattle.std.specs.Prelude.{◌||◌, find, unwrap_or}
use Rattle.std.specs.List.{range_with_len}
use Rattle.std.proofs.lemmas.Bool.{false≢true, le-leb, lt-leb, and_parts, or_left, or_right, or_from, eqb-true, ltb-true, cases_lt}
use Rattle.reader_answers.specs.Answers.{Gives}
use Rattle.multinomial_bounds.specs.Isotopologue.{Element}
use Rattle.isotopologue_sets.specs.Layers.{AreElements, lo_total, layer, layer_reaches, threshold_at, has_too_many, ends_search, last_threshold_for}
use Rattle.isotopologue_sets.specs.Coverage.{max_coverage}
use Rattle.isotopologue_sets.proofs.AllReach.{ends_search-zero}
use Rattle.isotopologue_sets.proofs.FirstThreshold.{threshold_at-falls, threshold_at-last, last_threshold_for-halved, last_threshold_for-first}
use Rattle.layered_envelope.specs.declared.fault.LayerFault.{LayerFault}
use Rattle.layered_envelope.specs.declared.fault.LayerFault.TheVariants as layer
use Rattle.layered_envelope.specs.declared.layer_end.LayerEnd.{LayerEnd}
use Rattle.layered_envelope.specs.Layerings.{Layering, last_threshold, next_threshold, are_all_given, layer_end, some_end, next_end, with_next}
use Rattle.layered_envelope.specs.Layerings.{is_memory as is_layer_memory}
use Rattle.reaching_layer.specs.Searches.{IsPast, IsReachingNumber, IsGuessed, EndsByFault}
use Rattle.reaching_layer.proofs.EarlierLayers.{earlier-few, earlier-short}
use Rattle.reaching_layer.specs.LayerAnswers.{of_layer_fault}

-- the first of some numbers that passes
find_first : (p : ℕ → Bool) (f : ℕ → ℕ) (from count k : ℕ) → k < count →
    ((j : ℕ) → j < k → p (f (from + j)) ≡ false) → p (f (from + k)) ≡ true →
    find p (map f (range_with_len from count)) ≡ Some (f (from + k))
find_first p f from zero k within before here = absurd (omega arith)
find_first p f from (suc count) zero within before here =
    let same : from + 0 ≡ from = omega arith in
    ap (λ (n : ℕ). find p (f n ∷ map f (range_with_len (from + 1) count))) (sym same)
    ∙ ap (λ b. cond b (Some (f (from + 0))) (find p (map f (range_with_len (from + 1) count)))) here
find_first p f from (suc count) (suc k) within before here =
    let same : from + 0 ≡ from = omega arith in
    let moved : (j : ℕ) → from + 1 + j ≡ from + suc j = λ j. omega arith in
    let fails : p (f from) ≡ false = rw same at (before 0 (omega arith)) in
    ap (λ b. cond b (Some (f from)) (find p (map f (range_with_len (from + 1) count)))) fails
    ∙ find_first p f (from + 1) count k (omega arith)
    (λ j h. ap (λ (n : ℕ). p (f n)) (moved j) ∙ before (suc j) (omega arith))
    (ap (λ (n : ℕ). p (f n)) (moved k) ∙ here)
    ∙ ap (λ (n : ℕ). Some (f n)) (moved k)

-- ---- what a next layer tells

abbrev answer : Bool → Bool → ℕ → LayerEnd → Result (Option LayerEnd) LayerFault
answer all many t end = cond all (Ok None) (some_end (cond many (Err (layer.TooMany t)) (Ok end)))

told_end : (all many : Bool) (t : ℕ) (end told : LayerEnd) → answer all many t end ≡ Ok (Some told) →
    (many ≡ false) × (told ≡ end)
told_end true many t end told is =
    absurd (let e : ◌≡◌ {A = Result (Option LayerEnd) LayerFault} (Ok None) (Ok (Some told)) = is in cc)
told_end false true t end told is =
    absurd (let e : ◌≡◌ {A = Result (Option LayerEnd) LayerFault} (Err (layer.TooMany t)) (Ok (Some told)) = is in cc)
told_end false false t end told is =
    let e : ◌≡◌ {A = Result (Option LayerEnd) LayerFault} (Ok (Some end)) (Ok (Some told)) = is in (refl, cc)

told_none : (all many : Bool) (t : ℕ) (end : LayerEnd) → answer all many t end ≡ Ok None → all ≡ true
told_none true many t end is = refl
told_none false true t end is =
    absurd (let e : ◌≡◌ {A = Result (Option LayerEnd) LayerFault} (Err (layer.TooMany t)) (Ok None) = is in cc)
told_none false false t end is =
    absurd (let e : ◌≡◌ {A = Result (Option LayerEnd) LayerFault} (Ok (Some end)) (Ok None) = is in cc)

told_many : (all many : Bool) (t told : ℕ) (end : LayerEnd) → answer all many t end ≡ Err (layer.TooMany told) →
    (many ≡ true) × (told ≡ t)
told_many true many t told end is =
    absurd (let e : ◌≡◌ {A = Result (Option LayerEnd) LayerFault} (Ok None) (Err (layer.TooMany told)) = is in cc)
told_many false true t told end is =
    let e : ◌≡◌ {A = Result (Option LayerEnd) LayerFault} (Err (layer.TooMany t)) (Err (layer.TooMany told)) = is in
    (refl, cc)
told_many false false t told end is =
    absurd (let e : ◌≡◌ {A = Result (Option LayerEnd) LayerFault} (Ok (Some end)) (Err (layer.TooMany told)) = is in cc)

-- ---- the search, of which `count` layers were given and ended it not

module _ (es : List Element) (ok : AreElements es) (coverage : ℕ) (most : coverage ≤ max_coverage) (count : ℕ)
    (before : (k : ℕ) → k < count → ends_search es coverage (threshold_at es k) ≡ false) where
  -- it ends at the 60th threshold at the latest
  pub never_all : 60 ≤ count → ⊥
  never_all all =
      false≢true (sym (before 59 (omega arith))
      ∙ ap (ends_search es coverage) (threshold_at-last es ok) ∙ ends_search-zero es ok coverage most)

  ends_here : count < 60 → ends_search es coverage (threshold_at es count) ≡ true →
      last_threshold_for es coverage ≡ threshold_at es count
  unfolding last_threshold_for
  ends_here within here =
      let same : 0 + count ≡ count = omega arith in
      ap (λ o. unwrap_or o 0)
      (find_first (ends_search es coverage) (threshold_at es) 0 60 count within
      (λ j h. let at : 0 + j ≡ j = omega arith in rw at (before j h)) (rw same here))
      ∙ ap (threshold_at es) same

  module _ (l : Layering) (is : l.elements ≡ es) (given : l.given ≡ count) where
    next_is : next_threshold l ≡ threshold_at es count
    next_is = rw (is, given) refl

    pub never_none : next_end l ≡ Ok None → ⊥
    never_none none =
        let all : are_all_given l ≡ true =
        told_none (are_all_given l) (has_too_many l.elements (next_threshold l)) (next_threshold l)
        (layer_end l.elements (next_threshold l)) none in
        let parts = and_parts _ _ all in
        let some : 0 < count = rw given at (ltb-true 0 l.given parts.0) in
        let last : threshold_at es (count - 1) ≡ 0 =
        rw (is, given) at (eqb-true (last_threshold l) 0 parts.1) in
        false≢true (sym (before (count - 1) (omega arith)) ∙ ap (ends_search es coverage) last
        ∙ ends_search-zero es ok coverage most)

    module _ (end : LayerEnd) (told : next_end l ≡ Ok (Some end)) where
      parts : (has_too_many es (threshold_at es count) ≡ false) × (end ≡ layer_end es (threshold_at es count))
      parts =
          rw (is, given) at
          (told_end (are_all_given l) (has_too_many l.elements (next_threshold l)) (next_threshold l)
          (layer_end l.elements (next_threshold l)) end told)

      pub reached : count < 60 → coverage ≤ end.lo_total → (new : Layering) → new ≡ with_next l (Some end) →
          IsPast es coverage new.given new
      reached within enough new after =
          let total : end.lo_total ≡ lo_total es (layer es (threshold_at es count)) = ap (λ e. e.lo_total) parts.1 in
          let many : new.given ≡ count + 1 = ap (λ x. x.given) after ∙ ap (λ (n : ℕ). n + 1) given in
          let back : new.given - 1 ≡ count = omega (arith, many) in
          record {
            elements_are = ap (λ x. x.elements) after ∙ is;
            some = omega (arith, many);
            first_given = omega arith;
            few_layers = omega (arith, many);
            before = λ k less. before k (omega (arith, many, less));
            reaches = rw back (omega (arith, total));
            few = rw back parts.0;
          }

      pub goes_on : end.lo_total < coverage → (k : ℕ) → k < count + 1 →
          ends_search es coverage (threshold_at es k) ≡ false
      goes_on short k within =
          let total : end.lo_total ≡ lo_total es (layer es (threshold_at es count)) = ap (λ e. e.lo_total) parts.1 in
          let t : ℕ = threshold_at es count in
          let here : layer_reaches es coverage t ≡ false =
          lt-leb coverage (lo_total es (layer es t)) (omega (arith, total)) in
          ⊎_elim
          (λ (less : k < count). before k less)
          (λ (more : count ≤ k).
          let same : k ≡ count = omega arith in
          rw same (ap (λ b. b || has_too_many es t) here ∙ parts.0))
          (cases_lt k count)

    pub faulty : count < 60 → (fault : LayerFault) →
        Gives {A = Option LayerEnd} is_layer_memory (Err fault) (next_end l) →
        EndsByFault es coverage (of_layer_fault fault)
    faulty within layer.Memory gives = tt
    faulty within (layer.TooMany t) gives =
        let both : (has_too_many l.elements (next_threshold l) ≡ true) × (t ≡ next_threshold l) =
        told_many (are_all_given l) (has_too_many l.elements (next_threshold l)) (next_threshold l) t
        (layer_end l.elements (next_threshold l)) gives in
        let many : has_too_many es (threshold_at es count) ≡ true = rw (is, given) at both.0 in
        let here : t ≡ threshold_at es count = both.1 ∙ next_is in
        let ends : last_threshold_for es coverage ≡ threshold_at es count =
        ends_here within (or_right (layer_reaches es coverage (threshold_at es count)) _ many) in
        (here ∙ sym ends, ap (has_too_many es) ends ∙ many)

-- ---- the search that begins at a later layer

module _ (es : List Element) (coverage number : ℕ) (few : has_too_many es (threshold_at es number) ≡ false) where
  -- where that hasn't the coverage, none up to it has
  pub none_yet : lo_total es (layer es (threshold_at es number)) < coverage → (k : ℕ) → k < number + 1 →
      ends_search es coverage (threshold_at es k) ≡ false
  none_yet short k within =
      earlier-short es (threshold_at es number) (threshold_at es k) (threshold_at-falls es k number (omega arith)) few
      coverage short

-- the layers that were guessed, where the search goes on
pub guessed-not_yet : (es : List Element) (coverage : ℕ) (layers : Layering) (total : ℕ) → IsGuessed es layers total →
    total < coverage → (k : ℕ) → k < layers.given → ends_search layers.elements coverage (threshold_at layers.elements k) ≡ false
guessed-not_yet es coverage layers total is short k within =
    let more : layers.given - 1 + 1 ≡ layers.given = omega arith in
    rw is.elements_are
    (none_yet es coverage (layers.given - 1) (is.few (omega arith))
    (omega (arith, is.total_is (omega arith), short)) k (omega (arith, more, within)))

-- and where it is past the reaching layer
pub guessed-past : (es : List Element) (coverage : ℕ) (layers : Layering) (total : ℕ) → IsGuessed es layers total →
    1 ≤ coverage → coverage ≤ total → IsPast es coverage 1 layers
guessed-past es coverage layers total is some enough =
    ⊎_elim
    (λ (later : 0 < layers.given).
    record {
      elements_are = is.elements_are;
      some = omega arith;
      first_given = omega (arith, later);
      few_layers = is.few_layers;
      before = λ k less. absurd (omega (arith, less));
      reaches = omega (arith, is.total_is later, enough);
      few = is.few later;
    })
    (λ (none : layers.given ≤ 0). absurd (omega (arith, is.none (omega (arith, none)), some, enough)))
    (cases_lt 0 layers.given)

module _ (es : List Element) (ok : AreElements es) (coverage : ℕ) (most : coverage ≤ max_coverage) (first : ℕ)
    (layers : Layering) (past : IsPast es coverage first layers) where
  ends : (t : ℕ) → coverage ≤ lo_total es (layer es t) → ends_search es coverage t ≡ true
  ends t enough = or_left (layer_reaches es coverage t) (has_too_many es t) (le-leb coverage (lo_total es (layer es t)) enough)

  pub past-few : has_too_many es (last_threshold_for es coverage) ≡ false
  past-few =
      let t : ℕ = threshold_at es (layers.given - 1) in
      let lower : t ≤ last_threshold_for es coverage =
      ⊎_elim
      (λ (less : last_threshold_for es coverage < t).
      absurd (false≢true (sym (last_threshold_for-first es ok coverage most (layers.given - 1) less) ∙ ends t past.reaches)))
      (λ (more : t ≤ last_threshold_for es coverage). more)
      (cases_lt (last_threshold_for es coverage) t) in
      earlier-few es t (last_threshold_for es coverage) lower past.few

  -- the number of a layer that was given, or is an earlier one
  module _ (number : ℕ) (from : 1 ≤ number) (to : number ≤ layers.given) where
    pub earlier-lower : threshold_at es (layers.given - 1) ≤ threshold_at es (number - 1)
    earlier-lower = threshold_at-falls es (number - 1) (layers.given - 1) (omega arith)

    few_here : has_too_many es (threshold_at es (number - 1)) ≡ false
    few_here =
        earlier-few es (threshold_at es (layers.given - 1)) (threshold_at es (number - 1)) earlier-lower past.few

    module _ (before : (k : ℕ) → k + 1 < number → ends_search es coverage (threshold_at es k) ≡ false) where
      pub reaching-number : coverage ≤ lo_total es (layer es (threshold_at es (number - 1))) →
          IsReachingNumber es coverage layers.given number
      reaching-number enough = record {
        some = from;
        within = to;
        is =
            ends_here es ok coverage most (number - 1) (λ k less. before k (omega arith))
            (omega (arith, past.few_layers)) (ends (threshold_at es (number - 1)) enough);
        few = few_here;
      }

      pub not_here : lo_total es (layer es (threshold_at es (number - 1))) < coverage → (k : ℕ) → k + 1 < number + 1 →
          ends_search es coverage (threshold_at es k) ≡ false
      not_here short k within =
          let t : ℕ = threshold_at es (number - 1) in
          ⊎_elim
          (λ (less : k + 1 < number). before k less)
          (λ (more : number ≤ k + 1).
          let same : k ≡ number - 1 = omega arith in
          rw same (or_from (layer_reaches es coverage t) (has_too_many es t) (lt-leb coverage (lo_total es (layer es t)) short) few_here))
          (cases_lt (k + 1) number)
