-- A layer that was counted from the one before it.
use Rattle.std.proofs.Common.{◌≡◌, ℕ, ◌+◌, ◌<◌, ◌≤◌, ltb, Bool, true, false, List, length, Result, Ok, Err, refl, sym, ◌∙◌, ap, arith, ⊎_elim}
use Rattle.std.specs.Prelude.{sum_by, if◌then◌else◌}
use Rattle.std.proofs.lemmas.Bool.{cases_lt, lt-ltb, le-ltb, false≢true}
use Rattle.multinomial_bounds.specs.Bounds.{certainty}
use Rattle.sub_isotopologues.specs.Listings.{Listing}
use Rattle.layered_envelope.specs.declared.fault.LayerFault.{LayerFault}
use Rattle.layered_envelope.specs.declared.fault.LayerFault.TheVariants.{TooMany}
use Rattle.layered_envelope.specs.declared.layer_end.LayerEnd.{LayerEnd}
use Rattle.layered_envelope.specs.declared.layer_end.TheConstants.{MAX_MEMBERS}
use Rattle.layered_envelope.specs.Walks.{lower, upper}
use Rattle.layered_envelope.specs.CountedWalks.{lo_at, hi_at, places_above, counted_walk, members_above, lo_above, hi_above, IsCounted, Adds}

-- what an answer tells, and whether it does
abbrev end_of : LayerEnd → Result LayerEnd LayerFault → LayerEnd
end_of other (Ok end) = end
end_of other (Err fault) = other

abbrev is_end : Result LayerEnd LayerFault → Bool
is_end (Ok end) = true
is_end (Err fault) = false

-- the product of no factors
pub one_hi : (x y : ℕ) → x ≡ certainty → y ≡ certainty → upper x y ≡ certainty
unfolding upper
one_hi x y first second = rw (first, second) refl

pub one_lo : (x y : ℕ) → x ≡ certainty → y ≡ certainty → lower x y ≡ certainty
unfolding lower
one_lo x y first second = rw (first, second) refl

module _ (lists : List Listing) where
  members_whole : (s : ℕ) → members_above s certainty lists ≡ length (places_above s lists)
  unfolding members_above places_above
  members_whole s = refl

  lo_whole : (s : ℕ) → lo_above s certainty certainty lists ≡ sum_by (lo_at lists) (places_above s lists)
  unfolding lo_above lo_at places_above
  lo_whole s = refl

  hi_whole : (s : ℕ) → hi_above s certainty lists ≡ sum_by (hi_at lists) (places_above s lists)
  unfolding hi_above hi_at places_above
  hi_whole s = refl

  module _ (t : ℕ) (last : LayerEnd) (counted : IsCounted lists last) where
    pub members_last : last.members ≡ members_above last.threshold certainty lists
    members_last = omega (arith, counted.members, members_whole last.threshold)

    -- what was added to the layer before makes the new one
    module _ (new : LayerEnd) (adds : Adds t certainty certainty lists last new) where
      pub members_new : new.members ≡ members_above t certainty lists
      members_new = omega (arith, members_last, adds.members)

      pub counted_new : new.members ≤ MAX_MEMBERS →
          Ok (record {
            threshold = t;
            members = new.members;
            lo_total = new.lo_total;
            hi_total = new.hi_total;
          })
          ≡ counted_walk t lists
      counted_new few =
          let members : length (places_above t lists) ≡ new.members = omega (arith, members_new, members_whole t) in
          let lo : sum_by (lo_at lists) (places_above t lists) ≡ new.lo_total =
          omega (arith, adds.lo, counted.lo, lo_whole last.threshold, lo_whole t) in
          let hi : sum_by (hi_at lists) (places_above t lists) ≡ new.hi_total =
          omega (arith, adds.hi, counted.hi, hi_whole last.threshold, hi_whole t) in
          let fits : ltb MAX_MEMBERS (length (places_above t lists)) ≡ false =
          le-ltb MAX_MEMBERS (length (places_above t lists)) (omega (arith, members, few)) in
          rw (fits, members, lo, hi) refl

    pub too_many_new : MAX_MEMBERS + members_above last.threshold certainty lists
        < last.members + members_above t certainty lists → Err (TooMany t) ≡ counted_walk t lists
    too_many_new over =
        let many : ltb MAX_MEMBERS (length (places_above t lists)) ≡ true =
        lt-ltb MAX_MEMBERS (length (places_above t lists)) (omega (arith, over, members_last, members_whole t)) in
        rw many refl

  -- a layer that the walk counts, as its end
  pub is_counted : (t : ℕ) (last : LayerEnd) → last.threshold ≡ t → Ok last ≡ counted_walk t lists → IsCounted lists last
  is_counted t last same is =
      let counted : LayerEnd = record {
        threshold = t;
        members = length (places_above t lists);
        lo_total = sum_by (lo_at lists) (places_above t lists);
        hi_total = sum_by (hi_at lists) (places_above t lists);
      } in
      let limited = λ (b : Bool) (e : ltb MAX_MEMBERS (length (places_above t lists)) ≡ b).
      ap (λ (b : Bool). if b then Err (TooMany t) else Ok counted) e in
      ⊎_elim
      (λ (h : MAX_MEMBERS < length (places_above t lists)).
      let over : ltb MAX_MEMBERS (length (places_above t lists)) ≡ true =
      lt-ltb MAX_MEMBERS (length (places_above t lists)) h in
      absurd (false≢true (sym (ap is_end (is ∙ limited true over)))))
      (λ (h : length (places_above t lists) ≤ MAX_MEMBERS).
      let fits : ltb MAX_MEMBERS (length (places_above t lists)) ≡ false =
      le-ltb MAX_MEMBERS (length (places_above t lists)) h in
      let end : last ≡ counted = ap (end_of last) (is ∙ limited false fits) in
      rw same
      (record {
        members = ap (λ e. e.members) end;
        lo = ap (λ e. e.lo_total) end;
        hi = ap (λ e. e.hi_total) end;
      }))
      (cases_lt MAX_MEMBERS (length (places_above t lists)))
