-- What is gathered of lists, from one item of a list to the next.
use Rattle.std.proofs.Common.{◌≡◌, ℕ, ◌+◌, ◌<◌, ◌≤◌, List, [], ◌∷◌, ◌++◌, map, length, get_or, fold, refl, sym, ◌∙◌, ap}
use Rattle.std.proofs.Common.{subst, arith, append_assoc, append-nil, length-append}
use Rattle.std.specs.Prelude.{flat_map}
use Rattle.std.proofs.lemmas.Bool.{lt-ltb}
use Rattle.std.proofs.lemmas.Grind.{flat_map-append}
use Rattle.std.proofs.lemmas.List.{get_or-map}
use Rattle.std.proofs.lemmas.List.Folds.{flat_map-map}
use Rattle.multinomial_bounds.specs.declared.enclosure.Enclosure.{Enclosure}
use Rattle.sub_isotopologues.specs.SubIsotopologues.{SubIsotopologue}
use Rattle.sub_isotopologues.specs.Listings.{Listing, items_of}
use Rattle.layered_envelope.specs.declared.gathering.MemberRow.{MemberRow}
use Rattle.layered_envelope.specs.declared.gathering.Gathering.{Gathering}
use Rattle.layered_envelope.specs.ChosenPlaces.{bounds_at, firsts, AllFall, above, above_from}
use Rattle.layered_envelope.specs.Walks.{lower, upper, los_of, his_of}
use Rattle.layered_envelope.specs.Gatherings.{counts_from, AreRowsBy, Gathers, AreGathered, GathersAll, IsPushed}
use Rattle.layered_envelope.proofs.RoundedProducts.{upper-rises}
use Rattle.layered_envelope.proofs.NextChoice.{none_from, from_first, from_start}

-- rows behind rows
rows_append : (g : List ℕ → List ℕ) (lo hi : List ℕ → ℕ) (start : ℕ) (members members' : List (List ℕ))
    (rows rows' : List MemberRow) → AreRowsBy g lo hi start members rows →
    AreRowsBy g lo hi (start + length (flat_map g members)) members' rows' →
    AreRowsBy g lo hi start (members ++ members') (rows ++ rows')
rows_append g lo hi start [] members' [] rows' are are' =
    let none : start + 0 ≡ start = omega arith in rw none at are'
rows_append g lo hi start [] members' (r ∷ rows) rows' are are' = absurd are
rows_append g lo hi start (p ∷ members) members' [] rows' are are' = absurd are
rows_append g lo hi start (p ∷ members) members' (r ∷ rows) rows' are are' =
    let moved : start + length (g p ++ flat_map g members) ≡ start + length (g p) + length (flat_map g members) =
    omega (arith, length-append (g p) (flat_map g members)) in
    (are.0, rows_append g lo hi (start + length (g p)) members members' rows rows' are.1 (rw moved at are'))

-- rows of members that have one place more
rows_map : (g : List ℕ → List ℕ) (lo hi : List ℕ → ℕ) (p start : ℕ) (members : List (List ℕ)) (rows : List MemberRow) →
    AreRowsBy (λ ps. g (p ∷ ps)) (λ ps. lo (p ∷ ps)) (λ ps. hi (p ∷ ps)) start members rows →
    AreRowsBy g lo hi start (map (λ ps. p ∷ ps) members) rows
rows_map g lo hi p start [] [] are = tt
rows_map g lo hi p start [] (r ∷ rows) are = absurd are
rows_map g lo hi p start (q ∷ members) [] are = absurd are
rows_map g lo hi p start (q ∷ members) (r ∷ rows) are =
    (are.0, rows_map g lo hi p (start + length (g (p ∷ q))) members rows are.1)

module _ (g : List ℕ → List ℕ) (lo hi : List ℕ → ℕ) where
  gathers_then : (members members' : List (List ℕ)) (c c' c'' : List ℕ) (r r' r'' : List MemberRow) →
      Gathers g lo hi members c r c' r' → Gathers g lo hi members' c' r' c'' r'' →
      Gathers g lo hi (members ++ members') c r c'' r''
  gathers_then members members' c c' c'' r r' r'' first next =
      let begins : length c' ≡ length c + length (flat_map g members) =
      ap length first.counts_are ∙ length-append c (flat_map g members) in
      record {
        more = first.more ++ next.more;
        rows_are = next.rows_are ∙ ap (λ rs. rs ++ next.more) first.rows_are ∙ append_assoc r first.more next.more;
        are_rows = rows_append g lo hi (length c) members members' first.more next.more first.are_rows
            (rw begins at next.are_rows);
        counts_are = next.counts_are ∙ ap (λ xs. xs ++ flat_map g members') first.counts_are
            ∙ append_assoc c (flat_map g members) (flat_map g members')
            ∙ ap (λ xs. c ++ xs) (sym (flat_map-append g members members'));
      }

  gathers_place : (p : ℕ) (members : List (List ℕ)) (c c' : List ℕ) (r r' : List MemberRow) →
      Gathers (λ ps. g (p ∷ ps)) (λ ps. lo (p ∷ ps)) (λ ps. hi (p ∷ ps)) members c r c' r' →
      Gathers g lo hi (map (λ ps. p ∷ ps) members) c r c' r'
  gathers_place p members c c' r r' is = record {
    more = is.more;
    rows_are = is.rows_are;
    are_rows = rows_map g lo hi p (length c) members is.more is.are_rows;
    counts_are = is.counts_are ∙ ap (λ xs. c ++ xs) (sym (flat_map-map g (λ ps. p ∷ ps) members));
  }

-- one member
pub pushed_gathers : (e : Enclosure) (last : List ℕ) (old new : Gathering) → IsPushed e last old new →
    Gathers (λ ps. old.chosen.items ++ last) (λ ps. e.lo) (λ ps. e.hi) ([] ∷ []) old.counts.items old.rows.items
    new.counts.items new.rows.items
pushed_gathers e last old new is = record {
  more = record { enclosure = e; start = length old.counts.items } ∷ [];
  rows_are = is.rows_are;
  are_rows = (record { there = refl; lo_is = refl; hi_is = refl }, tt);
  counts_are = is.counts_are
      ∙ append_assoc old.counts.items old.chosen.items last
      ∙ ap (λ xs. old.counts.items ++ xs) (sym (append-nil (old.chosen.items ++ last)));
}

-- the one choice of no lists
pub gathers_one : (t : ℕ) (e : Enclosure) (old new : Gathering) → t < e.hi → IsPushed e [] old new →
    GathersAll t e.lo e.hi [] old new
gathers_one t e old new over is = record {
  gathered =
      rw (lt-ltb t e.hi over)
      (subst
      (λ cs. Gathers (λ ps. cs) (λ ps. e.lo) (λ ps. e.hi) ([] ∷ []) old.counts.items old.rows.items new.counts.items
      new.rows.items)
      (append-nil old.chosen.items) (pushed_gathers e [] old new is));
  chosen = is.chosen;
}

-- what was gathered where the items of the first list before p were gone through
pub record GathersTo (t y x : ℕ) (l : Listing) (ls : List Listing) (p : ℕ) (old now : Gathering) : Type 0 where
  pub done : List (List ℕ)
  pub split : done ++ above_from upper t x (map (λ i. i.hi) (items_of l)) (his_of ls) p
      ≡ above upper t x (his_of (l ∷ ls))
  pub gathered : AreGathered (l ∷ ls) y x done old now
  pub chosen : now.chosen.items ≡ old.chosen.items

module _ (t y x : ℕ) (l : Listing) (ls : List Listing) where
  abbrev his : List ℕ
  his = map (λ i. i.hi) (items_of l)

  pub gathers_none : (old : Gathering) → GathersTo t y x l ls 0 old old
  gathers_none old = record {
    done = [];
    split = sym (from_start upper upper-rises t his (his_of ls) x);
    gathered = record {
      more = [];
      rows_are = sym (append-nil old.rows.items);
      are_rows = tt;
      counts_are = sym (append-nil old.counts.items);
    };
    chosen = refl;
  }

  module _ (p : ℕ) (old now : Gathering) (so_far : GathersTo t y x l ls p old now) where
    -- the next item, of these bounds and counts, was gone through
    pub gathers_more : (new : Gathering) (h k : ℕ) (cs : List ℕ) → p < length his → get_or his p 0 ≡ h →
        get_or (map (λ i. i.lo) (items_of l)) p 0 ≡ k → get_or (map (λ i. i.counts) (items_of l)) p [] ≡ cs →
        Gathers (counts_from ls (old.chosen.items ++ cs)) (λ ps. fold lower (lower y k) (bounds_at (los_of ls) ps))
        (λ ps. fold upper (upper x h) (bounds_at (his_of ls) ps)) (above upper t (upper x h) (his_of ls))
        now.counts.items now.rows.items new.counts.items new.rows.items →
        new.chosen.items ≡ old.chosen.items → GathersTo t y x l ls (p + 1) old new
    gathers_more new h k cs within hi lo counts here same =
        let g : List ℕ → List ℕ = counts_from (l ∷ ls) old.chosen.items in
        let lows : List ℕ → ℕ = λ ps. fold lower y (bounds_at (los_of (l ∷ ls)) ps) in
        let highs : List ℕ → ℕ = λ ps. fold upper x (bounds_at (his_of (l ∷ ls)) ps) in
        let parts : List (List ℕ) = above upper t (upper x (get_or his p 0)) (his_of ls) in
        let item = rw (← hi, ← lo, ← counts) at here in
        let placed : Gathers g lows highs (map (λ ps. p ∷ ps) parts) now.counts.items now.rows.items new.counts.items
        new.rows.items =
        gathers_place g lows highs p parts now.counts.items new.counts.items now.rows.items new.rows.items item in
        record {
          done = so_far.done ++ map (λ ps. p ∷ ps) parts;
          split =
              append_assoc so_far.done (map (λ ps. p ∷ ps) parts) (above_from upper t x his (his_of ls) (p + 1))
              ∙ ap (λ xs. so_far.done ++ xs) (sym (from_first upper upper-rises t his (his_of ls) x p within))
              ∙ so_far.split;
          gathered =
              gathers_then g lows highs so_far.done (map (λ ps. p ∷ ps) parts) old.counts.items now.counts.items
              new.counts.items old.rows.items now.rows.items new.rows.items so_far.gathered placed;
          chosen = same;
        }

    -- no later item can be
    pub gathers_all : AllFall (his_of (l ∷ ls)) →
        (p < length his → fold upper (upper x (get_or his p 0)) (firsts (his_of ls)) ≤ t) →
        GathersAll t y x (l ∷ ls) old now
    gathers_all fall below =
        let none : above_from upper t x his (his_of ls) p ≡ [] =
        none_from upper upper-rises t his (his_of ls) x p fall.0 fall.1 below in
        let all : so_far.done ≡ above upper t x (his_of (l ∷ ls)) =
        sym (append-nil so_far.done) ∙ ap (λ xs. so_far.done ++ xs) (sym none) ∙ so_far.split in
        record {
          gathered = subst (λ ms. AreGathered (l ∷ ls) y x ms old now) all so_far.gathered;
          chosen = so_far.chosen;
        }

-- one member of the last list
pub gathers_last : (t y x h k : ℕ) (cs : List ℕ) (e : Enclosure) (old now new : Gathering) → t < upper x h →
    e.lo ≡ lower y k → e.hi ≡ upper x h → now.chosen.items ≡ old.chosen.items → IsPushed e cs now new →
    Gathers (counts_from [] (old.chosen.items ++ cs)) (λ ps. fold lower (lower y k) (bounds_at (los_of []) ps))
    (λ ps. fold upper (upper x h) (bounds_at (his_of []) ps)) (above upper t (upper x h) (his_of []))
    now.counts.items now.rows.items new.counts.items new.rows.items
gathers_last t y x h k cs e old now new over lo hi same is =
    rw (lt-ltb t (upper x h) over) (rw (lo, hi, same) at (pushed_gathers e cs now new is))

-- the counts of an item, as it is read
pub item_counts : (l : Listing) (items : List SubIsotopologue) → items ≡ items_of l → (p : ℕ) → p < length items →
    (i : SubIsotopologue) → i ≡ get_or items p i → get_or (map (λ i. i.counts) (items_of l)) p [] ≡ i.counts
item_counts l items are p within i is =
    get_or-map (λ i. i.counts) (items_of l) p i [] (omega (arith, within, ap length are))
    ∙ ap (λ (x : SubIsotopologue). x.counts) (ap (λ xs. get_or xs p i) (sym are) ∙ sym is)
