-- Where an enumeration of candidates stands, from its start on.
use Rattle.std.proofs.Common.{Vec, Global, ◌≡◌, ℕ, ◌≤◌, Bool, true, false, cond, List, [], ◌∷◌, ◌++◌, length, map, filter, refl, sym, ap, ◌∙◌, subst}
use Rattle.std.specs.Prelude.{Option, Some, None, IfSome, Result, Ok, is_some, ◌&&◌, ◌↔◌}
use Rattle.std.proofs.lemmas.Bool.{false≢true}
use Rattle.decompose.specs.declared.limits.Limit.{Limit}
use Rattle.decompose.specs.CountLists.{IsInBox, box_of, comes_after, follows}
use Rattle.decompose.specs.Enumeration.{Enumeration, left, vectors, lists_after, after_given, is_within}
use Rattle.decompose.specs.Masses as lists
use Rattle.decompose.proofs.FindAndFilter.{filter_twice}
use Rattle.mass_scaling.specs.declared.windows.Window.{Window}
use Rattle.written_items.specs.declared.item.Item.{Item}
use Rattle.formula_text.specs.Formulas.{formula_of}
use Rattle.adducts.proofs.IonCounts.{formula-is_sum}
use Rattle.candidates.specs.declared.search.Search.{Search}
use Rattle.candidates.specs.Grounds.{GroundValue, IsGround}
use Rattle.candidates.specs.PeakFormulas.{counts_of, counts_in, formula_at, limits_of, candidate_if, is_candidate, formulas_of_peak, masses_of}
use Rattle.candidates.specs.Enumeration.{CandidateEnumeration, counts_left, formulas_left}
use Rattle.candidates.specs.Searches.{IsSearch, IsSure, GoesOn, Finds, Outcome, Covers, Admits, todo, pending, candidates_in}
use Rattle.candidates.specs.StepBounds.{counts_given}
use Rattle.candidates.specs.Standings.{IsSearched, IsToken, IsStanding}
use Rattle.candidates.proofs.TokenCounts.{counts-formula}

filter-agree : {A : Type 0} (p q : A → Bool) (xs : List A) → ((x : A) → p x ≡ q x) → filter p xs ≡ filter q xs
filter-agree p q [] same = refl
filter-agree p q (x ∷ xs) same =
    ap (λ b. cond b (x ∷ filter p xs) (filter p xs)) (same x)
    ∙ ap (λ l. cond (q x) (x ∷ l) l) (filter-agree p q xs same)

-- a candidate is in a window that covers them
covered : (cand win : Bool) → (cand ≡ true → win ≡ true) → (win && cand) ≡ cand
covered true true h = refl
covered true false h = h refl
covered false true h = refl
covered false false h = refl

covered_after : (cand win after : Bool) → (cand ≡ true → win ≡ true) → ((win && after) && cand) ≡ (cand && after)
covered_after true true true h = refl
covered_after true true false h = refl
covered_after true false after h = absurd (false≢true (h refl))
covered_after false true true h = refl
covered_after false true false h = refl
covered_after false false after h = refl

-- ---- the window loses nothing

pub all-covered : (premises : GroundValue) (mz : ℕ) (window : Window) → Covers premises mz window
    → candidates_in premises mz (vectors (masses_of premises.alphabet) (limits_of premises.alphabet) window)
    ≡ formulas_of_peak premises mz
unfolding vectors formulas_of_peak
all-covered premises mz window covers =
    filter_twice (λ (cs : List ℕ). is_within window (lists.mass_of (masses_of premises.alphabet) cs))
    (is_candidate premises mz) (box_of (limits_of premises.alphabet))
    ∙ filter-agree (λ (cs : List ℕ). is_within window (lists.mass_of (masses_of premises.alphabet) cs) && is_candidate premises mz cs)
    (is_candidate premises mz) (box_of (limits_of premises.alphabet))
    (λ cs. covered (is_candidate premises mz cs) (is_within window (lists.mass_of (masses_of premises.alphabet) cs)) (covers cs))

pub after-covered : (premises : GroundValue) (mz : ℕ) (window : Window) (counts : List ℕ) → Covers premises mz window
    → candidates_in premises mz (lists_after (vectors (masses_of premises.alphabet) (limits_of premises.alphabet) window) counts)
    ≡ lists_after (formulas_of_peak premises mz) counts
unfolding vectors formulas_of_peak lists_after
after-covered premises mz window counts covers =
    let win : List ℕ → Bool = λ cs. is_within window (lists.mass_of (masses_of premises.alphabet) cs) in
    let cand : List ℕ → Bool = is_candidate premises mz in
    let after : List ℕ → Bool = comes_after counts in
    let box : List (List ℕ) = box_of (limits_of premises.alphabet) in
    ap (filter cand) (filter_twice win after box) ∙ filter_twice (λ cs. win cs && after cs) cand box
    ∙ filter-agree (λ cs. (win cs && after cs) && cand cs) (λ cs. cand cs && after cs) box
    (λ cs. covered_after (cand cs) (win cs) (after cs) (covers cs))
    ∙ sym (filter_twice cand after box)

-- the lists that an enumeration of this alphabet and window has left
left-of : (premises : GroundValue) (e : Enumeration) → e.masses ≡ masses_of premises.alphabet
    → e.limits ≡ limits_of premises.alphabet
    → left e ≡ after_given (vectors (masses_of premises.alphabet) (limits_of premises.alphabet) e.window) e.given
unfolding left
left-of premises e masses limits =
    ap (λ m. after_given (vectors m e.limits e.window) e.given) masses
    ∙ ap (λ l. after_given (vectors (masses_of premises.alphabet) l e.window) e.given) limits

pub rest-of : (premises : GroundValue) (mz : ℕ) (e : Enumeration) → e.masses ≡ masses_of premises.alphabet
    → e.limits ≡ limits_of premises.alphabet → Covers premises mz e.window
    → after_given (formulas_of_peak premises mz) e.given ≡ candidates_in premises mz (left e)
rest-of premises mz e masses limits covers = cases e.given refl
  where
    cases : (o : Option (List ℕ)) → e.given ≡ o
        → after_given (formulas_of_peak premises mz) e.given ≡ candidates_in premises mz (left e)
    cases None given =
        ap (after_given (formulas_of_peak premises mz)) given ∙ sym (all-covered premises mz e.window covers)
        ∙ sym (ap (candidates_in premises mz) (left-of premises e masses limits
        ∙ ap (after_given (vectors (masses_of premises.alphabet) (limits_of premises.alphabet) e.window)) given))
    cases (Some counts) given =
        ap (after_given (formulas_of_peak premises mz)) given ∙ sym (after-covered premises mz e.window counts covers)
        ∙ sym (ap (candidates_in premises mz) (left-of premises e masses limits
        ∙ ap (after_given (vectors (masses_of premises.alphabet) (limits_of premises.alphabet) e.window)) given))

-- ---- one candidate more

-- the formula of a candidate
pub candidate-formula : (premises : GroundValue) (mz : ℕ) (counts : List ℕ) → is_candidate premises mz counts ≡ true
    → is_some (formula_of (counts_of premises.alphabet counts)) ≡ true
candidate-formula premises mz counts h = cases (formula_of (counts_of premises.alphabet counts)) refl
  where
    cases : (o : Option (List (Item × ℕ))) → formula_of (counts_of premises.alphabet counts) ≡ o
        → is_some (formula_of (counts_of premises.alphabet counts)) ≡ true
    cases None e = absurd (false≢true (sym (ap (λ o. is_some (candidate_if premises mz o)) e) ∙ h))
    cases (Some f) e = ap is_some e

-- a candidate was found: it is the list taken last
record IsFound (premises : GroundValue) (mz : ℕ) (old new : Search) : Type 0 where
  first : candidates_in premises mz (todo old) ≡ new.counts ∷ candidates_in premises mz (left new.decomps)
  given : new.decomps.given ≡ Some new.counts
  in_box : IsInBox new.decomps.limits new.counts

found : (premises : GroundValue) (mz : ℕ) (old new : Search) → Finds premises mz old new true → IsFound premises mz old new
found premises mz old new finds =
    let outcome = finds.outcome in
    record {
      first =
          sym outcome.2
          ∙ ap (λ b. candidates_in premises mz (pending b new.counts ++ left new.decomps)) outcome.0
          ∙ ap (λ b. cond b (new.counts ∷ candidates_in premises mz (left new.decomps))
          (candidates_in premises mz (left new.decomps))) outcome.1;
      given = finds.stands.taken outcome.0;
      in_box = finds.stands.in_box outcome.0;
    }

covers-on : (premises : GroundValue) (mz : ℕ) (old new : Search) → GoesOn old new → Covers premises mz old.decomps.window
    → Covers premises mz new.decomps.window
covers-on premises mz old new goes covers = subst (Covers premises mz) (sym goes.window) covers

admits-on : (premises : GroundValue) (mz : ℕ) (old new : Search) → GoesOn old new → Admits premises mz old.decomps.window
    → Admits premises mz new.decomps.window
admits-on premises mz old new goes admits = subst (Admits premises mz) (sym goes.window) admits

-- where none was given: what was found stays to be given
pub standing-kept : (premises : GroundValue) (mz : ℕ) (old new : Search) (given : Option (List ℕ)) (b : Bool)
    → IsStanding premises mz old given → Finds premises mz old new b → IsStanding premises mz new given
standing-kept premises mz old new given b is finds =
    record {
      is_ground = is.is_ground;
      some_mz = is.some_mz;
      few_mz = is.few_mz;
      is_search = finds.stands;
      covers = covers-on premises mz old new finds.goes is.covers;
      admits = admits-on premises mz old new finds.goes is.admits;
      searched = subst (IsSearched premises mz) (sym finds.goes.window) is.searched;
      token = is.token;
      later = λ counts h. is.later counts (finds.goes.later counts h);
      rest = is.rest ∙ sym (same b finds.outcome);
    }
  where
    same : (b : Bool) → Outcome premises mz old new b
        → candidates_in premises mz (todo new) ≡ candidates_in premises mz (todo old)
    same true outcome = outcome.2
    same false outcome = outcome.1 ∙ sym outcome.0

-- after a candidate was given: the search with some other list of counts
pub standing-given : (premises : GroundValue) (mz : ℕ) (old new : Search) (given : Option (List ℕ)) (spare : List ℕ) → IsStanding premises mz old given → Finds premises mz old new true → length spare ≡ length premises.alphabet → IsStanding premises mz (record { decomps = new.decomps; counts = spare; is_pending = false; room = new.room; is_sure = new.is_sure }) (Some new.counts)
standing-given premises mz old new given spare is finds size =
    let it = found premises mz old new finds in
    let stands = finds.stands in
    let covers = covers-on premises mz old new finds.goes is.covers in
    record {
      is_ground = is.is_ground;
      some_mz = is.some_mz;
      few_mz = is.few_mz;
      is_search =
          record {
            masses = stands.masses;
            limits = stands.limits;
            size = size;
            room = stands.room;
            taken = λ e. absurd (false≢true e);
            in_box = λ e. absurd (false≢true e);
            in_window = λ e. absurd (false≢true e);
            sure = stands.sure;
          };
      covers = covers;
      admits = admits-on premises mz old new finds.goes is.admits;
      searched = subst (IsSearched premises mz) (sym finds.goes.window) is.searched;
      later = λ counts h. subst (λ g. follows g counts ≡ true) it.given h;
      token =
          record {
            in_box = subst (λ l. IsInBox l new.counts) stands.limits it.in_box;
            is_formula = candidate-formula premises mz new.counts finds.outcome.1;
          };
      rest =
          ap (after_given (formulas_of_peak premises mz)) (sym it.given)
          ∙ rest-of premises mz new.decomps stands.masses stands.limits covers;
    }

-- the same of the search that gave it
pub standing-next : (premises : GroundValue) (mz : ℕ) (old new gave : Search) (given : Option (List ℕ)) (last list : List ℕ) → IsStanding premises mz old given → Finds premises mz old new true → length last ≡ length premises.alphabet → gave ≡ record new { counts = last; is_pending = false } → list ≡ new.counts → (length list ≡ length premises.alphabet) × IsStanding premises mz gave (Some list)
standing-next premises mz old new gave given last list is finds size of_gave of_list = (
  ap length of_list ∙ finds.stands.size,
  subst (λ s. IsStanding premises mz s (Some list)) (sym of_gave)
      (subst (λ l. IsStanding premises mz (record new { counts = last; is_pending = false }) (Some l)) (sym of_list)
      (standing-given premises mz old new given last is finds size)),
)

-- what is left before and after
pub given-next : (premises : GroundValue) (mz : ℕ) (old new : Search) (given : Option (List ℕ))
    → IsStanding premises mz old given → Finds premises mz old new true
    → after_given (formulas_of_peak premises mz) given ≡ new.counts ∷ after_given (formulas_of_peak premises mz) (Some new.counts)
given-next premises mz old new given is finds =
    let it = found premises mz old new finds in
    let stands = finds.stands in
    is.rest ∙ it.first
    ∙ ap (λ l. new.counts ∷ l) (sym (ap (after_given (formulas_of_peak premises mz)) (sym it.given)
    ∙ rest-of premises mz new.decomps stands.masses stands.limits (covers-on premises mz old new finds.goes is.covers)))

-- nothing is left
pub none-next : (premises : GroundValue) (mz : ℕ) (old new : Search) (given : Option (List ℕ))
    → IsStanding premises mz old given → Finds premises mz old new false → after_given (formulas_of_peak premises mz) given ≡ []
none-next premises mz old new given is finds = is.rest ∙ finds.outcome.0

-- the formula of a candidate that is given
pub given-formula : (premises : GroundValue) (mz : ℕ) (old new : Search) (o : Option (List (Item × ℕ)))
    → Finds premises mz old new true → o ≡ formula_of (counts_of premises.alphabet new.counts)
    → o ≡ Some (formula_at premises.alphabet new.counts)
given-formula premises mz old new None finds same =
    absurd (false≢true (ap is_some same ∙ candidate-formula premises mz new.counts finds.outcome.1))
given-formula premises mz old new (Some f) finds same =
    ap Some (formula-is_sum (counts_of premises.alphabet new.counts) f (sym same)).0

-- one is given, so the end isn't reached
pub given-not_none : (premises : GroundValue) (mz : ℕ) (old new : Search) (o : Option (List (Item × ℕ))) {A : Type 0}
    → Finds premises mz old new true → o ≡ formula_of (counts_of premises.alphabet new.counts) → o ≡ None → A
given-not_none premises mz old new o finds made none =
    absurd (false≢true (sym (ap is_some none)
    ∙ ap is_some (given-formula premises mz old new o finds made)))

pub given-not_end : (premises : GroundValue) (mz : ℕ) (old new : Search) (given : Option (List ℕ))
    (o : Option (List (Item × ℕ))) (before : CandidateEnumeration) → IsStanding premises mz old given
    → Finds premises mz old new true → o ≡ formula_of (counts_of premises.alphabet new.counts)
    → before ≡ record { premises = premises; mz = mz; given = given } → (o ≡ None) ↔ (counts_left before ≡ [])
given-not_end premises mz old new given o before is finds made of_before =
    let more : counts_left before ≡ new.counts ∷ after_given (formulas_of_peak premises mz) (Some new.counts) =
    ap counts_left of_before ∙ given-next premises mz old new given is finds in (
      given-not_none premises mz old new o finds made,
      λ e. absurd (let both : new.counts ∷ after_given (formulas_of_peak premises mz) (Some new.counts) ≡ [] = sym more ∙ e in cc),
    )

-- what is left, as formulas
pub given-formulas : (premises : GroundValue) (mz : ℕ) (old new : Search) (given : Option (List ℕ)) (o : Option (List (Item × ℕ))) (list : List ℕ) (before : CandidateEnumeration) → IsStanding premises mz old given → Finds premises mz old new true → o ≡ formula_of (counts_of premises.alphabet new.counts) → list ≡ new.counts → before ≡ record { premises = premises; mz = mz; given = given } → IfSome o (λ f. formulas_left before ≡ f ∷ formulas_left (record { premises = premises; mz = mz; given = Some list }))
given-formulas premises mz old new given o list before is finds made of_list of_before =
    let formula = formula_at premises.alphabet in
    let left : formulas_left before
    ≡ formula new.counts ∷ formulas_left (record { premises = premises; mz = mz; given = Some new.counts }) =
    ap formulas_left of_before ∙ ap (map formula) (given-next premises mz old new given is finds) in
    subst (λ p. IfSome p (λ f. formulas_left before
    ≡ f ∷ formulas_left (record { premises = premises; mz = mz; given = Some list })))
    (sym (given-formula premises mz old new o finds made))
    (left ∙ ap (λ l. formula new.counts ∷ formulas_left (record { premises = premises; mz = mz; given = Some l })) (sym of_list))

-- the counts of the formula that is given
given-counts : (premises : GroundValue) (mz : ℕ) (old new : Search) → IsGround premises → Finds premises mz old new true
    → counts_in premises.alphabet (formula_at premises.alphabet new.counts) ≡ new.counts
given-counts premises mz old new ground finds =
    counts-formula premises.alphabet new.counts ground.is_alphabet finds.stands.size

pub given-token : (premises : GroundValue) (mz : ℕ) (old new : Search) (o : Option (List (Item × ℕ))) (list : List ℕ)
    (before : CandidateEnumeration) → IsGround premises → Finds premises mz old new true
    → o ≡ formula_of (counts_of premises.alphabet new.counts) → list ≡ new.counts → before.premises ≡ premises
    → IfSome o (λ f. Some list ≡ Some (counts_in before.premises.alphabet f))
given-token premises mz old new o list before ground finds made of_list of_before =
    subst (λ p. IfSome o (λ f. Some list ≡ Some (counts_in p.alphabet f))) (sym of_before)
    (subst (λ p. IfSome p (λ f. Some list ≡ Some (counts_in premises.alphabet f)))
    (sym (given-formula premises mz old new o finds made))
    (ap Some (of_list ∙ sym (given-counts premises mz old new ground finds))))

pub given-upto : {E : Type 0} (premises : GroundValue) (mz : ℕ) (old new : Search) (o : Option (List (Item × ℕ)))
    (before : CandidateEnumeration) (r : Result (Option (List (Item × ℕ))) E) → IsGround premises
    → Finds premises mz old new true → o ≡ formula_of (counts_of premises.alphabet new.counts) → r ≡ Ok o
    → before.premises ≡ premises → counts_given before.premises.alphabet r ≡ Some new.counts
given-upto premises mz old new o before r ground finds made ok of_before =
    ap (λ p. counts_given p.alphabet r) of_before
    ∙ ap (counts_given premises.alphabet) (ok ∙ ap Ok (given-formula premises mz old new o finds made))
    ∙ ap Some (given-counts premises mz old new ground finds)

-- ---- the start

pub standing-start : (premises : GroundValue) (mz : ℕ) (state : Search) (given : Option (List ℕ)) → IsGround premises → 1 ≤ mz
    → mz ≤ 20000000000000000 → IsSearch premises state → Covers premises mz state.decomps.window
    → Admits premises mz state.decomps.window → IsSearched premises mz state.decomps.window
    → state.is_pending ≡ false → state.decomps.given ≡ given → IfSome given (IsToken premises)
    → IsStanding premises mz state given
standing-start premises mz state given is some few stands covers admits searched idle same token =
    record {
      is_ground = is;
      some_mz = some;
      few_mz = few;
      is_search = stands;
      covers = covers;
      admits = admits;
      searched = searched;
      token = token;
      later = λ counts h. subst (λ g. follows g counts ≡ true) same h;
      rest =
          ap (after_given (formulas_of_peak premises mz)) (sym same)
          ∙ rest-of premises mz state.decomps stands.masses stands.limits covers
          ∙ ap (λ b. candidates_in premises mz (pending b state.counts ++ left state.decomps)) (sym idle);
    }

pub standing-made : (premises : GroundValue) (mz : ℕ) (d : Enumeration) (counts masses : List ℕ) (limits : List Limit) (window : Window) (room : Vec (Item × ℕ) Global) (sure : Bool) (given : Option (List ℕ)) → IsGround premises → 1 ≤ mz → mz ≤ 20000000000000000 → d ≡ record { masses = masses; limits = limits; window = window; given = given } → masses ≡ masses_of premises.alphabet → limits ≡ limits_of premises.alphabet → Covers premises mz window → Admits premises mz window → IsSearched premises mz window → length counts ≡ length premises.alphabet → length room.items ≡ length premises.alphabet → (sure ≡ true → IsSure premises window) → IfSome given (IsToken premises) → IsStanding premises mz (record { decomps = d; counts = counts; is_pending = false; room = room; is_sure = sure }) given
standing-made premises mz d counts masses limits window room sure given is some few made of_masses of_limits covers admits searched size spare all token =
    standing-start premises mz (record { decomps = d; counts = counts; is_pending = false; room = room; is_sure = sure }) given is some few
    (record {
      masses = ap (λ (e : Enumeration). e.masses) made ∙ of_masses;
      limits = ap (λ (e : Enumeration). e.limits) made ∙ of_limits;
      size = size;
      room = spare;
      taken = λ e. absurd (false≢true e);
      in_box = λ e. absurd (false≢true e);
      in_window = λ e. absurd (false≢true e);
      sure = λ h. subst (IsSure premises) (sym (ap (λ (e : Enumeration). e.window) made)) (all h);
    })
    (subst (Covers premises mz) (sym (ap (λ (e : Enumeration). e.window) made)) covers)
    (subst (Admits premises mz) (sym (ap (λ (e : Enumeration). e.window) made)) admits)
    (subst (IsSearched premises mz) (sym (ap (λ (e : Enumeration). e.window) made)) searched) refl
    (ap (λ (e : Enumeration). e.given) made) token
