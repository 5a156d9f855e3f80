-- The steps of the search for candidates.
use Rattle.std.proofs.Common.{◌≡◌, ℕ, ◌+◌, ◌<◌, Bool, true, false, cond, List, [], ◌∷◌, ◌++◌, length, refl, sym, ap, ◌∙◌, subst, arith}
use Rattle.std.specs.Prelude.{Option, Some, None, All, IsTrue, not, ◌↔◌}
use Rattle.std.specs.Bool.{OnTrue, OnFalse}
use Rattle.std.proofs.lemmas.Bool.{false≢true}
use Rattle.std.proofs.lemmas.List.Elements.{filter_passes}
use Rattle.decompose.specs.CountLists.{IsInBox, comes_after, follows}
use Rattle.decompose.specs.Enumeration.{Enumeration, left, vectors, lists_after, after_given, is_within}
use Rattle.decompose.proofs.CountListOrder.{follows_trans}
use Rattle.decompose.specs.Masses as lists
use Rattle.candidates.specs.declared.search.Search.{Search}
use Rattle.candidates.specs.Grounds.{GroundValue, IsGround}
use Rattle.candidates.specs.PeakFormulas.{is_candidate, masses_of}
use Rattle.candidates.specs.Searches.{Admits, IsInWindow, IsSearch, IsSure, GoesOn, Takes, Finds, is_formed, todo, pending, candidates_in}
use Rattle.candidates.proofs.CandidateTests.{candidate-formed}

-- ---- one list is taken

pub takes-pending : (state : Search) → state.is_pending ≡ true → Takes state state true
takes-pending state h =
    record {
      goes = record { masses = refl; limits = refl; window = refl; later = λ _ h. h };
      size = refl;
      room = refl;
      sure = refl;
      is = h;
      same = refl;
      none = λ e. absurd (false≢true (sym e));
      kept = λ _. (refl, refl);
      given = λ e. absurd (false≢true (sym e ∙ h));
      in_box = λ e. absurd (false≢true (sym e ∙ h));
      in_window = λ e. absurd (false≢true (sym e ∙ h));
      follows = λ e. absurd (false≢true (sym e ∙ h));
    }

-- the list that is left next comes after the one given last
first-follows : (e : Enumeration) (out : List ℕ) (rest : List (List ℕ)) → left e ≡ out ∷ rest → follows e.given out ≡ true
unfolding left lists_after
first-follows e out rest h = cases e.given refl
  where
    cases : (o : Option (List ℕ)) → e.given ≡ o → follows o out ≡ true
    cases None given = refl
    cases (Some c) given =
        let lists = vectors e.masses e.limits e.window in
        subst (All (λ cs. comes_after c cs ≡ true)) (sym (ap (after_given lists) given) ∙ h)
        (filter_passes (λ cs. comes_after c cs) lists) 0 [] (omega arith)

-- what the enumeration of count lists says of one step
pub record Stepped (old new : Enumeration) (counts out : List ℕ) (taken : Bool) : Type 0 where
  pub next : OnTrue taken (left old ≡ out ∷ left new)
  pub end : IsTrue (not taken) ↔ (left old ≡ [])
  pub given : OnTrue taken (new ≡ record old { given = Some out })
  pub in_box : OnTrue taken (IsInBox old.limits out)
  pub in_window : OnTrue taken (IsTrue (is_within old.window (lists.mass_of old.masses out)))
  pub unchanged : OnFalse taken (new ≡ old)
  pub out_unchanged : OnFalse taken (out ≡ counts)
  pub size : length out ≡ length counts

pub takes-next : (state : Search) (new : Enumeration) (out : List ℕ) (taken : Bool) → state.is_pending ≡ false
    → Stepped state.decomps new state.counts out taken
    → Takes state (record { decomps = new; counts = out; is_pending = taken; room = state.room; is_sure = state.is_sure }) taken
takes-next state new out true idle step =
    record {
      goes =
          record {
            masses = ap (λ (e : Enumeration). e.masses) step.given;
            limits = ap (λ (e : Enumeration). e.limits) step.given;
            window = ap (λ (e : Enumeration). e.window) step.given;
            later = λ counts h. follows_trans state.decomps.given out counts
                (first-follows state.decomps out (left new) step.next)
                (subst (λ (e : Enumeration). follows e.given counts ≡ true) step.given h);
          };
      size = step.size;
      room = refl;
      sure = refl;
      is = refl;
      same = sym (ap (λ b. pending b state.counts ++ left state.decomps) idle ∙ step.next);
      none = λ e. absurd (false≢true (sym e));
      kept = λ e. absurd (false≢true (sym idle ∙ e));
      given = λ _ _. ap (λ (e : Enumeration). e.given) step.given;
      in_box = λ _ _. step.in_box;
      in_window = λ _ _. step.in_window;
      follows = λ _ _. first-follows state.decomps out (left new) step.next;
    }
takes-next state new out false idle step =
    let none : left state.decomps ≡ [] = step.end.0 refl in
    record {
      goes =
          record {
            masses = ap (λ (e : Enumeration). e.masses) step.unchanged;
            limits = ap (λ (e : Enumeration). e.limits) step.unchanged;
            window = ap (λ (e : Enumeration). e.window) step.unchanged;
            later = λ counts h. subst (λ (e : Enumeration). follows e.given counts ≡ true) step.unchanged h;
          };
      size = step.size;
      room = refl;
      sure = refl;
      is = refl;
      same = ap left step.unchanged ∙ sym (ap (λ b. pending b state.counts ++ left state.decomps) idle);
      none = λ _. ap left step.unchanged ∙ none;
      kept = λ e. absurd (false≢true (sym idle ∙ e));
      given = λ _ e. absurd (false≢true e);
      in_box = λ _ e. absurd (false≢true e);
      in_window = λ _ e. absurd (false≢true e);
      follows = λ _ e. absurd (false≢true e);
    }

-- ---- the search

-- the mass of a count list is in the window, so that its ion is within tolerance
is-within : (premises : GroundValue) (mz : ℕ) (search : Search) (initial : Search) → IsSearch premises search
    → GoesOn initial search → Admits premises mz initial.decomps.window → search.is_pending ≡ true → IsGround premises
    → is_candidate premises mz search.counts ≡ is_formed premises search.counts
is-within premises mz search initial is goes admits h ground =
    candidate-formed premises mz search.counts ground
    (admits search.counts
    (ap (λ w. is_within w (lists.mass_of (masses_of premises.alphabet) search.counts)) (sym goes.window)
    ∙ ap (λ m. is_within search.decomps.window (lists.mass_of m search.counts)) (sym is.masses)
    ∙ is.in_window h))

-- what the loop over the count lists keeps
pub record SoFar (premises : GroundValue) (initial state : Search) : Type 0 where
  pub is_search : IsSearch premises state
  pub goes : GoesOn initial state
  pub same : (mz : ℕ) → Admits premises mz initial.decomps.window
      → candidates_in premises mz (todo state) ≡ candidates_in premises mz (todo initial)

pub so_far-begins : (premises : GroundValue) (state : Search) → IsSearch premises state → SoFar premises state state
so_far-begins premises state is =
    record { is_search = is; goes = record { masses = refl; limits = refl; window = refl; later = λ _ h. h }; same = λ mz admits. refl }

goes-both : (a b c : Search) → GoesOn a b → GoesOn b c → GoesOn a c
goes-both a b c g h =
    record {
      masses = h.masses ∙ g.masses;
      limits = h.limits ∙ g.limits;
      window = h.window ∙ g.window;
      later = λ counts after. g.later counts (h.later counts after);
    }

window-kept : (old new : Search) (counts : List ℕ) → GoesOn old new → IsInWindow old.decomps counts
    → IsInWindow new.decomps counts
window-kept old new counts goes h =
    ap (λ w. is_within w (lists.mass_of new.decomps.masses counts)) goes.window
    ∙ ap (λ m. is_within old.decomps.window (lists.mass_of m counts)) goes.masses ∙ h

taken-state : (premises : GroundValue) (old new : Search) (taken : Bool) → IsSearch premises old → Takes old new taken
    → IsSearch premises new
taken-state premises old new taken is takes =
    record {
      masses = takes.goes.masses ∙ is.masses;
      limits = takes.goes.limits ∙ is.limits;
      size = takes.size ∙ is.size;
      room = ap (λ r. length r.items) takes.room ∙ is.room;
      taken = λ h. given old.is_pending refl (sym takes.is ∙ h);
      in_box = λ h. box old.is_pending refl (sym takes.is ∙ h);
      in_window = λ h. window old.is_pending refl (sym takes.is ∙ h);
      sure = λ h. subst (IsSure premises) (sym takes.goes.window) (is.sure (sym takes.sure ∙ h));
    }
  where
    given : (b : Bool) → old.is_pending ≡ b → taken ≡ true → new.decomps.given ≡ Some new.counts
    given true e h =
        let kept = takes.kept e in kept.1 ∙ is.taken e ∙ ap Some (sym kept.0)
    given false e h = takes.given e h

    box : (b : Bool) → old.is_pending ≡ b → taken ≡ true → IsInBox new.decomps.limits new.counts
    box true e h =
        let kept = takes.kept e in
        subst (λ c. IsInBox new.decomps.limits c) (sym kept.0)
        (subst (λ l. IsInBox l old.counts) (sym takes.goes.limits) (is.in_box e))
    box false e h = subst (λ l. IsInBox l new.counts) (sym takes.goes.limits) (takes.in_box e h)

    window : (b : Bool) → old.is_pending ≡ b → taken ≡ true → IsInWindow new.decomps new.counts
    window true e h =
        let kept = takes.kept e in
        window-kept old new new.counts takes.goes (subst (IsInWindow old.decomps) (sym kept.0) (is.in_window e))
    window false e h = window-kept old new new.counts takes.goes (takes.in_window e h)

-- after a list was taken
pub so_far-taken : (premises : GroundValue) (initial old new : Search) (taken : Bool) → SoFar premises initial old
    → Takes old new taken → SoFar premises initial new
so_far-taken premises initial old new taken so_far takes =
    record {
      is_search = taken-state premises old new taken so_far.is_search takes;
      goes = goes-both initial old new so_far.goes takes.goes;
      same = λ mz admits. ap (candidates_in premises mz) takes.same ∙ so_far.same mz admits;
    }

-- a list that is no candidate is passed over
pub so_far-passed : (premises : GroundValue) (initial state new : Search) → IsGround premises → SoFar premises initial state
    → state.is_pending ≡ true → is_formed premises state.counts ≡ false → length new.room.items ≡ length state.room.items
    → new.decomps ≡ state.decomps → new.counts ≡ state.counts → new.is_pending ≡ false → new.is_sure ≡ state.is_sure → SoFar premises initial new
so_far-passed premises initial state new ground so_far h none room same_decomps same_counts idle same_sure =
    let is = so_far.is_search in
    let goes : GoesOn state new =
    record {
      masses = ap (λ (e : Enumeration). e.masses) same_decomps;
      limits = ap (λ (e : Enumeration). e.limits) same_decomps;
      window = ap (λ (e : Enumeration). e.window) same_decomps;
      later = λ counts h. subst (λ (e : Enumeration). follows e.given counts ≡ true) same_decomps h;
    } in
    record {
      is_search =
          record {
            masses = goes.masses ∙ is.masses;
            limits = goes.limits ∙ is.limits;
            size = ap length same_counts ∙ is.size;
            room = room ∙ is.room;
            taken = λ e. absurd (false≢true (sym idle ∙ e));
            in_box = λ e. absurd (false≢true (sym idle ∙ e));
            in_window = λ e. absurd (false≢true (sym idle ∙ e));
            sure = λ h. subst (IsSure premises) (sym goes.window) (is.sure (sym same_sure ∙ h));
          };
      goes = goes-both initial state new so_far.goes goes;
      same = λ mz admits.
          ap (λ b. candidates_in premises mz (pending b new.counts ++ left new.decomps)) idle
          ∙ ap (λ d. candidates_in premises mz (left d)) same_decomps
          ∙ sym (ap (λ b. cond b (state.counts ∷ candidates_in premises mz (left state.decomps))
          (candidates_in premises mz (left state.decomps)))
          (is-within premises mz state initial is so_far.goes admits h ground ∙ none))
          ∙ sym (ap (λ b. candidates_in premises mz (pending b state.counts ++ left state.decomps)) h)
          ∙ so_far.same mz admits;
    }

-- and each list that is taken is one less
pub todo-less : (old new : Search) → Takes old new true → length (left new.decomps) < length (todo old)
todo-less old new takes =
    let same : length (todo new) ≡ length (todo old) = ap length takes.same in
    let one : length (todo new) ≡ 1 + length (left new.decomps) =
    ap (λ b. length (pending b new.counts ++ left new.decomps)) takes.is ∙ omega arith in
    omega (arith, same, one)

-- ---- how it ends

pub finds-none : (premises : GroundValue) (mz : ℕ) (initial old new : Search) → SoFar premises initial old
    → Takes old new false → Admits premises mz initial.decomps.window → Finds premises mz initial new false
finds-none premises mz initial old new so_far takes admits =
    let next = so_far-taken premises initial old new false so_far takes in
    let none : todo new ≡ [] =
    ap (λ b. pending b new.counts ++ left new.decomps) takes.is ∙ takes.none refl in
    record {
      stands = next.is_search;
      goes = next.goes;
      outcome = (sym (next.same mz admits) ∙ ap (candidates_in premises mz) none, ap (candidates_in premises mz) none);
    }

-- a candidate was found; the room was written to
pub finds-some : (premises : GroundValue) (mz : ℕ) (initial state new : Search) → IsGround premises
    → SoFar premises initial state → state.is_pending ≡ true → is_formed premises state.counts ≡ true
    → length new.room.items ≡ length state.room.items → new.decomps ≡ state.decomps → new.counts ≡ state.counts
    → new.is_pending ≡ state.is_pending → new.is_sure ≡ state.is_sure → Admits premises mz initial.decomps.window → Finds premises mz initial new true
finds-some premises mz initial state new ground so_far h found room same_decomps same_counts same_pending same_sure admits =
    let is = so_far.is_search in
    let goes : GoesOn state new =
    record {
      masses = ap (λ (e : Enumeration). e.masses) same_decomps;
      limits = ap (λ (e : Enumeration). e.limits) same_decomps;
      window = ap (λ (e : Enumeration). e.window) same_decomps;
      later = λ counts h. subst (λ (e : Enumeration). follows e.given counts ≡ true) same_decomps h;
    } in
    let candidate : is_candidate premises mz state.counts ≡ true =
    is-within premises mz state initial is so_far.goes admits h ground ∙ found in
    record {
      stands =
          record {
            masses = goes.masses ∙ is.masses;
            limits = goes.limits ∙ is.limits;
            size = ap length same_counts ∙ is.size;
            room = room ∙ is.room;
            taken = λ _. ap (λ (e : Enumeration). e.given) same_decomps ∙ is.taken h ∙ ap Some (sym same_counts);
            in_box = λ _.
                subst (IsInBox new.decomps.limits) (sym same_counts)
                (subst (λ l. IsInBox l state.counts) (sym goes.limits) (is.in_box h));
            in_window = λ _.
                subst (IsInWindow new.decomps) (sym same_counts)
                (window-kept state new state.counts goes (is.in_window h));
            sure = λ sure. subst (IsSure premises) (sym goes.window) (is.sure (sym same_sure ∙ sure));
          };
      goes = goes-both initial state new so_far.goes goes;
      outcome = (
        same_pending ∙ h,
        ap (is_candidate premises mz) same_counts ∙ candidate,
        ap (λ d. candidates_in premises mz (pending new.is_pending new.counts ++ left d)) same_decomps
            ∙ ap (λ cs. candidates_in premises mz (pending new.is_pending cs ++ left state.decomps)) same_counts
            ∙ ap (λ b. candidates_in premises mz (pending b state.counts ++ left state.decomps)) same_pending
            ∙ so_far.same mz admits,
      );
    }

-- a list that is taken where each list of the window is a candidate
pub sure-taken : (premises : GroundValue) (initial state : Search) → SoFar premises initial state → state.is_pending ≡ true
    → state.is_sure ≡ true → is_formed premises state.counts ≡ true
sure-taken premises initial state so_far h sure =
    let is = so_far.is_search in
    is.sure sure state.counts
    (ap (λ m. is_within state.decomps.window (lists.mass_of m state.counts)) (sym is.masses) ∙ is.in_window h)
