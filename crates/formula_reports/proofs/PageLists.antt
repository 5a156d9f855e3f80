-- A page of the formulas of a peak is where it should be, and its formulas are tokens.
use Rattle.std.proofs.Common.{◌≡◌, ◌≢◌, ℕ, zero, suc, ◌+◌, Bool, true, false, cond, List, [], ◌∷◌, ◌++◌, get_or, length}
use Rattle.std.proofs.Common.{take, drop, refl, sym, ap, ◌∙◌, subst, arith}
use Rattle.reader_answers.specs.Answers.{◌>>=◌}
use Rattle.std.specs.Prelude.{Option, Some, None, Result, Ok, Err, Contains, filter, is_some, IsTrue}
use Rattle.std.specs.List.{All, AllByRecursion}
use Rattle.std.proofs.lemmas.Bool.{false≢true}
use Rattle.std.proofs.lemmas.List.{append-nil, append_assoc, take-append-drop}
use Rattle.std.proofs.lemmas.List.Elements.{All-from_recursion, Contains-append_left, Contains-append_right}
use Rattle.std.proofs.lemmas.Grind.{common_steps}
use Rattle.decompose.specs.CountLists.{comes_after}
use Rattle.decompose.specs.Enumeration.{after_given, lists_after}
use Rattle.decompose.proofs.CountListOrder.{Rises, after_back, after_itself, after_trans}
use Rattle.decompose.proofs.FirstOfBox.{Rises-box}
use Rattle.written_items.specs.declared.item.Item.{Item}
use Rattle.formula_text.specs.FormulaReader.{read_of}
use Rattle.formula_text.specs.PrintedText.{printed_text}
use Rattle.formula_text.specs.declared.fault.FormulaFault.{FormulaFault}
use Rattle.formula_text.proofs.PrintedRows.{read_of-printed_text}
use Rattle.candidates.specs.Grounds.{GroundValue, IsGround}
use Rattle.candidates.specs.PeakFormulas.{formulas_of_peak, is_candidate, limits_of, formula_at, items_of}
use Rattle.candidates.specs.Tokens.{fits, has_only}
use Rattle.candidates.proofs.AlphabetCounts.{HasItems-at}
use Rattle.candidates.proofs.AlphabetMasses.{box-length}
use Rattle.candidates.proofs.TokenCounts.{at-box, at-IsFormula, box-tested, counts-formula}
use Rattle.command_io.specs.Refusals.{or_fault_as}
use Rattle.command_io.specs.declared.input_fault.InputFault.TheVariants.{After, NotInBox}
use Rattle.peak_formulas.specs.PeakClaims.{AreAllOfPeak, IsOfPeak}
use Rattle.peak_formulas.proofs.PeakLists.{all_of_peak, contains_all}
use Rattle.formula_reports.specs.Claims.{EndsWithin, IsPageOf, IsTokenOf, PrintsPeak}
use Rattle.formula_reports.specs.PageFormulas.{asked_counts, first_of, token_counts}
use Rattle.formula_reports.specs.Queries.{FormulaQuery}
use Rattle.formula_reports.specs.Steps.{in_box}

-- ---- pages

-- each list passes a test, or fails it
kept_all : (t : List ℕ) (xs : List (List ℕ)) → AllByRecursion (λ x. comes_after t x ≡ true) xs →
    lists_after xs t ≡ xs
unfolding lists_after
kept_all t [] each = refl
kept_all t (x ∷ xs) each =
    ap (λ b. cond b (x ∷ lists_after xs t) (lists_after xs t)) each.0 ∙ ap (λ l. x ∷ l) (kept_all t xs each.1)

each_weaken : (P Q : List ℕ → Type 0) (xs : List (List ℕ)) → ((x : List ℕ) → P x → Q x) → AllByRecursion P xs →
    AllByRecursion Q xs
each_weaken P Q [] step each = tt
each_weaken P Q (x ∷ xs) step each = (step x each.0, each_weaken P Q xs step each.1)

each_filter : (P : List ℕ → Type 0) (p : List ℕ → Bool) (xs : List (List ℕ)) → AllByRecursion P xs →
    AllByRecursion P (filter p xs)
each_filter P p [] each = tt
each_filter P p (x ∷ xs) each =
    elim (p x) as (λ b. AllByRecursion P (cond b (x ∷ filter p xs) (filter p xs))) [
      | true ↦ (each.0, each_filter P p xs each.1)
      | false ↦ each_filter P p xs each.1
    ]

rises_filter : (p : List ℕ → Bool) (xs : List (List ℕ)) → Rises xs → Rises (filter p xs)
rises_filter p [] rises = tt
rises_filter p (x ∷ xs) rises =
    elim (p x) as (λ b. Rises (cond b (x ∷ filter p xs) (filter p xs))) [
      | true ↦ (each_filter (λ y. comes_after x y ≡ true) p xs rises.0, rises_filter p xs rises.1)
      | false ↦ rises_filter p xs rises.1
    ]

peak_rises : (premises : GroundValue) (mz : ℕ) → Rises (formulas_of_peak premises mz)
unfolding formulas_of_peak
peak_rises premises mz = rises_filter (is_candidate premises mz) _ (Rises-box (limits_of premises.alphabet))

-- lists that rise are those that don't come after a token's counts, and behind them those that do
pub record Cut (token : List ℕ) (lists : List (List ℕ)) : Type 0 where
  pub before : List (List ℕ)
  pub parts : lists ≡ before ++ lists_after lists token
  pub none : AllByRecursion (λ x. comes_after token x ≡ false) before
  pub each : AllByRecursion (λ x. comes_after token x ≡ true) (lists_after lists token)

cut : (token : List ℕ) (lists : List (List ℕ)) → Rises lists → Cut token lists
unfolding lists_after
cut token [] rises = record { before = []; parts = refl; none = tt; each = tt }
cut token (x ∷ xs) rises = cases (cut token xs rises.1) (comes_after token x) refl
  where
    cases : Cut token xs → (b : Bool) → comes_after token x ≡ b → Cut token (x ∷ xs)
    cases rest true is =
        let behind : AllByRecursion (λ y. comes_after token y ≡ true) (x ∷ xs) = (
          is,
          each_weaken (λ y. comes_after x y ≡ true) (λ y. comes_after token y ≡ true) xs
              (λ y h. after_trans token x y is h) rises.0,
        ) in
        let all : lists_after (x ∷ xs) token ≡ x ∷ xs = kept_all token (x ∷ xs) behind in
        record {
          before = [];
          parts = sym all;
          none = tt;
          each = subst (AllByRecursion (λ y. comes_after token y ≡ true)) (sym all) behind;
        }
    cases rest false is =
        let same : lists_after (x ∷ xs) token ≡ lists_after xs token =
        ap (λ b. cond b (x ∷ lists_after xs token) (lists_after xs token)) is in
        record {
          before = x ∷ rest.before;
          parts = ap (λ l. x ∷ l) rest.parts ∙ ap (λ l. x ∷ (rest.before ++ l)) (sym same);
          none = (is, rest.none);
          each = subst (AllByRecursion (λ y. comes_after token y ≡ true)) (sym same) rest.each;
        }

-- those that come after a list of them are those behind it
behind_last : (front rest : List (List ℕ)) (x : List ℕ) → Rises (front ++ x ∷ rest) →
    lists_after (front ++ x ∷ rest) x ≡ rest
unfolding lists_after
behind_last [] rest x rises =
    ap (λ b. cond b (x ∷ lists_after rest x) (lists_after rest x)) (after_itself x) ∙ kept_all x rest rises.0
behind_last (y ∷ front) rest x rises =
    ap (λ b. cond b (y ∷ lists_after (front ++ x ∷ rest) x) (lists_after (front ++ x ∷ rest) x))
    (after_back y x (there front rises.0))
    ∙ behind_last front rest x rises.1
  where
    there : (ys : List (List ℕ)) → AllByRecursion (λ z. comes_after y z ≡ true) (ys ++ x ∷ rest) →
        comes_after y x ≡ true
    there [] each = each.0
    there (z ∷ ys) each = there ys each.1

-- what is behind the first so many
abbrev rest_of : {X : Type 0} → Option ℕ → List X → List X
rest_of None xs = []
rest_of (Some n) xs = drop n xs

first_and_rest : {X : Type 0} (limit : Option ℕ) (xs : List X) → first_of limit xs ++ rest_of limit xs ≡ xs
first_and_rest None xs = append-nil xs
first_and_rest (Some n) xs = take-append-drop n xs

ends : (limit : Option ℕ) (xs : List (List ℕ)) → EndsWithin limit (first_of limit xs) (rest_of limit xs)
ends None xs = refl
ends (Some n) xs = (grind (arith, common_steps), λ some. full n xs some)
  where
    full : (n : ℕ) (xs : List (List ℕ)) → drop n xs ≢ [] → length (take n xs) ≡ n
    full zero xs some = refl
    full (suc n) [] some = absurd (some refl)
    full (suc n) (x ∷ xs) some = let rest = full n xs some in omega (arith, rest)

not_true : (b : Bool) → b ≡ false → ¬ IsTrue b
not_true b is = λ h. false≢true (sym is ∙ h)

-- the lists behind the last one of a page
next_of : (lists before page behind : List (List ℕ)) → Rises lists → lists ≡ (before ++ page) ++ behind →
    (first : List (List ℕ)) (last : List ℕ) → page ≡ first ++ last ∷ [] → lists_after lists last ≡ behind
next_of lists before page behind rises parts first last is =
    let whole : lists ≡ (before ++ first) ++ last ∷ behind =
    parts ∙ ap (λ p. (before ++ p) ++ behind) is ∙ ap (λ l. l ++ behind) (sym (append_assoc before first (last ∷ [])))
    ∙ append_assoc (before ++ first) (last ∷ []) behind in
    ap (λ l. lists_after l last) whole ∙ behind_last (before ++ first) behind last (subst Rises whole rises)

page_of_all : (lists : List (List ℕ)) (limit : Option ℕ) → Rises lists → IsPageOf lists (first_of limit lists) None limit
page_of_all lists limit rises =
    let parts : lists ≡ first_of limit lists ++ rest_of limit lists = sym (first_and_rest limit lists) in
    record {
      before = [];
      behind = rest_of limit lists;
      parts = parts;
      begins = refl;
      ends = ends limit lists;
      next = next_of lists [] (first_of limit lists) (rest_of limit lists) rises parts;
    }

page_behind : (lists : List (List ℕ)) (token : List ℕ) (limit : Option ℕ) → Rises lists →
    IsPageOf lists (first_of limit (lists_after lists token)) (Some token) limit
page_behind lists token limit rises =
    let front = cut token lists rises in
    let page : List (List ℕ) = first_of limit (lists_after lists token) in
    let behind : List (List ℕ) = rest_of limit (lists_after lists token) in
    let joined : page ++ behind ≡ lists_after lists token = first_and_rest limit (lists_after lists token) in
    let parts : lists ≡ (front.before ++ page) ++ behind =
    front.parts ∙ ap (λ l. front.before ++ l) (sym joined) ∙ sym (append_assoc front.before page behind) in
    record {
      before = front.before;
      behind = behind;
      parts = parts;
      begins = (
        All-from_recursion (λ x. ¬ IsTrue (comes_after token x)) front.before
            (each_weaken (λ x. comes_after token x ≡ false) (λ x. ¬ IsTrue (comes_after token x)) front.before
            (λ x h. not_true (comes_after token x) h) front.none),
        All-from_recursion (λ x. IsTrue (comes_after token x)) (page ++ behind)
            (subst (AllByRecursion (λ x. comes_after token x ≡ true)) (sym joined) front.each),
      );
      ends = ends limit (lists_after lists token);
      next = next_of lists front.before page behind rises parts;
    }

page_is : (lists : List (List ℕ)) (token : Option (List ℕ)) (limit : Option ℕ) → Rises lists →
    IsPageOf lists (first_of limit (after_given lists token)) token limit
page_is lists None limit rises = page_of_all lists limit rises
page_is lists (Some token) limit rises = page_behind lists token limit rises

-- ---- the formulas of a peak are tokens

token_of : (premises : GroundValue) (mz : ℕ) (counts : List ℕ) → IsGround premises → IsOfPeak premises mz counts →
    IsTokenOf premises counts
token_of premises mz counts is peak =
    let alphabet = premises.alphabet in
    let formula = formula_at alphabet counts in
    let inside = (box-tested alphabet formula (has_only (items_of alphabet) formula)
    (fits (items_of alphabet) (limits_of alphabet) formula) refl refl).1
    (at-box alphabet counts is.is_alphabet peak.in_box) in
    let text_read : read_of premises.table (printed_text formula) ≡ Ok formula =
    read_of-printed_text premises.table formula (at-IsFormula premises counts is (ap is_some peak.is_formula))
    (HasItems-at premises.table alphabet counts is.entries) in
    record {
      read =
          ap (λ (r : Result (List (Item × ℕ)) FormulaFault).
          or_fault_as After r >>= λ f. in_box alphabet f >>= λ token. Ok (Some token)) text_read
          ∙ ap (λ b. cond b (Ok formula) (Err NotInBox) >>= λ token. Ok (Some token)) inside;
      place = ap Some (counts-formula alphabet counts is.is_alphabet (box-length alphabet counts peak.in_box));
    }

-- those of a page are of the peak
page_tokens : (premises : GroundValue) (mz : ℕ) (page : List (List ℕ)) (token : Option (List ℕ)) (limit : Option ℕ) →
    IsGround premises → AreAllOfPeak premises mz (formulas_of_peak premises mz) →
    IsPageOf (formulas_of_peak premises mz) page token limit → All (IsTokenOf premises) page
page_tokens premises mz page token limit is all of_peak = λ k d h.
    let there : Contains (of_peak.before ++ page ++ of_peak.behind) (get_or page k d) =
    Contains-append_left (of_peak.before ++ page) of_peak.behind (get_or page k d)
    (Contains-append_right of_peak.before page (get_or page k d) (contains_all page k d h)) in
    token_of premises mz (get_or page k d) is
    ((all.exactly (get_or page k d)).0 (subst (λ l. Contains l (get_or page k d)) (sym of_peak.parts) there))

-- what is printed for the peaks of a query
pub prints_all : (query : FormulaQuery) → IsGround query.premises → All (PrintsPeak query) query.mzs
prints_all query is = λ k d h.
    let mz : ℕ = get_or query.mzs k d in
    let all = all_of_peak query.premises mz in
    let page = page_is (formulas_of_peak query.premises mz) (token_counts query.premises query.after) query.limit
    (peak_rises query.premises mz) in
    record {
      all = all;
      page = page;
      tokens = page_tokens query.premises mz (asked_counts query mz) (token_counts query.premises query.after)
          query.limit is all page;
    }
