-- The lines of ranked peaks, job by job, and of their places.
use Rattle.std.proofs.Common.{◌≡◌, ℕ, ◌+◌, ◌<◌, List, [], ◌∷◌, ◌++◌, length, take, drop, get_or, refl, sym, ap, ◌∙◌}
use Rattle.std.proofs.Common.{subst, arith, inl, inr}
use Rattle.std.specs.Prelude.{Option, Some, None, option_and_then, IfSome, Result, Ok, Err, slice_get, ◌⊎◌}
use Rattle.std.specs.List.{enumerate_from, flat_map}
use Rattle.std.proofs.lemmas.List.{take_more, drop_more, take-append-drop}
use Rattle.std.proofs.lemmas.List.FromFn.{get_or-enumerate_from, length-enumerate_from}
use Rattle.std.proofs.lemmas.Option.{get_or_from_slice_get, slice_get_cases, slice_get_within}
use Rattle.reader_answers.specs.Answers.{unless_fault}
use Rattle.peak_ranking.specs.RankQueries.{RankQuery}
use Rattle.peak_ranking.specs.RankedJobs.{met_fault, ranked_jobs}
use Rattle.ranking.specs.declared.fault.RankFault.{RankFault}
use Rattle.ranking.specs.declared.fault.RankFault.TheVariants as stops
use Rattle.written_items.specs.declared.item.Item.{Item}
use Rattle.report_text.specs.RankLines.{rank_head}
use Rattle.command_io.specs.declared.input_fault.InputFault.{InputFault}
use Rattle.command_io.specs.declared.input_fault.InputFault.TheVariants.{CandidateLimit, Layer}
use Rattle.command_io.specs.Refusals.{GivesInput}
use Rattle.command_io.specs.declared.refusal.Refusal.{Refusal}
use Rattle.command_io.specs.declared.refusal.Refusal.TheVariants.{Words, Input, ReadFault, WriteFault, Memory}
use Rattle.ranking_reports.specs.Reports.{job_lines, rank_report}
use Rattle.ranking_reports.specs.Steps.{limit_of, unless_stopped}

-- an element of a list
pub there : {A : Type 0} (xs : List A) (i : ℕ) → i < length xs → (x : A) × (slice_get xs i ≡ Some x)
there xs i inside =
    elim (slice_get_cases xs i).1 [
      | inl at ↦ (at.0, at.2)
      | inr past ↦ absurd (omega (arith, inside, past.0))
    ]

pub holds_at : {A : Type 0} (o : Option A) (x : A) (P : A → Type 0) → o ≡ Some x → IfSome o P → P x
holds_at None x P is h = absurd (cc)
holds_at (Some y) x P is h = let same : y ≡ x = cc in subst P same h

entry-at : {A : Type 0} (n : ℕ) (xs : List A) (i : ℕ) (x : A) → slice_get xs i ≡ Some x →
    get_or (enumerate_from n xs) i (n, x) ≡ (n + i, x)
entry-at n xs i x is =
    get_or-enumerate_from n xs i (n, x) (slice_get_within xs i x is)
    ∙ ap (λ y. (n + i, y)) (get_or_from_slice_get xs i x x is)

inside-enumerated : {A : Type 0} (n : ℕ) (xs : List A) (i : ℕ) (x : A) → slice_get xs i ≡ Some x →
    i < length (enumerate_from n xs)
inside-enumerated n xs i x is =
    let within = slice_get_within xs i x is in omega (arith, within, length-enumerate_from n xs)

-- one more of numbered elements
pub more-enumerated : {A : Type 0} (n : ℕ) (xs : List A) (i : ℕ) (x : A) → slice_get xs i ≡ Some x →
    take i (enumerate_from n xs) ++ (n + i, x) ∷ [] ≡ take (i + 1) (enumerate_from n xs)
more-enumerated n xs i x is =
    ap (λ p. take i (enumerate_from n xs) ++ p ∷ []) (sym (entry-at n xs i x is))
    ∙ sym (take_more (enumerate_from n xs) i (n, x) (inside-enumerated n xs i x is))

-- those done, one more, and the rest
pub parts-enumerated : {A : Type 0} (n : ℕ) (xs : List A) (i : ℕ) (x : A) → slice_get xs i ≡ Some x →
    take i (enumerate_from n xs) ++ (n + i, x) ∷ drop (i + 1) (enumerate_from n xs) ≡ enumerate_from n xs
parts-enumerated n xs i x is =
    ap (λ p. take i (enumerate_from n xs) ++ p ∷ drop (i + 1) (enumerate_from n xs)) (sym (entry-at n xs i x is))
    ∙ ap (λ l. take i (enumerate_from n xs) ++ l)
    (sym (drop_more (enumerate_from n xs) i (n, x) (inside-enumerated n xs i x is)))
    ∙ take-append-drop i (enumerate_from n xs)

-- a head and the lines behind it are the report
pub whole-ranking : (query : RankQuery) →
    rank_head query.jobs ++ flat_map (job_lines query) (enumerate_from query.first (ranked_jobs query))
    ≡ rank_report query
unfolding rank_report
whole-ranking query = refl

-- what is asked for beside one value is refused beside another
pub stopped : {A B : Type 0} (o : Option InputFault) (x : A) (y : B) (fault : InputFault) →
    unless_fault o (Ok x) ≡ Err fault → unless_fault o (Ok y) ≡ Err fault
stopped None x y fault is = absurd (cc)
stopped (Some other) x y fault is = let same : other ≡ fault = cc in ap Err same

pub unstopped : {A B : Type 0} (o : Option InputFault) (x z : A) (y : B) → unless_fault o (Ok x) ≡ Ok z →
    (z ≡ x) × (unless_fault o (Ok y) ≡ Ok y)
unstopped None x z y is = (cc, refl)
unstopped (Some other) x z y is = absurd (cc)

-- the same of what a part of a run gives
pub stopped_too : {A B : Type 0} (query : RankQuery) (x : A) (y : B) (refusal : Refusal) →
    GivesInput {X = A} (λ z. z) (unless_stopped query x) (Err refusal) →
    GivesInput {X = B} (λ z. z) (unless_stopped query y) (Err refusal)
stopped_too query x y (Input fault) gives = stopped (option_and_then limit_of (met_fault query)) x y fault gives
stopped_too query x y Memory gives = tt
stopped_too query x y (Words fault) gives = absurd gives
stopped_too query x y (ReadFault name) gives = absurd gives
stopped_too query x y WriteFault gives = absurd gives

-- what comes of the turns, with their stops as limits
pub limits-ok : {A : Type 0} (met : Option RankFault) (x z : A) → unless_fault met (Ok x) ≡ Ok z →
    unless_fault (option_and_then limit_of met) (Ok x) ≡ Ok z
limits-ok None x z is = cc
limits-ok (Some stop) x z is = absurd (cc)

pub limits-many : {A : Type 0} (met : Option RankFault) (x : A) (peak : ℕ) →
    unless_fault met (Ok x) ≡ Err (stops.TooMany peak) →
    unless_fault (option_and_then limit_of met) (Ok x) ≡ Err (CandidateLimit peak)
limits-many None x peak is = absurd (cc)
limits-many (Some stop) x peak is =
    let same : stop ≡ stops.TooMany peak = cc in
    ap (λ (s : RankFault). unless_fault (limit_of s) (Ok x)) same

pub limits-layer : {A : Type 0} (met : Option RankFault) (x : A) (peak : ℕ) (ion : List (Item × ℕ)) →
    unless_fault met (Ok x) ≡ Err (stops.Layer peak ion) →
    unless_fault (option_and_then limit_of met) (Ok x) ≡ Err (Layer ion)
limits-layer None x peak ion is = absurd (cc)
limits-layer (Some stop) x peak ion is =
    let same : stop ≡ stops.Layer peak ion = cc in
    ap (λ (s : RankFault). unless_fault (limit_of s) (Ok x)) same
