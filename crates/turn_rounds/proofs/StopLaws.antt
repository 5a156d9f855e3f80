-- The stop that is met first.
use Rattle.std.proofs.Common.{◌≡◌, ◌≢◌, ℕ, ◌+◌, ◌<◌, ◌⊎◌, inl, inr, zero, suc, true, false, cond, List, [], ◌∷◌}
use Rattle.std.proofs.Common.{length, refl, ap, sym, ◌∙◌, arith}
use Rattle.std.specs.Prelude.{Option, Some, None, slice_get, nat_lt, option_map, option_and_then, if◌then◌else◌}
use Rattle.std.proofs.lemmas.Bool.Decides.{nat_tests}
use Rattle.job_turns.specs.Turns.{Progress}
use Rattle.turn_rounds.specs.Stops.{Stop, end_turn, stop_at, earlier, first_from, is_given}

earlier_cases : {Fault : Type 0} (a b : Option (Stop Fault)) (stop : Stop Fault) → earlier a b ≡ Some stop
    → (a ≡ Some stop) ⊎ (b ≡ Some stop)
earlier_cases None b stop is = inr is
earlier_cases (Some a) None stop is = inl is
earlier_cases (Some a) (Some b) stop is =
    elim (nat_lt b.turn a.turn)
    as (λ v. cond v (Some b) (Some a) ≡ Some stop → (Some a ≡ Some stop) ⊎ (Some b ≡ Some stop))
    [ true ↦ λ e. inr e | false ↦ λ e. inl e ] is

earlier_first : {Fault : Type 0} (stop : Stop Fault) (other : Option (Stop Fault))
    → ((its : Stop Fault) → other ≡ Some its → stop.turn < its.turn) → earlier (Some stop) other ≡ Some stop
earlier_first stop None later = refl
earlier_first stop (Some its) later =
    let test : nat_lt its.turn stop.turn ≡ false = grind (arith, nat_tests, later its refl) in rw test refl

earlier_second : {Fault : Type 0} (stop : Stop Fault) (other : Option (Stop Fault))
    → ((its : Stop Fault) → other ≡ Some its → stop.turn < its.turn) → earlier other (Some stop) ≡ Some stop
earlier_second stop None later = refl
earlier_second stop (Some its) later =
    let test : nat_lt stop.turn its.turn ≡ true = grind (arith, nat_tests, later its refl) in rw test refl

-- a job that stops
pub record StopsAt {Item Fault : Type 0} (jobs allow place : ℕ) (list : List (Progress Item Fault)) (at : ℕ)
    (stop : Stop Fault) : Type 0 where
  pub job : Progress Item Fault
  pub is_there : slice_get list at ≡ Some job
  pub is_stop : stop_at jobs allow (place + at) job ≡ Some stop

one_behind : {Item Fault : Type 0} (jobs allow place : ℕ) (job : Progress Item Fault)
    (rest : List (Progress Item Fault)) (at : ℕ) (stop : Stop Fault) → StopsAt jobs allow (place + 1) rest at stop
    → StopsAt jobs allow place (job ∷ rest) (suc at) stop
one_behind jobs allow place job rest at stop stops = record {
  job = stops.job;
  is_there = stops.is_there;
  is_stop = let e : place + suc at ≡ place + 1 + at = omega arith in rw e stops.is_stop;
}

-- the first stop is that of a job
pub first_is_one : {Item Fault : Type 0} (jobs allow place : ℕ) (list : List (Progress Item Fault)) (stop : Stop Fault)
    → first_from jobs allow place list ≡ Some stop → (at : ℕ) × StopsAt jobs allow place list at stop
first_is_one jobs allow place [] stop is = absurd (cc)
first_is_one jobs allow place (job ∷ rest) stop is =
    elim (earlier_cases (stop_at jobs allow place job) (first_from jobs allow (place + 1) rest) stop is) [
      | inl own ↦ (
        0,
        record {
          job = job;
          is_there = refl;
          is_stop = let e : place + 0 ≡ place = omega arith in rw e own;
        },
      )
      | inr other ↦ (
          let behind = first_is_one jobs allow (place + 1) rest stop other in
          (suc behind.0, one_behind jobs allow place job rest behind.0 stop behind.1))
    ]

-- a stop that is met before all others is the first
pub first_is : {Item Fault : Type 0} (jobs allow place : ℕ) (list : List (Progress Item Fault)) (at : ℕ)
    (stop : Stop Fault) → StopsAt jobs allow place list at stop
    → ((other : ℕ) (its : Stop Fault) → other ≢ at → StopsAt jobs allow place list other its → stop.turn < its.turn)
    → first_from jobs allow place list ≡ Some stop
first_is jobs allow place [] at stop stops later = let is_there = stops.is_there in absurd (cc)
first_is {Item} {Fault} jobs allow place (job ∷ rest) zero stop stops later =
    let e : place + 0 ≡ place = omega arith in
    let same : stops.job ≡ job = let is_there = stops.is_there in cc in
    let own : stop_at jobs allow place job ≡ Some stop = rw (e, same) at stops.is_stop in
    let behind : (its : Stop Fault) → first_from jobs allow (place + 1) rest ≡ Some its → stop.turn < its.turn =
    λ its is. (let one = first_is_one jobs allow (place + 1) rest its is in
    later (suc one.0) its (omega arith) (one_behind jobs allow place job rest one.0 its one.1)) in
    ap (λ s. earlier s (first_from jobs allow (place + 1) rest)) own
    ∙ earlier_first stop (first_from jobs allow (place + 1) rest) behind
first_is {Item} {Fault} jobs allow place (job ∷ rest) (suc at) stop stops later =
    let e : place + suc at ≡ place + 1 + at = omega arith in
    let behind : StopsAt jobs allow (place + 1) rest at stop = record {
      job = stops.job;
      is_there = stops.is_there;
      is_stop = rw e at stops.is_stop;
    } in
    let rest_first : first_from jobs allow (place + 1) rest ≡ Some stop =
    first_is jobs allow (place + 1) rest at stop behind
    (λ other its differs one. later (suc other) its (omega (arith, differs))
    (one_behind jobs allow place job rest other its one)) in
    let own : (its : Stop Fault) → stop_at jobs allow place job ≡ Some its → stop.turn < its.turn =
    λ its is. later 0 its (omega arith) (record {
      job = job;
      is_there = refl;
      is_stop = let e : place + 0 ≡ place = omega arith in rw e is;
    }) in
    ap (λ s. earlier (stop_at jobs allow place job) s) rest_first
    ∙ earlier_second stop (stop_at jobs allow place job) own

-- what a stop says
pub record IsStopOf {Item Fault : Type 0} (jobs allow place : ℕ) (job : Progress Item Fault)
    (stop : Stop Fault) : Type 0
  where
    pub fault : job.stop ≡ Some stop.fault
    pub turn : stop.turn ≡ end_turn jobs allow place (length job.left)

stop_parts : {Fault : Type 0} (turn place : ℕ) (fault : Option Fault) (stop : Stop Fault)
    → option_map (λ f. let s : Stop Fault = record { turn = turn; job = place; fault = f } in s) fault ≡ Some stop
    → (fault ≡ Some stop.fault) × (stop.turn ≡ turn)
stop_parts turn place None stop is = absurd (cc)
stop_parts {Fault} turn place (Some fault) stop is =
    let s : Stop Fault = record { turn = turn; job = place; fault = fault } in
    let same : s ≡ stop = cc in
    (ap (λ (t : Stop Fault). Some t.fault) same, ap (λ (t : Stop Fault). t.turn) (sym same))

pub is_stop_of : {Item Fault : Type 0} (jobs allow place : ℕ) (job : Progress Item Fault) (stop : Stop Fault)
    → stop_at jobs allow place job ≡ Some stop → IsStopOf jobs allow place job stop
is_stop_of jobs allow place job stop is =
    let parts = stop_parts (end_turn jobs allow place (length job.left)) place job.stop stop is in
    record { fault = parts.0; turn = parts.1 }

-- a stop in a turn that isn't given, or in one that is
pub is_kept : {Fault : Type 0} (turns : Option ℕ) (first : Option (Stop Fault)) (stop : Stop Fault)
    → first ≡ Some stop → is_given turns stop.turn ≡ true
    → option_and_then (λ (s : Stop Fault). if is_given turns s.turn then Some s else None) first ≡ Some stop
is_kept turns first stop is given = rw is (rw given refl)

pub none_kept : {Fault : Type 0} (turns : Option ℕ) (first : Option (Stop Fault))
    → ((stop : Stop Fault) → first ≡ Some stop → is_given turns stop.turn ≡ false)
    → option_and_then (λ (s : Stop Fault). if is_given turns s.turn then Some s else None) first ≡ None
none_kept turns None not_given = refl
none_kept turns (Some stop) not_given = rw (not_given stop refl) refl
