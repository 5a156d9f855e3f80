-- Rounds of turns on a board.
use Rattle.std.proofs.Common.{◌≡◌, ◌≢◌, ℕ, ◌+◌, ◌-◌, ◌*◌, ◌%◌, ◌<◌, ◌≤◌, inl, inr, zero, suc, Bool, true, false}
use Rattle.std.proofs.Common.{List, [], ◌∷◌, ◌++◌, length, map, take, get_or, set, refl, ap, sym, subst, ◌∙◌, arith}
use Rattle.std.specs.Prelude.{Option, Some, None, is_none, Ok, Err, slice_get, nat_lt, ◌&&◌, ◌||◌, sum_by}
use Rattle.std.specs.List.{enumerate_from}
use Rattle.std.proofs.lemmas.Bool.{cases_eq}
use Rattle.std.proofs.lemmas.Bool.Decides.{nat_tests}
use Rattle.std.proofs.lemmas.List.{length-map, length-drop, take_all, drop_all}
use Rattle.std.proofs.lemmas.List.Sums.{sum_by-set}
use Rattle.std.proofs.lemmas.List.FromFn.{take-map-range_with_len, get_or-map-range_with_len, length-map-range_with_len}
use Rattle.std.proofs.lemmas.List.FromFn.{map-range_with_len_more, length-enumerate_from}
use Rattle.std.specs.Option.{option_map}
use Rattle.std.proofs.lemmas.Option.{slice_get-map, slice_get_within, slice_get-get_or, get_or_from_slice_get}
use Rattle.job_turns.specs.Turns.{Progress, progress_after, board_after, MeetsNoStop, TakesTurn, TurnOnBoard}
use Rattle.job_turns.specs.Turns.{KeepsItems, EndsAtFault}
use Rattle.job_turns.specs.declared.board.Turn.{Turn}
use Rattle.job_turns.specs.declared.board.TurnEnd.{TurnEnd}
use Rattle.job_turns.specs.declared.board.TurnEnd.TheVariants.{Full, Finished}
use Rattle.job_turns.specs.declared.board.BoardFault.{BoardFault}
use Rattle.job_turns.specs.declared.board.BoardFault.TheVariants.{Job, Memory}
use Rattle.job_turns.proofs.BoardLaws.{keeps_none, keeps_both}
use Rattle.job_turns.proofs.PlayLaws.{board_after-none, no_stop_in_none, play_more, play_ends, get-board_after}
use Rattle.job_turns.proofs.PlayLaws.{length-board_after, board_after-more}
use Rattle.std.proofs.lemmas.Nat.{mod-mul-add}
use Rattle.turn_rounds.specs.Rounds.{round_turn, round_turns, round_allowance, after_rounds, board_after_rounds}
use Rattle.turn_rounds.specs.Stops.{Stop, end_turn, first_from, first_stop, is_given}
use Rattle.turn_rounds.specs.Answers.{EndsRounds}
use Rattle.turn_rounds.proofs.ShareLaws.{allowance-its, allowance-grows, ended, not_ended, its_turn}
use Rattle.turn_rounds.proofs.StopLaws.{StopsAt, first_is, first_is_one, is_stop_of, is_kept, none_kept}

-- so many turns of rounds were given
pub record Gave {Item Fault : Type 0} (allow count : ℕ) (before now : List (Progress Item Fault)) : Type 0 where
  pub no_stop : MeetsNoStop (round_turns (length before) allow count) before
  pub given : now ≡ board_after (round_turns (length before) allow count) before
  pub kept : KeepsItems before now

pub gave_none : {Item Fault : Type 0} (allow : ℕ) (before : List (Progress Item Fault)) → Gave allow 0 before before
gave_none allow before = record {
  no_stop = no_stop_in_none before;
  given = sym (board_after-none before);
  kept = keeps_none before;
}

-- the turns before one of them, and the turn itself
turns_before : (jobs allow total count : ℕ) → count ≤ total
    → take count (round_turns jobs allow total) ≡ round_turns jobs allow count
turns_before jobs allow total count within = take-map-range_with_len (round_turn jobs allow) 0 total count within

turn_at : (jobs allow total count : ℕ) (d : Turn) → count < total
    → get_or (round_turns jobs allow total) count d ≡ round_turn jobs allow count
turn_at jobs allow total count d within =
    get_or-map-range_with_len (round_turn jobs allow) 0 total count count d within (omega arith)

within_turns : (jobs allow total count : ℕ) → count < total → count < length (round_turns jobs allow total)
within_turns jobs allow total count within =
    omega (arith, length-map-range_with_len (round_turn jobs allow) 0 total)

-- one turn more
pub gave_more : {Item Fault : Type 0} (allow count place : ℕ) (before now next : List (Progress Item Fault))
    (end : TurnEnd) → place ≡ count % length before → Gave allow count before now
    → TurnOnBoard place allow now (Ok end) next → KeepsItems now next → Gave allow (count + 1) before next
gave_more {Item} {Fault} allow count place before now next end is gave step kept =
    let n = length before in
    let turns = round_turns n allow (count + 1) in
    let d = round_turn n allow count in
    let first = turns_before n allow (count + 1) count (omega arith) in
    let at : TurnOnBoard (round_turn n allow count).job (round_turn n allow count).allow now (Ok end) next =
    subst (λ p. TurnOnBoard p allow now (Ok end) next) is step in
    let more = play_more turns count d before now next end (within_turns n allow (count + 1) count (omega arith))
    (subst (λ t. MeetsNoStop t before) (sym first) gave.no_stop)
    (gave.given ∙ ap (λ t. board_after t before) (sym first))
    (subst (λ (t : Turn). TurnOnBoard t.job t.allow now (Ok end) next)
    (sym (turn_at n allow (count + 1) count d (omega arith))) at) in
    let all = turns_before n allow (count + 1) (count + 1) (omega arith) in
    record {
      no_stop = subst (λ t. MeetsNoStop t before) all more.0;
      given = more.1 ∙ ap (λ t. board_after t before) all;
      kept = keeps_both before now next gave.kept kept;
    }

-- a turn that met a fault
pub plays_to_fault : {Item Fault : Type 0} (allow count total place : ℕ) (before now next : List (Progress Item Fault))
    (fault : BoardFault Fault) → count < total → place ≡ count % length before → Gave allow count before now
    → TurnOnBoard place allow now (Err fault) next
    → EndsAtFault (round_turns (length before) allow total) before fault next
plays_to_fault {Item} {Fault} allow count total place before now next fault within is gave step =
    let n = length before in
    let d = round_turn n allow count in
    let first = turns_before n allow total count (omega arith) in
    let at : TurnOnBoard (round_turn n allow count).job (round_turn n allow count).allow now (Err fault) next =
    subst (λ p. TurnOnBoard p allow now (Err fault) next) is step in
    play_ends (round_turns n allow total) count d before now next fault (within_turns n allow total count within)
    (subst (λ t. MeetsNoStop t before) (sym first) gave.no_stop)
    (gave.given ∙ ap (λ t. board_after t before) (sym first))
    (subst (λ (t : Turn). TurnOnBoard t.job t.allow now (Err fault) next)
    (sym (turn_at n allow total count d within)) at)

-- a job whose stop wasn't met was allowed no more than its items
not_met : {Item Fault : Type 0} (turns jobs place : ℕ) (allow : ℕ) (before : List (Progress Item Fault))
    (job : Progress Item Fault) (fault : Fault) → MeetsNoStop (round_turns jobs allow turns) before
    → slice_get before place ≡ Some job → job.stop ≡ Some fault
    → round_allowance jobs allow turns place ≤ length job.left
not_met turns jobs place allow before job fault none at stop =
    let more : length job.left < round_allowance jobs allow turns place → ⊥ =
    λ h. none place fault (record { job = job; at = at; stop = stop; allowed = h }) in
    omega (arith, more)

-- so it is met in none of these turns
meets_later : {Item Fault : Type 0} (allow count : ℕ) (before : List (Progress Item Fault)) (at : ℕ) (stop : Stop Fault)
    → 1 ≤ allow → MeetsNoStop (round_turns (length before) allow count) before
    → StopsAt (length before) allow 0 before at stop
    → (count ≤ stop.turn) × (stop.turn % length before ≡ at)
meets_later allow count before at stop some none stops =
    let n = length before in
    let e : 0 + at ≡ at = omega arith in
    let within : at < n = slice_get_within before at stops.job stops.is_there in
    let its = is_stop_of n allow at stops.job stop (rw e at stops.is_stop) in
    let fewer = not_met count n at allow before stops.job stop.fault none stops.is_there its.fault in (
      omega (arith, its.turn, not_ended n allow count at (length stops.job.left) some within fewer),
      ap (λ t. t % n) its.turn ∙ its_turn n allow at (length stops.job.left) within,
    )

-- where no stop is met in the turns that are given
pub no_first_stop : {Item Fault : Type 0} (allow count : ℕ) (before : List (Progress Item Fault)) → 1 ≤ allow
    → MeetsNoStop (round_turns (length before) allow count) before → first_stop allow (Some count) before ≡ None
no_first_stop {Item} {Fault} allow count before some none =
    let first = first_from (length before) allow 0 before in
    none_kept (Some count) first (λ stop is. (let one = first_is_one (length before) allow 0 before stop is in
    let later = meets_later allow count before one.0 stop some none one.1 in
    grind (arith, nat_tests, later.0)))

-- the job that has a turn, before the turns
record TurnOf {Item Fault : Type 0} (allow count place : ℕ) (before : List (Progress Item Fault))
    (old : Progress Item Fault) : Type 0 where
  within : place < length before
  job : Progress Item Fault
  at : slice_get before place ≡ Some job
  comes : old ≡ progress_after (round_allowance (length before) allow count place) job

turn_of : {Item Fault : Type 0} (allow count place : ℕ) (before now : List (Progress Item Fault))
    (old : Progress Item Fault) → Gave allow count before now → slice_get now place ≡ Some old
    → TurnOf allow count place before old
turn_of {Item} {Fault} allow count place before now old gave at =
    let turns = round_turns (length before) allow count in
    let within : place < length before =
    omega (arith, slice_get_within now place old at, ap length gave.given, length-board_after turns before) in
    let job = get_or before place old in
    let is_there : slice_get before place ≡ Some job = slice_get-get_or before place old within in
    let comes : Some (progress_after (round_allowance (length before) allow count place) job) ≡ Some old =
    sym (get-board_after turns place before job is_there) ∙ ap (λ l. slice_get l place) (sym gave.given) ∙ at in
    record { within = within; job = job; at = is_there; comes = cc }

-- a stop that a turn meets is the first
first_met : {Item Fault : Type 0} (allow count : ℕ) (turns : Option ℕ) (place : ℕ)
    (before now next : List (Progress Item Fault)) (job : ℕ) (fault : Fault) → 1 ≤ allow
    → is_given turns count ≡ true → place ≡ count % length before → Gave allow count before now
    → TurnOnBoard place allow now (Err (Job job fault)) next
    → first_stop allow turns before ≡ Some (record { turn = count; job = job; fault = fault })
first_met {Item} {Fault} allow count turns place before now next job fault some given is gave step =
    let n = length before in
    let met : Stop Fault = record { turn = count; job = job; fault = fault } in
    let its = turn_of allow count place before now step.old gave step.at in
    let old = step.old in
    let items = length its.job.left in
    let stop : its.job.stop ≡ Some fault = ap (λ (j : Progress Item Fault). j.stop) (sym its.comes) ∙ step.turn.1 in
    let left : length old.left ≡ items - round_allowance n allow count place =
    ap (λ (j : Progress Item Fault). length j.left) its.comes
    ∙ length-drop (round_allowance n allow count place) its.job.left in
    let fewer = not_met count n place allow before its.job fault gave.no_stop its.at stop in
    let more : items < round_allowance n allow (count + 1) place =
    omega (arith, allowance-its n allow count place (sym is), left, fewer, step.turn.0) in
    let turn : end_turn n allow place items ≡ count =
    omega (
      arith,
      ended n allow (count + 1) place items some its.within more,
      not_ended n allow count place items some its.within fewer,
    ) in
    let same_job : place ≡ job = sym step.turn.2 in
    let e : 0 + place ≡ place = omega arith in
    let stops : StopsAt n allow 0 before place met = record {
      job = its.job;
      is_there = its.at;
      is_stop = rw (e, stop, turn, same_job) refl;
    } in
    let later : (other : ℕ) (stop' : Stop Fault) → other ≢ place → StopsAt n allow 0 before other stop'
    → met.turn < stop'.turn =
    λ other stop' differs one. (let late = meets_later allow count before other stop' some gave.no_stop one in
    let apart : stop'.turn ≢ count = λ same. differs (sym late.1 ∙ ap (λ t. t % n) same ∙ sym is) in
    omega (arith, late.0, apart)) in
    is_kept turns (first_from n allow 0 before) met (first_is n allow 0 before place met stops later) given

-- what comes of a fault
pub ends_at_fault : {Item Fault : Type 0} (allow count : ℕ) (turns : Option ℕ) (place : ℕ)
    (before now next : List (Progress Item Fault)) (fault : BoardFault Fault) → 1 ≤ allow
    → is_given turns count ≡ true → place ≡ count % length before → Gave allow count before now
    → TurnOnBoard place allow now (Err fault) next → EndsRounds allow turns before (Err fault) next
ends_at_fault {Item} {Fault} allow count turns place before now next (Job job fault) some given is gave step =
    let n = length before in
    let turn = round_turn n allow count in
    let turns_now = round_turns n allow count in
    let old = step.old in
    let at : slice_get (board_after turns_now before) turn.job ≡ Some old =
    ap (λ p. slice_get (board_after turns_now before) p) (sym is) ∙ ap (λ l. slice_get l place) (sym gave.given)
    ∙ step.at in
    let more : round_turns n allow (count + 1) ≡ turns_now ++ turn ∷ [] =
    map-range_with_len_more (round_turn n allow) 0 count count (omega arith) in (
      count,
      first_met allow count turns place before now next job fault some given is gave step,
      step.others ∙ ap (λ l. set l place step.new) gave.given
          ∙ ap (λ p. set (board_after turns_now before) p step.new) is
          ∙ board_after-more turns_now turn before old step.new at step.turn.3
          ∙ ap (λ t. board_after t before) (sym more),
    )
ends_at_fault allow count turns place before now next Memory some given is gave step = tt

-- within so many turns
pub ends_within : {Item Fault : Type 0} (allow count total place : ℕ) (before now next : List (Progress Item Fault))
    (fault : BoardFault Fault) → 1 ≤ allow → count < total → place ≡ count % length before → Gave allow count before now
    → TurnOnBoard place allow now (Err fault) next → EndsRounds allow (Some total) before (Err fault) next
ends_within allow count total place before now next fault some within is gave step =
    let given : nat_lt count total ≡ true = grind (arith, nat_tests) in
    ends_at_fault allow count (Some total) place before now next fault some given is gave step

-- two ways to go over the jobs
same_after : {X : Type 0} (f g : ℕ → X → X) (place : ℕ) (list : List X)
    → ((at : ℕ) (x : X) → slice_get list at ≡ Some x → f (place + at) x ≡ g (place + at) x)
    → map (λ job. f job.0 job.1) (enumerate_from place list) ≡ map (λ job. g job.0 job.1) (enumerate_from place list)
same_after f g place [] same = refl
same_after {X} f g place (x ∷ list) same =
    let e : place + 0 ≡ place = omega arith in
    let own : f (place + 0) x ≡ g (place + 0) x = same 0 x refl in
    let first : f place x ≡ g place x = rw e at own in
    let rest : (at : ℕ) (y : X) → slice_get list at ≡ Some y → f (place + 1 + at) y ≡ g (place + 1 + at) y =
    λ at y is. (let next : place + suc at ≡ place + 1 + at = omega arith in
    let its : f (place + suc at) y ≡ g (place + suc at) y = same (suc at) y is in rw next at its) in
    rw (first, same_after f g (place + 1) list rest) refl

-- a job after its turns, where its stop wasn't met
below_and : (stop : Bool) (done fewer : Bool) → (stop ≡ false → fewer ≡ false)
    → (done || (fewer && stop)) ≡ (done || fewer)
below_and true done true same = refl
below_and true done false same = refl
below_and false done fewer same = rw (same refl) refl

stop_is : {Fault : Type 0} (stop : Option Fault) → is_none stop ≡ false → (fault : Fault) × (stop ≡ Some fault)
stop_is None is = absurd (cc)
stop_is (Some fault) is = (fault, refl)

part_given : {Item Fault : Type 0} (jobs allow count place : ℕ) (job : Progress Item Fault)
    → ((fault : Fault) → job.stop ≡ Some fault → round_allowance jobs allow count place ≤ length job.left)
    → progress_after (round_allowance jobs allow count place) job ≡ after_rounds jobs allow (Some count) place job
part_given jobs allow count place job fewer =
    let allowed = round_allowance jobs allow count place in
    let done : (job.finished || (nat_lt (length job.left) allowed && is_none job.stop))
    ≡ (job.finished || nat_lt (length job.left) allowed) =
    below_and (is_none job.stop) job.finished (nat_lt (length job.left) allowed)
    (λ is. (let stop = stop_is job.stop is in grind (arith, nat_tests, fewer stop.0 stop.1))) in
    rw done refl

-- what comes of so many turns that met no stop
pub ends_with_turns : {Item Fault : Type 0} (allow count : ℕ) (before now : List (Progress Item Fault)) → 1 ≤ allow
    → Gave allow count before now
    → (first_stop allow (Some count) before ≡ None) × (now ≡ board_after_rounds allow (Some count) before)
ends_with_turns allow count before now some gave =
    let n = length before in (
      no_first_stop allow count before some gave.no_stop,
      gave.given ∙ same_after (λ place job. progress_after (round_allowance n allow count place) job)
          (after_rounds n allow (Some count)) 0 before
          (λ at job is. (let e : 0 + at ≡ at = omega arith in
          rw e (part_given n allow count at job
          (λ fault stop. not_met count n at allow before job fault gave.no_stop is stop)))),
    )

-- the first jobs have no item left, no stop, and were told that nothing is left
abbrev pub HaveEnded : {Item Fault : Type 0} → ℕ → ℕ → ℕ → List (Progress Item Fault) → Type 0
HaveEnded {Item} {Fault} allow count upto before = (at : ℕ) (job : Progress Item Fault) → at < upto
    → slice_get before at ≡ Some job
    → (job.stop ≡ None) × (length job.left < round_allowance (length before) allow count at)

pub none_ended : {Item Fault : Type 0} (allow count : ℕ) (before : List (Progress Item Fault))
    → HaveEnded allow count 0 before
none_ended allow count before at job none is = absurd (omega arith)

pub one_ended : {Item Fault : Type 0} (allow count place gave : ℕ) (before now next : List (Progress Item Fault))
    → place ≡ count % length before → Gave allow count before now
    → TurnOnBoard place allow now (Ok (Finished gave)) next
    → HaveEnded allow count place before → HaveEnded allow (count + 1) (place + 1) before
one_ended {Item} {Fault} allow count place gave before now next is state step ended at job within is_there =
    elim (cases_eq at place) [
      | inl same ↦ (
          let n = length before in
          let its = turn_of allow count place before now step.old state step.at in
          let same_job : Some its.job ≡ Some job = sym its.at ∙ ap (λ p. slice_get before p) (sym same) ∙ is_there in
          let job_is : its.job ≡ job = cc in
          let left : length step.old.left ≡ length its.job.left - round_allowance n allow count place =
          ap (λ (j : Progress Item Fault). length j.left) its.comes
          ∙ length-drop (round_allowance n allow count place) its.job.left in
          let more : length its.job.left < round_allowance n allow (count + 1) place =
          omega (arith, allowance-its n allow count place (sym is), left, step.turn.0) in
          let stop : its.job.stop ≡ None = ap (λ (j : Progress Item Fault). j.stop) (sym its.comes) ∙ step.turn.1 in
          (rw job_is at stop, rw (same, sym job_is) more))
      | inr other ↦ (
          let before_it = ended at job (omega (arith, within, other)) is_there in
          (before_it.0, omega (arith, before_it.1, allowance-grows (length before) allow count at)))
    ]

whole_given : {Item Fault : Type 0} (jobs allow count place : ℕ) (job : Progress Item Fault) → job.stop ≡ None
    → length job.left < round_allowance jobs allow count place
    → progress_after (round_allowance jobs allow count place) job ≡ after_rounds jobs allow None place job
whole_given jobs allow count place job stop more =
    let allowed = round_allowance jobs allow count place in
    let test : nat_lt (length job.left) allowed ≡ true = grind (arith, nat_tests) in
    rw (take_all allowed job.left (omega arith), drop_all allowed job.left (omega arith), test, ap is_none stop) refl

-- what comes of turns after which all have ended
pub ends_with_all : {Item Fault : Type 0} (allow count : ℕ) (before now : List (Progress Item Fault))
    → Gave allow count before now → HaveEnded allow count (length before) before
    → (first_stop allow None before ≡ None) × (now ≡ board_after_rounds allow None before)
ends_with_all {Item} {Fault} allow count before now gave ended =
    let n = length before in
    let first = first_from n allow 0 before in (
      none_kept None first (λ stop is. (let one = first_is_one n allow 0 before stop is in
          let at = one.0 in
          let e : 0 + at ≡ at = omega arith in
          let its = is_stop_of n allow at one.1.job stop (rw e at one.1.is_stop) in
          let none = ended at one.1.job (slice_get_within before at one.1.job one.1.is_there) one.1.is_there in
          absurd (let fault = its.fault in let no_stop = none.0 in cc))),
      gave.given ∙ same_after (λ place job. progress_after (round_allowance n allow count place) job)
          (after_rounds n allow None) 0 before
          (λ at job is. (let e : 0 + at ≡ at = omega arith in
          let one = ended at job (slice_get_within before at job is) is in
          rw e (whole_given n allow count at job one.0 one.1))),
    )

get-enumerated : {X : Type 0} (first : ℕ) (list : List X) (place : ℕ) (x : X) → slice_get list place ≡ Some x
    → slice_get (enumerate_from first list) place ≡ Some (first + place, x)
get-enumerated first [] place x is = absurd (cc)
get-enumerated {X} first (y ∷ list) zero x is =
    let e : first + 0 ≡ first = omega arith in
    rw e (ap (option_map (λ (z : X). let pair : ℕ × X = (first, z) in pair)) is)
get-enumerated first (y ∷ list) (suc place) x is =
    let e : first + suc place ≡ first + 1 + place = omega arith in rw e (get-enumerated (first + 1) list place x is)

-- the job at a place after rounds that met no stop
pub get-board_after_rounds : {Item Fault : Type 0} (allow : ℕ) (turns : Option ℕ) (jobs : List (Progress Item Fault))
    (place : ℕ) (job : Progress Item Fault) → slice_get jobs place ≡ Some job
    → slice_get (board_after_rounds allow turns jobs) place ≡ Some (after_rounds (length jobs) allow turns place job)
get-board_after_rounds {Item} {Fault} allow turns jobs place job is =
    let n = length jobs in
    let e : 0 + place ≡ place = omega arith in
    let here : slice_get (enumerate_from 0 jobs) place ≡ Some (0 + place, job) = get-enumerated 0 jobs place job is in
    slice_get-map (λ job. after_rounds n allow turns job.0 job.1) (enumerate_from 0 jobs) place
    ∙ ap (option_map (λ job. after_rounds n allow turns job.0 job.1))
    (rw e at here)

pub length-board_after_rounds : {Item Fault : Type 0} (allow : ℕ) (turns : Option ℕ)
    (jobs : List (Progress Item Fault)) → length (board_after_rounds allow turns jobs) ≡ length jobs
length-board_after_rounds allow turns jobs =
    length-map (enumerate_from 0 jobs) (λ job. after_rounds (length jobs) allow turns job.0 job.1)
    ∙ length-enumerate_from 0 jobs

-- how many items all jobs have left
abbrev pub items_left : {Item Fault : Type 0} → List (Progress Item Fault) → ℕ
items_left jobs = sum_by (λ job. length job.left) jobs

left_in_turn : {Item Fault : Type 0} (place allow : ℕ) (old new : Progress Item Fault) (end : TurnEnd)
    → TakesTurn place allow old (Ok end) new → length new.left ≡ length old.left - allow
left_in_turn {Item} {Fault} place allow old new Full takes =
    ap (λ (j : Progress Item Fault). length j.left) takes.1 ∙ length-drop allow old.left
left_in_turn {Item} {Fault} place allow old new (Finished gave) takes =
    ap (λ (j : Progress Item Fault). length j.left) takes.3 ∙ length-drop allow old.left

pub fewer_left : {Item Fault : Type 0} (place allow : ℕ) (now next : List (Progress Item Fault)) (end : TurnEnd)
    → TurnOnBoard place allow now (Ok end) next → items_left next ≤ items_left now
fewer_left {Item} {Fault} place allow now next end step =
    let left : Progress Item Fault → ℕ = λ job. length job.left in
    let within = slice_get_within now place step.old step.at in
    let old : left (get_or now place step.old) ≡ left step.old =
    ap left (get_or_from_slice_get now place step.old step.old step.at) in
    let new : left step.new ≡ left step.old - allow = left_in_turn place allow step.old step.new end step.turn in
    let sum = sum_by-set left now place step.new step.old within in
    let is : items_left next ≡ sum_by left (set now place step.new) = ap items_left step.others in
    omega (arith, sum, old, new, is)

-- a turn that gives all that it allows leaves fewer
pub less_left : {Item Fault : Type 0} (place allow : ℕ) (now next : List (Progress Item Fault)) → 1 ≤ allow
    → TurnOnBoard place allow now (Ok Full) next → items_left next < items_left now
less_left {Item} {Fault} place allow now next some step =
    let left : Progress Item Fault → ℕ = λ job. length job.left in
    let within = slice_get_within now place step.old step.at in
    let old : left (get_or now place step.old) ≡ left step.old =
    ap left (get_or_from_slice_get now place step.old step.old step.at) in
    let new : left step.new ≡ left step.old - allow = left_in_turn place allow step.old step.new Full step.turn in
    let sum = sum_by-set left now place step.new step.old within in
    let is : items_left next ≡ sum_by left (set now place step.new) = ap items_left step.others in
    omega (arith, sum, old, new, is, step.turn.0)

-- Rounds and a part of one were given. Where no turn of the part was full its jobs have ended, and else there are fewer
-- items left than before it.
pub record InRound {Item Fault : Type 0} (allow rounds jobs place : ℕ) (is_open : Bool)
    (before start now : List (Progress Item Fault)) : Type 0 where
  pub gave : Gave allow (rounds * jobs + place) before now
  pub ended : is_open ≡ false → HaveEnded allow (rounds * jobs + place) place before
  pub fewer : items_left now ≤ items_left start
  pub less : is_open ≡ true → items_left now < items_left start

-- a turn of the part
pub its_place : {Item Fault : Type 0} (rounds jobs place : ℕ) (before : List (Progress Item Fault))
    → jobs ≡ length before → place < jobs → place ≡ (rounds * jobs + place) % length before
its_place rounds jobs place before is within =
    sym (mod-mul-add rounds jobs place within) ∙ ap (λ n. (rounds * jobs + place) % n) is

pub round_goes_on : {Item Fault : Type 0} (allow rounds jobs place : ℕ) (was_open is_open : Bool)
    (before start now next : List (Progress Item Fault)) (end : TurnEnd) → 1 ≤ allow → jobs ≡ length before
    → place < jobs → InRound allow rounds jobs place was_open before start now
    → TurnOnBoard place allow now (Ok end) next → KeepsItems now next
    → (end ≡ Full → is_open ≡ true) → ((gave : ℕ) → end ≡ Finished gave → is_open ≡ was_open)
    → InRound allow rounds jobs (place + 1) is_open before start next
round_goes_on allow rounds jobs place was_open is_open before start now next Full some count within state step kept full
    finished =
    let turn : rounds * jobs + (place + 1) ≡ rounds * jobs + place + 1 = omega arith in
    let more = gave_more allow (rounds * jobs + place) place before now next Full
    (its_place rounds jobs place before count within) state.gave step kept in
    let less = less_left place allow now next some step in
    let open_now = full refl in
    record {
      gave = rw turn more;
      ended = λ closed. absurd (cc);
      fewer = omega (arith, less, state.fewer);
      less = λ _. omega (arith, less, state.fewer);
    }
round_goes_on {Item} {Fault} allow rounds jobs place was_open is_open before start now next (Finished gave) some count
    within state step kept full finished =
    let turn : rounds * jobs + (place + 1) ≡ rounds * jobs + place + 1 = omega arith in
    let at = its_place rounds jobs place before count within in
    let more = gave_more allow (rounds * jobs + place) place before now next (Finished gave) at state.gave step kept in
    let fewer = fewer_left place allow now next (Finished gave) step in
    let same = finished gave refl in
    record {
      gave = rw turn more;
      ended = λ closed. rw turn (one_ended allow (rounds * jobs + place) place gave before now next at state.gave step
          (state.ended (sym same ∙ closed)));
      fewer = omega (arith, fewer, state.fewer);
      less = λ opened. omega (arith, fewer, state.less (sym same ∙ opened));
    }

-- no round yet
pub before_rounds : {Item Fault : Type 0} (allow jobs : ℕ) (before : List (Progress Item Fault))
    → Gave allow (0 * jobs) before before × (true ≡ false → HaveEnded allow (0 * jobs) jobs before)
before_rounds allow jobs before =
    let none : 0 * jobs ≡ 0 = omega arith in (rw none (gave_none allow before), λ closed. absurd (cc))

-- a whole round
pub round_ends : {Item Fault : Type 0} (allow rounds jobs place : ℕ) (is_open : Bool)
    (before start now : List (Progress Item Fault)) → place ≡ jobs
    → InRound allow rounds jobs place is_open before start now
    → Gave allow ((rounds + 1) * jobs) before now
    × (is_open ≡ false → HaveEnded allow ((rounds + 1) * jobs) jobs before)
round_ends {Item} {Fault} allow rounds jobs place is_open before start now all state =
    let turns : rounds * jobs + place ≡ (rounds + 1) * jobs = grind arith in (
      subst (λ k. Gave allow k before now) turns state.gave,
      λ closed. subst (λ p. HaveEnded allow ((rounds + 1) * jobs) p before) all
          (subst (λ k. HaveEnded allow k place before) turns (state.ended closed)),
    )
