-- Parts of a run, one after another.
use Rattle.std.proofs.Common.{◌≡◌, ℕ, ◌+◌, ◌<◌, min, List, [], ◌++◌, length, take, refl, sym, ap, ◌∙◌, subst, arith, length-append, inl, inr}
use Rattle.std.specs.Prelude.{Option, Some, None, Result, Ok, Err, IfSome, slice_get, ◌⊎◌}
use Rattle.std.proofs.lemmas.List.{take_all, append-nil, append_assoc, take-append-le, get_or_append_left, get_or-append-add}
use Rattle.std.proofs.lemmas.Option.{slice_get_within, slice_get-get_or, get_or_from_slice_get}
use Rattle.std.proofs.Math.Seq.{take-append-add}
use Rattle.std.proofs.lemmas.Grind.{common_steps}
use Rattle.outside_ports.specs.Files.{Files}
use Rattle.command_io.specs.Asked.{Asked, Names, asks_none, asks_next, ◌and_then◌}
use Rattle.command_io.specs.Parts.{AnswersAs, AsksNames, CountsReads, IsPart, OnlyReads, Shelved}
use Rattle.command_io.specs.Refusals.{GivesInput, or_refusal}
use Rattle.command_io.specs.declared.input_fault.InputFault.{InputFault}
use Rattle.command_io.specs.declared.refusal.Refusal.{Refusal}
use Rattle.command_io.specs.declared.refusal.Refusal.TheVariants.{Words, Input, ReadFault, WriteFault, Memory}

-- what holds of all, holds of what there is
pub if_some_of : {T : Type 0} (o : Option T) (P : T → Type 0) → ((x : T) → P x) → IfSome o P
if_some_of None P holds = tt
if_some_of (Some x) P holds = holds x

pub if_some_map : {T : Type 0} (o : Option T) (P Q : T → Type 0) → ((x : T) → P x → Q x) → IfSome o P → IfSome o Q
if_some_map None P Q step given = tt
if_some_map (Some x) P Q step given = step x given

if_some_both : {T : Type 0} (o : Option T) (P Q R : T → Type 0) → ((x : T) → P x → Q x → R x) → IfSome o P →
    IfSome o Q → IfSome o R
if_some_both None P Q R step p q = tt
if_some_both (Some x) P Q R step p q = step x p q

-- all names were asked
pub all_names : (names before after : Names) → after ≡ before ++ names →
    (asked : ℕ) × (after ≡ before ++ take asked names)
all_names names before after is =
    (length names, is ∙ ap (λ ns. before ++ ns) (sym (take_all (length names) names (omega arith))))

no_names : (names before : Names) → before ≡ before ++ take 0 names
no_names names before = sym (append-nil before)

-- all names were asked, or none
pub asked_or_not : (names before after : Names) (P : Type 0) →
    (after ≡ before ++ names) ⊎ ((after ≡ before) × P) → (asked : ℕ) × (after ≡ before ++ take asked names)
asked_or_not names before after P (inl all) = all_names names before after all
asked_or_not names before after P (inr none) = (0, none.0 ∙ no_names names before)

-- ---- names of one part and of another behind it

take_front : (k : ℕ) (xs ys : Names) → take (min k (length xs)) (xs ++ ys) ≡ take k xs
take_front k xs ys = grind (arith, take-append-le, take_all, common_steps)

first_of_both : (names others before after : Names) → ((asked : ℕ) × (after ≡ before ++ take asked names)) →
    (asked : ℕ) × (after ≡ before ++ take asked (names ++ others))
first_of_both names others before after some =
    (min some.0 (length names), some.1 ∙ ap (λ ns. before ++ ns) (sym (take_front some.0 names others)))

behind_both : (names others before middle after : Names) → middle ≡ before ++ names →
    ((asked : ℕ) × (after ≡ middle ++ take asked others)) →
    (asked : ℕ) × (after ≡ before ++ take asked (names ++ others))
behind_both names others before middle after is some = (
  length names + some.0,
  some.1 ∙ ap (λ ns. ns ++ take some.0 others) is ∙ append_assoc before names (take some.0 others)
      ∙ ap (λ ns. before ++ ns) (sym (take-append-add names others some.0)),
)

there_in_front : (names others : Names) (i : ℕ) (name : List ℕ) → slice_get names i ≡ Some name →
    slice_get (names ++ others) i ≡ Some name
there_in_front names others i name is =
    let within : i < length names = slice_get_within names i name is in
    slice_get-get_or (names ++ others) i name (omega (arith, within, length-append names others))
    ∙ ap Some (get_or_append_left names others name i within ∙ get_or_from_slice_get names i name name is)

there_behind : (names others : Names) (i : ℕ) (name : List ℕ) → slice_get others i ≡ Some name →
    slice_get (names ++ others) (length names + i) ≡ Some name
there_behind names others i name is =
    let within : i < length others = slice_get_within others i name is in
    slice_get-get_or (names ++ others) (length names + i) name (omega (arith, within, length-append names others))
    ∙ ap Some (get_or-append-add names others i name ∙ get_or_from_slice_get others i name name is)

last_taken : (names others before after : Names) (i : ℕ) (name : List ℕ) → slice_get names i ≡ Some name →
    after ≡ before ++ take (i + 1) names → after ≡ before ++ take (i + 1) (names ++ others)
last_taken names others before after i name is asked =
    let within : i < length names = slice_get_within names i name is in
    asked ∙ ap (λ ns. before ++ ns) (sym (take-append-le (i + 1) names others (omega (arith, within))))

last_behind : (names others before middle after : Names) (i : ℕ) → middle ≡ before ++ names →
    after ≡ middle ++ take (i + 1) others → after ≡ before ++ take (length names + i + 1) (names ++ others)
last_behind names others before middle after i is asked =
    asked ∙ ap (λ ns. ns ++ take (i + 1) others) is ∙ append_assoc before names (take (i + 1) others)
    ∙ ap (λ ns. before ++ ns) (sym (take-append-add names others (i + 1))
    ∙ ap (λ (n : ℕ). take n (names ++ others)) (omega arith))

asks_stop : (X Y : Type 0) (names others before after : Names) (refusal : Refusal) →
    AsksNames {X = X} names before after (Err refusal) → AsksNames {X = Y} (names ++ others) before after (Err refusal)
asks_stop X Y names others before after (ReadFault name) asks = (
  asks.0,
  there_in_front names others asks.0 name asks.1,
  last_taken names others before after asks.0 name asks.1 asks.2,
)
asks_stop X Y names others before after (Words fault) asks = first_of_both names others before after asks
asks_stop X Y names others before after (Input fault) asks = first_of_both names others before after asks
asks_stop X Y names others before after WriteFault asks = first_of_both names others before after asks
asks_stop X Y names others before after Memory asks = first_of_both names others before after asks

asks_behind : {X : Type 0} (names others before middle after : Names) (answered : Result X Refusal) →
    middle ≡ before ++ names → AsksNames others middle after answered →
    AsksNames (names ++ others) before after answered
asks_behind names others before middle after (Ok x) is asks =
    asks ∙ ap (λ ns. ns ++ others) is ∙ append_assoc before names others
asks_behind names others before middle after (Err (ReadFault name)) is asks = (
  length names + asks.0,
  there_behind names others asks.0 name asks.1,
  last_behind names others before middle after asks.0 is asks.2,
)
asks_behind names others before middle after (Err (Words fault)) is asks =
    behind_both names others before middle after is asks
asks_behind names others before middle after (Err (Input fault)) is asks =
    behind_both names others before middle after is asks
asks_behind names others before middle after (Err WriteFault) is asks =
    behind_both names others before middle after is asks
asks_behind names others before middle after (Err Memory) is asks =
    behind_both names others before middle after is asks

-- ---- the same refusal of another answer

counts_same : (X Y : Type 0) (before after : ℕ) (refusal : Refusal) → CountsReads {X = X} before after (Err refusal) →
    CountsReads {X = Y} before after (Err refusal)
counts_same X Y before after (ReadFault name) counts = counts
counts_same X Y before after (Words fault) counts = counts
counts_same X Y before after (Input fault) counts = counts
counts_same X Y before after WriteFault counts = counts
counts_same X Y before after Memory counts = counts

pub reads_same : (X Y : Type 0) (refusal : Refusal) → OnlyReads {X = X} (Err refusal) → OnlyReads {X = Y} (Err refusal)
reads_same X Y (ReadFault name) only = tt
reads_same X Y (Words fault) only = absurd only
reads_same X Y (Input fault) only = tt
reads_same X Y WriteFault only = absurd only
reads_same X Y Memory only = tt

-- ---- answers of one part and of another behind it

-- what comes of two parts where the first has a value
and_then-ok : {A B : Type 0} (first : Asked A) (next : A → Asked B) (x : A) → first.result ≡ Ok x →
    (first and_then next) ≡ record { names = first.names ++ (next x).names; result = (next x).result }
and_then-ok first next x is = ap (λ r. asks_next first.names r next) is

first_names : {A B : Type 0} (names : Names) (result : Result A Refusal) (next : A → Asked B) (before after : Names) →
    ((asked : ℕ) × (after ≡ before ++ take asked names)) →
    (asked : ℕ) × (after ≡ before ++ take asked (asks_next names result next).names)
first_names names (Ok x) next before after some = first_of_both names (next x).names before after some
first_names names (Err refusal) next before after some = some

pub answers_stop : {X Y A B : Type 0} (view : X → A) (view_of_all : Y → B) (first : Asked A) (next : A → Asked B)
    (before after : Names) (refusal : Refusal) → AnswersAs {X = X} view first before after (Err refusal) →
    AnswersAs {X = Y} view_of_all (first and_then next) before after (Err refusal)
answers_stop {Y = Y} view view_of_all first next before after (Input fault) answers =
    subst (λ e. AnswersAs {X = Y} view_of_all e before after (Err (Input fault)))
    (sym (ap (λ r. asks_next first.names r next) answers.0)) (refl, answers.1)
answers_stop view view_of_all first next before after (Words fault) answers =
    first_names first.names first.result next before after answers
answers_stop view view_of_all first next before after (ReadFault name) answers =
    first_names first.names first.result next before after answers
answers_stop view view_of_all first next before after WriteFault answers =
    first_names first.names first.result next before after answers
answers_stop view view_of_all first next before after Memory answers =
    first_names first.names first.result next before after answers

answers_behind : {X A : Type 0} (view : X → A) (names : Names) (expected : Asked A) (before middle after : Names)
    (answered : Result X Refusal) → middle ≡ before ++ names → AnswersAs view expected middle after answered →
    AnswersAs view (record { names = names ++ expected.names; result = expected.result }) before after answered
answers_behind view names expected before middle after (Ok x) is answers =
    (answers.0, answers.1 ∙ ap (λ ns. ns ++ expected.names) is ∙ append_assoc before names expected.names)
answers_behind view names expected before middle after (Err (Input fault)) is answers =
    (answers.0, answers.1 ∙ ap (λ ns. ns ++ expected.names) is ∙ append_assoc before names expected.names)
answers_behind view names expected before middle after (Err (Words fault)) is answers =
    behind_both names expected.names before middle after is answers
answers_behind view names expected before middle after (Err (ReadFault name)) is answers =
    behind_both names expected.names before middle after is answers
answers_behind view names expected before middle after (Err WriteFault) is answers =
    behind_both names expected.names before middle after is answers
answers_behind view names expected before middle after (Err Memory) is answers =
    behind_both names expected.names before middle after is answers

answers_next : {X Y A B : Type 0} (view : X → A) (view_of_all : Y → B) (first : Asked A) (next : A → Asked B)
    (before middle after : Names) (x : X) (answered : Result Y Refusal) →
    AnswersAs {X = X} view first before middle (Ok x) →
    AnswersAs view_of_all (next (view x)) middle after answered →
    AnswersAs view_of_all (first and_then next) before after answered
answers_next view view_of_all first next before middle after x answered one two =
    subst (λ e. AnswersAs view_of_all e before after answered) (sym (and_then-ok first next (view x) one.0))
    (answers_behind view_of_all first.names (next (view x)) before middle after answered one.1 two)

-- ---- parts

-- a part is refused, and then the whole is
pub part_stop : {X Y A B : Type 0} (view : X → A) (view_of_all : Y → B) (names others : Names)
    (first : Files → Asked A) (next : A → Files → Asked B) (before after : Shelved) (refusal : Refusal) →
    IsPart {X = X} view names first before after (Err refusal) →
    IsPart {X = Y} view_of_all (names ++ others) (λ files. first files and_then λ y. next y files) before after
    (Err refusal)
part_stop {X = X} {Y = Y} view view_of_all names others first next before after refusal part = record {
  held = part.held;
  reads = record {
    asks = asks_stop X Y names others before.asked after.asked refusal part.reads.asks;
    counts = counts_same X Y before.faults after.faults refusal part.reads.counts;
    only_reads = reads_same X Y refusal part.reads.only_reads;
  };
  answers = if_some_map before.held _ _ (λ files answers. answers_stop view view_of_all (first files)
      (λ y. next y files) before.asked after.asked refusal answers) part.answers;
}

-- a part is behind another one that answered
pub part_next : {X Y A B : Type 0} (view : X → A) (view_of_all : Y → B) (names others : Names)
    (first : Files → Asked A) (next : A → Files → Asked B) (before middle after : Shelved) (x : X)
    (answered : Result Y Refusal) → IsPart {X = X} view names first before middle (Ok x) →
    IsPart view_of_all others (next (view x)) middle after answered →
    IsPart view_of_all (names ++ others) (λ files. first files and_then λ y. next y files) before after answered
part_next view view_of_all names others first next before middle after x answered one two = record {
  held = two.held ∙ one.held;
  reads = record {
    asks = asks_behind names others before.asked middle.asked after.asked answered one.reads.asks two.reads.asks;
    counts = subst (λ (n : ℕ). CountsReads n after.faults answered) one.reads.counts two.reads.counts;
    only_reads = two.reads.only_reads;
  };
  answers = if_some_both before.held _ _ _
      (λ files a b. answers_next view view_of_all (first files) (λ y. next y files) before.asked middle.asked
      after.asked x answered a b) one.answers
      (subst (λ o. IfSome o (λ files. AnswersAs view_of_all (next (view x) files) middle.asked after.asked answered))
      one.held two.answers);
}

-- memory may run out before anything is asked for
pub part_memory : {X A : Type 0} (view : X → A) (names : Names) (expected : Files → Asked A) (before : Shelved) →
    IsPart view names expected before before (Err Memory)
part_memory view names expected before = record {
  held = refl;
  reads = record { asks = (0, no_names names before.asked); counts = omega arith; only_reads = tt };
  answers = if_some_of before.held _ (λ files. (0, no_names (expected files).names before.asked));
}

-- a fault of what was given, of which no file is asked for
fault_there : {X A : Type 0} (view : X → A) (names : Names) (expected : Files → Asked A) (before : Shelved)
    (fault : InputFault) → ((files : Files) → expected files ≡ record { names = []; result = Err (Input fault) }) →
    IsPart view names expected before before (Err (Input fault))
fault_there {X = X} view names expected before fault is = record {
  held = refl;
  reads = record { asks = (0, no_names names before.asked); counts = refl; only_reads = tt };
  answers = if_some_of before.held _ (λ files.
      subst (λ e. AnswersAs {X = X} view e before.asked before.asked (Err (Input fault)))
      (sym (is files)) (refl, sym (append-nil before.asked)));
}

-- a step that asks for no file is refused
pub given_stop : {X Y A B : Type 0} (view : X → A) (view_of_all : Y → B) (names : Names) (step : Result A InputFault)
    (next : A → Files → Asked B) (before : Shelved) (refusal : Refusal) → GivesInput {X = X} view step (Err refusal) →
    IsPart {X = Y} view_of_all names (λ files. asks_none step and_then λ y. next y files) before before (Err refusal)
given_stop view view_of_all names step next before (Input fault) gives =
    fault_there view_of_all names (λ files. asks_none step and_then λ y. next y files) before fault
    (λ files. ap (λ r. asks_next [] (or_refusal r) (λ y. next y files)) gives)
given_stop view view_of_all names step next before Memory gives =
    part_memory view_of_all names (λ files. asks_none step and_then λ y. next y files) before
given_stop view view_of_all names step next before (Words fault) gives = absurd gives
given_stop view view_of_all names step next before (ReadFault name) gives = absurd gives
given_stop view view_of_all names step next before WriteFault gives = absurd gives

-- a part is behind a step that asks for no file
pub given_next : {Y A B : Type 0} (view_of_all : Y → B) (names : Names) (step : Result A InputFault)
    (next : A → Files → Asked B) (before after : Shelved) (x : A) (answered : Result Y Refusal) → step ≡ Ok x →
    IsPart view_of_all names (next x) before after answered →
    IsPart view_of_all names (λ files. asks_none step and_then λ y. next y files) before after answered
given_next view_of_all names step next before after x answered is part =
    subst (λ (s : Result _ InputFault).
    IsPart view_of_all names (λ files. asks_none s and_then λ y. next y files) before after answered) (sym is) part

-- a part that asks for no file
pub given_end : {X A : Type 0} (view : X → A) (step : Result A InputFault) (before : Shelved)
    (answered : Result X Refusal) → GivesInput view step answered →
    IsPart view [] (λ files. asks_none step) before before answered
given_end {X = X} view step before (Ok x) gives = record {
  held = refl;
  reads = record { asks = sym (append-nil before.asked); counts = refl; only_reads = tt };
  answers = if_some_of before.held _ (λ files. (ap or_refusal gives, sym (append-nil before.asked)));
}
given_end view step before (Err (Input fault)) gives =
    fault_there view [] (λ files. asks_none step) before fault (λ files. ap asks_none gives)
given_end view step before (Err Memory) gives = part_memory view [] (λ files. asks_none step) before
given_end view step before (Err (Words fault)) gives = absurd gives
given_end view step before (Err (ReadFault name)) gives = absurd gives
given_end view step before (Err WriteFault) gives = absurd gives

-- what asks for no file is behind a part that answered
pub part_end : {X Y A B : Type 0} (view : X → A) (view_of_all : Y → B) (names : Names) (first : Files → Asked A)
    (next : A → Result B InputFault) (before after : Shelved) (x : X) (answered : Result Y Refusal) →
    IsPart {X = X} view names first before after (Ok x) → GivesInput view_of_all (next (view x)) answered →
    IsPart view_of_all names (λ files. first files and_then λ y. asks_none (next y)) before after answered
part_end view view_of_all names first next before after x answered one gives =
    subst (λ (ns : Names).
    IsPart view_of_all ns (λ files. first files and_then λ y. asks_none (next y)) before after answered)
    (append-nil names)
    (part_next view view_of_all names [] first (λ y files. asks_none (next y)) before after after x answered one
    (given_end view_of_all (next (view x)) after answered gives))

-- the last part that asks for files is refused
pub part_end_stop : {X Y A B : Type 0} (view : X → A) (view_of_all : Y → B) (names : Names) (first : Files → Asked A)
    (next : A → Result B InputFault) (before after : Shelved) (refusal : Refusal) →
    IsPart {X = X} view names first before after (Err refusal) →
    IsPart {X = Y} view_of_all names (λ files. first files and_then λ y. asks_none (next y)) before after (Err refusal)
part_end_stop {Y = Y} view view_of_all names first next before after refusal one =
    subst (λ (ns : Names).
    IsPart {X = Y} view_of_all ns (λ files. first files and_then λ y. asks_none (next y)) before after (Err refusal))
    (append-nil names)
    (part_stop view view_of_all names [] first (λ y files. asks_none (next y)) before after refusal one)
