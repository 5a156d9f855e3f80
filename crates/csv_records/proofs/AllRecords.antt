-- That a run of records from the start of a text to its end is the whole list of its records.
use Rattle.std.proofs.Common.{◌≡◌, ℕ, ◌+◌, ◌<◌, ◌≤◌, zero, suc, Bool, true, false, cond, List, [], ◌∷◌, ◌++◌, length}
use Rattle.std.proofs.Common.{Some, None, refl, sym, ap, ◌∙◌, subst, arith, ◌==◌, ◌&&◌}
use Rattle.csv.specs.Machine.{Read, after_end, ends_at_end, ends_with, field_after, fields_after, in_field, is_byte}
use Rattle.csv.specs.Machine.{is_end, line_feed, next_record, start_field, start_record, step}
use Rattle.csv.specs.Reading.{Reached, records, records_from}
use Rattle.csv.specs.declared.parser.Config.{Config}
use Rattle.csv.specs.declared.parser.Action.{Action}
use Rattle.csv.specs.declared.parser.Action.TheVariants as act
use Rattle.csv.specs.declared.parser.Terminator.{Terminator}
use Rattle.csv.specs.declared.parser.Terminator.TheVariants as term
use Rattle.csv.specs.declared.parser.State.{State}
use Rattle.csv.specs.declared.parser.State.TheVariants as st

-- a run of records, behind which there is none, is what a text has
pub records-reached : (cfg : Config) (n : ℕ) (s s2 : State) (xs ys : List ℕ) (rows : List (List (List ℕ)))
    → Reached cfg s xs rows s2 ys → next_record cfg s2 [] [] ys ≡ None → length rows < n
    → records_from cfg n s xs ≡ rows
unfolding Reached records_from
records-reached cfg zero s s2 xs ys rows run done more = absurd (omega arith)
records-reached cfg (suc n) s s2 xs ys [] run done more = rw (run.0, run.1, done) refl
records-reached cfg (suc n) s s2 xs ys (row ∷ rows) run done more =
    rw run.1 (ap (λ (front : List (List ℕ)). front ∷ records_from cfg n run.0.1 run.0.2) (sym run.2)
    ∙ ap (λ (rest : List (List (List ℕ))). row ∷ rest)
    (records-reached cfg n run.0.1 s2 run.0.2 ys rows run.3 done (omega arith)))

-- the machine stands between records
abbrev Between : State → Type 0
Between s = ends_at_end s ≡ false

-- where a byte ends a record, the machine stands between records
abbrev EndsBetween : State × Action → Type 0
EndsBetween q = is_end q.1 ≡ true → Between q.0

idle : (s : State) (a : Action) → is_end a ≡ false → EndsBetween (s, a)
idle s a not_end is_it = cc

either : (b : Bool) (p q : State × Action) → EndsBetween p → EndsBetween q → EndsBetween (cond b p q)
either true p q first second = first
either false p q first second = second

after_end-between : (t : Terminator) (c : ℕ) → Between (after_end t c)
after_end-between term.CRLF c = line (c == 13)
  where
    line : (b : Bool) → Between (cond b st.AfterCr st.StartRecord)
    line true = refl
    line false = refl
after_end-between (term.Any t) c = refl

in_field-between : (cfg : Config) (c : ℕ) → EndsBetween (in_field cfg c)
in_field-between cfg c =
    either (c == cfg.delimiter) _ _ (idle st.StartField act.EndField refl) (
    either (ends_with cfg.terminator c) (after_end cfg.terminator c, act.EndRecord) _
    (λ _. after_end-between cfg.terminator c) (idle st.InField act.Copy refl))

start_field-between : (cfg : Config) (c : ℕ) → EndsBetween (start_field cfg c)
start_field-between cfg c =
    either (cfg.quoting && (c == cfg.quote)) _ _ (idle st.InQuoted act.Skip refl) (in_field-between cfg c)

start_record-between : (cfg : Config) (c : ℕ) → EndsBetween (start_record cfg c)
start_record-between cfg c =
    either (ends_with cfg.terminator c) _ _ (idle st.StartRecord act.Skip refl) (
    either (is_byte cfg.comment c) _ _ (idle st.InComment act.Skip refl) (start_field-between cfg c))

step-between : (cfg : Config) (s : State) (c : ℕ) → EndsBetween (step cfg s c)
step-between cfg st.StartRecord c = start_record-between cfg c
step-between cfg st.StartField c = start_field-between cfg c
step-between cfg st.InField c = in_field-between cfg c
step-between cfg st.InQuoted c =
    either (cfg.quoting && (c == cfg.quote)) _ _ (idle st.AfterQuote act.Skip refl) (
    either (cfg.quoting && is_byte cfg.escape c) _ _ (idle st.InEscape act.Skip refl) (idle st.InQuoted act.Copy refl))
step-between cfg st.InEscape c = idle st.InQuoted act.Copy refl
step-between cfg st.AfterQuote c =
    either (cfg.quoting && cfg.double_quote && (c == cfg.quote)) _ _ (idle st.InQuoted act.Copy refl)
    (in_field-between cfg c)
step-between cfg st.InComment c =
    either (c == line_feed) _ _ (idle st.StartRecord act.Skip refl) (idle st.InComment act.Skip refl)
step-between cfg st.AfterCr c =
    either (c == line_feed) _ _ (idle st.StartRecord act.Skip refl) (start_record-between cfg c)

-- what a read of a record leaves: the machine between records, and fewer bytes where it was there before
abbrev Leaves : State → List ℕ → Read → Type 0
Leaves s xs p = Between p.1 × (length p.2 ≤ length xs) × (Between s → length p.2 < length xs)

next-leaves : (cfg : Config) (s : State) (fields : List (List ℕ)) (field xs : List ℕ) (p : Read)
    → next_record cfg s fields field xs ≡ Some p → Leaves s xs p
unfolding next_record
next-leaves cfg s fields field [] p e = last (ends_at_end s) refl e
  where
    last : (b : Bool) → ends_at_end s ≡ b → cond b (Some (fields ++ (field ∷ []), st.StartRecord, [])) None ≡ Some p
        → Leaves s [] p
    last true ends same =
        let is : (fields ++ (field ∷ []), st.StartRecord, []) ≡ p = cc in
        subst (λ (q : Read). Leaves s [] q) is (refl, omega arith, (λ between. cc))
    last false ends same = cc
next-leaves cfg s fields field (c ∷ rest) p e =
    by (is_end (step cfg s c).1) refl e
    (next-leaves cfg (step cfg s c).0 (fields_after (step cfg s c).1 fields field)
    (field_after (step cfg s c).1 c field) rest p)
  where
    by : (b : Bool) → is_end (step cfg s c).1 ≡ b
        → cond b (Some (fields_after (step cfg s c).1 fields field, (step cfg s c).0, rest))
        (next_record cfg (step cfg s c).0 (fields_after (step cfg s c).1 fields field)
        (field_after (step cfg s c).1 c field) rest) ≡ Some p
        → (next_record cfg (step cfg s c).0 (fields_after (step cfg s c).1 fields field)
        (field_after (step cfg s c).1 c field) rest ≡ Some p
        → Leaves (step cfg s c).0 rest p)
        → Leaves s (c ∷ rest) p
    by true ends same more =
        let is : (fields_after (step cfg s c).1 fields field, (step cfg s c).0, rest) ≡ p = cc in
        subst (λ (q : Read). Leaves s (c ∷ rest) q) is (step-between cfg s c ends, omega arith, (λ _. omega arith))
    by false ends same more =
        let left = more same in
        (left.0, omega (arith, left.1), (λ _. omega (arith, left.1)))

-- a text has no more records than bytes
rows-le-bytes : (cfg : Config) (s s2 : State) (xs ys : List ℕ) (rows : List (List (List ℕ)))
    → Between s → Reached cfg s xs rows s2 ys → length rows ≤ length xs
unfolding Reached
rows-le-bytes cfg s s2 xs ys [] between run = omega arith
rows-le-bytes cfg s s2 xs ys (row ∷ rows) between run =
    let left = next-leaves cfg s [] [] xs run.0 run.1 in
    omega (arith, left.2 between, rows-le-bytes cfg run.0.1 s2 run.0.2 ys rows left.0 run.3)

-- the rows from a text's start to its end are its records
pub records-whole : (cfg : Config) (s2 : State) (xs ys : List ℕ) (rows : List (List (List ℕ)))
    → Reached cfg st.StartRecord xs rows s2 ys → next_record cfg s2 [] [] ys ≡ None → rows ≡ records cfg xs
records-whole cfg s2 xs ys rows run done =
    sym (records-reached cfg (length xs + 1) st.StartRecord s2 xs ys rows run done
    (omega (arith, rows-le-bytes cfg st.StartRecord s2 xs ys rows refl run)))
