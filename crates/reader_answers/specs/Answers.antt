-- What a call answers that has faults of its own: a value or a fault. Want of memory may come in the place of
-- each; it is the one free answer.
use Rattle.std.specs.Prelude.{◌≡◌, Bool, Option, Some, None, Result, Ok, Err, MatchBool, ⊤}

-- what there is, or else this fault
abbrev pub or_fault : {A E : Type 0} → E → Option A → Result A E
or_fault fault None = Err fault
or_fault fault (Some x) = Ok x

-- the fault that there is, or else the answer
abbrev pub unless_fault : {A E : Type 0} → Option E → Result A E → Result A E
unless_fault None answer = answer
unless_fault (Some fault) answer = Err fault

-- an answer and then, of its value, the next one; the first fault is the answer of both
infixl 10 ◌>>=◌
abbrev pub ◌>>=◌ : {A B E : Type 0} → Result A E → (A → Result B E) → Result B E
(Ok x) >>= next = next x
(Err fault) >>= next = Err fault

-- the answer meets R, unless it is want of memory
abbrev pub UnlessMemory : {A E : Type 0} → (E → Bool) → (Result A E → Type 0) → Result A E → Type 0
UnlessMemory is_memory R (Ok x) = R (Ok x)
UnlessMemory is_memory R (Err fault) = MatchBool (is_memory fault) ⊤ (R (Err fault))

-- the answer, seen through a view of its value, is the expected one, unless it is want of memory
abbrev pub GivesAs : {A B E : Type 0} → (A → B) → (E → Bool) → Result A E → Result B E → Type 0
GivesAs view is_memory result expected =
    UnlessMemory is_memory (λ answer. expected ≡ (answer >>= (λ x. Ok (view x)))) result

-- the answer is the expected one, unless it is want of memory
abbrev pub Gives : {A E : Type 0} → (E → Bool) → Result A E → Result A E → Type 0
Gives is_memory result expected = GivesAs (λ x. x) is_memory result expected
