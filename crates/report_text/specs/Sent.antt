-- What a member of an object sends to a writer of JSON.
use Rattle.std.specs.Prelude.{ℕ, List, Some}
use Rattle.serde.specs.Event.{Log, Logs, field_key, map_begins, map_ends}
use Rattle.serde.specs.declared.name.Case.TheVariants.{AsIs}

-- a key, and then what the value sends
abbrev pub SendsMember : List ℕ → (Log → Log → Type 0) → Log → Log → Type 0
SendsMember key value old new = (named : Log) × Logs old named (field_key key AsIs) × value named new

-- an object of one member
abbrev pub SendsOnly : List ℕ → (Log → Log → Type 0) → Log → Log → Type 0
SendsOnly key value old new =
    (begun ended : Log) × Logs old begun (map_begins (Some 1)) × SendsMember key value begun ended
    × Logs ended new map_ends
