use Rattle.std.proofs.Common.{◌≡◌, ◌<◌, ℕ, [], get_or, map}
use Rattle.csv_records.proofs.Records.has_header.Given as goal

-- the fields so far are the names
abbrev pub invariant-loop-column : goal.invariant-loop-column
invariant-loop-column l =
    (k : ℕ) → k < l.column → get_or (get_or l.self 0 []) k [] ≡ get_or (map (λ name. name.now) l.names) k []
