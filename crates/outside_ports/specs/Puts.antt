-- What a put of a piece leaves written.
use Rattle.std.specs.Prelude.{◌≡◌, ℕ, ◌≤◌, List, length, take, Option, Result, Ok, Err}
use Rattle.std.specs.Io.KnownBytes.{Appends, append_known}
use Rattle.outside_ports.specs.Faults.{Rose}

-- The whole piece was appended to what was written, or, where the put failed, some first bytes of it. A sink
-- that doesn't tell what was written before doesn't tell it afterwards.
abbrev pub AppendsPiece : {A E : Type 0} → Result A E → Option (List ℕ) → List ℕ → Option (List ℕ) → Type 0
AppendsPiece (Ok _) before piece after = after ≡ append_known before piece
AppendsPiece (Err _) before piece after =
    (taken : ℕ) × (taken ≤ length piece) × (after ≡ append_known before (take taken piece))

-- the count of faults rose where the put failed, and else is as it was
abbrev pub CountsPut : {A E : Type 0} → Result A E → ℕ → ℕ → Type 0
CountsPut (Ok _) before after = after ≡ before
CountsPut (Err _) before after = Rose before after

-- What a writer holds grew by the whole piece, or, where the put failed, by some first bytes of
-- it. This is known of a writer that tells what it holds.
abbrev pub PassesOn : {A E : Type 0} → Result A E → Option (List ℕ) → List ℕ → Option (List ℕ) → Type 0
PassesOn (Ok _) before piece after = Appends before after piece
PassesOn (Err _) before piece after = (taken : ℕ) × (taken ≤ length piece) × Appends before after (take taken piece)
