-- Only contracts of inner calls and proofs use these: what a fault of a claim names.
use Rattle.std.specs.Prelude.{◌≡◌, ◌≤◌, ℕ, List, Option, Some, None}
use Rattle.std.specs.List.{concat}
use Rattle.multinomial_bounds.specs.Isotopologue.{Element, IsIsotopologue}
use Rattle.cover_claims.specs.declared.fault.ClaimFault.{ClaimFault}
use Rattle.cover_claims.specs.declared.fault.ClaimFault.TheVariants.{OutOfOrder, ModeAbsent, OpenBoundary, SizeDiffers, CoverShort, BoundTooHigh}

-- an isotopologue whose counts in a row these are
abbrev pub IsRow : List Element → List ℕ → Type 0
IsRow elements row = (i : List (List ℕ)) × IsIsotopologue elements i × (concat i ≡ row)

-- what holds of a fault of so many members: a place that it names is not above their number, and a neighbour that it
-- names is an isotopologue
abbrev pub NamesIsotopologue : List Element → ℕ → ClaimFault → Type 0
NamesIsotopologue elements number (OutOfOrder place) = place ≤ number
NamesIsotopologue elements number ModeAbsent = Unit {0}
NamesIsotopologue elements number (OpenBoundary place row hi) = (place ≤ number) × IsRow elements row
NamesIsotopologue elements number (SizeDiffers found) = Unit {0}
NamesIsotopologue elements number (CoverShort total) = Unit {0}
NamesIsotopologue elements number (BoundTooHigh total) = Unit {0}

abbrev pub IfNames : List Element → ℕ → Option ClaimFault → Type 0
IfNames elements number None = Unit {0}
IfNames elements number (Some fault) = NamesIsotopologue elements number fault
