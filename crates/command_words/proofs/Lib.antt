mod OptionRules
mod ClapWalk
mod WordUses
mod AskedRequests
mod RequestRanges
