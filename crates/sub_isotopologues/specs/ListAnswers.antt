-- What the calls that make a list longer answer.
use Rattle.std.specs.Prelude.{ℕ, Bool, true, false, length, Result, Ok, Err, if◌then◌else◌, nat_lt}
use Rattle.reader_answers.specs.Answers.{◌>>=◌}
use Rattle.sub_isotopologues.specs.Listings.{Listing, with_given, items_of, max_sub_isotopologues}
use Rattle.sub_isotopologues.specs.declared.fault.SubFault.{SubFault}
use Rattle.sub_isotopologues.specs.declared.fault.SubFault.TheVariants.{TooMany, NotInList, Memory}

-- want of memory, which is the one free answer
abbrev pub is_memory : SubFault → Bool
is_memory Memory = true
is_memory TooMany = false
is_memory NotInList = false

-- the listing, unless its list has more items than are kept
abbrev pub within_limit : Listing → Result Listing SubFault
within_limit l = if nat_lt max_sub_isotopologues (length (items_of l)) then Err TooMany else Ok l

-- the listing with so many items given, unless its list has fewer
abbrev pub after_token : Listing → ℕ → Result Listing SubFault
after_token l token = if nat_lt (length (items_of l)) token then Err NotInList else Ok (with_given l token)

-- a list resumed after its first items: the limit comes before the token
abbrev pub resumed : Listing → ℕ → Result Listing SubFault
resumed l token = within_limit l >>= (λ list. after_token list token)

-- a fault of growing a list: `TooMany` comes only where this holds, and `NotInList` never
abbrev pub OnlyTooMany : Type 0 → SubFault → Type 0
OnlyTooMany many TooMany = many
OnlyTooMany many NotInList = ⊥
OnlyTooMany many Memory = Unit {0}
