-- For proofs alone: members whose counts stand end to end, and their order.
use Rattle.std.specs.Prelude.{ℕ, Bool, List, sum, take, drop}
use Rattle.std.specs.Ordering.{is_lt, nat_cmp, ordering_then}
use Rattle.std.specs.Cmp.Lexicographic.{slice_cmp}
use Rattle.isotopologue_sets.specs.Covers.{Member}
use Rattle.layered_envelope.specs.declared.gathering.MemberRow.{MemberRow}
use Rattle.reaching_layer.specs.CountsByElement.{counts_by_element}

-- the counts of a row of so many
abbrev pub row_counts : List ℕ → ℕ → MemberRow → List ℕ
row_counts counts width row = take width (drop row.start counts)

-- the member that a row is, of elements of so many isotopes
unfoldable pub row_member : List ℕ → List ℕ → MemberRow → Member
row_member isotopes counts row =
    record {
      counts = counts_by_element isotopes (row_counts counts (sum isotopes) row);
      lo = row.enclosure.lo;
      hi = row.enclosure.hi;
    }

-- whether row a stands before row b: by falling lower bound, ties in lexicographic order of the counts
abbrev pub row_stands_before : List ℕ → ℕ → MemberRow → MemberRow → Bool
row_stands_before counts width a b =
    is_lt (ordering_then (nat_cmp b.enclosure.lo a.enclosure.lo)
    (slice_cmp nat_cmp (row_counts counts width a) (row_counts counts width b)))
