-- What the kept counts and enclosures say of the members.
use Rattle.std.proofs.Common.{◌≡◌, ℕ, ◌+◌, ◌*◌, ◌<◌, ◌≤◌, Bool, List, length, take, drop, get_or, sym, ◌∙◌, ap, subst, arith}
use Rattle.std.proofs.lemmas.List.{get_or-map}
use Rattle.multinomial_bounds.specs.Isotopologue.{Element}
use Rattle.multinomial_bounds.specs.declared.enclosure.Enclosure.{Enclosure}
use Rattle.isotopologue_sets.specs.Layers.{lo_of, hi_of}
use Rattle.cover_claims.specs.CountsInRow.{isotopes_of_all, counts_by_element}
use Rattle.cover_claims.specs.Claims.{Claimed, ClaimedMember, isotopologues_in, member_at}
use Rattle.cover_claims.specs.MemberRows.{member_rows, AreBounded}
use Rattle.cover_claims.proofs.RowLemmas.{length-member_rows, marks-member_rows, length-isotopologues, member_at-row, row-within, length-row}

module _ (es : List Element) (counts : List ℕ) (marks : List Bool) (width : ℕ) (claimed : Claimed)
    (view : ◌≡◌ {A = Claimed} (record { elements = es; members = member_rows es counts marks }) claimed)
    (width_is : width ≡ isotopes_of_all es) (all : length counts ≡ length marks * width)
    (k : ℕ) (within : k < length claimed.members) where
  k_within : k < length marks
  k_within =
      omega (
        arith,
        ap (λ (m : Claimed). length m.members) view,
        length-member_rows es counts marks,
      )

  pub mark-within : k < length marks
  mark-within = k_within

  pub mark-is : (b : Bool) (d : ClaimedMember) → get_or marks k b ≡ (get_or claimed.members k d).marked
  mark-is b d =
      subst (λ (m : Claimed). get_or marks k b ≡ (get_or m.members k d).marked) view
      (ap (λ (bs : List Bool). get_or bs k b) (sym (marks-member_rows es counts marks))
      ∙ get_or-map (λ m. m.marked) (member_rows es counts marks) k d b
      (rw (length-member_rows es counts marks) k_within))

  pub row-fits : k * width + width ≤ length counts
  row-fits = row-within k (length marks) width (length counts) k_within all

  pub row-length : length (take width (drop (k * width) counts)) ≡ isotopes_of_all claimed.elements
  row-length =
      length-row counts (k * width) width row-fits ∙ width_is ∙ ap (λ (m : Claimed). isotopes_of_all m.elements) view

  pub row-counts :
      counts_by_element claimed.elements (take width (drop (k * width) counts))
      ≡ member_at (isotopologues_in claimed.members) k
  row-counts =
      subst
      (λ (m : Claimed).
      counts_by_element m.elements (take width (drop (k * width) counts)) ≡ member_at (isotopologues_in m.members) k)
      view
      (rw width_is (member_at-row es counts marks k k_within))

  module _ (enclosures : List Enclosure)
      (bounded : AreBounded es (isotopologues_in (member_rows es counts marks)) enclosures) where
    pub enclosure-within : k < length enclosures
    enclosure-within = omega (arith, bounded.one_each, length-isotopologues es counts marks, k_within)

    pub enclosure-lo : (d : Enclosure) →
        (get_or enclosures k d).lo ≡ lo_of claimed.elements (member_at (isotopologues_in claimed.members) k)
    enclosure-lo d =
        subst
        (λ (m : Claimed). (get_or enclosures k d).lo ≡ lo_of m.elements (member_at (isotopologues_in m.members) k))
        view (bounded.lo k d enclosure-within)

    pub enclosure-hi : (d : Enclosure) →
        (get_or enclosures k d).hi ≡ hi_of claimed.elements (member_at (isotopologues_in claimed.members) k)
    enclosure-hi d =
        subst
        (λ (m : Claimed). (get_or enclosures k d).hi ≡ hi_of m.elements (member_at (isotopologues_in m.members) k))
        view (bounded.hi k d enclosure-within)
