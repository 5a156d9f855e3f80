-- The certificate of a cover: the numbers of the cover of a formula, and the texts of its layer's isotopologues.
use Rattle.std.specs.Prelude.{◌≡◌, ℕ, Bool, true, false, List, ◌++◌, map, take, drop}
use Rattle.std.specs.List.{concat}
use Rattle.written_items.specs.declared.item.Item.{Item}
use Rattle.isotopologue_sets.specs.Covers.{Member, CoverNumbers}
use Rattle.element_table.specs.Elements.{TableEntries}
use Rattle.isotopologue_text.specs.Isotopologues.{isotopologue_text_of}
use Rattle.certificate_text.specs.Certificates.{CertificateEntries, CertLineEntry}

-- the line of a member, marked or not
abbrev pub line_of_member : TableEntries → List (Item × ℕ) → Bool → Member → CertLineEntry
line_of_member table formula marked member = record {
  marked = marked;
  text = isotopologue_text_of table formula (concat member.counts);
}

-- the lines of members of which so many are marked, from the first one on
abbrev pub lines_of_members : TableEntries → List (Item × ℕ) → ℕ → List Member → List CertLineEntry
lines_of_members table formula number members =
    map (line_of_member table formula true) (take number members)
    ++ map (line_of_member table formula false) (drop number members)

-- A certificate has the numbers of a cover, and the lines of its layer's members, with those of the cover marked.
pub record IsOfCover (table : TableEntries) (certificate : CertificateEntries) (cover : CoverNumbers) : Type 0 where
  pub size_is : certificate.size ≡ cover.size
  pub bound_is : certificate.bound ≡ cover.bound
  pub threshold_is : certificate.threshold ≡ cover.threshold
  pub lines_are : certificate.lines ≡ lines_of_members table certificate.formula cover.size cover.members
