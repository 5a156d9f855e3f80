-- Reports in JSON, over the texts of the lines of the same reports. Masses, m/z and differences of masses are texts,
-- and so are coverages, thresholds and the bounds of probabilities, which are whole numbers of 10^-18 and may be too great
-- for readers that keep numbers as floats. The keys of an object stand in the order of their bytes.
use Rattle.std.specs.Prelude.{ℕ, ℤ, Bool, pos, ◌+◌, List, [], ◌∷◌, ◌++◌, length, map, codes, unwrap_or, ⊤}
use Rattle.std.specs.List.{enumerate_from}
use Rattle.std.specs.Fmt.{decimal, signed_decimal}
use Rattle.element_table.specs.Elements.{TableEntries}
use Rattle.written_items.specs.declared.item.Item.{Item}
use Rattle.formula_text.specs.Masses.{mass_of}
use Rattle.formula_text.specs.PrintedText.{printed_text}
use Rattle.adducts.specs.Adducts.{AdductValue, divisor_of}
use Rattle.adducts.specs.Ions.{ion_mass}
use Rattle.cover_certificate.specs.FormulaCovers.{CoverEntries, MemberEntry}
use Rattle.report_lines.specs.ReportLines.{cover_members, ion_mass_text, line_feed, mass_difference, mass_text}
use Rattle.report_lines.specs.ReportLines.{shifted_mass}
use Rattle.ranking.specs.Places.{RankedEntry, by_score}
use Rattle.serde_json.specs.Data.{Data, array, boolean, member, no_members, number, object, string, unsigned}
use Rattle.serde_json.specs.View.{items_of}
use Rattle.serde_json.specs.Written.{compact_text}
use Rattle.report_text.specs.declared.decompose_entries.FormulaEntry.{FormulaEntry}
use Rattle.report_text.specs.declared.decompose_entries.PeakEntry.{PeakEntry}
use Rattle.report_text.specs.declared.envelope_entries.IsotopologueEntry.{IsotopologueEntry}
use Rattle.report_text.specs.declared.envelope_entries.CoverEntry.{CoverEntry}
use Rattle.report_text.specs.declared.rank_entries.PlaceEntry.{PlaceEntry}
use Rattle.report_text.specs.declared.rank_entries.JobEntry.{JobEntry}
use Rattle.report_text.specs.declared.report.Report.{Report}
use Rattle.report_text.specs.declared.report.Report.TheVariants.{Decompose, Envelope, Rank}

-- a formula of a peak over its ion: its text and its mass, the mass of the ion, and how far that is above divisor times
-- m/z
abbrev pub ion_entry : List (Item × ℕ) → ℕ → ℤ → ℕ → ℕ → FormulaEntry
ion_entry formula mass ion_mass mz divisor =
    record {
      delta = signed_decimal (mass_difference ion_mass mz divisor);
      formula = printed_text formula;
      ion = ion_mass_text ion_mass;
      mass = mass_text mass;
    }

-- the same of a formula of which the ion is defined
abbrev pub formula_entry : TableEntries → AdductValue → ℕ → List (Item × ℕ) → FormulaEntry
formula_entry table adduct mz formula =
    ion_entry formula (mass_of table formula) (unwrap_or (ion_mass table adduct formula) (pos 0)) mz (divisor_of adduct)

-- a peak of this number and this m/z
abbrev pub peak_entry : TableEntries → AdductValue → ℕ → ℕ → List (List (Item × ℕ)) → PeakEntry
peak_entry table adduct peak mz formulas =
    record { formulas = map (formula_entry table adduct mz) formulas; mz = mass_text mz; peak = peak }

-- a member of a cover, with a shift added to its mass
abbrev pub isotopologue_entry : ℤ → MemberEntry → IsotopologueEntry
isotopologue_entry shift m =
    record {
      hi = decimal m.hi;
      isotopologue = m.text;
      lo = decimal m.lo;
      mass = ion_mass_text (shifted_mass shift m);
    }

-- a cover, with a shift added to each mass
abbrev pub cover_entry : ℤ → CoverEntries → CoverEntry
cover_entry shift cover =
    record {
      bound = cover.bound;
      coverage = decimal cover.coverage;
      formula = printed_text cover.formula;
      isotopologues = map (isotopologue_entry shift) (cover_members cover);
      size = cover.size;
      threshold = decimal cover.threshold;
    }

-- a formula at a place, and a job, whose formulas have their places by rising score, ties in their order
abbrev pub place_entry : ℕ × RankedEntry → PlaceEntry
place_entry at =
    record {
      bound = at.1.bound;
      formula = printed_text at.1.formula;
      place = at.0;
      score = decimal at.1.score;
      size = at.1.size;
    }

abbrev pub job_entry : ℕ → ℕ → Bool → List RankedEntry → JobEntry
job_entry peak mz done found =
    record {
      count = length found;
      done = done;
      mz = mass_text mz;
      peak = peak;
      places = map place_entry (enumerate_from 1 (by_score found));
    }

-- entries as JSON
abbrev pub list_data : {A : Type 0} → (A → Data) → List A → Data
list_data data_of entries = array (items_of (map data_of entries))

abbrev pub formula_data : FormulaEntry → Data
formula_data e =
    object (member (codes "delta") (string e.delta)
    (member (codes "formula") (string e.formula)
    (member (codes "ion") (string e.ion)
    (member (codes "mass") (string e.mass) no_members))))

abbrev pub peak_data : PeakEntry → Data
peak_data e =
    object (member (codes "formulas") (list_data formula_data e.formulas)
    (member (codes "mz") (string e.mz)
    (member (codes "peak") (number (unsigned e.peak)) no_members)))

abbrev pub isotopologue_data : IsotopologueEntry → Data
isotopologue_data e =
    object (member (codes "hi") (string e.hi)
    (member (codes "isotopologue") (string e.isotopologue)
    (member (codes "lo") (string e.lo)
    (member (codes "mass") (string e.mass) no_members))))

abbrev pub cover_data : CoverEntry → Data
cover_data e =
    object (member (codes "bound") (number (unsigned e.bound))
    (member (codes "coverage") (string e.coverage)
    (member (codes "formula") (string e.formula)
    (member (codes "isotopologues") (list_data isotopologue_data e.isotopologues)
    (member (codes "size") (number (unsigned e.size))
    (member (codes "threshold") (string e.threshold) no_members))))))

abbrev pub place_data : PlaceEntry → Data
place_data e =
    object (member (codes "bound") (number (unsigned e.bound))
    (member (codes "formula") (string e.formula)
    (member (codes "place") (number (unsigned e.place))
    (member (codes "score") (string e.score)
    (member (codes "size") (number (unsigned e.size)) no_members)))))

abbrev pub job_data : JobEntry → Data
job_data e =
    object (member (codes "count") (number (unsigned e.count))
    (member (codes "done") (boolean e.done)
    (member (codes "mz") (string e.mz)
    (member (codes "peak") (number (unsigned e.peak))
    (member (codes "places") (list_data place_data e.places) no_members)))))

-- a report as JSON
abbrev pub report_data : Report → Data
report_data (Decompose peaks) = object (member (codes "peaks") (list_data peak_data peaks) no_members)
report_data (Envelope cover) = cover_data cover
report_data (Rank jobs) = object (member (codes "jobs") (list_data job_data jobs) no_members)

-- its line: the text without blanks, and a line feed
unfoldable pub json_text : Report → List ℕ
json_text report = compact_text (report_data report) ++ line_feed ∷ []

-- the report is one of formulas, or one of ranked peaks
abbrev pub IsOfFormulas : Report → Type 0
IsOfFormulas (Decompose peaks) = ⊤
IsOfFormulas (Envelope cover) = ⊥
IsOfFormulas (Rank jobs) = ⊥

abbrev pub IsOfJobs : Report → Type 0
IsOfJobs (Decompose peaks) = ⊥
IsOfJobs (Envelope cover) = ⊥
IsOfJobs (Rank jobs) = ⊤

-- a report of formulas with one more peak, which has the next number
abbrev pub with_peak : TableEntries → AdductValue → ℕ → List (List (Item × ℕ)) → Report → Report
with_peak table adduct mz formulas (Decompose peaks) =
    Decompose (peaks ++ peak_entry table adduct (length peaks + 1) mz formulas ∷ [])
with_peak table adduct mz formulas (Envelope cover) = Envelope cover
with_peak table adduct mz formulas (Rank jobs) = Rank jobs

-- a report of ranked peaks with one more job
abbrev pub with_job : ℕ → ℕ → Bool → List RankedEntry → Report → Report
with_job peak mz done found (Decompose peaks) = Decompose peaks
with_job peak mz done found (Envelope cover) = Envelope cover
with_job peak mz done found (Rank jobs) = Rank (jobs ++ job_entry peak mz done found ∷ [])
