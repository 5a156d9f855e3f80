-- What entries send to a writer of JSON, as the data that they are.
use Rattle.std.proofs.Common.{◌≡◌, ℕ, suc, List, [], ◌∷◌, length, map, false, Some, refl, sym, ap, subst}
use Rattle.serde.specs.Event.{Log, Logs, WritesEach, WritesSeq, seq_begins, seq_ends}
use Rattle.serde_json.specs.Data.{Data, member, no_members, object}
use Rattle.serde_json.specs.Events.{SendsItems, SendsValue, items_len}
use Rattle.serde_json.specs.View.{items_of}
use Rattle.serde_json.specs.Written.{has_float, items_have_float}
use Rattle.report_text.specs.declared.decompose_entries.PeakEntry.{PeakEntry}
use Rattle.report_text.specs.declared.envelope_entries.CoverEntry.{CoverEntry}
use Rattle.report_text.specs.declared.rank_entries.JobEntry.{JobEntry}
use Rattle.report_text.specs.declared.report.Report.{Report}
use Rattle.report_text.specs.declared.report.Report.TheVariants.{Decompose, Envelope, Rank}
use Rattle.report_text.specs.Sent.{SendsOnly}
use Rattle.report_text.specs.JsonReports.{cover_data, formula_data, isotopologue_data, job_data, list_data, peak_data}
use Rattle.report_text.specs.JsonReports.{place_data, report_data}

items_len-map : {A : Type 0} (data_of : A → Data) (xs : List A) → items_len (items_of (map data_of xs)) ≡ length xs
items_len-map data_of [] = refl
items_len-map data_of (x ∷ xs) = ap suc (items_len-map data_of xs)

each_sent : {A : Type 0} (data_of : A → Data) (xs : List A) (old last new : Log)
    → WritesEach (λ x. SendsValue (data_of x)) xs old last → Logs last new seq_ends
    → SendsItems (items_of (map data_of xs)) old new
each_sent data_of [] old last new each ended = subst (λ (l : Log). Logs l new seq_ends) each ended
each_sent data_of (x ∷ xs) old last new each ended =
    (each.0, each.1, each_sent data_of xs each.0 last new each.2 ended)

-- entries one after another are a list
pub list_sent : {A : Type 0} (data_of : A → Data) (xs : List A) (old new : Log)
    → WritesSeq (λ x. SendsValue (data_of x)) xs old new → SendsValue (list_data data_of xs) old new
list_sent data_of xs old new sent = (
  sent.0,
  subst (λ (n : ℕ). Logs old sent.0 (seq_begins (Some n))) (sym (items_len-map data_of xs)) sent.2,
  each_sent data_of xs sent.0 sent.1 new sent.3 sent.4,
)

-- a list alone in an object
pub only_sent : {A : Type 0} (key : List ℕ) (data_of : A → Data) (xs : List A) (old new : Log)
    → SendsOnly key (WritesSeq (λ x. SendsValue (data_of x)) xs) old new
    → SendsValue (object (member key (list_data data_of xs) no_members)) old new
only_sent key data_of xs old new sent =
    let list = sent.3 in
    (sent.0, sent.2, (list.0, sent.1, list.1, list_sent data_of xs list.0 sent.1 list.2, sent.4))

items_no_float : {A : Type 0} (data_of : A → Data) → ((x : A) → has_float (data_of x) ≡ false) → (xs : List A)
    → items_have_float (items_of (map data_of xs)) ≡ false
items_no_float data_of none [] = refl
items_no_float data_of none (x ∷ xs) = rw (none x, items_no_float data_of none xs) refl

peak_no_float : (e : PeakEntry) → has_float (peak_data e) ≡ false
peak_no_float e = rw (items_no_float formula_data (λ x. refl) e.formulas) refl

cover_no_float : (e : CoverEntry) → has_float (cover_data e) ≡ false
cover_no_float e = rw (items_no_float isotopologue_data (λ x. refl) e.isotopologues) refl

job_no_float : (e : JobEntry) → has_float (job_data e) ≡ false
job_no_float e = rw (items_no_float place_data (λ x. refl) e.places) refl

-- no number of a report is a float
pub report_no_float : (report : Report) → has_float (report_data report) ≡ false
report_no_float (Decompose peaks) = rw (items_no_float peak_data peak_no_float peaks) refl
report_no_float (Envelope cover) = cover_no_float cover
report_no_float (Rank jobs) = rw (items_no_float job_data job_no_float jobs) refl
