-- What the bytes of a peak file stand for: the peaks, or the first fault. A peak is the pair of its m/z, in 10^-12 Da,
-- and its intensity, in 10^-6.
use Rattle.std.specs.Prelude.{ℕ, ◌==◌, List, [], ◌∷◌, length, drop, if◌then◌else◌, Option, Some, None, Result, Ok}
use Rattle.std.specs.Prelude.{Err, codes}
use Rattle.csv_records.specs.FileRecords.{file_records, has_header}
use Rattle.fixed_decimal.specs.Decimal.{decimal_within}
use Rattle.reader_answers.specs.Answers.{or_fault, ◌>>=◌}
use Rattle.reader_answers.specs.RecordRows.{rows_after}
use Rattle.peak_text.specs.Limits.{max_mz, max_intensity, max_peaks}
use Rattle.peak_text.specs.declared.fault.PeakFault.{PeakFault}
use Rattle.peak_text.specs.declared.fault.PeakFault.TheVariants as fault

-- the first record of a peak file
abbrev pub peak_header : List (List ℕ)
peak_header = codes "mz" ∷ codes "intensity" ∷ []

-- what a record says by itself, or the first of its own faults: an m/z of at most 12 decimals above 0 and at most
-- 20,000 Da, and an intensity of at most 6 decimals and at most 10^12
unfoldable pub peak_of : ℕ → List (List ℕ) → Result (ℕ × ℕ) PeakFault
peak_of record_number (mz ∷ intensity ∷ []) = do
  m ← or_fault (fault.Mz record_number) (decimal_within 12 1 max_mz mz)
  i ← or_fault (fault.Intensity record_number) (decimal_within 6 0 max_intensity intensity)
  Ok (m, i)
peak_of record_number fields = Err (fault.FieldCount record_number)

-- a record's peak is too many behind 10,000 others
abbrev pub too_many_after : ℕ → List (ℕ × ℕ) → ℕ × ℕ → Option PeakFault
too_many_after record_number earlier peak =
    if length earlier == max_peaks then Some (fault.TooMany record_number) else None

-- the peaks of a file's records, or the first fault: the header stands first
abbrev pub peaks_of_records : List (List (List ℕ)) → Result (List (ℕ × ℕ)) PeakFault
peaks_of_records records =
    if has_header peak_header records then rows_after peak_of too_many_after 2 [] (drop 1 records)
    else Err (fault.Header 1)

-- the peaks that bytes stand for, or the first fault
abbrev pub peaks_of : List ℕ → Result (List (ℕ × ℕ)) PeakFault
peaks_of bytes = peaks_of_records (file_records bytes)
