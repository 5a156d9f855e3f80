-- The faults of lines, one more line behind others.
use Rattle.std.proofs.Common.{◌≡◌, ℕ, ◌+◌, ◌<◌, ◌≤◌, ◌==◌, Bool, true, false, List, [], ◌∷◌, ◌++◌, length, take}
use Rattle.std.proofs.Common.{get_or, Option, Some, None, inl, inr, refl, sym, ◌∙◌, ap, subst, length-append, arith}
use Rattle.std.proofs.lemmas.List.{drop_all, take-append-le}
use Rattle.std.proofs.lemmas.Bool.{cases_lt}
use Rattle.std.proofs.Math.ListN.{get_or-append}
use Rattle.std.proofs.Math.Seq.{get_or-append_seam, take-append_seam}
use Rattle.std.specs.List.{list_any}
use Rattle.element_table.specs.Elements.{TableEntries}
use Rattle.certificate_text.specs.CertificateReadings.{IsFirstFault, IsRight, LacksEnd, entry_line, fault_at, fault_in}
use Rattle.certificate_text.specs.CertificateReadings.{has_ended, is_end, line_fault}
use Rattle.certificate_text.specs.declared.fault.CertificateFault.{CertificateFault}
use Rattle.certificate_text.specs.declared.fault.CertificateFault.TheVariants.{BadLine, EndMissing}

-- lines without a fault, the number of the line behind them, and whether `end` is among them
pub record SoFar (table : TableEntries) (done : List (List ℕ)) (number : ℕ) (ended : Bool) : Type 0 where
  pub right : IsRight table done
  pub numbered : number ≡ length done + 1
  pub ended_is : has_ended done ≡ ended

fault_at-front : (table : TableEntries) (done rest : List (List ℕ)) (place : ℕ) → place < length done
    → fault_at table (done ++ rest) place ≡ fault_at table done place
fault_at-front table done rest place within =
    ap (λ (before : List (List ℕ)). line_fault table (place + 1) (has_ended before) (get_or (done ++ rest) place []))
    (take-append-le place done rest (omega arith))
    ∙ ap (line_fault table (place + 1) (has_ended (take place done))) (get_or-append done rest [] place within)

fault_at-here : (table : TableEntries) (done : List (List ℕ)) (line : List ℕ) (rest : List (List ℕ))
    → fault_at table (done ++ line ∷ rest) (length done) ≡ line_fault table (length done + 1) (has_ended done) line
fault_at-here table done line rest =
    ap (λ (before : List (List ℕ)).
    line_fault table (length done + 1) (has_ended before) (get_or (done ++ line ∷ rest) (length done) []))
    (take-append_seam done (line ∷ rest))
    ∙ ap (line_fault table (length done + 1) (has_ended done)) (get_or-append_seam done line rest [])

-- the fault of the line behind others
here : (table : TableEntries) (done : List (List ℕ)) (line : List ℕ) (rest : List (List ℕ)) (number : ℕ) (ended : Bool)
    (o : Option CertificateFault) → SoFar table done number ended → line_fault table number ended line ≡ o
    → fault_at table (done ++ line ∷ rest) (length done) ≡ o
here table done line rest number ended o so is =
    fault_at-here table done line rest
    ∙ ap (λ (n : ℕ). line_fault table n (has_ended done) line) (sym so.numbered)
    ∙ ap (λ (b : Bool). line_fault table number b line) so.ended_is ∙ is

-- one more line without a fault
pub so-push : (table : TableEntries) (done : List (List ℕ)) (line : List ℕ) (number : ℕ) (ended still : Bool)
    → SoFar table done number ended → line_fault table number ended line ≡ None
    → has_ended (done ++ line ∷ []) ≡ still → SoFar table (done ++ line ∷ []) (number + 1) still
so-push table done line number ended still so is ends =
    let size : length (done ++ line ∷ []) ≡ length done + 1 = length-append done (line ∷ []) in
    record {
      right = λ place within. elim (cases_lt place (length done)) [
        | inl before ↦ fault_at-front table done (line ∷ []) place before ∙ so.right place before
        | inr behind ↦
            let last : place ≡ length done = omega (arith, size) in
            ap (fault_at table (done ++ line ∷ [])) last ∙ here table done line [] number ended None so is
      ];
      numbered = omega (arith, size, so.numbered);
      ended_is = ends;
    }

-- no line behind no other
pub none-so : (table : TableEntries) → SoFar table [] 1 false
none-so table = record { right = λ place within. absurd (omega arith); numbered = omega arith; ended_is = refl }

-- none of the first six lines is the end
pub still-open : (done : List (List ℕ)) → length done ≤ 6 → has_ended done ≡ false
still-open done few = ap (list_any is_end) (drop_all 6 done few)

-- a line with a fault behind others
pub first-fault : (table : TableEntries) (file done : List (List ℕ)) (line : List ℕ) (rest : List (List ℕ)) (number : ℕ)
    (ended : Bool) (told : CertificateFault) → SoFar table done number ended → file ≡ done ++ line ∷ rest
    → line_fault table number ended line ≡ Some told → IsFirstFault table file told
first-fault table file done line rest number ended told so parts is =
    let size = length-append done (line ∷ rest) in
    let there : IsFirstFault table (done ++ line ∷ rest) told = record {
      place = length done;
      within = omega (arith, size);
      here = here table done line rest number ended (Some told) so is;
      before = λ other earlier. fault_at-front table done (line ∷ rest) other earlier ∙ so.right other earlier;
    } in
    subst (λ (lines : List (List ℕ)). IsFirstFault table lines told) (sym parts) there

-- no line behind others
pub lacks-end : (table : TableEntries) (file done : List (List ℕ)) (number : ℕ) → SoFar table done number false
    → file ≡ done → LacksEnd table file EndMissing
lacks-end table file done number so parts =
    subst (λ (lines : List (List ℕ)). LacksEnd table lines EndMissing) (sym parts)
    (record { right = so.right; open_end = so.ended_is; is = refl })

apart : (n k : ℕ) → k < n → (n == k) ≡ false
apart n k h = grind arith

-- the fault of a line from the seventh on
pub later-line : (table : TableEntries) (number : ℕ) (line : List ℕ) → 7 ≤ number → is_end line ≡ false
    → line_fault table number false line ≡ fault_in (entry_line number line)
later-line table number line late other =
    rw (
      apart number 1 (omega arith),
      apart number 2 (omega arith),
      apart number 3 (omega arith),
      apart number 4 (omega arith),
      apart number 5 (omega arith),
      apart number 6 (omega arith),
      other,
    ) refl

pub end-line : (table : TableEntries) (number : ℕ) (line : List ℕ) → 7 ≤ number → is_end line ≡ true
    → line_fault table number false line ≡ None
end-line table number line late is =
    rw (
      apart number 1 (omega arith),
      apart number 2 (omega arith),
      apart number 3 (omega arith),
      apart number 4 (omega arith),
      apart number 5 (omega arith),
      apart number 6 (omega arith),
      is,
    ) refl

pub empty-line : (table : TableEntries) (number : ℕ) → 7 ≤ number → line_fault table number true [] ≡ None
empty-line table number late =
    rw (
      apart number 1 (omega arith),
      apart number 2 (omega arith),
      apart number 3 (omega arith),
      apart number 4 (omega arith),
      apart number 5 (omega arith),
      apart number 6 (omega arith),
    ) refl

pub line-behind-end : (table : TableEntries) (number : ℕ) (line : List ℕ) → 7 ≤ number → (length line == 0) ≡ false
    → line_fault table number true line ≡ Some (BadLine number)
line-behind-end table number line late some =
    rw (
      apart number 1 (omega arith),
      apart number 2 (omega arith),
      apart number 3 (omega arith),
      apart number 4 (omega arith),
      apart number 5 (omega arith),
      apart number 6 (omega arith),
      some,
    ) refl
