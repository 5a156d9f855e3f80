-- The lines that list isotopologues, and the words before texts.
use Rattle.std.proofs.Common.{◌≡◌, ℕ, Bool, true, false, cond, List, [], ◌∷◌, ◌++◌, length, take, drop, map, Option}
use Rattle.std.proofs.Common.{Some}
use Rattle.std.proofs.Common.{None, refl, sym, ◌∙◌, ap}
use Rattle.std.proofs.lemmas.List.{take-append-drop, map-append}
use Rattle.std.proofs.lemmas.Bool.{or_from}
use Rattle.std.proofs.lemmas.Slice.Eq.{bytes_eq-Decides}
use Rattle.std.specs.Prelude.{option_map}
use Rattle.std.specs.List.{list_any}
use Rattle.std.specs.Option.{option_or}
use Rattle.std.specs.Str.{bytes_eq}
use Rattle.certificate_text.specs.Certificates.{CertLineEntry}
use Rattle.certificate_text.specs.CertificateLines.{behind, cover_word, layer_word, listed_line}
use Rattle.certificate_text.specs.CertificateReadings.{entry_with, is_end, listed_entry}

-- a line is the word with which it begins and the text behind that
behind-tested : (word line text : List ℕ) (b : Bool) → bytes_eq (take (length word) line) word ≡ b
    → (let o : Option (List ℕ) = cond b (Some (drop (length word) line)) None in o) ≡ Some text → line ≡ word ++ text
behind-tested word line text true is e =
    let front : take (length word) line ≡ word = (bytes_eq-Decides (take (length word) line) word).0 is in
    let rest : drop (length word) line ≡ text = cc in
    sym (take-append-drop (length word) line) ∙ ap (λ (t : List ℕ). t ++ drop (length word) line) front
    ∙ ap (λ (t : List ℕ). word ++ t) rest
behind-tested word line text false is e = absurd (cc)

pub behind-spelled : (word line text : List ℕ) → behind word line ≡ Some text → line ≡ word ++ text
behind-spelled word line text e =
    behind-tested word line text (bytes_eq (take (length word) line) word) refl e

-- the entry of a line spells it
entry-tested : (line : List ℕ) (entry : CertLineEntry) (o p : Option (List ℕ)) → behind cover_word line ≡ o
    → behind layer_word line ≡ p → option_or (option_map (entry_with true) o) (option_map (entry_with false) p)
    ≡ Some entry
    → line ≡ listed_line entry
entry-tested line entry (Some text) p cover layer e =
    let is : entry_with true text ≡ entry = cc in
    behind-spelled cover_word line text cover ∙ ap listed_line is
entry-tested line entry None (Some text) cover layer e =
    let is : entry_with false text ≡ entry = cc in
    behind-spelled layer_word line text layer ∙ ap listed_line is
entry-tested line entry None None cover layer e = absurd (cc)

pub entry-spelled : (line : List ℕ) (entry : CertLineEntry) → listed_entry line ≡ Some entry → line ≡ listed_line entry
entry-spelled line entry e =
    entry-tested line entry (behind cover_word line) (behind layer_word line) refl refl e

-- the line of an entry lists it, and isn't the end
pub entry-listed : (entry : CertLineEntry) → listed_entry (listed_line entry) ≡ Some entry
entry-listed entry = elim entry.marked as (λ b. listed_entry (listed_line (entry_with b entry.text))
    ≡ Some (entry_with b entry.text)) [
      | true ↦ refl
      | false ↦ refl
    ]

marked-open : (marked : Bool) (text : List ℕ) → is_end (listed_line (entry_with marked text)) ≡ false
marked-open true text = refl
marked-open false text = refl

pub listed-open : (entry : CertLineEntry) → is_end (listed_line entry) ≡ false
listed-open entry = marked-open entry.marked entry.text

pub all-listed-open : (entries : List CertLineEntry) → list_any is_end (map listed_line entries) ≡ false
all-listed-open [] = refl
all-listed-open (entry ∷ entries) = or_from _ _ (listed-open entry) (all-listed-open entries)

-- one more entry behind others
pub map-push : (entries : List CertLineEntry) (entry : CertLineEntry)
    → map listed_line (entries ++ entry ∷ []) ≡ map listed_line entries ++ listed_line entry ∷ []
map-push entries entry = map-append listed_line entries (entry ∷ [])
