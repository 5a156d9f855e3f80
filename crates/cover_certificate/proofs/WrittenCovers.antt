-- The text of a cover's certificate, its length, and what it is read as.
use Rattle.std.proofs.Common.{◌≡◌, ℕ, ◌+◌, ◌<◌, ◌≤◌, Bool, true, false, cond, List, [], ◌∷◌, ◌++◌, length, take, drop}
use Rattle.std.proofs.Common.{map}
use Rattle.std.proofs.Common.{zero, suc, Ok, Err, refl, sym, ◌∙◌, ap, subst, arith, append_assoc, length-append, All}
use Rattle.std.specs.Prelude.{nat_lt, sum_by, IsTrue}
use Rattle.std.specs.List.{AllByRecursion, flat_map}
use Rattle.std.proofs.lemmas.Grind.{flat_map-append}
use Rattle.std.proofs.lemmas.List.{append-nil, map-append, take-append-drop}
use Rattle.std.proofs.lemmas.List.Elements.{All-from_recursion, recursion_from_All}
use Rattle.std.proofs.lemmas.List.Sums.{sum_by-append, sum_by-cons}
use Rattle.element_table.specs.Elements.{TableEntries}
use Rattle.formula_text.specs.Formulas.{IsFormula}
use Rattle.formula_text.specs.Masses.{HasItems}
use Rattle.certificate_text.specs.Certificates.{CertLineEntry}
use Rattle.certificate_text.specs.CertificateLines.{cover_word, end_line, layer_word, listed_line}
use Rattle.certificate_text.specs.CertificateReader.{certificate_of}
use Rattle.certificate_text.specs.WrittenCertificates.{IsWritable, ended, head_lines, is_plain_text, written_text}
use Rattle.certificate_text.proofs.WrittenLines.{read-written}
use Rattle.cover_certificate.specs.FormulaCovers.{CoverEntries, MemberEntry}
use Rattle.cover_certificate.specs.CoverCertificates.{IsReadable, certificate_of_cover, cover_certificate, entry_of}
use Rattle.cover_certificate.specs.CoverCertificates.{max_length}
use Rattle.cover_certificate.specs.declared.certificate.CertificateWrite.TheVariants.{TooLong}

-- the lines of members behind a word
abbrev pub member_lines : List ℕ → List MemberEntry → List ℕ
member_lines word members = flat_map (λ m. ended (word ++ m.text)) members

listed-members : (marked : Bool) (members : List MemberEntry)
    → flat_map ended (map listed_line (map (entry_of marked) members))
    ≡ member_lines (cond marked cover_word layer_word) members
listed-members marked [] = refl
listed-members marked (m ∷ members) =
    ap (λ (t : List ℕ). ended (cond marked cover_word layer_word ++ m.text) ++ t) (listed-members marked members)

-- how long they are
length-members : (word : List ℕ) (members : List MemberEntry) → length word ≡ 6
    → length (member_lines word members) ≡ sum_by (λ m. length m.text + 7) members
length-members word [] six = refl
length-members word (m ∷ members) six =
    let whole = length-append (ended (word ++ m.text)) (member_lines word members) in
    let line = length-append (word ++ m.text) (10 ∷ []) in
    let text = length-append word m.text in
    let rest = length-members word members six in
    let sum = sum_by-cons (λ (n : MemberEntry). length n.text + 7) m members in
    omega arith

module _ (cover : CoverEntries) where
  head : List ℕ
  head = flat_map ended (head_lines (certificate_of_cover cover))

  -- the text from the front
  parts : written_text (certificate_of_cover cover)
      ≡ ((head ++ member_lines cover_word (take cover.size cover.layer))
      ++ member_lines layer_word (drop cover.size cover.layer)) ++ ended (end_line ++ [])
  unfolding head
  parts =
      let marked = map (entry_of true) (take cover.size cover.layer) in
      let others = map (entry_of false) (drop cover.size cover.layer) in
      let listed : flat_map ended (map listed_line (marked ++ others))
      ≡ member_lines cover_word (take cover.size cover.layer) ++ member_lines layer_word (drop cover.size cover.layer) =
      ap (flat_map ended) (map-append listed_line marked others)
      ∙ flat_map-append ended (map listed_line marked) (map listed_line others)
      ∙ ap (λ (t : List ℕ). t ++ flat_map ended (map listed_line others))
      (listed-members true (take cover.size cover.layer))
      ∙ ap (λ (t : List ℕ). member_lines cover_word (take cover.size cover.layer) ++ t)
      (listed-members false (drop cover.size cover.layer)) in
      let tail : flat_map ended (map listed_line (marked ++ others) ++ end_line ∷ [])
      ≡ (member_lines cover_word (take cover.size cover.layer) ++ member_lines layer_word (drop cover.size cover.layer))
      ++ ended (end_line ++ []) =
      flat_map-append ended (map listed_line (marked ++ others)) (end_line ∷ [])
      ∙ ap (λ (t : List ℕ). t ++ ended (end_line ++ [])) listed in
      flat_map-append ended (head_lines (certificate_of_cover cover))
      (map listed_line (marked ++ others) ++ end_line ∷ [])
      ∙ ap (λ (t : List ℕ). head ++ t) tail
      ∙ sym (append_assoc head (member_lines cover_word (take cover.size cover.layer)
      ++ member_lines layer_word (drop cover.size cover.layer)) (ended (end_line ++ [])))
      ∙ ap (λ (t : List ℕ). t ++ ended (end_line ++ []))
      (sym (append_assoc head (member_lines cover_word (take cover.size cover.layer))
      (member_lines layer_word (drop cover.size cover.layer))))

  whole-length : length (written_text (certificate_of_cover cover))
      ≡ length head + sum_by (λ m. length m.text + 7) cover.layer + 4
  whole-length =
      let of_cover = member_lines cover_word (take cover.size cover.layer) in
      let others = member_lines layer_word (drop cover.size cover.layer) in
      let whole = ap length parts in
      let one = length-append ((head ++ of_cover) ++ others) (ended (end_line ++ [])) in
      let two = length-append (head ++ of_cover) others in
      let three = length-append head of_cover in
      let first = length-members cover_word (take cover.size cover.layer) refl in
      let second = length-members layer_word (drop cover.size cover.layer) refl in
      let sums = ap (sum_by (λ (m : MemberEntry). length m.text + 7)) (sym (take-append-drop cover.size cover.layer))
      ∙ sum_by-append (λ m. length m.text + 7) (take cover.size cover.layer) (drop cover.size cover.layer) in
      omega arith

  -- by the length that is computed
  module _ (front : List ℕ) (size : ℕ) (is : front ≡ flat_map ended (head_lines (certificate_of_cover cover)))
      (size_is : size ≡ length front) where
    same-length : size + sum_by (λ m. length m.text + 7) cover.layer + 4
        ≡ length (written_text (certificate_of_cover cover))
    unfolding head
    same-length =
        let here : size ≡ length head = size_is ∙ ap length is in
        ap (λ (n : ℕ). n + sum_by (λ m. length m.text + 7) cover.layer + 4) here ∙ sym whole-length

    pub too-long : nat_lt max_length (size + sum_by (λ m. length m.text + 7) cover.layer + 4) ≡ true
        → cover_certificate cover ≡ Err TooLong
    too-long long =
        let past : nat_lt max_length (length (written_text (certificate_of_cover cover))) ≡ true =
        ap (nat_lt max_length) (sym same-length) ∙ long in
        rw past refl

    pub written : (text : List ℕ)
        → text ≡ ((front ++ member_lines cover_word (take cover.size cover.layer))
        ++ member_lines layer_word (drop cover.size cover.layer)) ++ ended (end_line ++ [])
        → text ≡ written_text (certificate_of_cover cover)
    unfolding head
    written text spelled =
        spelled
        ∙ ap (λ (f : List ℕ). ((f ++ member_lines cover_word (take cover.size cover.layer))
        ++ member_lines layer_word (drop cover.size cover.layer)) ++ ended (end_line ++ [])) is
        ∙ sym parts

    pub fits : (text : List ℕ) → text ≡ written_text (certificate_of_cover cover)
        → nat_lt max_length (size + sum_by (λ m. length m.text + 7) cover.layer + 4) ≡ false
        → cover_certificate cover ≡ Ok text
    fits text spelled short =
        let within : nat_lt max_length (length (written_text (certificate_of_cover cover))) ≡ false =
        ap (nat_lt max_length) (sym same-length) ∙ short in
        rw within (ap (λ (t : List ℕ). Ok t) (sym spelled))

  -- it is read again
  texts : (marked : Bool) (members : List MemberEntry)
      → AllByRecursion (λ m. IsTrue (is_plain_text m.text)) members
      → AllByRecursion (λ (l : CertLineEntry). IsTrue (is_plain_text l.text)) (map (entry_of marked) members)
  texts marked [] plain = tt
  texts marked (m ∷ members) plain = (plain.0, texts marked members plain.1)

  all-append : {X : Type 0} (P : X → Type 0) (xs ys : List X) → AllByRecursion P xs → AllByRecursion P ys
      → AllByRecursion P (xs ++ ys)
  all-append P [] ys h k = k
  all-append P (x ∷ xs) ys h k = (h.0, all-append P xs ys h.1 k)

  all-take : {X : Type 0} (P : X → Type 0) (n : ℕ) (xs : List X) → AllByRecursion P xs → AllByRecursion P (take n xs)
  all-take P zero xs h = tt
  all-take P (suc n) [] h = tt
  all-take P (suc n) (x ∷ xs) h = (h.0, all-take P n xs h.1)

  all-drop : {X : Type 0} (P : X → Type 0) (n : ℕ) (xs : List X) → AllByRecursion P xs → AllByRecursion P (drop n xs)
  all-drop P zero xs h = h
  all-drop P (suc n) [] h = tt
  all-drop P (suc n) (x ∷ xs) h = all-drop P n xs h.1

  pub read-again : (text : List ℕ) → text ≡ written_text (certificate_of_cover cover) → IsFormula cover.formula
      → (table : TableEntries) → HasItems table cover.formula → IsReadable cover
      → certificate_of table text ≡ Ok (certificate_of_cover cover)
  read-again text spelled formula table known readable =
      let plain = recursion_from_All (λ (m : MemberEntry). IsTrue (is_plain_text m.text)) cover.layer readable.texts in
      let writable : IsWritable (certificate_of_cover cover) = record {
        formula = formula;
        coverage = readable.coverage;
        size = readable.size;
        bound = readable.bound;
        threshold = readable.threshold;
        texts = All-from_recursion (λ (l : CertLineEntry). IsTrue (is_plain_text l.text))
            (certificate_of_cover cover).lines
            (all-append (λ (l : CertLineEntry). IsTrue (is_plain_text l.text))
            (map (entry_of true) (take cover.size cover.layer))
            (map (entry_of false) (drop cover.size cover.layer))
            (texts true (take cover.size cover.layer)
            (all-take (λ (m : MemberEntry). IsTrue (is_plain_text m.text)) cover.size cover.layer plain))
            (texts false (drop cover.size cover.layer)
            (all-drop (λ (m : MemberEntry). IsTrue (is_plain_text m.text)) cover.size cover.layer plain)));
      } in
      ap (certificate_of table) spelled ∙ read-written table (certificate_of_cover cover) writable known
