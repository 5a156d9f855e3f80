-- What a file that is stored in the place of another, or behind all, does to every name.
use Rattle.std.proofs.Common.{◌≡◌, ◌≢◌, ℕ, zero, suc, ◌<◌, ◌≤◌, Bool, nat_lt, None, subst, true, false, List, [], ◌∷◌}
use Rattle.std.proofs.Common.{◌++◌, map, length, get_or, set, Some, cond, refl, ap, sym, arith, string_bytes}
use Rattle.std.proofs.lemmas.Slice.Eq.{bytes_eq-Decides}
use Rattle.std.proofs.lemmas.List.Sums.{fails_before_first, passes_at_first}
use Rattle.std.specs.List.{position, position_or_len}
use Rattle.std.specs.Str.{bytes_eq}
use borrow.Author.Tests.{ltb-true, ltb-false}
use Rattle.outside_ports.specs.MemoryFiles.{Stores, file_bytes}
use Rattle.outside_ports.specs.MemoryFiles.Entry.{entry_of}
use Rattle.outside_ports.specs.declared.memory_shelf.StoredFile.{StoredFile}

-- whether the file has that name
abbrev pub is_named : List ℕ → StoredFile → Bool
is_named name file = bytes_eq (string_bytes file.name) name

-- a file of one name has no other name
other_name : (file : StoredFile) (name other : List ℕ)
    → is_named name file ≡ true → other ≢ name → is_named other file ≡ false
other_name file name other same differs =
    grind (
      arith,
      (bytes_eq-Decides (string_bytes file.name) name).0 same,
      (bytes_eq-Decides (string_bytes file.name) other).0,
    )

-- in the place of a file of its name, a stored file is the one of its name
set_stored : (files : List StoredFile) (i : ℕ) (file d : StoredFile) (name : List ℕ)
    → ((k : ℕ) → k < i → is_named name (get_or files k d) ≡ false) → i < length files → is_named name file ≡ true
    → file_bytes (map entry_of (set files i file)) name ≡ Some file.bytes.items
set_stored [] i file d name before within same = absurd (omega arith)
set_stored (x ∷ xs) zero file d name before within same = rw same refl
set_stored (x ∷ xs) (suc i) file d name before within same =
    rw (before 0 (omega arith)) (set_stored xs i file d name (λ k h. before (suc k) (omega arith)) (omega arith) same)

-- the first file of a name is the one of that name
named_at : (files : List StoredFile) (i : ℕ) (d : StoredFile) (name : List ℕ)
    → ((k : ℕ) → k < i → is_named name (get_or files k d) ≡ false)
    → i < length files → is_named name (get_or files i d) ≡ true
    → file_bytes (map entry_of files) name ≡ Some (get_or files i d).bytes.items
named_at [] i d name before within same = absurd (omega arith)
named_at (x ∷ xs) zero d name before within same = rw same refl
named_at (x ∷ xs) (suc i) d name before within same =
    rw (before 0 (omega arith)) (named_at xs i d name (λ k h. before (suc k) (omega arith)) (omega arith) same)

-- where no file has a name, there is none of it
unnamed : (files : List StoredFile) (d : StoredFile) (name : List ℕ)
    → ((k : ℕ) → k < length files → is_named name (get_or files k d) ≡ false)
    → file_bytes (map entry_of files) name ≡ None
unnamed [] d name before = refl
unnamed (x ∷ xs) d name before = rw (before 0 (omega arith)) (unnamed xs d name (λ k h. before (suc k) (omega arith)))

-- in the place of a file of its name, a stored file changes no other name
set_others : (files : List StoredFile) (i : ℕ) (file d : StoredFile) (name other : List ℕ)
    → is_named name (get_or files i d) ≡ true → i < length files → is_named name file ≡ true → other ≢ name
    → file_bytes (map entry_of (set files i file)) other ≡ file_bytes (map entry_of files) other
set_others [] i file d name other was within same differs = absurd (omega arith)
set_others (x ∷ xs) zero file d name other was within same differs =
    rw (other_name file name other same differs, other_name x name other was differs) refl
set_others (x ∷ xs) (suc i) file d name other was within same differs =
    ap (λ rest. cond (is_named other x) (Some x.bytes.items) rest)
    (set_others xs i file d name other was (omega arith) same differs)

-- behind files that don't have its name, a stored file is the one of its name
push_stored : (files : List StoredFile) (file d : StoredFile) (name : List ℕ)
    → ((k : ℕ) → k < length files → is_named name (get_or files k d) ≡ false) → is_named name file ≡ true
    → file_bytes (map entry_of (files ++ file ∷ [])) name ≡ Some file.bytes.items
push_stored [] file d name before same = rw same refl
push_stored (x ∷ xs) file d name before same =
    rw (before 0 (omega arith)) (push_stored xs file d name (λ k h. before (suc k) (omega arith)) same)

-- behind all files, a stored file changes no other name
push_others : (files : List StoredFile) (file : StoredFile) (name other : List ℕ)
    → is_named name file ≡ true → other ≢ name
    → file_bytes (map entry_of (files ++ file ∷ [])) other ≡ file_bytes (map entry_of files) other
push_others [] file name other same differs = rw (other_name file name other same differs) refl
push_others (x ∷ xs) file name other same differs =
    ap (λ rest. cond (is_named other x) (Some x.bytes.items) rest) (push_others xs file name other same differs)

-- what a choice that gave Some says
choice_is : (b : Bool) (i place : ℕ) → cond b (Some i) None ≡ Some place → (b ≡ true) × (i ≡ place)
choice_is true i place found = (refl, cc)
choice_is false i place found = cc

-- a choice that gave None
choice_is_none : (b : Bool) (i : ℕ) → cond b (Some i) None ≡ None → b ≡ false
choice_is_none true i none = cc
choice_is_none false i none = refl

-- the bytes of the file that a search for its name found
pub found_file : (files : List StoredFile) (was : StoredFile) (name : List ℕ) (place : ℕ)
    → position (is_named name) files ≡ Some place → was ≡ get_or files place was
    → file_bytes (map entry_of files) name ≡ Some was.bytes.items
found_file files was name place found is_was =
    let first = position_or_len (is_named name) files in
    let at = choice_is (nat_lt first (length files)) first place found in
    let within : first < length files = ltb-true first (length files) at.0 in
    subst (λ file. file_bytes (map entry_of files) name ≡ Some file.bytes.items) (sym is_was)
    (subst (λ i. file_bytes (map entry_of files) name ≡ Some (get_or files i was).bytes.items) at.1
    (named_at files first was name (λ k h. fails_before_first (is_named name) files k was h)
    within (passes_at_first (is_named name) files was within)))

-- there is no file of a name that a search didn't find
pub no_file : (files : List StoredFile) (name : List ℕ)
    → position (is_named name) files ≡ None → file_bytes (map entry_of files) name ≡ None
no_file [] name none = refl
no_file (x ∷ xs) name none =
    let first = position_or_len (is_named name) (x ∷ xs) in
    let past : length (x ∷ xs) ≤ first =
    ltb-false first (length (x ∷ xs)) (choice_is_none (nat_lt first (length (x ∷ xs))) first none) in
    unnamed (x ∷ xs) x name (λ k h. fails_before_first (is_named name) (x ∷ xs) k x (omega arith))

-- a file stored in the place that a search for its name gave
pub replaces : (files : List StoredFile) (file was : StoredFile) (name : List ℕ) (place : ℕ)
    → position (is_named name) files ≡ Some place → was ≡ get_or files place was
    → string_bytes file.name ≡ string_bytes was.name
    → Stores (file_bytes (map entry_of files)) name file.bytes.items (file_bytes (map entry_of (set files place file)))
replaces files file was name place found is_was same_name =
    let first = position_or_len (is_named name) files in
    let at = choice_is (nat_lt first (length files)) first place found in
    let within : first < length files = ltb-true first (length files) at.0 in
    let passes : is_named name (get_or files place was) ≡ true =
    subst (λ i. is_named name (get_or files i was) ≡ true) at.1
    (passes_at_first (is_named name) files was within) in
    let same : is_named name file ≡ true = cc (ap (λ n. bytes_eq n name) same_name, ap (is_named name) is_was) in
    record {
      stored = set_stored files place file was name
          (λ k h. fails_before_first (is_named name) files k was (omega (arith, at.1))) (omega (arith, at.1)) same;
      others = λ other differs. set_others files place file was name other passes (omega (arith, at.1)) same differs;
    }

-- a file stored behind all, where a search for its name gave no place
pub adds : (files : List StoredFile) (file : StoredFile) (name : List ℕ)
    → position (is_named name) files ≡ None → string_bytes file.name ≡ name
    → Stores (file_bytes (map entry_of files)) name file.bytes.items (file_bytes (map entry_of (files ++ file ∷ [])))
adds files file name none same_name =
    let first = position_or_len (is_named name) files in
    let past : length files ≤ first =
    ltb-false first (length files) (choice_is_none (nat_lt first (length files)) first none) in
    let same : is_named name file ≡ true = (bytes_eq-Decides (string_bytes file.name) name).1 same_name in
    record {
      stored = push_stored files file file name
          (λ k h. fails_before_first (is_named name) files k file (omega arith)) same;
      others = λ other differs. push_others files file name other same differs;
    }
