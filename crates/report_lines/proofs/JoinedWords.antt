-- Words joined by a space, one more at a time, and what is left of a text where one finds no room.
use Rattle.std.proofs.Common.{◌≡◌, ℕ, ◌+◌, ◌<◌, zero, suc, List, [], ◌∷◌, ◌++◌, length, take, drop, map, get_or}
use Rattle.std.proofs.Common.{refl, sym, ap, ◌∙◌, arith}
use Rattle.std.proofs.lemmas.List.{append_assoc, append-nil, take_more, map-append, take-append-drop}
use Rattle.std.proofs.lemmas.Grind.{flat_map-append}
use Rattle.std.proofs.Math.Seq.{take-append_seam}
use Rattle.std.specs.Prelude.{Result, Ok, Err, OnOk, OnErr, is_ok, if◌then◌else◌}
use Rattle.std.specs.List.{join_with_byte, flat_map}
use Rattle.report_lines.specs.Words.{space_before}

-- one more word behind others
join-more : (c : ℕ) (x : List ℕ) (xs : List (List ℕ)) (y : List ℕ)
    → join_with_byte c (x ∷ (xs ++ y ∷ [])) ≡ join_with_byte c (x ∷ xs) ++ c ∷ y
join-more c x [] y = refl
join-more c x (z ∷ zs) y =
    ap (λ t. x ++ c ∷ t) (join-more c z zs y) ∙ sym (append_assoc x (c ∷ join_with_byte c (z ∷ zs)) (c ∷ y))

-- the word of the next place
join-next : {W : Type 0} (text_of : W → List ℕ) (words : List W) (place : ℕ) (word : W) → place < length words
    → word ≡ get_or words place word
    → join_with_byte 32 (map text_of (take (place + 1) words)) ≡ join_with_byte 32 (map text_of (take place words))
    ++ (space_before place ++ text_of word)
join-next text_of [] place word within is = absurd (omega arith)
join-next text_of (x ∷ xs) zero word within is = ap text_of (sym is)
join-next text_of (x ∷ xs) (suc i) word within is =
    let next : suc i + 1 ≡ suc (i + 1) = omega arith in
    let more : take (i + 1) xs ≡ take i xs ++ word ∷ [] = take_more xs i word (omega arith)
    ∙ ap (λ w. take i xs ++ w ∷ []) (sym is) in
    rw (next, more, map-append text_of (take i xs) (word ∷ []))
    (join-more 32 (text_of x) (map text_of (take i xs)) (text_of word))

-- a report with the words so far, and the next one
pub word_more : {W : Type 0} (text_of : W → List ℕ) (words : List W) (place : ℕ) (word : W)
    (start before after : List ℕ) → place < length words → word ≡ get_or words place word
    → before ≡ start ++ join_with_byte 32 (map text_of (take place words))
    → after ≡ before ++ (space_before place ++ text_of word)
    → after ≡ start ++ join_with_byte 32 (map text_of (take (place + 1) words))
word_more text_of words place word start before after within is so_far now =
    now ∙ ap (λ t. t ++ (space_before place ++ text_of word)) so_far
    ∙ append_assoc start (join_with_byte 32 (map text_of (take place words))) (space_before place ++ text_of word)
    ∙ ap (λ t. start ++ t) (sym (join-next text_of words place word within is))

-- what stands in front of a text is kept where more is appended
pub front_kept : (text more after : List ℕ) → after ≡ text ++ more → take (length text) after ≡ text
front_kept text more after is = rw is (take-append_seam text more)

-- and where a longer front is kept
pub front_of_front : (text more before after : List ℕ) → before ≡ text ++ more → take (length before) after ≡ before
    → take (length text) after ≡ text
front_of_front text more before after is kept =
    let parts : before ++ drop (length before) after ≡ after = ap (λ t. t ++ drop (length before) after) (sym kept)
    ∙ take-append-drop (length before) after in
    front_kept text (more ++ drop (length before) after) after
    (sym parts ∙ ap (λ t. t ++ drop (length before) after) is ∙ append_assoc text more (drop (length before) after))

-- a text that was appended where there was room, by another name
pub appended : {A E : Type 0} (answer : Result A E) (before other text after : List ℕ)
    → after ≡ (if is_ok answer then before ++ other else before) → other ≡ text → OnOk answer (after ≡ before ++ text)
appended (Ok x) before other text after is same = is ∙ ap (λ t. before ++ t) same
appended (Err e) before other text after is same = tt

-- the same where there was no room, of a call after others
pub kept_from : {A E : Type 0} (answer : Result A E) (text more before after : List ℕ) → before ≡ text ++ more
    → OnErr answer (take (length before) after ≡ before) → OnErr answer (take (length text) after ≡ text)
kept_from (Ok x) text more before after is kept = tt
kept_from (Err e) text more before after is kept = front_of_front text more before after is kept

-- the line of one more entry behind those of others
pub line_more : {Y : Type 0} (line_of : Y → List ℕ) (start before after : List ℕ) (ys : List Y) (place : ℕ) (y : Y)
    → place < length ys → y ≡ get_or ys place y
    → before ≡ start ++ flat_map line_of (take place ys) → after ≡ before ++ line_of y
    → after ≡ start ++ flat_map line_of (take (place + 1) ys)
line_more line_of start before after ys place y within is so_far now =
    let more : take (place + 1) ys ≡ take place ys ++ y ∷ [] = take_more ys place y within
    ∙ ap (λ l. take place ys ++ l ∷ []) (sym is) in
    let one : flat_map line_of (y ∷ []) ≡ line_of y = append-nil (line_of y) in
    now ∙ ap (λ t. t ++ line_of y) so_far ∙ append_assoc start (flat_map line_of (take place ys)) (line_of y)
    ∙ rw (more, flat_map-append line_of (take place ys) (y ∷ []), one) refl

-- what is left where more was appended
pub kept_more : (text more before after : List ℕ) → take (length text) before ≡ text → after ≡ before ++ more
    → take (length text) after ≡ text
kept_more text more before after kept is =
    let rest = drop (length text) before in
    let parts : before ≡ text ++ rest = sym (take-append-drop (length text) before) ∙ ap (λ t. t ++ rest) kept in
    front_kept text (rest ++ more) after (is ∙ ap (λ t. t ++ more) parts ∙ append_assoc text rest more)

-- a text appended behind a front
pub appended_behind : {A E : Type 0} (answer : Result A E) (front before other after : List ℕ) → before ≡ front
    → after ≡ (if is_ok answer then before ++ other else before) → OnOk answer (after ≡ front ++ other)
appended_behind (Ok x) front before other after so_far is = is ∙ ap (λ t. t ++ other) so_far
appended_behind (Err e) front before other after so_far is = tt
