-- The lines of a list that are put one after another.
use Rattle.std.proofs.Common.{◌≡◌, ℕ, List, [], ◌∷◌, ◌++◌, sym, ap, ◌∙◌, subst}
use Rattle.std.specs.Prelude.{Option, Ok, Err}
use Rattle.std.specs.List.{flat_map}
use Rattle.std.proofs.lemmas.List.{append_assoc, append-nil}
use Rattle.std.proofs.lemmas.Grind.{flat_map-append}
use Rattle.command_io.specs.Parts.{Puts}
use Rattle.command_io.specs.declared.refusal.Refusal.{Refusal}
use Rattle.command_io.specs.declared.refusal.Refusal.TheVariants.{Memory}
use Rattle.command_io.proofs.Puts.{puts_next, puts_none, puts_stop}

-- one more line
flat_more : {Y : Type 0} (line_of : Y → List ℕ) (done : List Y) (y : Y) →
    flat_map line_of done ++ line_of y ≡ flat_map line_of (done ++ y ∷ [])
flat_more line_of done y =
    ap (λ t. flat_map line_of done ++ t) (sym (append-nil (line_of y))) ∙ sym (flat_map-append line_of done (y ∷ []))

-- the lines done, one more, and the rest
flat_parts : {Y : Type 0} (line_of : Y → List ℕ) (done rest : List Y) (y : Y) →
    (flat_map line_of done ++ line_of y) ++ flat_map line_of rest ≡ flat_map line_of (done ++ y ∷ rest)
flat_parts line_of done rest y =
    append_assoc (flat_map line_of done) (line_of y) (flat_map line_of rest)
    ∙ sym (flat_map-append line_of done (y ∷ rest))

-- a line was put behind those done
pub line_put : {Y : Type 0} (line_of : Y → List ℕ) (done : List Y) (y : Y) (text : List ℕ)
    (before middle after : Option (List ℕ)) (faults_before faults_middle faults_after : ℕ) → text ≡ line_of y →
    Puts (flat_map line_of done) before middle faults_before faults_middle (Ok tt) →
    Puts text middle after faults_middle faults_after (Ok tt) →
    Puts (flat_map line_of (done ++ y ∷ [])) before after faults_before faults_after (Ok tt)
line_put line_of done y text before middle after fb fm fa is so_far put =
    subst (λ (t : List ℕ). Puts t before after fb fa (Ok tt))
    (ap (λ t. flat_map line_of done ++ t) is ∙ flat_more line_of done y)
    (puts_next (flat_map line_of done) text before middle after fb fm fa (Ok tt) so_far put)

-- a line behind those done was not put whole
pub line_not_put : {Y : Type 0} (line_of : Y → List ℕ) (done rest : List Y) (y : Y) (text : List ℕ)
    (before middle after : Option (List ℕ)) (faults_before faults_middle faults_after : ℕ) (refusal : Refusal) →
    text ≡ line_of y →
    Puts (flat_map line_of done) before middle faults_before faults_middle (Ok tt) →
    Puts text middle after faults_middle faults_after (Err refusal) →
    Puts (flat_map line_of (done ++ y ∷ rest)) before after faults_before faults_after (Err refusal)
line_not_put line_of done rest y text before middle after fb fm fa refusal is so_far put =
    subst (λ (t : List ℕ). Puts t before after fb fa (Err refusal))
    (ap (λ t. (flat_map line_of done ++ t) ++ flat_map line_of rest) is ∙ flat_parts line_of done rest y)
    (puts_stop (flat_map line_of done ++ text) (flat_map line_of rest) before after fb fa refusal
    (puts_next (flat_map line_of done) text before middle after fb fm fa (Err refusal) so_far put))

-- memory ran out behind the lines done
pub lines_memory : {Y : Type 0} (line_of : Y → List ℕ) (done rest all : List Y) (before middle : Option (List ℕ))
    (faults_before faults_middle : ℕ) → done ++ rest ≡ all →
    Puts (flat_map line_of done) before middle faults_before faults_middle (Ok tt) →
    Puts (flat_map line_of all) before middle faults_before faults_middle (Err Memory)
lines_memory line_of done rest all before middle fb fm parts so_far =
    subst (λ (t : List ℕ). Puts t before middle fb fm (Err Memory))
    (sym (flat_map-append line_of done rest) ∙ ap (flat_map line_of) parts)
    (puts_next (flat_map line_of done) (flat_map line_of rest) before middle middle fb fm fm (Err Memory) so_far
    (puts_none (flat_map line_of rest) middle fm))
