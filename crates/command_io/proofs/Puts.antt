-- Texts that are put one after another.
use Rattle.std.proofs.Common.{◌≡◌, ℕ, ◌+◌, min, List, [], ◌++◌, length, take, refl, sym, ap, ◌∙◌, subst, arith}
use Rattle.std.specs.Prelude.{Option, Some, None, Ok, Err}
use Rattle.std.proofs.lemmas.List.{take_all, append-nil, append_assoc, take-append-le}
use Rattle.std.proofs.Math.Seq.{take-append-add}
use Rattle.std.proofs.lemmas.Grind.{common_steps}
use Rattle.std.specs.Io.KnownBytes.{append_known}
use Rattle.outside_ports.specs.Faults.{Rose}
use Rattle.command_io.specs.Parts.{Ending, Puts}
use Rattle.command_io.specs.declared.refusal.Refusal.{Refusal}
use Rattle.command_io.specs.declared.refusal.Refusal.TheVariants.{Words, Input, ReadFault, WriteFault, Memory}

-- one text behind another
append_known-append : (known : Option (List ℕ)) (first second : List ℕ) →
    append_known (append_known known first) second ≡ append_known known (first ++ second)
append_known-append None first second = refl
append_known-append (Some bytes) first second = ap Some (append_assoc bytes first second)

take_behind : (n : ℕ) (first second : List ℕ) → first ++ take n second ≡ take (length first + n) (first ++ second)
take_behind n first second = sym (take-append-add first second n)

take_before : (n : ℕ) (first second : List ℕ) → take (min n (length first)) (first ++ second) ≡ take n first
take_before n first second = grind (arith, take-append-le, take_all, common_steps)

-- some first bytes of the second text behind the first
taken_behind : (first second : List ℕ) (before middle after : Option (List ℕ)) →
    middle ≡ append_known before first → ((n : ℕ) × (after ≡ append_known middle (take n second))) →
    (n : ℕ) × (after ≡ append_known before (take n (first ++ second)))
taken_behind first second before middle after one some = (
  length first + some.0,
  some.1 ∙ ap (λ m. append_known m (take some.0 second)) one
      ∙ append_known-append before first (take some.0 second)
      ∙ ap (append_known before) (take_behind some.0 first second),
)

-- a text was put, and then another one, or some of it
pub puts_next : (first second : List ℕ) (before middle after : Option (List ℕ))
    (faults_before faults_middle faults_after : ℕ) (answered : Ending) →
    Puts first before middle faults_before faults_middle (Ok tt) →
    Puts second middle after faults_middle faults_after answered →
    Puts (first ++ second) before after faults_before faults_after answered
puts_next first second before middle after fb fm fa (Ok y) one two =
    (two.0 ∙ ap (λ m. append_known m second) one.0 ∙ append_known-append before first second, two.1 ∙ one.1)
puts_next first second before middle after fb fm fa (Err WriteFault) one two = (
  taken_behind first second before middle after one.0 two.0,
  subst (λ f. Rose f fa) one.1 two.1,
  omega (arith, one.1, two.2),
)
puts_next first second before middle after fb fm fa (Err Memory) one two =
    (taken_behind first second before middle after one.0 two.0, two.1 ∙ one.1)
puts_next first second before middle after fb fm fa (Err (Words fault)) one two = absurd two
puts_next first second before middle after fb fm fa (Err (Input fault)) one two = absurd two
puts_next first second before middle after fb fm fa (Err (ReadFault name)) one two = absurd two

taken_before : (first second : List ℕ) (before after : Option (List ℕ)) →
    ((n : ℕ) × (after ≡ append_known before (take n first))) →
    (n : ℕ) × (after ≡ append_known before (take n (first ++ second)))
taken_before first second before after some = (
  min some.0 (length first),
  some.1 ∙ ap (append_known before) (sym (take_before some.0 first second)),
)

-- a text was not put whole, and nothing behind it
pub puts_stop : (first second : List ℕ) (before after : Option (List ℕ)) (faults_before faults_after : ℕ)
    (refusal : Refusal) → Puts first before after faults_before faults_after (Err refusal) →
    Puts (first ++ second) before after faults_before faults_after (Err refusal)
puts_stop first second before after fb fa WriteFault one =
    (taken_before first second before after one.0, one.1, one.2)
puts_stop first second before after fb fa Memory one = (taken_before first second before after one.0, one.1)
puts_stop first second before after fb fa (Words fault) one = absurd one
puts_stop first second before after fb fa (Input fault) one = absurd one
puts_stop first second before after fb fa (ReadFault name) one = absurd one

append_known-nil : (known : Option (List ℕ)) → append_known known [] ≡ known
append_known-nil None = refl
append_known-nil (Some bytes) = ap Some (append-nil bytes)

-- memory ran out before anything was put
pub puts_none : (text : List ℕ) (before : Option (List ℕ)) (faults : ℕ) →
    Puts text before before faults faults (Err Memory)
puts_none text before faults = ((0, sym (append_known-nil before)), refl)

-- the empty text is put by putting nothing
pub puts_nil : (before : Option (List ℕ)) (faults : ℕ) → Puts [] before before faults faults (Ok tt)
puts_nil before faults = (sym (append_known-nil before), refl)
